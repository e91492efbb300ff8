-- What a text is read as, by the laws of its reader.
use Rattle.std.proofs.Common.{◌≡◌, ℕ, Bool, List, [], ◌∷◌, ◌++◌, ◌⊎◌, inl, inr, sym, ap, subst, ◌∙◌, append_assoc, Result, Ok, Err, IfOk, IfErr}
use Rattle.text_tokens.specs.Lexeme.{Lexeme}
use Rattle.text_tokens.specs.declared.token.TextFault.{TextFault}
use Rattle.text_tokens.specs.declared.token.TextFault.TheVariants.{NotUtf8, Syntax, NoMemory}
use Rattle.text_grammar.specs.Grammar.{CanGoOn, RefusedAt}
use Rattle.text_grammar.specs.Reading.{Stop, Parser, whole, refuse}
use Rattle.text_grammar.specs.Laws.{IsReader, IsWhole}
use Rattle.text_grammar.specs.Texts.{line_at, ReadsText, RefusedOn, RefusesText, WholeRead, WholeStops, WholeRefused}
use Rattle.text_grammar.proofs.Lists.{overlaps, one_more}
use Rattle.text_grammar.proofs.Whole.{reads_whole}
use Rattle.text_tokens.proofs.Unique.{one_list}

-- ---- from a reader to its grammar

pub reads_text : {A : Type 0} {P : A → List Lexeme → Type 0} {stop : A → Lexeme → Bool} {p : Parser A}
    → IsReader P stop p → (source : List ℕ) (tree : A) → WholeRead p source tree → ReadsText P source tree
reads_text {P = P} {p = p} r source tree h =
    let w : IsWhole P (whole p) = reads_whole r in
    record { utf8 = h.utf8; lexemes = h.lexemes; tokens = h.tokens; spelled = w.right h.lexemes tree h.read }

abbrev refused_on : {A : Type 0} {P : A → List Lexeme → Type 0} {stop : A → Lexeme → Bool} {p : Parser A}
    → IsReader P stop p → (source : List ℕ) (line : ℕ) → WholeStops p source line → RefusedOn P source line
refused_on {P = P} {p = p} r source line h =
    let w : IsWhole P (whole p) = reads_whole r in
    record {
      utf8 = h.utf8;
      lexemes = h.lexemes;
      tokens = h.tokens;
      left = h.left;
      place = w.refused h.lexemes (refuse h.left) h.read;
      on_line = h.on_line;
    }

pub refuses_text : {A : Type 0} {P : A → List Lexeme → Type 0} {stop : A → Lexeme → Bool} {p : Parser A}
    → IsReader P stop p → (source : List ℕ) (e : TextFault) → WholeRefused p source e → RefusesText P source e
refuses_text r source (NotUtf8 line) h = h
refuses_text r source (Syntax line) h = refused_on r source line h
refuses_text r source NoMemory h = h

-- ---- the clauses of a call that reads a text

pub read_by : {A : Type 0} {P : A → List Lexeme → Type 0} {stop : A → Lexeme → Bool} {p : Parser A}
    → IsReader P stop p → (source : List ℕ) (result : Result A TextFault) → IfOk result
    (λ tree. WholeRead p source tree) → IfOk result (λ tree. ReadsText P source tree)
read_by r source (Ok tree) h = reads_text r source tree h
read_by r source (Err e) h = h

pub refused_by : {A : Type 0} {P : A → List Lexeme → Type 0} {stop : A → Lexeme → Bool} {p : Parser A}
    → IsReader P stop p → (source : List ℕ) (result : Result A TextFault)
    → IfErr result (λ e. (e ≡ NoMemory) ⊎ WholeRefused p source e) → IfErr result (λ e. (e ≡ NoMemory) ⊎ RefusesText P source e)
refused_by r source (Ok tree) h = h
refused_by r source (Err e) (inl h) = inl h
refused_by r source (Err e) (inr h) = inr (refuses_text r source e h)

-- ---- one tree, or a refusal

tree_or : {A : Type 0} → A → Result A Stop → A
tree_or a (Ok x) = x
tree_or a (Err s) = a

-- a list of tokens spells one tree
pub one_tree_of_tokens : {A : Type 0} {P : A → List Lexeme → Type 0} {stop : A → Lexeme → Bool} {p : Parser A}
    → IsReader P stop p → (tokens : List Lexeme) (a b : A) → P a tokens → P b tokens → a ≡ b
one_tree_of_tokens {A} {P} {p = p} r tokens a b h k =
    let w : IsWhole P (whole p) = reads_whole r in
    let same : ◌≡◌ {A = Result A Stop} (Ok a) (Ok b) = sym (w.all tokens a h) ∙ w.all tokens b k in
    same_ok a b same
  where
    same_ok : (a b : A) → ◌≡◌ {A = Result A Stop} (Ok a) (Ok b) → a ≡ b
    same_ok a b e = cc

-- a text is read as one tree
pub one_tree : {A : Type 0} {P : A → List Lexeme → Type 0} {stop : A → Lexeme → Bool} {p : Parser A}
    → IsReader P stop p → (source : List ℕ) (a b : A) → ReadsText P source a → ReadsText P source b → a ≡ b
one_tree {P = P} r source a b h k =
    let same : h.lexemes ≡ k.lexemes = one_list source h.lexemes k.lexemes h.tokens k.tokens in
    one_tree_of_tokens r k.lexemes a b (subst (P a) same h.spelled) k.spelled

-- a text that is refused is read as none
pub none_refused : {A : Type 0} (P : A → List Lexeme → Type 0)
    → (source : List ℕ) (tree : A) (e : TextFault) → ReadsText P source tree → RefusesText P source e → ⊥
none_refused P source tree (NotUtf8 line) h k = k.0 h.utf8
none_refused P source tree (Syntax line) h k =
    let same : h.lexemes ≡ k.lexemes = one_list source h.lexemes k.lexemes h.tokens k.tokens in
    k.place.none tree (subst (P tree) same h.spelled)
none_refused P source tree NoMemory h k = k

-- ---- one refusal

shorter_front : {A : Type 0} (P : A → List Lexeme → Type 0) (front : List Lexeme) (t : Lexeme) (mid : List Lexeme)
    → CanGoOn P (front ++ t ∷ mid) → CanGoOn P (front ++ t ∷ [])
shorter_front P front t mid g = record {
  more = mid ++ g.more;
  tree = g.tree;
  spelled = subst (P g.tree) (ap (λ (l : List Lexeme). l ++ g.more) (one_more front t mid) ∙ append_assoc
      (front ++ t ∷ []) mid g.more) g.spelled;
}

not_later : {A : Type 0} (P : A → List Lexeme → Type 0) (tokens left left' : List Lexeme)
    (h : RefusedAt P tokens left) (k : RefusedAt P tokens left')
    (mid : List Lexeme) → k.front ≡ h.front ++ mid → left ≡ mid ++ left' → left ≡ left'
not_later P tokens left left' h k [] e f = f
not_later P tokens left left' h k (t ∷ mid) e f =
    absurd (h.here t (mid ++ left') f (shorter_front P h.front t mid (subst (CanGoOn P) e k.before)))

pub one_place : {A : Type 0} (P : A → List Lexeme → Type 0) (tokens left left' : List Lexeme) → RefusedAt P tokens
    left → RefusedAt P tokens left' → left ≡ left'
one_place P tokens left left' h k = elim (overlaps h.front left k.front left' (sym h.split ∙ k.split)) [
  | inl o ↦ sym (not_later P tokens left' left k h o.mid o.longer o.shorter)
  | inr o ↦ not_later P tokens left left' h k o.mid o.longer o.shorter
]

-- two refusals of a text are on one line
same_line : {A : Type 0} (P : A → List Lexeme → Type 0) (source : List ℕ) (line line' : ℕ) → RefusedOn P source line
    → RefusedOn P source line' → line ≡ line'
same_line P source line line' h k =
    let lexemes : h.lexemes ≡ k.lexemes = one_list source h.lexemes k.lexemes h.tokens k.tokens in
    let left : h.left ≡ k.left = one_place P k.lexemes h.left k.left
    (subst (λ (l : List Lexeme). RefusedAt P l h.left) lexemes h.place) k.place in
    h.on_line ∙ ap (line_at source) left ∙ sym k.on_line

-- a text is refused with one fault
pub one_refusal : {A : Type 0} (P : A → List Lexeme → Type 0) (source : List ℕ) (e f : TextFault)
    → RefusesText P source e → RefusesText P source f → e ≡ f
one_refusal P source (NotUtf8 line) (NotUtf8 line') h k = ap (λ (n : ℕ). NotUtf8 n) (h.1 ∙ sym k.1)
one_refusal P source (NotUtf8 line) (Syntax line') h k = absurd (h.0 k.utf8)
one_refusal P source (NotUtf8 line) NoMemory h k = absurd k
one_refusal P source (Syntax line) (NotUtf8 line') h k = absurd (k.0 h.utf8)
one_refusal P source (Syntax line) (Syntax line') h k = ap (λ (n : ℕ). Syntax n) (same_line P source line line' h k)
one_refusal P source (Syntax line) NoMemory h k = absurd k
one_refusal P source NoMemory f h k = absurd h
