-- What the tokens of a text hold.
use Rattle.std.proofs.Common.{◌≡◌, ◌⊎◌, ℕ, ◌+◌, ◌<◌, ◌≤◌, ◌==◌, Bool, true, false, cond, List, [], ◌∷◌, ◌++◌, suc, zero, length, get_or, Option, Some, None, IsUtf8, refl, sym, ap, ◌∙◌, subst, add-one, inl, inr, arith, append_assoc, length-append}
use Rattle.std.specs.Prelude.{◌&&◌, if◌then◌else◌, take_while, option_map, IsCharBoundary}
use Rattle.std.specs.Str.{IsAscii}
use Rattle.std.specs.List.{All}
use Rattle.std.proofs.lemmas.Bool.{and_parts, eqb-true}
use Rattle.std.proofs.lemmas.List.{drop_at, get_or_at}
use Rattle.std.proofs.lemmas.List.Elements.{All-nil, All-cons}
use Rattle.std.proofs.lemmas.List.Sums.{take_while-cons}
use Rattle.std.proofs.lemmas.Str.{IsUtf8-take, IsUtf8-drop, IsUtf8-from_ascii, IsCharBoundary-before_ascii, IsCharBoundary-after_ascii}
use Rattle.text_tokens.specs.Lexeme.{Lexeme}
use Rattle.text_tokens.specs.Tokens.{AreTokens, HoldsText, TokensOf, begins_with, is_before_equals, is_symbol_byte, is_word_byte, mark_of, string_len_after, string_token, token_at, unmarked}
use Rattle.text_tokens.specs.declared.token.TokenKind.{TokenKind}
use Rattle.text_tokens.specs.declared.token.TokenKind.TheVariants.{Word, Negative, Symbol, Fault}

-- what `HoldsText` says, of a kind and bytes
Holds : TokenKind × List ℕ → Type 0
Holds p = (0 < length p.1) × ((p.0 ≡ Fault) ⊎ IsUtf8 p.1)

-- bytes below 128
ascii_cons : (c : ℕ) (xs : List ℕ) → c < 128 → IsAscii xs → IsAscii (c ∷ xs)
ascii_cons c xs h low zero = h
ascii_cons c xs h low (suc i) = low i

is_low : (c d : ℕ) → d < 128 → (c == d) ≡ true → c < 128
is_low c d h e = let f : c ≡ d = eqb-true c d e in omega arith

before_low : (c : ℕ) → is_before_equals c ≡ true → c < 128
before_low c e = grind arith

symbol_low : (c : ℕ) → is_symbol_byte c ≡ true → c < 128
symbol_low c e = grind arith

word_low : (c : ℕ) → is_word_byte c ≡ true → c < 128
word_low c e = grind arith

none_low : IsAscii []
none_low i = omega arith

ascii_if : (x : ℕ) (ys : List ℕ) (b : Bool) → is_word_byte x ≡ b → IsAscii ys → IsAscii (cond b (x ∷ ys) [])
ascii_if x ys true e low = ascii_cons x ys (word_low x e) low
ascii_if x ys false e low = none_low

ascii_word : (xs : List ℕ) → IsAscii (take_while is_word_byte xs)
ascii_word [] = none_low
ascii_word (x ∷ xs) =
    let P : List ℕ → Type 0 = λ ys. IsAscii ys in
    subst P (sym (take_while-cons is_word_byte x xs)) (ascii_if x (take_while is_word_byte xs) (is_word_byte x) refl
    (ascii_word xs))

-- a token of such bytes
low_holds : (k : TokenKind) (c : ℕ) (xs : List ℕ) → c < 128 → IsAscii xs → Holds (k, c ∷ xs)
unfolding Holds
low_holds k c xs h low = (omega arith, inr (IsUtf8-from_ascii (c ∷ xs) (ascii_cons c xs h low)))

fault_holds : (c : ℕ) (xs : List ℕ) → Holds (Fault, c ∷ xs)
unfolding Holds
fault_holds c xs = (omega arith, inl refl)

-- where a string ends stands a quote
abbrev Closed : Bool → List ℕ → ℕ → Type 0
Closed q cs n = (n ≤ length cs) × (get_or (34 ∷ cs) n 0 ≡ 34) × (q ≡ false → 0 < n)

mapped : (o : Option ℕ) (n : ℕ) → option_map (λ n. n + 1) o ≡ Some n → (m : ℕ) × (o ≡ Some m) × (n ≡ suc m)
mapped None n e = absurd (cc)
mapped (Some m) n e = let f : m + 1 ≡ n = cc in (m, refl, omega arith)

past_quote : (q : Bool) (c : ℕ) (cs : List ℕ) (m : ℕ) → c ≡ 34 → get_or (34 ∷ cs) m 0 ≡ 34 → m ≤ length cs
    → Closed q (c ∷ cs) (suc m)
past_quote q c cs m e h short = let P : ℕ → Type 0 = λ x. get_or (x ∷ cs) m 0 ≡ 34 in
    (omega arith, subst P (sym e) h, λ _. omega arith)

past_other : (c : ℕ) (cs : List ℕ) (m : ℕ) → Closed false cs m → Closed false (c ∷ cs) (suc m)
past_other c cs zero h = let no : 0 < 0 = h.2 refl in absurd (omega arith)
past_other c cs (suc m) h = (omega (arith, h.0), h.1, λ _. omega arith)

past_byte : (c : ℕ) (cs : List ℕ) (m : ℕ) (b : Bool) → (c == 34) ≡ b → Closed b cs m → Closed false (c ∷ cs) (suc m)
past_byte c cs m true e h = past_quote false c cs m (eqb-true c 34 e) h.1 h.0
past_byte c cs m false e h = past_other c cs m h

closed_here : (cs : List ℕ) (n : ℕ) → n ≡ 0 → Closed true cs n
closed_here cs n z = let P : ℕ → Type 0 = λ x. Closed true cs x in
    subst P (sym z) (omega arith, refl, λ no. absurd (cc))

closes_if : (c : ℕ) (cs : List ℕ) (n : ℕ) (b : Bool) → (c == 34) ≡ b
    → (if b then option_map (λ n. n + 1) (string_len_after false cs) else Some 0) ≡ Some n
    → ((m : ℕ) → string_len_after false cs ≡ Some m → Closed false cs m) → Closed true (c ∷ cs) n
closes_if c cs n true t e later =
    let m = mapped (string_len_after false cs) n e in
    let P : ℕ → Type 0 = λ x. Closed true (c ∷ cs) x in
    let h = later m.0 m.1 in
    subst P (sym m.2) (past_quote true c cs m.0 (eqb-true c 34 t) h.1 h.0)
closes_if c cs n false t e later = let z : n ≡ 0 = cc in closed_here (c ∷ cs) n z

closes : (q : Bool) (cs : List ℕ) (n : ℕ) → string_len_after q cs ≡ Some n → Closed q cs n
closes false [] n e = absurd (cc)
closes true [] n e = let z : n ≡ 0 = cc in closed_here [] n z
closes false (c ∷ cs) n e =
    let m = mapped (string_len_after (c == 34) cs) n e in
    let P : ℕ → Type 0 = λ x. Closed false (c ∷ cs) x in
    subst P (sym m.2) (past_byte c cs m.0 (c == 34) refl (closes (c == 34) cs m.0 m.1))
closes true (c ∷ cs) n e = closes_if c cs n (c == 34) refl e (λ m e. closes false cs m e)

string_holds : (cs : List ℕ) (o : Option ℕ) → string_len_after false cs ≡ o → IsUtf8 (34 ∷ cs) → Holds (string_token cs o)
unfolding Holds
string_holds cs None e u = fault_holds 34 cs
string_holds cs (Some n) e u =
    let end = closes false cs n e in
    let low : get_or (34 ∷ cs) n 0 < 128 = omega (arith, end.1) in
    let inside : n < length (34 ∷ cs) = omega (arith, end.0) in
    let P : ℕ → Type 0 = λ k. IsCharBoundary (34 ∷ cs) k in
    let cut : IsCharBoundary (34 ∷ cs) (suc n) = subst P (add-one n) (IsCharBoundary-after_ascii (34 ∷ cs) n u inside low) in
    (omega arith, inr (IsUtf8-take (34 ∷ cs) (suc n) u cut))

quote_holds : (c : ℕ) (cs : List ℕ) → c ≡ 34 → (c < 128 → IsUtf8 (c ∷ cs)) → Holds (string_token cs (string_len_after false cs))
quote_holds c cs e u =
    let P : ℕ → Type 0 = λ x. IsUtf8 (x ∷ cs) in
    string_holds cs (string_len_after false cs) refl (subst P e (u (omega arith)))

-- the token at the front
chosen : (b : Bool) (x y : TokenKind × List ℕ) → (b ≡ true → Holds x) → (b ≡ false → Holds y) → Holds (cond b x y)
chosen true x y f g = f refl
chosen false x y f g = g refl

token_holds : (c : ℕ) (cs : List ℕ) → (c < 128 → IsUtf8 (c ∷ cs)) → Holds (token_at c cs)
token_holds c cs u =
    chosen (is_word_byte c) _ _ (λ e. low_holds Word c (take_while is_word_byte cs) (word_low c e) (ascii_word cs)) (λ e1.
    chosen ((c == 45) && begins_with is_word_byte cs) _ _ (λ e. low_holds Negative c (take_while is_word_byte cs)
    (is_low c 45 (omega arith) (and_parts _ _ e).0) (ascii_word cs)) (λ e2.
    chosen (c == 34) _ _ (λ e. quote_holds c cs (eqb-true c 34 e) u) (λ e3.
    chosen (is_before_equals c && begins_with (λ x. x == 61) cs) _ _
    (λ e. low_holds Symbol c (61 ∷ []) (before_low c (and_parts _ _ e).0) (ascii_cons 61 [] (omega arith) none_low)) (λ e4.
    chosen (is_symbol_byte c) _ _ (λ e. low_holds Symbol c [] (symbol_low c e) none_low) (λ e5. fault_holds c [])))))

-- all tokens
suffix_text : (xs : List ℕ) (c : ℕ) (cs : List ℕ) → IsUtf8 (xs ++ c ∷ cs) → c < 128 → IsUtf8 (c ∷ cs)
suffix_text xs c cs u low =
    let here : get_or (xs ++ c ∷ cs) (length xs) 0 ≡ c = get_or_at xs c cs 0 (length xs) refl in
    let inside : length xs < length (xs ++ c ∷ cs) = omega (arith, length-append xs (c ∷ cs)) in
    let below : get_or (xs ++ c ∷ cs) (length xs) 0 < 128 = omega arith in
    let P : List ℕ → Type 0 = λ ys. IsUtf8 ys in
    subst P (drop_at xs (c ∷ cs) (length xs) refl)
    (IsUtf8-drop (xs ++ c ∷ cs) (length xs) u (IsCharBoundary-before_ascii (xs ++ c ∷ cs) (length xs) inside below))

holds_from : (t : Lexeme) (p : TokenKind × List ℕ) → p ≡ (t.kind, t.text) → Holds p → HoldsText t
unfolding Holds
holds_from t p e h = subst Holds e h

all_hold : (before text : List ℕ) (ts : List Lexeme) → IsUtf8 (before ++ text) → AreTokens before text ts → All HoldsText ts
all_hold before text [] u tokens = All-nil HoldsText
all_hold before text (t ∷ ts) u tokens =
    let P : List ℕ → Type 0 = λ ys. IsUtf8 ys in
    let gap = tokens.0 in
    let c = tokens.1 in
    let cs = tokens.2 in
    let rest = tokens.3 in
    let here : before ++ text ≡ before ++ gap ++ (c ∷ cs) = ap (λ ys. before ++ ys) tokens.4
    ∙ sym (append_assoc before gap (c ∷ cs)) in
    let next : before ++ text ≡ before ++ gap ++ t.text ++ rest =
    here ∙ ap (λ ys. before ++ gap ++ ys) tokens.7 ∙ sym (append_assoc (before ++ gap) t.text rest) in
    All-cons HoldsText t ts
    (holds_from t (token_at c cs) tokens.6 (token_holds c cs (suffix_text (before ++ gap) c cs (subst P here u))))
    (all_hold (before ++ gap ++ t.text) rest ts (subst P next u) tokens.10)

marked_if : (b : Bool) (x y z : ℕ) (rest : List ℕ) → (if b then x ∷ y ∷ z ∷ [] else [])
    ++ (if b then rest else x ∷ y ∷ z ∷ rest) ≡ x ∷ y ∷ z ∷ rest
marked_if true x y z rest = refl
marked_if false x y z rest = refl

marked : (source : List ℕ) → mark_of source ++ unmarked source ≡ source
marked [] = refl
marked (x ∷ []) = refl
marked (x ∷ y ∷ []) = refl
marked (x ∷ y ∷ z ∷ rest) = marked_if ((x == 0xEF) && (y == 0xBB) && (z == 0xBF)) x y z rest

pub tokens_hold : (source : List ℕ) (found : List Lexeme) → IsUtf8 source → TokensOf source found → All HoldsText found
tokens_hold source found u tokens = let P : List ℕ → Type 0 = λ xs. IsUtf8 xs in
    all_hold (mark_of source) (unmarked source) found (subst P (sym (marked source)) u) tokens
