-- The tokens of a text of whole pieces are these pieces.
use Rattle.std.proofs.Common.{◌≡◌, ◌⊎◌, ℕ, ◌<◌, ◌==◌, Bool, true, false, List, [], ◌∷◌, ◌++◌, map, length, Option, Some, None, IsUtf8, refl, sym, ap, ◌∙◌, subst, inl, inr, arith, append_assoc, codes}
use Rattle.std.specs.Prelude.{◌||◌, if◌then◌else◌, nat_lt, take_while}
use Rattle.std.specs.List.{All, list_all}
use Rattle.std.specs.Str.{IsAscii, bytes_eq}
use Rattle.std.proofs.lemmas.Bool.{and_parts, cond-true, ltb-true, ne_eqb, not-true, or_cases, or_parts}
use Rattle.std.proofs.lemmas.List.Elements.{All-contains, All-from_recursion, All-head, All-tail, All-weaker}
use Rattle.std.proofs.lemmas.List.Sums.{AllPass-from_list_all, take_while-cons}
use Rattle.std.proofs.lemmas.Slice.Eq.{bytes_eq-Decides}
use Rattle.std.proofs.lemmas.Str.{IsUtf8-append, IsUtf8-from_ascii, IsUtf8-nil}
use Rattle.std.proofs.lemmas.Str.Ascii.{IsAscii-cons, IsAscii-nil}
use Rattle.text_tokens.specs.Lexeme.{Lexeme}
use Rattle.text_tokens.specs.Tokens.{AreTokens, after_gap, begins_with, is_blank, is_word_byte, line_after, mark_of, token_at, unmarked}
use Rattle.text_tokens.specs.declared.token.TokenKind.{TokenKind}
use Rattle.text_tokens.specs.declared.token.TokenKind.TheVariants.{Word, Negative, Text, Symbol, Fault}
use Rattle.text_grammar.specs.Words.{same_kind}
use Rattle.text_write.specs.Pieces.{Piece, blank_before, ends_line, is_the_symbol, is_tight_after, is_tight_before, line_end, piece_of, text_after, text_of}
use Rattle.text_write.specs.Spacing.{is_spaced}
use Rattle.text_write.specs.Spelling.{doubled, quote}
use Rattle.text_write.specs.Written.{AreWordBytes, HasTokens, IsOfKind, IsPiece, symbols}
use Rattle.text_write.proofs.Quotes.{quote_is_text, string_is}

-- ---- one token

-- what stands behind a token and cannot belong to it: no byte of a word, no quote and no `=`
record IsApart (rest : List ℕ) : Type 0 where
  word : begins_with is_word_byte rest ≡ false
  quote : begins_with (λ c. c == 34) rest ≡ false
  equals : begins_with (λ c. c == 61) rest ≡ false

-- the bytes are the token at the front of a text that goes on with `rest`, and no gap begins at their first byte
record IsFront (kind : TokenKind) (text rest : List ℕ) : Type 0 where
  first : ℕ
  more : List ℕ
  text_is : text ≡ first ∷ more
  token : token_at first (more ++ rest) ≡ (kind, text)
  blank : is_blank first ≡ false
  note : (first == 35) ≡ false
  low : first < 128

-- the rest of a word ends before what is no byte of a word
stops_here : (rest : List ℕ) → begins_with is_word_byte rest ≡ false → take_while is_word_byte rest ≡ []
stops_here [] h = refl
stops_here (c ∷ cs) h = take_while-cons is_word_byte c cs ∙ rw h refl

word_goes : (bytes rest : List ℕ) → list_all is_word_byte bytes ≡ true → begins_with is_word_byte rest ≡ false
    → take_while is_word_byte (bytes ++ rest) ≡ bytes
word_goes [] rest e h = stops_here rest h
word_goes (c ∷ cs) rest e h =
    let parts = and_parts (is_word_byte c) (list_all is_word_byte cs) e in
    take_while-cons is_word_byte c (cs ++ rest) ∙ rw (parts.0) (ap (λ xs. c ∷ xs) (word_goes cs rest parts.1 h))

word_byte_is : (c : ℕ) → is_word_byte c ≡ true → (is_blank c ≡ false) × ((c == 35) ≡ false) × (c < 128)
word_byte_is c e = (grind arith, grind arith, grind arith)

word_front : (text rest : List ℕ) → AreWordBytes text → IsApart rest → IsFront Word text rest
word_front [] rest h apart = absurd (omega (arith, h.some))
word_front (c ∷ cs) rest h apart =
    let parts = and_parts (is_word_byte c) (list_all is_word_byte cs) h.each in
    let byte = word_byte_is c parts.0 in
    record {
      first = c;
      more = cs;
      text_is = refl;
      token = cond-true (is_word_byte c) _ _ parts.0 ∙ ap (λ (xs : List ℕ). (Word, c ∷ xs))
          (word_goes cs rest parts.1 apart.word);
      blank = byte.0;
      note = byte.1;
      low = byte.2;
    }

negative_front : (digits rest : List ℕ) → AreWordBytes digits → IsApart rest → IsFront Negative (45 ∷ digits) rest
negative_front [] rest h apart = absurd (omega (arith, h.some))
negative_front (c ∷ cs) rest h apart =
    let parts = and_parts (is_word_byte c) (list_all is_word_byte cs) h.each in
    record {
      first = 45;
      more = c ∷ cs;
      text_is = refl;
      token = cond-true (is_word_byte c) _ _ parts.0 ∙ ap (λ (xs : List ℕ). (Negative, 45 ∷ xs))
          (word_goes (c ∷ cs) rest h.each apart.word);
      blank = refl;
      note = refl;
      low = omega arith;
    }

string_front : (bytes rest : List ℕ) → IsApart rest → IsFront Text (quote bytes) rest
string_front bytes rest apart = record {
  first = 34;
  more = doubled bytes ++ 34 ∷ [];
  text_is = refl;
  token = string_is bytes rest apart.quote;
  blank = refl;
  note = refl;
  low = omega arith;
}

-- a symbol is the token there, if no blank follows it ever, or what follows is apart
abbrev IsFrontSymbol : List ℕ → Type 0
IsFrontSymbol text = (rest : List ℕ) → (is_spaced (record { kind = Symbol; text = text }) ≡ false) ⊎ IsApart rest
    → IsFront Symbol text rest

-- a symbol that is one whatever follows
whole_symbol : (c : ℕ) (more : List ℕ) → ((rest : List ℕ) → token_at c (more ++ rest) ≡ (Symbol, c ∷ more))
    → is_blank c ≡ false → (c == 35) ≡ false → c < 128
    → IsFrontSymbol (c ∷ more)
whole_symbol c more token blank note low rest h = record {
  first = c;
  more = more;
  text_is = refl;
  token =
      token rest;
  blank = blank;
  note = note;
  low = low;
}

less : IsFrontSymbol (codes "<")
less rest (inl e) = absurd (cc e)
less rest (inr apart) = record {
  first = 60;
  more = [];
  text_is = refl;
  token = rw (apart.equals) refl;
  blank =
      refl;
  note = refl;
  low = omega arith;
}

greater : IsFrontSymbol (codes ">")
greater rest (inl e) = absurd (cc e)
greater rest (inr apart) = record {
  first = 62;
  more = [];
  text_is = refl;
  token = rw (apart.equals) refl;
  blank =
      refl;
  note = refl;
  low = omega arith;
}

all_symbols : All IsFrontSymbol symbols
all_symbols =
    All-from_recursion (λ text. IsFrontSymbol text) symbols (
      whole_symbol 59 [] (λ rest. refl) refl refl (omega arith),
      (
        whole_symbol 44 [] (λ rest. refl) refl refl (omega arith),
        (
          whole_symbol 58 [] (λ rest. refl) refl refl (omega arith),
          (
            whole_symbol 40 [] (λ rest. refl) refl refl (omega arith),
            (
              whole_symbol 41 [] (λ rest. refl) refl refl (omega arith),
              (
                whole_symbol 46 [] (λ rest. refl) refl refl (omega arith),
                (
                  whole_symbol 60 (61 ∷ []) (λ rest. refl) refl refl (omega arith),
                  (
                    whole_symbol 62 (61 ∷ []) (λ rest. refl) refl refl (omega arith),
                    (
                      whole_symbol 33 (61 ∷ []) (λ rest. refl) refl refl (omega arith),
                      (
                        less,
                        (
                          greater,
                          (
                            whole_symbol 61 [] (λ rest. refl) refl refl (omega arith),
                            (
                                tt),
                          ),
                        ),
                      ),
                    ),
                  ),
                ),
              ),
            ),
          ),
        ),
      ),
    )

front_of : (kind : TokenKind) (text : List ℕ) → IsOfKind kind text → (rest : List ℕ)
    → (is_spaced (record { kind = kind; text = text }) ≡ false) ⊎ IsApart rest → IsFront kind text rest
front_of Word text h rest (inl e) = absurd (cc e)
front_of Word text h rest (inr apart) = word_front text rest h apart
front_of Negative text h rest (inl e) = absurd (cc e)
front_of Negative text h rest (inr apart) =
    let P : List ℕ → Type 0 = λ xs. IsFront Negative xs rest in subst P (sym h.text_is)
    (negative_front h.digits rest h.is_digits apart)
front_of Text text h rest (inl e) = absurd (cc e)
front_of Text text h rest (inr apart) = let P : List ℕ → Type 0 = λ xs. IsFront Text xs rest in subst P
    (sym h.text_is) (string_front h.bytes rest apart)
front_of Symbol text h rest o = All-contains IsFrontSymbol symbols text all_symbols h rest o
front_of Fault text h rest o = absurd h

-- ---- what follows a piece

apart_at : (c : ℕ) (cs : List ℕ) → is_word_byte c ≡ false → (c == 34) ≡ false → (c == 61) ≡ false → IsApart (c ∷ cs)
apart_at c cs word quote equals = record { word = word; quote = quote; equals = equals }

-- a piece that is this very symbol has its bytes
symbol_is : (text : List ℕ) (q : Piece) → is_the_symbol text q ≡ true → q.text ≡ text
symbol_is text q e = (bytes_eq-Decides q.text text).0 (and_parts (same_kind q.kind Symbol) (bytes_eq q.text text) e).1

apart_symbol : (text : List ℕ) (q : Piece) (more : List ℕ) → is_the_symbol text q ≡ true → IsApart (text ++ more)
    → IsApart (q.text ++ more)
apart_symbol text q more e h = let P : List ℕ → Type 0 = λ xs. IsApart (xs ++ more) in subst P (sym (symbol_is text q e)) h

-- a piece that no blank precedes is apart from what stands before it
apart_tight : (q : Piece) (more : List ℕ) → is_tight_before q ≡ true → IsApart (q.text ++ more)
apart_tight q more e = last (or_cases _ _ e)
  where
    first : (is_the_symbol (codes ";") q ≡ true) ⊎ (is_the_symbol (codes ",") q ≡ true) → IsApart (q.text ++ more)
    first (inl e) = apart_symbol (codes ";") q more e (apart_at 59 more refl refl refl)
    first (inr e) = apart_symbol (codes ",") q more e (apart_at 44 more refl refl refl)

    second : ((is_the_symbol (codes ";") q || is_the_symbol (codes ",") q) ≡ true) ⊎
        (is_the_symbol (codes ":") q ≡ true) → IsApart (q.text ++ more)
    second (inl e) = first (or_cases _ _ e)
    second (inr e) = apart_symbol (codes ":") q more e (apart_at 58 more refl refl refl)

    third : ((is_the_symbol (codes ";") q || is_the_symbol (codes ",") q || is_the_symbol (codes ":") q) ≡ true) ⊎
        (is_the_symbol (codes ")") q ≡ true) → IsApart (q.text ++ more)
    third (inl e) = second (or_cases _ _ e)
    third (inr e) = apart_symbol (codes ")") q more e (apart_at 41 more refl refl refl)

    last : ((is_the_symbol (codes ";") q || is_the_symbol (codes ",") q || is_the_symbol (codes ":") q
        || is_the_symbol (codes ")") q) ≡ true) ⊎ (is_the_symbol (codes ".") q ≡ true) → IsApart (q.text ++ more)
    last (inl e) = third (or_cases _ _ e)
    last (inr e) = apart_symbol (codes ".") q more e (apart_at 46 more refl refl refl)

-- the blank after a piece that wants one
blank_seen : (p q : Piece) → is_spaced p ≡ true → (b : Bool) → is_tight_before q ≡ b → blank_before (Some p) q ≡
    (if b then [] else 32 ∷ [])
blank_seen p q spaced b e =
    let open_end : (ends_line p || is_tight_after p) ≡ false = not-true (ends_line p || is_tight_after p) spaced in
    let blank : Bool → List ℕ = λ x. if x then [] else 32 ∷ [] in
    ap (λ x. blank (x || is_tight_before q)) open_end ∙ ap blank e

next_apart : (p q : Piece) (qs : List Piece) → is_spaced p ≡ true → (b : Bool) → is_tight_before q ≡ b
    → IsApart (text_after (Some p) (q ∷ qs))
next_apart p q qs spaced b e =
    let rest = text_after (Some q) qs in
    let P : List ℕ → Type 0 = λ blank. IsApart (blank ++ q.text ++ line_end q ++ rest) in
    subst P (sym (blank_seen p q spaced b e)) (by b e)
  where
    by : (b : Bool) → is_tight_before q ≡ b → IsApart ((if b then [] else 32 ∷ []) ++ q.text ++ line_end q
        ++ text_after (Some q) qs)
    by true e =
        let rest = text_after (Some q) qs in
        let P : List ℕ → Type 0 = λ xs. IsApart xs in
        subst P (sym (append_assoc q.text (line_end q) rest)) (apart_tight q (line_end q ++ rest) e)
    by false e = apart_at 32 _ refl refl refl

after_apart : (p : Piece) (ps : List Piece) → is_spaced p ≡ true → IsApart (text_after (Some p) ps)
after_apart p [] spaced = record { word = refl; quote = refl; equals = refl }
after_apart p (q ∷ qs) spaced = next_apart p q qs spaced (is_tight_before q) refl

-- what follows a piece is apart from it, if a blank follows the piece where the next one wants it
follows : (p : Piece) (ps : List Piece) → (is_spaced p ≡ false) ⊎ IsApart (line_end p ++ text_after (Some p) ps)
follows p ps = by (is_spaced p) refl
  where
    by : (b : Bool) → is_spaced p ≡ b → (is_spaced p ≡ false) ⊎ IsApart (line_end p ++ text_after (Some p) ps)
    by false e = inl e
    by true e =
        let open_line : ends_line p ≡ false =
        (or_parts (ends_line p) (is_tight_after p) (not-true (ends_line p || is_tight_after p) e)).0 in
        let P : Bool → Type 0 = λ b. IsApart ((if b then 10 ∷ [] else []) ++ text_after (Some p) ps) in
        inr (subst P (sym open_line) (after_apart p ps e))

-- ---- all tokens

-- the end of the line after the piece before, if it ends one
abbrev ended : Option Piece → List ℕ
ended None = []
ended (Some p) = line_end p

-- a text has these pieces as its tokens, after the bytes `done`
record Found (done text : List ℕ) (ps : List Piece) : Type 0 where
  lexemes : List Lexeme
  tokens : AreTokens done text lexemes
  same : map piece_of lexemes ≡ ps

gap_at : (c : ℕ) (cs : List ℕ) → is_blank c ≡ false → (c == 35) ≡ false → after_gap false (c ∷ cs) ≡ c ∷ cs
gap_at c cs blank note = rw (blank, note) refl

gap_by : (a b : Bool) (c : ℕ) (cs : List ℕ) → is_blank c ≡ false → (c == 35) ≡ false
    → after_gap false ((if a then 10 ∷ [] else []) ++ (if b then [] else 32 ∷ []) ++ c ∷ cs) ≡ c ∷ cs
gap_by true true c cs blank note = gap_at c cs blank note
gap_by true false c cs blank note = gap_at c cs blank note
gap_by false true c cs blank note = gap_at c cs blank note
gap_by false false c cs blank note = gap_at c cs blank note

-- what stands between two pieces is a gap
gap_skipped : (before : Option Piece) (q : Piece) (c : ℕ) (cs : List ℕ) → is_blank c ≡ false → (c == 35) ≡ false
    → after_gap false (ended before ++ blank_before before q ++ c ∷ cs) ≡ c ∷ cs
gap_skipped None q c cs blank note = gap_at c cs blank note
gap_skipped (Some p) q c cs blank note = gap_by (ends_line p) (ends_line p || is_tight_after p || is_tight_before q)
    c cs blank note

line_only : (b : Bool) → after_gap false ((if b then 10 ∷ [] else []) ++ []) ≡ []
line_only true = refl
line_only false = refl

gap_at_end : (before : Option Piece) → after_gap false (ended before ++ []) ≡ []
gap_at_end None = refl
gap_at_end (Some p) = line_only (ends_line p)

regrouped : (e b t l r : List ℕ) → e ++ (b ++ t ++ l ++ r) ≡ e ++ b ++ (t ++ (l ++ r))
regrouped e b t l r = simp append_assoc

found : (before : Option Piece) (ps : List Piece) → All IsPiece ps → (done : List ℕ) → Found done
    (ended before ++ text_after before ps) ps
found before [] whole done = record { lexemes = []; tokens = gap_at_end before; same = refl }
found before (q ∷ qs) whole done =
    let rest : List ℕ = line_end q ++ text_after (Some q) qs in
    let front : IsFront q.kind q.text rest = front_of q.kind q.text (All-head IsPiece q qs whole).whole rest (follows q qs) in
    let gap : List ℕ = ended before ++ blank_before before q in
    let t : Lexeme = record { kind = q.kind; text = q.text; start = length (done ++ gap); line = line_after (done ++ gap) } in
    let here : ended before ++ text_after before (q ∷ qs) ≡ gap ++ front.first ∷ (front.more ++ rest) =
    regrouped (ended before) (blank_before before q) q.text (line_end q) (text_after (Some q) qs)
    ∙ ap (λ xs. gap ++ (xs ++ rest)) front.text_is in
    let later : Found (done ++ gap ++ q.text) rest qs = found (Some q) qs (All-tail IsPiece q qs whole) (done ++ gap ++ q.text) in
    record {
      lexemes = t ∷ later.lexemes;
      tokens = (
        gap,
        front.first,
        front.more ++ rest,
        rest,
        here,
        ap (λ xs. after_gap false xs) here ∙ gap_skipped before q front.first (front.more ++ rest) front.blank front.note,
        front.token,
        sym (ap (λ xs. xs ++ rest) front.text_is),
        refl,
        refl,
        later.tokens,
      );
      same = ap (λ xs. q ∷ xs) later.same;
    }

-- ---- a written text is text, and has no byte order mark

word_is_ascii : (text : List ℕ) → list_all is_word_byte text ≡ true → IsAscii text
word_is_ascii [] e = IsAscii-nil
word_is_ascii (c ∷ cs) e =
    let parts = and_parts (is_word_byte c) (list_all is_word_byte cs) e in
    IsAscii-cons c cs (word_byte_is c parts.0).2 (word_is_ascii cs parts.1)

low_is_ascii : (text : List ℕ) → list_all (λ c. nat_lt c 128) text ≡ true → IsAscii text
low_is_ascii [] e = IsAscii-nil
low_is_ascii (c ∷ cs) e =
    let parts = and_parts (nat_lt c 128) (list_all (λ c. nat_lt c 128) cs) e in
    IsAscii-cons c cs (ltb-true c 128 parts.0) (low_is_ascii cs parts.1)

symbols_are_text : All IsUtf8 symbols
symbols_are_text =
    All-weaker (λ text. list_all (λ c. nat_lt c 128) text ≡ true) IsUtf8
    (λ text low. IsUtf8-from_ascii text (low_is_ascii text low))
    symbols (AllPass-from_list_all (λ text. list_all (λ c. nat_lt c 128) text) symbols refl)

piece_is_text : (kind : TokenKind) (text : List ℕ) → IsOfKind kind text → IsUtf8 text
piece_is_text Word text h = IsUtf8-from_ascii text (word_is_ascii text h.each)
piece_is_text Negative text h =
    let P : List ℕ → Type 0 = λ xs. IsUtf8 xs in
    subst P (sym h.text_is) (IsUtf8-from_ascii (45 ∷ h.digits)
    (IsAscii-cons 45 h.digits (omega arith) (word_is_ascii h.digits h.is_digits.each)))
piece_is_text Text text h = let P : List ℕ → Type 0 = λ xs. IsUtf8 xs in subst P (sym h.text_is) (quote_is_text h.bytes h.utf8)
piece_is_text Symbol text h = All-contains IsUtf8 symbols text symbols_are_text h
piece_is_text Fault text h = absurd h

one_is_text : (c : ℕ) → c < 128 → IsUtf8 (c ∷ [])
one_is_text c low = IsUtf8-from_ascii (c ∷ []) (IsAscii-cons c [] low IsAscii-nil)

blank_by : (b : Bool) → IsUtf8 (if b then [] else 32 ∷ [])
blank_by true = IsUtf8-nil
blank_by false = one_is_text 32 (omega arith)

blank_is_text : (before : Option Piece) (q : Piece) → IsUtf8 (blank_before before q)
blank_is_text None q = IsUtf8-nil
blank_is_text (Some p) q = blank_by (ends_line p || is_tight_after p || is_tight_before q)

line_is_text : (b : Bool) → IsUtf8 (if b then 10 ∷ [] else [])
line_is_text true = one_is_text 10 (omega arith)
line_is_text false = IsUtf8-nil

text_is_text : (before : Option Piece) (ps : List Piece) → All IsPiece ps → IsUtf8 (text_after before ps)
text_is_text before [] whole = IsUtf8-nil
text_is_text before (q ∷ qs) whole =
    let blank = blank_before before q in
    IsUtf8-append (blank ++ q.text ++ line_end q) (text_after (Some q) qs)
    (IsUtf8-append (blank ++ q.text) (line_end q)
    (IsUtf8-append blank q.text (blank_is_text before q)
    (piece_is_text q.kind q.text (All-head IsPiece q qs whole).whole)) (line_is_text (ends_line q)))
    (text_is_text (Some q) qs (All-tail IsPiece q qs whole))

-- a text without a byte order mark
record IsUnmarked (source : List ℕ) : Type 0 where
  mark : mark_of source ≡ []
  all : unmarked source ≡ source

unmarked_at : (c : ℕ) (cs : List ℕ) → c < 128 → IsUnmarked (c ∷ cs)
unmarked_at c [] low = record { mark = refl; all = refl }
unmarked_at c (x ∷ []) low = record { mark = refl; all = refl }
unmarked_at c (x ∷ y ∷ rest) low =
    let e : (c == 0xEF) ≡ false = ne_eqb c 0xEF (λ f. omega arith) in
    record { mark = rw e refl; all = rw e refl }

text_unmarked : (ps : List Piece) → All IsPiece ps → IsUnmarked (text_after None ps)
text_unmarked [] whole = record { mark = refl; all = refl }
text_unmarked (q ∷ qs) whole =
    let rest : List ℕ = line_end q ++ text_after (Some q) qs in
    let front : IsFront q.kind q.text rest = front_of q.kind q.text (All-head IsPiece q qs whole).whole rest (follows q qs) in
    let here : text_after None (q ∷ qs) ≡ front.first ∷ (front.more ++ rest) =
    append_assoc q.text (line_end q) (text_after (Some q) qs) ∙ ap (λ xs. xs ++ rest) front.text_is in
    let P : List ℕ → Type 0 = λ xs. IsUnmarked xs in
    subst P (sym here) (unmarked_at front.first (front.more ++ rest) front.low)

-- the text of whole pieces has just them as its tokens
pub pieces_found : (pieces : List Piece) → All IsPiece pieces → HasTokens pieces
unfolding text_of
pieces_found pieces whole =
    let source : List ℕ = text_after None pieces in
    let tokens : Found [] source pieces = found None pieces whole [] in
    let plain : IsUnmarked source = text_unmarked pieces whole in
    let P : List ℕ → Type 0 = λ xs. AreTokens xs source tokens.lexemes in
    let Q : List ℕ → Type 0 = λ xs. AreTokens (mark_of source) xs tokens.lexemes in
    record {
      utf8 = text_is_text None pieces whole;
      lexemes = tokens.lexemes;
      tokens = subst Q (sym plain.all) (subst P (sym plain.mark) tokens.tokens);
      same = tokens.same;
    }
