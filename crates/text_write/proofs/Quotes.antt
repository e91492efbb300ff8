-- A string in quotes: where it ends, what it says, and that it is text.
use Rattle.std.proofs.Common.{◌≡◌, ℕ, ◌+◌, ◌<◌, ◌==◌, Bool, true, false, suc, List, [], ◌∷◌, ◌++◌, length, get_or, Some, IsUtf8, refl, sym, ap, ◌∙◌, subst, arith, append_assoc, length-append}
use Rattle.std.specs.Prelude.{if◌then◌else◌, option_map, IsCharBoundary}
use Rattle.std.proofs.lemmas.Bool.{eqb-true}
use Rattle.std.proofs.lemmas.List.{get_or_at}
use Rattle.std.proofs.lemmas.Str.{IsUtf8-append, IsUtf8-drop, IsUtf8-from_ascii, IsUtf8-take, IsCharBoundary-after_ascii}
use Rattle.std.proofs.lemmas.Str.Ascii.{IsAscii-cons, IsAscii-nil}
use Rattle.std.proofs.Math.Seq.{drop-append-add, take-append-add}
use Rattle.text_tokens.specs.Tokens.{begins_with, string_len_after, string_token}
use Rattle.text_tokens.specs.declared.token.TokenKind.TheVariants.{Text}
use Rattle.text_grammar.specs.Words.{unquoted}
use Rattle.text_write.specs.Spelling.{doubled, quote}

-- ---- what it says

undoubled_by : (c : ℕ) (cs : List ℕ) (b : Bool) → (c == 34) ≡ b → unquoted false (doubled cs ++ 34 ∷ []) ≡ cs
    → unquoted false ((if b then 34 ∷ 34 ∷ doubled cs else c ∷ doubled cs) ++ 34 ∷ []) ≡ c ∷ cs
undoubled_by c cs true e h = let f : c ≡ 34 = eqb-true c 34 e in cc
undoubled_by c cs false e h = rw e (ap (λ x. c ∷ x) h)

-- without the quotes that are not its content, a string is what was put in quotes
pub undoubled : (bytes : List ℕ) → unquoted false (doubled bytes ++ 34 ∷ []) ≡ bytes
undoubled [] = refl
undoubled (c ∷ cs) = undoubled_by c cs (c == 34) refl (undoubled cs)

-- ---- where it ends

closed_here : (rest : List ℕ) → begins_with (λ c. c == 34) rest ≡ false → string_len_after true rest ≡ Some 0
closed_here [] h = refl
closed_here (c ∷ cs) h = rw h refl

closed_by : (c : ℕ) (cs rest : List ℕ) (b : Bool) → (c == 34) ≡ b → string_len_after false
    (doubled cs ++ 34 ∷ rest) ≡ Some (length (doubled cs) + 1)
    → string_len_after false ((if b then 34 ∷ 34 ∷ doubled cs else c ∷ doubled cs) ++ 34 ∷ rest) ≡ Some
    (length (if b then 34 ∷ 34 ∷ doubled cs else c ∷ doubled cs) + 1)
closed_by c cs rest true e h =
    let n = length (doubled cs) in
    let same : n + 1 + 1 + 1 ≡ suc (suc n) + 1 = omega arith in
    ap (λ o. option_map (λ n. n + 1) (option_map (λ n. n + 1) o)) h ∙ ap Some same
closed_by c cs rest false e h =
    let n = length (doubled cs) in
    let same : n + 1 + 1 ≡ suc n + 1 = omega arith in
    rw e (ap (λ o. option_map (λ n. n + 1) o) h ∙ ap Some same)

closed : (bytes rest : List ℕ) → begins_with (λ c. c == 34) rest ≡ false → string_len_after false
    (doubled bytes ++ 34 ∷ rest) ≡ Some (length (doubled bytes) + 1)
closed [] rest h = ap (λ o. option_map (λ n. n + 1) o) (closed_here rest h)
closed (c ∷ cs) rest h = closed_by c cs rest (c == 34) refl (closed cs rest h)

-- the string at the front of a text ends at its closing quote, where no quote follows
pub string_is : (bytes rest : List ℕ) → begins_with (λ c. c == 34) rest ≡ false
    → string_token (doubled bytes ++ 34 ∷ [] ++ rest) (string_len_after false (doubled bytes ++ 34 ∷ [] ++ rest)) ≡
    (Text, quote bytes)
string_is bytes rest h =
    let whole : doubled bytes ++ 34 ∷ [] ++ rest ≡ doubled bytes ++ 34 ∷ rest = append_assoc (doubled bytes) (34 ∷ []) rest in
    ap (λ xs. string_token xs (string_len_after false xs)) whole
    ∙ ap (λ o. string_token (doubled bytes ++ 34 ∷ rest) o) (closed bytes rest h)
    ∙ ap (λ (xs : List ℕ). (Text, 34 ∷ xs)) (take-append-add (doubled bytes) (34 ∷ rest) 1)

-- ---- that it is text

-- a quote is text
quote_alone : IsUtf8 (34 ∷ [])
quote_alone = IsUtf8-from_ascii (34 ∷ []) (IsAscii-cons 34 [] (omega arith) IsAscii-nil)

-- the bytes up to a quote, and those after it
cut_at_quote : (front cs : List ℕ) → IsUtf8 (front ++ 34 ∷ cs) → IsUtf8 (front ++ 34 ∷ []) × IsUtf8 cs
cut_at_quote front cs u =
    let P : List ℕ → Type 0 = λ xs. IsUtf8 xs in
    let whole = front ++ 34 ∷ cs in
    let inside : length front < length whole = omega (arith, length-append front (34 ∷ cs)) in
    let here : get_or whole (length front) 0 ≡ 34 = get_or_at front 34 cs 0 (length front) refl in
    let low : get_or whole (length front) 0 < 128 = omega arith in
    let cut : IsCharBoundary whole (length front + 1) = IsCharBoundary-after_ascii whole (length front) u inside low in (
      subst P (take-append-add front (34 ∷ cs) 1) (IsUtf8-take whole (length front + 1) u cut),
      subst P (drop-append-add front (34 ∷ cs) 1) (IsUtf8-drop whole (length front + 1) u cut),
    )

doubled_by : (front : List ℕ) (c : ℕ) (cs : List ℕ) (b : Bool) → (c == 34) ≡ b → IsUtf8 (front ++ c ∷ cs)
    → ((front : List ℕ) → IsUtf8 (front ++ cs) → IsUtf8 (front ++ doubled cs))
    → IsUtf8 (front ++ (if b then 34 ∷ 34 ∷ doubled cs else c ∷ doubled cs))
doubled_by front c cs true e u later =
    let P : List ℕ → Type 0 = λ xs. IsUtf8 xs in
    let Q : ℕ → Type 0 = λ x. IsUtf8 (front ++ x ∷ cs) in
    let cut = cut_at_quote front cs (subst Q (eqb-true c 34 e) u) in
    let two = front ++ 34 ∷ [] ++ 34 ∷ [] in
    subst P (append_assoc (front ++ 34 ∷ []) (34 ∷ []) (doubled cs) ∙ append_assoc front (34 ∷ []) (34 ∷ doubled cs))
    (later two (IsUtf8-append two cs (IsUtf8-append (front ++ 34 ∷ []) (34 ∷ []) cut.0 quote_alone) cut.1))
doubled_by front c cs false e u later =
    let P : List ℕ → Type 0 = λ xs. IsUtf8 xs in
    subst P (append_assoc front (c ∷ []) (doubled cs))
    (later (front ++ c ∷ []) (subst P (sym (append_assoc front (c ∷ []) cs)) u))

doubled_is_text : (front bytes : List ℕ) → IsUtf8 (front ++ bytes) → IsUtf8 (front ++ doubled bytes)
doubled_is_text front [] u = u
doubled_is_text front (c ∷ cs) u = doubled_by front c cs (c == 34) refl u (λ more. doubled_is_text more cs)

-- a string of text is text
pub quote_is_text : (bytes : List ℕ) → IsUtf8 bytes → IsUtf8 (quote bytes)
quote_is_text bytes u =
    IsUtf8-append (34 ∷ doubled bytes) (34 ∷ []) (IsUtf8-append (34 ∷ []) (doubled bytes) quote_alone
    (doubled_is_text [] bytes u)) quote_alone
