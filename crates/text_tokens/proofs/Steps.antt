-- From one token of a text to the next.
use Rattle.std.proofs.Common.{◌≡◌, ℕ, ◌+◌, ◌-◌, ◌<◌, ◌≤◌, ◌==◌, false, min, List, [], ◌∷◌, ◌++◌, map, suc, length, get_or, take, drop, sym, refl, ap, ◌∙◌, subst, arith}
use Rattle.std.specs.Prelude.{count_by}
use Rattle.std.proofs.Common.{length-drop, append_assoc}
use Rattle.std.proofs.lemmas.List.{take-take, drop-take, take-append-drop, drop-drop, drop_more, length-take-le, map_push}
use Rattle.std.proofs.lemmas.List.Sums.{sum_by-append}
use Rattle.text_tokens.specs.Lexeme.{Lexeme, lexeme_of}
use Rattle.text_tokens.specs.declared.token.Token.{Token}
use Rattle.text_tokens.specs.Next.{IsNext, end_of, first_token}
use Rattle.text_tokens.specs.Tokens.{AreTokens, after_gap, line_after, token_at}

-- a front in two parts
front : (xs : List ℕ) (a n : ℕ) → take a xs ++ take n (drop a xs) ≡ take (a + n) xs
front xs a n =
    let short : a ≤ a + n = omega arith in
    rw (← take-take a (a + n) xs short, ← drop-take a n xs) (take-append-drop a (take (a + n) xs))

pub front_to : (xs : List ℕ) (a b : ℕ) → a ≤ b → take a xs ++ take (b - a) (drop a xs) ≡ take b xs
front_to xs a b h = let e : a + (b - a) ≡ b = omega arith in front xs a (b - a) ∙ ap (λ n. take n xs) e

pub rest_to : (xs : List ℕ) (a b : ℕ) → a ≤ b → drop (b - a) (drop a xs) ≡ drop b xs
rest_to xs a b h = let e : a + (b - a) ≡ b = omega arith in drop-drop (b - a) a xs ∙ ap (λ n. drop n xs) e

-- the line, some bytes on
line_append : (xs ys : List ℕ) → min (line_after xs + count_by (λ c. c == 10) ys) 4294967295 ≡ line_after (xs ++ ys)
line_append xs ys = rw (sum_by-append _ xs ys) (omega arith)

pub line_to : (xs : List ℕ) (a b : ℕ) → a ≤ b
    → min (line_after (take a xs) + count_by (λ c. c == 10) (take (b - a) (drop a xs))) 4294967295 ≡ line_after (take b xs)
line_to xs a b h = line_append (take a xs) (take (b - a) (drop a xs)) ∙ ap line_after (front_to xs a b h)

-- the next token and those after it
pub token_more : (source : List ℕ) (at : ℕ) (t : Lexeme) → IsNext source at t → (ts : List Lexeme)
    → AreTokens (take (end_of t) source) (drop (end_of t) source) ts → AreTokens (take at source) (drop at source) (t ∷ ts)
token_more source at t next ts rest =
    let inside : t.start < length source = omega (arith, next.longer, next.within) in
    let here : drop t.start source ≡ get_or source t.start 0 ∷ drop (t.start + 1) source = drop_more source t.start 0 inside in
    let gap = take (t.start - at) (drop at source) in
    let upto : take at source ++ gap ≡ take t.start source = front_to source at t.start next.behind in
    let P : List ℕ → Type 0 = λ xs. first_token xs ≡ (t.kind, t.text) in
    let token : token_at (get_or source t.start 0) (drop (t.start + 1) source) ≡ (t.kind, t.text) = subst P here next.token in
    let whole : take at source ++ gap ++ t.text ≡ take (end_of t) source =
    ap (λ xs. xs ++ t.text) upto ∙ ap (λ xs. take t.start source ++ xs) next.bytes ∙ front source t.start (length t.text) in
    let apart : drop at source ≡ gap ++ drop t.start source =
    sym (take-append-drop (t.start - at) (drop at source)) ∙ ap (λ xs. gap ++ xs) (rest_to source at t.start next.behind) in
    let split : drop t.start source ≡ t.text ++ drop (end_of t) source =
    sym (take-append-drop (length t.text) (drop t.start source))
    ∙ ap (λ xs. xs ++ drop (length t.text) (drop t.start source)) (sym next.bytes)
    ∙ ap (λ xs. t.text ++ xs) (drop-drop (length t.text) t.start source) in
    let Q : List ℕ → Type 0 = λ xs. AreTokens xs (drop (end_of t) source) ts in (
      gap,
      get_or source t.start 0,
      drop (t.start + 1) source,
      drop (end_of t) source,
      apart ∙ ap (λ xs. gap ++ xs) here,
      next.gap ∙ here,
      token,
      sym here ∙ split,
      (let short : t.start ≤ length source = omega arith in sym (length-take-le t.start source short) ∙ ap length (sym upto)),
      next.line ∙ ap line_after (sym upto),
      subst Q (sym whole) rest,
    )

-- the line after the next token
pub next_line : (source : List ℕ) (at : ℕ) (t : Lexeme) → IsNext source at t
    → min (t.line + count_by (λ c. c == 10) t.text) 4294967295 ≡ line_after (take (end_of t) source)
next_line source at t next =
    let ends : List ℕ → ℕ = λ xs. count_by (λ c. c == 10) xs in
    ap (λ n. min (n + ends t.text) 4294967295) next.line
    ∙ ap (λ xs. min (line_after (take t.start source) + ends xs) 4294967295) next.bytes
    ∙ line_append (take t.start source) (take (length t.text) (drop t.start source))
    ∙ ap line_after (front source t.start (length t.text))

-- one more token is found
pub found_more : (found : List Token) (t : Token) (ts : List Lexeme) → map lexeme_of (found ++ t ∷ [])
    ++ ts ≡ map lexeme_of found ++ (lexeme_of t ∷ ts)
found_more found t ts = rw (map_push lexeme_of found t, append_assoc (map lexeme_of found) (lexeme_of t ∷ []) ts) refl

-- what the code has found at a place is the next token there
pub token_found : (source : List ℕ) (at start more : ℕ) (t : Lexeme) → at ≤ start → start < length source
    → more ≤ length (drop (start + 1) source) → after_gap false (drop at source) ≡ drop start source
    → token_at (get_or source start 0) (drop (start + 1) source) ≡ (
      t.kind,
      get_or source start 0
          ∷ take more (drop (start + 1) source),
    )
    → t.text ≡ take (start + 1 + more - start) (drop start source) → t.start ≡ start → t.line ≡ line_after (take start source)
    → IsNext source at t
token_found source at start more t behind inside short gap token text start_is line =
    let here : drop start source ≡ get_or source start 0 ∷ drop (start + 1) source = drop_more source start 0 inside in
    let count : start + 1 + more - start ≡ suc more = omega arith in
    let bytes : t.text ≡ get_or source start 0 ∷ take more (drop (start + 1) source) =
    text ∙ ap (λ n. take n (drop start source)) count ∙ ap (λ xs. take (suc more) xs) here in
    let size : length t.text ≡ suc more = ap length bytes ∙ ap suc (length-take-le more (drop (start + 1) source) short) in
    record {
      behind = omega arith;
      longer = omega arith;
      within = omega (arith, length-drop (start + 1) source);
      gap = gap ∙ ap (λ n. drop n source) (sym start_is);
      token = (let P : List ℕ → Type 0 = λ xs. first_token xs ≡ (t.kind, t.text) in
          rw start_is (subst P (sym here) (token ∙ ap (λ xs. (t.kind, xs)) (sym bytes))));
      bytes = text ∙ ap (λ n. take n (drop start source)) (count ∙ sym size)
          ∙ ap (λ n. take (length t.text) (drop n source)) (sym start_is);
      line = line ∙ ap (λ n. line_after (take n source)) (sym start_is);
    }
