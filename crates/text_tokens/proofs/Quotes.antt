-- How long a string is, one byte on.
use Rattle.std.proofs.Common.{◌≡◌, ◌≢◌, ℕ, ◌+◌, ◌<◌, ◌==◌, Bool, true, false, List, ◌∷◌, length, get_or, drop, Option, Some, None, refl, ap, ◌∙◌, arith}
use Rattle.std.specs.Prelude.{not, option_map}
use Rattle.std.proofs.lemmas.List.{at_drop_more}
use Rattle.text_tokens.specs.Tokens.{string_len_after}

shifted : (o : Option ℕ) (i : ℕ) → option_map (λ n. n + i) (option_map (λ n. n + 1) o) ≡ option_map (λ n. n + (i + 1)) o
shifted None i = refl
shifted (Some x) i = let e : x + 1 + i ≡ x + (i + 1) = omega arith in ap Some e

quote : (q : Bool) (cs : List ℕ) (i : ℕ) → option_map (λ n. n + i) (string_len_after q (34 ∷ cs)) ≡ option_map
    (λ n. n + (i + 1)) (string_len_after (not q) cs)
quote false cs i = shifted (string_len_after true cs) i
quote true cs i = shifted (string_len_after false cs) i

other : (c : ℕ) (cs : List ℕ) (i : ℕ) → (c == 34) ≡ false → option_map (λ n. n + i)
    (string_len_after false (c ∷ cs)) ≡ option_map (λ n. n + (i + 1)) (string_len_after false cs)
other c cs i e = rw e (shifted (string_len_after false cs) i)

pub past_quote : (rest : List ℕ) (i : ℕ) (q : Bool) → i < length rest → get_or rest i 0 ≡ 34
    → option_map (λ n. n + i) (string_len_after q (drop i rest)) ≡ option_map (λ n. n + (i + 1))
    (string_len_after (not q) (drop (i + 1) rest))
past_quote rest i q h e =
    at_drop_more (λ xs. option_map (λ n. n + i) (string_len_after q xs)) rest i 0 h ∙ (rw e (quote q (drop (i + 1) rest) i))

pub past_other : (rest : List ℕ) (i : ℕ) → i < length rest → get_or rest i 0 ≢ 34
    → option_map (λ n. n + i) (string_len_after false (drop i rest)) ≡ option_map (λ n. n + (i + 1))
    (string_len_after false (drop (i + 1) rest))
past_other rest i h ne =
    let e : (get_or rest i 0 == 34) ≡ false = grind arith in
    at_drop_more (λ xs. option_map (λ n. n + i) (string_len_after false xs)) rest i 0 h ∙ other (get_or rest i 0)
    (drop (i + 1) rest) i e
