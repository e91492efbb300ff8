-- Lines for each number below a bound, with one number more.
use Rattle.std.proofs.Common.{◌≡◌, ◌∙◌, ℕ, ◌+◌, List, [], ◌∷◌, ◌++◌, append_assoc, append-nil, sym, ap, arith}
use Rattle.std.specs.List.{flat_map, range_with_len}
use Rattle.std.proofs.lemmas.List.Concat.{flat_map-append}
use Rattle.std.proofs.lemmas.List.Folds.{flat_map-map}
use Rattle.std.proofs.lemmas.List.FromFn.{map-range_with_len_more}
use Rattle.trial_documents.specs.Tables.{each}

-- the lines for one number more end with its own
each_one_more : (n : ℕ) (lines : ℕ → List ℕ) → each (n + 1) lines ≡ each n lines ++ lines n
unfolding each
each_one_more n lines =
    let same : ℕ → ℕ = λ k. k in
    sym (flat_map-map lines same (range_with_len 0 (n + 1))) ∙ ap (λ ks. flat_map lines ks)
    (map-range_with_len_more same 0 n n (omega arith))
    ∙ flat_map-append lines _ (n ∷ []) ∙ ap (λ ks. ks ++ (lines n ++ [])) (flat_map-map lines same (range_with_len 0 n))
    ∙ ap (λ ks. flat_map lines (range_with_len 0 n) ++ ks) (append-nil (lines n))

-- before the first number there is no line
pub each_none : (text : List ℕ) (lines : ℕ → List ℕ) → text ++ each 0 lines ≡ text
unfolding each
each_none text lines = append-nil text

-- the lines of a number, after those of the numbers below it
pub each_more : (text : List ℕ) (n : ℕ) (lines : ℕ → List ℕ) → (text ++ each n lines) ++ lines n ≡ text ++ each (n + 1) lines
each_more text n lines = append_assoc text (each n lines) (lines n) ∙ ap (λ ks. text ++ ks) (sym (each_one_more n lines))

-- the start of a loop over numbers, and its step
pub ruleset each_steps = (each_none, each_more)
