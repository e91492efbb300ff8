-- Marks by rounds: which places were met in a round.
use Rattle.std.proofs.Common.{◌≡◌, ◌<◌, ◌≤◌, ◌∙◌, ℕ, zero, suc, eqb, Bool, true, false, List, [], ◌∷◌, All, length, map, replicate, slice_set, refl, sym, ap, arith}
use Rattle.std.proofs.lemmas.Bool.{eq-eqb, ne_eqb}
use Rattle.std.proofs.lemmas.List.{length-map}
use Rattle.std.proofs.lemmas.List.Elements.{All-head, All-tail}

-- by place: met in this round
abbrev pub met_in : ℕ → List ℕ → List Bool
met_in round rounds = map (λ r. eqb r round) rounds

pub meets : (round : ℕ) (rounds : List ℕ) (place : ℕ) → met_in round (slice_set rounds place round) ≡ slice_set
    (met_in round rounds) place true
meets round [] place = refl
meets round (r ∷ rs) zero = ap (λ b. b ∷ met_in round rs) (eq-eqb round round refl)
meets round (r ∷ rs) (suc place) = ap (λ bs. eqb r round ∷ bs) (meets round rs place)

pub none_met : (n : ℕ) → met_in 1 (replicate n 0) ≡ replicate n false
none_met zero = refl
none_met (suc n) = ap (λ bs. false ∷ bs) (none_met n)

-- in a round that is still to come no place was met
pub none_yet : (round next : ℕ) (rounds : List ℕ) → round < next → All (λ r. r ≤ round) rounds → met_in next rounds ≡
    replicate (length rounds) false
none_yet round next [] less all = refl
none_yet round next (r ∷ rs) less all =
    let low = All-head (λ n. n ≤ round) r rs all in
    ap (λ b. b ∷ met_in next rs) (ne_eqb r next (λ same. omega (arith, low, less, same)))
    ∙ ap (λ bs. false ∷ bs) (none_yet round next rs less (All-tail (λ n. n ≤ round) r rs all))

pub cleared : (round next : ℕ) (rounds : List ℕ) → round < next → All (λ r. r ≤ round) rounds → met_in next rounds ≡
    replicate (length (met_in round rounds)) false
cleared round next rounds less all = none_yet round next rounds less all ∙ ap (λ n. replicate n false)
    (sym (length-map rounds (λ r. eqb r round)))
