-- Where levels begin.
use Rattle.std.proofs.Common.{◌≡◌, ◌⊎◌, ◌<◌, ◌≤◌, ◌+◌, ◌-◌, ◌∙◌, ℕ, zero, suc, Bool, true, false, cond, nat_le, List, [], ◌∷◌, Option, Some, None, length, slice_get, refl, sym, ap, inl, inr, arith}
use Rattle.std.specs.List.{count_by}
use Rattle.std.proofs.lemmas.Bool.{cases_lt, le-leb, lt-leb}
use Rattle.std.proofs.lemmas.List.Sums.{sum_by-cons}
use Rattle.std.proofs.lemmas.Option.{slice_get_within, same_Some}
use Rattle.search_trail.specs.Trails.{AreEntries, Entry, Trail}
use Rattle.conflict_analysis.specs.Steps.{AreReasoned, IsReasoned}
use Rattle.conflict_analysis.proofs.Entries.{entry_there, reason_here}

abbrev pub level_of : List ℕ → ℕ → ℕ
level_of starts place = count_by (λ start. nat_le start place) starts

abbrev pub Ascend : List ℕ → Type 0
Ascend starts = (i j low high : ℕ) → i < j → slice_get starts i ≡ Some low → slice_get starts j ≡ Some high → low < high

level_cons : (start : ℕ) (starts : List ℕ) (place : ℕ) → level_of (start ∷ starts) place ≡ cond (nat_le start place)
    1 0 + level_of starts place
level_cons start starts place = sum_by-cons (λ s. cond (nat_le s place) 1 0) start starts

later : (s : ℕ) (ss : List ℕ) → Ascend (s ∷ ss) → Ascend ss
later s ss ascend i j low high less a b = ascend (suc i) (suc j) low high (omega (arith, less)) a b

level_none : (starts : List ℕ) (place : ℕ) → ((i start : ℕ) → slice_get starts i ≡ Some start → place < start)
    → level_of starts place ≡ 0
level_none [] place above = refl
level_none (s ∷ ss) place above =
    let here : nat_le s place ≡ false = lt-leb s place (above 0 s refl) in
    let more : level_of ss place ≡ 0 = level_none ss place (λ i start is. above (suc i) start is) in
    let none : ◌≡◌ {A = ℕ} (cond (nat_le s place) 1 0) 0 = rw here refl in
    omega (arith, level_cons s ss place, more, none)

-- a level has begun up to a place just where it counts for its level
pub begun_counts : (starts : List ℕ) (i start place : ℕ) → Ascend starts → slice_get starts i ≡ Some start
    → start ≤ place → i < level_of starts place
begun_counts [] i start place ascend is low = absurd (cc)
begun_counts (s ∷ ss) zero start place ascend is low =
    let same : s ≡ start = same_Some s start is in
    let here : nat_le s place ≡ true = le-leb s place (omega (arith, same, low)) in
    let one : ◌≡◌ {A = ℕ} (cond (nat_le s place) 1 0) 1 = rw here refl in
    omega (arith, level_cons s ss place, one)
begun_counts (s ∷ ss) (suc i) start place ascend is low =
    let more = begun_counts ss i start place (later s ss ascend) is low in
    let first : s < start = ascend zero (suc i) s start (omega arith) refl is in
    let here : nat_le s place ≡ true = le-leb s place (omega (arith, first, low)) in
    let one : ◌≡◌ {A = ℕ} (cond (nat_le s place) 1 0) 1 = rw here refl in
    omega (arith, level_cons s ss place, one, more)

pub counts_begun : (starts : List ℕ) (i start place : ℕ) → Ascend starts → slice_get starts i ≡ Some start
    → i < level_of starts place → start ≤ place
counts_begun [] i start place ascend is low = absurd (cc)
counts_begun (s ∷ ss) zero start place ascend is low = by (cases_lt place s)
  where
    by : (place < s) ⊎ (s ≤ place) → start ≤ place
    by (inr h) = let same : s ≡ start = same_Some s start is in omega (arith, same, h)
    by (inl h) =
        let none = level_none (s ∷ ss) place (λ i t at. above i t at) in absurd (omega (arith, none, low))
      where
        above : (k t : ℕ) → slice_get (s ∷ ss) k ≡ Some t → place < t
        above zero t at = let same : s ≡ t = same_Some s t at in omega (arith, same, h)
        above (suc k) t at = let more : s < t = ascend zero (suc k) s t (omega arith) refl at in omega (arith, more, h)
counts_begun (s ∷ ss) (suc i) start place ascend is low = counts_begun ss i start place (later s ss ascend) is
    (by (nat_le s place) refl)
  where
    by : (b : Bool) → nat_le s place ≡ b → i < level_of ss place
    by true here = let one : ◌≡◌ {A = ℕ} (cond (nat_le s place) 1 0) 1 = rw here refl in omega
        (arith, level_cons s ss place, one, low)
    by false here = let none : ◌≡◌ {A = ℕ} (cond (nat_le s place) 1 0) 0 = rw here refl in omega
        (arith, level_cons s ss place, none, low)

pub start_there : (starts : List ℕ) (i : ℕ) → i < length starts → (start : ℕ) × (slice_get starts i ≡ Some start)
start_there [] i within = absurd (omega (arith, within))
start_there (s ∷ ss) zero within = (s, refl)
start_there (s ∷ ss) (suc i) within = start_there ss i (omega (arith, within))

-- entries above the last level's start were implied
pub reasoned_above : (t : Trail) (level : ℕ) → AreEntries t → 0 < length t.starts → slice_get t.starts
    (length t.starts - 1) ≡ Some level → AreReasoned t.entries level
reasoned_above t level are deep begins place above within = by (entry_there t.entries place within).0.reason refl
  where
    e : (e : Entry) × (slice_get t.entries place ≡ Some e)
    e = entry_there t.entries place within

    none : (entry_there t.entries place within).0.reason ≡ None → ⊥
    none is = which (cases_lt start.0 (length t.starts - 1))
      where
        start : (i : ℕ) × (slice_get t.starts i ≡ Some place)
        start = are.assumed place (entry_there t.entries place within).0 (entry_there t.entries place within).1 is

        which : ((are.assumed place (entry_there t.entries place within).0 (entry_there t.entries place within).1
            is).0 < length t.starts - 1) ⊎
            (length t.starts - 1 ≤ (are.assumed place (entry_there t.entries place within).0
            (entry_there t.entries place within).1 is).0) → ⊥
        which (inl h) = let low = are.ascend start.0 (length t.starts - 1) place level h start.1 begins in omega
            (arith, low, above)
        which (inr h) =
            let w = slice_get_within t.starts start.0 place start.1 in
            let last : start.0 ≡ length t.starts - 1 = omega (arith, h, w) in
            let same : place ≡ level = same_Some place level (sym start.1 ∙ ap (slice_get t.starts) last ∙ begins) in
            omega (arith, same, above)

    by : (r : Option ℕ) → (entry_there t.entries place within).0.reason ≡ r → IsReasoned t.entries place
    by (Some clause) is = (clause, reason_here t.entries place e.0 e.1 ∙ is)
    by None is = absurd (none is)
