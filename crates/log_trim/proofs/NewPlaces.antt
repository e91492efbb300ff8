-- What is kept stands at its new place, and nothing else stands there.
use Rattle.std.proofs.Common.{◌≡◌, ◌⊎◌, inl, inr, ◌<◌, ℕ, zero, suc, ◌+◌, Bool, true, false, List, [], ◌∷◌, map, Some, None, option_map, slice_get, refl, sym, ap, ◌∙◌, arith}
use Rattle.std.proofs.lemmas.Bool.{cases_Bool}
use Rattle.std.proofs.lemmas.Option.{slice_get-map, slice_get_cases, same_Some}
use Rattle.log_trim.specs.Trimmed.{kept_of, rank, renumbered_step, renumbered_statement}
use Rattle.log_trim.specs.Laws.{StepsKeep, StatementsKeep, AnswersKeep, GoalsKeep}
use Rattle.log_trim.proofs.Ranks.{behind}

pub kept_at : {X : Type 0} (keep : ℕ → Bool) (xs : List X) (n : ℕ) (x : X) → slice_get xs n ≡ Some x → keep n ≡ true
    → slice_get (kept_of keep xs) (rank keep n) ≡ Some x
kept_at keep [] n x there kept = absurd (cc)
kept_at keep (y ∷ ys) zero x there kept = rw kept there
kept_at keep (y ∷ ys) (suc n) x there kept =
    let later = kept_at (behind keep) ys n x there kept in
    elim (cases_Bool (keep 0)) [ inl e ↦ rw e later | inr e ↦ rw e later ]

-- where an item that is kept stood
pub record IsFrom {X : Type 0} (keep : ℕ → Bool) (xs : List X) (new : ℕ) (x : X) : Type 0 where
  pub place : ℕ
  pub there : slice_get xs place ≡ Some x
  pub kept : keep place ≡ true
  pub is_new : rank keep place ≡ new

from_later : {X : Type 0} (keep : ℕ → Bool) (y : X) (ys : List X) (new next : ℕ) (x : X) → rank keep 1 + new ≡ next
    → IsFrom (behind keep) ys new x → IsFrom keep (y ∷ ys) next x
from_later keep y ys new next x same one =
    elim (cases_Bool (keep 0)) [
      | inl e ↦
          let more : 1 + new ≡ next = rw e at same in
          let new_place = one.is_new in
          record { place = suc one.place; there = one.there; kept = one.kept; is_new = rw e (omega arith) }
      | inr e ↦
          let more : 0 + new ≡ next = rw e at same in
          let new_place = one.is_new in
          record { place = suc one.place; there = one.there; kept = one.kept; is_new = rw e (omega arith) }
    ]

pub kept_from : {X : Type 0} (keep : ℕ → Bool) (xs : List X) (new : ℕ) (x : X) → slice_get (kept_of keep xs) new ≡ Some x
    → IsFrom keep xs new x
kept_from keep [] new x there = absurd (cc)
kept_from {X} keep (y ∷ ys) new x there = go (cases_Bool (keep 0)) new there (λ k h. kept_from (behind keep) ys k x h)
  where
    go : ((keep 0 ≡ true) ⊎ (keep 0 ≡ false)) → (k : ℕ) → slice_get (kept_of keep (y ∷ ys)) k ≡ Some x
        → ((k : ℕ) → slice_get (kept_of (behind keep) ys) k ≡ Some x → IsFrom (behind keep) ys k x) → IsFrom keep (y ∷ ys) k x
    go (inl e) zero here later = record { place = 0; there = rw e at here; kept = e; is_new = refl }
    go (inl e) (suc k) here later = from_later keep y ys k (suc k) x (rw e (omega arith)) (later k (rw e at here))
    go (inr e) k here later = from_later keep y ys k k x (rw e (omega arith)) (later k (rw e at here))

pub rank_lt : (keep : ℕ → Bool) (n m : ℕ) → keep n ≡ true → n < m → rank keep n < rank keep m
rank_lt keep n zero kept below = absurd (omega arith)
rank_lt keep zero (suc m) kept below = rw kept (omega arith)
rank_lt keep (suc n) (suc m) kept below =
    let later : rank (behind keep) n < rank (behind keep) m = rank_lt (behind keep) n m kept (omega arith) in
    elim (cases_Bool (keep 0)) [ inl e ↦ rw e (omega arith) | inr e ↦ rw e later ]

pub rank_same : (keep : ℕ → Bool) (n m : ℕ) → keep n ≡ true → keep m ≡ true → rank keep n ≡ rank keep m → n ≡ m
rank_same keep n m n_kept m_kept same =
    let not_below : n < m → ⊥ = λ below. let h = rank_lt keep n m n_kept below in omega arith in
    let not_above : m < n → ⊥ = λ above. let h = rank_lt keep m n m_kept above in omega arith in
    omega arith

-- the item that a new one was, and where it stood
pub changed_from : {X Y : Type 0} (f : X → Y) (keep : ℕ → Bool) (xs : List X) (ys : List Y) (new : ℕ) (y : Y)
    → ys ≡ map f (kept_of keep xs) → slice_get ys new ≡ Some y → (x : X) × IsFrom keep xs new x × (f x ≡ y)
changed_from {X} {Y} f keep xs ys new y same there =
    let mapped : option_map f (slice_get (kept_of keep xs) new) ≡ Some y =
    sym (slice_get-map f (kept_of keep xs) new) ∙ ap (λ (zs : List Y). slice_get zs new) (sym same) ∙ there in
    elim ((slice_get_cases (kept_of keep xs) new).1) [
      | inl one ↦
          let at : Some (f one.0) ≡ Some y = rw one.2 at mapped in
          (one.0, kept_from keep xs new one.0 one.2, same_Some (f one.0) y at)
      | inr past ↦ let none : option_map f None ≡ Some y = rw past.1 at mapped in absurd (cc)
    ]

-- ---- the laws

changed_at : {X Y : Type 0} (f : X → Y) (xs : List X) (ys : List Y) (n : ℕ) (x : X) → ys ≡ map f xs → slice_get xs n ≡ Some x
    → slice_get ys n ≡ Some (f x)
changed_at f xs ys n x same there = rw same (rw (slice_get-map f xs n, there) refl)

pub steps_keep : StepsKeep
steps_keep log goals trimmed t place s reached there =
    changed_at (renumbered_step t.step_kept t.statement_kept) (kept_of t.step_kept log.steps) trimmed.log.steps
    (rank t.step_kept place) s t.steps
    (kept_at t.step_kept log.steps place s there ((t.kept_steps place).1 reached))

pub statements_keep : StatementsKeep
statements_keep log goals trimmed t var s used there =
    changed_at (renumbered_statement t.answer_kept) (kept_of t.statement_kept log.statements) trimmed.log.statements
    (rank t.statement_kept var) s t.statements
    (kept_at t.statement_kept log.statements var s there ((t.kept_statements var).1 used))

pub answers_keep : AnswersKeep
answers_keep log goals trimmed t tuple answer named there =
    rw t.answers (kept_at t.answer_kept log.answers tuple answer there ((t.kept_answers tuple).1 named))

pub goals_keep : GoalsKeep
goals_keep log goals trimmed t k goal there = changed_at (rank t.step_kept) goals trimmed.goals k goal t.new_goals there
