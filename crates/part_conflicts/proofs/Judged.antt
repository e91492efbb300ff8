-- What an explanation of whether a specification is consistent tells.
use Rattle.std.proofs.Common.{◌≡◌, ◌≢◌, ℕ, List, ◌++◌, ◌∷◌, [], Some, None, inl, inr, refl, subst, slice_get}
use Rattle.std.proofs.lemmas.Option.{none-some}
use Rattle.core_explain.specs.Explained.{ExplainsUnit, HasNoUnit, IsExplained, IsSpentTrying, IsTried, IsUnit}
use Rattle.core_explain.specs.declared.explaining.Explained.{Explained}
use Rattle.core_explain.specs.declared.explaining.Explained.TheVariants as explained
use Rattle.core_explain.specs.Explained.{HasTooMany}
use Rattle.minimal_items.specs.Reduced.{IsSpentOn}
use Rattle.minimal_items.specs.declared.needed.Needed.{Needed}
use Rattle.minimal_items.specs.declared.reducing.Spent.{Spent}
use Rattle.report_model.specs.declared.report.Report.{Report}
use Rattle.report_model.specs.declared.verdict.Verdict.{Verdict}
use Rattle.report_model.specs.declared.verdict.Verdict.TheVariants as verdict
use Rattle.report_verify.specs.Right.{IsRight}
use Rattle.report_verify.specs.Supported.{IsOneOf, Need, needs_of}
use Rattle.spec_model.specs.Completion.{Rankings}
use Rattle.spec_model.specs.Consistent.{IsSatisfiable}
use Rattle.spec_model.specs.Spec.{Spec}
use Rattle.spec_model.specs.declared.question.Question.{Question}
use Rattle.spec_model.specs.declared.question.Question.TheVariants.{Consistent}
use Rattle.part_conflicts.specs.Steps.{IsPartDecided, conflict}
use Rattle.part_conflicts.specs.declared.found.Conflict.{Conflict}
use Rattle.part_conflicts.specs.declared.found.Found.TheVariants as found

-- ---- no verdict on it has a unit

no_need : (s : Spec) (unit : ℕ) (need : Need) (v : Verdict) → IsOneOf s Consistent v
    → slice_get (needs_of Consistent v) unit ≡ Some need → ⊥
no_need s unit need verdict.Inconsistent of is = none-some need is
no_need s unit need verdict.Consistent of is = none-some need is
no_need s unit need verdict.Certain of is = absurd of
no_need s unit need (verdict.NotCertain p) of is = absurd of
no_need s unit need (verdict.Same items) of is = absurd of
no_need s unit need (verdict.NotSame rel attr ent) of is = absurd of
no_need s unit need (verdict.Answers tuples) of is = absurd of
no_need s unit need (verdict.Undecided counted) of is = none-some need is

is_no_unit : (s : Spec) (unit : ℕ) (need : Need) → IsUnit s Consistent unit need → ⊥
is_no_unit s unit need is = no_need s unit need is.verdict is.is_verdict.of_question is.is_unit

explains_no_unit : (s : Spec) (unit : ℕ) (needed : List Needed) → ExplainsUnit s Consistent unit needed → ⊥
explains_no_unit s unit needed is = is_no_unit s unit is.need is.is_unit

-- ---- it is no query

no_answers : (s : Spec) (c : Rankings) → HasTooMany s Consistent c → ⊥
no_answers s c is = none-some is.query is.is_query

-- ---- consistent

right_consistent : (s : Spec) (v : Verdict) → IsRight s Consistent v → v ≢ verdict.Inconsistent → IsSatisfiable s
right_consistent s verdict.Inconsistent right other = absurd (other refl)
right_consistent s verdict.Consistent right other = right
right_consistent s verdict.Certain right other = absurd right
right_consistent s (verdict.NotCertain p) right other = absurd right
right_consistent s (verdict.Same items) right other = absurd right
right_consistent s (verdict.NotSame rel attr ent) right other = absurd right
right_consistent s (verdict.Answers tuples) right other = absurd right
right_consistent s (verdict.Undecided counted) right other = absurd right

consistent : (s : Spec) (unit : ℕ) (report : Report) → HasNoUnit s Consistent unit report → IsSatisfiable s
consistent s unit report is = right_consistent s report.verdict is.right is.consistent

-- ---- spent

tried_consistent : (s : Spec) (unit : ℕ) (tried : Question) → IsTried s Consistent unit tried → tried ≡ Consistent
tried_consistent s unit tried (inl is) = is
tried_consistent s unit tried (inr is) = absurd (is_no_unit s unit is.0 is.1)

spent_on : (s : Spec) (unit budget : ℕ) (spent : Spent) → IsSpentTrying s Consistent unit budget spent
    → IsSpentOn s Consistent budget spent
spent_on s unit budget spent is =
    subst (λ (q : Question). IsSpentOn s q budget spent) (tried_consistent s unit is.tried is.is_tried) is.is_spent

-- ---- what is told of a part is decided

module _ (part : Spec) (budget : ℕ) (e : Explained) (told : IsExplained part Consistent 0 budget e) where
  tells : (x : Explained) → e ≡ x → IsExplained part Consistent 0 budget x
  tells x is = subst (IsExplained part Consistent 0 budget) is told

  pub listed : (needed : List Needed) (old new : List Conflict) → e ≡ explained.Inconsistent needed
      → new ≡ old ++ conflict part needed ∷ [] → IsPartDecided part budget old new None
  listed needed old new is put =
      inl (record { needed = needed; explained = tells (explained.Inconsistent needed) is; listed = put })

  pub passed : (report : Report) (list : List Conflict) → e ≡ explained.NoUnit report
      → IsPartDecided part budget list list None
  passed report list is =
      inr (record { satisfiable = consistent part 0 report (tells (explained.NoUnit report) is); kept = refl })

  pub no_unit : (needed : List Needed) → e ≡ explained.Unit needed → ⊥
  no_unit needed is = explains_no_unit part 0 needed (tells (explained.Unit needed) is)

  pub not_too_many : (c : Rankings) → e ≡ explained.TooMany c → ⊥
  not_too_many c is = no_answers part c (tells (explained.TooMany c) is)

  pub undecided : (report : Report) (old new : List Conflict) → e ≡ explained.Undecided report
      → IsPartDecided part budget old new (Some (found.Undecided part report))
  undecided report old new is = (refl, tells (explained.Undecided report) is)

  pub open_with : (spent : Spent) (old new : List Conflict) → e ≡ explained.Open spent
      → IsPartDecided part budget old new (Some (found.Open part spent))
  open_with spent old new is = (refl, spent_on part 0 budget spent (tells (explained.Open spent) is))
