-- What the kind of a verdict tells of the report that answers a question.
use Rattle.std.proofs.Common.{◌≡◌, ◌≢◌, ℕ, true, List, refl, ap, subst}
use Rattle.minimal_items.specs.Trials.{IsAnswerWithin, IsSpent}
use Rattle.refutation_log.specs.declared.log.Log.{Log}
use Rattle.report_model.specs.Verdicts.{is_decided, kind_of}
use Rattle.report_model.specs.declared.report.Report.{Report}
use Rattle.report_model.specs.declared.verdict.VerdictKind.{VerdictKind}
use Rattle.report_model.specs.declared.verdict.VerdictKind.TheVariants as kind
use Rattle.report_model.specs.declared.verdict.Verdict.{Verdict}
use Rattle.report_model.specs.declared.verdict.Verdict.TheVariants as verdict
use Rattle.report_verify.specs.Right.{IsRight}
use Rattle.spec_model.specs.Completion.{Rankings}
use Rattle.spec_model.specs.Consistent.{IsSatisfiable}
use Rattle.spec_model.specs.Spec.{Spec}
use Rattle.spec_model.specs.declared.question.Question.{Question}
use Rattle.spec_model.specs.declared.question.Question.TheVariants as asked
use Rattle.core_explain.specs.Steps.{IsAnswer, IsDecidedAnswer}

is_inconsistent : (v : Verdict) → kind_of v ≡ kind.Inconsistent → v ≡ verdict.Inconsistent
is_inconsistent verdict.Inconsistent e = refl
is_inconsistent verdict.Consistent e = cc
is_inconsistent verdict.Certain e = cc
is_inconsistent (verdict.NotCertain p) e = cc
is_inconsistent (verdict.Same items) e = cc
is_inconsistent (verdict.NotSame rel attr ent) e = cc
is_inconsistent (verdict.Answers tuples) e = cc
is_inconsistent (verdict.Undecided counted) e = cc

is_undecided : (v : Verdict) → kind_of v ≡ kind.Undecided → (counted : ℕ) × (v ≡ verdict.Undecided counted)
is_undecided verdict.Inconsistent e = cc
is_undecided verdict.Consistent e = cc
is_undecided verdict.Certain e = cc
is_undecided (verdict.NotCertain p) e = cc
is_undecided (verdict.Same items) e = cc
is_undecided (verdict.NotSame rel attr ent) e = cc
is_undecided (verdict.Answers tuples) e = cc
is_undecided (verdict.Undecided counted) e = (counted, refl)

decided : (k : VerdictKind) → k ≢ kind.Undecided → is_decided k ≡ true
decided kind.Inconsistent other = refl
decided kind.Consistent other = refl
decided kind.Certain other = refl
decided kind.NotCertain other = refl
decided kind.Same other = refl
decided kind.NotSame other = refl
decided kind.Answers other = refl
decided kind.Undecided other = absurd (other refl)

right_none : (s : Spec) (q : Question) → IsRight s q verdict.Inconsistent → IsSatisfiable s → ⊥
right_none s asked.Consistent right = right
right_none s (asked.Certain pairs) right = right
right_none s (asked.Same rels) right = right
right_none s (asked.Answers query) right = right

pub none_consistent : (s : Spec) (q : Question) (budget : ℕ) (report : Report) → IsAnswer s q budget report
    → kind_of report.verdict ≡ kind.Inconsistent → IsSatisfiable s → ⊥
none_consistent s q budget report answer is =
    right_none s q
    (subst (IsRight s q) (is_inconsistent report.verdict is) (answer.right (ap is_decided is)))

pub decided_answer : (s : Spec) (q : Question) (budget : ℕ) (report : Report) → IsAnswer s q budget report
    → kind_of report.verdict ≢ kind.Undecided → kind_of report.verdict ≢ kind.Inconsistent → IsDecidedAnswer s q report
decided_answer s q budget report answer told consistent = record {
  shown = answer.shown;
  right = answer.right (decided (kind_of report.verdict) told);
  consistent = λ is. consistent (ap kind_of is);
  writable = answer.writable;
}

-- of a verdict that is `undecided`, by its parts
counted_all : (s : Spec) (q : Question) (budget : ℕ) (v : Verdict) (completions : List Rankings) (log : Log) (counted : ℕ)
    → v ≡ verdict.Undecided counted
    → IsAnswerWithin s q budget (record { verdict = v; completions = completions; log = log }) → v ≡ verdict.Undecided budget
counted_all s q budget v completions log counted is within =
    let of : IsAnswerWithin s q budget (record { verdict = verdict.Undecided counted; completions = completions; log = log }) =
    subst (λ (x : Verdict). IsAnswerWithin s q budget (record { verdict = x; completions = completions; log = log })) is within in
    subst (λ n. v ≡ verdict.Undecided n) of.1 is

pub all_spent : (s : Spec) (q : Question) (budget : ℕ) (report : Report) → IsAnswer s q budget report
    → kind_of report.verdict ≡ kind.Undecided → IsSpent s q budget report
all_spent s q budget report answer is =
    let of = is_undecided report.verdict is in
    record {
      undecided = counted_all s q budget report.verdict report.completions report.log of.0 of.1 answer.lists;
      shown = answer.shown;
      writable = answer.writable;
      within = answer.lists;
    }
