-- A report that is undecided says that the budget was spent.
use Rattle.std.proofs.Common.{◌≡◌, ◌∙◌, ℕ, Bool, true, false, refl, sym, ap, subst}
use Rattle.currency_ask.specs.Answered.{IsAnswerWithin}
use Rattle.report_model.specs.Verdicts.{is_decided, kind_of}
use Rattle.report_model.specs.declared.report.Report.{Report}
use Rattle.report_model.specs.declared.verdict.Verdict.{Verdict}
use Rattle.report_model.specs.declared.verdict.Verdict.TheVariants as verdict
use Rattle.spec_model.specs.Spec.{Spec}
use Rattle.spec_model.specs.declared.question.Question.{Question}
use Rattle.answer_texts.specs.Answers.{IsAnswer, IsShort}

pub true_not_false : ◌≡◌ {A = Bool} true false → ⊥
true_not_false h = cc

-- nothing else is answered undecided
no_kind : (r : Report) (v : Verdict) → r.verdict ≡ v → is_decided (kind_of v) ≡ true → is_decided (kind_of r.verdict) ≡ false → ⊥
no_kind r v is decided undecided = true_not_false
    (sym decided ∙ subst (λ (w : Verdict). is_decided (kind_of w) ≡ false) is undecided)

undecided_at : (s : Spec) (q : Question) (budget : ℕ) (r : Report) (v : Verdict) → r.verdict ≡ v → IsAnswerWithin s q
    budget r → is_decided (kind_of r.verdict) ≡ false
    → r.verdict ≡ verdict.Undecided budget
undecided_at s q budget r verdict.Inconsistent is within undecided = absurd (no_kind r _ is refl undecided)
undecided_at s q budget r verdict.Consistent is within undecided = absurd (no_kind r _ is refl undecided)
undecided_at s q budget r verdict.Certain is within undecided = absurd (no_kind r _ is refl undecided)
undecided_at s q budget r (verdict.NotCertain p) is within undecided = absurd (no_kind r _ is refl undecided)
undecided_at s q budget r (verdict.Same items) is within undecided = absurd (no_kind r _ is refl undecided)
undecided_at s q budget r (verdict.NotSame rel attr ent) is within undecided = absurd (no_kind r _ is refl undecided)
undecided_at s q budget r (verdict.Answers tuples) is within undecided = absurd (no_kind r _ is refl undecided)
undecided_at s q budget r (verdict.Undecided counted) is within undecided = is ∙ ap verdict.Undecided ((rw is at within).1)

pub short : (s : Spec) (q : Question) (budget : ℕ) (r : Report) → IsAnswer s q budget r → is_decided
    (kind_of r.verdict) ≡ false → IsShort s q budget r.verdict
short s q budget r answer undecided = (
  undecided_at s q budget r r.verdict refl answer.within undecided,
  λ count counts enough. true_not_false
      (sym (answer.enough count counts enough) ∙ undecided),
)
