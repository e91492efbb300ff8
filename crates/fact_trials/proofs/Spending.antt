-- A report that is undecided says that the budget is spent.
use Rattle.std.proofs.Common.{◌≡◌, ◌∙◌, ℕ, true, false, refl, sym, ap, subst}
use Rattle.std.proofs.lemmas.Bool.{false≢true}
use Rattle.currency_ask.specs.Answered.{IsAnswerWithin}
use Rattle.report_model.specs.Verdicts.{is_decided, kind_of}
use Rattle.report_model.specs.declared.report.Report.{Report}
use Rattle.report_model.specs.declared.verdict.Verdict.{Verdict}
use Rattle.report_model.specs.declared.verdict.Verdict.TheVariants as verdict
use Rattle.report_verify.specs.Shown.{ShowsVerdict}
use Rattle.report_write.specs.Writable.{IsWritableReport}
use Rattle.spec_model.specs.Spec.{Spec}
use Rattle.spec_model.specs.declared.question.Question.{Question}
use Rattle.fact_trials.specs.Trials.{IsSpent}

-- nothing that is decided is undecided
none : (r : Report) (v : Verdict) → r.verdict ≡ v → is_decided (kind_of v) ≡ true → is_decided (kind_of r.verdict) ≡ false → ⊥
none r v is decided undecided =
    false≢true (sym (subst (λ (x : Verdict). is_decided (kind_of x) ≡ false) is undecided) ∙ decided)

undecided_by : (s : Spec) (q : Question) (budget : ℕ) (r : Report) (v : Verdict) → r.verdict ≡ v → IsAnswerWithin s q budget r
    → is_decided (kind_of r.verdict) ≡ false → r.verdict ≡ verdict.Undecided budget
undecided_by s q budget r verdict.Inconsistent is within undecided = absurd (none r _ is refl undecided)
undecided_by s q budget r verdict.Consistent is within undecided = absurd (none r _ is refl undecided)
undecided_by s q budget r verdict.Certain is within undecided = absurd (none r _ is refl undecided)
undecided_by s q budget r (verdict.NotCertain p) is within undecided = absurd (none r _ is refl undecided)
undecided_by s q budget r (verdict.Same items) is within undecided = absurd (none r _ is refl undecided)
undecided_by s q budget r (verdict.NotSame rel attr ent) is within undecided = absurd (none r _ is refl undecided)
undecided_by s q budget r (verdict.Answers tuples) is within undecided = absurd (none r _ is refl undecided)
undecided_by s q budget r (verdict.Undecided counted) is within undecided = is ∙ ap verdict.Undecided ((rw is at within).1)

pub is_spent : (s : Spec) (q : Question) (budget : ℕ) (r : Report) → ShowsVerdict s q r → IsWritableReport s.relations r
    → IsAnswerWithin s q budget r → is_decided (kind_of r.verdict) ≡ false → IsSpent s q budget r
is_spent s q budget r shown writable within undecided =
    record {
      undecided = undecided_by s q budget r r.verdict refl within undecided;
      shown = shown;
      writable = writable;
      within = within;
    }
