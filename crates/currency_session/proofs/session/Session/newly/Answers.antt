use Rattle.std.proofs.Common.{subst}
use Rattle.report_write.specs.Writable.{IsWritableReport}
use Rattle.spec_model.specs.Spec.{Spec}
use Rattle.currency_session.specs.Starts.{IsStart}
use Rattle.currency_session.proofs.session.Session.newly.Goals as goal

pub invariant_of-self : goal.invariant_of-self
invariant_of-self g c =
    record {
      kept =
          c.put.ensures.facts c.self.inside.edited.relations c.self.invariant.kept
          (subst (λ (s : Spec). IsWritableReport s.relations c.in-Ok.report) c.spec.ensures.value
          c.in-Ok.ensures.answer.writable);
      start = subst (λ (s : Spec). IsStart s c.searched.new.start) c.spec.ensures.value c.searched.ensures.start;
    }
