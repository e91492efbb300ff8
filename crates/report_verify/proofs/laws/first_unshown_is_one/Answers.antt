use Rattle.report_verify.proofs.Firsts.{CheckLaws}
use Rattle.report_verify.proofs.FirstUnshown.{one_unshown}
use Rattle.report_verify.proofs.laws.first_unshown_is_one.Goals as goal

pub returns : goal.returns
returns c s question report =
    let laws : CheckLaws = record {
      rules_out = c.flaw_rules_out.ensures;
      one_flaw = c.first_flaw_is_one.ensures;
      no_fault = c.one_verdict_on_a_log.ensures.accepted;
      one_fault = c.one_verdict_on_a_log.ensures.refused;
    } in
    one_unshown s question report laws
