use Rattle.report_verify.proofs.Firsts.{CheckLaws}
use Rattle.report_verify.proofs.FirstUnshown.{not_shown}
use Rattle.report_verify.proofs.laws.first_unshown_is_not_shown.Goals as goal

pub returns : goal.returns
returns c s question report part why =
    let laws : CheckLaws = record {
      rules_out = c.flaw_rules_out.ensures;
      one_flaw = c.first_flaw_is_one.ensures;
      no_fault = c.one_verdict_on_a_log.ensures.accepted;
      one_fault = c.one_verdict_on_a_log.ensures.refused;
    } in
    not_shown s question report laws part why
