use Rattle.report_verify.proofs.Claimed.{TruthLaws, right}
use Rattle.report_verify.proofs.laws.shown_is_right.Goals as goal

pub returns : goal.returns
returns c s question report facts on shown decided =
    let laws : TruthLaws = record {
      answers = record {
        steps = c.accepted_logs_are_true.ensures.steps;
        exist = c.instances_exist.ensures.exist;
        decided = c.answers_in_are_decided.ensures;
      };
      none = c.accepted_logs_are_true.ensures.none;
    } in
    right laws s facts report.log question report.verdict report.completions shown.sound.accepted on shown.sound.one_of
    shown.sound.consistent shown.supported decided
