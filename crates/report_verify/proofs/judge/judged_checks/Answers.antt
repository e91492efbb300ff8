use Rattle.report_verify.proofs.Refusing.{on_err, on_ok, supported, uncommon_refused, unmet_refused}
use Rattle.report_verify.proofs.judge.judged_checks.Goals as goal
use Rattle.report_verify.specs.Shown.{IsSound, Refuses, ShowsVerdict}

pub returns-in-Err-check_units-clause-refused : goal.returns-in-Err-check_units-clause-refused
returns-in-Err-check_units-clause-refused c =
    let sound : IsSound c.args.spec.now c.args.question.now c.args.report.now = record {
      one_of = c.requires.one_of;
      consistent = c.in_default.ensures.consistent;
      accepted = c.in-Ok.ensures.accepted;
    } in
    unmet_refused c.args.spec.now c.args.question.now c.args.report.now sound c.in-Err-check_units.fault
    c.in_default-lacking.ensures.nothing c.in-Err-check_units.ensures.unmet

pub returns-clause-shown : goal.returns-clause-shown
returns-clause-shown c =
    let sound : IsSound c.args.spec.now c.args.question.now c.args.report.now = record {
      one_of = c.requires.one_of;
      consistent = c.in_default.ensures.consistent;
      accepted = c.in-Ok.ensures.accepted;
    } in
    on_ok c.check_common.result _ (ShowsVerdict c.args.spec.now c.args.question.now c.args.report.now)
    c.check_common.ensures.common
    (λ common. record {
      sound = sound;
      supported = supported c.args.spec.now c.args.question.now c.args.report.now.verdict c.args.report.now.completions
          c.args.report.now.log c.requires.one_of c.in_default-lacking.ensures.nothing
          c.in_default-check_units.ensures.derived common;
    })

pub returns-clause-refused : goal.returns-clause-refused
returns-clause-refused c =
    let sound : IsSound c.args.spec.now c.args.question.now c.args.report.now = record {
      one_of = c.requires.one_of;
      consistent = c.in_default.ensures.consistent;
      accepted = c.in-Ok.ensures.accepted;
    } in
    on_err c.check_common.result _ (Refuses c.args.spec.now c.args.question.now c.args.report.now) c.check_common.ensures.uncommon
    (λ fault apart.
    uncommon_refused c.args.spec.now c.args.question.now c.args.report.now sound fault c.in_default-lacking.ensures.nothing
    c.in_default-check_units.ensures.derived apart)
