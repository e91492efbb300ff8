use Rattle.std.proofs.Common.{◌≡◌, replicate, rules}
use Rattle.conflict_analysis.proofs.Rounds.{none_met}
use Rattle.conflict_analysis.proofs.marks.Marks.new.Goals as goal

pub returns-in-Ok : goal.returns-in-Ok
returns-in-Ok c =
    let rounds : c.in-Ok.rounds.items ≡ replicate c.args.places 0 = search rules in
    rw rounds (none_met c.args.places)
