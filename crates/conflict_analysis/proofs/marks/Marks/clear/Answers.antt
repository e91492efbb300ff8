use Rattle.std.proofs.Common.{◌∙◌, ◌+◌, ap, length, replicate, false, arith}
use Rattle.conflict_analysis.proofs.Rounds.{cleared}
use Rattle.conflict_analysis.proofs.marks.Marks.clear.Goals as goal

pub returns-then-self-lt4294967295 : goal.returns-then-self-lt4294967295
returns-then-self-lt4294967295 c =
    let inside = c.self.inside in
    cleared inside.round (inside.round + 1) inside.rounds.items (omega arith) c.self.invariant
    ∙ ap (λ bs. replicate (length bs) false) c.self.view_is
