use Rattle.std.proofs.Common.{All, take}
use Rattle.report_verify.proofs.listed.one_differs.Given as goal
use Rattle.report_verify.specs.Listed.{AgreesAt}

abbrev pub invariant-loop-completion : goal.invariant-loop-completion
invariant-loop-completion l = All (AgreesAt l.spec.relations l.rel l.attr l.ent l.fn.first)
    (take l.completion-index l.completions)
