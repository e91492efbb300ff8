use Rattle.std.proofs.Common.{All, take}
use Rattle.report_verify.proofs.listed.one_breaks.Given as goal
use Rattle.report_verify.specs.Right.{PairHolds}

abbrev pub invariant-loop-completion : goal.invariant-loop-completion
invariant-loop-completion l = All (PairHolds l.pair) (take l.completion-index l.completions)
