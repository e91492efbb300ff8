use Rattle.copy_functions.specs.Copies.{IsCopied}
use Rattle.spec_parts.specs.Steps.{IsCopySoFar}
use Rattle.spec_parts.proofs.copies.copy_part.Given as goal

abbrev pub invariant-loop-row : goal.invariant-loop-row
invariant-loop-row l = record {
  so_far : IsCopySoFar l.copy l.targets l.sources l.row l.new;
  copied : IsCopied l.new l.target_rows l.source_rows;
}
