-- What is left makes of the copy function so far what the whole makes.
use Rattle.std.proofs.Common.{◌≡◌, drop}
use Rattle.std.specs.Prelude.{option_map}
use Rattle.copy_functions.specs.Copies.{IsCopied}
use Rattle.copy_bind.specs.Copied.{with_mappings}
use Rattle.copy_bind.specs.Steps.{KeepsHead}
use Rattle.copy_bind.proofs.map.with_mappings.Given as goal

abbrev pub invariant-loop-mapping : goal.invariant-loop-mapping
invariant-loop-mapping l = record {
  rest : with_mappings (option_map (λ n. n.now) l.document) l.target.relation.rows l.source.relation.rows l.copy
      (drop l.mapping-index l.mappings)
      ≡ with_mappings (option_map (λ n. n.now) l.document) l.target.relation.rows l.source.relation.rows l.fn.copy l.mappings;
  keeps : KeepsHead l.fn.copy l.copy;
  copied : IsCopied l.copy l.target.relation.rows l.source.relation.rows;
}
