use Rattle.std.proofs.Common.{[], ◌∙◌, sym}
use Rattle.solver_guides.proofs.FirstFrees.{as_is_free, some_is_free}
use Rattle.solver_guides.proofs.ring.first_negated.Goals as goal

pub unreachable-requires : goal.unreachable-requires
unreachable-requires c =
    some_is_free [] c.args.values.now c.requires.0 c.requires.1 (sym c.in-None.is ∙ c.first_free_as.ensures)

pub returns-clause-free : goal.returns-clause-free
returns-clause-free c =
    as_is_free [] c.args.values.now c.in-Some.lit (sym c.in-Some.is ∙ c.first_free_as.ensures)
