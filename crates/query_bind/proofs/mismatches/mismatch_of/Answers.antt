-- The kinds that are noted are those that the disjunct gives.
use Rattle.std.proofs.Common.{◌∙◌, ap}
use Rattle.std.proofs.Math.Path.{fun_ext}
use Rattle.query_bind.specs.Queried.{mismatch_by}
use Rattle.query_bind.specs.Steps.{kind_among}
use Rattle.query_bind.proofs.mismatches.mismatch_of.Goals as goal

pub returns : goal.returns
returns c =
    c.mismatch_in.ensures
    ∙ ap (λ own. mismatch_by c.args.names.now c.args.relations.now own (kind_among c.args.head.now c.args.before.now)
    c.args.disjunct.now) (fun_ext c.in_ok-own.ensures)
