use Rattle.std.proofs.Common.{◌∙◌}
use Rattle.search_trail.proofs.Scopes.{answered}
use Rattle.search_trail.proofs.values.stands_in.Goals as goal

pub returns : goal.returns
returns c =
    c.is_ok.ensures.value ∙ answered c.args.scope.now c.args.var c.binary_search.result c.requires
    c.binary_search.ensures.position
