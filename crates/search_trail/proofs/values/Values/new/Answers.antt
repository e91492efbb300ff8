use Rattle.std.proofs.Common.{◌≡◌, None, replicate, rules}
use Rattle.search_trail.specs.Trails.{whole_scope}
use Rattle.search_trail.proofs.Marks.{given_new}
use Rattle.search_trail.proofs.values.Values.new.Goals as goal

pub invariant_of-result : goal.invariant_of-result
invariant_of-result c =
    let given : c.in-Ok.given.items ≡ replicate c.args.vars None = search rules in
    let scope : c.in-Ok-all_of.scope.items ≡ whole_scope c.args.vars = c.in-Ok-all_of.ensures in
    rw (given, scope) (given_new c.args.vars c.requires)
