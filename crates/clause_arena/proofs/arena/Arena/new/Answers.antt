use Rattle.std.proofs.Common.{◌≡◌, ◌*◌, ◌∙◌, [], map, replicate, refl, ap, arith}
use Rattle.clause_arena.specs.Slots.{clause_of, clauses_of}
use Rattle.clause_arena.proofs.Halves.{map_empty}
use Rattle.clause_arena.proofs.arena.Arena.new.Goals as goal

pub returns-clause-watchers : goal.returns-clause-watchers
returns-clause-watchers c =
    let twice : c.in-Some.owners ≡ 2 * c.args.vars = omega (arith, c.in-Some.ensures) in
    ap clauses_of c.in-Ok.ensures.lists ∙ map_empty (map clause_of) refl c.in-Some.owners ∙ ap (λ n. replicate n []) twice
