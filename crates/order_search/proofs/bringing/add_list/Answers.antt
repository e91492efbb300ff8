use Rattle.std.proofs.Common.{◌≡◌, ◌++◌, All, List, length, subst, sym}
use Rattle.refutation_log.specs.declared.statement.Statement.{Statement}
use Rattle.order_search.specs.Kept.{IsFitAxiom}
use Rattle.order_search.proofs.Growing.{axioms_fit, has_some, have_threes, on_ok, three_axioms}
use Rattle.order_search.proofs.bringing.add_list.Goals as goal

pub add_all-requires : goal.add_all-requires
add_all-requires g c =
    let s = c.args.subject.now in
    let cycle = c.args.cycle in
    subst (λ (ss : List Statement). All (IsFitAxiom (length ss)) c.in-Ok.axioms) (sym c.requires.statements)
    (axioms_fit s c.in-Ok.axioms (three_axioms s cycle.rel cycle.attr cycle.ent.0 c.in-Ok.axioms c.in-Ok.ensures))

pub returns-in-Ok-clause-added : goal.returns-in-Ok-clause-added
returns-in-Ok-clause-added g c =
    let cycle = c.args.cycle in
    has_some c.args.subject.now cycle.rel cycle.attr cycle.ent.0 c.args.solver.now.steps c.in-Ok.axioms
    c.add_all.new.solver.steps c.add_all.ensures.added
    c.in-Ok.ensures

pub returns-in-Ok-clause-ok : goal.returns-in-Ok-clause-ok
returns-in-Ok-clause-ok g c =
    let cycle = c.args.cycle in
    on_ok c.add_all.result (λ (is : c.add_all.new.solver.steps ≡ c.args.solver.now.steps ++ c.in-Ok.axioms).
    have_threes c.args.subject.now cycle.rel cycle.attr cycle.ent.0 c.args.solver.now.steps c.in-Ok.axioms
    c.add_all.new.solver.steps is c.in-Ok.ensures)
    c.add_all.ensures.ok
