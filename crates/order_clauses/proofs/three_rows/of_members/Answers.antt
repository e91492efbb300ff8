use Rattle.std.proofs.Common.{List, refl, subst}
use Rattle.refutation_log.specs.declared.step.Step.{Step}
use Rattle.order_clauses.specs.Added.{Adds}
use Rattle.order_clauses.specs.Listing.{members_of, three_labels}
use Rattle.order_clauses.proofs.Threes.{are_transitive}
use Rattle.order_clauses.proofs.three_rows.of_members.Goals as goal

pub returns : goal.returns
returns c =
    let p = c.args.column.now in
    let rows = members_of p.relation c.args.ent.0 in
    let adds = subst (λ (old : List Step). Adds p.subject (three_labels p rows) old c.put_members.new.steps) c.new-steps.ensures
    c.in_ok-put_members.ensures in
    are_transitive c.one_literal.ensures.said p c.args.ent.0 rows c.put_members.new.steps c.facts.ensures refl adds
