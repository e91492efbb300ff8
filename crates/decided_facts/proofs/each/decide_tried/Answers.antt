use Rattle.decided_facts.proofs.Showing.{holds_of, marked}
use Rattle.decided_facts.proofs.each.decide_tried.Goals as goal

pub returns-then-follows_from_claim-clause-found : goal.returns-then-follows_from_claim-clause-found
returns-then-follows_from_claim-clause-found g c =
    marked c.args.site.now.task.now.spec.now c.args.site.now.task.now.facts.now c.args.found.now.completions.items
    c.args.found.now.holds.items c.args.place c.args.fact.now c.requires.found c.requires.fact
    (c.follows_from_claim.ensures c.if-follows_from_claim.true)

pub returns-in-Ok-Holds-clause-found : goal.returns-in-Ok-Holds-clause-found
returns-in-Ok-Holds-clause-found g c =
    marked c.args.site.now.task.now.spec.now c.args.site.now.task.now.facts.now c.args.found.now.completions.items
    c.args.found.now.holds.items c.args.place c.args.fact.now c.requires.found c.requires.fact
    (holds_of c.args.site.now.task.now.spec.now c.args.site.now.part.now c.args.fact.now c.in-Ok-Holds.field-0
    c.in-Ok-Holds.field-0-is c.in-Ok-Holds.ensures)
