use Rattle.decided_facts.proofs.Sites.{asked_near, holds_near}
use Rattle.decided_facts.proofs.trying.try_question.Goals as goal

pub try_fact-requires-clause-within : goal.try_fact-requires-clause-within
try_fact-requires-clause-within g c = c.requires.site.part_within

pub try_fact-requires-clause-question : goal.try_fact-requires-clause-question
try_fact-requires-clause-question g c =
    asked_near c.facts_are_asked.ensures c.parts_are_asked.ensures c.args.site.now.task.now.spec.now c.args.site.now.places.now
    c.args.site.now.part.now c.args.fact.now c.args.question.now c.requires.site c.requires.fact c.requires.question
    (c.is_of_names.ensures c.if-not-is_of_names.false c.args.site.now.places.now)

pub returns-in-Ok-Holds : goal.returns-in-Ok-Holds
returns-in-Ok-Holds g c =
    holds_near c.facts_are_asked.ensures c.facts_widen.ensures c.narrows_exist.ensures c.parts_narrow.ensures
    c.args.site.now.task.now.spec.now c.args.site.now.places.now c.args.site.now.part.now c.args.fact.now c.args.question.now
    c.args.site.now.task.now.budget c.in-Ok-Holds.field-0 c.requires.site c.requires.fact c.requires.question
    (c.is_of_names.ensures c.if-not-is_of_names.false c.args.site.now.places.now) c.in-Ok-Holds.field-0-is c.in-Ok-Holds.ensures
