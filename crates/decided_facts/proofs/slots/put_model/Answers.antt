use Rattle.std.proofs.lemmas.List.Elements.{All-set}
use Rattle.spec_model.specs.Consistent.{IsConsistent}
use Rattle.decided_facts.proofs.Showing.{consistent_more}
use Rattle.decided_facts.proofs.Sites.{fits, joined_first}
use Rattle.decided_facts.proofs.slots.put_model.Goals as goal

pub joined-requires-clause-narrow : goal.joined-requires-clause-narrow
joined-requires-clause-narrow c =
    fits c.completions_fit.ensures c.args.site.now.task.now.spec.now c.args.site.now.places.now c.args.site.now.part.now
    c.args.narrow.now c.requires.site c.requires.narrow

pub returns-clause-consistent : goal.returns-clause-consistent
returns-clause-consistent c =
    consistent_more c.args.site.now.task.now.spec.now c.in_ok-wide.wide c.args.completions.now.items c.push.new.self.items
    c.requires.consistent
    (joined_first c.parts_join.ensures.part c.args.site.now.task.now.spec.now c.args.site.now.places.now
    c.args.site.now.part.now c.args.completions.now.items c.index.result.now c.args.narrow.now c.in_ok-wide.wide
    c.requires.site c.requires.consistent c.requires.some c.index.ensures c.requires.narrow c.in_ok-wide.ensures)
    c.in_ok-push.ensures.items

pub returns-then-place-len-clause-consistent : goal.returns-then-place-len-clause-consistent
returns-then-place-len-clause-consistent c =
    All-set (IsConsistent c.args.site.now.task.now.spec.now) c.args.completions.now.items c.args.place c.put_into.new.completion
    c.in_ok-put_into.ensures c.requires.consistent
