use Rattle.match_clauses.proofs.Sources.{denied, name_numbered, name_own, row_numbered}
use Rattle.match_clauses.proofs.source.not_current.Goals as goal

pub name-name-requires : goal.name-name-requires
name-name-requires c =
    row_numbered c.args.source.spec.now c.args.source.wanted.now c.args.source.numbering.now
    c.args.source.completion.now c.requires.source
    c.relations-relations.ensures.facts c.args.rel c.args.attr c.args.ent c.requires.place c.requires.wanted c.last_row-row.result
    c.last_row-row.ensures.within

pub last-requires-clause-row : goal.last-requires-clause-row
last-requires-clause-row c =
    name_numbered c.args.source.spec.now c.args.source.wanted.now c.args.source.numbering.now
    c.args.source.completion.now c.requires.source
    c.relations-relations.ensures.facts c.args.rel c.args.attr c.args.ent c.requires.place c.requires.wanted c.last_row-row.result
    c.last_row-row.ensures.within c.name-name.result c.name-name.ensures

pub last-requires-clause-named : goal.last-requires-clause-named
last-requires-clause-named c =
    name_own c.args.source.spec.now c.args.source.wanted.now c.args.source.numbering.now c.args.source.completion.now
    c.requires.source
    c.relations-relations.ensures.facts c.args.rel c.args.attr c.args.ent c.requires.place c.requires.wanted c.last_row-row.result
    c.last_row-row.ensures.within c.name-name.result c.name-name.ensures

pub returns : goal.returns
returns c =
    denied c.args.source.spec.now c.args.source.wanted.now c.args.source.numbering.now c.args.source.completion.now
    c.requires.source
    c.relations-relations.ensures.facts c.args.rel c.args.attr c.args.ent c.requires.place c.requires.wanted c.last_row-row.result
    c.last_row-row.ensures.within c.name-name.result c.name-name.ensures c.last_row-row.ensures.last c.last.result
    c.negated.result
    c.last.ensures c.negated.ensures
