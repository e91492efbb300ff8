use Rattle.std.proofs.Common.{List, [], subst, sym}
use Rattle.currency_base.specs.declared.ids.EntId.{EntId}
use Rattle.currency_base.specs.declared.lit.Lit.{Lit}
use Rattle.query_model.specs.declared.query.Atom.{Atom}
use Rattle.order_clauses.specs.Added.{IsAddedTo}
use Rattle.order_clauses.specs.Clauses.{AreLits}
use Rattle.order_literals.specs.Numbers.{Numbers}
use Rattle.order_literals.specs.Statements.{statements_of}
use Rattle.match_clauses.specs.Claimed.{atoms_said, match_said}
use Rattle.match_clauses.specs.Clauses.{AreAtomsOf, Puts}
use Rattle.match_clauses.proofs.Matches.{are_match_lits, atoms_there, match_made}
use Rattle.match_clauses.proofs.lits.match_lits.Goals as goal

pub put_atoms-requires-clause-atoms : goal.put_atoms-requires-clause-atoms
put_atoms-requires-clause-atoms c =
    let d = c.get.result.now in
    subst (λ (atoms : List Atom). AreAtomsOf c.args.spec.now c.args.wanted.now atoms c.as_slice.result.now)
    (sym c.as_slice-atoms.ensures)
    (subst (λ (entities : List EntId). AreAtomsOf c.args.spec.now c.args.wanted.now d.atoms entities) (sym c.as_slice.ensures)
    (atoms_there c.args.spec.now c.args.wanted.now c.args.completion.now c.args.query.now c.args.m.now
    c.relations-relations.ensures.facts
    c.requires.wanted c.requires.is_match.0 c.requires.is_match.1 d c.get.ensures))

pub returns-in-Ok-put_atoms : goal.returns-in-Ok-put_atoms
returns-in-Ok-put_atoms c =
    let s = c.args.spec.now in
    let d = c.get.result.now in
    let n = c.args.numbering.now in
    let m = c.args.m.now in
    let added : IsAddedTo [] c.answer_lit.result c.put.new.lits =
    subst (λ (old : List Lit). IsAddedTo old c.answer_lit.result c.put.new.lits) c.new-lits.ensures c.in-Ok.ensures in
    let own : Puts (statements_of n) (atoms_said s.relations c.args.completion.now d.atoms c.as_slice.result.now)
    c.put.new.lits c.put_atoms.new.lits =
    subst (λ (atoms : List Atom). Puts (statements_of n) (atoms_said s.relations c.args.completion.now atoms
    c.as_slice.result.now) c.put.new.lits c.put_atoms.new.lits)
    c.as_slice-atoms.ensures c.in-Ok-put_atoms.ensures in
    let puts : Puts (statements_of n) (atoms_said s.relations c.args.completion.now d.atoms m.entities)
    c.put.new.lits c.put_atoms.new.lits =
    subst (λ (entities : List EntId). Puts (statements_of n) (atoms_said s.relations c.args.completion.now d.atoms
    entities) c.put.new.lits c.put_atoms.new.lits)
    c.as_slice.ensures own in
    let made =
    match_made (statements_of n) s.relations c.args.completion.now c.args.answer d.atoms m.entities
    c.answer_lit.result c.put.new.lits c.put_atoms.new.lits
    c.answer_lit.ensures added puts in
    are_match_lits c.laws_of_tuple_order.ensures.total c.laws_of_tuple_order.ensures.equal s c.args.completion.now
    c.relations-relations.ensures.facts
    c.requires.completion c.args.query.now m c.args.wanted.now c.args.answer c.put_atoms.new.lits d c.get.ensures
    (subst (λ (x : Numbers). AreLits (statements_of x) (match_said s.relations c.args.completion.now c.args.answer
    d.atoms m.entities) c.put_atoms.new.lits) c.requires.numbers made)
    c.requires.is_match.0 c.requires.is_match.1
