use Rattle.std.proofs.Common.{◌≡◌, ◌∙◌, ◌+◌, ◌<◌, Some, drop, length, slice_get, sym, ap, arith}
use Rattle.std.proofs.lemmas.Option.{slice_get-get_or}
use Rattle.order_literals.specs.Statements.{statements_of}
use Rattle.match_clauses.specs.Claimed.{atom_said, atoms_said}
use Rattle.match_clauses.proofs.Putting.{atoms_end, atoms_left, so_far_end, so_far_more}
use Rattle.match_clauses.proofs.claims.put_atoms.Goals as goal

pub loop-place-preserved : goal.loop-place-preserved
loop-place-preserved c =
    let relations = c.args.source.spec.now.relations in
    let completion = c.args.source.completion.now in
    let atoms = c.args.atoms.now in
    let entities = c.args.entities.now in
    let place = c.loop-place.place in
    let atom = c.index-atoms-place.result in
    let at : slice_get atoms place ≡ Some atom = slice_get-get_or atoms place atom c.loop-place-test.true
    ∙ ap Some (sym c.index-atoms-place.is) in
    let below : place < length entities = let e = c.requires.atoms.per_atom in let b =
    c.loop-place-test.true in omega (arith, e, b) in
    so_far_more (statements_of c.args.source.numbering.now) (atoms_said relations completion atoms entities)
    (atoms_said relations completion (drop place atoms) (drop place entities))
    (atom_said relations completion atom _)
    (atoms_said relations completion (drop (place + 1) atoms) (drop (place + 1) entities)) c.args.lits.now
    c.loop-place.lits c.put_atom.new.lits
    (atoms_left relations completion atoms entities place atom _ at (slice_get-get_or entities place _ below))
    c.loop-place.invariant c.in-Ok.ensures

pub returns : goal.returns
returns c =
    let relations = c.args.source.spec.now.relations in
    let completion = c.args.source.completion.now in
    let atoms = c.args.atoms.now in
    let entities = c.args.entities.now in
    let place = c.loop-place.place in
    so_far_end (statements_of c.args.source.numbering.now) (atoms_said relations completion atoms entities)
    (atoms_said relations completion (drop place atoms) (drop place entities)) c.args.lits.now c.loop-place.lits
    (atoms_end relations completion atoms entities place c.loop-place-test.false) c.loop-place.invariant
