use Rattle.std.proofs.Common.{◌≡◌, ◌∙◌, ◌+◌, Some, drop, slice_get, sym, ap}
use Rattle.std.proofs.lemmas.Option.{slice_get-get_or}
use Rattle.order_literals.specs.Statements.{statements_of}
use Rattle.match_clauses.specs.Claimed.{term_said, terms_said}
use Rattle.match_clauses.proofs.Putting.{so_far_end, so_far_more, terms_end, terms_left}
use Rattle.match_clauses.proofs.claims.put_terms.Goals as goal

pub loop-place-preserved : goal.loop-place-preserved
loop-place-preserved c =
    let relations = c.args.source.spec.now.relations in
    let completion = c.args.source.completion.now in
    let terms = c.args.terms.now in
    let place = c.loop-place.place in
    let t = c.index-terms-place.result in
    let at : slice_get terms place ≡ Some t = slice_get-get_or terms place t c.loop-place-test.true
    ∙ ap Some (sym c.index-terms-place.is) in
    so_far_more (statements_of c.args.source.numbering.now) (terms_said relations completion c.args.rel c.args.ent 0 terms)
    (terms_said relations completion c.args.rel c.args.ent place (drop place terms))
    (term_said relations completion c.args.rel c.args.ent (record { 0 = place }) t)
    (terms_said relations completion c.args.rel c.args.ent (place + 1) (drop (place + 1) terms)) c.args.lits.now
    c.loop-place.lits c.put_term.new.lits
    (terms_left relations completion c.args.rel c.args.ent terms place t at) c.loop-place.invariant c.in-Ok.ensures

pub returns : goal.returns
returns c =
    let relations = c.args.source.spec.now.relations in
    let completion = c.args.source.completion.now in
    let terms = c.args.terms.now in
    let place = c.loop-place.place in
    so_far_end (statements_of c.args.source.numbering.now) (terms_said relations completion c.args.rel c.args.ent 0 terms)
    (terms_said relations completion c.args.rel c.args.ent place (drop place terms)) c.args.lits.now c.loop-place.lits
    (terms_end relations completion c.args.rel c.args.ent terms place c.loop-place-test.false) c.loop-place.invariant
