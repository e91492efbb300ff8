use Rattle.std.proofs.Common.{rules, ◌≡◌, ◌∙◌, true, false, Some, ap, sym, arith}
use Rattle.std.proofs.lemmas.Option.{slice_get-get_or, slice_get_within}
use Rattle.log_axioms.specs.Matches.{is_tuple}
use Rattle.log_axioms.proofs.Places.{is_first, is_nowhere, scanned_more}
use Rattle.log_axioms.proofs.answers.scanned.Goals as goal

pub returns-then-is_eq : goal.returns-then-is_eq
returns-then-is_eq c =
    let tuples = c.args.tuples.now in
    let tuple = c.args.tuple.now in
    let place = c.loop-place.place in
    let x = c.index-tuples-place.result in
    let same : is_tuple x tuple ≡ true = search rules in
    is_first tuples tuple x place (slice_get-get_or tuples place x c.loop-place-test.true
    ∙ ap Some (sym c.index-tuples-place.is)) same c.loop-place.invariant

pub loop-place-preserved : goal.loop-place-preserved
loop-place-preserved c =
    let tuples = c.args.tuples.now in
    let tuple = c.args.tuple.now in
    let place = c.loop-place.place in
    let x = c.index-tuples-place.result in
    let other : is_tuple x tuple ≡ false = search rules in
    scanned_more tuples tuple x place (slice_get-get_or tuples place x c.loop-place-test.true
    ∙ ap Some (sym c.index-tuples-place.is)) other
    c.loop-place.invariant

pub returns : goal.returns
returns c =
    is_nowhere c.args.tuples.now c.args.tuple.now
    (λ i y at. c.loop-place.invariant i y (omega (arith, slice_get_within c.args.tuples.now i y at, c.loop-place-test.false)) at)
