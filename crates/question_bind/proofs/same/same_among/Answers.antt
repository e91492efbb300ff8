-- Each place is that of one of the names.
use Rattle.std.proofs.Common.{ap, length}
use Rattle.question_bind.proofs.Again.{as_many, places_within}
use Rattle.question_bind.proofs.same.same_among.Goals as goal

pub each_once-requires-clause-within : goal.each_once-requires-clause-within
each_once-requires-clause-within c =
    places_within c.args.names.now c.args.named.now c.in_ok-places.places c.as_slice.result.now
    (length c.names.result.now) c.in_ok-places.ensures c.as_slice.ensures (ap length c.names.ensures.value)

pub each_once-requires-clause-named : goal.each_once-requires-clause-named
each_once-requires-clause-named c = as_many c.args.names.now c.args.named.now c.in_ok-places.places
    c.as_slice.result.now c.in_ok-places.ensures c.as_slice.ensures
