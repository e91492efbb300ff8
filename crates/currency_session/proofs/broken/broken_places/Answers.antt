use Rattle.std.proofs.lemmas.Result.{IfOk-weaker}
use Rattle.entity_ties.specs.Labels.{scope_of}
use Rattle.currency_session.proofs.broken.broken_places.Goals as goal

pub returns : goal.returns
returns c =
    IfOk-weaker c.places.result _ _
    (λ n are. (scope_of c.in_ok-ties.ties c.deref.result.now, are, c.places.ensures.closed)) c.places.ensures.places
