use Rattle.std.proofs.lemmas.Bool.{OnTrue_at, OnTrue_from}
use Rattle.semi_joins.proofs.alone.is_unfit.Goals as goal

pub returns-then-has_unfit_term : goal.returns-then-has_unfit_term
returns-then-has_unfit_term c = OnTrue_from c.has_unfit_term.result _ (λ is can.
    OnTrue_at is c.has_unfit_term.ensures can.values can.fits)
