use Rattle.currency_session.proofs.OfPart.{found_fits, part_within}
use Rattle.currency_session.proofs.mending.decided.Goals as goal

pub some_completion-requires : goal.some_completion-requires
some_completion-requires g c = record {
  within = part_within c.parts_are_within.ensures c.args.spec.now c.args.places.now c.in_ok-part.part c.requires.within
      c.requires.places c.in_ok-part.ensures c.is_specification.ensures;
}

pub returns : goal.returns
returns g c =
    found_fits c.completions_fit.ensures c.args.spec.now c.args.places.now c.in_ok-part.part c.some_completion.result
    c.requires.places c.in_ok-part.ensures c.some_completion.ensures
