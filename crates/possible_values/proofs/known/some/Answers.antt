use Rattle.std.proofs.Common.{Err, ap, refl}
use Rattle.spec_model.specs.declared.question.Question.TheVariants as asked
use Rattle.possible_values.proofs.Telling.{known_too, no_answers}
use Rattle.possible_values.proofs.known.some.Goals as goal

pub wanting-requires : goal.wanting-requires
wanting-requires g c = λ found is.
    no_answers c.args.spec.now asked.Consistent found refl (c.in-Err.ensures.too_many found (ap Err is))

pub returns-in-Ok : goal.returns-in-Ok
returns-in-Ok g c = λ q.
    known_too c.args.spec.now q c.args.budget c.of_consistent.result
    (c.of_consistent.ensures c.args.spec.now c.args.budget
    record {
      shown = c.in-Ok.ensures.shown;
      right = c.in-Ok.ensures.right;
      writable = c.in-Ok.ensures.writable;
      within = c.in-Ok.ensures.lists;
    })
