use Rattle.possible_values.proofs.known.of_same.Goals as goal

pub returns-in_default : goal.returns-in_default
returns-in_default g c = λ q told. c.some.ensures q
