use Rattle.spec_model.proofs.Shapes.{has_shape_with}
use Rattle.spec_model.proofs.completion.set_keeps_shape.Goals as goal

pub returns : goal.returns
returns c = has_shape_with
