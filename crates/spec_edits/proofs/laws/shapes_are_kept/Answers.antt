use Rattle.spec_edits.proofs.Kept.{edit_kept}
use Rattle.spec_edits.proofs.SameButGiven.{question_kept, shape_kept}
use Rattle.spec_edits.proofs.laws.shapes_are_kept.Goals as goal

pub returns : goal.returns
returns c = record { kept = edit_kept; shapes = shape_kept; questions = question_kept }
