use Rattle.axiom_models.proofs.Models as models
use Rattle.axiom_models.proofs.laws.completions_have_assignments.Goals as goal

pub returns : goal.returns
returns c = models.completions_have_assignments c.satisfied_by_instances.ensures
