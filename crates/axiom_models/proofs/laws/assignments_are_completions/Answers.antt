use Rattle.axiom_models.proofs.Models as models
use Rattle.axiom_models.proofs.Ranking as ranking
use Rattle.axiom_models.proofs.laws.assignments_are_completions.Goals as goal

pub returns-clause-lists : goal.returns-clause-lists
returns-clause-lists c = ranking.lists_are_ordered

pub returns-clause-ranked : goal.returns-clause-ranked
returns-clause-ranked c = ranking.assignments_rank

pub returns-clause-completions : goal.returns-clause-completions
returns-clause-completions c = models.assignments_are_completions c.satisfied_by_instances.ensures
