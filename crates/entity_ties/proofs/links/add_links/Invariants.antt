use Rattle.entity_ties.specs.Links.{AddsLinks}
use Rattle.entity_ties.proofs.links.add_links.Given as goal

abbrev pub invariant-loop-row : goal.invariant-loop-row
invariant-loop-row l = AddsLinks l.copy l.targets l.sources l.first l.first_source l.row l.fn.links.items l.links.items
