use Rattle.entity_ties.specs.Links.{AreLinksBelow}
use Rattle.entity_ties.proofs.links.links_of.Given as goal

abbrev pub invariant-loop-copy : goal.invariant-loop-copy
invariant-loop-copy l = AreLinksBelow l.spec l.numbering.firsts.items l.copy-index l.links.items
