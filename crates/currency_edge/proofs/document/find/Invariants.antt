-- No document so far has the name, so those that are left decide.
use Rattle.std.proofs.Common.{◌≡◌, drop}
use Rattle.currency_edge.specs.Shelf.{document, has_name}
use Rattle.currency_edge.proofs.document.find.Given as goal

abbrev pub invariant-loop-held : goal.invariant-loop-held
invariant-loop-held l = record {
  same_document : document (drop l.held-index l.documents) l.name ≡ document l.documents l.name;
  same_names : has_name (drop l.held-index l.documents) l.name ≡ has_name l.documents l.name;
}
