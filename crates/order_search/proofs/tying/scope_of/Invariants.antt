use Rattle.std.proofs.Common.{◌≡◌, ◌++◌, length, take}
use Rattle.entity_ties.specs.Parts.{list_at}
use Rattle.search_trail.specs.Trails.{IsScope}
use Rattle.order_search.specs.Kept.{vars_of}
use Rattle.order_search.proofs.tying.scope_of.Given as goal

abbrev pub invariant-loop-member : goal.invariant-loop-member
invariant-loop-member l = record {
  items : l.vars.items ≡ list_at l.parting.parts.parts l.part ++ take l.member-index l.member-items;
  scope : IsScope (length (vars_of l.subject)) l.vars.items;
}
