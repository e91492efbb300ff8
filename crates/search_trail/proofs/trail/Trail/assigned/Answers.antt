use Rattle.std.proofs.Common.{◌∙◌, sym, ap}
use Rattle.search_trail.specs.Trails.{lits_of}
use Rattle.search_trail.proofs.EntryFacts.{lits_of_entries}
use Rattle.search_trail.proofs.trail.Trail.assigned.Goals as goal

pub returns : goal.returns
returns c =
    let inside = c.self.inside in
    c.deref.ensures.value ∙ sym (lits_of_entries inside.reasons.items inside.lits.items) ∙ ap lits_of c.self.view_is
