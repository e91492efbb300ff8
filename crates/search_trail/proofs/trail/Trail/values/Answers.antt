use Rattle.std.proofs.Common.{◌∙◌, Bool, List, Option, sym, ap, length}
use Rattle.search_trail.specs.Trails.{ScopedValues, values_of}
use Rattle.search_trail.proofs.EntryFacts.{lits_of_entries}
use Rattle.search_trail.proofs.ValueLists.{values_by}
use Rattle.search_trail.proofs.trail.Trail.values.Goals as goal

pub returns : goal.returns
returns c =
    let inside = c.self.inside in
    let given = c.self.invariant.values_are ∙ ap (λ lits. values_by lits (length inside.values.given))
    (sym (lits_of_entries inside.reasons.items inside.lits.items)) in
    ap (λ (vs : List (Option Bool)). let v : ScopedValues = record { given = vs; scope = inside.values.scope } in v) given
    ∙ ap values_of c.self.view_is
