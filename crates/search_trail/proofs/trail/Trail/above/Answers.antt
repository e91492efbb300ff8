use Rattle.std.proofs.Common.{◌≡◌, ◌∙◌, ℕ, List, drop, length, slice_index_or, sym, ap}
use Rattle.search_trail.specs.Trails.{Trail, entries_up_to, lits_of}
use Rattle.search_trail.proofs.EntryFacts.{as_many, lits_of_entries}
use Rattle.search_trail.proofs.Steps.{from_place, seen}
use Rattle.search_trail.proofs.trail.Trail.above.Goals as goal

pub returns : goal.returns
returns c =
    let inside = c.self.inside in
    let t = seen inside.values.given inside.lits.items inside.reasons.items inside.starts.items inside.gone inside.values.scope in
    let level = c.args.level in
    let cut : c.cut_at-cut.result ≡ entries_up_to t level =
    c.cut_at-cut.ensures.cut ∙ ap (λ (ns : List ℕ). slice_index_or ns level c.len.result) c.deref.ensures.value
    ∙ ap (slice_index_or inside.starts.items level) (c.len.ensures ∙ sym c.deref-2.ensures.len
    ∙ ap length c.deref-2.ensures.value ∙ sym (as_many inside.reasons.items inside.lits.items)) in
    from_place inside.lits.items c.deref-2.result.now c.cut_at-cut.result c.deref-2.ensures.value
    ∙ ap (λ (n : ℕ). drop n inside.lits.items) cut
    ∙ ap (drop (entries_up_to t level)) (sym (lits_of_entries inside.reasons.items inside.lits.items))
    ∙ ap (λ (u : Trail). drop (entries_up_to u level) (lits_of u)) c.self.view_is
