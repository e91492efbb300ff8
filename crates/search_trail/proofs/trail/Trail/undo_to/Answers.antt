use Rattle.std.proofs.Common.{◌≡◌, ◌≤◌, ◌∙◌, Some, length, slice_get, sym, ap, rules, arith}
use Rattle.std.proofs.lemmas.Option.{slice_get_read}
use Rattle.search_trail.specs.Trails.{ScopedValues, Trail, undone}
use Rattle.search_trail.proofs.Fits.{fits_undone}
use Rattle.search_trail.proofs.Steps.{freeing_of, seen_undone, seen_whole}
use Rattle.search_trail.proofs.trail.Trail.undo_to.Goals as goal

pub invariant_of-self : goal.invariant_of-self
invariant_of-self c =
    let inside = c.self.inside in
    let cut = c.index.result.now in
    let freeing = freeing_of inside.values inside.lits.items c.deref.result.now cut c.take_back.new.self c.deref.ensures.value
    c.take_back.ensures in
    let begins : slice_get inside.starts.items c.args.level ≡ Some cut =
    slice_get_read inside.starts.items c.len.result c.args.level cut
    (omega (arith, c.len.ensures, inside.starts.ok.0)) c.if-level-len.true c.index.ensures in
    rw (c.truncate.ensures.items, c.truncate-then-level-len.ensures.items, c.min-self-inside.ensures)
    (fits_undone _ _ _ _ _ _ _ _ c.self.invariant c.args.level cut _ _ _ begins (ap (λ (v : ScopedValues). v.given) freeing)
    (omega (arith, c.truncate.ensures.capacity))
    (omega (arith, c.truncate-then-level-len.ensures.capacity)))

pub returns-then-level-len : goal.returns-then-level-len
returns-then-level-len c =
    let inside = c.self.inside in
    let cut = c.index.result.now in
    let freeing = freeing_of inside.values inside.lits.items c.deref.result.now cut c.take_back.new.self c.deref.ensures.value
    c.take_back.ensures in
    let begins : slice_get inside.starts.items c.args.level ≡ Some cut =
    slice_get_read inside.starts.items c.len.result c.args.level cut
    (omega (arith, c.len.ensures, inside.starts.ok.0)) c.if-level-len.true c.index.ensures in
    rw (freeing, c.truncate.ensures.items, c.truncate-then-level-len.ensures.items, c.min-self-inside.ensures)
    (seen_undone inside.values.given inside.lits.items inside.reasons.items inside.starts.items inside.gone c.args.level cut
    inside.values.scope begins
    ∙ ap (λ (t : Trail). undone t c.args.level) c.self.view_is)

pub returns-else-level-len : goal.returns-else-level-len
returns-else-level-len c =
    let inside = c.self.inside in
    let top : length inside.starts.items ≤ c.args.level = search rules in
    sym c.self.view_is ∙ seen_whole inside.values.given inside.lits.items inside.reasons.items inside.starts.items
    inside.gone c.args.level inside.values.scope top c.self.invariant.gone_within
    ∙ ap (λ (t : Trail). undone t c.args.level) c.self.view_is
