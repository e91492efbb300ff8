use Rattle.std.proofs.Common.{◌≡◌, ◌∙◌, List, slice_get, sym, ap}
use Rattle.std.specs.Option.{option_copied}
use Rattle.currency_base.specs.declared.lit.Lit.{Lit}
use Rattle.search_trail.specs.Trails.{Trail, lits_of}
use Rattle.search_trail.proofs.Asked.{looked_up}
use Rattle.search_trail.proofs.EntryFacts.{lits_of_entries}
use Rattle.search_trail.proofs.trail.Trail.pending.Goals as goal

pub returns : goal.returns
returns c =
    let inside = c.self.inside in
    let found : option_copied c.get.result ≡ slice_get c.deref.result.now inside.gone = looked_up c.deref.result.now
    inside.gone _ c.get.ensures.lookup.0 c.get.ensures.lookup.1 in
    c.copied.ensures ∙ found ∙ ap (λ (lits : List Lit). slice_get lits inside.gone)
    (c.deref.ensures.value ∙ sym (lits_of_entries inside.reasons.items inside.lits.items))
    ∙ ap (λ (t : Trail). slice_get (lits_of t) t.gone) c.self.view_is
