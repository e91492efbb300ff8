use Rattle.std.proofs.Common.{◌∙◌, List, get_or, ap, arith}
use Rattle.currency_base.specs.Literals.{var_of}
use Rattle.currency_base.specs.declared.lit.Lit.{Lit}
use Rattle.search_trail.specs.Trails.{reason_in}
use Rattle.conflict_analysis.proofs.Entries.{var_within, reason_read}
use Rattle.conflict_analysis.proofs.reasons.reason_at.Goals as goal

pub reason-requires : goal.reason-requires
reason-requires c =
    let t = c.args.trail.now in
    let inside = var_within t.entries t.vars c.args.place (record { 0 = 0 }) c.are_entries.ensures.within c.requires in
    let read = c.var.ensures.value ∙ ap (λ (ls : List Lit). var_of (get_or ls c.args.place (record { 0 = 0 })))
    c.assigned.ensures in
    omega (arith, inside, read)

pub returns : goal.returns
returns c =
    let t = c.args.trail.now in
    let read = c.var.ensures.value ∙ ap (λ (ls : List Lit). var_of (get_or ls c.args.place (record { 0 = 0 })))
    c.assigned.ensures in
    c.reason.ensures ∙ ap (reason_in t.entries) read ∙ reason_read t.entries c.args.place (record { 0 = 0 })
    c.are_entries.ensures.once c.requires
