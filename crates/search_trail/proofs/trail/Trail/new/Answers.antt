use Rattle.std.proofs.Common.{◌≡◌, ◌≤◌, None, [], replicate, vec_capacity, ap, rules}
use Rattle.search_trail.specs.Trails.{ScopedValues}
use Rattle.search_trail.proofs.Fits.{fits_new}
use Rattle.search_trail.proofs.trail.Trail.new.Goals as goal

pub invariant_of-result : goal.invariant_of-result
invariant_of-result c =
    let vars = c.args.vars in
    let values : c.in-Ok.values.given ≡ replicate vars None = ap (λ (v : ScopedValues). v.given) c.in-Ok.ensures in
    let lits : c.in-Ok-with_capacity.lits.items ≡ [] = search rules in
    let starts : c.in-Ok-with_capacity-2.starts.items ≡ [] = search rules in
    let places : c.in-Ok-from_elem.places.items ≡ replicate vars 0 = search rules in
    let reasons : c.in-Ok-from_elem-2.reasons.items ≡ replicate vars 4294967295 = search rules in
    let lits_fit : vars ≤ vec_capacity c.in-Ok-with_capacity.lits = search rules in
    let starts_fit : vars ≤ vec_capacity c.in-Ok-with_capacity-2.starts = search rules in
    rw (values, lits, starts, places, reasons) (fits_new vars _ _ c.requires lits_fit starts_fit)
