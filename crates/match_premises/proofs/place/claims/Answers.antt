use Rattle.std.proofs.Common.{◌∙◌, [], Some, ap, sym}
use Rattle.std.proofs.lemmas.Option.{slice_get-get_or}
use Rattle.match_premises.specs.Premises.{claims_from}
use Rattle.match_premises.proofs.Folds.{missing_claim}
use Rattle.match_premises.proofs.place.claims.Goals as goal

pub returns-in-None : goal.returns-in-None
returns-in-None c =
    missing_claim c.args.table.rel c.args.table.rows.now c.args.table.members.now c.args.values.now
    c.loop-place.premises c.args.terms.now c.loop-place.place
    c.index-terms-place.result
    (claims_from c.args.table.rel c.args.table.rows.now c.args.table.members.now c.args.values.now (Some []) 0
    c.args.terms.now) c.loop-place.invariant
    (slice_get-get_or c.args.terms.now c.loop-place.place c.index-terms-place.result c.loop-place-test.true
    ∙ ap Some (sym c.index-terms-place.is))
    (sym c.in-None.ensures)
