use Rattle.std.proofs.lemmas.Result.{IfOk-weaker}
use Rattle.match_candidates.proofs.Whole.{adds_begun}
use Rattle.match_candidates.proofs.listing.collect_by.Goals as goal

pub returns : goal.returns
returns c =
    IfOk-weaker c.search.result _ _
    (λ is_full adds. adds_begun c.args.tables.now c.args.disjunct.now c.args.number _ c.as_slice.result.now
    c.as_slice-atoms.result.now c.of_atoms-rest.result c.in_ok-none.none
    c.args.found.now c.search.new.found is_full c.as_slice.ensures c.of_atoms-rest.ensures c.as_slice-atoms.ensures
    c.in_ok-none.ensures adds)
    c.search.ensures
