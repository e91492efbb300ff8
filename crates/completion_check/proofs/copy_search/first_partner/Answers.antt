use Rattle.std.proofs.Common.{◌≡◌, ◌∙◌, false, slice_index_or, sym, arith}
use Rattle.std.proofs.lemmas.Option.{slice_get-get_or, slice_get_within}
use Rattle.completion_check.specs.CopyTests.{breaks_copy}
use Rattle.completion_check.proofs.CopySearch.{unmapped}
use Rattle.completion_check.proofs.Kept.{each_at_more}
use Rattle.completion_check.proofs.copy_search.first_partner.Goals as goal

pub returns-then-not-is_mapped-clause-none : goal.returns-then-not-is_mapped-clause-none
returns-then-not-is_mapped-clause-none c =
    unmapped c.args.trial.now c.args.place.now c.args.first c.args.members.now (sym c.is_mapped.ensures ∙ c.if-not-is_mapped.true)

pub returns-then-breaks-clause-some : goal.returns-then-breaks-clause-some
returns-then-breaks-clause-some c =
    record {
      at = c.loop-second.second-index;
      is_member = slice_get-get_or c.args.members.now c.loop-second.second-index (record { 0 = 0 }) c.loop-second-test.true;
      breaks = sym c.breaks.ensures ∙ c.if-breaks.true;
      earlier = c.loop-second.invariant;
    }

pub loop-second-preserved : goal.loop-second-preserved
loop-second-preserved c =
    let members = c.args.members.now in
    let i = c.loop-second.second-index in
    each_at_more (λ _ row. breaks_copy c.args.trial.now c.args.place.now c.args.first row ≡ false) members i
    (slice_index_or members i (record { 0 = 0 }))
    (slice_get-get_or members i (record { 0 = 0 }) c.loop-second-test.true)
    (sym c.breaks.ensures ∙ c.if-breaks.false) c.loop-second.invariant

pub returns-clause-none : goal.returns-clause-none
returns-clause-none c = λ k row at. c.loop-second.invariant k row (omega (arith, slice_get_within c.args.members.now k row at)) at
