use Rattle.std.proofs.Common.{◌∙◌, IfSome}
use Rattle.std.proofs.lemmas.Option.{IfSome_then}
use Rattle.std.proofs.lemmas.Result.{IfOk-weaker}
use Rattle.minimal_items.specs.Explanations.{needed_items}
use Rattle.part_widens.specs.Widened.{rules_among}
use Rattle.spec_items.specs.Kept.{kept}
use Rattle.spec_model.specs.Consistent.{IsConsistent}
use Rattle.near_items.proofs.Rules.{alike_kept, as_many_marks, kept_consistent, kept_within}
use Rattle.near_items.proofs.base.rules_alone.Goals as goal

pub with_marked-requires : goal.with_marked-requires
with_marked-requires g c =
    as_many_marks c.args.spec.now (rules_among (needed_items c.args.needed.now)) c.deref.result.now
    (c.deref.ensures.value ∙ c.in_ok-marks.ensures)

pub some_completion-requires : goal.some_completion-requires
some_completion-requires g c =
    let keeps = rules_among (needed_items c.args.needed.now) in
    let alike = alike_kept c.args.spec.now c.in_ok-rules.rules keeps c.deref.result.now
    (c.deref.ensures.value ∙ c.in_ok-marks.ensures) c.in_ok-rules.ensures in
    record {
      within = kept_within c.args.spec.now c.in_ok-rules.rules keeps alike c.fewer_are_within.ensures
          c.is_specification.ensures c.requires.within;
    }

pub returns : goal.returns
returns g c =
    let keeps = rules_among (needed_items c.args.needed.now) in
    let alike = alike_kept c.args.spec.now c.in_ok-rules.rules keeps c.deref.result.now
    (c.deref.ensures.value ∙ c.in_ok-marks.ensures) c.in_ok-rules.ensures in
    IfOk-weaker c.some_completion.result (λ found. IfSome found (IsConsistent c.in_ok-rules.rules))
    (λ found. IfSome found (IsConsistent (kept keeps c.args.spec.now)))
    (λ found is.
    IfSome_then found is (kept_consistent c.args.spec.now c.in_ok-rules.rules keeps alike c.alike_are_one.ensures))
    c.some_completion.ensures
