use Rattle.std.proofs.Common.{◌≡◌, ◌∙◌, true, false, inr, sym, subst, slice_get, rules}
use Rattle.std.proofs.lemmas.Option.{slice_get_within}
use Rattle.spec_model.specs.Facts.{with_given}
use Rattle.spec_model.specs.Spec.{Spec}
use Rattle.spec_model.specs.declared.relation.Relation.{Relation}
use Rattle.spec_edits.specs.Counted.{IsCounted}
use Rattle.spec_limits.specs.Instances.{are_of_one_entity}
use Rattle.spec_edits.proofs.Counting.{counted_given, if_some}
use Rattle.spec_edits.proofs.GivenEdits.{given_edit, given_refused, giving_is}
use Rattle.spec_edits.proofs.given.add_given.Goals as goal

pub returns-then-not-is_of_one_entity-clause-due : goal.returns-then-not-is_of_one_entity-clause-due
returns-then-not-is_of_one_entity-clause-due c =
    let s = c.args.spec.now in
    let r = c.requires.relation in
    let at = c.requires.is_relation in
    let told = if_some (λ (q : Relation). c.is_of_one_entity.result ≡ are_of_one_entity q.rows c.args.pair.earlier c.args.pair.later)
    (slice_get s.relations c.args.rel.0) r at c.is_of_one_entity.ensures in
    let not : c.is_of_one_entity.result ≡ false = search rules in
    inr (given_refused s c.args.rel c.args.pair r at (sym told ∙ not))

pub add_given-requires-clause-within : goal.add_given-requires-clause-within
add_given-requires-clause-within c =
    slice_get_within c.args.spec.now.relations c.args.rel.0 c.requires.relation c.requires.is_relation

pub returns-clause-ok : goal.returns-clause-ok
returns-clause-ok c =
    let s = c.args.spec.now in
    let t = c.add_given.new.self in
    let r = c.requires.relation in
    let at = c.requires.is_relation in
    let told = if_some (λ (q : Relation). c.is_of_one_entity.result ≡ are_of_one_entity q.rows c.args.pair.earlier c.args.pair.later)
    (slice_get s.relations c.args.rel.0) r at c.is_of_one_entity.ensures in
    let yes : c.is_of_one_entity.result ≡ true = search rules in
    given_edit s t c.args.rel c.args.pair r at (sym told ∙ yes)
    (giving_is s t c.args.rel.0 c.args.pair r at c.in_ok-add_given.ensures.ok c.add_given.ensures.rules
    c.add_given.ensures.copies)

pub returns-clause-counted : goal.returns-clause-counted
returns-clause-counted c lists left h =
    let s = c.args.spec.now in
    let t = c.add_given.new.self in
    let r = c.requires.relation in
    let at = c.requires.is_relation in
    let new = giving_is s t c.args.rel.0 c.args.pair r at c.in_ok-add_given.ensures.ok c.add_given.ensures.rules
    c.add_given.ensures.copies in
    subst (λ (u : Spec). IsCounted u lists left) (sym new)
    (counted_given s c.args.rel.0 r (with_given r c.args.pair).given lists left at h)
