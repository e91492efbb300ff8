use Rattle.std.proofs.Common.{◌≡◌, ◌∙◌, true, false, sym, subst, slice_get, rules}
use Rattle.partial_orders.specs.Pairs.{has_pair}
use Rattle.spec_model.specs.Facts.{without_given}
use Rattle.spec_model.specs.Spec.{Spec}
use Rattle.spec_model.specs.declared.relation.Relation.{Relation}
use Rattle.spec_edits.specs.Counted.{IsCounted}
use Rattle.spec_edits.proofs.Counting.{counted_given, if_some}
use Rattle.spec_edits.proofs.GivenEdits.{taken_edit, taken_nothing, taken_refused, taking_is}
use Rattle.spec_edits.proofs.given.withdraw_given.Goals as goal

pub returns-then-not-withdraw_given-clause-counted : goal.returns-then-not-withdraw_given-clause-counted
returns-then-not-withdraw_given-clause-counted c lists left h =
    let s = c.args.spec.now in
    let t = c.withdraw_given.new.self in
    let r = c.requires.relation in
    let at = c.requires.is_relation in
    let new = taking_is s t c.args.rel.0 c.args.pair r at c.withdraw_given.ensures.value c.withdraw_given.ensures.rules
    c.withdraw_given.ensures.copies in
    subst (λ (u : Spec). IsCounted u lists left) (sym new)
    (counted_given s c.args.rel.0 r (without_given r c.args.pair).given lists left at h)

pub returns-then-not-withdraw_given-clause-due : goal.returns-then-not-withdraw_given-clause-due
returns-then-not-withdraw_given-clause-due c =
    let s = c.args.spec.now in
    let r = c.requires.relation in
    let at = c.requires.is_relation in
    let told = if_some (λ (q : Relation). c.withdraw_given.result ≡ has_pair q.given c.args.pair)
    (slice_get s.relations c.args.rel.0) r at c.withdraw_given.ensures.was in
    let not : c.withdraw_given.result ≡ false = search rules in
    taken_refused s c.args.rel c.args.pair r at (sym told ∙ not)

pub returns-then-not-withdraw_given-clause-err : goal.returns-then-not-withdraw_given-clause-err
returns-then-not-withdraw_given-clause-err c =
    let s = c.args.spec.now in
    let t = c.withdraw_given.new.self in
    let r = c.requires.relation in
    let at = c.requires.is_relation in
    let told = if_some (λ (q : Relation). c.withdraw_given.result ≡ has_pair q.given c.args.pair)
    (slice_get s.relations c.args.rel.0) r at c.withdraw_given.ensures.was in
    let not : c.withdraw_given.result ≡ false = search rules in
    taken_nothing s t c.args.rel.0 c.args.pair r at (sym told ∙ not)
    (taking_is s t c.args.rel.0 c.args.pair r at c.withdraw_given.ensures.value c.withdraw_given.ensures.rules
    c.withdraw_given.ensures.copies)

pub returns-clause-ok : goal.returns-clause-ok
returns-clause-ok c =
    let s = c.args.spec.now in
    let t = c.withdraw_given.new.self in
    let r = c.requires.relation in
    let at = c.requires.is_relation in
    let told = if_some (λ (q : Relation). c.withdraw_given.result ≡ has_pair q.given c.args.pair)
    (slice_get s.relations c.args.rel.0) r at c.withdraw_given.ensures.was in
    let yes : c.withdraw_given.result ≡ true = search rules in
    taken_edit s t c.args.rel c.args.pair r at (sym told ∙ yes)
    (taking_is s t c.args.rel.0 c.args.pair r at c.withdraw_given.ensures.value c.withdraw_given.ensures.rules
    c.withdraw_given.ensures.copies)

pub returns-clause-counted : goal.returns-clause-counted
returns-clause-counted c lists left h =
    let s = c.args.spec.now in
    let t = c.withdraw_given.new.self in
    let r = c.requires.relation in
    let at = c.requires.is_relation in
    let new = taking_is s t c.args.rel.0 c.args.pair r at c.withdraw_given.ensures.value c.withdraw_given.ensures.rules
    c.withdraw_given.ensures.copies in
    subst (λ (u : Spec). IsCounted u lists left) (sym new)
    (counted_given s c.args.rel.0 r (without_given r c.args.pair).given lists left at h)
