use Rattle.std.proofs.Common.{◌≡◌, ◌∙◌, ◌++◌, [], ◌∷◌, inr, ap, subst, List, ℕ, Contains}
use Rattle.std.proofs.lemmas.Bool.{OnFalse_at, OnTrue_at}
use Rattle.relation_bind.proofs.Heads.{repeated_at, new_at, names_at}
use Rattle.relation_bind.proofs.Places.{contains_at, not_true, not_false}
use Rattle.relation_bind.proofs.head.attribute_names.Goals as goal

pub returns-then-not-added : goal.returns-then-not-added
returns-then-not-added c =
    let a = c.attr-item.result in
    let known : c.add.new.self ≡ c.loop-attr.names = OnFalse_at
    (not_true c.in_ok-added.added.is_new c.if-not-added.true) c.in_ok-added.ensures.known in
    let there : Contains c.loop-attr.names a.name.name =
    subst (λ (ns : List (List ℕ)). Contains ns a.name.name) known (subst (λ (n : List ℕ). Contains c.add.new.self n)
    c.in_ok-name.ensures
    (contains_at c.add.new.self c.in_ok-added.added.place c.in_ok-name.name c.in_ok-added.ensures.place)) in
    inr (
      a.name,
      repeated_at c.args.attrs.now c.loop-attr.attr-index c.loop-attr.names a c.loop-attr-test.true
          c.attr-item.is there c.loop-attr.invariant.seen,
      c.at.ensures,
    )

pub loop-attr-preserved : goal.loop-attr-preserved
loop-attr-preserved c =
    let a = c.attr-item.result in
    let fresh = not_false c.in_ok-added.added.is_new c.if-not-added.false in
    let more : c.add.new.self ≡ c.loop-attr.names ++ a.name.name ∷ [] =
    OnTrue_at fresh c.in_ok-added.ensures.fresh ∙ ap (λ n. c.loop-attr.names ++ n ∷ []) c.in_ok-name.ensures in
    let free : Contains c.loop-attr.names a.name.name → ⊥ =
    subst (λ (n : List ℕ). Contains c.loop-attr.names n → ⊥) c.in_ok-name.ensures
    (OnTrue_at fresh c.in_ok-added.ensures.was_new) in
    record {
      seen = rw more (new_at c.args.attrs.now c.loop-attr.attr-index c.loop-attr.names a c.loop-attr-test.true
          c.attr-item.is free ∙ c.loop-attr.invariant.seen);
      all = rw more (names_at c.args.attrs.now c.loop-attr.attr-index c.loop-attr.names a c.loop-attr-test.true
          c.attr-item.is ∙ c.loop-attr.invariant.all);
    }
