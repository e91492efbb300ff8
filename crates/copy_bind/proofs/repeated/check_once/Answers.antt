-- A name that is not added was there, and one that is added was not.
use Rattle.std.proofs.Common.{◌≡◌, ◌∙◌, ◌++◌, ◌∷◌, [], ap, sym, subst, List, ℕ, Some, Ok, Contains, slice_get}
use Rattle.std.proofs.lemmas.Bool.{OnFalse_at, OnTrue_at}
use Rattle.bind_faults.specs.Faults.{unless}
use Rattle.copy_bind.proofs.Due.{due_same}
use Rattle.copy_bind.proofs.Places.{not_true, not_false}
use Rattle.copy_bind.proofs.Twice.{repeated_at, new_at}
use Rattle.copy_bind.proofs.repeated.check_once.Goals as goal

pub returns-then-not-added : goal.returns-then-not-added
returns-then-not-added c =
    let named = c.named-item.result in
    let known : c.add.new.self ≡ c.loop-named.names = OnFalse_at
    (not_true c.in_ok-added.added.is_new c.if-not-added.true) c.in_ok-added.ensures.known in
    let there : slice_get c.loop-named.names c.in_ok-added.added.place ≡ Some named.name =
    ap (λ (ns : List (List ℕ)). slice_get ns c.in_ok-added.added.place) (sym known) ∙ c.in_ok-added.ensures.place
    ∙ ap Some c.in_ok-name.ensures in
    due_same _ _ (ap (λ refused. unless refused (Ok tt))
    (repeated_at c.args.list.now c.loop-named.named-index c.loop-named.names named c.in_ok-added.added.place
    c.loop-named-test.true c.named-item.is there
    c.loop-named.invariant ∙ ap Some (sym c.at.ensures)))

pub loop-named-preserved : goal.loop-named-preserved
loop-named-preserved c =
    let named = c.named-item.result in
    let fresh = not_false c.in_ok-added.added.is_new c.if-not-added.false in
    let more : c.add.new.self ≡ c.loop-named.names ++ named.name ∷ [] =
    OnTrue_at fresh c.in_ok-added.ensures.fresh ∙ ap (λ n. c.loop-named.names ++ n ∷ []) c.in_ok-name.ensures in
    let free : Contains c.loop-named.names named.name → ⊥ =
    subst (λ (n : List ℕ). Contains c.loop-named.names n → ⊥) c.in_ok-name.ensures
    (OnTrue_at fresh c.in_ok-added.ensures.was_new) in
    rw more (new_at c.args.list.now c.loop-named.named-index c.loop-named.names named c.loop-named-test.true
    c.named-item.is free c.loop-named.invariant)
