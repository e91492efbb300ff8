use Rattle.std.proofs.Common.{◌≡◌, ◌∙◌, ℕ, Some, true, slice_get, sym, subst}
use Rattle.count_tree.specs.Greatest.{Counts, IsGreatest}
use Rattle.count_tree.specs.Nodes.{node}
use Rattle.count_tree.proofs.Orders.{greatest_there, none_present}
use Rattle.count_tree.proofs.tree.CountTree.greatest.Goals as goal

pub returns-then-first-clause-none : goal.returns-then-first-clause-none
returns-then-first-clause-none c =
    let first : c.node-first.result ≡ node c.self.inside.present.items c.self.inside.best.items 1 =
    rw (c.deref.ensures.value, c.deref-2.ensures.value) at c.node-first.ensures in
    subst (λ (t : Counts). (number : ℕ) → slice_get t.present number ≡ Some true → ⊥) c.self.view_is
    (none_present _ _ _ c.self.invariant (sym first ∙ c.if-first.true))

pub returns-else-first-clause-some : goal.returns-else-first-clause-some
returns-else-first-clause-some c =
    let first : c.node-first.result ≡ node c.self.inside.present.items c.self.inside.best.items 1 =
    rw (c.deref.ensures.value, c.deref-2.ensures.value) at c.node-first.ensures in
    let is : IsGreatest (record { counts = c.self.inside.counts.items; present = c.self.inside.present.items })
    c.node-first.result =
    subst (IsGreatest (record { counts = c.self.inside.counts.items; present = c.self.inside.present.items })) (sym first)
    (greatest_there _ _ _ c.self.invariant (λ e. c.if-first.false (first ∙ e))) in
    subst (λ (t : Counts). IsGreatest t c.node-first.result) c.self.view_is is
