-- A name that is added was not there, and one that is not added was.
use Rattle.std.proofs.Common.{◌≡◌, ◌∙◌, ◌++◌, ◌∷◌, [], ap, sym, subst, List, ℕ, Some, Contains, slice_get}
use Rattle.std.proofs.lemmas.Bool.{OnTrue_at, OnFalse_at}
use Rattle.rule_bind.proofs.Places.{free, with_new, known, with_known}
use Rattle.rule_bind.proofs.variables.add.Goals as goal

missing : (c : goal.Then-added) → Contains c.args.names.now c.args.named.now.name → ⊥
missing c =
    subst (λ (n : List ℕ). Contains c.args.names.now n → ⊥) c.in_ok-duplicate.ensures
    (OnTrue_at c.if-added.true c.in_ok-added.ensures.was_new)

there : (c : goal.After-at) → slice_get c.args.names.now c.in_ok-added.added.place ≡ Some c.args.named.now.name
there c =
    ap (λ (ns : List (List ℕ)). slice_get ns c.in_ok-added.added.place)
    (sym (OnFalse_at c.if-added.false c.in_ok-added.ensures.known))
    ∙ c.in_ok-added.ensures.place ∙ ap Some c.in_ok-duplicate.ensures

pub returns-then-added-clause-fault : goal.returns-then-added-clause-fault
returns-then-added-clause-fault c = sym (free c.args.names.now c.args.named.now (missing c))

pub returns-then-added-clause-names : goal.returns-then-added-clause-names
returns-then-added-clause-names c =
    OnTrue_at c.if-added.true c.in_ok-added.ensures.fresh ∙ ap (λ n. c.args.names.now ++ n ∷ []) c.in_ok-duplicate.ensures
    ∙ sym (with_new c.args.names.now c.args.named.now.name (missing c))

pub returns-clause-fault : goal.returns-clause-fault
returns-clause-fault c =
    ap Some c.at.ensures ∙ sym (known c.args.names.now c.args.named.now c.in_ok-added.added.place (there c))

pub returns-clause-names : goal.returns-clause-names
returns-clause-names c =
    OnFalse_at c.if-added.false c.in_ok-added.ensures.known
    ∙ sym (with_known c.args.names.now c.args.named.now.name c.in_ok-added.added.place (there c))
