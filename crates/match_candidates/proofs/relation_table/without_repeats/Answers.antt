use Rattle.std.proofs.Common.{◌≡◌, ◌+◌, ◌∙◌, ◌∷◌, ◌++◌, [], Bor, Vec, Global, List, ap, map, subst, sym, take}
use Rattle.std.specs.List.{Contains}
use Rattle.std.proofs.lemmas.List.{map-append, take_more}
use Rattle.currency_base.specs.declared.value.Value.{Value}
use Rattle.match_candidates.specs.Tables.{HaveSame}
use Rattle.match_candidates.proofs.Once.{same_push, same_skip}
use Rattle.match_candidates.proofs.relation_table.without_repeats.Goals as goal
use Rattle.match_candidates.proofs.relation_table.without_repeats.Goals.{then-not-is_last+in_ok-push, else-not-is_last}

pub loop-value-preserved : goal.loop-value-preserved
loop-value-preserved c =
    let now : List (Bor Value) → List Value = map (λ v. v.now) in
    let vs = c.args.values.now in
    let i = c.loop-value.value-index in
    let x = c.value-item.result in
    let after : now (take (i + 1) vs) ≡ now (take i vs) ++ x.now ∷ [] =
    ap now (take_more vs i x c.loop-value-test.true ∙ ap (λ (y : Bor Value). take i vs ++ y ∷ []) (sym c.value-item.is))
    ∙ map-append (λ (v : Bor Value). v.now) (take i vs) (x ∷ []) in
    elim c.if-not-is_last.branch [
      | then-not-is_last+in_ok-push w ↦
          same_push (now (take i vs)) (now (take (i + 1) vs)) x.now (now c.loop-value.once.items) after c.loop-value.invariant
          (now c.if-not-is_last.once.items)
          (ap (λ (v : Vec (Bor Value) Global). now v.items) w.once-is ∙ ap now w.in_ok-push.ensures.items
          ∙ map-append (λ (v : Bor Value). v.now) c.loop-value.once.items (x ∷ []))
      | else-not-is_last w ↦
          subst (HaveSame (now (take (i + 1) vs))) (sym (ap (λ (v : Vec (Bor Value) Global). now v.items) w.once-is))
          (same_skip (now (take i vs)) (now (take (i + 1) vs)) x.now (now c.loop-value.once.items) after c.loop-value.invariant
          (subst (λ (vs : List (Bor Value)). Contains (now vs) x.now) c.deref.ensures.value
          (c.is_last.ensures w.if-not-is_last.false)))
    ]
