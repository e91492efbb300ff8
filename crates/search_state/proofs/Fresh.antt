-- A clause that unit propagation brings to one open literal, where it is at rest on the earlier clauses, is new.
use Rattle.std.proofs.Common.{◌≡◌, ◌⊎◌, ℕ, true, List, [], All, Contains, sym, subst, inl, inr, ◌∙◌, arith}
use Rattle.std.proofs.lemmas.List.Elements.{All-contains}
use Rattle.currency_base.specs.Literals.{negation}
use Rattle.currency_base.specs.declared.lit.Lit.{Lit}
use Rattle.refutation_log.specs.declared.step.Step.TheVariants.{Learn}
use Rattle.refutation_log.specs.Counted.{IsAtRest, IsConsistent, IsNew, IsUnit}
use Rattle.watch_propagate.proofs.KeptLits.{same_lit}
use Rattle.watch_propagate.proofs.WalkLits.{negation_differs, negation_twice}

module _ (truths clause : List Lit) (lit : Lit) (consistent : IsConsistent truths) (unit : IsUnit truths clause lit) where
  -- each literal of the clause is the open one or false
  one_or_false : (x : Lit) → Contains clause x → (x ≡ lit) ⊎ Contains truths (negation x)
  one_or_false x c = go (same_lit x lit)
    where
      go : (x ≡ lit) ⊎ (x ≡ lit → ⊥) → (x ≡ lit) ⊎ Contains truths (negation x)
      go (inl e) = inl e
      go (inr d) = inr (unit.others x c d)

  -- so none is true
  none_true : (x : Lit) → Contains clause x → Contains truths x → ⊥
  none_true x c holds = go (one_or_false x c)
    where
      go : (x ≡ lit) ⊎ Contains truths (negation x) → ⊥
      go (inl e) = unit.is_open.not_true (subst (Contains truths) e holds)
      go (inr n) = consistent x holds n

  -- one that is not false is the open one
  the_open : (x : Lit) → Contains clause x → (Contains truths (negation x) → ⊥) → x ≡ lit
  the_open x c not_false = go (one_or_false x c)
    where
      go : (x ≡ lit) ⊎ Contains truths (negation x) → x ≡ lit
      go (inl e) = e
      go (inr n) = absurd (not_false n)

  no_opposites : IsConsistent clause
  no_opposites x c n = go (one_or_false x c) (one_or_false (negation x) n)
    where
      go : (x ≡ lit) ⊎ Contains truths (negation x) → (negation x ≡ lit) ⊎ Contains truths (negation (negation x)) → ⊥
      go (inl e) (inl f) = negation_differs x (f ∙ sym e)
      go (inl e) (inr f) = unit.is_open.not_true (subst (Contains truths) (negation_twice x ∙ e) f)
      go (inr e) (inl f) = unit.is_open.not_true (subst (Contains truths) f e)
      go (inr e) (inr f) = consistent (negation x) e f

  -- no clause on which unit propagation is at rest is a subset
  no_subset : (c : List Lit) → IsAtRest truths c → ((x : Lit) → Contains c x → Contains clause x) → ⊥
  no_subset c (inl h) among = none_true h.lit (among h.lit h.is_in) h.is_true
  no_subset c (inr h) among =
      h.differ (the_open h.first (among h.first h.first_in) h.first_open.not_false
      ∙ sym (the_open h.second (among h.second h.second_in) h.second_open.not_false))

  pub new_clause : (earlier : List (List Lit)) (hints : List ℕ) → All (IsAtRest truths) earlier → IsNew earlier
      (Learn clause hints true)
  new_clause earlier hints at_rest = (
    record { truths = truths; consistent = consistent; lit = lit; unit = unit; at_rest = at_rest },
    record {
      not_empty = λ e. no_member (subst (λ (ls : List Lit). Contains ls lit) e unit.is_in);
      no_opposites = no_opposites;
      no_subset = λ c there among. no_subset c (All-contains (IsAtRest truths) earlier c at_rest there) among;
    },
  )
    where
      no_member : Contains [] lit → ⊥
      no_member c = omega (arith, c.1)
