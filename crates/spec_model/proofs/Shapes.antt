-- A completion keeps its shape when one of its lists is replaced.
use Rattle.std.proofs.Common.{◌≡◌, ◌<◌, ◌≤◌, ℕ, List, [], get_or, set, length, length-set, ap, ◌∙◌, ⊎_elim}
use Rattle.std.proofs.lemmas.Bool.{cases_eq, cases_lt}
use Rattle.std.proofs.lemmas.List.{get_or-set_same, get_or-set_other, set_past}
use Rattle.currency_base.specs.declared.ids.RowId.{RowId}
use Rattle.spec_model.specs.declared.relation.Relation.{Relation}
use Rattle.spec_model.specs.Completion.{Rankings, HasShape, lists_of, with_ranking}

-- what a function says of the item at a place stays where it says the same of what is written
same_at : {A B : Type 0} (f : A → B) (xs : List A) (i j : ℕ) (y d : A) → f y ≡ f (get_or xs i d)
    → f (get_or (set xs i y) j d) ≡ f (get_or xs j d)
same_at {A} f xs i j y d same =
    ⊎_elim
    (λ (within : i < length xs).
    ⊎_elim
    (λ (is : j ≡ i). rw is (ap f (get_or-set_same xs i y d within) ∙ same))
    (λ (other : j ≡ i → ⊥). ap f (get_or-set_other xs i j y d other))
    (cases_eq j i))
    (λ (past : length xs ≤ i). ap (λ (zs : List A). f (get_or zs j d)) (set_past xs i y past))
    (cases_lt i (length xs))

pub has_shape_with : (relations : List Relation) (c : Rankings) (rel attr ent : ℕ) (list : List RowId) → HasShape relations c
    → HasShape relations (with_ranking c rel attr ent list)
has_shape_with relations c rel attr ent list shape =
    let entities = set (lists_of c rel attr) ent list in
    let attrs = set (get_or c rel []) attr entities in
    record {
      per_relation = length-set c rel attrs ∙ shape.per_relation;
      per_attr = λ rel' r at.
          same_at length c rel rel' attrs [] (length-set (get_or c rel []) attr entities) ∙ shape.per_attr rel' r at;
      per_entity = λ rel' r at attr' below.
          same_at (λ (l : List (List (List RowId))). length (get_or l attr' [])) c rel rel' attrs []
          (same_at length (get_or c rel []) attr attr' entities [] (length-set (lists_of c rel attr) ent list))
          ∙ shape.per_entity rel' r at attr' below;
    }
