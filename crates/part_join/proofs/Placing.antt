-- One list of a completion is set: what is there now, and what stays.
use Rattle.std.proofs.Common.{◌≡◌, ◌<◌, ◌≤◌, ◌∙◌, ℕ, List, [], Some, get_or, set, length, length-set, slice_get, sym, ap, subst, ⊎_elim}
use Rattle.std.proofs.lemmas.Bool.{cases_eq, cases_lt}
use Rattle.std.proofs.lemmas.List.{get_or-set_same, get_or-set_other, set_past}
use Rattle.currency_base.specs.declared.ids.EntId.{EntId}
use Rattle.currency_base.specs.declared.ids.RowId.{RowId}
use Rattle.part_laws.specs.Parts.{Places, entities_in}
use Rattle.spec_model.specs.Completion.{Rankings, lists_of, ranking_of, with_ranking}
use Rattle.part_join.specs.Steps.{KeepsRest}

-- what a function says of the item at a place stays where, at the place that is written, it says the same of what is written
same_at : {A B : Type 0} (f : A → B) (xs : List A) (i j : ℕ) (y d : A) → (j ≡ i → f y ≡ f (get_or xs i d))
    → f (get_or (set xs i y) j d) ≡ f (get_or xs j d)
same_at {A} f xs i j y d same =
    ⊎_elim
    (λ (within : i < length xs).
    ⊎_elim
    (λ (is : j ≡ i). rw is (ap f (get_or-set_same xs i y d within) ∙ same is))
    (λ (other : j ≡ i → ⊥). ap f (get_or-set_other xs i j y d other))
    (cases_eq j i))
    (λ (past : length xs ≤ i). ap (λ (zs : List A). f (get_or zs j d)) (set_past xs i y past))
    (cases_lt i (length xs))

-- the list that was set
pub list_there : (c : Rankings) (rel attr ent : ℕ) (list : List RowId) → rel < length c → attr < length (get_or c rel [])
    → ent < length (lists_of c rel attr) → ranking_of (with_ranking c rel attr ent list) rel attr ent ≡ list
list_there c rel attr ent list in_c in_relation in_attr =
    let entities = set (lists_of c rel attr) ent list in
    let attrs = set (get_or c rel []) attr entities in
    ap (λ (l : List (List (List RowId))). get_or (get_or l attr []) ent []) (get_or-set_same c rel attrs [] in_c)
    ∙ ap (λ (l : List (List RowId)). get_or l ent []) (get_or-set_same (get_or c rel []) attr entities [] in_relation)
    ∙ get_or-set_same (lists_of c rel attr) ent list [] in_attr

-- the lists at other places
pub list_elsewhere : (c : Rankings) (rel attr ent : ℕ) (list : List RowId) (rel' attr' ent' : ℕ)
    → (rel' ≡ rel → attr' ≡ attr → ent' ≡ ent → ⊥)
    → ranking_of (with_ranking c rel attr ent list) rel' attr' ent' ≡ ranking_of c rel' attr' ent'
list_elsewhere c rel attr ent list rel' attr' ent' apart =
    let entities = set (lists_of c rel attr) ent list in
    let attrs = set (get_or c rel []) attr entities in
    same_at (λ (l : List (List (List RowId))). get_or (get_or l attr' []) ent' []) c rel rel' attrs []
    (λ same_rel. same_at (λ (l : List (List RowId)). get_or l ent' []) (get_or c rel []) attr attr' entities []
    (λ same_attr. same_at (λ (l : List RowId). l) (lists_of c rel attr) ent ent' list []
    (λ same_ent. absurd (apart same_rel same_attr same_ent))))

-- all lists but those of the part's entities stay, and so does the shape
pub rest_stays : (n : Places) (c : Rankings) (rel attr k : ℕ) (ent : EntId) (list : List RowId)
    → slice_get (entities_in n rel) k ≡ Some ent → KeepsRest n c (with_ranking c rel attr ent.0 list)
rest_stays n c rel attr k ent list at =
    let entities = set (lists_of c rel attr) ent.0 list in
    let attrs = set (get_or c rel []) attr entities in
    record {
      per_relation = length-set c rel attrs;
      per_attr = λ rel'. same_at length c rel rel' attrs [] (λ _. length-set (get_or c rel []) attr entities);
      per_entity = λ rel' attr'.
          same_at (λ (l : List (List (List RowId))). length (get_or l attr' [])) c rel rel' attrs []
          (λ _. same_at length (get_or c rel []) attr attr' entities [] (λ _. length-set (lists_of c rel attr) ent.0 list));
      lists = λ rel' attr' ent' beyond.
          list_elsewhere c rel attr ent.0 list rel' attr' ent'
          (λ same_rel same_attr same_ent.
          beyond k ent (subst (λ m. slice_get (entities_in n m) k ≡ Some ent) (sym same_rel) at) (sym same_ent));
    }
