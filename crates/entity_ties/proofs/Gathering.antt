-- The entities of some parts, part by part and entity by entity.
use Rattle.std.proofs.Common.{◌≡◌, ◌<◌, ◌⊎◌, ◌∙◌, ◌+◌, ℕ, List, [], All, Contains, Some, slice_get, take, sym, ap, subst, inl, inr, ⊎_elim}
use Rattle.std.proofs.lemmas.Option.{get_or_from_slice_get, slice_get_within}
use Rattle.entity_ties.specs.declared.cells.Member.{Member}
use Rattle.entity_ties.specs.Chosen.{AddsEntities, AreChosen, IsChosen}
use Rattle.entity_ties.specs.Numbers.{member}
use Rattle.entity_ties.specs.Parts.{Puts, list_at}
use Rattle.entity_ties.proofs.Items.{taken, still_taken, just_taken}

pub gathered_more : (members : List Member) (i : ℕ) (m : Member) (old mid new : List (List ℕ)) → slice_get members i ≡ Some m
    → AddsEntities (take i members) old mid → Puts m.rel.0 m.ent.0 mid new → AddsEntities (take (i + 1) members) old new
gathered_more members i m old mid new at adds put = record {
  many = put.many ∙ adds.many;
  kept = λ rel ent c. put.kept rel ent (adds.kept rel ent c);
  added = λ x c. added x (taken members i m x at c);
  only = λ rel ent c. only rel ent (put.only rel ent c);
}
  where
    added : (x : Member) → Contains (take i members) x ⊎ (m ≡ x) → Contains (list_at new x.rel.0) x.ent.0
    added x (inl c) = put.kept x.rel.0 x.ent.0 (adds.added x c)
    added x (inr e) = subst (λ (y : Member). Contains (list_at new y.rel.0) y.ent.0) e put.has

    only : (rel ent : ℕ) → Contains (list_at mid rel) ent ⊎ ((rel ≡ m.rel.0) × (m.ent.0 ≡ ent))
        → Contains (list_at old rel) ent ⊎ Contains (take (i + 1) members) (member rel ent)
    only rel ent (inl c) =
        ⊎_elim (λ o. inl o) (λ t. inr (still_taken members i (member rel ent) (slice_get_within members i m at) t))
        (adds.only rel ent c)
    only rel ent (inr h) =
        let one : m ≡ member rel ent = ap (λ n. member n m.ent.0) (sym h.0) ∙ ap (member rel) h.1 in
        inr (subst (Contains (take (i + 1) members)) one (just_taken members i m at))

pub chosen_more : (parts : List (List Member)) (chosen : List ℕ) (relations i part : ℕ) (list : List Member)
    (old new : List (List ℕ))
    → slice_get chosen i ≡ Some part → slice_get parts part ≡ Some list → AreChosen parts (take i chosen) relations old
    → AddsEntities list old new → AreChosen parts (take (i + 1) chosen) relations new
chosen_more parts chosen relations i part list old new at at_part are adds = record {
  many = adds.many ∙ are.many;
  each = λ m is. each m is (taken chosen i part is.part at is.is_chosen);
  only = λ rel ent c. ⊎_elim (λ o. wider (member rel ent) (are.only rel ent o)) (λ h. here (member rel ent) h)
      (adds.only rel ent c);
}
  where
    is_list : list_at parts part ≡ list
    is_list = get_or_from_slice_get parts part list [] at_part

    each : (m : Member) (is : IsChosen parts (take (i + 1) chosen) m) → Contains (take i chosen) is.part ⊎ (part ≡ is.part)
        → Contains (list_at new m.rel.0) m.ent.0
    each m is (inl c) = adds.kept m.rel.0 m.ent.0 (are.each m (record { part = is.part; is_chosen = c; has = is.has }))
    each m is (inr e) =
        adds.added m (subst (λ (l : List Member). Contains l m) (ap (list_at parts) (sym e) ∙ is_list) is.has)

    wider : (m : Member) → IsChosen parts (take i chosen) m → IsChosen parts (take (i + 1) chosen) m
    wider m is = record {
      part = is.part;
      is_chosen = still_taken chosen i is.part (slice_get_within chosen i part at) is.is_chosen;
      has = is.has;
    }

    here : (m : Member) → Contains list m → IsChosen parts (take (i + 1) chosen) m
    here m h = record {
      part = part;
      is_chosen = just_taken chosen i part at;
      has = subst (λ (l : List Member). Contains l m) (sym is_list) h;
    }

-- the relations of a part's entities are there
pub gathered_within : (parts : List (List Member)) (part count relations : ℕ) (list : List Member)
    → slice_get parts part ≡ Some list → count ≡ relations
    → All (λ (m : Member). m.rel.0 < relations) (list_at parts part) → All (λ (m : Member). m.rel.0 < count) list
gathered_within parts part count relations list at e all =
    subst (λ n. All (λ (m : Member). m.rel.0 < n) list) (sym e)
    (subst (All (λ (m : Member). m.rel.0 < relations)) (get_or_from_slice_get parts part list [] at) all)
