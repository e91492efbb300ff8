-- The entities and rows of some parts are the places of a closed scope.
use Rattle.std.proofs.Common.{◌≡◌, ◌<◌, ◌≤◌, ◌⊎◌, ◌∙◌, ℕ, zero, suc, true, List, [], ◌∷◌, All, Contains, Option, None, Some, length, get_or, option_map, slice_get, refl, sym, ap, inl, inr, arith, eqb}
use Rattle.std.proofs.lemmas.Bool.{false≢true, eqb-true, eq-eqb, cases_lt}
use Rattle.std.proofs.lemmas.List.{get_or_past, length-map}
use Rattle.std.proofs.lemmas.Map.Keys.{any_passes_from_place}
use Rattle.std.proofs.lemmas.Map.Views.{Contains-from_any}
use Rattle.std.proofs.lemmas.Option.{none-some, same_Some, slice_get-map, slice_get_within}
use Rattle.currency_base.specs.declared.ids.EntId.{EntId}
use Rattle.currency_base.specs.declared.ids.RowId.{RowId}
use Rattle.currency_base.specs.declared.row.Row.{Row}
use Rattle.entity_lists.specs.Lists.{Grouping, entities_of}
use Rattle.partial_orders.specs.Pairs.{entity_of}
use Rattle.spec_model.specs.Facts.{AreRelations}
use Rattle.spec_model.specs.Spec.{Spec}
use Rattle.spec_model.specs.declared.relation.Relation.{Relation}
use Rattle.std.proofs.lemmas.List.Elements.{Contains-get_or}
use Rattle.part_laws.proofs.Listed.{list_below}
use Rattle.part_laws.proofs.Rows.{place_of, there}
use Rattle.part_laws.specs.Parts.{ArePlacesOf, EntitiesAscend, IsClosed, IsRowIn, Places, RowsAscend}
use Rattle.entity_ties.specs.declared.cells.Member.{Member}
use Rattle.entity_ties.specs.Chosen.{AreAllPlaces, AreChosen, ArePlacesIn}
use Rattle.entity_ties.specs.Labels.{AreTies, Labelling, cell, grouping_of, in_parts, label_of, labels_in, scope_of}
use Rattle.entity_ties.specs.Numbers.{member}
use Rattle.entity_ties.specs.Parts.{AreHeld, list_at}
use Rattle.entity_ties.specs.Tied.{IsCopiedFrom, same, to_source}
use Rattle.entity_ties.proofs.TiedCells.{source_there, target_there}

-- ---- parts among some

among : (chosen : List ℕ) (o : Option ℕ) (n : ℕ) → o ≡ Some n → Contains chosen n → in_parts chosen o ≡ true
among chosen o n e c =
    let at = place_of chosen n c in
    ap (in_parts chosen) e ∙ any_passes_from_place (eqb n) chosen at.0 n at.1 (eq-eqb n n refl)

record IsAmong (chosen : List ℕ) (o : Option ℕ) : Type 0 where
  n : ℕ
  is : o ≡ Some n
  has : Contains chosen n

is_among : (chosen : List ℕ) (o : Option ℕ) → in_parts chosen o ≡ true → IsAmong chosen o
is_among chosen None h = absurd (false≢true h)
is_among chosen (Some n) h = record { n = n; is = refl; has = Contains-from_any {eq = eqb} (λ x y e. eqb-true x y e) n chosen h }

entity_is : (rows : List Row) (n : ℕ) → entity_of rows n ≡ slice_get (entities_of rows) n
entity_is [] n = refl
entity_is (r ∷ rows) zero = refl
entity_is (r ∷ rows) (suc n) = entity_is rows n

module _ (s : Spec) (t : Labelling) (parts : List (List Member)) (chosen : List ℕ) (facts : AreRelations s.relations)
    (ties : AreTies s t)
    (held : AreHeld t.labels parts) where
  group_at : (rel : ℕ) (r : Relation) → slice_get s.relations rel ≡ Some r → slice_get t.groups rel ≡ Some (grouping_of r)
  group_at rel r at = ap (λ (l : List Grouping). slice_get l rel) ties.groups ∙
      (slice_get-map grouping_of s.relations rel ∙ ap (option_map grouping_of) at)

  pub as_many_groups : length t.groups ≡ length s.relations
  as_many_groups = ap length ties.groups ∙ length-map s.relations grouping_of

  -- the entities of parts are of relations that are there
  pub relations_there : (part : ℕ) → All (λ (m : Member). m.rel.0 < length t.groups) (list_at parts part)
  relations_there part k d below =
      let m = get_or (list_at parts part) k d in
      let at = held.only part m (Contains-get_or (list_at parts part) k d below) in
      omega (arith, list_below t.labels m.rel.0 m.ent.0 part at, ties.per_relation, as_many_groups)

  module _ (found : List (List ℕ)) (are : AreChosen parts chosen (length t.groups) found) where
    in_scope : (rel ent : ℕ) → Contains (list_at found rel) ent → scope_of t chosen rel ent ≡ true
    in_scope rel ent c =
        let is = are.only rel ent c in
        among chosen (label_of t (cell rel ent)) is.part (held.only is.part (member rel ent) is.has) is.is_chosen

    of_scope : (rel ent : ℕ) → scope_of t chosen rel ent ≡ true → Contains (list_at found rel) ent
    of_scope rel ent h =
        let is = is_among chosen (label_of t (cell rel ent)) h in
        are.each (member rel ent) (record { part = is.n; is_chosen = is.has; has = held.each is.n (member rel ent) is.is })

    below : (rel : ℕ) (r : Relation) (ent : ℕ) → slice_get s.relations rel ≡ Some r → Contains (list_at found rel)
        ent → ent < length r.entities
    below rel r ent at c =
        let is = are.only rel ent c in
        omega (
          arith,
          slice_get_within (labels_in t rel) ent is.part (held.only is.part (member rel ent) is.has),
          ties.per_entity rel r at,
        )

    pub found_within : (rel : ℕ) (group : Grouping) → slice_get t.groups rel ≡ Some group
        → All (λ ent. ent < group.count) (list_at found rel)
    found_within rel group at k d inside =
        let r = there s.relations rel (omega (arith, slice_get_within t.groups rel group at, as_many_groups)) in
        let one : grouping_of r.0 ≡ group = same_Some (grouping_of r.0) group (sym (group_at rel r.0 r.1) ∙ at) in
        omega (
          arith,
          below rel r.0 (get_or (list_at found rel) k d) r.1
              (Contains-get_or (list_at found rel) k d inside),
          ap (λ (g : Grouping). g.count) one,
        )

    pub are_places : (n : Places) → AreAllPlaces t.groups found (length t.groups) n.rows n.entities
        → ArePlacesOf s.relations (scope_of t chosen) n
    are_places n all = record {
      rows_per_relation = all.per_rows ∙ as_many_groups;
      entities_per_relation = all.per_entities ∙ as_many_groups;
      rows_ascend = λ rel. rows_up rel (cases_lt rel (length t.groups));
      entities_ascend = λ rel. entities_up rel (cases_lt rel (length t.groups));
      rows = λ rel r at row. (
        λ c. (let a = ((places rel r at).rows_are row).0 c in
            record { ent = a.ent; is_of = entity_is r.rows row.0 ∙ a.is_of; is_in = in_scope rel a.ent a.is_among }),
        λ (i : IsRowIn (scope_of t chosen) rel r.rows row). ((places rel r at).rows_are row).1
            (record { ent = i.ent; is_among = of_scope rel i.ent i.is_in; is_of = sym (entity_is r.rows row.0) ∙ i.is_of }),
      );
      entities = λ rel r at ent. (
        λ c. (let h = ((places rel r at).entities_are ent).0 c in (below rel r ent.0 at h, in_scope rel ent.0 h)),
        λ i. ((places rel r at).entities_are ent).1 (of_scope rel ent.0 i.1),
      );
    }
      where
        places : (rel : ℕ) (r : Relation) → slice_get s.relations rel ≡ Some r
            → ArePlacesIn (grouping_of r) (list_at found rel) (list_at n.rows rel) (list_at n.entities rel)
        places rel r at = all.each rel (grouping_of r) (slice_get_within t.groups rel (grouping_of r)
            (group_at rel r at)) (group_at rel r at)

        rows_up : (rel : ℕ) → (rel < length t.groups) ⊎ (length t.groups ≤ rel) → RowsAscend (list_at n.rows rel)
        rows_up rel (inl low) = (let g = there t.groups rel low in (all.each rel g.0 low g.1).rows_ascend)
        rows_up rel (inr high) = λ i j x y less at at'.
            absurd (none-some x (sym (ap (λ (l : List RowId). slice_get l i)
            (get_or_past n.rows rel [] (omega (arith, high, all.per_rows)))) ∙ at))

        entities_up : (rel : ℕ) → (rel < length t.groups) ⊎ (length t.groups ≤ rel) → EntitiesAscend (list_at n.entities rel)
        entities_up rel (inl low) = (let g = there t.groups rel low in (all.each rel g.0 low g.1).entities_ascend)
        entities_up rel (inr high) = λ i j x y less at at'.
            absurd (none-some x (sym (ap (λ (l : List EntId). slice_get l i)
            (get_or_past n.entities rel [] (omega (arith, high, all.per_entities)))) ∙ at))

  pub is_closed : IsClosed s (scope_of t chosen)
  is_closed k copy is_copy target source is_target is_source row from mapped ent source_ent row_of from_of =
      let a = cell copy.target.0 ent in
      let b = cell copy.source.0 source_ent in
      let copied : IsCopiedFrom s a b = record {
        k = k;
        copy = copy;
        is_copy = is_copy;
        target_relation = target;
        source_relation = source;
        is_target = is_target;
        is_source = is_source;
        of_target = refl;
        of_source = refl;
        row = row;
        from = from;
        mapped = mapped;
        row_of = row_of;
        from_of = from_of;
      } in
      ap (in_parts chosen) ((ties.tied a b (target_there s a b facts copied) (source_there s a b facts copied)).1
      (to_source a a b (same a) copied))
