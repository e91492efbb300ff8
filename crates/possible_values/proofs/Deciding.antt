-- Whether claims hold in a completion is decided.
use Rattle.std.proofs.Common.{◌≡◌, ◌∙◌, inl, inr, List, [], ◌∷◌, All, Some, length, map, slice_get, sym, ap, arith}
use Rattle.std.proofs.lemmas.List.{length-map}
use Rattle.std.proofs.lemmas.List.Elements.{All-cons, All-head, All-nil, All-tail}
use Rattle.std.proofs.lemmas.Option.{same_Some}
use Rattle.axiom_laws.proofs.Decisions.{Decided, some_value_or}
use Rattle.currency_base.specs.Values.{kind_of}
use Rattle.currency_base.specs.declared.row.Row.{Row}
use Rattle.currency_base.specs.declared.value.Value.{Value}
use Rattle.match_premises.specs.declared.premise.Premise.{Premise}
use Rattle.posed_facts.specs.Facts.{IsCurrent, IsPlaced}
use Rattle.spec_model.specs.Completion.{Rankings}
use Rattle.spec_model.specs.Current.{current_value}
use Rattle.spec_model.specs.Facts.{AreRelations, IsRelation, kinds_of}
use Rattle.spec_model.specs.declared.relation.Relation.{Relation}
use Rattle.possible_values.proofs.Lists.{item_at, item_has}

-- the row of a claim that can be made has a value of its attribute
value_there : (relations : List Relation) → AreRelations relations → (p : Premise) → (placed : IsPlaced relations p)
    → (v : Value) × (slice_get placed.row.values p.attr.0 ≡ Some v)
value_there relations are p placed =
    let fits = item_has IsRelation relations are.each p.rel.0 placed.relation placed.is_relation in
    let kinds = item_has (λ (w : Row). map kind_of w.values ≡ kinds_of placed.relation) placed.relation.rows fits.values
    p.row.0 placed.row placed.is_row in
    item_at placed.row.values p.attr.0
    (omega (
      arith,
      placed.attr,
      length-map placed.row.values kind_of,
      ap (λ l. length l) kinds,
      length-map placed.relation.attrs (λ a. a.kind),
    ))

-- the current value of a claim that holds is its row's
current_is : (relations : List Relation) (p : Premise) (c : Rankings) → (placed : IsPlaced relations p) → (v : Value)
    → slice_get placed.row.values p.attr.0 ≡ Some v → IsCurrent relations p c
    → current_value c p.rel.0 placed.relation.rows p.attr.0 placed.row.entity.0 ≡ Some v
current_is relations p c placed v at own =
    let same : own.relation ≡ placed.relation =
    same_Some own.relation placed.relation (sym own.is_relation ∙ placed.is_relation) in
    let row : own.row ≡ placed.row =
    same_Some own.row placed.row
    (sym own.is_row ∙ ap (λ (r : Relation). slice_get r.rows p.row.0) same ∙ placed.is_row) in
    ap (λ (r : Relation). current_value c p.rel.0 r.rows p.attr.0 placed.row.entity.0) (sym same)
    ∙ ap (λ (w : Row). current_value c p.rel.0 own.relation.rows p.attr.0 w.entity.0) (sym row)
    ∙ own.current
    ∙ sym own.is_value
    ∙ ap (λ (w : Row). slice_get w.values p.attr.0) row
    ∙ at

-- a claim holds, or it does not
pub current_or : (relations : List Relation) → AreRelations relations → (p : Premise) → IsPlaced relations p → (c : Rankings)
    → Decided (IsCurrent relations p c)
current_or relations are p placed c =
    let v = value_there relations are p placed in
    by v.0 v.1 (some_value_or (current_value c p.rel.0 placed.relation.rows p.attr.0 placed.row.entity.0) v.0)
  where
    by : (v : Value) → slice_get placed.row.values p.attr.0 ≡ Some v
        → Decided (current_value c p.rel.0 placed.relation.rows p.attr.0 placed.row.entity.0 ≡ Some v)
        → Decided (IsCurrent relations p c)
    by v at (inl is) = inl record {
      relation = placed.relation;
      is_relation = placed.is_relation;
      row = placed.row;
      is_row = placed.is_row;
      value = v;
      is_value = at;
      current = is;
    }
    by v at (inr other) = inr (λ own. other (current_is relations p c placed v at own))

-- claims of which it is not so that they do not all hold do all hold
pub all_current : (relations : List Relation) → AreRelations relations → (c : Rankings) (claims : List Premise)
    → All (IsPlaced relations) claims → ((All (λ p. IsCurrent relations p c) claims → ⊥) → ⊥)
    → All (λ p. IsCurrent relations p c) claims
all_current relations are c [] placed never = All-nil (λ p. IsCurrent relations p c)
all_current relations are c (p ∷ claims) placed never =
    by (current_or relations are p (All-head (IsPlaced relations) p claims placed) c)
    (all_current relations are c claims (All-tail (IsPlaced relations) p claims placed)
    (λ none. never (λ all. none (All-tail (λ q. IsCurrent relations q c) p claims all))))
  where
    by : Decided (IsCurrent relations p c) → All (λ q. IsCurrent relations q c) claims
        → All (λ q. IsCurrent relations q c) (p ∷ claims)
    by (inl is) rest = All-cons (λ q. IsCurrent relations q c) p claims is rest
    by (inr other) rest = absurd (never (λ all. other (All-head (λ q. IsCurrent relations q c) p claims all)))
