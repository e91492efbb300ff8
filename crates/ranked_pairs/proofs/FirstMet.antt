-- Of two rows of a ranking, the one that is met first stands before the other.
use Rattle.std.proofs.Common.{◌≡◌, ◌≢◌, ◌<◌, ◌≤◌, ℕ, zero, suc, List, [], ◌∷◌, All, Some, Contains, length, get_or, slice_get, slice_index_or, refl, sym, ap, ◌∙◌, subst, ⊎_elim, arith}
use Rattle.std.proofs.lemmas.Bool.{cases_eq, cases_lt}
use Rattle.std.proofs.lemmas.List.{get_or_past}
use Rattle.std.proofs.lemmas.List.Elements.{All-get_or}
use Rattle.std.proofs.lemmas.Option.{none-some, same_Some, slice_get-get_or, slice_get_within, get_or_from_slice_get, slice_get_read}
use Rattle.currency_base.specs.declared.ids.RowId.{RowId}
use Rattle.currency_base.specs.declared.row.Row.{Row}
use Rattle.partial_orders.specs.Pairs.{entity_of}
use Rattle.ranked_pairs.specs.Met.{IsMetFirst}
use Rattle.spec_model.specs.Completion.{Before, IsCompletion, IsRanking, Rankings, lists_of, ranking_of}
use Rattle.spec_model.specs.Facts.{AreRelations, IsGivenPair, IsRelation}
use Rattle.spec_model.specs.declared.question.Asked.{Asked}
use Rattle.spec_model.specs.declared.relation.Relation.{Relation}

-- a list with an item is one of the lists
list_within : {A : Type 0} (lists : List (List A)) (ent i : ℕ) (x : A) → slice_get (slice_index_or lists ent []) i ≡
    Some x → ent < length lists
list_within {A} lists ent i x at =
    ⊎_elim
    (λ (h : ent < length lists). h)
    (λ (h : length lists ≤ ent). absurd
    (none-some x (sym (ap (λ (l : List A). slice_get l i) (get_or_past lists ent [] h)) ∙ at)))
    (cases_lt ent (length lists))

-- an item of a list stands at a place
at_contains : {A : Type 0} (xs : List A) (x : A) → Contains xs x → (i : ℕ) × (slice_get xs i ≡ Some x)
at_contains xs x c = (c.0, slice_get-get_or xs c.0 x c.1 ∙ ap Some c.2)

contains_at : {A : Type 0} (xs : List A) (i : ℕ) (x : A) → slice_get xs i ≡ Some x → Contains xs x
contains_at xs i x e = (i, slice_get_within xs i x e, get_or_from_slice_get xs i x x e)

module _ (rows : List Row) (lists : List (List RowId)) (earlier later : RowId) where
  -- the row that is met first stands before one that is in the list too
  pub stands_before : (ent : ℕ) → IsRanking rows ent (slice_index_or lists ent []) → entity_of rows later.0 ≡ Some
      ent → earlier ≢ later
      → IsMetFirst (slice_index_or lists ent []) earlier later → Before lists earlier later
  stands_before ent ranking of_ent apart met =
      let list = slice_index_or lists ent [] in
      let found = at_contains list later (ranking.all later of_ent) in
      let below : met.at < found.0 =
      ⊎_elim
      (λ (h : found.0 < met.at). absurd (met.before found.0 h found.1))
      (λ (h : met.at ≤ found.0).
      ⊎_elim
      (λ (same : met.at ≡ found.0).
      absurd (apart (same_Some earlier later (sym met.here ∙ ap (slice_get list) same ∙ found.1))))
      (λ (other : met.at ≡ found.0 → ⊥). (omega arith))
      (cases_eq met.at found.0))
      (cases_lt found.0 met.at) in
      record { ent = ent; low = met.at; high = found.0; below = below; first = met.here; second = found.1 }

  -- a row that stands before another is met first
  pub is_met : ((ent : ℕ) → ent < length lists → IsRanking rows ent (slice_index_or lists ent [])) → (ent : ℕ)
      → entity_of rows earlier.0 ≡ Some ent → Before lists earlier later → IsMetFirst (slice_index_or lists ent []) earlier later
  is_met rankings ent of_ent before =
      let own = slice_index_or lists before.ent [] in
      let ranking = rankings before.ent (list_within lists before.ent before.low earlier before.first) in
      let same : before.ent ≡ ent =
      same_Some before.ent ent (sym (ranking.only earlier (contains_at own before.low earlier before.first)) ∙ of_ent) in
      let met : IsMetFirst own earlier later = record {
        at = before.low;
        here = before.first;
        before = λ k below at.
            let one : k ≡ before.high = ranking.once k before.high later at before.second in
            let high = before.below in
            absurd (omega arith);
      } in
      subst (λ e. IsMetFirst (slice_index_or lists e []) earlier later) same met

-- ---- in a completion

-- a row stands for its entity
entity_of_row : (rows : List Row) (at : ℕ) (row : Row) → slice_get rows at ≡ Some row → entity_of rows at ≡ Some row.entity.0
entity_of_row [] at row is = absurd (none-some row is)
entity_of_row (r ∷ rows) zero row is = ap (λ (q : Row). Some q.entity.0) (same_Some r row is)
entity_of_row (r ∷ rows) (suc at) row is = entity_of_row rows at row is

-- what holds of each item holds of the one at a place
all_at : {A : Type 0} (P : A → Type 0) (xs : List A) (i : ℕ) (x : A) → All P xs → slice_get xs i ≡ Some x → P x
all_at P xs i x all at = subst P (get_or_from_slice_get xs i x x at) (All-get_or P xs i x (slice_get_within xs i x at) all)

-- the relation of a pair, its earlier row, and the list of this row's entity
pub record AreRead (relations : List Relation) (c : Rankings) (p : Asked) (relation : Relation) (row : Row)
    (list : List RowId) : Type 0 where
  pub is_relation : slice_get relations p.rel.0 ≡ Some relation
  pub is_row : slice_get relation.rows p.pair.earlier.0 ≡ Some row
  pub is_list : list ≡ ranking_of c p.rel.0 p.pair.attr.0 row.entity.0

module _ (relations : List Relation) (c : Rankings) (p : Asked) (relation : Relation) (row : Row) (list : List RowId)
    (are : AreRelations relations) (completion : IsCompletion relations c) (pair : IsGivenPair relation p.pair)
    (read : AreRead relations c p relation row list) where
  abbrev lists : List (List RowId)
  lists = lists_of c p.rel.0 p.pair.attr.0

  rankings : (ent : ℕ) → ent < length lists → IsRanking relation.rows ent (slice_index_or lists ent [])
  rankings ent below =
      let count = completion.shape.per_entity p.rel.0 relation read.is_relation p.pair.attr.0 pair.attr in
      completion.ranked p.rel.0 relation read.is_relation p.pair.attr.0 ent pair.attr (omega arith)

  earlier_of : entity_of relation.rows p.pair.earlier.0 ≡ Some row.entity.0
  earlier_of = entity_of_row relation.rows p.pair.earlier.0 row read.is_row

  later_of : entity_of relation.rows p.pair.later.0 ≡ Some row.entity.0
  later_of = sym pair.one_entity.1 ∙ earlier_of

  ent_within : row.entity.0 < length lists
  ent_within =
      let facts = all_at IsRelation relations p.rel.0 relation are.each read.is_relation in
      let below = all_at (λ (r : Row). r.entity.0 < length relation.entities) relation.rows p.pair.earlier.0 row
      facts.entities read.is_row in
      let count = completion.shape.per_entity p.rel.0 relation read.is_relation p.pair.attr.0 pair.attr in
      omega arith

  pub pair_stands : IsMetFirst list p.pair.earlier p.pair.later → Before lists p.pair.earlier p.pair.later
  pair_stands met =
      stands_before relation.rows lists p.pair.earlier p.pair.later row.entity.0 (rankings row.entity.0 ent_within) later_of
      pair.one_entity.0 (subst (λ l. IsMetFirst l p.pair.earlier p.pair.later) read.is_list met)

  pub pair_is_met : Before lists p.pair.earlier p.pair.later → IsMetFirst list p.pair.earlier p.pair.later
  pair_is_met before =
      subst (λ l. IsMetFirst l p.pair.earlier p.pair.later) (sym read.is_list)
      (is_met relation.rows lists p.pair.earlier p.pair.later rankings row.entity.0 earlier_of before)

-- the relation that is read is the one that the pair is of
pub same_read : {A : Type 0} (xs : List A) (i : ℕ) (x y : A) → x ≡ get_or xs i x → slice_get xs i ≡ Some y → x ≡ y
same_read xs i x y read at =
    same_Some x y (sym (slice_get_read xs (length xs) i x refl (slice_get_within xs i y at) read) ∙ at)
