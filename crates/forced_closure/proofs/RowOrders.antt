-- How two rows of an entity stand in a completion.
use Rattle.std.proofs.Common.{◌≡◌, ◌⊎◌, ◌<◌, ◌≤◌, ℕ, zero, suc, List, [], ◌∷◌, All, Contains, Some, length, slice_get, slice_index_or, sym, ap, ◌∙◌, subst, inl, inr, ⊎_elim, arith}
use Rattle.std.proofs.lemmas.Bool.{cases_eq, cases_lt}
use Rattle.std.proofs.lemmas.List.{get_or_past}
use Rattle.std.proofs.lemmas.List.Elements.{All-head, All-tail}
use Rattle.std.proofs.lemmas.Option.{same_Some, none-some, get_or_from_slice_get, slice_get-get_or, slice_get_within, slice_get_cases}
use Rattle.currency_base.specs.declared.ids.RowId.{RowId}
use Rattle.currency_base.specs.declared.row.Row.{Row}
use Rattle.partial_orders.specs.Pairs.{entity_of}
use Rattle.spec_model.specs.Completion.{Rankings, lists_of, ranking_of, IsRanking, IsCompletion, Before}
use Rattle.spec_model.specs.declared.relation.Relation.{Relation}

-- ---- lists

at_contains : {A : Type 0} (xs : List A) (x : A) → Contains xs x → (i : ℕ) × (slice_get xs i ≡ Some x)
at_contains xs x c = (c.0, slice_get-get_or xs c.0 x c.1 ∙ ap Some c.2)

contains_at : {A : Type 0} (xs : List A) (i : ℕ) (x : A) → slice_get xs i ≡ Some x → Contains xs x
contains_at xs i x at = (i, slice_get_within xs i x at, get_or_from_slice_get xs i x x at)

-- what holds of all items holds of the one at a place
pub all_at : {A : Type 0} (P : A → Type 0) (xs : List A) (i : ℕ) (x : A) → All P xs → slice_get xs i ≡ Some x → P x
all_at P xs i x all at = subst P (get_or_from_slice_get xs i x x at) (all i x (slice_get_within xs i x at))

-- a list with an item is one of the lists
within : {A : Type 0} (lists : List (List A)) (i k : ℕ) → k < length (slice_index_or lists i []) → i < length lists
within lists i k below =
    ⊎_elim
    (λ (h : i < length lists). h)
    (λ (past : length lists ≤ i).
    let none : length (slice_index_or lists i []) ≡ 0 = ap length (get_or_past lists i [] past) in
    absurd (omega (arith, none, below)))
    (cases_lt i (length lists))

-- each row stands for one of the entities
entity_in : (rows : List Row) (n row ent : ℕ) → All (λ r. r.entity.0 < n) rows → entity_of rows row ≡ Some ent → ent < n
entity_in [] n row ent all of = absurd (none-some ent of)
entity_in (r ∷ rows) n zero ent all of =
    subst (λ k. k < n) (same_Some r.entity.0 ent of) (All-head (λ q. q.entity.0 < n) r rows all)
entity_in (r ∷ rows) n (suc row) ent all of = entity_in rows n row ent (All-tail (λ q. q.entity.0 < n) r rows all) of

-- ---- places

-- a list of rankings that has a row is the ranking of an entity, for an attribute of a relation
record IsListed (relations : List Relation) (c : Rankings) (rel attr ent : ℕ) : Type 0 where
  relation : Relation
  is_relation : slice_get relations rel ≡ Some relation
  ranking : IsRanking relation.rows ent (ranking_of c rel attr ent)

listed : (relations : List Relation) (c : Rankings) (rel attr ent i : ℕ) (row : RowId) → IsCompletion relations c
    → slice_get (ranking_of c rel attr ent) i ≡ Some row → IsListed relations c rel attr ent
listed relations c rel attr ent i row completion at =
    let in_ents = within (lists_of c rel attr) ent i (slice_get_within (ranking_of c rel attr ent) i row at) in
    let in_attrs = within (slice_index_or c rel []) attr ent in_ents in
    let in_relations = within c rel attr in_attrs in
    let there : rel < length relations = omega (arith, completion.shape.per_relation, in_relations) in
    ⊎_elim (λ p. by p.0 p.2 in_attrs in_ents) (λ p. absurd (omega (arith, p.0, there))) (slice_get_cases relations rel).1
  where
    by : (r : Relation) → slice_get relations rel ≡ Some r → attr < length (slice_index_or c rel [])
        → ent < length (lists_of c rel attr) → IsListed relations c rel attr ent
    by r is in_attrs in_ents =
        let attr_in : attr < length r.attrs = omega (arith, completion.shape.per_attr rel r is, in_attrs) in
        let ent_in : ent < length r.entities = omega (arith, completion.shape.per_entity rel r is attr attr_in, in_ents) in
        record { relation = r; is_relation = is; ranking = completion.ranked rel r is attr ent attr_in ent_in }

-- a row stands in one list of an attribute, at one place
one_place : (relations : List Relation) (c : Rankings) (rel attr ent ent' i j : ℕ) (row : RowId) → IsCompletion relations c
    → slice_get (ranking_of c rel attr ent) i ≡ Some row → slice_get (ranking_of c rel attr ent') j ≡ Some row
    → (ent ≡ ent') × (i ≡ j)
one_place relations c rel attr ent ent' i j row completion at at' =
    let l = listed relations c rel attr ent i row completion at in
    let l' = listed relations c rel attr ent' j row completion at' in
    let same : l'.relation ≡ l.relation = same_Some l'.relation l.relation (sym l'.is_relation ∙ l.is_relation) in
    let of : entity_of l.relation.rows row.0 ≡ Some ent = l.ranking.only row (contains_at (ranking_of c rel attr ent) i row at) in
    let of' : entity_of l.relation.rows row.0 ≡ Some ent' =
    subst (λ (r : Relation). entity_of r.rows row.0 ≡ Some ent') same
    (l'.ranking.only row (contains_at (ranking_of c rel attr ent') j row at')) in
    let e : ent ≡ ent' = same_Some ent ent' (sym of ∙ of') in
    (e, l.ranking.once i j row at (ap (λ k. slice_get (ranking_of c rel attr k) j) e ∙ at'))

-- ---- the order of rows

-- of two rows at most one stands before the other; so none stands before itself
pub not_both_ways : (relations : List Relation) (c : Rankings) (rel attr : ℕ) (a b : RowId) → IsCompletion relations c
    → Before (lists_of c rel attr) a b → Before (lists_of c rel attr) b a → ⊥
not_both_ways relations c rel attr a b completion s t =
    let at_a = one_place relations c rel attr s.ent t.ent s.low t.high a completion s.first t.second in
    let at_b = one_place relations c rel attr s.ent t.ent s.high t.low b completion s.second t.first in
    absurd (omega (arith, at_a.1, at_b.1, s.below, t.below))

-- what stands before a row stands before each row that this one stands before
pub before_next : (relations : List Relation) (c : Rankings) (rel attr : ℕ) (a b d : RowId) → IsCompletion relations c
    → Before (lists_of c rel attr) a b → Before (lists_of c rel attr) b d → Before (lists_of c rel attr) a d
before_next relations c rel attr a b d completion s t =
    let at_b = one_place relations c rel attr s.ent t.ent s.high t.low b completion s.second t.first in
    record {
      ent = s.ent;
      low = s.low;
      high = t.high;
      below = omega (arith, at_b.1, s.below, t.below);
      first = s.first;
      second = ap (λ k. slice_get (ranking_of c rel attr k) t.high) at_b.0 ∙ t.second;
    }

-- two different rows of one entity of a relation, and one of its attributes
pub record AreTwo (relations : List Relation) (rel attr : ℕ) (a b : RowId) : Type 0 where
  pub relation : Relation
  pub is_relation : slice_get relations rel ≡ Some relation
  pub attr_in : attr < length relation.attrs
  pub entities : All (λ row. row.entity.0 < length relation.entities) relation.rows
  pub ent : ℕ
  pub first_of : entity_of relation.rows a.0 ≡ Some ent
  pub second_of : entity_of relation.rows b.0 ≡ Some ent
  pub differ : a ≡ b → ⊥

-- one of them stands before the other
pub either_before : (relations : List Relation) (c : Rankings) (rel attr : ℕ) (a b : RowId) → IsCompletion relations c
    → AreTwo relations rel attr a b → Before (lists_of c rel attr) a b ⊎ Before (lists_of c rel attr) b a
either_before relations c rel attr a b completion two =
    let ent_in = entity_in two.relation.rows (length two.relation.entities) a.0 two.ent two.entities two.first_of in
    let ranking = completion.ranked rel two.relation two.is_relation attr two.ent two.attr_in ent_in in
    by (at_contains (ranking_of c rel attr two.ent) a (ranking.all a two.first_of))
    (at_contains (ranking_of c rel attr two.ent) b (ranking.all b two.second_of))
  where
    by : (i : ℕ) × (slice_get (ranking_of c rel attr two.ent) i ≡ Some a)
        → (j : ℕ) × (slice_get (ranking_of c rel attr two.ent) j ≡ Some b)
        → Before (lists_of c rel attr) a b ⊎ Before (lists_of c rel attr) b a
    by (i, at) (j, at') =
        ⊎_elim
        (λ (below : i < j). inl record { ent = two.ent; low = i; high = j; below = below; first = at; second = at' })
        (λ (above : j ≤ i).
        ⊎_elim
        (λ (same : i ≡ j).
        absurd (two.differ (same_Some a b (sym at ∙ (ap (slice_get (ranking_of c rel attr two.ent)) same ∙ at')))))
        (λ (apart : i ≡ j → ⊥).
        inr record { ent = two.ent; low = j; high = i; below = omega (arith, above, apart); first = at'; second = at })
        (cases_eq i j))
        (cases_lt i j)
