-- How two rows of one entity stand in a completion.
use Rattle.std.proofs.Common.{◌≡◌, ◌≢◌, ◌⊎◌, ◌∙◌, ◌-◌, ◌<◌, ◌≤◌, ℕ, List, [], Some, length, get_or, slice_get, slice_index_or, sym, ap, subst, inl, inr, ⊎_elim, arith}
use Rattle.std.proofs.lemmas.Bool.{cases_eq, cases_lt}
use Rattle.std.proofs.lemmas.List.Elements.{All-contains}
use Rattle.std.proofs.lemmas.Option.{same_Some, slice_get-get_or, slice_get_within, slice_get_cases}
use Rattle.currency_base.specs.declared.ids.RowId.{RowId}
use Rattle.currency_base.specs.declared.row.Row.{Row}
use Rattle.order_literals.specs.Axioms.{AreTwo}
use Rattle.partial_orders.specs.Pairs.{entity_of}
use Rattle.spec_model.specs.Completion.{Rankings, lists_of, ranking_of, IsRanking, IsCompletion, Before}
use Rattle.spec_model.specs.Current.{last_row}
use Rattle.spec_model.specs.Facts.{IsRelation, AreRelations}
use Rattle.spec_model.specs.declared.relation.Relation.{Relation}
use Rattle.order_adequacy.proofs.Decided.{same_or, list_there}
use Rattle.order_adequacy.proofs.Lists.{place_of, at_place}
use Rattle.order_adequacy.proofs.Rows.{entity_below}

-- relations of a specification, and a completion of them
pub record IsCase (relations : List Relation) (c : Rankings) : Type 0 where
  pub facts : AreRelations relations
  pub completion : IsCompletion relations c

pub relation_facts : (relations : List Relation) (rel : ℕ) (r : Relation) → AreRelations relations
    → slice_get relations rel ≡ Some r → IsRelation r
relation_facts relations rel r facts at = All-contains IsRelation relations r facts.each (at_place relations rel r at)

-- a relation stands once at its number
pub one_relation : (relations : List Relation) (rel : ℕ) (a b : Relation) → slice_get relations rel ≡ Some a
    → slice_get relations rel ≡ Some b → a ≡ b
one_relation relations rel a b at at' = same_Some a b (sym at ∙ at')

pub one_entity : (rows : List Row) (row ent ent' : ℕ) → entity_of rows row ≡ Some ent → entity_of rows row ≡ Some
    ent' → ent ≡ ent'
one_entity rows row ent ent' of of' = same_Some ent ent' (sym of ∙ of')

-- ---- the list of an entity

-- a list that has a row is the list of an entity, in an attribute of a relation
record IsList (relations : List Relation) (c : Rankings) (rel attr ent : ℕ) : Type 0 where
  relation : Relation
  is_relation : slice_get relations rel ≡ Some relation
  attr_in : attr < length relation.attrs
  ranking : IsRanking relation.rows ent (ranking_of c rel attr ent)

list_of : (relations : List Relation) (c : Rankings) (rel attr ent place : ℕ) (row : RowId) → IsCompletion relations c
    → slice_get (ranking_of c rel attr ent) place ≡ Some row → IsList relations c rel attr ent
list_of relations c rel attr ent place row completion at =
    let ent_there : ent < length (lists_of c rel attr) = list_there (lists_of c rel attr) ent place row at in
    let of_attr = slice_get-get_or (lists_of c rel attr) ent [] ent_there in
    let attr_there : attr < length (slice_index_or c rel []) =
    list_there (slice_index_or c rel []) attr ent (ranking_of c rel attr ent) of_attr in
    let of_rel = slice_get-get_or (slice_index_or c rel []) attr [] attr_there in
    let rel_there : rel < length c = list_there c rel attr (lists_of c rel attr) of_rel in
    let within : rel < length relations = omega (arith, completion.shape.per_relation, rel_there) in
    ⊎_elim (λ p. by p.0 p.2 attr_there ent_there) (λ p. absurd (omega (arith, p.0, within))) (slice_get_cases relations rel).1
  where
    by : (r : Relation) → slice_get relations rel ≡ Some r → attr < length (slice_index_or c rel []) → ent < length
        (lists_of c rel attr)
        → IsList relations c rel attr ent
    by r is attr_there ent_there =
        let attr_in : attr < length r.attrs = omega (arith, completion.shape.per_attr rel r is, attr_there) in
        let ent_in : ent < length r.entities = omega (arith, completion.shape.per_entity rel r is attr attr_in, ent_there) in
        record { relation = r; is_relation = is; attr_in = attr_in; ranking = completion.ranked rel r is attr ent attr_in ent_in }

-- a row stands in one list of an attribute, at one place
one_place : (relations : List Relation) (c : Rankings) (rel attr ent ent' i j : ℕ) (row : RowId) → IsCompletion relations c
    → slice_get (ranking_of c rel attr ent) i ≡ Some row → slice_get (ranking_of c rel attr ent') j ≡ Some row →
    (ent ≡ ent') × (i ≡ j)
one_place relations c rel attr ent ent' i j row completion at at' =
    let l = list_of relations c rel attr ent i row completion at in
    let l' = list_of relations c rel attr ent' j row completion at' in
    let of : entity_of l.relation.rows row.0 ≡ Some ent = l.ranking.only row (at_place (ranking_of c rel attr ent) i row at) in
    let of' : entity_of l.relation.rows row.0 ≡ Some ent' =
    subst (λ (r : Relation). entity_of r.rows row.0 ≡ Some ent') (one_relation relations rel l'.relation l.relation
    l'.is_relation l.is_relation)
    (l'.ranking.only row (at_place (ranking_of c rel attr ent') j row at')) in
    let same : ent ≡ ent' = one_entity l.relation.rows row.0 ent ent' of of' in
    (same, l.ranking.once i j row at (ap (λ k. slice_get (ranking_of c rel attr k) j) same ∙ at'))

-- ---- the order of rows

-- two different rows of one entity of a relation, and one of its attributes
pub record ArePair (relations : List Relation) (rel attr : ℕ) (a b : RowId) : Type 0 where
  pub relation : Relation
  pub is_relation : slice_get relations rel ≡ Some relation
  pub attr_in : attr < length relation.attrs
  pub two : AreTwo relation.rows a b

-- of two rows at most one stands before the other
pub not_both : (relations : List Relation) (c : Rankings) (rel attr : ℕ) (a b : RowId) → IsCompletion relations c
    → Before (lists_of c rel attr) a b → Before (lists_of c rel attr) b a → ⊥
not_both relations c rel attr a b completion s t =
    let at_a = one_place relations c rel attr s.ent t.ent s.low t.high a completion s.first t.second in
    let at_b = one_place relations c rel attr s.ent t.ent s.high t.low b completion s.second t.first in
    absurd (omega (arith, at_a.1, at_b.1, s.below, t.below))

-- and none stands before itself
pub not_itself : (relations : List Relation) (c : Rankings) (rel attr : ℕ) (a b : RowId) → IsCompletion relations c
    → Before (lists_of c rel attr) a b → a ≡ b → ⊥
not_itself relations c rel attr a b completion s same =
    let own : Before (lists_of c rel attr) b b = subst (λ (row : RowId). Before (lists_of c rel attr) row b) same s in
    not_both relations c rel attr b b completion own own

-- rows of which one stands before the other are two rows of one entity
pub pair_before : (relations : List Relation) (c : Rankings) (rel attr : ℕ) (a b : RowId) → IsCompletion relations c
    → Before (lists_of c rel attr) a b → ArePair relations rel attr a b
pair_before relations c rel attr a b completion s =
    let l = list_of relations c rel attr s.ent s.low a completion s.first in
    record {
      relation = l.relation;
      is_relation = l.is_relation;
      attr_in = l.attr_in;
      two = record {
        ent = s.ent;
        a_of = l.ranking.only a (at_place (ranking_of c rel attr s.ent) s.low a s.first);
        b_of = l.ranking.only b (at_place (ranking_of c rel attr s.ent) s.high b s.second);
        differ = not_itself relations c rel attr a b completion s;
      };
    }

-- a row that stands before another does so in the list of its entity
pub before_in : (relations : List Relation) (c : Rankings) (rel attr ent : ℕ) (r : Relation) (a b : RowId)
    → IsCompletion relations c
    → slice_get relations rel ≡ Some r → entity_of r.rows a.0 ≡ Some ent → (s : Before (lists_of c rel attr) a b) → s.ent ≡ ent
before_in relations c rel attr ent r a b completion at of s =
    let l = list_of relations c rel attr s.ent s.low a completion s.first in
    let here = l.ranking.only a (at_place (ranking_of c rel attr s.ent) s.low a s.first) in
    let same = one_relation relations rel l.relation r l.is_relation at in
    one_entity r.rows a.0 s.ent ent (subst (λ (q : Relation). entity_of q.rows a.0 ≡ Some s.ent) same here) of

-- what stands before a row stands before each row that this one stands before
pub before_next : (relations : List Relation) (c : Rankings) (rel attr : ℕ) (a b d : RowId) → IsCompletion relations c
    → Before (lists_of c rel attr) a b → Before (lists_of c rel attr) b d → Before (lists_of c rel attr) a d
before_next relations c rel attr a b d completion s t =
    let at_b = one_place relations c rel attr s.ent t.ent s.high t.low b completion s.second t.first in
    record {
      ent = s.ent;
      low = s.low;
      high = t.high;
      below = omega (arith, at_b.1, s.below, t.below);
      first = s.first;
      second = ap (λ k. slice_get (ranking_of c rel attr k) t.high) at_b.0 ∙ t.second;
    }

-- the list of the entity of a row, in an attribute
pub ranking_at : (relations : List Relation) (c : Rankings) (rel attr ent : ℕ) (r : Relation) (row : RowId) → IsCase relations c
    → slice_get relations rel ≡ Some r → attr < length r.attrs → entity_of r.rows row.0 ≡ Some ent
    → IsRanking r.rows ent (ranking_of c rel attr ent)
ranking_at relations c rel attr ent r row is at inside of =
    let ent_in = entity_below r.rows (length r.entities) row.0 ent (relation_facts relations rel r is.facts at).entities of in
    is.completion.ranked rel r at attr ent inside ent_in

-- of two different rows of one entity one stands before the other
pub either_before : (relations : List Relation) (c : Rankings) (rel attr : ℕ) (a b : RowId) → IsCase relations c
    → ArePair relations rel attr a b
    → Before (lists_of c rel attr) a b ⊎ Before (lists_of c rel attr) b a
either_before relations c rel attr a b is pair =
    let ent = pair.two.ent in
    let list = ranking_of c rel attr ent in
    let ranking = ranking_at relations c rel attr ent pair.relation a is pair.is_relation pair.attr_in pair.two.a_of in
    by (place_of list a (ranking.all a pair.two.a_of)) (place_of list b (ranking.all b pair.two.b_of))
  where
    by : (i : ℕ) × (slice_get (ranking_of c rel attr pair.two.ent) i ≡ Some a)
        → (j : ℕ) × (slice_get (ranking_of c rel attr pair.two.ent) j ≡ Some b)
        → Before (lists_of c rel attr) a b ⊎ Before (lists_of c rel attr) b a
    by (i, at) (j, at') =
        ⊎_elim
        (λ (below : i < j). inl record { ent = pair.two.ent; low = i; high = j; below = below; first = at; second = at' })
        (λ (above : j ≤ i).
        ⊎_elim
        (λ (same : i ≡ j). absurd (pair.two.differ
        (same_Some a b (sym at ∙ (ap (slice_get (ranking_of c rel attr pair.two.ent)) same ∙ at')))))
        (λ (apart : i ≡ j → ⊥).
        inr record { ent = pair.two.ent; low = j; high = i; below = omega (arith, above, apart); first = at'; second = at })
        (cases_eq i j))
        (cases_lt i j)

-- ---- the last row

-- a row of an entity stands last in its list
pub record IsLastOf (r : Relation) (c : Rankings) (rel attr ent : ℕ) (z : RowId) : Type 0 where
  pub of_entity : entity_of r.rows z.0 ≡ Some ent
  pub is_last : last_row (ranking_of c rel attr ent) ≡ Some z

-- an entity with a row has a last row
pub last_there : (relations : List Relation) (c : Rankings) (rel attr ent : ℕ) (r : Relation) (row : RowId) → IsCase relations c
    → slice_get relations rel ≡ Some r → attr < length r.attrs → entity_of r.rows row.0 ≡ Some ent →
    (z : RowId) × IsLastOf r c rel attr ent z
last_there relations c rel attr ent r row is at inside of =
    let list = ranking_of c rel attr ent in
    let ranking = ranking_at relations c rel attr ent r row is at inside of in
    let found = place_of list row (ranking.all row of) in
    let some : length list - 1 < length list = (let below = slice_get_within list found.0 row found.1 in omega (arith, below)) in
    let z = get_or list (length list - 1) row in
    let is_last = slice_get-get_or list (length list - 1) row some in
    (z, record { of_entity = ranking.only z (at_place list (length list - 1) z is_last); is_last = is_last })

-- the last row stands before none
pub last_of_all : (relations : List Relation) (c : Rankings) (rel attr ent : ℕ) (r : Relation) (z later : RowId)
    → IsCompletion relations c
    → IsLastOf r c rel attr ent z → Before (lists_of c rel attr) z later → ⊥
last_of_all relations c rel attr ent r z later completion last s =
    let place = length (ranking_of c rel attr ent) - 1 in
    let at = one_place relations c rel attr s.ent ent s.low place z completion s.first last.is_last in
    let long : length (ranking_of c rel attr s.ent) ≡ length (ranking_of c rel attr ent) =
    ap (λ k. length (ranking_of c rel attr k)) at.0 in
    let inside = slice_get_within (ranking_of c rel attr s.ent) s.high later s.second in
    absurd (omega (arith, at.1, long, inside, s.below))

-- a pair of the last row and another of its entity
pub pair_with : (relations : List Relation) (rel attr ent : ℕ) (r : Relation) (a b : RowId) → slice_get relations
    rel ≡ Some r → attr < length r.attrs
    → entity_of r.rows a.0 ≡ Some ent → entity_of r.rows b.0 ≡ Some ent → a ≢ b → ArePair relations rel attr a b
pair_with relations rel attr ent r a b at inside a_of b_of differ = record {
  relation = r;
  is_relation = at;
  attr_in = inside;
  two = record { ent = ent; a_of = a_of; b_of = b_of; differ = differ };
}

-- each other row of its entity stands before the last
pub before_last : (relations : List Relation) (c : Rankings) (rel attr ent : ℕ) (r : Relation) (z other : RowId)
    → IsCase relations c
    → slice_get relations rel ≡ Some r → attr < length r.attrs → IsLastOf r c rel attr ent z
    → entity_of r.rows other.0 ≡ Some ent → other ≢ z
    → Before (lists_of c rel attr) other z
before_last relations c rel attr ent r z other is at inside last of differ =
    ⊎_elim
    (λ (s : Before (lists_of c rel attr) other z). s)
    (λ (s : Before (lists_of c rel attr) z other). absurd (last_of_all relations c rel attr ent r z other is.completion last s))
    (either_before relations c rel attr other z is (pair_with relations rel attr ent r other z at inside of
    last.of_entity differ))

-- a row before which all others of its entity stand is the last
pub last_if : (relations : List Relation) (c : Rankings) (rel attr ent : ℕ) (r : Relation) (row : RowId) → IsCase relations c
    → slice_get relations rel ≡ Some r → attr < length r.attrs → entity_of r.rows row.0 ≡ Some ent
    → ((other : RowId) → entity_of r.rows other.0 ≡ Some ent → other ≢ row → Before (lists_of c rel attr) other row)
    → IsLastOf r c rel attr ent row
last_if relations c rel attr ent r row is at inside of all = by (last_there relations c rel attr ent r row is at inside of)
  where
    by : (z : RowId) × IsLastOf r c rel attr ent z → IsLastOf r c rel attr ent row
    by (z, last) =
        ⊎_elim
        (λ (same : z ≡ row). subst (IsLastOf r c rel attr ent) same last)
        (λ (differ : z ≡ row → ⊥).
        absurd (last_of_all relations c rel attr ent r z row is.completion last (all z last.of_entity differ)))
        (same_or z row)
