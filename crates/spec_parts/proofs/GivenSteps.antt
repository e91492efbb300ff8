-- Given pairs of the part, one entity and one relation after another.
use Rattle.std.proofs.Common.{◌≡◌, ◌⊎◌, ◌+◌, ◌<◌, ◌≤◌, ◌∙◌, ℕ, List, [], Contains, Some, IfSome, get_or, length, take, slice_get, slice_index_or, sym, ap, subst, inl, inr, arith}
use Rattle.std.proofs.lemmas.Bool.{cases_lt}
use Rattle.std.proofs.lemmas.List.{take_all}
use Rattle.std.proofs.lemmas.Option.{same_Some, slice_get-get_or, slice_get_within}
use Rattle.currency_base.specs.declared.ids.EntId.{EntId}
use Rattle.currency_base.specs.declared.ids.RowId.{RowId}
use Rattle.currency_base.specs.declared.pair.Pair.{Pair}
use Rattle.spec_model.specs.Facts.{IsGivenPair, AddsGiven}
use Rattle.spec_model.specs.Spec.{Spec}
use Rattle.spec_model.specs.declared.relation.Relation.{Relation}
use Rattle.part_laws.specs.Parts.{Places, IsPairPart, rows_in, entities_in}
use Rattle.part_laws.proofs.Rows.{entity_of_row}
use Rattle.spec_parts.specs.Index.{AreIndexed}
use Rattle.spec_parts.specs.Steps.{AreCuttable, AreOfPart, ArePartsSoFar, Grows, HasPairs, HasGiven, IsCuttable, IsListedRow}
use Rattle.spec_parts.proofs.Adding.{grows_one, has_one, pairs_kept, pairs_more, pair_fits, given_kept}
use Rattle.spec_parts.proofs.Pairing.{item_at, is_in, stands, item_has}
use Rattle.spec_parts.proofs.PartLists.{part_at}

-- ---- the pairs of an entity

module _ (whole : Spec) (n : Places) (rel : ℕ) (cut : AreCuttable whole.relations n) (within : rel < length whole.relations) where
  -- what is known of the next pair
  pub record Next (rows : List RowId) (pair : Pair) : Type 0 where
    pub relation : Relation
    pub is_relation : slice_get whole.relations rel ≡ Some relation
    pub few : length rows + 1 < 4294967296
    pub cuttable : IsCuttable relation rows (entities_in n rel)
    pub given : Contains relation.given pair
    pub earlier : Contains rows pair.earlier
    pub later : Contains rows pair.later

  pub next_pair : (rows : List RowId) (pairs : List Pair) (i : ℕ) (d : Pair) → rows ≡ rows_in n rel
      → AreOfPart whole.relations n rel pairs
      → i < length pairs → Next rows (get_or pairs i d)
  next_pair rows pairs i d same of below =
      let r = item_at whole.relations rel within in
      let pair = get_or pairs i d in
      let facts = of r.0 r.1 pair (is_in pairs i pair (slice_get-get_or pairs i d below)) in
      let is : IsCuttable r.0 rows (entities_in n rel) = subst (λ l. IsCuttable r.0 l (entities_in n rel)) (sym same)
      (cut.each rel r.0 r.1) in
      record {
        relation = r.0;
        is_relation = r.1;
        few = is.few_rows;
        cuttable = is;
        given = facts.0;
        earlier = subst (λ l. Contains l pair.earlier) (sym same) facts.1;
        later = subst (λ l. Contains l pair.later) (sym same) facts.2;
      }

  module _ (rows : List RowId) (same : rows ≡ rows_in n rel) (pairs : List Pair) (i : ℕ) (d : Pair)
      (of : AreOfPart whole.relations n rel pairs)
      (below : i < length pairs) (old : Spec) (p : Pair)
      (are : ArePartsSoFar whole.relations n (length whole.relations) old.relations)
      (is : IsPairPart rows p (get_or pairs i d)) where
    in_places : IsPairPart (rows_in n rel) p (get_or pairs i d)
    in_places = subst (λ l. IsPairPart l p (get_or pairs i d)) same is

    next : Next rows (get_or pairs i d)
    next = next_pair rows pairs i d same of below

    pub next_fits : IfSome (slice_get old.relations rel) (λ w. IsGivenPair w p)
    next_fits = pair_fits whole.relations n old.relations rel next.relation p (get_or pairs i d) cut are
        next.is_relation next.given
        in_places

    module _ (new : Spec) (adds : AddsGiven old.relations new.relations rel p) where
      pub next_grows : new.rules ≡ old.rules → new.copies ≡ old.copies → Grows whole n old new
      next_grows rules copies =
          let q = part_at whole.relations n (length whole.relations) old.relations are rel next.relation within
          next.is_relation in
          grows_one whole n old new rel p (get_or pairs i d) next.relation q.0 next.is_relation q.1 next.given
          in_places are adds rules
          copies

      pub next_added : Grows whole n old new → HasPairs old.relations rel (rows_in n rel) (take i pairs)
          → HasPairs new.relations rel (rows_in n rel) (take (i + 1) pairs)
      next_added grows has =
          let q = part_at whole.relations n (length whole.relations) old.relations are rel next.relation within
          next.is_relation in
          pairs_more new.relations rel (rows_in n rel) pairs i p (get_or pairs i d)
          (cut.each rel next.relation next.is_relation).rows_ascend
          (slice_get-get_or pairs i d below) in_places (pairs_kept whole n old new rel (rows_in n rel) (take i pairs) grows has)
          (has_one whole n old new rel p (get_or pairs i d) next.relation q.0 next.is_relation q.1 next.given in_places are adds)

pub pairs_end : (part : List Relation) (rel : ℕ) (rows : List RowId) (pairs : List Pair) (i : ℕ) → length pairs ≤ i
    → HasPairs part rel rows (take i pairs) → HasPairs part rel rows pairs
pairs_end part rel rows pairs i end has = subst (HasPairs part rel rows) (take_all i pairs end) has

-- ---- the entities of a relation

abbrev pub listed_pairs : List (List (List Pair)) → ℕ → EntId → List Pair
listed_pairs index rel ent = slice_index_or (slice_index_or index rel []) ent.0 []

module _ (whole : Spec) (n : Places) (index : List (List (List Pair))) (rel : ℕ) (cut : AreCuttable whole.relations n)
    (indexed : AreIndexed whole.relations index) where
  pub pairs_of_part : (ent : EntId) → Contains (entities_in n rel) ent → AreOfPart whole.relations n rel
      (listed_pairs index rel ent)
  pairs_of_part ent c r at p listed =
      let facts = (indexed.each rel r at ent.0 p).0 listed in
      let is = cut.each rel r at in
      let place = stands r.given p facts.0 in
      let pair = item_has (IsGivenPair r) r.given is.facts.given place.0 p place.1 in
      (facts.0, is.complete p.earlier ent facts.1 c, is.complete p.later ent (sym pair.one_entity.1 ∙ facts.1) c)

  pub entity_listed : (r : Relation) (ents : List EntId) (i : ℕ) (d : EntId) → slice_get whole.relations rel ≡ Some r
      → ents ≡ entities_in n rel
      → i < length ents → (get_or ents i d).0 < length (slice_index_or index rel [])
  entity_listed r ents i d at same below =
      let in_places : slice_get (entities_in n rel) i ≡ Some (get_or ents i d) = ap (λ l. slice_get l i) (sym same)
      ∙ slice_get-get_or ents
      i d below in
      let named = item_has (λ (e : EntId). e.0 < length r.entities) (entities_in n rel) (cut.each rel r at).named i
      (get_or ents i d)
      in_places in
      omega (arith, named, indexed.per_entity rel r at)

  -- the entities below a place are done
  abbrev pub AreDone : List Relation → ℕ → Type 0
  AreDone part i = (k : ℕ) (ent : EntId) → k < i → slice_get (entities_in n rel) k ≡ Some ent
      → HasPairs part rel (rows_in n rel) (listed_pairs index rel ent)

  pub done_more : (old new : Spec) (ents : List EntId) (i : ℕ) (d : EntId) → ents ≡ entities_in n rel → i < length ents
      → Grows whole n old new
      → AreDone old.relations i → HasPairs new.relations rel (rows_in n rel) (listed_pairs index rel (get_or ents i d))
      → AreDone new.relations (i + 1)
  done_more old new ents i d same below grows done has k ent below_k at = by (cases_lt k i)
    where
      by : (k < i) ⊎ (i ≤ k) → HasPairs new.relations rel (rows_in n rel) (listed_pairs index rel ent)
      by (inl before) = pairs_kept whole n old new rel (rows_in n rel) (listed_pairs index rel ent) grows (done k ent before at)
      by (inr after) =
          let here : k ≡ i = omega (arith, after, below_k) in
          let read : slice_get (entities_in n rel) i ≡ Some (get_or ents i d) = ap (λ l. slice_get l i) (sym same)
          ∙ slice_get-get_or ents
          i d below in
          let one : get_or ents i d ≡ ent = same_Some (get_or ents i d) ent
          (sym read ∙ (ap (slice_get (entities_in n rel)) (sym here) ∙ at)) in
          subst (λ e. HasPairs new.relations rel (rows_in n rel) (listed_pairs index rel e)) one has

  pub all_done : (part : List Relation) (i : ℕ) → length (entities_in n rel) ≤ i → AreDone part i → HasGiven whole n part rel
  all_done part i end done r at w at_w p o is given =
      let cuttable = cut.each rel r at in
      let row = item_has (IsListedRow r.rows (entities_in n rel)) (rows_in n rel) cuttable.listed p.earlier.0
      o.earlier is.earlier in
      let place = stands (entities_in n rel) row.old.entity row.listed in
      let below : place.0 < i = omega (arith, slice_get_within (entities_in n rel) place.0 row.old.entity place.1, end) in
      let listed = (indexed.each rel r at row.old.entity.0 o).1 (given, entity_of_row r.rows o.earlier.0 row.old row.is_old) in
      done place.0 row.old.entity below place.1 w at_w p o is listed

-- ---- all relations

pub given_more : (whole : Spec) (n : Places) (old new : Spec) (i : ℕ) → Grows whole n old new
    → ((k : ℕ) → k < i → HasGiven whole n old.relations k) → HasGiven whole n new.relations i → (k : ℕ) → k < i + 1
    → HasGiven whole n new.relations k
given_more whole n old new i grows done has k below = by (cases_lt k i)
  where
    by : (k < i) ⊎ (i ≤ k) → HasGiven whole n new.relations k
    by (inl before) = given_kept whole n old new k grows (done k before)
    by (inr after) = let here : i ≡ k = omega (arith, after, below) in subst (HasGiven whole n new.relations) here has

pub given_all : (whole : Spec) (n : Places) (part : List Relation) (i : ℕ) → length whole.relations ≤ i
    → ((k : ℕ) → k < i → HasGiven whole n part k) → (rel : ℕ) → HasGiven whole n part rel
given_all whole n part i end done rel r at =
    let within = slice_get_within whole.relations rel r at in
    done rel (omega (arith, within, end)) r at
