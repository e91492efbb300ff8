-- The forced pairs that are listed so far, with one more place gone over.
use Rattle.std.proofs.Common.{◌≡◌, ◌∙◌, ◌⊎◌, ◌+◌, ◌<◌, ◌≤◌, ℕ, Bool, true, false, List, [], ◌∷◌, ◌++◌, All, Contains, Some, length, get_or, slice_get, take, refl, sym, ap, subst, inl, inr, ⊎_elim, arith}
use Rattle.std.proofs.lemmas.Bool.{cases_lt}
use Rattle.std.proofs.lemmas.List.{get_or-take, length-take-le, take_more, take_all}
use Rattle.std.proofs.lemmas.List.Elements.{Contains-append_left, Contains-get_or, Contains-push, Contains-push_cases}
use Rattle.std.proofs.lemmas.Option.{same_Some, slice_get-get_or, slice_get_within, get_or_from_slice_get}
use Rattle.std.specs.declared.cmp.Ordering.TheVariants.{Less}
use Rattle.currency_base.specs.declared.ids.RowId.{RowId}
use Rattle.entity_lists.specs.Lists.{Grouping, entities_of, rows_of}
use Rattle.entity_lists.proofs.Facts.{found_in, length-entities_of, rows_ascend}
use Rattle.spec_model.specs.Facts.{IsSpecification}
use Rattle.spec_model.specs.Spec.{Spec}
use Rattle.spec_model.specs.declared.question.Asked.{Asked}
use Rattle.spec_model.specs.declared.relation.Relation.{Relation}
use Rattle.report_model.specs.Writable.{IsPairOf}
use Rattle.forced_write.specs.ForcedText.{pair_cmp}
use Rattle.forced_write.specs.Listing.{IsForcedPair, Precedes, IsSeen, AreListed, AreForcedPairs, IsColumn}
use Rattle.forced_write.specs.Listing.Precedes.{by_rel, by_attr, by_earlier, by_later}
use Rattle.forced_write.proofs.Sorting.{pair_less, sorted_none, sorted_push}
use Rattle.forced_write.proofs.Within.{entity_read, forced_within}

none_in : {A : Type 0} (x : A) → Contains [] x → ⊥
none_in x h = omega (arith, h.1)

all_of : {A : Type 0} (P : A → Type 0) (xs : List A) → ((x : A) → Contains xs x → P x) → All P xs
all_of P xs each = λ k d below. each (get_or xs k d) (Contains-get_or xs k d below)

-- ---- nothing is listed

before_all : (p : Asked) → Precedes 0 0 0 [] p → ⊥
before_all p (by_rel h) = omega (arith, h)
before_all p (by_attr e h) = omega (arith, h)
before_all p (by_earlier e f h) = omega (arith, h)
before_all p (by_later e f g c) = none_in p.pair.later c

pub listed_none : (s : Spec) → AreListed s 0 0 0 [] []
listed_none s = record {
  each = λ p c. absurd (none_in p c);
  all = λ p seen. absurd (before_all p seen.precedes);
  ascend = sorted_none pair_cmp;
}

-- ---- places before which the same forced pairs come

moved : (s : Spec) (rel attr earlier rel' attr' earlier' : ℕ) (laters laters' : List RowId) (pairs : List Asked)
    → AreListed s rel attr earlier laters pairs
    → ((p : Asked) → IsForcedPair s p → Precedes rel attr earlier laters p → Precedes rel' attr' earlier' laters' p)
    → ((p : Asked) → IsForcedPair s p → Precedes rel' attr' earlier' laters' p → Precedes rel attr earlier laters p)
    → AreListed s rel' attr' earlier' laters' pairs
moved s rel attr earlier rel' attr' earlier' laters laters' pairs are on off = record {
  each = λ p c.
      let seen = are.each p c in
      let r : IsSeen s rel' attr' earlier' laters' p = record {
        forced = seen.forced;
        precedes = on p seen.forced
            seen.precedes;
      } in r;
  all = λ p seen. are.all p (record { forced = seen.forced; precedes = off p seen.forced seen.precedes });
  ascend = are.ascend;
}

-- ---- one later row more

lifted : (rel attr earlier : ℕ) (laters : List RowId) (row : RowId) (p : Asked) → Precedes rel attr earlier laters p
    → Precedes rel attr earlier (laters ++ row ∷ []) p
lifted rel attr earlier laters row p (by_rel h) = by_rel h
lifted rel attr earlier laters row p (by_attr e h) = by_attr e h
lifted rel attr earlier laters row p (by_earlier e f h) = by_earlier e f h
lifted rel attr earlier laters row p (by_later e f g c) = by_later e f g (Contains-append_left laters (row ∷ []) p.pair.later c)

asked : ℕ → ℕ → ℕ → RowId → Asked
asked rel attr earlier later = record {
  rel = record { 0 = rel };
  pair =
      record { attr = record { 0 = attr }; earlier = record { 0 = earlier }; later = later };
}

same_asked : (p q : Asked) → q.rel.0 ≡ p.rel.0 → q.pair.attr.0 ≡ p.pair.attr.0 → q.pair.earlier.0 ≡ p.pair.earlier.0
    → p.pair.later ≡ q.pair.later → p ≡ q
unfolding asked
same_asked p q e f g h =
    ap (λ n. asked n p.pair.attr.0 p.pair.earlier.0 p.pair.later) (sym e)
    ∙ ap (λ n. asked q.rel.0 n p.pair.earlier.0 p.pair.later) (sym f)
    ∙ ap (λ n. asked q.rel.0 q.pair.attr.0 n p.pair.later) (sym g)
    ∙ ap (λ row. asked q.rel.0 q.pair.attr.0 q.pair.earlier.0 row) h

-- what comes before the next place came before, or is the pair at the place
lowered : (p : Asked) (laters : List RowId) (q : Asked) → Precedes p.rel.0 p.pair.attr.0 p.pair.earlier.0
    (laters ++ p.pair.later ∷ []) q
    → Precedes p.rel.0 p.pair.attr.0 p.pair.earlier.0 laters q ⊎ (p ≡ q)
lowered p laters q (by_rel h) = inl (by_rel h)
lowered p laters q (by_attr e h) = inl (by_attr e h)
lowered p laters q (by_earlier e f h) = inl (by_earlier e f h)
lowered p laters q (by_later e f g c) = ⊎_elim
    (λ (there : Contains laters q.pair.later). inl (by_later e f g there))
    (λ (is : p.pair.later ≡ q.pair.later). inr (same_asked p q e f g is))
    (Contains-push_cases laters p.pair.later q.pair.later c)

-- a pair that is forced
pub listed_more : (s : Spec) (p : Asked) (laters : List RowId) (pairs : List Asked) → IsForcedPair s p
    → All (λ row. row.0 < p.pair.later.0) laters
    → AreListed s p.rel.0 p.pair.attr.0 p.pair.earlier.0 laters pairs
    → AreListed s p.rel.0 p.pair.attr.0 p.pair.earlier.0 (laters ++ p.pair.later ∷ []) (pairs ++ p ∷ [])
listed_more s p laters pairs forced below are =
    let rel = p.rel.0 in
    let attr = p.pair.attr.0 in
    let earlier = p.pair.earlier.0 in
    let more = laters ++ p.pair.later ∷ [] in
    let here : IsSeen s rel attr earlier more p = record {
      forced = forced;
      precedes = by_later refl refl refl
          (Contains-push laters p.pair.later);
    } in
    record {
      each = λ q c. ⊎_elim
          (λ (there : Contains pairs q). let seen = are.each q there in
          let r : IsSeen s rel attr earlier more q = record {
            forced = seen.forced;
            precedes = lifted rel attr
                earlier laters p.pair.later q seen.precedes;
          } in r)
          (λ (is : p ≡ q). subst (IsSeen s rel attr earlier more) is here)
          (Contains-push_cases pairs p q c);
      all = λ q seen. ⊎_elim
          (λ (was : Precedes rel attr earlier laters q). Contains-append_left pairs (p ∷ []) q
          (are.all q (record { forced = seen.forced; precedes = was })))
          (λ (is : p ≡ q). subst (Contains (pairs ++ p ∷ [])) is (Contains-push pairs p))
          (lowered p laters q seen.precedes);
      ascend = sorted_push pair_cmp pairs p are.ascend (all_of (λ q. pair_cmp q p ≡ Less) pairs
          (λ q c. pair_less q p laters below (are.each q c).precedes));
    }

-- a pair that is not
pub listed_past : (s : Spec) (p : Asked) (laters : List RowId) (pairs : List Asked) → (IsForcedPair s p → ⊥)
    → AreListed s p.rel.0 p.pair.attr.0 p.pair.earlier.0 laters pairs
    → AreListed s p.rel.0 p.pair.attr.0 p.pair.earlier.0 (laters ++ p.pair.later ∷ []) pairs
listed_past s p laters pairs free are =
    let rel = p.rel.0 in
    let attr = p.pair.attr.0 in
    let earlier = p.pair.earlier.0 in
    moved s rel attr earlier rel attr earlier laters (laters ++ p.pair.later ∷ []) pairs are
    (λ q forced before. lifted rel attr earlier laters p.pair.later q before)
    (λ q forced before. ⊎_elim
    (λ (was : Precedes rel attr earlier laters q). was)
    (λ (is : p ≡ q). absurd (free (subst (IsForcedPair s) (sym is) forced)))
    (lowered p laters q before))

-- ---- the later rows of a row

taken_below : (entities : List ℕ) (ent i : ℕ) (row : RowId) → slice_get (rows_of entities ent) i ≡ Some row
    → All (λ other. other.0 < row.0) (take i (rows_of entities ent))
taken_below entities ent i row at =
    let rows = rows_of entities ent in
    let within = slice_get_within rows i row at in
    let long : length (take i rows) ≡ i = length-take-le i rows (omega arith) in
    λ k d below.
    let first : k < i = omega arith in
    let inside : k < length rows = omega arith in
    rw (get_or-take i rows k d first) (rows_ascend entities ent k i (get_or rows k d) row
    (slice_get-get_or rows k d inside) at first)

-- one later row more
pub row_more : (s : Spec) (rel attr earlier : ℕ) (entities : List ℕ) (ent i : ℕ) (rows : List RowId) (row : RowId)
    (old new : List Asked)
    → rows ≡ rows_of entities ent → slice_get rows i ≡ Some row
    → ((laters : List RowId) → All (λ other. other.0 < row.0) laters → AreListed s rel attr earlier laters old
    → AreListed s rel attr earlier (laters ++ row ∷ []) new)
    → AreListed s rel attr earlier (take i rows) old → AreListed s rel attr earlier (take (i + 1) rows) new
row_more s rel attr earlier entities ent i rows row old new is at step are =
    let at' : slice_get (rows_of entities ent) i ≡ Some row = rw is at at in
    let below = subst (λ (l : List RowId). All (λ other. other.0 < row.0) (take i l)) (sym is)
    (taken_below entities ent i row at') in
    rw (take_more rows i row (slice_get_within rows i row at), get_or_from_slice_get rows i row row at)
    (step (take i rows) below are)

-- all later rows of an entity
row_on : (rel attr earlier : ℕ) (laters : List RowId) (p : Asked) → Precedes rel attr earlier laters p
    → Precedes rel attr (earlier + 1) [] p
row_on rel attr earlier laters p (by_rel h) = by_rel h
row_on rel attr earlier laters p (by_attr e h) = by_attr e h
row_on rel attr earlier laters p (by_earlier e f h) = by_earlier e f (omega arith)
row_on rel attr earlier laters p (by_later e f g c) = by_earlier e f (omega arith)

row_off : (rel attr earlier : ℕ) (laters : List RowId) (p : Asked)
    → (p.rel.0 ≡ rel → p.pair.attr.0 ≡ attr → p.pair.earlier.0 ≡ earlier → Contains laters p.pair.later)
    → Precedes rel attr (earlier + 1) [] p → Precedes rel attr earlier laters p
row_off rel attr earlier laters p there (by_rel h) = by_rel h
row_off rel attr earlier laters p there (by_attr e h) = by_attr e h
row_off rel attr earlier laters p there (by_earlier e f h) = ⊎_elim
    (λ (g : p.pair.earlier.0 < earlier). by_earlier e f g)
    (λ (g : earlier ≤ p.pair.earlier.0). let same : p.pair.earlier.0 ≡ earlier = omega arith in by_later e f same
    (there e f same))
    (cases_lt p.pair.earlier.0 earlier)
row_off rel attr earlier laters p there (by_later e f g c) = absurd (none_in p.pair.later c)

-- the later row of a forced pair is of the earlier one's entity
later_there : (s : Spec) (lists : Grouping) (rel attr : ℕ) (earlier : RowId) (ent : ℕ) → IsColumn s lists rel attr
    → slice_get lists.entities earlier.0 ≡ Some ent
    → (p : Asked) → IsForcedPair s p → p.rel.0 ≡ rel → p.pair.earlier.0 ≡ earlier.0
    → Contains (rows_of lists.entities ent) p.pair.later
later_there s lists rel attr earlier ent column of p forced e g =
    let w = forced_within s column.facts p.rel.0 p.pair.attr.0 p.pair.earlier p.pair.later forced in
    let same : w.relation ≡ column.relation =
    same_Some w.relation column.relation (sym w.is_relation ∙ ap (slice_get s.relations) e ∙ column.is_relation) in
    let names : entities_of w.relation.rows ≡ lists.entities = ap (λ (r : Relation). entities_of r.rows) same
    ∙ sym column.entities_are in
    let first : slice_get lists.entities p.pair.earlier.0 ≡ Some w.ent =
    subst (λ (es : List ℕ). slice_get es p.pair.earlier.0 ≡ Some w.ent) names
    (entity_read w.relation.rows p.pair.earlier.0 w.ent w.earlier_of) in
    let last : slice_get lists.entities p.pair.later.0 ≡ Some w.ent =
    subst (λ (es : List ℕ). slice_get es p.pair.later.0 ≡ Some w.ent) names
    (entity_read w.relation.rows p.pair.later.0 w.ent w.later_of) in
    let one : w.ent ≡ ent = same_Some w.ent ent (sym first ∙ ap (slice_get lists.entities) g ∙ of) in
    let found = found_in lists.entities ent p.pair.later (last ∙ ap Some one) in (
      found.0,
      slice_get_within (rows_of lists.entities ent) found.0 p.pair.later found.1,
      get_or_from_slice_get (rows_of lists.entities ent) found.0 p.pair.later p.pair.later found.1,
    )

pub row_all : (s : Spec) (lists : Grouping) (rel attr : ℕ) (earlier : RowId) (ent i : ℕ) (rows : List RowId)
    (pairs : List Asked) → IsColumn s lists rel attr
    → slice_get lists.entities earlier.0 ≡ Some ent → rows ≡ rows_of lists.entities ent → length rows ≤ i
    → AreListed s rel attr earlier.0 (take i rows) pairs → AreListed s rel attr (earlier.0 + 1) [] pairs
row_all s lists rel attr earlier ent i rows pairs column of rows_are past are =
    let all : take i rows ≡ rows_of lists.entities ent = take_all i rows past ∙ rows_are in
    let laters = rows_of lists.entities ent in
    moved s rel attr earlier.0 rel attr (earlier.0 + 1) laters [] pairs
    (subst (λ (l : List RowId). AreListed s rel attr earlier.0 l pairs) all are)
    (λ p forced before. row_on rel attr earlier.0 laters p before)
    (λ p forced before. row_off rel attr earlier.0 laters p (λ e f g. later_there s lists rel attr earlier ent column
    of p forced e g) before)

-- ---- the rows of an attribute

attr_on : (rel attr rows : ℕ) (p : Asked) → Precedes rel attr rows [] p → Precedes rel (attr + 1) 0 [] p
attr_on rel attr rows p (by_rel h) = by_rel h
attr_on rel attr rows p (by_attr e h) = by_attr e (omega arith)
attr_on rel attr rows p (by_earlier e f h) = by_attr e (omega arith)
attr_on rel attr rows p (by_later e f g c) = absurd (none_in p.pair.later c)

attr_off : (rel attr rows : ℕ) (p : Asked) → (p.rel.0 ≡ rel → p.pair.earlier.0 < rows) → Precedes rel (attr + 1) 0 []
    p → Precedes rel attr rows [] p
attr_off rel attr rows p within (by_rel h) = by_rel h
attr_off rel attr rows p within (by_attr e h) = ⊎_elim
    (λ (g : p.pair.attr.0 < attr). by_attr e g)
    (λ (g : attr ≤ p.pair.attr.0). by_earlier e (omega arith) (within e))
    (cases_lt p.pair.attr.0 attr)
attr_off rel attr rows p within (by_earlier e f h) = absurd (omega (arith, h))
attr_off rel attr rows p within (by_later e f g c) = absurd (none_in p.pair.later c)

pub attr_all : (s : Spec) (lists : Grouping) (rel attr rows : ℕ) (pairs : List Asked) → IsColumn s lists rel attr
    → length lists.entities ≤ rows
    → AreListed s rel attr rows [] pairs → AreListed s rel (attr + 1) 0 [] pairs
attr_all s lists rel attr rows pairs column past are =
    moved s rel attr rows rel (attr + 1) 0 [] [] pairs are
    (λ p forced before. attr_on rel attr rows p before)
    (λ p forced before. attr_off rel attr rows p (within p forced) before)
  where
    within : (p : Asked) → IsForcedPair s p → p.rel.0 ≡ rel → p.pair.earlier.0 < rows
    within p forced e =
        let w = forced_within s column.facts p.rel.0 p.pair.attr.0 p.pair.earlier p.pair.later forced in
        let same : w.relation ≡ column.relation =
        same_Some w.relation column.relation (sym w.is_relation ∙ ap (slice_get s.relations) e ∙ column.is_relation) in
        let names : entities_of w.relation.rows ≡ lists.entities = ap (λ (r : Relation). entities_of r.rows) same
        ∙ sym column.entities_are in
        let first : slice_get lists.entities p.pair.earlier.0 ≡ Some w.ent =
        subst (λ (es : List ℕ). slice_get es p.pair.earlier.0 ≡ Some w.ent) names
        (entity_read w.relation.rows p.pair.earlier.0 w.ent w.earlier_of) in
        let below = slice_get_within lists.entities p.pair.earlier.0 w.ent first in
        omega (arith, below, past)

-- ---- the attributes of a relation

rel_on : (rel attrs : ℕ) (p : Asked) → Precedes rel attrs 0 [] p → Precedes (rel + 1) 0 0 [] p
rel_on rel attrs p (by_rel h) = by_rel (omega arith)
rel_on rel attrs p (by_attr e h) = by_rel (omega arith)
rel_on rel attrs p (by_earlier e f h) = absurd (omega (arith, h))
rel_on rel attrs p (by_later e f g c) = absurd (none_in p.pair.later c)

rel_off : (rel attrs : ℕ) (p : Asked) → (p.rel.0 ≡ rel → p.pair.attr.0 < attrs) → Precedes (rel + 1) 0 0 [] p
    → Precedes rel attrs 0 [] p
rel_off rel attrs p within (by_rel h) = ⊎_elim
    (λ (g : p.rel.0 < rel). by_rel g)
    (λ (g : rel ≤ p.rel.0). let e : p.rel.0 ≡ rel = omega arith in by_attr e (within e))
    (cases_lt p.rel.0 rel)
rel_off rel attrs p within (by_attr e h) = absurd (omega (arith, h))
rel_off rel attrs p within (by_earlier e f h) = absurd (omega (arith, h))
rel_off rel attrs p within (by_later e f g c) = absurd (none_in p.pair.later c)

pub rel_all : (s : Spec) (rel attrs : ℕ) (r : Relation) (pairs : List Asked) → IsSpecification s
    → slice_get s.relations rel ≡ Some r → length r.attrs ≤ attrs
    → AreListed s rel attrs 0 [] pairs → AreListed s (rel + 1) 0 0 [] pairs
rel_all s rel attrs r pairs facts at past are =
    moved s rel attrs 0 (rel + 1) 0 0 [] [] pairs are
    (λ p forced before. rel_on rel attrs p before)
    (λ p forced before. rel_off rel attrs p (within p forced) before)
  where
    within : (p : Asked) → IsForcedPair s p → p.rel.0 ≡ rel → p.pair.attr.0 < attrs
    within p forced e =
        let w = forced_within s facts p.rel.0 p.pair.attr.0 p.pair.earlier p.pair.later forced in
        let same : w.relation ≡ r = same_Some w.relation r (sym w.is_relation ∙ ap (slice_get s.relations) e ∙ at) in
        let below : p.pair.attr.0 < length r.attrs = subst (λ (q : Relation). p.pair.attr.0 < length q.attrs) same
        w.attr_within in
        omega (arith, below, past)

-- ---- all relations

pub listed_all : (s : Spec) (rels : ℕ) (pairs : List Asked) → IsSpecification s → length s.relations ≤ rels
    → AreListed s rels 0 0 [] pairs → AreForcedPairs s pairs
listed_all s rels pairs facts past are = record {
  each = λ p c. (are.each p c).forced;
  all = λ p forced.
      let w = forced_within s facts p.rel.0 p.pair.attr.0 p.pair.earlier p.pair.later forced in
      let below = slice_get_within s.relations p.rel.0 w.relation w.is_relation in
      are.all p (record { forced = forced; precedes = by_rel (omega (arith, below, past)) });
  ascend = are.ascend;
}

-- each can be written
row_there : (r : Relation) (row : RowId) (ent : ℕ) → slice_get (entities_of r.rows) row.0 ≡ Some ent → row.0 < length r.rows
row_there r row ent at =
    let below = slice_get_within (entities_of r.rows) row.0 ent at in
    let long = length-entities_of r.rows in
    omega (arith, below, long)

pub pairs_named : (s : Spec) (pairs : List Asked) → IsSpecification s → AreForcedPairs s pairs → All (IsPairOf s.relations) pairs
pairs_named s pairs facts are = all_of (IsPairOf s.relations) pairs (λ p c.
    let w = forced_within s facts p.rel.0 p.pair.attr.0 p.pair.earlier p.pair.later (are.each p c) in
    let r : IsPairOf s.relations p = record {
      relation = w.relation;
      is_relation = w.is_relation;
      attr = w.attr_within;
      earlier = row_there w.relation p.pair.earlier w.ent (entity_read w.relation.rows p.pair.earlier.0 w.ent w.earlier_of);
      later = row_there w.relation p.pair.later w.ent (entity_read w.relation.rows p.pair.later.0 w.ent w.later_of);
    } in r)

pub not_both : (b : Bool) → b ≡ false → b ≡ true → ⊥
not_both true is_false is_true = cc
not_both false is_false is_true = cc
