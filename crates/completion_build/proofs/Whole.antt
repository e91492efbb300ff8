-- What is built of all lists.
use Rattle.std.proofs.Common.{◌≡◌, ◌<◌, ◌≤◌, ℕ, zero, suc, false, List, [], ◌∷◌, All, Some, length, slice_get, slice_index_or, sym, ap, ◌∙◌, subst, ⊎_elim, arith}
use Rattle.std.proofs.lemmas.Bool.{cases_lt}
use Rattle.std.proofs.lemmas.List.{get_or_past}
use Rattle.std.proofs.lemmas.List.Elements.{All-get_or, All-head, All-tail}
use Rattle.std.proofs.lemmas.Option.{slice_get_within, get_or_from_slice_get, same_Some, none-some}
use Rattle.currency_base.specs.declared.ids.AttrId.{AttrId}
use Rattle.currency_base.specs.declared.ids.RelId.{RelId}
use Rattle.currency_base.specs.declared.ids.RowId.{RowId}
use Rattle.currency_base.specs.declared.row.Row.{Row}
use Rattle.entity_lists.specs.Lists.{entities_of}
use Rattle.order_literals.specs.Laws.{PairExcludes, SaidOfPairs}
use Rattle.order_literals.specs.Numbers.{Numbered}
use Rattle.order_literals.specs.Said.{before, IsSaidTrue}
use Rattle.order_literals.specs.Statements.{statements_of}
use Rattle.spec_model.specs.Completion.{Rankings, HasShape, Before, lists_of, ranking_of}
use Rattle.spec_model.specs.Facts.{IsRelation, AreRelations}
use Rattle.spec_model.specs.declared.relation.Relation.{Relation}
use Rattle.completion_build.specs.declared.built.Cycle.{Cycle}
use Rattle.completion_build.specs.Drafts.{built_of}
use Rattle.completion_build.specs.Judged.{IsOrdered}
use Rattle.completion_build.specs.Places.{contest_of, AreBuilt}
use Rattle.completion_build.specs.Places.Precedes.{by_rel}
use Rattle.completion_build.specs.Ranked.{IsOfOne, IsRankedBy, IsBuilt}
use Rattle.completion_build.specs.Sources.{Source, IsSource}
use Rattle.completion_build.proofs.Leading.{entity_back, stands_before, of_entity_listed, no_cycle, is_ranking}

-- the entity of a row is one of so many
entity_within : (rows : List Row) (many row ent : ℕ) → All (λ x. x.entity.0 < many) rows
    → slice_get (entities_of rows) row ≡ Some ent → ent < many
entity_within [] many row ent all e = absurd (none-some ent e)
entity_within (r ∷ rows) many zero ent all e =
    let here = All-head (λ (x : Row). x.entity.0 < many) r rows all in
    let same : r.entity.0 ≡ ent = same_Some r.entity.0 ent e in
    omega arith
entity_within (r ∷ rows) many (suc row) ent all e = entity_within rows many row ent
    (All-tail (λ (x : Row). x.entity.0 < many) r rows all) e

-- a list with a row at a place is one of the lists
list_within : (lists : List (List RowId)) (ent i : ℕ) (row : RowId) → slice_get (slice_index_or lists ent []) i ≡
    Some row → ent < length lists
list_within lists ent i row at =
    ⊎_elim (λ (h : ent < length lists). h)
    (λ (h : length lists ≤ ent).
    let none : slice_get {X = RowId} [] i ≡ Some row = rw (get_or_past lists ent [] h) at at in
    absurd (none-some row none))
    (cases_lt ent (length lists))

module _ (exclude : PairExcludes) (pairs : SaidOfPairs) (s : Source) (is : IsSource s)
    (are : AreRelations s.relations) (c : Rankings) where
  -- each list has an order
  abbrev pub AllOrdered : Type 0
  AllOrdered = (rel : RelId) (attr : AttrId) (ent : ℕ) (r : Relation) → slice_get s.relations rel.0 ≡ Some r
      → attr.0 < length r.attrs
      → ent < length r.entities → IsOrdered (contest_of s.numbers s.truths rel attr r ent) (ranking_of c rel.0 attr.0 ent)

  said : HasShape s.relations c → AllOrdered → (rel : RelId) (attr : AttrId) (r : Relation) → slice_get s.relations
      rel.0 ≡ Some r → attr.0 < length r.attrs
      → (first second : RowId) → Before (lists_of c rel.0 attr.0) first second → IsSaidTrue (statements_of s.numbers)
      s.truths (before rel attr first second)
  said shape ordered rel attr r at attr_within first second b =
      let within : b.ent < length r.entities = omega (
        arith,
        list_within (lists_of c rel.0 attr.0) b.ent b.low first
            b.first,
        shape.per_entity rel.0 r at attr.0 attr_within,
      ) in
      (ordered rel attr b.ent r at attr_within within).put b.low b.high first second b.below b.first b.second

  stands : AllOrdered → (rel : RelId) (attr : AttrId) (r : Relation) → slice_get s.relations rel.0 ≡ Some r
      → attr.0 < length r.attrs
      → (first second : RowId) → IsSaidTrue (statements_of s.numbers) s.truths (before rel attr first second)
      → Before (lists_of c rel.0 attr.0) first second
  stands ordered rel attr r at attr_within first second put =
      let pair = pairs s.numbers put.lit rel attr first second false put.says in
      let t = is.tables rel.0 r at in
      let table_is : pair.table ≡ t.table = same_Some pair.table t.table (sym pair.is_table ∙ t.is_table) in
      let entities_are : pair.table.rows.entities ≡ entities_of r.rows = ap (λ (x : Numbered). x.rows.entities)
      table_is ∙ t.entities_are in
      let first_read : slice_get (entities_of r.rows) first.0 ≡ Some pair.ent = rw entities_are at pair.first_of in
      let second_read : slice_get (entities_of r.rows) second.0 ≡ Some pair.ent = rw entities_are at pair.second_of in
      let relation : IsRelation r =
      subst IsRelation (get_or_from_slice_get s.relations rel.0 r r at) (All-get_or IsRelation s.relations rel.0 r
      (slice_get_within s.relations rel.0 r at) are.each) in
      let within : pair.ent < length r.entities = entity_within r.rows (length r.entities) first.0 pair.ent
      relation.entities first_read in
      let list = ranking_of c rel.0 attr.0 pair.ent in
      let order = ordered rel attr pair.ent r at attr_within within in
      let a = of_entity_listed exclude s.numbers s.truths rel attr r pair.ent list order first
      (entity_back r.rows first.0 pair.ent first_read) in
      let b = of_entity_listed exclude s.numbers s.truths rel attr r pair.ent list order second
      (entity_back r.rows second.0 pair.ent second_read) in
      record {
        ent = pair.ent;
        low = a.place;
        high = b.place;
        below = stands_before exclude s.numbers s.truths rel attr r pair.ent list order a.place b.place first second
            a.at b.at put;
        first = a.at;
        second = b.at;
      }

  pub ranked_by : HasShape s.relations c → AllOrdered → IsRankedBy s.relations (statements_of s.numbers) s.truths c
  ranked_by shape ordered = record {
    completion = record {
      shape = shape;
      ranked = λ rel r at attr ent attr_within ent_within.
          let q : RelId = record { 0 = rel } in
          let a : AttrId = record { 0 = attr } in
          is_ranking exclude s.numbers s.truths q a r ent (ranking_of c rel attr ent)
          (ordered q a ent r at attr_within ent_within);
    };
    said = said shape ordered;
    stands = stands ordered;
  }

  -- all lists
  pub built_all : (cycles : List Cycle) → AreBuilt s.relations s.numbers s.truths (length s.relations) 0 0 c cycles
      → IsBuilt s.relations (statements_of s.numbers) s.truths (built_of c cycles)
  built_all [] built =
      let ordered : AllOrdered = λ rel attr ent r at attr_within ent_within.
      ⊎_elim
      (λ (h : IsOrdered (contest_of s.numbers s.truths rel attr r ent) (ranking_of c rel.0 attr.0 ent)). h)
      (λ (h : IsOfOne [] rel.0 attr.0 ent). absurd (omega (arith, h.is_in.1)))
      (built.lists rel attr ent r at attr_within ent_within (by_rel (slice_get_within s.relations rel.0 r at))) in (
        ranked_by built.shape ordered,
        λ rel attr ent r at attr_within ent_within has.
            no_cycle exclude s.numbers s.truths rel attr r ent (ranking_of c rel.0 attr.0 ent)
            (ordered rel attr ent r at attr_within ent_within) has,
      )
  built_all (cycle ∷ cycles) built = (
    record {
      each = built.each;
      all = λ rel attr ent r at attr_within ent_within has.
          ⊎_elim
          (λ (h : IsOrdered (contest_of s.numbers s.truths rel attr r ent) (ranking_of c rel.0 attr.0 ent)).
          absurd (no_cycle exclude s.numbers s.truths rel attr r ent (ranking_of c rel.0 attr.0 ent) h has))
          (λ (h : IsOfOne (cycle ∷ cycles) rel.0 attr.0 ent). h)
          (built.lists rel attr ent r at attr_within ent_within (by_rel (slice_get_within s.relations rel.0 r at)));
      ascend = built.ascend;
    },
    λ none. cc,
  )
