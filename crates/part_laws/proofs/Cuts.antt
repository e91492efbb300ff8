-- A part of a specification, relation by relation.
use Rattle.std.proofs.Common.{◌≡◌, ◌<◌, ℕ, List, [], Some, length, slice_get, slice_index_or, ap, arith}
use Rattle.std.proofs.lemmas.Option.{slice_get_within}
use Rattle.spec_model.specs.Spec.{Spec}
use Rattle.spec_model.specs.Facts.{IsRelation, IsSpecification}
use Rattle.spec_model.specs.Completion.{Rankings, lists_of, HasShape, IsCompletion}
use Rattle.spec_model.specs.declared.relation.Attr.{Attr}
use Rattle.spec_model.specs.declared.relation.Relation.{Relation}
use Rattle.part_laws.specs.Parts.{Scope, Places, rows_in, entities_in, IsPartOf, IsNarrowed}
use Rattle.part_laws.proofs.Rows.{Cut, IsCut, all_at, there}
use Rattle.part_laws.proofs.Listed.{AreListed}

-- a specification, a part of it, and rankings of both
pub record Parted : Type 0 where
  pub s : Spec
  pub scope : Scope
  pub n : Places
  pub part : Spec
  pub c : Rankings
  pub narrow : Rankings

-- the part is one, and its rankings say what those of the whole say of its rows
pub record IsParted (p : Parted) : Type 0 where
  pub whole_is : IsSpecification p.s
  pub of : IsPartOf p.s p.scope p.n p.part
  pub shape : HasShape p.part.relations p.narrow
  pub narrowed : IsNarrowed p.s.relations p.n p.c p.narrow

-- ---- a relation of both

abbrev pub cut_at : Parted → ℕ → Relation → Relation → Cut
cut_at p rel r new = record {
  scope = p.scope;
  rel = rel;
  whole = r;
  part = new;
  rows = rows_in p.n rel;
  entities = entities_in p.n rel;
  lists = slice_index_or p.c rel [];
  part_lists = slice_index_or p.narrow rel [];
}

-- a part has as many attributes
pub as_many_attrs : (p : Parted) (rel : ℕ) (r new : Relation) → IsParted p → slice_get p.s.relations rel ≡ Some r
    → slice_get p.part.relations rel ≡ Some new
    → length new.attrs ≡ length r.attrs
as_many_attrs p rel r new is at at_new = ap (λ (l : List Attr). length l) (is.of.relations rel r new at at_new).attrs

pub is_cut : (p : Parted) (rel : ℕ) (r new : Relation) → IsParted p → slice_get p.s.relations rel ≡ Some r
    → slice_get p.part.relations rel ≡ Some new
    → IsCut (cut_at p rel r new)
is_cut p rel r new is at at_new =
    let places = is.of.places in
    record {
      facts = all_at IsRelation p.s.relations rel r is.whole_is.relations.each at;
      is_part = is.of.relations rel r new at at_new;
      rows_ascend = places.rows_ascend rel;
      entities_ascend = places.entities_ascend rel;
      rows_are = places.rows rel r at;
      entities_are = places.entities rel r at;
      listed = λ attr below. is.shape.per_entity rel new at_new attr
          (omega (arith, below, as_many_attrs p rel r new is at at_new));
      within = λ attr ent. is.narrowed.within rel attr ent;
      same = is.narrowed.same rel r at;
    }

-- each relation has a part, and each part is one of a relation
pub part_there : (p : Parted) (rel : ℕ) (r : Relation) → IsParted p → slice_get p.s.relations rel ≡ Some r
    → (new : Relation) × (slice_get p.part.relations rel ≡ Some new)
part_there p rel r is at =
    there p.part.relations rel (let below = slice_get_within p.s.relations rel r at in omega (arith, below, is.of.per_relation))

pub whole_there : (p : Parted) (rel : ℕ) (new : Relation) → IsParted p → slice_get p.part.relations rel ≡ Some new
    → (r : Relation) × (slice_get p.s.relations rel ≡ Some r)
whole_there p rel new is at =
    there p.s.relations rel (let below = slice_get_within p.part.relations rel new at in omega (arith, below, is.of.per_relation))

-- the lists of a completion
pub listed_in : (relations : List Relation) (c : Rankings) (rel : ℕ) (r : Relation) → IsCompletion relations c
    → slice_get relations rel ≡ Some r
    → (attr : ℕ) → attr < length r.attrs → AreListed r (lists_of c rel attr)
listed_in relations c rel r completion at attr inside = record {
  per_entity = completion.shape.per_entity rel r at attr inside;
  only = λ ent below. (completion.ranked rel r at attr ent inside below).only;
}
