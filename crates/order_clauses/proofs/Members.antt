-- The rows of an entity of a relation.
use Rattle.std.proofs.Common.{◌≡◌, ◌∙◌, ◌<◌, ℕ, zero, suc, List, [], ◌∷◌, Some, length, slice_get, refl, sym, arith}
use Rattle.currency_base.specs.Lists.{OnlyOnce}
use Rattle.currency_base.specs.declared.ids.RowId.{RowId}
use Rattle.currency_base.specs.declared.row.Row.{Row}
use Rattle.entity_lists.specs.Lists.{entities_of}
use Rattle.entity_lists.proofs.Facts.{member_of, found_in, rows_ascend, rows_once}
use Rattle.partial_orders.specs.Pairs.{entity_of}
use Rattle.spec_model.specs.declared.relation.Relation.{Relation}
use Rattle.order_clauses.specs.Listing.{members_of}

pub entity_is : (rows : List Row) (row : ℕ) → entity_of rows row ≡ slice_get (entities_of rows) row
entity_is [] row = refl
entity_is (x ∷ rows) zero = refl
entity_is (x ∷ rows) (suc row) = entity_is rows row

pub row_within : (rows : List Row) (row ent : ℕ) → entity_of rows row ≡ Some ent → row < length rows
row_within [] row ent e = cc
row_within (x ∷ rows) zero ent e = omega arith
row_within (x ∷ rows) (suc row) ent e = let rest = row_within rows row ent e in omega arith

pub member_is : (r : Relation) (ent i : ℕ) (row : RowId) → slice_get (members_of r ent) i ≡ Some row
    → entity_of r.rows row.0 ≡ Some ent
unfolding members_of
member_is r ent i row at = entity_is r.rows row.0 ∙ member_of (entities_of r.rows) ent i row at

pub member_there : (r : Relation) (ent : ℕ) (row : RowId) → entity_of r.rows row.0 ≡ Some ent →
    (i : ℕ) × (slice_get (members_of r ent) i ≡ Some row)
unfolding members_of
member_there r ent row of = found_in (entities_of r.rows) ent row (sym (entity_is r.rows row.0) ∙ of)

pub members_once : (r : Relation) (ent : ℕ) → OnlyOnce (members_of r ent)
unfolding members_of
members_once r ent = rows_once (entities_of r.rows) ent

pub members_ascend : (r : Relation) (ent i j : ℕ) (a b : RowId) → slice_get (members_of r ent) i ≡ Some a
    → slice_get (members_of r ent) j ≡ Some b → i < j → a.0 < b.0
unfolding members_of
members_ascend r ent i j a b at_i at_j below = rows_ascend (entities_of r.rows) ent i j a b at_i at_j below
