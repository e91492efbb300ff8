-- A consistent completion over a row that is mapped anew.
use Rattle.std.proofs.Common.{◌≡◌, ◌∙◌, ◌<◌, ℕ, zero, suc, List, [], ◌∷◌, Contains, Option, Some, None, Ok, length, slice_get, slice_index_or, refl, sym, ap, subst, ⊎_elim, arith}
use Rattle.std.proofs.lemmas.Bool.{cases_eq}
use Rattle.std.proofs.lemmas.List.{length-map}
use Rattle.std.proofs.lemmas.List.Elements.{All-contains, All-set}
use Rattle.std.proofs.lemmas.Option.{none-some, same_Some, slice_get-get_or, slice_get_within}
use Rattle.copy_functions.specs.Copies.{CopyFunction, put_source, source_at, with_source}
use Rattle.copy_functions.specs.declared.fault.CopyFault.{CopyFault}
use Rattle.copy_functions.specs.declared.place.Place.{Place}
use Rattle.currency_base.specs.declared.ids.CopyId.{CopyId}
use Rattle.currency_base.specs.declared.ids.RelId.{RelId}
use Rattle.currency_base.specs.declared.ids.RowId.{RowId}
use Rattle.currency_base.specs.declared.row.Row.{Row}
use Rattle.partial_orders.specs.Pairs.{entity_of}
use Rattle.spec_edits.proofs.Kept.{edit_kept}
use Rattle.spec_edits.specs.Edits.{AreRowsAt, IsPairAt, edited, limited, mapping, unless_due, with_copy_at}
use Rattle.spec_edits.specs.Kept.{AreSameButGiven}
use Rattle.spec_edits.specs.declared.edit.Edit.TheVariants.{MapCopied}
use Rattle.spec_model.specs.Completion.{Before, IsCompletion, Rankings, lists_of, ranking_of}
use Rattle.spec_model.specs.Consistent.{IsCompatibleWith, IsConsistent, KeepsGiven, SatisfiesRules}
use Rattle.spec_model.specs.Facts.{AreCopies, AreRelations, IsCopyAmong, IsPlaceBetween, IsRelation, copied_due, kinds_of, rows_of}
use Rattle.spec_model.specs.Spec.{Spec}
use Rattle.spec_model.specs.declared.relation.Relation.{Relation}
use Rattle.edit_checks.proofs.Edits.{limited_is}
use Rattle.edit_checks.proofs.Lists.{item_has}
use Rattle.edit_checks.proofs.Over.{Fits, copies_all, copies_each, over}
use Rattle.edit_checks.proofs.Standing.{not_itself}
use Rattle.edit_checks.proofs.Turned.{contained, entity_of_row}
use Rattle.edit_checks.specs.Mapped.{AreRowsOf, KeepsPlaces}
use Rattle.edit_checks.specs.Stays.{StaysConsistent}
use Rattle.edit_checks.specs.declared.mapped.CopiedRow.{CopiedRow}

-- ---- what is read of a copy function

rows_are : (relations : List Relation) (rel : RelId) (r : Relation) → slice_get relations rel.0 ≡ Some r
    → rows_of relations rel ≡ r.rows
rows_are relations rel r at = rw at refl

attr_within : (r : Relation) (attr : ℕ) → attr < length (kinds_of r) → attr < length r.attrs
attr_within r attr below = let e = length-map r.attrs (λ a. a.kind) in omega arith

between : (relations : List Relation) (f : CopyFunction) (place : Place) (is : IsCopyAmong relations f) → Contains f.places place
    → IsPlaceBetween is.target is.source place
between relations f place is among = All-contains (IsPlaceBetween is.target is.source) f.places place is.places among

-- its places are of attributes of its relations
pub target_attr : (relations : List Relation) (f : CopyFunction) (place : Place) (r : Relation) → IsCopyAmong relations f
    → Contains f.places place → slice_get relations f.target.0 ≡ Some r → place.target.0 < length r.attrs
target_attr relations f place r is among at =
    let is_between = between relations f place is among in
    subst (λ (q : Relation). place.target.0 < length q.attrs) (same_Some is.target r (sym is.is_target ∙ at))
    (attr_within is.target place.target.0
    (slice_get_within (kinds_of is.target) place.target.0 is_between.kind is_between.in_target))

pub source_attr : (relations : List Relation) (f : CopyFunction) (place : Place) (r : Relation) → IsCopyAmong relations f
    → Contains f.places place → slice_get relations f.source.0 ≡ Some r → place.source.0 < length r.attrs
source_attr relations f place r is among at =
    let is_between = between relations f place is among in
    subst (λ (q : Relation). place.source.0 < length q.attrs) (same_Some is.source r (sym is.is_source ∙ at))
    (attr_within is.source place.source.0
    (slice_get_within (kinds_of is.source) place.source.0 is_between.kind is_between.in_source))

-- two rows are a pair of a place's attribute, and so are their sources
pub targets_at : (relations : List Relation) (f : CopyFunction) (place : Place) (first second : CopiedRow)
    → IsCopyAmong relations f → Contains f.places place → AreRowsOf relations f first → AreRowsOf relations f second
    → IsPairAt relations f.target.0 (record { attr = place.target; earlier = first.target; later = second.target })
targets_at relations f place first second is among one two =
    let rows = rows_are relations f.target is.target is.is_target in
    record {
      relation = is.target;
      is_relation = is.is_target;
      pair = record {
        attr = target_attr relations f place is.target is among is.is_target;
        earlier = subst (λ (q : List Row). first.target.0 < length q) rows one.in_target;
        later = subst (λ (q : List Row). second.target.0 < length q) rows two.in_target;
      };
    }

pub sources_at : (relations : List Relation) (f : CopyFunction) (place : Place) (first second : CopiedRow)
    → IsCopyAmong relations f → Contains f.places place → AreRowsOf relations f first → AreRowsOf relations f second
    → IsPairAt relations f.source.0 (record { attr = place.source; earlier = first.source; later = second.source })
sources_at relations f place first second is among one two =
    let rows = rows_are relations f.source is.source is.is_source in
    record {
      relation = is.source;
      is_relation = is.is_source;
      pair = record {
        attr = source_attr relations f place is.source is among is.is_source;
        earlier = subst (λ (q : List Row). first.source.0 < length q) rows one.in_source;
        later = subst (λ (q : List Row). second.source.0 < length q) rows two.in_source;
      };
    }

-- a mapped row and its source are rows of the two relations
pub mapped_rows : (relations : List Relation) (f : CopyFunction) (row source : RowId) → IsCopyAmong relations f
    → source_at f row ≡ Some source → AreRowsOf relations f (record { target = row; source = source })
mapped_rows relations f row source is at =
    let copied = is.copied row source at in
    record {
      in_target = subst (λ (q : List Row). row.0 < length q) (sym (rows_are relations f.target is.target is.is_target))
          copied.in_target;
      in_source = subst (λ (q : List Row). source.0 < length q) (sym (rows_are relations f.source is.source is.is_source))
          copied.in_source;
    }

-- ---- the lists of the target row's entity

-- the target relation, and the target row
pub record AreRead (relations : List Relation) (f : CopyFunction) (copied : CopiedRow) (r : Relation) (row : Row) : Type 0 where
  pub is_relation : slice_get relations f.target.0 ≡ Some r
  pub is_row : slice_get r.rows copied.target.0 ≡ Some row

module _ (relations : List Relation) (c : Rankings) (f : CopyFunction) (place : Place) (copied : CopiedRow)
    (r : Relation) (row : Row) (are : AreRelations relations) (completion : IsCompletion relations c)
    (is : IsCopyAmong relations f) (among : Contains f.places place) (read : AreRead relations f copied r row) where
  ent_below : row.entity.0 < length r.entities
  ent_below =
      let facts = item_has IsRelation relations are.each f.target.0 r read.is_relation in
      item_has (λ (q : Row). q.entity.0 < length r.entities) r.rows facts.entities copied.target.0 row read.is_row

  pub rel_there : f.target.0 < length c
  rel_there =
      subst (λ (n : ℕ). f.target.0 < n) (sym completion.shape.per_relation)
      (slice_get_within relations f.target.0 r read.is_relation)

  pub attr_there : place.target.0 < length (slice_index_or c f.target.0 [])
  attr_there =
      subst (λ (n : ℕ). place.target.0 < n) (sym (completion.shape.per_attr f.target.0 r read.is_relation))
      (target_attr relations f place r is among read.is_relation)

  pub ent_there : row.entity.0 < length (lists_of c f.target.0 place.target.0)
  ent_there =
      subst (λ (n : ℕ). row.entity.0 < n)
      (sym (completion.shape.per_entity f.target.0 r read.is_relation place.target.0
      (target_attr relations f place r is among read.is_relation)))
      ent_below

  -- what holds of the list's rows holds of each row of the entity
  pub each_of_entity : (P : RowId → Type 0) → ((at : ℕ) (other : RowId)
      → slice_get (ranking_of c f.target.0 place.target.0 row.entity.0) at ≡ Some other → P other)
      → (q : Relation) → slice_get relations f.target.0 ≡ Some q → (other : RowId)
      → entity_of q.rows other.0 ≡ entity_of q.rows copied.target.0 → P other
  each_of_entity P each q at other one =
      let same = same_Some q r (sym at ∙ read.is_relation) in
      let one_here : entity_of r.rows other.0 ≡ entity_of r.rows copied.target.0 =
      subst (λ (x : Relation). entity_of x.rows other.0 ≡ entity_of x.rows copied.target.0) same one in
      let of_ent = one_here ∙ entity_of_row r.rows copied.target.0 row read.is_row in
      let ranking = completion.ranked f.target.0 r read.is_relation place.target.0 row.entity.0
      (target_attr relations f place r is among read.is_relation) ent_below in
      let found = ranking.all other of_ent in
      each found.0 other (slice_get-get_or (ranking_of c f.target.0 place.target.0 row.entity.0) found.0 other found.1
      ∙ ap Some found.2)

-- ---- one row mapped more

put_here : (sources : List (Option RowId)) (target : ℕ) (source : RowId)
    → slice_index_or (put_source sources target source) target None ≡ Some source
put_here [] zero source = refl
put_here [] (suc target) source = put_here [] target source
put_here (x ∷ sources) zero source = refl
put_here (x ∷ sources) (suc target) source = put_here sources target source

put_other : (sources : List (Option RowId)) (target : ℕ) (source : RowId) (row : ℕ) → (row ≡ target → ⊥)
    → slice_index_or (put_source sources target source) row None ≡ slice_index_or sources row None
put_other [] zero source zero apart = absurd (apart refl)
put_other [] zero source (suc row) apart = refl
put_other [] (suc target) source zero apart = refl
put_other [] (suc target) source (suc row) apart = put_other [] target source row (λ e. apart (ap suc e))
put_other (x ∷ sources) zero source zero apart = absurd (apart refl)
put_other (x ∷ sources) zero source (suc row) apart = refl
put_other (x ∷ sources) (suc target) source zero apart = refl
put_other (x ∷ sources) (suc target) source (suc row) apart = put_other sources target source row (λ e. apart (ap suc e))

-- the row is mapped to its source, and the others as before
mapped_here : (f : CopyFunction) (copied : CopiedRow) (row source : RowId) → row.0 ≡ copied.target.0
    → source_at (with_source f copied.target copied.source) row ≡ Some source → source ≡ copied.source
mapped_here f copied row source is at =
    same_Some source copied.source
    (sym at ∙ (ap (λ (n : ℕ). source_at (with_source f copied.target copied.source) (record { 0 = n })) is
    ∙ put_here f.sources copied.target.0 copied.source))

mapped_there : (f : CopyFunction) (copied : CopiedRow) (row source : RowId) → (row.0 ≡ copied.target.0 → ⊥)
    → source_at (with_source f copied.target copied.source) row ≡ Some source → source_at f row ≡ Some source
mapped_there f copied row source apart at =
    sym (put_other f.sources copied.target.0 copied.source row.0 apart) ∙ at

same_row : (a b : RowId) → a.0 ≡ b.0 → a ≡ b
same_row a b e = ap (λ (n : ℕ). let x : RowId = record { 0 = n } in x) e

fits_more : (relations : List Relation) (c : Rankings) (f : CopyFunction) (copied : CopiedRow) → IsCompletion relations c
    → IsCopyAmong relations f → Fits relations c f → KeepsPlaces relations c f copied
    → Fits relations c (with_source f copied.target copied.source)
fits_more relations c f copied completion among fits keeps target source at_target at_source place_at place is first second
    rows before =
    let sources = lists_of c f.source.0 place.source.0 in
    let targets = lists_of c f.target.0 place.target.0 in
    let one_ent = rows.first_of ∙ sym rows.second_of in
    ⊎_elim
    (λ (one : first.0 ≡ copied.target.0).
    let first_row = same_row first copied.target one in
    let first_source = mapped_here f copied first rows.first_source one rows.first_is in
    ⊎_elim
    (λ (two : second.0 ≡ copied.target.0).
    let second_source = mapped_here f copied second rows.second_source two rows.second_is in
    absurd (not_itself relations c f.source.0 source place.source.0 rows.first_source rows.second_source completion at_source
    (source_attr relations f place source among (contained f.places place_at place is) at_source)
    (first_source ∙ sym second_source) before))
    (λ (two : second.0 ≡ copied.target.0 → ⊥).
    let both = keeps place_at place is target at_target second
    (sym one_ent ∙ ap (λ (n : ℕ). entity_of target.rows n) one)
    rows.second_source (mapped_there f copied second rows.second_source two rows.second_is) in
    subst (λ (x : RowId). Before targets x second) (sym first_row)
    (both.ahead (subst (λ (x : RowId). Before sources x rows.second_source) first_source before)))
    (cases_eq second.0 copied.target.0))
    (λ (one : first.0 ≡ copied.target.0 → ⊥).
    let first_is = mapped_there f copied first rows.first_source one rows.first_is in
    ⊎_elim
    (λ (two : second.0 ≡ copied.target.0).
    let second_row = same_row second copied.target two in
    let second_source = mapped_here f copied second rows.second_source two rows.second_is in
    let both = keeps place_at place is target at_target first
    (one_ent ∙ ap (λ (n : ℕ). entity_of target.rows n) two) rows.first_source first_is in
    subst (λ (x : RowId). Before targets first x) (sym second_row)
    (both.behind (subst (λ (x : RowId). Before sources rows.first_source x) second_source before)))
    (λ (two : second.0 ≡ copied.target.0 → ⊥).
    fits target source at_target at_source place_at place is first second
    (record {
      first_source = rows.first_source;
      second_source = rows.second_source;
      first_is = first_is;
      second_is = mapped_there f copied second rows.second_source two rows.second_is;
      ent = rows.ent;
      first_of = rows.first_of;
      second_of = rows.second_of;
      source_ent = rows.source_ent;
      first_source_of = rows.first_source_of;
      second_source_of = rows.second_source_of;
    })
    before)
    (cases_eq second.0 copied.target.0))
    (cases_eq first.0 copied.target.0)

-- ---- the edit

unless_due_is : (due : Option CopyFault) (new t : Spec) → unless_due due (limited new) ≡ Ok t → new ≡ t
unless_due_is None new t done = limited_is new t done
unless_due_is (Some fault) new t done = cc

mapping_stays : (s t : Spec) (copy : ℕ) (f : CopyFunction) (copied : CopiedRow) (c : Rankings) (o : Option CopyFunction)
    → o ≡ Some f → AreSameButGiven s.relations t.relations → IsConsistent s c
    → Fits s.relations c (with_source f copied.target copied.source)
    → mapping s copy copied.target copied.source o ≡ Ok t → IsConsistent t c
mapping_stays s t copy f copied c None at same is fits done = absurd (none-some f at)
mapping_stays s t copy f copied c (Some g) at same is fits done =
    let more = with_source g copied.target copied.source in
    let new = unless_due_is (copied_due s copy copied.target copied.source) (with_copy_at s copy more) t done in
    let fits_g : Fits s.relations c more =
    subst (λ (h : CopyFunction). Fits s.relations c (with_source h copied.target copied.source)) (sym (same_Some g f at)) fits in
    over s t c same is (subst (λ (u : Spec). KeepsGiven u.relations c) new is.given)
    (subst (λ (u : Spec). SatisfiesRules s.relations u.rules c) new is.rules)
    (subst (λ (u : Spec). IsCompatibleWith s.relations u.copies c) new
    (copies_each s.relations (with_copy_at s copy more).copies c
    (All-set (Fits s.relations c) s.copies copy more fits_g (copies_all s.relations s.copies c is.copies))))

-- the copy function at a place is one of the copy functions
pub copy_among : (s : Spec) (copy : ℕ) (f : CopyFunction) → AreCopies s.relations s.copies → slice_get s.copies copy ≡ Some f
    → IsCopyAmong s.relations f
copy_among s copy f facts at = item_has (IsCopyAmong s.relations) s.copies facts.each copy f at

-- rows that an edit speaks of are rows of its relations
pub rows_at_are : (s : Spec) (copy : CopyId) (f : CopyFunction) (copied : CopiedRow) → slice_get s.copies copy.0 ≡ Some f
    → AreRowsAt s copy.0 copied.target copied.source → AreRowsOf s.relations f copied
rows_at_are s copy f copied at rows =
    let same = same_Some rows.function f (sym rows.is_function ∙ at) in
    record {
      in_target = subst (λ (g : CopyFunction). copied.target.0 < length (rows_of s.relations g.target)) same rows.in_target;
      in_source = subst (λ (g : CopyFunction). copied.source.0 < length (rows_of s.relations g.source)) same rows.in_source;
    }

pub mapped_stays : (s : Spec) (copy : CopyId) (f : CopyFunction) (copied : CopiedRow) (c : Rankings)
    → slice_get s.copies copy.0 ≡ Some f → AreCopies s.relations s.copies → IsConsistent s c
    → KeepsPlaces s.relations c f copied → StaysConsistent s (MapCopied copy copied.target copied.source) c
unfolding edited
mapped_stays s copy f copied c at facts is keeps t done =
    mapping_stays s t copy.0 f copied c (slice_get s.copies copy.0) at
    (edit_kept s t (MapCopied copy copied.target copied.source) done) is
    (fits_more s.relations c f copied is.completion (copy_among s copy.0 f facts at) (is.copies copy.0 f at) keeps) done
