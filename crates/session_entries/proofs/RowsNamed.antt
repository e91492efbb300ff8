-- Copied rows that names say.
use Rattle.std.proofs.Common.{◌≡◌, ◌∙◌, ◌<◌, ℕ, Bool, true, false, List, length, map, get_or, Option, Some, None, Result, Ok, Err, IfOk, refl, sym, ap, subst, arith, slice_get}
use Rattle.std.specs.Prelude.{option_map}
use Rattle.std.proofs.lemmas.List.{length-map}
use Rattle.std.proofs.lemmas.List.Elements.{All-get_or}
use Rattle.std.proofs.lemmas.Option.{same_Some, slice_get-map, slice_get_read, slice_get_within, get_or_from_slice_get}
use Rattle.currency_base.specs.declared.error_code.ErrorCode.TheVariants.{UnknownName, UnknownRow}
use Rattle.currency_base.specs.declared.ids.RelId.{RelId}
use Rattle.currency_base.specs.declared.ids.RowId.{RowId}
use Rattle.currency_base.specs.declared.row.Row.{Row}
use Rattle.text_grammar.specs.declared.named.Named.{Named}
use Rattle.text_grammar.specs.declared.named.NamedPair.{NamedPair}
use Rattle.bind_faults.specs.Faults.{and_then, found_or, refused_at}
use Rattle.bind_faults.specs.declared.fault.BindFault.{BindFault}
use Rattle.copy_functions.specs.Copies.{CopyFunction}
use Rattle.copy_bind.specs.Copied.{row_named}
use Rattle.copy_bind.specs.declared.mapping.Mapping.{Mapping}
use Rattle.spec_model.specs.Facts.{AreCopies, AreRelations, IsCopyAmong, IsRelation, rows_of}
use Rattle.spec_model.specs.Spec.{Spec}
use Rattle.spec_model.specs.declared.relation.Relation.{Relation}
use Rattle.spec_names.specs.NameLists.{NameLists}
use Rattle.spec_names.specs.Names.{all_names_of, names_of, place_of}
use Rattle.spec_names.specs.declared.names.RelationNames.{RelationNames}
use Rattle.order_bind.proofs.OrderPairs.{found_fault, found_place, place_within}
use Rattle.spec_edits.specs.Edits.{IsEditOf}
use Rattle.session_entries.specs.Entries.{copied_at, copied_edit, copied_named, mapping_in, row_names}

-- ---- two rows

-- the row of a name that is found, or the refusal of an unknown one
row_found : (place : Option ℕ) (fault : BindFault) (k : ℕ) → found_or place fault Ok ≡ Ok k
    → ◌≡◌ {A = Result RowId BindFault} (found_or place fault (λ p. Ok record { 0 = p })) (Ok (record { 0 = k }))
row_found None fault k is = absurd (cc)
row_found (Some p) fault k is = let same : p ≡ k = cc in rw same refl

-- an unknown row of the target relation
pub target_fault : (targets sources : List (List ℕ)) (add : Bool) (copy : ℕ) (pair : NamedPair) (e : BindFault)
    → ◌≡◌ {A = Result ℕ BindFault} (Err e) (found_or (place_of targets pair.first.name)
    (refused_at UnknownRow pair.first) Ok)
    → mapping_in targets sources add copy pair ≡ Err e
unfolding mapping_in
target_fault targets sources add copy pair e is =
    let at : row_named None targets pair.first ≡ Err e =
    found_fault (place_of targets pair.first.name) (refused_at UnknownRow pair.first) e _ (sym is) in
    ap (λ t. and_then (and_then t (λ target. and_then (row_named None sources pair.second) (λ source.
    Ok (record { target = target; source = source; line = pair.first.line }))))
    (λ (m : Mapping). Ok (copied_edit add copy m.target m.source))) at

-- the row of the target relation is found
pub target_found : (targets sources : List (List ℕ)) (add : Bool) (copy : ℕ) (pair : NamedPair) (target : ℕ)
    → ◌≡◌ {A = Result ℕ BindFault} (Ok target) (found_or (place_of targets pair.first.name)
    (refused_at UnknownRow pair.first) Ok)
    → mapping_in targets sources add copy pair
    ≡ and_then (row_named None sources pair.second) (λ source. Ok (copied_edit add copy (record { 0 = target }) source))
unfolding mapping_in
target_found targets sources add copy pair target is =
    let at : row_named None targets pair.first ≡ Ok (record { 0 = target }) =
    row_found (place_of targets pair.first.name) (refused_at UnknownRow pair.first) target (sym is) in
    ap (λ t. and_then (and_then t (λ target. and_then (row_named None sources pair.second) (λ source.
    Ok (record { target = target; source = source; line = pair.first.line }))))
    (λ (m : Mapping). Ok (copied_edit add copy m.target m.source))) at
    ∙ then_edit (row_named None sources pair.second)
  where
    then_edit : (source : Result RowId BindFault)
        → and_then (and_then source (λ row. Ok (record {
          target = record { 0 = target };
          source = row;
          line =
              pair.first.line;
        })))
        (λ (m : Mapping). Ok (copied_edit add copy m.target m.source))
        ≡ and_then source (λ row. Ok (copied_edit add copy (record { 0 = target }) row))
    then_edit (Ok row) = refl
    then_edit (Err fault) = refl

-- an unknown row of the source relation
pub source_fault : (targets sources : List (List ℕ)) (add : Bool) (copy : ℕ) (pair : NamedPair) (target : ℕ) (e : BindFault)
    → ◌≡◌ {A = Result ℕ BindFault} (Ok target) (found_or (place_of targets pair.first.name)
    (refused_at UnknownRow pair.first) Ok)
    → ◌≡◌ {A = Result ℕ BindFault} (Err e) (found_or (place_of sources pair.second.name)
    (refused_at UnknownRow pair.second) Ok)
    → mapping_in targets sources add copy pair ≡ Err e
source_fault targets sources add copy pair target e found is =
    let at : row_named None sources pair.second ≡ Err e =
    found_fault (place_of sources pair.second.name) (refused_at UnknownRow pair.second) e _ (sym is) in
    target_found targets sources add copy pair target found
    ∙ ap (λ source. and_then source (λ row. Ok (copied_edit add copy (record { 0 = target }) row))) at

-- both rows are found
pub both_found : (targets sources : List (List ℕ)) (add : Bool) (copy : ℕ) (pair : NamedPair) (target source : ℕ)
    → ◌≡◌ {A = Result ℕ BindFault} (Ok target) (found_or (place_of targets pair.first.name)
    (refused_at UnknownRow pair.first) Ok)
    → ◌≡◌ {A = Result ℕ BindFault} (Ok source) (found_or (place_of sources pair.second.name)
    (refused_at UnknownRow pair.second) Ok)
    → mapping_in targets sources add copy pair ≡ Ok (copied_edit add copy (record { 0 = target }) (record { 0 = source }))
both_found targets sources add copy pair target source found is =
    let at : row_named None sources pair.second ≡ Ok (record { 0 = source }) =
    row_found (place_of sources pair.second.name) (refused_at UnknownRow pair.second) source (sym is) in
    target_found targets sources add copy pair target found
    ∙ ap (λ s. and_then s (λ row. Ok (copied_edit add copy (record { 0 = target }) row))) at

-- ---- a copy function

-- an unknown copy function
pub copy_fault : (names : NameLists) (list : List (List ℕ)) (s : Spec) (add : Bool) (name : Named) (pair : NamedPair)
    (e : BindFault)
    → names ≡ all_names_of s → list ≡ names.copies
    → ◌≡◌ {A = Result ℕ BindFault} (Err e) (found_or (place_of list name.name) (refused_at UnknownName name) Ok)
    → copied_named s add name pair ≡ Err e
unfolding copied_named
copy_fault names list s add name pair e same listed is =
    let known : list ≡ map (λ (c : CopyFunction). c.name) s.copies = listed ∙ ap (λ (n : NameLists). n.copies) same in
    found_fault (place_of (map (λ (c : CopyFunction). c.name) s.copies) name.name) (refused_at UnknownName name) e _
    (sym (rw known at is))

-- what is due once the copy function is found
pub copy_found : (names : NameLists) (list : List (List ℕ)) (s : Spec) (add : Bool) (name : Named) (pair : NamedPair)
    (copy : ℕ)
    (c : CopyFunction) → names ≡ all_names_of s → list ≡ names.copies
    → ◌≡◌ {A = Result ℕ BindFault} (Ok copy) (found_or (place_of list name.name) (refused_at UnknownName name) Ok)
    → slice_get s.copies copy ≡ Some c
    → copied_named s add name pair ≡ mapping_in (row_names s.relations c.target)
    (row_names s.relations c.source) add copy pair
unfolding copied_named
copy_found names list s add name pair copy c same listed is here =
    let known : list ≡ map (λ (d : CopyFunction). d.name) s.copies = listed ∙ ap (λ (n : NameLists). n.copies) same in
    let at : place_of (map (λ (d : CopyFunction). d.name) s.copies) name.name ≡ Some copy =
    found_place _ (refused_at UnknownName name) copy (sym (rw known at is)) in
    ap (λ p. found_or p (refused_at UnknownName name) (λ k. copied_at s.relations add name pair k (slice_get s.copies k))) at
    ∙ ap (copied_at s.relations add name pair copy) here

-- how many copy functions there are
pub copies_count : (names : NameLists) (list : List (List ℕ)) (s : Spec) → names ≡ all_names_of s → list ≡ names.copies
    → length list ≡ length s.copies
copies_count names list s same listed =
    ap length listed ∙ ap (λ (n : NameLists). length n.copies) same ∙ length-map s.copies (λ (c : CopyFunction). c.name)

-- the copy function that stands at the place of a name
pub copy_there : (names : NameLists) (list : List (List ℕ)) (s : Spec) (copy : ℕ) (copies : List CopyFunction)
    (c : CopyFunction)
    → names ≡ all_names_of s → list ≡ names.copies → copy < length list → copies ≡ s.copies → c ≡ get_or copies copy c
    → slice_get s.copies copy ≡ Some c
copy_there names list s copy copies c same listed within are is =
    let lt : copy < length s.copies = omega (arith, copies_count names list s same listed, within) in
    slice_get_read s.copies (length s.copies) copy c refl lt (is ∙ ap (λ cs. get_or cs copy c) are)

-- it is one between the relations
pub copy_among : (s : Spec) (copy : ℕ) (c : CopyFunction) → AreCopies s.relations s.copies → slice_get s.copies copy ≡ Some c
    → IsCopyAmong s.relations c
copy_among s copy c facts here =
    subst (IsCopyAmong s.relations) (get_or_from_slice_get s.copies copy c c here)
    (All-get_or (IsCopyAmong s.relations) s.copies copy c (slice_get_within s.copies copy c here) facts.each)

-- its relations are there
pub target_within : (s : Spec) (copy : ℕ) (c : CopyFunction) → AreCopies s.relations s.copies
    → slice_get s.copies copy ≡ Some c
    → c.target.0 < length s.relations
target_within s copy c facts here = let among = copy_among s copy c facts here in slice_get_within _ _ _ among.is_target

pub source_within : (s : Spec) (copy : ℕ) (c : CopyFunction) → AreCopies s.relations s.copies
    → slice_get s.copies copy ≡ Some c
    → c.source.0 < length s.relations
source_within s copy c facts here = let among = copy_among s copy c facts here in slice_get_within _ _ _ among.is_source

-- ---- the names of a relation's rows

-- the names of the rows of a relation whose parts have these names
pub rows_named : (names : NameLists) (s : Spec) (rel : RelId) (parts : RelationNames) → names ≡ all_names_of s
    → slice_get names.each rel.0 ≡ Some parts → parts.rows ≡ row_names s.relations rel
rows_named names s rel parts same is = by (slice_get s.relations rel.0) refl
  where
    named : Some parts ≡ option_map names_of (slice_get s.relations rel.0)
    named = sym is ∙ ap (λ (n : NameLists). slice_get n.each rel.0) same ∙ slice_get-map names_of s.relations rel.0

    by : (o : Option Relation) → slice_get s.relations rel.0 ≡ o → parts.rows ≡ row_names s.relations rel
    by None here = let none : Some parts ≡ None = named ∙ ap (option_map names_of) here in absurd (cc)
    by (Some r) here =
        let these : parts ≡ names_of r = same_Some _ _ (named ∙ ap (option_map names_of) here) in
        ap (λ (n : RelationNames). n.rows) these ∙ rw here refl

-- there are few
pub few_rows : (relations : List Relation) (rel : RelId) → AreRelations relations
    → length (row_names relations rel) < 4294967296
few_rows relations rel facts = by (slice_get relations rel.0) refl
  where
    by : (o : Option Relation) → slice_get relations rel.0 ≡ o → length (row_names relations rel) < 4294967296
    by None is = rw is (omega arith)
    by (Some r) is =
        let kept : IsRelation r =
        subst IsRelation (get_or_from_slice_get relations rel.0 r r is)
        (All-get_or IsRelation relations rel.0 r (slice_get_within relations rel.0 r is) facts.each) in
        let few = kept.few_rows in
        rw is (omega (arith, few, length-map r.rows (λ (row : Row). row.name)))

-- ---- what the edit speaks of is there

-- a row of a name is one of the relation's rows
row_within : (relations : List Relation) (rel : RelId) (named : Named) (row : RowId)
    → row_named None (row_names relations rel) named ≡ Ok row → row.0 < length (rows_of relations rel)
row_within relations rel named row is = by (place_of (row_names relations rel) named.name) refl is
  where
    by : (place : Option ℕ) → place_of (row_names relations rel) named.name ≡ place
        → ◌≡◌ {A = Result RowId BindFault} (found_or place (refused_at UnknownRow named) (λ p. Ok record { 0 = p })) (Ok row)
        → row.0 < length (rows_of relations rel)
    by None at none = absurd (cc)
    by (Some k) at some =
        let same : k ≡ row.0 = let these : record { 0 = k } ≡ row = cc in ap (λ (r : RowId). r.0) these in
        let lt = place_within (row_names relations rel) named.name k at in
        omega (arith, lt, length-map (rows_of relations rel) (λ (r : Row). r.name))

-- both rows are there
pub mapping_there : (s : Spec) (add : Bool) (copy : ℕ) (c : CopyFunction) (pair : NamedPair)
    → slice_get s.copies copy ≡ Some c
    → IfOk (mapping_in (row_names s.relations c.target) (row_names s.relations c.source) add copy pair) (IsEditOf s)
unfolding mapping_in
mapping_there s add copy c pair here =
    by (row_named None (row_names s.relations c.target) pair.first) (row_named None
    (row_names s.relations c.source) pair.second)
    refl refl
  where
    edit_there : (add : Bool) (target source : RowId) → target.0 < length (rows_of s.relations c.target)
        → source.0 < length (rows_of s.relations c.source) → IsEditOf s (copied_edit add copy target source)
    edit_there true target source low high = record { function = c; is_function = here; in_target = low; in_source = high }
    edit_there false target source low high = record { function = c; is_function = here; in_target = low; in_source = high }

    by : (target source : Result RowId BindFault) → row_named None (row_names s.relations c.target) pair.first ≡ target
        → row_named None (row_names s.relations c.source) pair.second ≡ source
        → IfOk (and_then (and_then target (λ t. and_then source (λ u.
        Ok (record { target = t; source = u; line = pair.first.line }))))
        (λ (m : Mapping). Ok (copied_edit add copy m.target m.source))) (IsEditOf s)
    by (Err fault) source at_target at_source = tt
    by (Ok target) (Err fault) at_target at_source = tt
    by (Ok target) (Ok source) at_target at_source =
        edit_there add target source (row_within s.relations c.target pair.first target at_target)
        (row_within s.relations c.source pair.second source at_source)
