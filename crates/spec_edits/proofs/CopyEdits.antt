-- Rows that are mapped by copy functions, and are mapped no more.
use Rattle.std.proofs.Common.{◌≡◌, ◌≢◌, ◌<◌, ◌≤◌, ◌+◌, ◌*◌, ◌-◌, ◌^◌, ◌&&◌, ◌∙◌, ℕ, Bool, true, false, not, eqb, min, zero, suc, List, [], ◌∷◌, length, Option, Some, None, Result, Ok, Err, IfSome, slice_get, slice_index_or, refl, sym, ap, ap₂, subst, inl, inr, arith}
use Rattle.std.specs.Result.{IfErr, IsErrAnd}
use Rattle.std.specs.Option.{option_and_then, option_map_or}
use Rattle.std.specs.List.{count_by}
use Rattle.std.proofs.lemmas.Bool.{cases_lt, eqb-true}
use Rattle.std.proofs.lemmas.List.Elements.{All-get_or}
use Rattle.std.proofs.Math.Nat.{mul_comm}
use Rattle.std.proofs.lemmas.Option.{get_or_from_slice_get, slice_get_within}
use Rattle.copy_functions.specs.Copies.{CopyFunction, Maps, put_source, source_at, with_source, without_source}
use Rattle.copy_functions.specs.Faults.{IsDue, fault_due, twice_or}
use Rattle.copy_functions.specs.declared.fault.CopyFault.{CopyFault}
use Rattle.copy_functions.proofs.TakenSources.{is_unmapped, others_mapped}
use Rattle.currency_base.specs.declared.ids.CopyId.{CopyId}
use Rattle.currency_base.specs.declared.ids.RelId.{RelId}
use Rattle.currency_base.specs.declared.ids.RowId.{RowId}
use Rattle.currency_base.specs.declared.row.Row.{Row}
use Rattle.entity_rows.specs.Members.{AreEntityRows, members}
use Rattle.partial_orders.specs.Pairs.{entity_of}
use Rattle.spec_limits.specs.Instances.{are_of_one_entity, are_sources_of_one, copy_instances, copy_pairs, is_one_entity, rows_at}
use Rattle.spec_limits.specs.Left.{left_of}
use Rattle.spec_limits.proofs.Leaving.{left_none}
use Rattle.spec_limits.proofs.PerEntity.{count_by-members}
use Rattle.spec_model.specs.Facts.{IsRelation, MapsCopied, UnmapsCopied, copied_due, rows_of}
use Rattle.spec_model.specs.Spec.{Spec}
use Rattle.spec_model.specs.declared.relation.Relation.{Relation}
use Rattle.spec_edits.specs.Counted.{IsCounted}
use Rattle.spec_edits.specs.Edits.{AreRowsAt, IsRefused, edited, is_mapped_to, is_row, limited, mapping, of_copy, unless_due, with_copy_at}
use Rattle.spec_edits.specs.Partners.{is_partner, partners, row_instances}
use Rattle.spec_edits.specs.declared.edit.Edit.TheVariants.{MapCopied, UnmapCopied}
use Rattle.spec_edits.specs.declared.fault.EditFault.{EditFault}
use Rattle.spec_edits.specs.declared.fault.EditFault.TheVariants.{Limit, NotThere}
use Rattle.spec_edits.proofs.Counting.{above_with_copy, copy_within, counted_copy, counted_less_copy, if_some, spec_is}
use Rattle.spec_edits.proofs.MorePairs.{pairs_more, partners_new, partners_old}

-- ---- one row mapped more or less

put_here : (sources : List (Option RowId)) (target : ℕ) (source : RowId)
    → slice_index_or (put_source sources target source) target None ≡ Some source
put_here [] zero source = refl
put_here [] (suc target) source = put_here [] target source
put_here (x ∷ sources) zero source = refl
put_here (x ∷ sources) (suc target) source = put_here sources target source

put_other : (sources : List (Option RowId)) (target : ℕ) (source : RowId) (row : ℕ) → (row ≡ target → ⊥)
    → slice_index_or (put_source sources target source) row None ≡ slice_index_or sources row None
put_other [] zero source zero apart = absurd (apart refl)
put_other [] zero source (suc row) apart = refl
put_other [] (suc target) source zero apart = refl
put_other [] (suc target) source (suc row) apart = put_other [] target source row (λ e. apart (ap suc e))
put_other (x ∷ sources) zero source zero apart = absurd (apart refl)
put_other (x ∷ sources) zero source (suc row) apart = refl
put_other (x ∷ sources) (suc target) source zero apart = refl
put_other (x ∷ sources) (suc target) source (suc row) apart = put_other sources target source row (λ e. apart (ap suc e))

other_number : (row target : RowId) → row ≢ target → row.0 ≡ target.0 → ⊥
other_number row target apart e = apart (ap (λ (n : ℕ). let r : RowId = record { 0 = n } in r) e)

maps_with : (c : CopyFunction) (target source : RowId) → Maps c (with_source c target source) target source
maps_with c target source =
    record {
      name = refl;
      target_relation = refl;
      source_relation = refl;
      places = refl;
      mapped = put_here c.sources target.0 source;
      others = λ row apart. put_other c.sources target.0 source row.0 (other_number row target apart);
    }

maps_without : (c : CopyFunction) (target source : RowId) → source_at c target ≡ Some source
    → Maps (without_source c target) c target source
maps_without c target source at =
    record {
      name = refl;
      target_relation = refl;
      source_relation = refl;
      places = refl;
      mapped = at;
      others = λ row apart. sym (others_mapped c target row apart);
    }

spread : (places old more : ℕ) → places * (old + more) ≡ places * old + places * more
spread places old more = omega arith

pub instances_more : (relations : List Relation) (c : CopyFunction) (target source : RowId) → source_at c target ≡ None
    → target.0 < length (rows_at relations c.target)
    → copy_instances relations (with_source c target source)
    ≡ copy_instances relations c + row_instances relations c target source
unfolding copy_instances row_instances
instances_more relations c target source unmapped within =
    let t = rows_at relations c.target in
    let s = rows_at relations c.source in
    let maps = maps_with c target source in
    let new = with_source c target source in
    ap (λ (n : ℕ). length c.places * n) (pairs_more c new target source unmapped maps t s within
    ∙ ap (λ (k : ℕ). copy_pairs c t s + 2 * k) (sym (partners_old c new target source unmapped maps t s)))
    ∙ spread (length c.places) (copy_pairs c t s) (2 * partners c t s target source)

pub instances_less : (relations : List Relation) (c : CopyFunction) (target source : RowId) → source_at c target ≡ Some source
    → target.0 < length (rows_at relations c.target)
    → copy_instances relations c
    ≡ copy_instances relations (without_source c target) + row_instances relations c target source
unfolding copy_instances row_instances
instances_less relations c target source mapped within =
    let t = rows_at relations c.target in
    let s = rows_at relations c.source in
    let maps = maps_without c target source mapped in
    let old = without_source c target in
    let unmapped = is_unmapped c target in
    ap (λ (n : ℕ). length c.places * n) (pairs_more old c target source unmapped maps t s within
    ∙ ap (λ (k : ℕ). copy_pairs old t s + 2 * k) (sym (partners_new old c target source unmapped maps t s)))
    ∙ spread (length c.places) (copy_pairs old t s) (2 * partners c t s target source)

-- ---- rows that are there

rows_same : (relations : List Relation) (rel : RelId) → rows_at relations rel ≡ rows_of relations rel
rows_same relations rel = by (slice_get relations rel.0) refl
  where
    by : (o : Option Relation) → slice_get relations rel.0 ≡ o → rows_at relations rel ≡ rows_of relations rel
    by None is = rw is refl
    by (Some r) is = rw is refl

pub target_there : (s : Spec) (copy : ℕ) (target source : RowId) → (h : AreRowsAt s copy target source)
    → target.0 < length (rows_at s.relations h.function.target)
target_there s copy target source h = subst (λ (rows : List Row). target.0 < length rows)
    (sym (rows_same s.relations h.function.target)) h.in_target

-- ---- partners among the rows of an entity

and_parts : (a b : Bool) → (a && b) ≡ true → (a ≡ true) × (b ≡ true)
and_parts true b is = (refl, is)
and_parts false b is = cc

one_entity : (a b : Option ℕ) (ent : ℕ) → is_one_entity a b ≡ true → a ≡ Some ent → b ≡ Some ent
one_entity (Some x) (Some y) ent is of = sym (ap Some (eqb-true x y is)) ∙ of
one_entity (Some x) None ent is of = cc
one_entity None b ent is of = cc

partner_of : (c : CopyFunction) (t s : List Row) (target source second : RowId) (ent : ℕ)
    → is_partner c t s target source second ≡ true → entity_of t target.0 ≡ Some ent → entity_of t second.0 ≡ Some ent
partner_of c t s target source second ent is of =
    let here = (and_parts (are_of_one_entity t target second) (are_sources_of_one s (Some source) (source_at c second)) is).0 in
    one_entity (entity_of t target.0) (entity_of t second.0) ent
    (and_parts (not (eqb target.0 second.0)) (is_one_entity (entity_of t target.0) (entity_of t second.0)) here).1 of

pub partners_listed : (c : CopyFunction) (t s : List Row) (count : ℕ) (entities : List (List RowId)) (target source : RowId)
    (row : Row) (others : List RowId) → AreEntityRows t count entities → slice_get t target.0 ≡ Some row
    → slice_get entities row.entity.0 ≡ Some others
    → count_by (is_partner c t s target source) others ≡ partners c t s target source
unfolding partners
partners_listed c t s count entities target source row others are here listed =
    let of : entity_of t target.0 ≡ Some row.entity.0 = rw here refl in
    let within : row.entity.0 < count = omega (arith, slice_get_within entities row.entity.0 others listed, are.per_entity) in
    let mine : others ≡ members t row.entity.0 =
    sym (get_or_from_slice_get entities row.entity.0 others [] listed) ∙ are.each row.entity.0 within in
    ap (count_by (is_partner c t s target source)) mine
    ∙ sym (count_by-members (is_partner c t s target source) 0 t row.entity.0
    (λ place passes.
    let number : 0 + place ≡ place = omega arith in
    let same : entity_of t (0 + place) ≡ entity_of t place = ap (entity_of t) number in
    sym same ∙ partner_of c t s target source (record { 0 = 0 + place }) row.entity.0 passes of))

-- ---- what is read of them

-- the instances of a row, by the rows that are read of its copy function's relations
pub row_instances_read : (relations : List Relation) (c : CopyFunction) (t u : Relation) (target source : RowId)
    → slice_get relations c.target.0 ≡ Some t → slice_get relations c.source.0 ≡ Some u
    → row_instances relations c target source ≡ length c.places * (2 * partners c t.rows u.rows target source)
unfolding row_instances
row_instances_read relations c t u target source is_target is_source =
    let rows = λ (o : Option Relation). option_map_or (λ (r : Relation). r.rows) o [] in
    ap₂ (λ (a b : List Row). length c.places * (2 * partners c a b target source)) (ap rows is_target) (ap rows is_source)

-- as a product that is told as far as 64 bits hold it
pub product_is : (found places n k result : ℕ) → result ≡ min (found * (2 * places)) (2 ^ 64 - 1) → found ≡ n → places ≡ k
    → result ≡ min (k * (2 * n)) (2 ^ 64 - 1)
product_is found places n k result is here many =
    let turned : n * k ≡ k * n = mul_comm n k in
    let same : n * (2 * k) ≡ k * (2 * n) = omega arith in
    is ∙ (ap₂ (λ (a b : ℕ). min (a * (2 * b)) (2 ^ 64 - 1)) here many ∙ ap (λ (m : ℕ). min m (2 ^ 64 - 1)) same)

pub entity_within : (r : Relation) (row : Row) (target : ℕ) (entities : List (List RowId)) → IsRelation r
    → AreEntityRows r.rows (length r.entities) entities → slice_get r.rows target ≡ Some row
    → row.entity.0 < length entities
entity_within r row target entities is are at =
    let all = All-get_or (λ (q : Row). q.entity.0 < length r.entities) r.rows target row (slice_get_within r.rows target row at)
    is.entities in
    let same = ap (λ (q : Row). q.entity.0) (get_or_from_slice_get r.rows target row row at) in
    omega (arith, all, same, are.per_entity)

-- ---- numbers that are told as far as 64 bits hold them

pub capped_left : (left n more : ℕ) → left < 2 ^ 32 → more ≡ min n (2 ^ 64 - 1) → left_of left more ≡ left_of left n
capped_left left n more few is = elim (cases_lt left n) [
  | inl lt ↦ left_none left more (omega arith) ∙ sym (left_none left n lt)
  | inr le ↦ (let same : more ≡ n = omega arith in ap (left_of left) same)
]

pub not_capped : (left n less : ℕ) → left + n ≤ 8000000 → less ≡ min n (2 ^ 64 - 1) → less ≡ n
not_capped left n less within is = omega arith

-- ---- a mapped row

unmapped_by : (o : Option RowId) (other : Option CopyFault) → twice_or o other ≡ None → o ≡ None
unmapped_by None other is = refl
unmapped_by (Some row) other is = cc

due_here : (s : Spec) (copy : ℕ) (c : CopyFunction) (target source : RowId) → slice_get s.copies copy ≡ Some c
    → copied_due s copy target source ≡ fault_due c (rows_of s.relations c.target) (rows_of s.relations c.source) target source
due_here s copy c target source at =
    ap (option_and_then (λ (q : CopyFunction). fault_due q (rows_of s.relations q.target) (rows_of s.relations q.source) target
    source)) at

pub is_unmapped_yet : (s : Spec) (copy : ℕ) (c : CopyFunction) (target source : RowId) → slice_get s.copies copy ≡ Some c
    → copied_due s copy target source ≡ None → source_at c target ≡ None
is_unmapped_yet s copy c target source at due =
    unmapped_by (source_at c target) _ (sym (due_here s copy c target source at) ∙ due)

mapping_at : (s : Spec) (copy : CopyId) (target source : RowId) (c : CopyFunction) → slice_get s.copies copy.0 ≡ Some c
    → edited s (MapCopied copy target source)
    ≡ unless_due (copied_due s copy.0 target source) (limited (with_copy_at s copy.0 (with_source c target source)))
unfolding edited
mapping_at s copy target source c at = ap (mapping s copy.0 target source) at

pub mapped_edit : (s : Spec) (copy : CopyId) (target source : RowId) (c : CopyFunction) (end : Result Spec EditFault)
    → slice_get s.copies copy.0 ≡ Some c → copied_due s copy.0 target source ≡ None
    → limited (with_copy_at s copy.0 (with_source c target source)) ≡ end → edited s (MapCopied copy target source) ≡ end
mapped_edit s copy target source c end at due is =
    mapping_at s copy target source c at
    ∙ (ap (λ (d : Option CopyFault). unless_due d (limited (with_copy_at s copy.0 (with_source c target source)))) due ∙ is)

-- a refusal that is known, whatever it is
pub err_and : {A E : Type 0} (r : Result A E) (P Q : E → Type 0) → IsErrAnd r P → ((e : E) → P e → Q e) → IfErr r Q
err_and (Ok x) P Q h then = tt
err_and (Err e) P Q h then = then e h

-- the refusal of the row itself
pub copy_refused : (s : Spec) (copy : CopyId) (target source : RowId) (c : CopyFunction) (fault : CopyFault)
    → slice_get s.copies copy.0 ≡ Some c → IsDue (copied_due s copy.0 target source) fault
    → IsRefused s (MapCopied copy target source) (of_copy fault)
copy_refused s copy target source c fault at (inl memory) = inl (ap of_copy memory)
copy_refused s copy target source c fault at (inr due) =
    inr (mapping_at s copy target source c at
    ∙ ap (λ (d : Option CopyFault). unless_due d (limited (with_copy_at s copy.0 (with_source c target source)))) due)

-- with the row mapped, where something is left
pub mapping_counted : (s : Spec) (lists : List (List (List RowId))) (left more rest : ℕ) (copy : CopyId) (target source : RowId)
    → (h : AreRowsAt s copy.0 target source) → IsCounted s lists left → left < 2 ^ 32
    → copied_due s copy.0 target source ≡ None
    → IfSome (slice_get s.copies copy.0) (λ q. more ≡ min (row_instances s.relations q target source) (2 ^ 64 - 1))
    → left_of left more ≡ Some rest
    → IsCounted (with_copy_at s copy.0 (with_source h.function target source)) lists rest
mapping_counted s lists left more rest copy target source h counted few due told some =
    let c = h.function in
    let n = row_instances s.relations c target source in
    let unmapped = is_unmapped_yet s copy.0 c target source h.is_function due in
    let is = if_some (λ (q : CopyFunction). more ≡ min (row_instances s.relations q target source) (2 ^ 64 - 1))
    (slice_get s.copies copy.0) c h.is_function told in
    counted_copy s copy.0 c (with_source c target source) n lists left rest counted h.is_function
    (instances_more s.relations c target source unmapped (target_there s copy.0 target source h))
    (sym (capped_left left n more few is) ∙ some)

-- and where nothing is
pub mapping_above : (s : Spec) (lists : List (List (List RowId))) (left more : ℕ) (copy : CopyId) (target source : RowId)
    → AreRowsAt s copy.0 target source → IsCounted s lists left → left < 2 ^ 32 → copied_due s copy.0 target source ≡ None
    → IfSome (slice_get s.copies copy.0) (λ q. more ≡ min (row_instances s.relations q target source) (2 ^ 64 - 1))
    → left_of left more ≡ None → edited s (MapCopied copy target source) ≡ Err (Limit 11)
mapping_above s lists left more copy target source h counted few due told none =
    let c = h.function in
    let n = row_instances s.relations c target source in
    let unmapped = is_unmapped_yet s copy.0 c target source h.is_function due in
    let is = if_some (λ (q : CopyFunction). more ≡ min (row_instances s.relations q target source) (2 ^ 64 - 1))
    (slice_get s.copies copy.0) c h.is_function told in
    mapped_edit s copy target source c (Err (Limit 11)) h.is_function due
    (above_with_copy s copy.0 c (with_source c target source) n lists left counted h.is_function
    (instances_more s.relations c target source unmapped (target_there s copy.0 target source h))
    (sym (capped_left left n more few is) ∙ none))

-- what is changed then
pub mapping_is : (s t : Spec) (copy : ℕ) (target source : RowId) (c : CopyFunction) → slice_get s.copies copy ≡ Some c
    → MapsCopied s.copies t.copies copy target source → t.relations ≡ s.relations → t.rules ≡ s.rules
    → t ≡ with_copy_at s copy (with_source c target source)
mapping_is s t copy target source c at maps relations rules =
    spec_is (with_copy_at s copy (with_source c target source)) t relations rules (maps c at)

-- ---- a row that is mapped no more

pub unmapping_is : (s t : Spec) (copy : ℕ) (target : RowId) (c : CopyFunction) → slice_get s.copies copy ≡ Some c
    → UnmapsCopied s.copies t.copies copy target → t.relations ≡ s.relations → t.rules ≡ s.rules
    → t ≡ with_copy_at s copy (without_source c target)
unmapping_is s t copy target c at unmaps relations rules =
    spec_is (with_copy_at s copy (without_source c target)) t relations rules (unmaps c at)

row_is : (source : RowId) (o : Option RowId) → is_row source o ≡ true → o ≡ Some source
row_is source None is = cc
row_is source (Some row) is =
    ap (λ (n : ℕ). let o : Option RowId = Some (record { 0 = n }) in o) (eqb-true row.0 source.0 is)

pub is_mapped : (c : CopyFunction) (target source : RowId) → is_mapped_to c target source ≡ true
    → source_at c target ≡ Some source
is_mapped c target source is = row_is source (source_at c target) is

-- with the row mapped no more
pub unmapping_counted : (s : Spec) (lists : List (List (List RowId))) (left less : ℕ) (copy : CopyId) (target source : RowId)
    → (h : AreRowsAt s copy.0 target source) → IsCounted s lists left → is_mapped_to h.function target source ≡ true
    → IfSome (slice_get s.copies copy.0) (λ q. less ≡ min (row_instances s.relations q target source) (2 ^ 64 - 1))
    → (left + less ≤ 8000000) × IsCounted (with_copy_at s copy.0 (without_source h.function target)) lists (left + less)
unmapping_counted s lists left less copy target source h counted mapped told =
    let c = h.function in
    let old = without_source c target in
    let n = row_instances s.relations c target source in
    let is = if_some (λ (q : CopyFunction). less ≡ min (row_instances s.relations q target source) (2 ^ 64 - 1))
    (slice_get s.copies copy.0) c h.is_function told in
    let fewer = instances_less s.relations c target source (is_mapped c target source mapped)
    (target_there s copy.0 target source h) in
    let within = copy_within s copy.0 c old n lists left counted h.is_function fewer in
    let same = not_capped left n less within is in (
      omega (arith, within, same),
      subst (λ (m : ℕ). IsCounted (with_copy_at s copy.0 old) lists (left + m)) (sym same)
          (counted_less_copy s copy.0 c old n lists left counted h.is_function fewer),
    )

pub unmapped_edit : (s t : Spec) (copy : CopyId) (target source : RowId) (c : CopyFunction) → slice_get s.copies copy.0 ≡ Some c
    → is_mapped_to c target source ≡ true → t ≡ with_copy_at s copy.0 (without_source c target)
    → edited s (UnmapCopied copy target source) ≡ Ok t
unfolding edited
unmapped_edit s t copy target source c at is new = rw (at, is) (ap Ok (sym new))

pub unmapped_refused : (s : Spec) (copy : CopyId) (target source : RowId) (c : CopyFunction) → slice_get s.copies copy.0 ≡ Some c
    → is_mapped_to c target source ≡ false → edited s (UnmapCopied copy target source) ≡ Err NotThere
unfolding edited
unmapped_refused s copy target source c at is = rw (at, is) refl
