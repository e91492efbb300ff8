-- The copy functions of a specification stay between its relations when one of them maps a row more, or a row less.
use Rattle.std.proofs.Common.{◌≡◌, ◌<◌, ◌∙◌, ℕ, List, Option, Some, Result, Ok, Err, OnOk, OnErr, IfSome, length, length-set, get_or, slice_get, slice_set, option_and_then, refl, sym, ap, ap₂, subst, arith}
use Rattle.std.proofs.Math.Seq.{map-set_same}
use Rattle.std.proofs.lemmas.List.{set-get_or}
use Rattle.std.proofs.lemmas.List.Elements.{All-set, All-get_or}
use Rattle.std.proofs.lemmas.Option.{same_Some, get_or_from_slice_get, slice_get_within, slice_get_read}
use Rattle.currency_base.specs.Lists.{OnlyOnce}
use Rattle.currency_base.specs.declared.ids.RelId.{RelId}
use Rattle.currency_base.specs.declared.ids.RowId.{RowId}
use Rattle.currency_base.specs.declared.row.Row.{Row}
use Rattle.copy_functions.specs.Copies.{CopyFunction, source_at, with_source, without_source, IsCopied}
use Rattle.copy_functions.specs.Faults.{fault_due}
use Rattle.copy_functions.specs.declared.fault.CopyFault.{CopyFault}
use Rattle.spec_model.specs.Spec.{Spec}
use Rattle.spec_model.specs.declared.relation.Relation.{Relation}
use Rattle.spec_model.specs.Facts.{rows_of, copied_due, IsCopyAmong, AreCopies, MapsCopied, UnmapsCopied}

-- ---- what is read

-- the copy function that was read at a place
pub copy_at : (cs : List CopyFunction) (k : ℕ) (c : CopyFunction) → k < length cs → c ≡ get_or cs k c → slice_get cs k ≡ Some c
copy_at cs k c below read = slice_get_read cs (length cs) k c refl below read

pub copy_among : (rs : List Relation) (cs : List CopyFunction) (k : ℕ) (c : CopyFunction) → AreCopies rs cs
    → slice_get cs k ≡ Some c → IsCopyAmong rs c
copy_among rs cs k c h at =
    subst (IsCopyAmong rs) (get_or_from_slice_get cs k c c at)
    (All-get_or (IsCopyAmong rs) cs k c (slice_get_within cs k c at) h.each)

-- the number of a copy function's relation is that of a relation
pub is_within : (rs : List Relation) (rel : RelId) (m : ℕ) (r : Relation) → m ≡ rel.0 → slice_get rs rel.0 ≡ Some r
    → m < length rs
is_within rs rel m r same at = omega (arith, slice_get_within rs rel.0 r at)

-- the relation that was read there
relation_at : (rs : List Relation) (rel : RelId) (m : ℕ) (r other : Relation) → m ≡ rel.0 → slice_get rs rel.0 ≡ Some other
    → r ≡ get_or rs m r → slice_get rs rel.0 ≡ Some r
relation_at rs rel m r other same at read =
    ap (slice_get rs) (sym same) ∙ slice_get_read rs (length rs) m r refl (is_within rs rel m other same at) read

-- a copy function and its two relations, as they were read
pub record AreRead (rs : List Relation) (cs : List CopyFunction) (k : ℕ) (c : CopyFunction)
    (target source : Relation) : Type 0 where
  pub read : c ≡ get_or cs k c
  pub is_copy : slice_get cs k ≡ Some c
  pub is_target : slice_get rs c.target.0 ≡ Some target
  pub is_source : slice_get rs c.source.0 ≡ Some source

pub are_read : (rs : List Relation) (cs : List CopyFunction) (k : ℕ) (c : CopyFunction) (m n : ℕ) (target source : Relation)
    → AreCopies rs cs → k < length cs → c ≡ get_or cs k c → m ≡ c.target.0 → n ≡ c.source.0
    → target ≡ get_or rs m target → source ≡ get_or rs n source → AreRead rs cs k c target source
are_read rs cs k c m n target source h below read is_m is_n read_target read_source =
    let at = copy_at cs k c below read in
    let among = copy_among rs cs k c h at in
    record {
      read = read;
      is_copy = at;
      is_target = relation_at rs c.target m target among.target is_m among.is_target read_target;
      is_source = relation_at rs c.source n source among.source is_n among.is_source read_source;
    }

pub rows_are : (rs : List Relation) (rel : RelId) (r : Relation) → slice_get rs rel.0 ≡ Some r → rows_of rs rel ≡ r.rows
rows_are rs rel r at = rw at refl

-- ---- one copy function changed

copy_with : (rs : List Relation) (c : CopyFunction) (sources : List (Option RowId)) (h : IsCopyAmong rs c)
    → (IsCopied c h.target.rows h.source.rows → IsCopied (record c { sources = sources }) h.target.rows h.source.rows)
    → IsCopyAmong rs (record c { sources = sources })
copy_with rs c sources h still =
    record {
      target = h.target;
      source = h.source;
      is_target = h.is_target;
      is_source = h.is_source;
      places = h.places;
      copied = still h.copied;
    }

-- other mapped rows at one copy function
copies_with : (rs : List Relation) (cs : List CopyFunction) (k : ℕ) (c : CopyFunction) (sources : List (Option RowId))
    → AreCopies rs cs → slice_get cs k ≡ Some c → IsCopyAmong rs (record c { sources = sources })
    → AreCopies rs (slice_set cs k (record c { sources = sources }))
copies_with rs cs k c sources h at is =
    let same_name : c.name ≡ (get_or cs k c).name = ap (λ (q : CopyFunction). q.name) (sym (get_or_from_slice_get cs k c c at)) in
    let same_names = map-set_same (λ (q : CopyFunction). q.name) cs k (record c { sources = sources }) c same_name in
    record {
      few = rw length-set h.few;
      each = All-set (IsCopyAmong rs) cs k (record c { sources = sources }) is h.each;
      names = subst OnlyOnce (sym same_names) h.names;
    }

-- the list of copy functions with the one that was read put back
put_back : (cs : List CopyFunction) (k : ℕ) (c new : CopyFunction) → c ≡ get_or cs k c → new ≡ c → slice_set cs k new ≡ cs
put_back cs k c new read same = ap (slice_set cs k) (same ∙ read) ∙ set-get_or cs k c

-- rows that are copies between the relations that were read are so between those of the copy function
still_copied : (rs : List Relation) (c new : CopyFunction) (target source : Relation) (h : IsCopyAmong rs c)
    → slice_get rs c.target.0 ≡ Some target → slice_get rs c.source.0 ≡ Some source
    → (IsCopied c target.rows source.rows → IsCopied new target.rows source.rows)
    → IsCopied c h.target.rows h.source.rows → IsCopied new h.target.rows h.source.rows
still_copied rs c new target source h at_target at_source still were =
    let one : target ≡ h.target = same_Some target h.target (sym at_target ∙ h.is_target) in
    let two : source ≡ h.source = same_Some source h.source (sym at_source ∙ h.is_source) in
    (subst (λ (t : Relation). (IsCopied c t.rows h.source.rows → IsCopied new t.rows h.source.rows)) one
    (subst (λ (s : Relation). (IsCopied c target.rows s.rows → IsCopied new target.rows s.rows)) two still)) were

-- one row mapped more, or a refusal
pub copies_mapping : (rs : List Relation) (cs : List CopyFunction) (k : ℕ) (c new : CopyFunction) (target source : Relation)
    (row from : RowId) (result : Result (Unit {0}) CopyFault) → AreCopies rs cs → AreRead rs cs k c target source
    → OnOk result (new ≡ with_source c row from) → OnErr result (new ≡ c)
    → (IsCopied c target.rows source.rows → OnOk result (IsCopied new target.rows source.rows))
    → AreCopies rs (slice_set cs k new)
copies_mapping rs cs k c new target source row from (Ok u) h are more kept still =
    let among = copy_among rs cs k c h are.is_copy in
    let after = with_source c row from in
    let copied : IsCopied c target.rows source.rows → IsCopied after target.rows source.rows =
    λ were. subst (λ (q : CopyFunction). IsCopied q target.rows source.rows) more (still were) in
    let is = copy_with rs c after.sources among
    (still_copied rs c after target source among are.is_target are.is_source copied) in
    subst (λ (q : CopyFunction). AreCopies rs (slice_set cs k q)) (sym more)
    (copies_with rs cs k c after.sources h are.is_copy is)
copies_mapping rs cs k c new target source row from (Err e) h are more kept still =
    subst (AreCopies rs) (sym (put_back cs k c new are.read kept)) h

-- one row mapped less
pub copies_unmapping : (rs : List Relation) (cs : List CopyFunction) (k : ℕ) (c new : CopyFunction) (row : RowId)
    → AreCopies rs cs → slice_get cs k ≡ Some c → new ≡ without_source c row
    → ((target_rows source_rows : List Row) → IsCopied c target_rows source_rows → IsCopied new target_rows source_rows)
    → AreCopies rs (slice_set cs k new)
copies_unmapping rs cs k c new row h at less still =
    let among = copy_among rs cs k c h at in
    let after = without_source c row in
    let copied : IsCopied c among.target.rows among.source.rows → IsCopied after among.target.rows among.source.rows =
    λ were. subst (λ (q : CopyFunction). IsCopied q among.target.rows among.source.rows) less
    (still among.target.rows among.source.rows were) in
    let is = copy_with rs c after.sources among copied in
    subst (λ (q : CopyFunction). AreCopies rs (slice_set cs k q)) (sym less) (copies_with rs cs k c after.sources h at is)

-- ---- what is told of the change

pub maps_copied : (cs : List CopyFunction) (k : ℕ) (c new : CopyFunction) (row from : RowId)
    (result : Result (Unit {0}) CopyFault) → slice_get cs k ≡ Some c → OnOk result (new ≡ with_source c row from)
    → OnOk result (MapsCopied cs (slice_set cs k new) k row from)
maps_copied cs k c new row from (Ok u) at more = λ other at_other.
    let one : c ≡ other = same_Some c other (sym at ∙ at_other) in
    ap (slice_set cs k) (more ∙ ap (λ (q : CopyFunction). with_source q row from) one)
maps_copied cs k c new row from (Err e) at more = tt

pub unmaps_copied : (cs : List CopyFunction) (k : ℕ) (c new : CopyFunction) (row : RowId) → slice_get cs k ≡ Some c
    → new ≡ without_source c row → UnmapsCopied cs (slice_set cs k new) k row
unmaps_copied cs k c new row at less = λ other at_other.
    let one : c ≡ other = same_Some c other (sym at ∙ at_other) in
    ap (slice_set cs k) (less ∙ ap (λ (q : CopyFunction). without_source q row) one)

-- the source row that the row was mapped to
pub was_mapped : (cs : List CopyFunction) (k : ℕ) (c : CopyFunction) (row : RowId) (was : Option RowId)
    → slice_get cs k ≡ Some c → was ≡ source_at c row → IfSome (slice_get cs k) (λ q. was ≡ source_at q row)
was_mapped cs k c row was at is =
    subst (λ (o : Option CopyFunction). IfSome o (λ q. was ≡ source_at q row)) (sym at) is

-- the cause, by the rows that were read
pub due_is : (s : Spec) (k : ℕ) (c : CopyFunction) (target source : Relation) (row from : RowId)
    → AreRead s.relations s.copies k c target source
    → fault_due c target.rows source.rows row from ≡ copied_due s k row from
due_is s k c target source row from are =
    sym (ap (option_and_then (λ (q : CopyFunction). fault_due q (rows_of s.relations q.target)
    (rows_of s.relations q.source) row from)) are.is_copy
    ∙ ap₂ (λ (targets sources : List Row). fault_due c targets sources row from)
    (rows_are s.relations c.target target are.is_target) (rows_are s.relations c.source source are.is_source))

-- a refusal leaves the specification as it was
pub kept_spec : (s now : Spec) (k : ℕ) (c new : CopyFunction) (result : Result (Unit {0}) CopyFault)
    → c ≡ get_or s.copies k c → OnErr result (new ≡ c) → s ≡ now
    → OnErr result (record s { copies = slice_set s.copies k new } ≡ now)
kept_spec s now k c new (Ok u) read kept same = tt
kept_spec s now k c new (Err e) read kept same =
    ap (λ (copies : List CopyFunction). let other : Spec = record s { copies = copies } in other)
    (put_back s.copies k c new read kept) ∙ same
