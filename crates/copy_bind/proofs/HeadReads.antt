-- A head makes no read fault.
use Rattle.std.proofs.Common.{◌≡◌, ◌∷◌, [], ◌++◌, ℕ, List, map, Option, Some, None, Ok, Err, subst}
use Rattle.std.specs.Prelude.{option_map, slice_get}
use Rattle.copy_syntax.specs.declared.trees.CopyTree.{CopyTree}
use Rattle.currency_base.specs.declared.error_code.ErrorCode.{ErrorCode}
use Rattle.currency_base.specs.declared.error_code.ErrorCode.TheVariants.{UnknownName, DuplicateName, Mismatch}
use Rattle.text_grammar.specs.declared.named.Named.{Named}
use Rattle.bind_faults.specs.Faults.{or_else, refused_at, all_of}
use Rattle.bind_faults.specs.declared.fault.BindFault.{BindFault}
use Rattle.spec_model.specs.Spec.{Spec}
use Rattle.spec_model.specs.declared.relation.Relation.{Relation}
use Rattle.spec_names.specs.Names.{place_of}
use Rattle.copy_bind.specs.Heads.{attr_named, head_of, is_matching, matched, names_of_attrs, names_refused, places_of, repeated, side_at, side_of, side_with, taken}
use Rattle.copy_bind.specs.Sides.{Side}
use Rattle.copy_bind.specs.declared.head.CopyHead.{CopyHead}
use Rattle.copy_bind.proofs.NoReads.{ReadsNothing, all_reads, found_reads, if_reads, then_reads, unless_reads}

refused_reads : (A : Type 0) (code : ErrorCode) (named : Named) → ReadsNothing {A = A} (Err (refused_at code named))
refused_reads A code named = record { none = λ h. h }

attr_reads : (names : List (List ℕ)) (named : Named) → ReadsNothing (attr_named names named)
attr_reads names named =
    found_reads (place_of names named.name) (refused_at UnknownName named) (λ place. Ok record { 0 = place })
    (record { none = λ h. h })
    (λ k. record { none = λ h. h })

with_reads : (attrs : List Named) (place : ℕ) (r : Relation) → ReadsNothing (side_with attrs place r)
with_reads attrs place r =
    then_reads (all_of (attr_named (names_of_attrs r)) attrs)
    (λ ids. Ok record { id = record { 0 = place }; relation = r; attrs = ids })
    (all_reads (attr_named (names_of_attrs r)) (attr_reads (names_of_attrs r)) attrs) (λ ids. record { none = λ h. h })

at_reads : (name : Named) (attrs : List Named) (place : ℕ) (there : Option Relation) → ReadsNothing
    (side_at name attrs place there)
at_reads name attrs place None = record { none = λ h. h }
at_reads name attrs place (Some r) = with_reads attrs place r

side_reads : (relations : List Relation) (name : Named) (attrs : List Named) → ReadsNothing (side_of relations name attrs)
unfolding side_of
side_reads relations name attrs =
    found_reads (place_of (map (λ (r : Relation). r.name) relations) name.name) (refused_at UnknownName name)
    (λ place. side_at name attrs place (slice_get relations place)) (record { none = λ h. h })
    (λ k. at_reads name attrs k (slice_get relations k))

-- a refusal of one of two checks is a refusal of either
taken_reads : (A : Type 0) (names : List (List ℕ)) (named : Named) (fault : BindFault) → taken names named ≡ Some
    fault → ReadsNothing {A = A} (Err fault)
taken_reads A names named fault is = by (place_of names named.name) is
  where
    by : (place : Option ℕ) → option_map (λ k. refused_at DuplicateName named) place ≡ Some fault
        → ReadsNothing {A = A} (Err fault)
    by None e = absurd (cc)
    by (Some k) e = let same : refused_at DuplicateName named ≡ fault = cc in subst
        (λ (f : BindFault). ReadsNothing {A = A} (Err f)) same (record { none = λ h. h })

either_reads : (A : Type 0) (a b : Option BindFault) (fault : BindFault) →
    ((e : BindFault) → a ≡ Some e → ReadsNothing {A = A} (Err e))
    → ((e : BindFault) → b ≡ Some e → ReadsNothing {A = A} (Err e)) → or_else a b ≡ Some fault → ReadsNothing {A = A} (Err fault)
either_reads A None b fault first later is = later fault is
either_reads A (Some e) b fault first later is = first fault is

repeated_reads : (A : Type 0) (before : List (List ℕ)) (list : List Named) (fault : BindFault)
    → repeated before list ≡ Some fault → ReadsNothing {A = A} (Err fault)
repeated_reads A before [] fault is = absurd (cc)
repeated_reads A before (named ∷ more) fault is =
    either_reads A (taken before named) (repeated (before ++ named.name ∷ []) more) fault (taken_reads A before named)
    (repeated_reads A (before ++ named.name ∷ []) more) is

names_reads : (A : Type 0) (copies : List (List ℕ)) (tree : CopyTree) (fault : BindFault) → names_refused copies
    tree ≡ Some fault → ReadsNothing {A = A} (Err fault)
unfolding names_refused
names_reads A copies tree fault is =
    either_reads A (taken copies tree.name) (or_else (repeated [] tree.target_attrs) (repeated [] tree.source_attrs)) fault
    (taken_reads A copies tree.name)
    (λ e. either_reads A (repeated [] tree.target_attrs) (repeated [] tree.source_attrs) e
    (repeated_reads A [] tree.target_attrs) (repeated_reads A [] tree.source_attrs)) is

matched_reads : (name : Named) (target source : Side) → ReadsNothing (matched name target source)
unfolding matched
matched_reads name target source =
    if_reads (is_matching target source) (Ok (places_of target.attrs source.attrs)) (Err (refused_at Mismatch name))
    (record { none = λ h. h }) (record { none = λ h. h })

pub head_reads : (s : Spec) (tree : CopyTree) → ReadsNothing (head_of s tree)
unfolding head_of
head_reads s tree =
    then_reads (side_of s.relations tree.target tree.target_attrs) _
    (side_reads s.relations tree.target tree.target_attrs) (λ target.
    then_reads (side_of s.relations tree.source tree.source_attrs) _
    (side_reads s.relations tree.source tree.source_attrs) (λ source.
    unless_reads (names_refused (map (λ c. c.name) s.copies) tree) _ (names_reads CopyHead (map (λ c. c.name) s.copies) tree)
    (then_reads (matched tree.name target source) (λ places. Ok record { target = target; source = source; places = places })
    (matched_reads tree.name target source) (λ places. record { none = λ h. h }))))
