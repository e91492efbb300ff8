-- Mappings make no read fault.
use Rattle.std.proofs.Common.{◌≡◌, ◌∷◌, [], ℕ, List, Option, Some, None, Ok, Err, subst}
use Rattle.std.specs.Prelude.{option_map}
use Rattle.currency_base.specs.declared.error_code.ErrorCode.TheVariants as code
use Rattle.currency_base.specs.declared.row.Row.{Row}
use Rattle.text_grammar.specs.declared.named.Named.{Named}
use Rattle.text_grammar.specs.declared.named.NamedPair.{NamedPair}
use Rattle.bind_faults.specs.Faults.{refused_of}
use Rattle.bind_faults.specs.declared.fault.BindFault.{BindFault}
use Rattle.copy_functions.specs.Copies.{CopyFunction, with_source}
use Rattle.copy_functions.specs.Faults.{fault_due}
use Rattle.copy_functions.specs.declared.fault.CopyFault.{CopyFault}
use Rattle.copy_functions.specs.declared.fault.CopyFault.TheVariants as copy_fault
use Rattle.spec_names.specs.Names.{place_of}
use Rattle.copy_bind.specs.declared.head.CopyHead.{CopyHead}
use Rattle.copy_bind.proofs.NoReads.{ReadsNothing, all_reads, found_reads, then_reads, unless_reads}
use Rattle.copy_bind.specs.Copied.{copied, empty_copy, fault_of, mapping_named, mappings_of, names_of_rows, refusal_of, row_named, with_mappings}
use Rattle.copy_bind.specs.declared.mapping.Mapping.{Mapping}

row_reads : (document : Option (List ℕ)) (rows : List (List ℕ)) (named : Named) → ReadsNothing (row_named document rows named)
row_reads document rows named =
    found_reads (place_of rows named.name) (refused_of document code.UnknownRow named)
    (λ place. Ok record { 0 = place }) (record { none = λ h. h })
    (λ k. record { none = λ h. h })

mapping_reads : (document : Option (List ℕ)) (targets sources : List (List ℕ)) (pair : NamedPair) → ReadsNothing
    (mapping_named document targets sources pair)
mapping_reads document targets sources pair =
    then_reads (row_named document targets pair.first) _ (row_reads document targets pair.first) (λ target.
    then_reads (row_named document sources pair.second)
    (λ source. Ok record { target = target; source = source; line = pair.first.line })
    (row_reads document sources pair.second) (λ source. record { none = λ h. h }))

refusal_reads : (document : Option (List ℕ)) (line : ℕ) (fault : CopyFault) → ReadsNothing {A = CopyFunction}
    (Err (refusal_of document line fault))
refusal_reads document line copy_fault.CopyTwice = record { none = λ h. h }
refusal_reads document line (copy_fault.CopyDiffers place target source) = record { none = λ h. h }
refusal_reads document line copy_fault.NoMemory = record { none = λ h. h }

some_reads : (document : Option (List ℕ)) (line : ℕ) (fault : Option CopyFault) (e : BindFault) → option_map
    (refusal_of document line) fault ≡ Some e
    → ReadsNothing {A = CopyFunction} (Err e)
some_reads document line None e is = absurd (cc)
some_reads document line (Some fault) e is =
    let same : refusal_of document line fault ≡ e = cc in
    subst (λ (f : BindFault). ReadsNothing {A = CopyFunction} (Err f)) same (refusal_reads document line fault)

mappings_read : (document : Option (List ℕ)) (targets sources : List Row) (copy : CopyFunction) (ms : List Mapping)
    → ReadsNothing (with_mappings document targets sources copy ms)
mappings_read document targets sources copy [] = record { none = λ h. h }
mappings_read document targets sources copy (m ∷ more) =
    unless_reads (fault_of document targets sources copy m)
    (with_mappings document targets sources (with_source copy m.target m.source) more)
    (some_reads document m.line (fault_due copy targets sources m.target m.source))
    (mappings_read document targets sources (with_source copy m.target m.source) more)

pub copied_reads : (name : List ℕ) (head : CopyHead) (document : Option (List ℕ)) (pairs : List NamedPair)
    → ReadsNothing (copied name head document pairs)
unfolding copied
copied_reads name head document pairs =
    then_reads (mappings_of head document pairs)
    (with_mappings document head.target.relation.rows head.source.relation.rows (empty_copy name head))
    (all_reads (mapping_named document (names_of_rows head.target.relation) (names_of_rows head.source.relation))
    (mapping_reads document (names_of_rows head.target.relation) (names_of_rows head.source.relation)) pairs)
    (mappings_read document head.target.relation.rows head.source.relation.rows (empty_copy name head))
