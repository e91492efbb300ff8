-- The copy function of a head and its mappings, or the first fault of these: first the rows that are unknown, in the order
-- of the mappings, and then the first mapping that may not be added to those before it. The table that lists the mappings
-- is named in a refusal; there is none where they stand in the copy's own text.
use Rattle.std.specs.Prelude.{ℕ, ◌+◌, List, [], ◌∷◌, map, Option, Some, option_map, Result, Ok, slice_get}
use Rattle.currency_base.specs.declared.error_code.ErrorCode.TheVariants as code
use Rattle.currency_base.specs.declared.ids.RowId.{RowId}
use Rattle.currency_base.specs.declared.row.Row.{Row}
use Rattle.currency_base.specs.declared.value.Value.{Value}
use Rattle.currency_base.specs.declared.value.Value.TheVariants.{Text}
use Rattle.currency_csv.specs.Capped.{capped}
use Rattle.text_grammar.specs.declared.named.Named.{Named}
use Rattle.text_grammar.specs.declared.named.NamedPair.{NamedPair}
use Rattle.bind_faults.specs.Faults.{refused_of, found_or, and_then, unless, all_of}
use Rattle.bind_faults.specs.declared.fault.BindFault.{BindFault}
use Rattle.bind_faults.specs.declared.fault.BindFault.TheVariants as bind_fault
use Rattle.copy_functions.specs.Copies.{CopyFunction, with_source}
use Rattle.copy_functions.specs.Faults.{fault_due}
use Rattle.copy_functions.specs.declared.fault.CopyFault.{CopyFault}
use Rattle.copy_functions.specs.declared.fault.CopyFault.TheVariants as copy_fault
use Rattle.spec_model.specs.declared.relation.Relation.{Relation}
use Rattle.spec_names.specs.Names.{place_of}
use Rattle.copy_bind.specs.declared.head.CopyHead.{CopyHead}
use Rattle.copy_bind.specs.declared.mapping.Mapping.{Mapping}

-- ---- names to rows

-- the names of the rows of a relation
abbrev pub names_of_rows : Relation → List (List ℕ)
names_of_rows r = map (λ row. row.name) r.rows

-- the row of a name among these, or the refusal of an unknown one
abbrev pub row_named : Option (List ℕ) → List (List ℕ) → Named → Result RowId BindFault
row_named document rows named =
    found_or (place_of rows named.name) (refused_of document code.UnknownRow named) (λ place. Ok record { 0 = place })

-- the mapping that two names say, the target's row first; it stands at the line of the first
abbrev pub mapping_named : Option (List ℕ) → List (List ℕ) → List (List ℕ) → NamedPair → Result Mapping BindFault
mapping_named document targets sources pair =
    and_then (row_named document targets pair.first) (λ target.
    and_then (row_named document sources pair.second) (λ source.
    Ok record { target = target; source = source; line = pair.first.line }))

-- ---- mappings to a copy function

-- the refusal of a mapping at a line
abbrev pub refusal_of : Option (List ℕ) → ℕ → CopyFault → BindFault
refusal_of document line copy_fault.CopyTwice = bind_fault.Refused record {
  code = code.CopyTwice;
  document =
      document;
  line = line;
}
refusal_of document line (copy_fault.CopyDiffers place target source) = bind_fault.CopyDiffers document line target source
refusal_of document line copy_fault.NoMemory = bind_fault.NoMemory

-- why a mapping is not added to a copy function of these rows, if there is a cause
abbrev pub fault_of : Option (List ℕ) → List Row → List Row → CopyFunction → Mapping → Option BindFault
fault_of document targets sources copy m = option_map (refusal_of document m.line)
    (fault_due copy targets sources m.target m.source)

-- the copy function with these mappings, or why the first that is refused is
abbrev pub with_mappings : Option (List ℕ) → List Row → List Row → CopyFunction → List Mapping → Result CopyFunction BindFault
with_mappings document targets sources copy [] = Ok copy
with_mappings document targets sources copy (m ∷ more) =
    unless (fault_of document targets sources copy m)
    (with_mappings document targets sources (with_source copy m.target m.source) more)

-- the copy function of a name and a head that maps no row
abbrev pub empty_copy : List ℕ → CopyHead → CopyFunction
empty_copy name head = record {
  name = name;
  target = head.target.id;
  source = head.source.id;
  places =
      head.places;
  sources = [];
}

-- the mappings that pairs of names say of a head
abbrev pub mappings_of : CopyHead → Option (List ℕ) → List NamedPair → Result (List Mapping) BindFault
mappings_of head document pairs =
    all_of (mapping_named document (names_of_rows head.target.relation) (names_of_rows head.source.relation)) pairs

-- the copy function of a name and a head with the mappings that pairs of names say
unfoldable pub copied : List ℕ → CopyHead → Option (List ℕ) → List NamedPair → Result CopyFunction BindFault
copied name head document pairs =
    and_then (mappings_of head document pairs)
    (with_mappings document head.target.relation.rows head.source.relation.rows (empty_copy name head))

-- ---- pairs of names in a table

-- the text that a value is
abbrev pub text_of : Option Value → List ℕ
text_of (Some (Text text)) = text
text_of other = []

-- the names in a tuple of two texts, for the record of this number
abbrev pub pair_in : ℕ → List Value → NamedPair
pair_in number tuple = record {
  first = record { name = text_of (slice_get tuple 0); line = number };
  second = record { name = text_of (slice_get tuple 1); line = number };
}

-- the same for each tuple, where the first is that of the record of this number
abbrev pub pairs_from : ℕ → List (List Value) → List NamedPair
pairs_from number [] = []
pairs_from number (tuple ∷ tuples) = pair_in number tuple ∷ pairs_from (capped (number + 1)) tuples
