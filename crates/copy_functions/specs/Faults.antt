-- Why a row is not mapped.
use Rattle.std.specs.Prelude.{◌≡◌, ◌⊎◌, ◌+◌, ℕ, List, [], ◌∷◌, Option, Some, None, if◌then◌else◌, option_map, slice_get}
use Rattle.currency_base.specs.Values.{value_test}
use Rattle.currency_base.specs.declared.ids.RowId.{RowId}
use Rattle.currency_base.specs.declared.row.Row.{Row}
use Rattle.currency_base.specs.declared.value.Cmp.TheVariants.{Eq}
use Rattle.currency_base.specs.declared.value.Value.{Value}
use Rattle.copy_functions.specs.declared.fault.CopyFault.{CopyFault}
use Rattle.copy_functions.specs.declared.fault.CopyFault.TheVariants.{CopyTwice, CopyDiffers, NoMemory}
use Rattle.copy_functions.specs.declared.place.Place.{Place}
use Rattle.copy_functions.specs.Copies.{CopyFunction, source_at, values_of}

-- two values, where they differ; a value that is missing differs from none
abbrev pub differing : Option Value → Option Value → Option (Value × Value)
differing (Some a) (Some b) = if value_test Eq a b then None else Some (a, b)
differing a b = None

-- a difference at a place, and where there is none, what is found at later places
abbrev pub found_or : ℕ → Option (Value × Value) → Option (ℕ × Value × Value) → Option (ℕ × Value × Value)
found_or place None later = later
found_or place (Some (a, b)) later = Some (place, a, b)

-- the first place at which the values of two rows differ, and both values; the places count from this number
abbrev pub first_difference : ℕ → List Place → List Value → List Value → Option (ℕ × Value × Value)
first_difference at [] target source = None
first_difference at (place ∷ places) target source =
    found_or at (differing (slice_get target place.target.0) (slice_get source place.source.0))
    (first_difference (at + 1) places target source)

-- the fault of a difference
abbrev pub fault_of : ℕ × Value × Value → CopyFault
fault_of (place, a, b) = CopyDiffers place a b

-- a row is mapped twice, or else another fault, if there is one
abbrev pub twice_or : Option RowId → Option CopyFault → Option CopyFault
twice_or (Some source) other = Some CopyTwice
twice_or None other = other

-- why a target row is not mapped to a source row, if there is a cause: it is mapped already, or else the first difference
abbrev pub fault_due : CopyFunction → List Row → List Row → RowId → RowId → Option CopyFault
fault_due copy target_rows source_rows target source =
    twice_or (source_at copy target)
    (option_map fault_of (first_difference 0 copy.places (values_of target_rows target) (values_of source_rows source)))

-- the fault is the one that is due, or memory ran out
abbrev pub IsDue : Option CopyFault → CopyFault → Type 0
IsDue due fault = (fault ≡ NoMemory) ⊎ (due ≡ Some fault)

-- the fault of a difference, or memory ran out
abbrev pub IsDifference : ℕ → Value → Value → CopyFault → Type 0
IsDifference place a b fault = (fault ≡ NoMemory) ⊎ (fault ≡ CopyDiffers place a b)
