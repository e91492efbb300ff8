-- What an edit makes of a specification, and why it is refused.
use Rattle.std.specs.Prelude.{◌≡◌, ◌⊎◌, ◌<◌, ◌≤◌, ◌==◌, ◌∷◌, ◌++◌, [], ℕ, Bool, false, List, length, map, Contains, Option, Some, None, Result, Ok, Err, if◌then◌else◌, slice_get, slice_set}
use Rattle.std.specs.List.{remove}
use Rattle.copy_functions.specs.Copies.{CopyFunction, source_at, with_source, without_source}
use Rattle.copy_functions.specs.declared.fault.CopyFault.{CopyFault}
use Rattle.copy_functions.specs.declared.fault.CopyFault.TheVariants as copy_fault
use Rattle.currency_base.specs.declared.ids.RowId.{RowId}
use Rattle.currency_base.specs.declared.pair.Pair.{Pair}
use Rattle.denial_rules.specs.declared.rule.Rule.{Rule}
use Rattle.partial_orders.specs.Pairs.{has_pair}
use Rattle.spec_edits.specs.declared.edit.Edit.{Edit}
use Rattle.spec_edits.specs.declared.edit.Edit.TheVariants.{AddGiven, AddRule, MapCopied, UnmapCopied, WithdrawGiven, WithdrawRule}
use Rattle.spec_edits.specs.declared.fault.EditFault.{EditFault}
use Rattle.spec_edits.specs.declared.fault.EditFault.TheVariants.{CopyDiffers, CopyTwice, Limit, NoMemory, NotOneEntity, NotThere}
use Rattle.spec_limits.specs.Instances.{are_of_one_entity, too_many_instances}
use Rattle.spec_limits.specs.Limits.{exceeded}
use Rattle.spec_model.specs.Facts.{IsRuleOf, copied_due, rows_of, with_given, without_given}
use Rattle.spec_model.specs.Spec.{Spec}
use Rattle.spec_model.specs.declared.relation.Relation.{Relation}

-- ---- refusals

-- the refusal of a copied row
abbrev pub of_copy : CopyFault → EditFault
of_copy copy_fault.CopyTwice = CopyTwice
of_copy (copy_fault.CopyDiffers place target source) = CopyDiffers place target source
of_copy copy_fault.NoMemory = NoMemory

-- the first of two limits that is exceeded
abbrev pub first_of_limits : Option ℕ → Option ℕ → Option ℕ
first_of_limits None later = later
first_of_limits (Some k) later = Some k

-- the specification, unless it exceeds a limit, the lesser first: limits 4 to 9, and then limit 11 (no edit changes what limit
-- 10 counts)
abbrev pub unless_above : Option ℕ → Spec → Result Spec EditFault
unless_above None s = Ok s
unless_above (Some k) s = Err (Limit k)

abbrev pub limited : Spec → Result Spec EditFault
limited s = unless_above (first_of_limits (exceeded s) (too_many_instances s)) s

-- ---- edits

-- the specification with one more rule
abbrev pub with_rule : Spec → Rule → Spec
with_rule s rule = record s { rules = s.rules ++ rule ∷ [] }

-- the specification with one rule less; each after it has the place before its own
abbrev pub without_rule : Spec → ℕ → Spec
without_rule s rule = record s { rules = remove s.rules rule }

-- the specification with this relation at a place
abbrev pub with_relation_at : Spec → ℕ → Relation → Spec
with_relation_at s rel r = record s { relations = slice_set s.relations rel r }

-- the specification with this copy function at a place
abbrev pub with_copy_at : Spec → ℕ → CopyFunction → Spec
with_copy_at s copy c = record s { copies = slice_set s.copies copy c }

-- with one more given pair, unless its rows are one, or of two entities; one that is there already changes nothing
abbrev pub giving : Spec → ℕ → Pair → Option Relation → Result Spec EditFault
giving s rel pair None = Ok s
giving s rel pair (Some r) =
    if are_of_one_entity r.rows pair.earlier pair.later then Ok (with_relation_at s rel (with_given r pair)) else Err NotOneEntity

-- with one given pair less, if it is there
abbrev pub taking : Spec → ℕ → Pair → Option Relation → Result Spec EditFault
taking s rel pair None = Ok s
taking s rel pair (Some r) =
    if has_pair r.given pair then Ok (with_relation_at s rel (without_given r pair)) else Err NotThere

-- a row's fault, if there is one, or else what comes of mapping it
abbrev pub unless_due : Option CopyFault → Result Spec EditFault → Result Spec EditFault
unless_due (Some fault) next = Err (of_copy fault)
unless_due None next = next

-- with one more row mapped, unless it may not be, or a limit is then exceeded
abbrev pub mapping : Spec → ℕ → RowId → RowId → Option CopyFunction → Result Spec EditFault
mapping s copy target source None = Ok s
mapping s copy target source (Some c) =
    unless_due (copied_due s copy target source) (limited (with_copy_at s copy (with_source c target source)))

-- a row that is there is this one
abbrev pub is_row : RowId → Option RowId → Bool
is_row source None = false
is_row source (Some row) = row.0 == source.0

-- a row is mapped to this source row
abbrev pub is_mapped_to : CopyFunction → RowId → RowId → Bool
is_mapped_to c target source = is_row source (source_at c target)

-- with one row mapped less, if it is mapped to this source row
abbrev pub unmapping : Spec → ℕ → RowId → RowId → Option CopyFunction → Result Spec EditFault
unmapping s copy target source None = Ok s
unmapping s copy target source (Some c) =
    if is_mapped_to c target source then Ok (with_copy_at s copy (without_source c target)) else Err NotThere

-- the specification after an edit, or why it is refused
unfoldable pub edited : Spec → Edit → Result Spec EditFault
edited s (AddGiven rel pair) = giving s rel.0 pair (slice_get s.relations rel.0)
edited s (AddRule rule) = limited (with_rule s rule)
edited s (MapCopied copy target source) = mapping s copy.0 target source (slice_get s.copies copy.0)
edited s (WithdrawGiven rel pair) = taking s rel.0 pair (slice_get s.relations rel.0)
edited s (WithdrawRule rule) = Ok (without_rule s rule.0)
edited s (UnmapCopied copy target source) = unmapping s copy.0 target source (slice_get s.copies copy.0)

-- ---- what an edit speaks of is there

-- a pair of one of a relation's attributes and of two of its rows
pub record IsPairOf (r : Relation) (p : Pair) : Type 0 where
  pub attr : p.attr.0 < length r.attrs
  pub earlier : p.earlier.0 < length r.rows
  pub later : p.later.0 < length r.rows

-- a pair of the relation at a place
pub record IsPairAt (relations : List Relation) (rel : ℕ) (p : Pair) : Type 0 where
  pub relation : Relation
  pub is_relation : slice_get relations rel ≡ Some relation
  pub pair : IsPairOf relation p

-- rows of the two relations of the copy function at a place
pub record AreRowsAt (s : Spec) (copy : ℕ) (target source : RowId) : Type 0 where
  pub function : CopyFunction
  pub is_function : slice_get s.copies copy ≡ Some function
  pub in_target : target.0 < length (rows_of s.relations function.target)
  pub in_source : source.0 < length (rows_of s.relations function.source)

-- a rule with a name of its own, which fits its relation where it is within its limits
pub record IsNewRule (s : Spec) (rule : Rule) : Type 0 where
  pub fits : rule.vars ≤ 4 → length rule.predicates ≤ 16 → IsRuleOf s.relations rule
  pub fresh : Contains (map (λ r. r.name) s.rules) rule.name → ⊥

-- what an edit speaks of is there
abbrev pub IsEditOf : Spec → Edit → Type 0
IsEditOf s (AddGiven rel pair) = IsPairAt s.relations rel.0 pair
IsEditOf s (AddRule rule) = IsNewRule s rule
IsEditOf s (MapCopied copy target source) = AreRowsAt s copy.0 target source
IsEditOf s (WithdrawGiven rel pair) = IsPairAt s.relations rel.0 pair
IsEditOf s (WithdrawRule rule) = rule.0 < length s.rules
IsEditOf s (UnmapCopied copy target source) = AreRowsAt s copy.0 target source

-- an edit that takes back what another has added
abbrev pub IsWithdrawal : Edit → Type 0
IsWithdrawal (AddGiven rel pair) = ⊥
IsWithdrawal (AddRule rule) = ⊥
IsWithdrawal (MapCopied copy target source) = ⊥
IsWithdrawal (WithdrawGiven rel pair) = Unit {0}
IsWithdrawal (WithdrawRule rule) = Unit {0}
IsWithdrawal (UnmapCopied copy target source) = Unit {0}

-- the fault is the one that is due
abbrev pub IsDueOf : Spec → Edit → EditFault → Type 0
IsDueOf s edit fault = edited s edit ≡ Err fault

-- the fault is the one that is due, or memory ran out
abbrev pub IsRefused : Spec → Edit → EditFault → Type 0
IsRefused s edit fault = (fault ≡ NoMemory) ⊎ IsDueOf s edit fault
