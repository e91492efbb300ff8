-- What an edit changes of the names of a specification: the words of private contracts.
use Rattle.std.specs.Prelude.{◌++◌, ◌∷◌, [], List, Contains, map}
use Rattle.denial_rules.specs.declared.rule.Rule.{Rule}
use Rattle.spec_edits.specs.declared.edit.Edit.{Edit}
use Rattle.spec_edits.specs.declared.edit.Edit.TheVariants.{AddRule, WithdrawRule}
use Rattle.spec_names.specs.NameLists.{NameLists}
use Rattle.session_entries.specs.declared.names.NameChange.{NameChange}
use Rattle.session_entries.specs.declared.names.NameChange.TheVariants.{Added, Kept, Withdrawn}

-- an edit adds the name of a rule, or takes one away, or changes none
abbrev pub change_of : Edit → NameChange
change_of (AddRule rule) = Added rule.name
change_of (WithdrawRule rule) = Withdrawn
change_of other = Kept

-- a name that is added is that of no rule yet
abbrev pub IsFresh : NameLists → NameChange → Type 0
IsFresh names (Added name) = Contains names.rules name → ⊥
IsFresh names other = Unit {0}

-- the names after a change, where the rules are these by then
abbrev pub renamed : NameLists → List Rule → NameChange → NameLists
renamed names rules Kept = names
renamed names rules (Added name) = record names { rules = names.rules ++ name ∷ [] }
renamed names rules Withdrawn = record names { rules = map (λ rule. rule.name) rules }
