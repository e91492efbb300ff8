-- What the parts of binding a declaration leave: the words of private contracts.
use Rattle.std.specs.Prelude.{◌≡◌, ◌⊎◌, ℕ, List, [], map, All, Some, None, Result, MatchResult, Contains}
use Rattle.currency_base.specs.Values.{kind_of}
use Rattle.currency_base.specs.declared.error_code.ErrorCode.TheVariants.{DuplicateName}
use Rattle.currency_base.specs.declared.row.Row.{Row}
use Rattle.currency_base.specs.declared.value.ValueKind.{ValueKind}
use Rattle.currency_base.specs.declared.value.Value.{Value}
use Rattle.spec_syntax.specs.declared.trees.AttrTree.{AttrTree}
use Rattle.text_grammar.specs.declared.named.Named.{Named}
use Rattle.relation_bind.specs.Declarations.{Declared}
use Rattle.bind_faults.specs.Faults.{refused_at}
use Rattle.relation_bind.specs.Relations.{head_fault, repeated_attr}
use Rattle.bind_faults.specs.declared.fault.BindFault.{BindFault}
use Rattle.bind_faults.specs.declared.fault.BindFault.TheVariants.{NoMemory}

-- the names of declared attributes
abbrev pub names_of_attrs : List AttrTree → List (List ℕ)
names_of_attrs attrs = map (λ a. a.name.name) attrs

-- the names of the attributes, or the refusal of the first that stands before, or memory ran out
abbrev pub NamesAttrs : List AttrTree → Result (List (List ℕ)) BindFault → Type 0
NamesAttrs attrs result = MatchResult result
    (λ names. (repeated_attr [] attrs ≡ None) × (names ≡ names_of_attrs attrs))
    (λ fault. (fault ≡ NoMemory)
    ⊎ ((named : Named) × (repeated_attr [] attrs ≡ Some named) × (fault ≡ refused_at DuplicateName named)))

-- no name of the declaration is taken, and its attributes have these names; or it is refused, or memory ran out
abbrev pub ChecksHead : List (List ℕ) → Declared → Result (List (List ℕ)) BindFault → Type 0
ChecksHead taken d result = MatchResult result
    (λ names. (head_fault taken d ≡ None) × (names ≡ names_of_attrs d.attrs) × (Contains taken d.name.name → ⊥))
    (λ fault. (fault ≡ NoMemory) ⊎ (head_fault taken d ≡ Some fault))

-- each tuple has a value of each of these kinds
abbrev pub HaveKinds : List ValueKind → List (List Value) → Type 0
HaveKinds kinds tuples = All (λ tuple. map kind_of tuple ≡ kinds) tuples

-- each row has
abbrev pub RowsHaveKinds : List ValueKind → List Row → Type 0
RowsHaveKinds kinds rows = All (λ row. map kind_of row.values ≡ kinds) rows
