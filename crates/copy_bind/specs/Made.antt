-- What a copy makes of the documents that are told, and the table that it lists its mappings in.
use Rattle.std.specs.Prelude.{◌≡◌, ℕ, List, [], ◌∷◌, Some, None, Result, Ok, Err, MatchResult, codes}
use Rattle.currency_base.specs.declared.value.Value.{Value}
use Rattle.currency_csv.specs.declared.table.Column.{Column}
use Rattle.text_grammar.specs.declared.named.NamedPair.{NamedPair}
use Rattle.copy_syntax.specs.declared.trees.CopyTree.{CopyTree}
use Rattle.copy_syntax.specs.declared.trees.Mappings.{Mappings}
use Rattle.copy_syntax.specs.declared.trees.Mappings.TheVariants.{Inline, Table}
use Rattle.bind_faults.specs.Faults.{and_then}
use Rattle.bind_faults.specs.declared.fault.BindFault.{BindFault}
use Rattle.copy_functions.specs.Copies.{CopyFunction}
use Rattle.spec_model.specs.Spec.{Spec}
use Rattle.table_bind.specs.Columns.{text_column}
use Rattle.table_bind.specs.Tuples.{AreTuples}
use Rattle.copy_bind.specs.Heads.{head_of}
use Rattle.copy_bind.specs.declared.head.CopyHead.{CopyHead}
use Rattle.copy_bind.specs.Copied.{copied, pairs_from}

-- the columns of a table of mappings
abbrev pub copy_columns : List Column
copy_columns = text_column (codes "target") ∷ text_column (codes "source") ∷ []

-- the pairs of names that the document of that name lists, or what is wrong in it; the first record below the header is 2
abbrev pub AreListed : List (List ℕ × List ℕ) → List ℕ → Result (List NamedPair) BindFault → Type 0
AreListed told document pairs =
    (tuples : Result (List (List Value)) BindFault) × AreTuples told document copy_columns tuples
    × (pairs ≡ and_then tuples (λ list. Ok (pairs_from 2 list)))

-- what the mappings make of a name and a head: of those in the text a function, of those in a table what it lists
abbrev pub IsMapped : List (List ℕ × List ℕ) → List ℕ → CopyHead → Mappings → Result CopyFunction BindFault → Type 0
IsMapped told name head (Inline pairs) made = made ≡ copied name head None pairs
IsMapped told name head (Table document) made =
    (pairs : Result (List NamedPair) BindFault) × AreListed told document.name pairs
    × (made ≡ and_then pairs (copied name head (Some document.name)))

-- what a copy makes of a specification: what its head is refused for, or else what its mappings make
abbrev pub IsCopyMade : List (List ℕ × List ℕ) → Spec → CopyTree → Result CopyFunction BindFault → Type 0
IsCopyMade told done tree made =
    MatchResult (head_of done tree) (λ head. IsMapped told tree.name.name head tree.mappings made) (λ fault. made ≡ Err fault)

-- the mappings are listed in the document of this name
abbrev pub IsTableOf : Mappings → List ℕ → Type 0
IsTableOf (Inline pairs) table = ⊥
IsTableOf (Table document) table = document.name ≡ table

-- the head of a copy is right, and its mappings are listed in the document of this name
abbrev pub IsCopyTable : Spec → CopyTree → List ℕ → Type 0
IsCopyTable done tree table = (head : CopyHead) × (head_of done tree ≡ Ok head) × IsTableOf tree.mappings table
