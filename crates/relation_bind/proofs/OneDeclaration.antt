-- Documents and a declaration have one outcome, where a table gives one answer.
use Rattle.std.proofs.Common.{◌≡◌, ◌∙◌, ℕ, List, Option, Some, None, Result, Ok, Err, MatchOption, sym, ap}
use Rattle.currency_base.specs.declared.value.Value.{Value}
use Rattle.currency_csv.specs.declared.table.Column.{Column}
use Rattle.table_bind.specs.Tuples.{AreTuples}
use Rattle.table_rows.specs.declared.rows.TableRows.{TableRows}
use Rattle.spec_model.specs.declared.relation.Relation.{Relation}
use Rattle.bind_faults.specs.Faults.{and_then}
use Rattle.bind_faults.specs.declared.fault.BindFault.{BindFault}
use Rattle.relation_bind.specs.Declarations.{Declared}
use Rattle.relation_bind.specs.Relations.{IsTable, IsRead, IsDeclared, columns_of, head_fault, relation_of, rows_read}

-- told documents, a name and columns have one outcome at most
abbrev pub OneTable : Type 0
OneTable = (told : List (List ℕ × List ℕ)) (name : List ℕ) (columns : List Column) (a b : Result (List (List Value)) BindFault)
    → AreTuples told name columns a → AreTuples told name columns b → a ≡ b

-- so do the rows of a declaration's table
one_rows : OneTable → (told : List (List ℕ × List ℕ)) (d : Declared) (a b : Result TableRows BindFault)
    → IsTable told d a → IsTable told d b → a ≡ b
one_rows one told d a b x y =
    x.2 ∙ ap (λ (tuples : Result (List (List Value)) BindFault). and_then tuples (rows_read d))
    (one told d.document.name (columns_of d) x.0 y.0 x.1 y.1) ∙ sym y.2

-- so does a declaration, refused or not
one_outcome : OneTable → (told : List (List ℕ × List ℕ)) (d : Declared) (fault : Option BindFault)
    (a b : Result Relation BindFault)
    → MatchOption fault (IsRead told d a) (λ f. a ≡ Err f) → MatchOption fault (IsRead told d b) (λ f. b ≡ Err f) → a ≡ b
one_outcome one told d None a b x y =
    x.2 ∙ ap (λ (t : Result TableRows BindFault). and_then t (λ rows. Ok (relation_of d rows)))
    (one_rows one told d x.0 y.0 x.1 y.1) ∙ sym y.2
one_outcome one told d (Some fault) a b x y = x ∙ sym y

pub one_declared : OneTable → (told : List (List ℕ × List ℕ)) (taken : List (List ℕ)) (d : Declared)
    (a b : Result Relation BindFault)
    → IsDeclared told taken d a → IsDeclared told taken d b → a ≡ b
one_declared one told taken d a b x y = one_outcome one told d (head_fault taken d) a b x y
