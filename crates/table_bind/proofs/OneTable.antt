-- Documents, a name and columns have one outcome, where a text has one list of records.
use Rattle.std.proofs.Common.{◌≡◌, ◌∙◌, ℕ, List, Result, inl, inr, sym, ap, arith}
use Rattle.currency_base.specs.declared.value.Value.{Value}
use Rattle.currency_csv.specs.Table.{AreRecordsOf, table_of}
use Rattle.currency_csv.specs.declared.table.Column.{Column}
use Rattle.bind_faults.specs.declared.fault.BindFault.{BindFault}
use Rattle.table_bind.specs.Tuples.{AreTuples, tuples_read}

-- each text has one list of records
abbrev pub OneList : Type 0
OneList = (bytes : List ℕ) (a b : List (List (List ℕ))) → AreRecordsOf bytes a → AreRecordsOf bytes b → a ≡ b

-- a table gives one answer
pub one_outcome : OneList → (told : List (List ℕ × List ℕ)) (name : List ℕ) (columns : List Column)
    (a b : Result (List (List Value)) BindFault)
    → AreTuples told name columns a → AreTuples told name columns b → a ≡ b
unfolding AreTuples
one_outcome one told name columns a b (inl x) (inl y) = x.1 ∙ sym y.1
one_outcome one told name columns a b (inl x) (inr y) = absurd (omega (arith, x.0, y.0))
one_outcome one told name columns a b (inr x) (inl y) = absurd (omega (arith, x.0, y.0))
one_outcome one told name columns a b (inr x) (inr y) =
    x.3 ∙ ap (λ records. tuples_read name (table_of columns records)) (one _ x.1 y.1 x.2 y.2) ∙ sym y.3
