-- The table of possible answers, and what is told besides.
use Rattle.std.specs.Prelude.{ℕ, List, [], ◌∷◌, ◌++◌, Option, None, Some, codes, if◌then◌else◌, map}
use Rattle.answer_tables.specs.Records.{head_names, tuple_fields}
use Rattle.currency_base.specs.declared.value.Value.{Value}
use Rattle.fact_write.specs.Open.{open_text}
use Rattle.posed_facts.specs.declared.fact.Fact.{Fact}
use Rattle.possible_answers.specs.Distinct.{is_among}
use Rattle.possible_values.specs.declared.found.Posed.{Posed}
use Rattle.possible_values.specs.declared.found.Posed.TheVariants as posed
use Rattle.query_syntax.specs.declared.trees.QueryTree.{QueryTree}
use Rattle.record_text.specs.Text.{records_text}
use Rattle.report_model.specs.declared.report.Report.{Report}
use Rattle.spec_model.specs.Spec.{Spec}

-- whether a tuple is among the certain ones
abbrev pub certain_word : List (List Value) → List Value → List ℕ
certain_word certain tuple = if is_among certain tuple then codes "yes" else codes "no"

-- the record of a tuple: its values, and whether it is certain
abbrev pub row_of : List (List Value) → List Value → List (List ℕ)
row_of certain tuple = tuple_fields tuple ++ certain_word certain tuple ∷ []

-- the table: the names of the head's variables and `certain`, and a record for each tuple
abbrev pub possible_text : QueryTree → List (List Value) → List (List Value) → List ℕ
possible_text query certain tuples =
    records_text ((head_names query ++ codes "certain" ∷ []) ∷ map (row_of certain) tuples)

-- the fact on whose question a budget was spent, if it was not whether there is a consistent completion
abbrev pub posed_fact : Posed → Option Fact
posed_fact posed.Consistent = None
posed_fact (posed.Fact f) = Some f

-- the text where the budget is spent on a match: the question, the report that says so, and the end
abbrev pub undecided_text : Spec → Posed → Report → List ℕ
undecided_text s p report = open_text s.relations (posed_fact p) report
