-- The text of golden records, and what they come to.
use Rattle.std.specs.Prelude.{◌+◌, ℕ, List, [], ◌∷◌, ◌++◌, Option, None, Some, codes, map}
use Rattle.command_stages.specs.declared.done.Done.{Done}
use Rattle.command_stages.specs.declared.done.Ending.TheVariants as ending
use Rattle.currency_base.specs.declared.value.Value.{Value}
use Rattle.denial_rules.specs.Instances.{field_value}
use Rattle.golden_values.specs.declared.field.Field.{Field}
use Rattle.golden_values.specs.declared.field.Field.TheVariants as field
use Rattle.golden_values.specs.declared.field.Golden.{Golden}
use Rattle.golden_values.specs.declared.field.Golden.TheVariants as golden
use Rattle.golden_values.specs.declared.field.Posed.{Posed}
use Rattle.golden_values.specs.declared.field.Posed.TheVariants as posed
use Rattle.fact_write.specs.Open.{open_text}
use Rattle.log_write.specs.Pieces.{symbol, word}
use Rattle.record_text.specs.Fields.{value_bytes}
use Rattle.record_text.specs.Text.{records_text}
use Rattle.report_model.specs.declared.report.Report.{Report}
use Rattle.posed_facts.specs.declared.fact.Fact.{Fact}
use Rattle.report_write.specs.Pieces.{name}
use Rattle.spec_model.specs.declared.relation.Attr.{Attr}
use Rattle.spec_model.specs.declared.relation.Relation.{Relation}
use Rattle.currency_base.specs.declared.row.Row.{Row}
use Rattle.text_write.specs.Pieces.{Piece, text_of}
use Rattle.spec_model.specs.Spec.{Spec}

-- ---- records

-- a value that may not be there
abbrev pub bytes_of : Option Value → List ℕ
bytes_of None = []
bytes_of (Some v) = value_bytes v

-- the field of an attribute: the value of the row; empty where two are possible
abbrev pub field_bytes : List Row → ℕ → Field → List ℕ
field_bytes rows attr (field.Value row) = bytes_of (field_value rows (Some row) attr)
field_bytes rows attr field.Open = []

-- the fields of the attributes from one on
abbrev pub fields_from : List Row → ℕ → List Field → List (List ℕ)
fields_from rows attr [] = []
fields_from rows attr (f ∷ fields) = field_bytes rows attr f ∷ fields_from rows (attr + 1) fields

-- the name of an attribute of which two values are possible
abbrev pub open_name : List ℕ → Field → List Piece
open_name attr (field.Value row) = []
open_name attr field.Open = name attr

-- the names of those among attributes
abbrev pub open_names : List Attr → List Field → List Piece
open_names (a ∷ attrs) (f ∷ fields) = open_name a.name f ++ open_names attrs fields
open_names attrs fields = []

-- the record of an entity: its name, its fields, and the names of the attributes of which two values are possible
abbrev pub record_of : Relation → List ℕ → List Field → List (List ℕ)
record_of r entity fields = entity ∷ (fields_from r.rows 0 fields ++ text_of (open_names r.attrs fields) ∷ [])

-- the records of entities
abbrev pub records_of : Relation → List (List ℕ) → List (List Field) → List (List (List ℕ))
records_of r (entity ∷ entities) (fields ∷ table) = record_of r entity fields ∷ records_of r entities table
records_of r entities table = []

-- the header: the name of the entity column, those of the attributes, and `open`
abbrev pub header_of : List ℕ → Relation → List (List ℕ)
header_of column r = column ∷ (map (λ a. a.name) r.attrs ++ codes "open" ∷ [])

-- the text of all records of a relation
abbrev pub golden_text : List ℕ → Relation → List (List Field) → List ℕ
golden_text column r table = records_text (header_of column r ∷ records_of r r.entities table)

-- ---- what is told besides

-- the text that there is no consistent completion, which is that of a brief report
abbrev pub inconsistent_pieces : List Piece
inconsistent_pieces = word (codes "currency") ++ word (codes "brief") ++ word (codes "2") ++ symbol (codes ";")
    ++ word (codes "verdict") ++ word (codes "inconsistent") ++ symbol (codes ";") ++ word (codes "end") ++ symbol (codes ";")

abbrev pub inconsistent_text : List ℕ
inconsistent_text = text_of inconsistent_pieces

-- the fact on whose question a budget was spent, if it was not whether there is a consistent completion
abbrev pub posed_fact : Posed → Option Fact
posed_fact posed.Consistent = None
posed_fact (posed.Fact f) = Some f

-- the text where the budget is spent: the question, the report that says so, and the end
abbrev pub undecided_text : Spec → Posed → Report → List ℕ
undecided_text s p report = open_text s.relations (posed_fact p) report

-- ---- what it comes to

abbrev pub golden_done : Spec → List ℕ → Relation → Golden → Done
golden_done s column r (golden.Records table) = record { text = golden_text column r table; ending = ending.Tabled }
golden_done s column r golden.Inconsistent = record { text = inconsistent_text; ending = ending.Inconsistent }
golden_done s column r (golden.Undecided p report) = record { text = undecided_text s p report; ending = ending.Open }
