-- The verdict that a report's first clauses say, or their first refusal.
use Rattle.std.specs.Prelude.{ℕ, List, [], ◌∷◌, map, Option, Some, None, Result, Ok, Err}
use Rattle.currency_base.specs.declared.error_code.ErrorCode.TheVariants.{UnknownName, UnknownRow}
use Rattle.currency_base.specs.declared.ids.RowId.{RowId}
use Rattle.spec_model.specs.declared.relation.Relation.{Relation}
use Rattle.text_grammar.specs.declared.named.Named.{Named}
use Rattle.report_model.specs.declared.verdict.Current.{Current}
use Rattle.report_model.specs.declared.verdict.Verdict.{Verdict}
use Rattle.report_model.specs.declared.verdict.Verdict.TheVariants as verdict
use Rattle.report_syntax.specs.declared.tree.ClaimTree.{ClaimTree}
use Rattle.report_syntax.specs.declared.tree.ClaimTree.TheVariants.{Inconsistent, Consistent, Certain, NotCertain, Same, NotSame, Answers, Undecided}
use Rattle.report_syntax.specs.declared.tree.CurrentTree.{CurrentTree}
use Rattle.currency_report.specs.Outcomes.{and_then}
use Rattle.currency_report.specs.Places.{AttrPlace, EntityPlace, Place, attr_named, entity_named, place_named, row_named}
use Rattle.currency_report.specs.declared.report.ReportFault.{ReportFault}
use Rattle.currency_report.specs.declared.report.ReportFault.TheVariants.{Refused}

-- the pair of two rows of an attribute, where both are there
abbrev pub pair_of : ℕ → AttrPlace → Option RowId → Option RowId → Result Verdict ReportFault
pair_of line a (Some earlier) (Some later) = Ok (verdict.NotCertain record {
  rel = record { 0 = a.rel };
  pair = record { attr = record { 0 = a.attr }; earlier = earlier; later = later };
})
pair_of line a earlier later = Err (Refused UnknownRow line)

-- `not certain`: the attribute is there, then the rows
abbrev pub pair_said : ℕ → Named → Named → Option AttrPlace → Result Verdict ReportFault
pair_said line earlier later None = Err (Refused UnknownName line)
pair_said line earlier later (Some a) = pair_of line a (row_named a.relation earlier) (row_named a.relation later)

-- `not same`: the place is there
abbrev pub place_said : ℕ → Option Place → Result Verdict ReportFault
place_said line None = Err (Refused UnknownName line)
place_said line (Some p) = Ok (verdict.NotSame (record { 0 = p.rel }) (record { 0 = p.attr }) (record { 0 = p.ent }))

-- `current`: the entity is there
abbrev pub current_said : CurrentTree → Option EntityPlace → Result Current ReportFault
current_said t None = Err (Refused UnknownName t.line)
current_said t (Some e) = Ok record { rel = record { 0 = e.rel }; ent = record { 0 = e.ent }; values = t.values }

-- the current tuples that these clauses say, or the first refusal
abbrev pub currents_said : List Relation → List CurrentTree → Result (List Current) ReportFault
currents_said relations [] = Ok []
currents_said relations (t ∷ ts) =
    and_then (current_said t (entity_named relations t.relation t.entity))
    (λ item. and_then (currents_said relations ts) (λ items. Ok (item ∷ items)))

-- the verdict that a claim says, which stands on a line with the items after it
abbrev pub claim_said : List Relation → ℕ → ClaimTree → Result Verdict ReportFault
claim_said relations line Inconsistent = Ok verdict.Inconsistent
claim_said relations line Consistent = Ok verdict.Consistent
claim_said relations line Certain = Ok verdict.Certain
claim_said relations line (NotCertain relation attr earlier later) = pair_said line earlier later
    (attr_named relations relation attr)
claim_said relations line (Same items) = and_then (currents_said relations items) (λ items. Ok (verdict.Same items))
claim_said relations line (NotSame relation attr entity) = place_said line (place_named relations relation attr entity)
claim_said relations line (Answers items) = Ok (verdict.Answers (map (λ t. t.values) items))
claim_said relations line (Undecided counted) = Ok (verdict.Undecided counted)

-- the lines of a claim's items
abbrev pub item_lines : ClaimTree → List ℕ
item_lines (Same items) = map (λ t. t.line) items
item_lines (Answers items) = map (λ t. t.line) items
item_lines claim = []
