-- The text of what may hold, and what it comes to.
use Rattle.std.specs.Prelude.{◌+◌, ℕ, Bool, true, false, List, [], ◌∷◌, ◌++◌, Option, None, Some, codes}
use Rattle.std.specs.Fmt.{decimal}
use Rattle.command_stages.specs.declared.done.Done.{Done}
use Rattle.command_stages.specs.declared.done.Ending.TheVariants as ending
use Rattle.fact_write.specs.Open.{open_text}
use Rattle.fact_write.specs.Pieces.{constant_pieces, fact_pieces}
use Rattle.item_write.specs.Pieces.{head_pieces}
use Rattle.log_write.specs.Pieces.{label_pieces, symbol, word}
use Rattle.posed_facts.specs.Questions.{claim_name, claim_value}
use Rattle.posed_facts.specs.declared.fact.Fact.{Fact}
use Rattle.possible_values.specs.declared.candidates.Candidate.{Candidate}
use Rattle.possible_values.specs.declared.candidates.Candidate.TheVariants as candidate
use Rattle.possible_values.specs.declared.found.Found.{Found}
use Rattle.possible_values.specs.declared.found.Posed.{Posed}
use Rattle.possible_values.specs.declared.found.Posed.TheVariants as posed
use Rattle.refutation_log.specs.declared.step.Label.TheVariants as label
use Rattle.report_model.specs.declared.report.Report.{Report}
use Rattle.report_write.specs.Pieces.{attribute_pieces, brief_pieces, completions_pieces, name, report_pieces, row_pieces}
use Rattle.decided_facts.specs.declared.shown.Shown.{Shown}
use Rattle.decided_facts.specs.declared.shown.Shown.TheVariants as shown
use Rattle.spec_model.specs.Spec.{Spec}
use Rattle.spec_model.specs.declared.relation.Relation.{Relation}
use Rattle.text_write.specs.Pieces.{Piece, text_of, word_piece}

-- ---- candidates

-- the name of the entity of a claim's row, if it is there
abbrev pub entity_name : Option (List ℕ) → List Piece
entity_name None = []
entity_name (Some bytes) = name bytes

-- "before" REL "." ATTR ":" ROW "<" ROW, or "value" REL "." ATTR "of" ENTITY "=" CONSTANT, or "match" and what a label has
abbrev pub candidate_pieces : List Relation → Candidate → List Piece
candidate_pieces relations (candidate.Pair p) =
    word (codes "before") ++ attribute_pieces relations p.rel.0 p.pair.attr.0 ++ symbol (codes ":")
    ++ row_pieces relations p.rel.0 p.pair.earlier ++ symbol (codes "<") ++ row_pieces relations p.rel.0 p.pair.later
candidate_pieces relations (candidate.Value p) =
    word (codes "value") ++ attribute_pieces relations p.rel.0 p.attr.0 ++ word (codes "of")
    ++ entity_name (claim_name relations p) ++ symbol (codes "=") ++ constant_pieces (claim_value relations p)
candidate_pieces relations (candidate.Match m) = label_pieces (label.Match m.disjunct m.entities m.values)

-- "possible" CANDIDATE "by" COMPLETION ";", the completions being counted from 1
abbrev pub possible_pieces : List Relation → Candidate → ℕ → List Piece
possible_pieces relations one place =
    word (codes "possible") ++ candidate_pieces relations one ++ word (codes "by")
    ++ (word_piece (decimal (place + 1)) ∷ symbol (codes ";"))

-- "impossible" CANDIDATE ";"
abbrev pub impossible_pieces : List Relation → Candidate → List Piece
impossible_pieces relations one = word (codes "impossible") ++ candidate_pieces relations one ++ symbol (codes ";")

-- ---- findings

-- the question that asks whether a candidate does not hold, and the report that shows that it never does
abbrev pub counter_text : List Relation → Fact → Report → List ℕ
counter_text relations f report =
    text_of (word (codes "question") ++ fact_pieces relations f) ++ text_of (report_pieces relations report)

-- the findings of candidates, with these reports for those that are impossible
abbrev pub whole_findings : List Relation → List Candidate → List Fact → List Shown → List Report → List ℕ
whole_findings relations (one ∷ candidates) (f ∷ facts) (shown.FailsIn place ∷ list) reports =
    text_of (possible_pieces relations one place) ++ whole_findings relations candidates facts list reports
whole_findings relations (one ∷ candidates) (f ∷ facts) (shown.Holds ∷ list) (report ∷ reports) =
    text_of (impossible_pieces relations one)
    ++ (counter_text relations f report ++ whole_findings relations candidates facts list reports)
whole_findings relations candidates facts list reports = []

-- the findings alone
abbrev pub brief_findings : List Relation → List Candidate → List Shown → List ℕ
brief_findings relations (one ∷ candidates) (shown.FailsIn place ∷ list) =
    text_of (possible_pieces relations one place) ++ brief_findings relations candidates list
brief_findings relations (one ∷ candidates) (shown.Holds ∷ list) =
    text_of (impossible_pieces relations one) ++ brief_findings relations candidates list
brief_findings relations candidates list = []

-- ---- texts

-- the head of a brief text
abbrev pub brief_head : List Piece
brief_head = word (codes "currency") ++ word (codes "possible") ++ word (codes "brief") ++ word (codes "1") ++ symbol (codes ";")

abbrev pub whole_text : Spec → Found → List Report → List ℕ
whole_text s f reports =
    text_of (head_pieces (codes "possible") ++ completions_pieces s.relations f.completions)
    ++ (whole_findings s.relations f.candidates f.facts f.shown reports ++ codes "end;\n")

abbrev pub brief_text : Spec → Found → List ℕ
brief_text s f =
    text_of (brief_head ++ completions_pieces s.relations f.completions)
    ++ (brief_findings s.relations f.candidates f.shown ++ codes "end;\n")

-- the fact on whose question a budget was spent, if it was not whether there is a consistent completion
abbrev pub posed_fact : Posed → Option Fact
posed_fact posed.Consistent = None
posed_fact (posed.Fact f) = Some f

-- the text where the budget is spent: the question, the report that says so, and the end
abbrev pub undecided_text : Spec → Posed → Report → List ℕ
undecided_text s p report = open_text s.relations (posed_fact p) report

-- the text that there is no consistent completion
abbrev pub inconsistent_text : Spec → Bool → Report → List ℕ
inconsistent_text s true report = text_of (brief_pieces s.relations report)
inconsistent_text s false report = text_of (report_pieces s.relations report)

-- ---- what it comes to

abbrev pub decided : List ℕ → Done
decided text = record { text = text; ending = ending.Decided }

abbrev pub undecided : List ℕ → Done
undecided text = record { text = text; ending = ending.Undecided }
