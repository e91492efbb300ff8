-- The text where a budget is spent on the question for a fact, or on whether there is a consistent completion.
use Rattle.std.specs.Prelude.{ℕ, List, ◌++◌, Option, Some, None, codes}
use Rattle.item_write.specs.Pieces.{head_pieces}
use Rattle.log_write.specs.Pieces.{symbol, word}
use Rattle.posed_facts.specs.declared.fact.Fact.{Fact}
use Rattle.report_model.specs.declared.report.Report.{Report}
use Rattle.report_write.specs.Pieces.{report_pieces}
use Rattle.spec_model.specs.declared.relation.Relation.{Relation}
use Rattle.text_write.specs.Pieces.{Piece, text_of}
use Rattle.fact_write.specs.Pieces.{fact_pieces}

-- the question for a fact, or, for none, "consistent" ";"
abbrev pub posed_pieces : List Relation → Option Fact → List Piece
posed_pieces relations None = word (codes "consistent") ++ symbol (codes ";")
posed_pieces relations (Some f) = fact_pieces relations f

-- the head of the text, the word "question", and the question on which the budget was spent
abbrev pub question_pieces : List Relation → Option Fact → List Piece
question_pieces relations f = head_pieces (codes "possible") ++ word (codes "question") ++ posed_pieces relations f

-- the text: the question, the report that says so, and the end
abbrev pub open_text : List Relation → Option Fact → Report → List ℕ
open_text relations f report =
    text_of (question_pieces relations f) ++ (text_of (report_pieces relations report) ++ codes "end;\n")
