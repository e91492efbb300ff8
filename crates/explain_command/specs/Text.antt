-- The text of an explanation, and what an explanation comes to.
use Rattle.std.specs.Prelude.{ℕ, List, [], ◌∷◌, ◌++◌, Option, None, Some, Result, Ok, Err, codes}
use Rattle.std.specs.Fmt.{decimal}
use Rattle.command_stages.specs.declared.done.Done.{Done}
use Rattle.command_stages.specs.declared.done.Ending.TheVariants.{Decided, Undecided}
use Rattle.command_stages.specs.declared.trouble.Trouble.{Trouble}
use Rattle.command_stages.specs.declared.trouble.Trouble.TheVariants as trouble
use Rattle.core_explain.specs.declared.explaining.Explained.{Explained}
use Rattle.core_explain.specs.declared.explaining.Explained.TheVariants as explained
use Rattle.item_write.specs.Pieces.{head_pieces, item_pieces, spent_text}
use Rattle.log_write.specs.Pieces.{many_pieces, symbol, word}
use Rattle.minimal_items.specs.declared.needed.Needed.{Needed}
use Rattle.report_model.specs.declared.report.Report.{Report}
use Rattle.report_write.specs.Pieces.{brief_pieces, completion_pieces, differing}
use Rattle.spec_items.specs.Items.{items_of}
use Rattle.spec_model.specs.Completion.{Rankings}
use Rattle.spec_model.specs.Spec.{Spec}
use Rattle.text_write.specs.Pieces.{Piece, text_of, word_piece}

-- "explains" N ";", or "explains" "inconsistent" ";"
abbrev pub explains_pieces : Option ℕ → List Piece
explains_pieces None = word (codes "explains") ++ word (codes "inconsistent") ++ symbol (codes ";")
explains_pieces (Some n) = word (codes "explains") ++ (word_piece (decimal n) ∷ symbol (codes ";"))

-- a needed item, and the rankings of a completion without it that differ from those of this one
abbrev pub later_pieces : Spec → Rankings → Needed → List Piece
later_pieces s first n = item_pieces s n.item ++ completion_pieces s.relations (differing first n.without)

-- needed items: the first with a whole completion without it, and each later one with what differs from that
abbrev pub needed_pieces : Spec → List Needed → List Piece
needed_pieces s [] = []
needed_pieces s (n ∷ more) =
    item_pieces s n.item ++ completion_pieces s.relations n.without ++ many_pieces (later_pieces s n.without) more

-- an explanation of the unit of this number, or of inconsistency
abbrev pub explanation_pieces : Spec → Option ℕ → List Needed → List Piece
explanation_pieces s what needed =
    head_pieces (codes "explanation") ++ explains_pieces what ++ needed_pieces s needed ++ word (codes "end")
    ++ symbol (codes ";")

-- the text where the budget is spent on the question itself: all items, and the report
abbrev pub undecided_text : Spec → Report → List ℕ
undecided_text s report = spent_text (codes "explanation") s (items_of s) s.relations report

-- what is told of what explains a unit, which is counted from 1; where the query has too many answers, nothing is
abbrev pub explained_text : Spec → ℕ → Explained → List ℕ
explained_text s unit (explained.Inconsistent needed) = text_of (explanation_pieces s None needed)
explained_text s unit (explained.Unit needed) = text_of (explanation_pieces s (Some unit) needed)
explained_text s unit (explained.NoUnit report) = text_of (brief_pieces s.relations report)
explained_text s unit (explained.TooMany c) = []
explained_text s unit (explained.Undecided report) = undecided_text s report
explained_text s unit (explained.Open spent) =
    spent_text (codes "explanation") s spent.items spent.part.relations spent.report

-- what a question comes to that is decided, or not, with this text
abbrev pub decided : List ℕ → Result Done Trouble
decided text = Ok (record { text = text; ending = Decided })

abbrev pub undecided : List ℕ → Result Done Trouble
undecided text = Ok (record { text = text; ending = Undecided })

-- what it comes to that this explains a unit
abbrev pub explained_done : Spec → ℕ → Explained → Result Done Trouble
explained_done s unit (explained.Inconsistent needed) = decided (explained_text s unit (explained.Inconsistent needed))
explained_done s unit (explained.Unit needed) = decided (explained_text s unit (explained.Unit needed))
explained_done s unit (explained.NoUnit report) = decided (explained_text s unit (explained.NoUnit report))
explained_done s unit (explained.TooMany c) = Err (trouble.Limit 3)
explained_done s unit (explained.Undecided report) = undecided (explained_text s unit (explained.Undecided report))
explained_done s unit (explained.Open spent) = undecided (explained_text s unit (explained.Open spent))
