-- The completions that a report's rankings say, or the first ranking that says none.
use Rattle.std.specs.Prelude.{Bool, true, false, List, [], ◌∷◌, Option, Some, None, Result, Ok, Err, if◌then◌else◌}
use Rattle.currency_base.specs.declared.error_code.ErrorCode.{ErrorCode}
use Rattle.currency_base.specs.declared.error_code.ErrorCode.TheVariants.{UnknownName, DuplicateName, UnknownRow}
use Rattle.currency_base.specs.declared.ids.RowId.{RowId}
use Rattle.completion_fill.specs.Filled.{filled}
use Rattle.spec_model.specs.Blank.{blank_of}
use Rattle.spec_model.specs.Completion.{Rankings, ranking_of, with_ranking}
use Rattle.spec_model.specs.declared.relation.Relation.{Relation}
use Rattle.report_syntax.specs.declared.tree.RankingTree.{RankingTree}
use Rattle.report_syntax.specs.declared.tree.CompletionTree.{CompletionTree}
use Rattle.report_syntax.specs.declared.tree.Version.{Version}
use Rattle.report_syntax.specs.declared.tree.Version.TheVariants.{First, Second}
use Rattle.currency_report.specs.Outcomes.{and_then}
use Rattle.currency_report.specs.Places.{Place, place_named, rows_named}
use Rattle.currency_report.specs.declared.report.ReportFault.{ReportFault}
use Rattle.currency_report.specs.declared.report.ReportFault.TheVariants.{Refused}

-- the list has a row
abbrev pub is_ranked : List RowId → Bool
is_ranked [] = false
is_ranked (row ∷ rows) = true

-- the refusal of a ranking
abbrev pub refused_at : ErrorCode → RankingTree → ReportFault
refused_at code t = Refused code t.line

-- the rankings with the rows of a ranking at its place
abbrev pub with_rows : Rankings → RankingTree → Place → Option (List RowId) → Result Rankings ReportFault
with_rows c t p None = Err (refused_at UnknownRow t)
with_rows c t p (Some rows) = Ok (with_ranking c p.rel p.attr p.ent rows)

-- the same, where the place is not ranked yet; a ranking names one row or more, so a place with a row is ranked
abbrev pub with_ranking_at : Rankings → RankingTree → Option Place → Result Rankings ReportFault
with_ranking_at c t None = Err (refused_at UnknownName t)
with_ranking_at c t (Some p) =
    if is_ranked (ranking_of c p.rel p.attr p.ent) then Err (refused_at DuplicateName t)
    else with_rows c t p (rows_named p.relation t.rows)

-- the rankings with one more, or its refusal: an unknown relation, attribute or entity, then a place that is ranked
-- already, then an unknown row
abbrev pub ranked_with : List Relation → Rankings → RankingTree → Result Rankings ReportFault
ranked_with relations c t = with_ranking_at c t (place_named relations t.relation t.attr t.entity)

-- the rankings with all of these, or the first refusal
abbrev pub ranked_by : List Relation → List RankingTree → Rankings → Result Rankings ReportFault
ranked_by relations [] c = Ok c
ranked_by relations (t ∷ ts) c = and_then (ranked_with relations c t) (ranked_by relations ts)

-- the completion that a report lists: the empty list at each place that it does not rank
unfoldable pub completed : List Relation → CompletionTree → Result Rankings ReportFault
completed relations t = ranked_by relations t.rankings (blank_of relations)

-- a later completion: in the second version, the first one's list at each place that it does not rank
abbrev pub later_completed : Version → List Relation → Rankings → CompletionTree → Result Rankings ReportFault
later_completed First relations first t = completed relations t
later_completed Second relations first t = and_then (completed relations t) (λ c. Ok (filled first c))

-- the later completions, or the first refusal
abbrev pub later_ones : Version → List Relation → Rankings → List CompletionTree → Result (List Rankings) ReportFault
later_ones version relations first [] = Ok []
later_ones version relations first (t ∷ ts) =
    and_then (later_completed version relations first t)
    (λ c. and_then (later_ones version relations first ts) (λ cs. Ok (c ∷ cs)))

-- the completions that a report lists, or the first refusal
abbrev pub all_completed : Version → List Relation → List CompletionTree → Result (List Rankings) ReportFault
all_completed version relations [] = Ok []
all_completed version relations (t ∷ ts) =
    and_then (completed relations t)
    (λ first. and_then (later_ones version relations first ts) (λ cs. Ok (first ∷ cs)))
