-- The tree of a report that is written, and trees without their lines: every line is 0.
use Rattle.std.specs.Prelude.{ℕ, ◌+◌, List, [], ◌∷◌, ◌++◌, map, slice_get, slice_index_or}
use Rattle.currency_base.specs.declared.ids.RowId.{RowId}
use Rattle.spec_model.specs.Completion.{Rankings}
use Rattle.spec_model.specs.declared.relation.Relation.{Relation}
use Rattle.text_grammar.specs.declared.named.Named.{Named}
use Rattle.log_syntax.specs.declared.trees.ReadLog.{ReadLog}
use Rattle.report_model.specs.declared.report.Report.{Report}
use Rattle.report_model.specs.declared.verdict.Current.{Current}
use Rattle.report_model.specs.declared.verdict.Verdict.{Verdict}
use Rattle.report_model.specs.declared.verdict.Verdict.TheVariants as verdict
use Rattle.report_syntax.specs.declared.tree.AnswerTree.{AnswerTree}
use Rattle.report_syntax.specs.declared.tree.ClaimTree.{ClaimTree}
use Rattle.report_syntax.specs.declared.tree.ClaimTree.TheVariants.{Inconsistent, Consistent, Certain, NotCertain, Same, NotSame, Answers, Undecided}
use Rattle.report_syntax.specs.declared.tree.CompletionTree.{CompletionTree}
use Rattle.report_syntax.specs.declared.tree.CurrentTree.{CurrentTree}
use Rattle.report_syntax.specs.declared.tree.RankingTree.{RankingTree}
use Rattle.report_syntax.specs.declared.tree.ReportTree.{ReportTree}
use Rattle.report_syntax.specs.declared.tree.Version.TheVariants.{Second}
use Rattle.report_write.specs.Pieces.{attr_names, entity_names, row_names, differing}

-- ---- trees without lines

-- a name
abbrev pub unlined_name : Named → Named
unlined_name n = record { name = n.name; line = 0 }

-- a current tuple
abbrev pub unlined_current : CurrentTree → CurrentTree
unlined_current t = record { line = 0; relation = unlined_name t.relation; entity = unlined_name t.entity; values = t.values }

-- an answer
abbrev pub unlined_answer : AnswerTree → AnswerTree
unlined_answer t = record { line = 0; values = t.values }

-- a claim
abbrev pub unlined_claim : ClaimTree → ClaimTree
unlined_claim Inconsistent = Inconsistent
unlined_claim Consistent = Consistent
unlined_claim Certain = Certain
unlined_claim (NotCertain relation attr earlier later) =
    NotCertain (unlined_name relation) (unlined_name attr) (unlined_name earlier) (unlined_name later)
unlined_claim (Same items) = Same (map unlined_current items)
unlined_claim (NotSame relation attr entity) = NotSame (unlined_name relation) (unlined_name attr) (unlined_name entity)
unlined_claim (Answers items) = Answers (map unlined_answer items)
unlined_claim (Undecided counted) = Undecided counted

-- a ranking
abbrev pub unlined_ranking : RankingTree → RankingTree
unlined_ranking t = record {
  line = 0;
  relation = unlined_name t.relation;
  attr = unlined_name t.attr;
  entity = unlined_name t.entity;
  rows = map unlined_name t.rows;
}

-- a completion
abbrev pub unlined_completion : CompletionTree → CompletionTree
unlined_completion t = record { line = 0; rankings = map unlined_ranking t.rankings }

-- a log
abbrev pub unlined_log : ReadLog → ReadLog
unlined_log r = record { log = r.log; statements = []; steps = [] }

-- a report
abbrev pub unlined_report : ReportTree → ReportTree
unlined_report t = record {
  version = t.version;
  verdict = record { line = 0; claim = unlined_claim t.verdict.claim };
  completions = map unlined_completion t.completions;
  log = unlined_log t.log;
}

-- ---- the tree of a report

-- a name, on no line
abbrev pub name_tree : List ℕ → Named
name_tree bytes = record { name = bytes; line = 0 }

-- the name of a relation
abbrev pub relation_tree : List Relation → ℕ → Named
relation_tree relations rel = name_tree (slice_index_or (map (λ r. r.name) relations) rel [])

-- the name of an attribute of a relation
abbrev pub attr_tree : List Relation → ℕ → ℕ → Named
attr_tree relations rel attr = name_tree (slice_index_or (attr_names (slice_get relations rel)) attr [])

-- the name of an entity of a relation
abbrev pub entity_tree : List Relation → ℕ → ℕ → Named
entity_tree relations rel ent = name_tree (slice_index_or (entity_names (slice_get relations rel)) ent [])

-- the name of a row of a relation
abbrev pub row_tree : List Relation → ℕ → RowId → Named
row_tree relations rel row = name_tree (slice_index_or (row_names (slice_get relations rel)) row.0 [])

-- an item of `same`
abbrev pub current_tree : List Relation → Current → CurrentTree
current_tree relations item = record {
  line = 0;
  relation = relation_tree relations item.rel.0;
  entity = entity_tree relations item.rel.0 item.ent.0;
  values = item.values;
}

-- a claim
abbrev pub claim_tree : List Relation → Verdict → ClaimTree
claim_tree relations verdict.Inconsistent = Inconsistent
claim_tree relations verdict.Consistent = Consistent
claim_tree relations verdict.Certain = Certain
claim_tree relations (verdict.NotCertain p) =
    NotCertain (relation_tree relations p.rel.0) (attr_tree relations p.rel.0 p.pair.attr.0)
    (row_tree relations p.rel.0 p.pair.earlier) (row_tree relations p.rel.0 p.pair.later)
claim_tree relations (verdict.Same items) = Same (map (current_tree relations) items)
claim_tree relations (verdict.NotSame rel attr ent) =
    NotSame (relation_tree relations rel.0) (attr_tree relations rel.0 attr.0) (entity_tree relations rel.0 ent.0)
claim_tree relations (verdict.Answers tuples) = Answers (map (λ tuple. record { line = 0; values = tuple }) tuples)
claim_tree relations (verdict.Undecided counted) = Undecided counted

-- the ranking of a place, as a list; a list with no row has none
abbrev pub ranking_trees : List Relation → ℕ → ℕ → ℕ → List RowId → List RankingTree
ranking_trees relations rel attr ent [] = []
ranking_trees relations rel attr ent (row ∷ rows) = record {
  line = 0;
  relation = relation_tree relations rel;
  attr = attr_tree relations rel attr;
  entity = entity_tree relations rel ent;
  rows = map (row_tree relations rel) (row ∷ rows);
} ∷ []

-- the rankings of an attribute of a relation, from an entity on
abbrev pub entity_trees : List Relation → ℕ → ℕ → ℕ → List (List RowId) → List RankingTree
entity_trees relations rel attr ent [] = []
entity_trees relations rel attr ent (list ∷ lists) =
    ranking_trees relations rel attr ent list ++ entity_trees relations rel attr (ent + 1) lists

-- the rankings of a relation, from an attribute on
abbrev pub attr_trees : List Relation → ℕ → ℕ → List (List (List RowId)) → List RankingTree
attr_trees relations rel attr [] = []
attr_trees relations rel attr (lists ∷ more) = entity_trees relations rel attr 0 lists ++ attr_trees relations rel (attr + 1) more

-- all rankings, from a relation on
abbrev pub rankings_trees : List Relation → ℕ → Rankings → List RankingTree
rankings_trees relations rel [] = []
rankings_trees relations rel (lists ∷ more) = attr_trees relations rel 0 lists ++ rankings_trees relations (rel + 1) more

-- a completion
abbrev pub completion_tree : List Relation → Rankings → CompletionTree
completion_tree relations c = record { line = 0; rankings = rankings_trees relations 0 c }

-- the first completion whole, and of each later one what differs from the first
abbrev pub completion_trees : List Relation → List Rankings → List CompletionTree
completion_trees relations [] = []
completion_trees relations (first ∷ more) =
    completion_tree relations first ∷ map (λ c. completion_tree relations (differing first c)) more

-- a report, in version 2
abbrev pub tree_of : List Relation → Report → ReportTree
tree_of relations r = record {
  version = Second;
  verdict = record { line = 0; claim = claim_tree relations r.verdict };
  completions = completion_trees relations r.completions;
  log = record { log = r.log; statements = []; steps = [] };
}
