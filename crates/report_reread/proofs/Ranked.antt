-- The rankings of a completion put its lists at its places, one after another.
use Rattle.std.proofs.Common.{◌≡◌, ◌∙◌, ◌<◌, ◌+◌, ℕ, suc, List, [], ◌∷◌, ◌++◌, append_assoc, map, length, get_or, set, replicate, Some, Result, Ok, Err, slice_get, All, refl, sym, ap, subst, arith}
use Rattle.std.proofs.lemmas.List.{get_or_at, set_at, length_push}
use Rattle.std.proofs.lemmas.List.Elements.{All-head, All-tail, All-from_get_or}
use Rattle.currency_base.specs.declared.ids.RowId.{RowId}
use Rattle.completion_fill.specs.Alike.{with_lists}
use Rattle.currency_report.specs.Completed.{ranked_with, ranked_by, completed}
use Rattle.currency_report.specs.Outcomes.{and_then}
use Rattle.currency_report.specs.Places.{Place, place_named, rows_named}
use Rattle.currency_report.specs.declared.report.ReportFault.{ReportFault}
use Rattle.report_reread.specs.Trees.{relation_tree, attr_tree, entity_tree, row_tree, ranking_trees, entity_trees, attr_trees, rankings_trees, completion_tree}
use Rattle.report_syntax.specs.declared.tree.RankingTree.{RankingTree}
use Rattle.spec_model.specs.Blank.{blank_lists, blank_rankings, blank_of}
use Rattle.spec_model.specs.Completion.{Rankings, HasShape, lists_of, ranking_of, with_ranking}
use Rattle.spec_model.specs.Facts.{AreRelations}
use Rattle.spec_model.specs.declared.relation.Relation.{Relation}
use Rattle.report_reread.proofs.Found.{place_found, rows_found}

-- ---- what a completion has at its places

-- the rows of a list are rows of a relation
abbrev AreRowsOf : Relation → List RowId → Type 0
AreRowsOf r list = All (λ row. row.0 < length r.rows) list

-- a list of rows of a relation for each entity
record AreListsOf (r : Relation) (lists : List (List RowId)) : Type 0 where
  many : length lists ≡ length r.entities
  rows : All (AreRowsOf r) lists

-- the same for each attribute
record AreRankingsOf (r : Relation) (attrs : List (List (List RowId))) : Type 0 where
  many : length attrs ≡ length r.attrs
  lists : All (AreListsOf r) attrs

-- the same for each relation
pub record AreOfRelations (relations : List Relation) (c : Rankings) : Type 0 where
  pub shape : HasShape relations c
  pub rows : (rel attr ent : ℕ) (r : Relation) → slice_get relations rel ≡ Some r
      → All (λ row. row.0 < length r.rows) (ranking_of c rel attr ent)

rankings_of : (relations : List Relation) (c : Rankings) → AreOfRelations relations c → (rel : ℕ) (r : Relation)
    → slice_get relations rel ≡ Some r
    → AreRankingsOf r (get_or c rel [])
rankings_of relations c are rel r at = record {
  many = are.shape.per_attr rel r at;
  lists = All-from_get_or (AreListsOf r) (get_or c rel []) []
      (λ attr below. record {
        many = are.shape.per_entity rel r at attr (omega (arith, are.shape.per_attr rel r at));
        rows = All-from_get_or (AreRowsOf r) (lists_of c rel attr) [] (λ ent _. are.rows rel attr ent r at);
      });
}

-- ---- one ranking

-- a step, and two steps after it
three_steps : (o : Result Rankings ReportFault) (both second third : Rankings → Result Rankings ReportFault)
    → ((c : Rankings) → both c ≡ and_then (second c) third) → and_then o both ≡ and_then (and_then o second) third
three_steps (Ok c) both second third same = same c
three_steps (Err fault) both second third same = refl

-- the rankings of two lists of trees, one after the other
ranked_append : (relations : List Relation) (ts us : List RankingTree) (c : Rankings)
    → ranked_by relations (ts ++ us) c ≡ and_then (ranked_by relations ts c) (ranked_by relations us)
ranked_append relations [] us c = refl
ranked_append relations (t ∷ ts) us c =
    three_steps (ranked_with relations c t) (ranked_by relations (ts ++ us)) (ranked_by relations ts) (ranked_by relations us)
    (ranked_append relations ts us)

-- the ranking of a place
abbrev ranking_tree : List Relation → ℕ → ℕ → ℕ → List RowId → RankingTree
ranking_tree relations rel attr ent rows = record {
  line = 0;
  relation = relation_tree relations rel;
  attr = attr_tree relations rel attr;
  entity = entity_tree relations rel ent;
  rows = map (row_tree relations rel) rows;
}

-- a ranking of a place that has no row yet
ranks : (relations : List Relation) (c : Rankings) (t : RankingTree) (p : Place) (rows : List RowId)
    → place_named relations t.relation t.attr t.entity ≡ Some p → ranking_of c p.rel p.attr p.ent ≡ []
    → rows_named p.relation t.rows ≡ Some rows
    → ranked_with relations c t ≡ Ok (with_ranking c p.rel p.attr p.ent rows)
ranks relations c t p rows named free found = rw (named, free, found) refl

-- rankings that have any lists at an attribute of a relation
record HasLists (rel attr : ℕ) (put : List (List RowId) → Rankings) : Type 0 where
  read : (lists : List (List RowId)) → lists_of (put lists) rel attr ≡ lists
  written : (lists others : List (List RowId)) → with_lists (put lists) rel attr others ≡ put others

-- the list of one entity, where those of the entities before it are put
list_ranked : (relations : List Relation) (rel attr ent : ℕ) (r : Relation) (put : List (List RowId) → Rankings)
    (front : List (List RowId))
    (list : List RowId) (rest : List (List RowId)) → AreRelations relations → slice_get relations rel ≡ Some r
    → attr < length r.attrs → ent < length r.entities
    → HasLists rel attr put → length front ≡ ent → AreRowsOf r list
    → ranked_by relations (ranking_trees relations rel attr ent list) (put (front ++ [] ∷ rest)) ≡ Ok (put (front ++ list ∷ rest))
list_ranked relations rel attr ent r put front [] rest are at in_attrs in_entities hole before rows = refl
list_ranked relations rel attr ent r put front (row ∷ list) rest are at in_attrs in_entities hole before rows =
    let now = put (front ++ [] ∷ rest) in
    let free : ranking_of now rel attr ent ≡ [] =
    ap (λ (lists : List (List RowId)). get_or lists ent []) (hole.read (front ++ [] ∷ rest)) ∙ get_or_at front []
    rest [] ent before in
    let ranked = ranks relations now (ranking_tree relations rel attr ent (row ∷ list))
    (record { relation = r; rel = rel; attr = attr; ent = ent }) (row ∷ list)
    (place_found relations rel attr ent r are at in_attrs in_entities)
    free (rows_found relations rel (row ∷ list) r are at rows) in
    let put_here : with_ranking now rel attr ent (row ∷ list) ≡ put (front ++ (row ∷ list) ∷ rest) =
    ap (λ (lists : List (List RowId)). with_lists now rel attr (set lists ent (row ∷ list))) (hole.read (front ++ [] ∷ rest))
    ∙ hole.written (front ++ [] ∷ rest) (set (front ++ [] ∷ rest) ent (row ∷ list))
    ∙ ap put (set_at front [] rest (row ∷ list) ent before) in
    rw (ranked, put_here) refl

-- ---- all of them

-- the lists of one attribute
lists_ranked : (relations : List Relation) (rel attr ent : ℕ) (r : Relation) (put : List (List RowId) → Rankings)
    (front lists : List (List RowId))
    → AreRelations relations → slice_get relations rel ≡ Some r → attr < length r.attrs → ent + length lists ≡ length r.entities
    → HasLists rel attr put → length front ≡ ent → All (AreRowsOf r) lists
    → ranked_by relations (entity_trees relations rel attr ent lists) (put (front ++ replicate (length lists) [])) ≡
    Ok (put (front ++ lists))
lists_ranked relations rel attr ent r put front [] are at in_attrs many hole before rows = refl
lists_ranked relations rel attr ent r put front (list ∷ lists) are at in_attrs many hole before rows =
    let blanks = replicate (length lists) [] in
    let first = list_ranked relations rel attr ent r put front list blanks are at in_attrs (omega arith) hole before
    (All-head (AreRowsOf r) list lists rows) in
    let longer : length (front ++ list ∷ []) ≡ ent + 1 = omega (arith, length_push front list) in
    let rest = lists_ranked relations rel attr (ent + 1) r put (front ++ list ∷ []) lists are at in_attrs
    (omega arith) hole longer (All-tail (AreRowsOf r) list lists rows) in
    ranked_append relations (ranking_trees relations rel attr ent list)
    (entity_trees relations rel attr (ent + 1) lists) (put (front ++ [] ∷ blanks))
    ∙ ap (λ o. and_then o (ranked_by relations (entity_trees relations rel attr (ent + 1) lists))) first
    ∙ ap (λ (ls : List (List RowId)). ranked_by relations (entity_trees relations rel attr (ent + 1) lists) (put ls))
    (sym (append_assoc front (list ∷ []) blanks))
    ∙ rest ∙ ap (λ (ls : List (List RowId)). Ok (put ls)) (append_assoc front (list ∷ []) lists)

-- rankings that have any lists at a relation
record HasAttrs (rel : ℕ) (put : List (List (List RowId)) → Rankings) : Type 0 where
  read : (attrs : List (List (List RowId))) → get_or (put attrs) rel [] ≡ attrs
  written : (attrs others : List (List (List RowId))) → set (put attrs) rel others ≡ put others

-- and so any lists at an attribute of it
has_lists : (rel attr : ℕ) (put : List (List (List RowId)) → Rankings) (front rest : List (List (List RowId)))
    → HasAttrs rel put → length front ≡ attr
    → HasLists rel attr (λ lists. put (front ++ lists ∷ rest))
has_lists rel attr put front rest hole before = record {
  read = λ lists.
      ap (λ (attrs : List (List (List RowId))). get_or attrs attr []) (hole.read (front ++ lists ∷ rest))
      ∙ get_or_at front lists rest [] attr before;
  written = λ lists others.
      ap (λ (attrs : List (List (List RowId))). set (put (front ++ lists ∷ rest)) rel (set attrs attr others))
      (hole.read (front ++ lists ∷ rest))
      ∙ hole.written (front ++ lists ∷ rest) (set (front ++ lists ∷ rest) attr others)
      ∙ ap put (set_at front lists rest others attr before);
}

-- the lists of one relation
attrs_ranked : (relations : List Relation) (rel attr : ℕ) (r : Relation) (put : List (List (List RowId)) → Rankings)
    (front attrs : List (List (List RowId)))
    → AreRelations relations → slice_get relations rel ≡ Some r → attr + length attrs ≡ length r.attrs
    → HasAttrs rel put → length front ≡ attr → All (AreListsOf r) attrs
    → ranked_by relations (attr_trees relations rel attr attrs)
    (put (front ++ blank_rankings (length attrs) (length r.entities))) ≡ Ok (put (front ++ attrs))
attrs_ranked relations rel attr r put front [] are at many hole before each = refl
attrs_ranked relations rel attr r put front (lists ∷ attrs) are at many hole before each =
    let blanks = blank_rankings (length attrs) (length r.entities) in
    let here = All-head (AreListsOf r) lists attrs each in
    let first = lists_ranked relations rel attr 0 r (λ ls. put (front ++ ls ∷ blanks)) [] lists are at (omega arith)
    (omega (arith, here.many))
    (has_lists rel attr put front blanks hole before) refl here.rows in
    let longer : length (front ++ lists ∷ []) ≡ attr + 1 = omega (arith, length_push front lists) in
    let rest = attrs_ranked relations rel (attr + 1) r put (front ++ lists ∷ []) attrs are at (omega arith) hole
    longer (All-tail (AreListsOf r) lists attrs each) in
    ranked_append relations (entity_trees relations rel attr 0 lists) (attr_trees relations rel (attr + 1) attrs)
    (put (front ++ blank_lists (length r.entities) ∷ blanks))
    ∙ ap (λ n. and_then (ranked_by relations (entity_trees relations rel attr 0 lists) (put (front ++ blank_lists n ∷ blanks)))
    (ranked_by relations (attr_trees relations rel (attr + 1) attrs))) (sym here.many)
    ∙ ap (λ o. and_then o (ranked_by relations (attr_trees relations rel (attr + 1) attrs))) first
    ∙ ap (λ (ls : List (List (List RowId))). ranked_by relations (attr_trees relations rel (attr + 1) attrs)
    (put ls)) (sym (append_assoc front (lists ∷ []) blanks))
    ∙ rest ∙ ap (λ (ls : List (List (List RowId))). Ok (put ls)) (append_assoc front (lists ∷ []) attrs)

-- rankings have any lists at the relation of a place
has_attrs : (rel : ℕ) (front rest : Rankings) → length front ≡ rel → HasAttrs rel (λ attrs. front ++ attrs ∷ rest)
has_attrs rel front rest before = record {
  read = λ attrs. get_or_at front attrs rest [] rel before;
  written = λ attrs others. set_at front attrs rest others rel before;
}

-- the lists of the relations from one on
relations_ranked : (relations : List Relation) (rel : ℕ) (front : Rankings) (rs : List Relation) (c : Rankings)
    → AreRelations relations
    → length front ≡ rel → length c ≡ length rs
    → ((k : ℕ) (r : Relation) → slice_get rs k ≡ Some r → (slice_get relations (rel + k) ≡ Some r) × AreRankingsOf r
    (get_or c k []))
    → ranked_by relations (rankings_trees relations rel c) (front ++ blank_of rs) ≡ Ok (front ++ c)
relations_ranked relations rel front [] [] are before many each = refl
relations_ranked relations rel front [] (attrs ∷ c) are before many each = absurd (omega arith)
relations_ranked relations rel front (r ∷ rs) [] are before many each = absurd (omega arith)
relations_ranked relations rel front (r ∷ rs) (attrs ∷ c) are before many each =
    let blanks = blank_of rs in
    let here = each 0 r refl in
    let own : AreRankingsOf r attrs = here.1 in
    let same : rel + 0 ≡ rel = omega arith in
    let at : slice_get relations rel ≡ Some r = subst (λ n. slice_get relations n ≡ Some r) same here.0 in
    let first = attrs_ranked relations rel 0 r (λ ls. front ++ ls ∷ blanks) [] attrs are at (omega (arith, own.many))
    (has_attrs rel front blanks before) refl own.lists in
    let longer : length (front ++ attrs ∷ []) ≡ rel + 1 = omega (arith, length_push front attrs) in
    let moved : (k : ℕ) → rel + suc k ≡ rel + 1 + k = λ k. omega arith in
    let rest = relations_ranked relations (rel + 1) (front ++ attrs ∷ []) rs c are longer (omega arith)
    (λ k q at. (subst (λ n. slice_get relations n ≡ Some q) (moved k) (each (suc k) q at).0, (each (suc k) q at).1)) in
    ranked_append relations (attr_trees relations rel 0 attrs) (rankings_trees relations (rel + 1) c)
    (front ++ blank_rankings (length r.attrs) (length r.entities) ∷ blanks)
    ∙ ap (λ n. and_then (ranked_by relations (attr_trees relations rel 0 attrs)
    (front ++ blank_rankings n (length r.entities) ∷ blanks))
    (ranked_by relations (rankings_trees relations (rel + 1) c))) (sym own.many)
    ∙ ap (λ o. and_then o (ranked_by relations (rankings_trees relations (rel + 1) c))) first
    ∙ ap (λ (ls : Rankings). ranked_by relations (rankings_trees relations (rel + 1) c) ls)
    (sym (append_assoc front (attrs ∷ []) blanks))
    ∙ rest ∙ ap (λ (ls : Rankings). Ok ls) (append_assoc front (attrs ∷ []) c)

-- a completion is what its tree says
pub completion_of : (relations : List Relation) (c : Rankings) → AreRelations relations → AreOfRelations relations c
    → completed relations (completion_tree relations c) ≡ Ok c
unfolding completed
completion_of relations c are of =
    relations_ranked relations 0 [] relations c are refl of.shape.per_relation
    (λ k r at.
    let same : k ≡ 0 + k = omega arith in
    (subst (λ n. slice_get relations n ≡ Some r) same at, rankings_of relations c of k r at))
