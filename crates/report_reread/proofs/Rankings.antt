-- The rankings of a completion that are written spell their trees, and there are as many as places with a row.
use Rattle.std.proofs.Common.{◌≡◌, ℕ, ◌+◌, ◌≤◌, List, [], ◌∷◌, ◌++◌, length, length-append, map, refl, sym, ap, ap₂, ◌∙◌, arith, codes}
use Rattle.std.specs.Prelude.{All}
use Rattle.std.proofs.lemmas.List.{append-nil, length-map}
use Rattle.std.proofs.lemmas.List.Elements.{All-head, All-tail}
use Rattle.currency_base.specs.declared.ids.RowId.{RowId}
use Rattle.spec_model.specs.Completion.{Rankings}
use Rattle.spec_model.specs.declared.relation.Relation.{Relation}
use Rattle.text_tokens.specs.Lexeme.{Lexeme}
use Rattle.text_grammar.specs.Grammar.{Many}
use Rattle.text_grammar.specs.declared.named.Named.{Named}
use Rattle.text_write.specs.Pieces.{Piece}
use Rattle.log_write.specs.Pieces.{many_pieces}
use Rattle.log_write.proofs.Rules.{semicolon}
use Rattle.log_write.proofs.Texts.{IsText, text_wider, text_word}
use Rattle.report_syntax.specs.Spells.{SpellsFurtherRow, SpellsRanking, SpellsRows}
use Rattle.report_syntax.specs.declared.tree.RankingTree.{RankingTree}
use Rattle.report_write.specs.Pieces.{attr_rankings, entity_rankings, further_row_pieces, ranking_pieces, rankings_pieces, row_pieces}
use Rattle.report_write.specs.Writable.{HasTextNames}
use Rattle.report_model.specs.Writable.{ranked_attrs, ranked_lists, ranked_places}
use Rattle.report_reread.specs.Trees.{attr_trees, entity_trees, ranking_trees, rankings_trees, row_tree, unlined_name, unlined_ranking}
use Rattle.report_reread.proofs.Likenesses.{IsLike, like_after, like_before, like_both, like_few, like_made, like_more, like_next, like_none}
use Rattle.report_reread.proofs.Names.{colon, less, like_attribute, like_entity, like_row, like_word}

-- ---- the rows of a ranking

like_further : (relations : List Relation) → All HasTextNames relations → (rel : ℕ) (rows : List RowId)
    → IsText (IsLike (Many SpellsFurtherRow) (map unlined_name) (map (row_tree relations rel) rows))
    (many_pieces (further_row_pieces relations rel) rows)
like_further relations texts rel [] = like_none
like_further relations texts rel (row ∷ rows) =
    like_next (like_after less (like_row relations rel row texts)) (like_further relations texts rel rows)

-- a list with no more rows than a ranking has room for
abbrev pub IsShort : List RowId → Type 0
IsShort list = length list ≤ 4294967294

like_rows : (relations : List Relation) → All HasTextNames relations → (rel : ℕ) (row : RowId) (rows : List RowId)
    → IsShort (row ∷ rows)
    → IsText (IsLike SpellsRows (map unlined_name) (map (row_tree relations rel) (row ∷ rows)))
    (row_pieces relations rel row ++ many_pieces (further_row_pieces relations rel) rows)
like_rows relations texts rel row rows short =
    let count : length (map (row_tree relations rel) rows) ≡ length rows = length-map rows (row_tree relations rel) in
    like_made (λ (x : Named × List Named). x.0 ∷ x.1) (λ x tokens s. s) (λ x. refl)
    (like_both (like_row relations rel row texts) (like_few 4294967293 (omega arith) (like_further relations texts rel rows)))

-- ---- rankings

-- one alone
like_one : {A : Type 0} {P : A → List Lexeme → Type 0} {u : A → A} {a : A} {ps : List Piece}
    → IsText (IsLike P u a) ps → IsText (IsLike (Many P) (map u) (a ∷ [])) ps
like_one {A} t = text_wider t
    (λ tokens h. record {
      tree = h.tree ∷ [];
      spelled = record { front = tokens; rest = []; split = sym (append-nil tokens); first = h.spelled; second = refl };
      same = ap (λ (x : A). x ∷ []) h.same;
    })

-- some rankings, their lines aside
abbrev pub AreRankings : List RankingTree → List Piece → Type 0
AreRankings trees ps = IsText (IsLike (Many SpellsRanking) (map unlined_ranking) trees) ps

like_ranking : (relations : List Relation) → All HasTextNames relations → (rel attr ent : ℕ) (list : List RowId) → IsShort list
    → AreRankings (ranking_trees relations rel attr ent list) (ranking_pieces relations rel attr ent list)
like_ranking relations texts rel attr ent [] short = like_none
like_ranking relations texts rel attr ent (row ∷ rows) short =
    like_one
    (like_made
    (λ (x : ℕ × ((Named × Named) × (Named × List Named))). record {
      line = x.0;
      relation = x.1.0.0;
      attr =
          x.1.0.1;
      entity = x.1.1.0;
      rows = x.1.1.1;
    })
    (λ x tokens s. s) (λ x. refl)
    (like_both (like_word (codes "ranking") (omega arith) refl)
    (like_both (like_attribute relations rel attr texts)
    (like_after (text_word (codes "of") (omega arith) refl)
    (like_both (like_entity relations rel ent texts)
    (like_after colon (like_before (like_rows relations texts rel row rows short) semicolon)))))))

like_entities : (relations : List Relation) → All HasTextNames relations → (rel attr ent : ℕ)
    (lists : List (List RowId)) → All IsShort lists
    → AreRankings (entity_trees relations rel attr ent lists) (entity_rankings relations rel attr ent lists)
like_entities relations texts rel attr ent [] h = like_none
like_entities relations texts rel attr ent (list ∷ lists) h =
    like_more (like_ranking relations texts rel attr ent list (All-head IsShort list lists h))
    (like_entities relations texts rel attr (ent + 1) lists (All-tail IsShort list lists h))

like_attrs : (relations : List Relation) → All HasTextNames relations →
    (rel attr : ℕ) (more : List (List (List RowId))) → All (All IsShort) more
    → AreRankings (attr_trees relations rel attr more) (attr_rankings relations rel attr more)
like_attrs relations texts rel attr [] h = like_none
like_attrs relations texts rel attr (lists ∷ more) h =
    like_more (like_entities relations texts rel attr 0 lists (All-head (All IsShort) lists more h))
    (like_attrs relations texts rel (attr + 1) more (All-tail (All IsShort) lists more h))

pub like_rankings : (relations : List Relation) → All HasTextNames relations → (rel : ℕ) (c : Rankings)
    → All (All (All IsShort)) c
    → AreRankings (rankings_trees relations rel c) (rankings_pieces relations rel c)
like_rankings relations texts rel [] h = like_none
like_rankings relations texts rel (lists ∷ more) h =
    like_more (like_attrs relations texts rel 0 lists (All-head (All (All IsShort)) lists more h))
    (like_rankings relations texts (rel + 1) more (All-tail (All (All IsShort)) lists more h))

-- ---- how many there are

count_entities : (relations : List Relation) (rel attr ent : ℕ) (lists : List (List RowId))
    → length (entity_trees relations rel attr ent lists) ≡ ranked_lists lists
count_entities relations rel attr ent [] = refl
count_entities relations rel attr ent ([] ∷ lists) = count_entities relations rel attr (ent + 1) lists
count_entities relations rel attr ent ((row ∷ rows) ∷ lists) =
    let more : length (entity_trees relations rel attr (ent + 1) lists) ≡ ranked_lists lists =
    count_entities relations rel attr (ent + 1) lists in
    omega arith

count_attrs : (relations : List Relation) (rel attr : ℕ) (more : List (List (List RowId)))
    → length (attr_trees relations rel attr more) ≡ ranked_attrs more
count_attrs relations rel attr [] = refl
count_attrs relations rel attr (lists ∷ more) =
    length-append (entity_trees relations rel attr 0 lists) (attr_trees relations rel (attr + 1) more)
    ∙ ap₂ (λ (m n : ℕ). m + n) (count_entities relations rel attr 0 lists) (count_attrs relations rel (attr + 1) more)

pub count_rankings : (relations : List Relation) (rel : ℕ) (c : Rankings) → length (rankings_trees relations rel c) ≡
    ranked_places c
count_rankings relations rel [] = refl
count_rankings relations rel (lists ∷ more) =
    length-append (attr_trees relations rel 0 lists) (rankings_trees relations (rel + 1) more)
    ∙ ap₂ (λ (m n : ℕ). m + n) (count_attrs relations rel 0 lists) (count_rankings relations (rel + 1) more)
