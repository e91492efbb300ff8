-- A tree that says something without its lines says the same with them.
use Rattle.std.proofs.Common.{◌≡◌, ◌∙◌, ℕ, Bool, true, false, List, [], ◌∷◌, map, Option, Some, None, Result, Ok, Err, refl, sym, ap}
use Rattle.currency_base.specs.declared.ids.RowId.{RowId}
use Rattle.completion_fill.specs.Filled.{filled}
use Rattle.currency_report.specs.Claimed.{pair_of, pair_said, place_said, current_said, currents_said, claim_said}
use Rattle.currency_report.specs.Completed.{is_ranked, with_rows, with_ranking_at, ranked_with, ranked_by, completed, later_completed, later_ones, all_completed}
use Rattle.currency_report.specs.Outcomes.{and_then}
use Rattle.currency_report.specs.Places.{AttrPlace, EntityPlace, Place, row_and, entity_named, attr_named, place_named, row_named, rows_named}
use Rattle.currency_report.specs.declared.report.ReportFault.{ReportFault}
use Rattle.report_model.specs.declared.verdict.Current.{Current}
use Rattle.report_model.specs.declared.verdict.Verdict.{Verdict}
use Rattle.report_model.specs.declared.verdict.Verdict.TheVariants as verdict
use Rattle.report_reread.specs.Trees.{unlined_name, unlined_current, unlined_answer, unlined_claim, unlined_ranking, unlined_completion}
use Rattle.report_syntax.specs.declared.tree.AnswerTree.{AnswerTree}
use Rattle.report_syntax.specs.declared.tree.ClaimTree.{ClaimTree}
use Rattle.report_syntax.specs.declared.tree.ClaimTree.TheVariants.{Inconsistent, Consistent, Certain, NotCertain, Same, NotSame, Answers, Undecided}
use Rattle.report_syntax.specs.declared.tree.CompletionTree.{CompletionTree}
use Rattle.report_syntax.specs.declared.tree.CurrentTree.{CurrentTree}
use Rattle.report_syntax.specs.declared.tree.RankingTree.{RankingTree}
use Rattle.report_syntax.specs.declared.tree.Version.TheVariants.{Second}
use Rattle.spec_model.specs.Blank.{blank_of}
use Rattle.spec_model.specs.Completion.{Rankings, ranking_of}
use Rattle.spec_model.specs.declared.relation.Relation.{Relation}
use Rattle.text_grammar.specs.declared.named.Named.{Named}

-- what gives an answer in two steps, where each step of another gives at least as much
and_then_too : {A B : Type 0} (o o' : Result A ReportFault) (next next' : A → Result B ReportFault) (b : B)
    → ((a : A) → o ≡ Ok a → o' ≡ Ok a) → ((a : A) → next a ≡ Ok b → next' a ≡ Ok b) → and_then o next ≡ Ok b
    → and_then o' next' ≡ Ok b
and_then_too (Ok a) o' next next' b first second h = rw (first a refl) (second a h)
and_then_too (Err fault) o' next next' b first second h = absurd (cc)

-- ---- claims

pair_of_too : (line line' : ℕ) (a : AttrPlace) (earlier later : Option RowId) (v : Verdict) → pair_of line a earlier
    later ≡ Ok v → pair_of line' a earlier later ≡ Ok v
pair_of_too line line' a (Some earlier) (Some later) v h = h
pair_of_too line line' a (Some earlier) None v h = absurd (cc)
pair_of_too line line' a None later v h = absurd (cc)

pair_too : (line line' : ℕ) (earlier later : Named) (o : Option AttrPlace) (v : Verdict)
    → pair_said line (unlined_name earlier) (unlined_name later) o ≡ Ok v → pair_said line' earlier later o ≡ Ok v
pair_too line line' earlier later None v h = absurd (cc)
pair_too line line' earlier later (Some a) v h = pair_of_too line line' a (row_named a.relation earlier)
    (row_named a.relation later) v h

place_too : (line line' : ℕ) (o : Option Place) (v : Verdict) → place_said line o ≡ Ok v → place_said line' o ≡ Ok v
place_too line line' None v h = absurd (cc)
place_too line line' (Some p) v h = h

current_too : (t : CurrentTree) (o : Option EntityPlace) (item : Current) → current_said (unlined_current t) o ≡ Ok
    item → current_said t o ≡ Ok item
current_too t None item h = absurd (cc)
current_too t (Some e) item h = h

currents_too : (relations : List Relation) (ts : List CurrentTree) (items : List Current)
    → currents_said relations (map unlined_current ts) ≡ Ok items → currents_said relations ts ≡ Ok items
currents_too relations [] items h = h
currents_too relations (t ∷ ts) items h =
    let o = entity_named relations t.relation t.entity in
    and_then_too (current_said (unlined_current t) o) (current_said t o)
    (λ item. and_then (currents_said relations (map unlined_current ts)) (λ more. Ok (item ∷ more)))
    (λ item. and_then (currents_said relations ts) (λ more. Ok (item ∷ more))) items (current_too t o)
    (λ item. and_then_too (currents_said relations (map unlined_current ts)) (currents_said relations ts)
    (λ more. Ok (item ∷ more)) (λ more. Ok (item ∷ more))
    items (currents_too relations ts) (λ more here. here)) h

answers_too : (ts : List AnswerTree) → map (λ t. t.values) (map unlined_answer ts) ≡ map (λ t. t.values) ts
answers_too [] = refl
answers_too (t ∷ ts) = ap (λ more. t.values ∷ more) (answers_too ts)

pub claim_too : (relations : List Relation) (line line' : ℕ) (claim : ClaimTree) (v : Verdict)
    → claim_said relations line (unlined_claim claim) ≡ Ok v → claim_said relations line' claim ≡ Ok v
claim_too relations line line' Inconsistent v h = h
claim_too relations line line' Consistent v h = h
claim_too relations line line' Certain v h = h
claim_too relations line line' (NotCertain relation attr earlier later) v h =
    pair_too line line' earlier later (attr_named relations relation attr) v h
claim_too relations line line' (Same items) v h =
    and_then_too (currents_said relations (map unlined_current items)) (currents_said relations items)
    (λ said. Ok (verdict.Same said))
    (λ said. Ok (verdict.Same said)) v (currents_too relations items) (λ said here. here) h
claim_too relations line line' (NotSame relation attr entity) v h = place_too line line'
    (place_named relations relation attr entity) v h
claim_too relations line line' (Answers items) v h = ap (λ tuples. Ok (verdict.Answers tuples)) (sym (answers_too items)) ∙ h
claim_too relations line line' (Undecided counted) v h = h

-- ---- completions

unlined_rows : (r : Relation) (names : List Named) → rows_named r (map unlined_name names) ≡ rows_named r names
unlined_rows r [] = refl
unlined_rows r (n ∷ names) = ap (row_and (row_named r n)) (unlined_rows r names)

rows_too : (c c' : Rankings) (t : RankingTree) (p : Place) (o o' : Option (List RowId)) → o ≡ o' → with_rows c
    (unlined_ranking t) p o ≡ Ok c' → with_rows c t p o' ≡ Ok c'
rows_too c c' t p None o' same h = absurd (cc)
rows_too c c' t p (Some rows) o' same h = rw (← same) h

free_too : (c c' : Rankings) (t : RankingTree) (p : Place) (b : Bool) → is_ranked (ranking_of c p.rel p.attr p.ent) ≡ b
    → with_ranking_at c (unlined_ranking t) (Some p) ≡ Ok c' → with_ranking_at c t (Some p) ≡ Ok c'
free_too c c' t p true taken h = let no : Err _ ≡ Ok c' = rw taken at h in absurd (cc)
free_too c c' t p false free h =
    rw free (rows_too c c' t p (rows_named p.relation (map unlined_name t.rows)) (rows_named p.relation t.rows)
    (unlined_rows p.relation t.rows) (rw free at h))

ranking_too : (c c' : Rankings) (t : RankingTree) (o : Option Place) → with_ranking_at c (unlined_ranking t) o ≡ Ok
    c' → with_ranking_at c t o ≡ Ok c'
ranking_too c c' t None h = absurd (cc)
ranking_too c c' t (Some p) h = free_too c c' t p (is_ranked (ranking_of c p.rel p.attr p.ent)) refl h

rankings_too : (relations : List Relation) (ts : List RankingTree) (c c' : Rankings)
    → ranked_by relations (map unlined_ranking ts) c ≡ Ok c' → ranked_by relations ts c ≡ Ok c'
rankings_too relations [] c c' h = h
rankings_too relations (t ∷ ts) c c' h =
    and_then_too (ranked_with relations c (unlined_ranking t)) (ranked_with relations c t)
    (ranked_by relations (map unlined_ranking ts)) (ranked_by relations ts)
    c' (λ next. ranking_too c next t (place_named relations t.relation t.attr t.entity))
    (λ next. rankings_too relations ts next c') h

completed_too : (relations : List Relation) (t : CompletionTree) (c : Rankings)
    → completed relations (unlined_completion t) ≡ Ok c → completed relations t ≡ Ok c
unfolding completed
completed_too relations t c h = rankings_too relations t.rankings (blank_of relations) c h

later_too : (relations : List Relation) (first : Rankings) (t : CompletionTree) (c : Rankings)
    → later_completed Second relations first (unlined_completion t) ≡ Ok c → later_completed Second relations first t ≡ Ok c
later_too relations first t c h =
    and_then_too (completed relations (unlined_completion t)) (completed relations t) (λ own. Ok (filled first own))
    (λ own. Ok (filled first own)) c
    (completed_too relations t) (λ own here. here) h

later_ones_too : (relations : List Relation) (first : Rankings) (ts : List CompletionTree) (cs : List Rankings)
    → later_ones Second relations first (map unlined_completion ts) ≡ Ok cs → later_ones Second relations first ts ≡ Ok cs
later_ones_too relations first [] cs h = h
later_ones_too relations first (t ∷ ts) cs h =
    and_then_too (later_completed Second relations first (unlined_completion t)) (later_completed Second relations first t)
    (λ c. and_then (later_ones Second relations first (map unlined_completion ts)) (λ more. Ok (c ∷ more)))
    (λ c. and_then (later_ones Second relations first ts) (λ more. Ok (c ∷ more))) cs (later_too relations first t)
    (λ c. and_then_too (later_ones Second relations first (map unlined_completion ts))
    (later_ones Second relations first ts) (λ more. Ok (c ∷ more))
    (λ more. Ok (c ∷ more)) cs (later_ones_too relations first ts) (λ more here. here)) h

pub completions_too : (relations : List Relation) (ts : List CompletionTree) (cs : List Rankings)
    → all_completed Second relations (map unlined_completion ts) ≡ Ok cs → all_completed Second relations ts ≡ Ok cs
completions_too relations [] cs h = h
completions_too relations (t ∷ ts) cs h =
    and_then_too (completed relations (unlined_completion t)) (completed relations t)
    (λ first. and_then (later_ones Second relations first (map unlined_completion ts)) (λ more. Ok (first ∷ more)))
    (λ first. and_then (later_ones Second relations first ts) (λ more. Ok (first ∷ more))) cs (completed_too relations t)
    (λ first. and_then_too (later_ones Second relations first (map unlined_completion ts))
    (later_ones Second relations first ts) (λ more. Ok (first ∷ more))
    (λ more. Ok (first ∷ more)) cs (later_ones_too relations first ts) (λ more here. here)) h
