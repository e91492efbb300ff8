-- Completions that are written spell their trees.
use Rattle.std.proofs.Common.{◌≡◌, ℕ, ◌<◌, ◌≤◌, Bool, true, false, cond, zero, suc, List, [], ◌∷◌, length, get_or, map, refl, arith, codes, Some}
use Rattle.std.specs.Prelude.{All, slice_get}
use Rattle.std.proofs.lemmas.List.{length-map}
use Rattle.std.proofs.lemmas.List.Elements.{All-cons, All-from_get_or, All-head, All-tail}
use Rattle.completion_fill.specs.Filled.{merged}
use Rattle.currency_base.specs.declared.ids.RowId.{RowId}
use Rattle.spec_model.specs.Completion.{Rankings, lists_of}
use Rattle.spec_model.specs.declared.relation.Relation.{Relation}
use Rattle.refutation_log.specs.Writable.{AreFew}
use Rattle.log_write.proofs.Rules.{semicolon}
use Rattle.log_write.proofs.Texts.{IsText}
use Rattle.report_syntax.specs.Spells.{SpellsCompletion, SpellsCompletions}
use Rattle.report_syntax.specs.declared.tree.RankingTree.{RankingTree}
use Rattle.report_write.specs.Pieces.{completion_pieces, completions_pieces, differing, list_unless, same_rows}
use Rattle.report_write.specs.Writable.{HasTextNames}
use Rattle.report_model.specs.Writable.{IsWritableCompletion, ranked_attrs, ranked_lists, ranked_places}
use Rattle.report_reread.specs.Trees.{completion_tree, completion_trees, rankings_trees, unlined_completion}
use Rattle.report_reread.proofs.Likenesses.{IsLike, like_after, like_both, like_few, like_made, like_many, like_next, like_none}
use Rattle.report_reread.proofs.Names.{like_word}
use Rattle.report_reread.proofs.Rankings.{IsShort, count_rankings, like_rankings}

-- a completion with few rankings, and few rows in each
record IsBrief (c : Rankings) : Type 0 where
  few : ranked_places c ≤ 4294967294
  short : All (All (All IsShort)) c

-- ---- a completion that can be written

there : {X : Type 0} (xs : List X) (i : ℕ) → i < length xs → (x : X) × (slice_get xs i ≡ Some x)
there [] i h = absurd (omega arith)
there (x ∷ xs) zero h = (x, refl)
there (x ∷ xs) (suc i) h = there xs i (omega arith)

brief : (relations : List Relation) (c : Rankings) → IsWritableCompletion relations c → IsBrief c
brief relations c h = record { few = h.few; short = All-from_get_or (All (All IsShort)) c [] attrs }
  where
    attrs : (rel : ℕ) → rel < length c → All (All IsShort) (get_or c rel [])
    attrs rel below =
        let r : (r : Relation) × (slice_get relations rel ≡ Some r) = there relations rel
        (omega (arith, below, h.shape.per_relation)) in
        All-from_get_or (All IsShort) (get_or c rel []) []
        (λ attr inside. All-from_get_or IsShort (lists_of c rel attr) [] (λ ent within. (h.rows rel attr ent r.0 r.1).few))

-- ---- what differs from a first one

all_merged : {A : Type 0} (f : A → A → A) (P : A → Type 0) → ((x y : A) → P y → P (f x y)) → (xs ys : List A)
    → All P ys → All P (merged f xs ys)
all_merged f P each [] [] h = h
all_merged f P each (x ∷ xs) [] h = h
all_merged f P each [] (y ∷ ys) h = h
all_merged f P each (x ∷ xs) (y ∷ ys) h =
    All-cons P (f x y) (merged f xs ys) (each x y (All-head P y ys h)) (all_merged f P each xs ys (All-tail P y ys h))

short_chosen : (same : Bool) (list : List RowId) → IsShort list → IsShort (cond same [] list)
short_chosen true list h = omega arith
short_chosen false list h = h

short_unless : (first list : List RowId) → IsShort list → IsShort (list_unless first list)
short_unless first list h = short_chosen (same_rows first list) list h

fewer_chosen : (same : Bool) (list : List RowId) (some lists : List (List RowId)) → ranked_lists some ≤ ranked_lists lists
    → ranked_lists (cond same [] list ∷ some) ≤ ranked_lists (list ∷ lists)
fewer_chosen true [] some lists h = h
fewer_chosen true (row ∷ rows) some lists h = omega arith
fewer_chosen false [] some lists h = h
fewer_chosen false (row ∷ rows) some lists h = omega arith

fewer_lists : (first lists : List (List RowId)) → ranked_lists (merged list_unless first lists) ≤ ranked_lists lists
fewer_lists [] [] = omega arith
fewer_lists (x ∷ first) [] = omega arith
fewer_lists [] (y ∷ lists) = omega arith
fewer_lists (x ∷ first) (y ∷ lists) = fewer_chosen (same_rows x y) y (merged list_unless first lists) lists
    (fewer_lists first lists)

fewer_attrs : (first attrs : List (List (List RowId))) → ranked_attrs (merged (merged list_unless) first attrs) ≤
    ranked_attrs attrs
fewer_attrs [] [] = omega arith
fewer_attrs (x ∷ first) [] = omega arith
fewer_attrs [] (y ∷ attrs) = omega arith
fewer_attrs (x ∷ first) (y ∷ attrs) =
    let here : ranked_lists (merged list_unless x y) ≤ ranked_lists y = fewer_lists x y in
    let more : ranked_attrs (merged (merged list_unless) first attrs) ≤ ranked_attrs attrs = fewer_attrs first attrs in
    omega arith

fewer_places : (first c : Rankings) → ranked_places (differing first c) ≤ ranked_places c
fewer_places [] [] = omega arith
fewer_places (x ∷ first) [] = omega arith
fewer_places [] (y ∷ c) = omega arith
fewer_places (x ∷ first) (y ∷ c) =
    let here : ranked_attrs (merged (merged list_unless) x y) ≤ ranked_attrs y = fewer_attrs x y in
    let more : ranked_places (differing first c) ≤ ranked_places c = fewer_places first c in
    omega arith

brief_differing : (first c : Rankings) → IsBrief c → IsBrief (differing first c)
brief_differing first c h = record {
  few = omega (arith, fewer_places first c, h.few);
  short = all_merged (merged (merged list_unless)) (All (All IsShort))
      (all_merged (merged list_unless) (All IsShort) (all_merged list_unless IsShort short_unless)) first c h.short;
}

-- ---- completions

like_completion : (relations : List Relation) → All HasTextNames relations → (c : Rankings) → IsBrief c
    → IsText (IsLike SpellsCompletion unlined_completion (completion_tree relations c)) (completion_pieces relations c)
like_completion relations texts c h =
    let count : length (rankings_trees relations 0 c) ≡ ranked_places c = count_rankings relations 0 c in
    let few : ranked_places c ≤ 4294967294 = h.few in
    like_made (λ (x : ℕ × List RankingTree). record { line = x.0; rankings = x.1 }) (λ x tokens s. s) (λ x. refl)
    (like_both (like_word (codes "completion") (omega arith) refl)
    (like_after semicolon (like_few 4294967294 (omega arith) (like_rankings relations texts 0 c h.short))))

pub like_completions : (relations : List Relation) → All HasTextNames relations → (cs : List Rankings)
    → AreFew (IsWritableCompletion relations) cs
    → IsText (IsLike SpellsCompletions (map unlined_completion) (completion_trees relations cs)) (completions_pieces relations cs)
like_completions relations texts [] h = like_few 4294967294 (omega arith) like_none
like_completions relations texts (first ∷ more) h =
    let few : length (first ∷ more) ≤ 4294967294 = h.few in
    let count : length (map (λ c. completion_tree relations (differing first c)) more) ≡ length more =
    length-map more (λ c. completion_tree relations (differing first c)) in
    let all : All (IsWritableCompletion relations) (first ∷ more) = h.each in
    like_few 4294967294 (omega arith)
    (like_next (like_completion relations texts first
    (brief relations first (All-head (IsWritableCompletion relations) first more all)))
    (like_many (λ c. completion_tree relations (differing first c))
    (λ c. completion_pieces relations (differing first c)) (IsWritableCompletion relations)
    (λ c k. like_completion relations texts (differing first c) (brief_differing first c (brief relations c k))) more
    (All-tail (IsWritableCompletion relations) first more all)))
