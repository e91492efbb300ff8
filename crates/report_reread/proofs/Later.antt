-- Later completions, of which only what differs from the first one is said.
use Rattle.std.proofs.Common.{◌≡◌, ◌≢◌, ◌∙◌, ◌<◌, ℕ, suc, Bool, true, false, List, [], ◌∷◌, map, length, get_or, Ok, All, refl, sym, ap, subst, arith}
use Rattle.std.proofs.lemmas.Bool.{and_parts, eqb-true, false≢true}
use Rattle.std.proofs.lemmas.List.Elements.{All-head, All-tail, All-nil}
use Rattle.currency_base.specs.declared.ids.RowId.{RowId}
use Rattle.completion_fill.proofs.Merged.{length-merged, get_or-merged}
use Rattle.completion_fill.proofs.Shapes.{alike, shape_alike}
use Rattle.completion_fill.specs.Alike.{AreAlike}
use Rattle.completion_fill.specs.Filled.{merged, list_or, filled}
use Rattle.currency_report.specs.Completed.{later_completed, later_ones, all_completed}
use Rattle.report_reread.specs.Trees.{completion_tree, completion_trees}
use Rattle.report_syntax.specs.declared.tree.Version.TheVariants.{Second}
use Rattle.report_write.specs.Pieces.{same_rows, list_unless, differing}
use Rattle.report_model.specs.Writable.{IsWritableCompletion, Covers, AllCover}
use Rattle.spec_model.specs.Completion.{Rankings, lists_of, ranking_of}
use Rattle.spec_model.specs.Facts.{AreRelations}
use Rattle.spec_model.specs.declared.relation.Relation.{Relation}
use Rattle.report_reread.proofs.Ranked.{AreOfRelations, completion_of}

-- ---- one list

row_is : (a b : RowId) → a.0 ≡ b.0 → a ≡ b
row_is a b e = ap (λ (n : ℕ). let x : RowId = record { 0 = n } in x) e

-- lists that are told to be one are one
same_list : (xs ys : List RowId) → same_rows xs ys ≡ true → xs ≡ ys
same_list [] [] h = refl
same_list [] (y ∷ ys) h = absurd (false≢true h)
same_list (x ∷ xs) [] h = absurd (false≢true h)
same_list (x ∷ xs) (y ∷ ys) h =
    let both = and_parts _ (same_rows xs ys) h in
    let first : x ≡ y = row_is x y (eqb-true x.0 y.0 both.0) in
    let rest = same_list xs ys both.1 in
    cc

-- a list with a row is not filled
kept_list : (first list : List RowId) → (first ≢ [] → list ≢ []) → list_or first list ≡ list
kept_list [] [] covers = refl
kept_list (x ∷ xs) [] covers = absurd (covers (λ e. cc) refl)
kept_list first (y ∷ ys) covers = refl

-- what differs of a list, filled again
list_again : (first list : List RowId) → (first ≢ [] → list ≢ []) → list_or first (list_unless first list) ≡ list
list_again first list covers = by (same_rows first list) refl
  where
    by : (b : Bool) → same_rows first list ≡ b → list_or first (list_unless first list) ≡ list
    by true same = rw same (same_list first list same)
    by false differ = rw differ (kept_list first list covers)

-- what holds of each row of a list holds of what differs of it
list_rows : (P : RowId → Type 0) (first list : List RowId) → All P list → All P (list_unless first list)
list_rows P first list each = by (same_rows first list) refl
  where
    by : (b : Bool) → same_rows first list ≡ b → All P (list_unless first list)
    by true same = rw same (All-nil P)
    by false differ = rw differ each

-- ---- one completion

-- two lists merged, where the one merges with the second what another has merged
merged_again : {A : Type 0} (f g : A → A → A) (xs ys : List A) (d : A) → length xs ≡ length ys
    → ((i : ℕ) → f (get_or xs i d) (g (get_or xs i d) (get_or ys i d)) ≡ get_or ys i d) → merged f xs (merged g xs ys) ≡ ys
merged_again f g [] [] d many same = refl
merged_again f g [] (y ∷ ys) d many same = absurd (omega arith)
merged_again f g (x ∷ xs) [] d many same = absurd (omega arith)
merged_again f g (x ∷ xs) (y ∷ ys) d many same =
    let first : f x (g x y) ≡ y = same 0 in
    let rest = merged_again f g xs ys d (omega arith) (λ i. same (suc i)) in
    cc

-- what differs of a completion, filled again
filled_again : (first c : Rankings) → AreAlike first c → Covers first c → filled first (differing first c) ≡ c
filled_again first c h covers =
    merged_again (merged (merged list_or)) (merged (merged list_unless)) first c [] h.per_relation
    (λ rel. merged_again (merged list_or) (merged list_unless) (get_or first rel []) (get_or c rel []) [] (h.per_attr rel)
    (λ attr. merged_again list_or list_unless (lists_of first rel attr) (lists_of c rel attr) [] (h.per_entity rel attr)
    (λ ent. list_again (ranking_of first rel attr ent) (ranking_of c rel attr ent) (covers rel attr ent))))

-- what stands at a place of what differs
differing_attrs : (first c : Rankings) (rel : ℕ) → AreAlike first c
    → get_or (differing first c) rel [] ≡ merged (merged list_unless) (get_or first rel []) (get_or c rel [])
differing_attrs first c rel h = get_or-merged (merged (merged list_unless)) first c rel [] refl h.per_relation

differing_lists : (first c : Rankings) (rel attr : ℕ) → AreAlike first c
    → lists_of (differing first c) rel attr ≡ merged list_unless (lists_of first rel attr) (lists_of c rel attr)
differing_lists first c rel attr h =
    ap (λ (attrs : List (List (List RowId))). get_or attrs attr []) (differing_attrs first c rel h)
    ∙ get_or-merged (merged list_unless) (get_or first rel []) (get_or c rel []) attr [] refl (h.per_attr rel)

differing_list : (first c : Rankings) (rel attr ent : ℕ) → AreAlike first c
    → ranking_of (differing first c) rel attr ent ≡ list_unless (ranking_of first rel attr ent) (ranking_of c rel attr ent)
differing_list first c rel attr ent h =
    ap (λ (lists : List (List RowId)). get_or lists ent []) (differing_lists first c rel attr h)
    ∙ get_or-merged list_unless (lists_of first rel attr) (lists_of c rel attr) ent [] refl (h.per_entity rel attr)

-- what differs has the shape of the completion
differing_alike : (first c : Rankings) → AreAlike first c → AreAlike c (differing first c)
differing_alike first c h = record {
  per_relation = sym (length-merged (merged (merged list_unless)) first c h.per_relation);
  per_attr = λ rel.
      sym (ap length (differing_attrs first c rel h) ∙ length-merged (merged list_unless) (get_or first rel [])
      (get_or c rel []) (h.per_attr rel));
  per_entity = λ rel attr.
      sym (ap length (differing_lists first c rel attr h) ∙ length-merged list_unless (lists_of first rel attr)
      (lists_of c rel attr) (h.per_entity rel attr));
}

-- a completion that can be written has lists of rows at its places, and so has what differs of it
of_relations : (relations : List Relation) (c : Rankings) → IsWritableCompletion relations c → AreOfRelations relations c
of_relations relations c h = record { shape = h.shape; rows = λ rel attr ent r at. (h.rows rel attr ent r at).each }

differing_of : (relations : List Relation) (first c : Rankings) → AreAlike first c → AreOfRelations relations c
    → AreOfRelations relations (differing first c)
differing_of relations first c h of = record {
  shape = shape_alike relations c (differing first c) of.shape (differing_alike first c h);
  rows = λ rel attr ent r at.
      subst (λ (list : List RowId). All (λ row. row.0 < length r.rows) list) (sym (differing_list first c rel attr ent h))
      (list_rows (λ row. row.0 < length r.rows) (ranking_of first rel attr ent) (ranking_of c rel attr ent)
      (of.rows rel attr ent r at));
}

-- ---- all of them

-- a later completion is what the tree of what differs says
later_of : (relations : List Relation) (first c : Rankings) → AreRelations relations → IsWritableCompletion relations
    first → IsWritableCompletion relations c
    → Covers first c → later_completed Second relations first (completion_tree relations (differing first c)) ≡ Ok c
later_of relations first c are of_first of_c covers =
    let h = alike relations first c of_first.shape of_c.shape in
    let own = completion_of relations (differing first c) are
    (differing_of relations first c h (of_relations relations c of_c)) in
    rw (own, filled_again first c h covers) refl

later_ones_of : (relations : List Relation) (first : Rankings) (more : List Rankings) → AreRelations relations
    → IsWritableCompletion relations first
    → All (IsWritableCompletion relations) more → All (Covers first) more
    → later_ones Second relations first (map (λ c. completion_tree relations (differing first c)) more) ≡ Ok more
later_ones_of relations first [] are of_first of covers = refl
later_ones_of relations first (c ∷ more) are of_first of covers =
    rw (
      later_of relations first c are of_first (All-head (IsWritableCompletion relations) c more of)
          (All-head (Covers first) c more covers),
      later_ones_of relations first more are of_first (All-tail (IsWritableCompletion relations) c more of)
          (All-tail (Covers first) c more covers),
    ) refl

-- completions are what their trees say
pub completions_of : (relations : List Relation) (cs : List Rankings) → AreRelations relations
    → All (IsWritableCompletion relations) cs → AllCover cs
    → all_completed Second relations (completion_trees relations cs) ≡ Ok cs
completions_of relations [] are of covers = refl
completions_of relations (first ∷ more) are of covers =
    let of_first = All-head (IsWritableCompletion relations) first more of in
    let rest = All-tail (IsWritableCompletion relations) first more of in
    rw (
      completion_of relations first are (of_relations relations first of_first),
      later_ones_of relations first more
          are of_first rest covers,
    ) refl
