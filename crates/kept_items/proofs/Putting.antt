-- Loops that put relations, rules, copy functions and given pairs in, one more.
use Rattle.std.proofs.Common.{◌≡◌, ◌∙◌, ◌+◌, ℕ, Bool, true, false, if◌then◌else◌, List, [], ◌∷◌, ◌++◌, drop, length, slice_get, Some, append_assoc, append-nil, Less, sym, ap, subst}
use Rattle.std.specs.BTreeSet.{insert_key}
use Rattle.std.specs.List.Sorted.{IsStrictlySortedBy}
use Rattle.copy_functions.specs.Copies.{CopyFunction}
use Rattle.currency_base.specs.declared.pair.Pair.{Pair}
use Rattle.denial_rules.specs.declared.rule.Rule.{Rule}
use Rattle.partial_orders.specs.Pairs.{pair_cmp}
use Rattle.spec_model.specs.Facts.{AreRelations, AreRules, AreCopies}
use Rattle.spec_model.specs.declared.relation.Relation.{Relation}
use Rattle.kept_items.specs.Marked.{is_marked}
use Rattle.kept_items.specs.Steps.{marked, marked_relation, marked_relations, marked_rows, marked_copies, mapped_count, target_count}
use Rattle.kept_items.proofs.Appended.{put_last, all_before}
use Rattle.kept_items.proofs.Filtered.{put_if, marked_all, marked_push}
use Rattle.kept_items.proofs.Fits.{relations_front, rules_front, copies_front}
use Rattle.kept_items.proofs.Places.{drop_next}

-- what is done, and one item more, are the front of the whole
one_more : {A : Type 0} (done left whole : List A) (x : A) (later : List A) → left ≡ x ∷ later → done ++ left ≡ whole
    → (done ++ x ∷ []) ++ later ≡ whole
one_more done left whole x later next so_far =
    append_assoc done (x ∷ []) later ∙ ap (λ l. done ++ l) (sym next) ∙ so_far

pub relation_fits : (marks : List Bool) (at : ℕ) (rs : List Relation) (i : ℕ) (r : Relation) (done whole : List Relation)
    → AreRelations whole → slice_get rs i ≡ Some r → done ++ marked_relations marks at (drop i rs) ≡ whole
    → AreRelations (done ++ marked_relation marks at r ∷ [])
relation_fits marks at rs i r done whole are here so_far =
    let later = marked_relations marks (at + length r.given) (drop (i + 1) rs) in
    relations_front (done ++ marked_relation marks at r ∷ []) later
    (subst AreRelations
    (sym (one_more done (marked_relations marks at (drop i rs)) whole (marked_relation marks at r) later
    (ap (marked_relations marks at) (drop_next rs i r here)) so_far))
    are)

pub rule_fits : (relations : List Relation) (marks : List Bool) (at : ℕ) (rules : List Rule) (i : ℕ) (rule : Rule)
    (done whole : List Rule) → AreRules relations whole → slice_get rules i ≡ Some rule
    → done ++ marked marks at (drop i rules) ≡ whole → is_marked marks at ≡ true → AreRules relations (done ++ rule ∷ [])
rule_fits relations marks at rules i rule done whole are here so_far is =
    let later = marked marks (at + 1) (drop (i + 1) rules) in
    rules_front relations (done ++ rule ∷ []) later
    (subst (AreRules relations)
    (sym (one_more done (marked marks at (drop i rules)) whole rule later
    (ap (marked marks at) (drop_next rules i rule here) ∙ ap (λ test. put_if test rule later) is) so_far))
    are)

pub copy_fits : (now relations : List Relation) (marks : List Bool) (at : ℕ) (copies : List CopyFunction) (i : ℕ)
    (copy : CopyFunction) (done whole : List CopyFunction) → AreCopies now whole → slice_get copies i ≡ Some copy
    → done ++ marked_copies relations marks at (drop i copies) ≡ whole
    → AreCopies now (done ++ marked_rows marks at copy (target_count relations copy) ∷ [])
copy_fits now relations marks at copies i copy done whole are here so_far =
    let new = marked_rows marks at copy (target_count relations copy) in
    let later = marked_copies relations marks (at + mapped_count copy (target_count relations copy)) (drop (i + 1) copies) in
    copies_front now (done ++ new ∷ []) later
    (subst (AreCopies now)
    (sym (one_more done (marked_copies relations marks at (drop i copies)) whole new later
    (ap (marked_copies relations marks at) (drop_next copies i copy here)) so_far))
    are)

-- ---- given pairs

put_test : (test : Bool) (kept : List Pair) (p : Pair) → insert_key pair_cmp kept p ≡ kept ++ p ∷ []
    → (if test then insert_key pair_cmp kept p else kept) ≡ kept ++ put_if test p []
put_test true kept p last = last
put_test false kept p last = sym (append-nil kept)

pub pair_more : (marks : List Bool) (start at : ℕ) (given front rest : List Pair) (p : Pair) (kept new : List Pair)
    → IsStrictlySortedBy pair_cmp given → given ≡ front ++ p ∷ rest → at ≡ start + length front → kept ≡ marked marks start front
    → new ≡ (if is_marked marks at then insert_key pair_cmp kept p else kept) → new ≡ marked marks start (front ++ p ∷ [])
pair_more marks start at given front rest p kept new sorted is place so_far put =
    let before = all_before front rest p (subst (IsStrictlySortedBy pair_cmp) is sorted) in
    let less = marked_all (λ q. pair_cmp q p ≡ Less) marks start front before in
    put
    ∙ ap (λ (ps : List Pair). if is_marked marks at then insert_key pair_cmp ps p else ps) so_far
    ∙ put_test (is_marked marks at) (marked marks start front) p (put_last (marked marks start front) p less)
    ∙ ap (λ n. marked marks start front ++ marked marks n (p ∷ [])) place
    ∙ sym (marked_push marks start front p)
