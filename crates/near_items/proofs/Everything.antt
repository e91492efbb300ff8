-- With all items a specification is itself.
use Rattle.std.proofs.Common.{◌≡◌, ◌∙◌, ℕ, Bool, true, List, [], ◌∷◌, Contains, length, replicate, refl, ap, subst, sym}
use Rattle.std.proofs.lemmas.List.{length-replicate}
use Rattle.std.proofs.lemmas.List.Folds.{list_any_at}
use Rattle.report_verify.specs.Right.{EachConsistent}
use Rattle.spec_items.specs.Items.{items_of}
use Rattle.spec_items.specs.Laws.{AllItems}
use Rattle.spec_items.specs.declared.item.Item.{Item}
use Rattle.spec_model.specs.Completion.{Rankings}
use Rattle.spec_model.specs.Spec.{Spec}
use Rattle.spec_model.specs.declared.question.Question.{Question}
use Rattle.unit_questions.specs.Facts.{FactHolds}
use Rattle.minimal_items.proofs.Same.{same_itself}
use Rattle.minimal_items.specs.Among.{among, marked_items, same_item}
use Rattle.minimal_items.specs.Reduced.{FailsWith, IsReduced}
use Rattle.minimal_items.specs.declared.reducing.Reduced.{Reduced}
use Rattle.minimal_items.specs.declared.reducing.Reduced.TheVariants as reduced

among_all : (items : List Item) (i : Item) → Contains items i → among items i ≡ true
among_all items i is =
    list_any_at (same_item i) items is.0 i is.1 (subst (λ (x : Item). same_item i x ≡ true) (sym is.2) (same_itself i))

all_marked : (items : List Item) → marked_items items (replicate (length items) true) ≡ items
all_marked [] = refl
all_marked (i ∷ items) = ap (λ (l : List Item). i ∷ l) (all_marked items)

pub as_many_marks : (items all : List Item) (marks : List Bool) → items ≡ all → marks ≡ replicate (length items) true
    → length marks ≡ length all
as_many_marks items all marks are is = ap length is ∙ length-replicate (length items) true ∙ ap length are

-- what holds in every consistent completion does not fail with all items
pub fails_never : AllItems → (s : Spec) (q : Question) (budget : ℕ) → EachConsistent s (FactHolds s.relations q)
    → (items : List Item) → items ≡ items_of s → (marks : List Bool) → marks ≡ replicate (length items) true → (told : Reduced)
    → (c : Rankings) → told ≡ reduced.Fails c → IsReduced s q (marked_items (items_of s) marks) budget told → ⊥
fails_never law s q budget holds items are marks all told c as_told is =
    let whole : marked_items (items_of s) marks ≡ items_of s =
    ap (marked_items (items_of s)) (all ∙ ap (λ (l : List Item). replicate (length l) true) are) ∙ all_marked (items_of s) in
    let with_all : FailsWith s q (marked_items (items_of s) marks) c =
    subst (IsReduced s q (marked_items (items_of s) marks) budget) as_told is in
    let fails : FailsWith s q (items_of s) c = subst (λ (l : List Item). FailsWith s q l c) whole with_all in
    fails.fails
    (holds c
    ((law s (among (items_of s)) (λ i there. among_all (items_of s) i there) c).0 fails.consistent))
