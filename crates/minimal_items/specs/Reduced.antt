-- What becomes of a search for the items that a fact needs.
use Rattle.std.specs.Prelude.{ℕ, List}
use Rattle.fact_trials.specs.Trials.{IsSpent}
use Rattle.kept_items.specs.Alike.{AreAlike}
use Rattle.spec_items.specs.Items.{items_of}
use Rattle.spec_items.specs.Kept.{kept}
use Rattle.spec_items.specs.declared.item.Item.{Item}
use Rattle.spec_model.specs.Completion.{Rankings}
use Rattle.spec_model.specs.Consistent.{IsConsistent}
use Rattle.spec_model.specs.Spec.{Spec}
use Rattle.spec_model.specs.declared.question.Question.{Question}
use Rattle.unit_questions.specs.Facts.{FactHolds}
use Rattle.minimal_items.specs.Among.{among}
use Rattle.minimal_items.specs.Explanations.{AreInOrder, IsExplanation}
use Rattle.minimal_items.specs.declared.reducing.Spent.{Spent}
use Rattle.minimal_items.specs.declared.reducing.Reduced.{Reduced}
use Rattle.minimal_items.specs.declared.reducing.Reduced.TheVariants.{Needs, Fails, Open}

-- of these items of the specification alone, the part, a report says that the budget is spent
pub record IsSpentOn (s : Spec) (q : Question) (budget : ℕ) (left : Spent) : Type 0 where
  pub in_order : AreInOrder (items_of s) left.items
  pub part : AreAlike left.part (kept (among left.items) s)
  pub spent : IsSpent left.part q budget left.report

-- with all items that were named the fact fails in this completion
pub record FailsWith (s : Spec) (q : Question) (items : List Item) (c : Rankings) : Type 0 where
  pub consistent : IsConsistent (kept (among items) s) c
  pub fails : FactHolds s.relations q c → ⊥

-- an explanation of the question's fact; or a completion in which it fails with the items that were named; or a part for which
-- the budget is spent
abbrev pub IsReduced : Spec → Question → List Item → ℕ → Reduced → Type 0
IsReduced s q items budget (Needs needed) = IsExplanation s (FactHolds s.relations q) needed
IsReduced s q items budget (Fails c) = FailsWith s q items c
IsReduced s q items budget (Open spent) = IsSpentOn s q budget spent
