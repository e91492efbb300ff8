-- Trials of a fact with some items, and what is known so far of those that are marked.
use Rattle.std.specs.Prelude.{◌≡◌, ℕ, Bool, List, Option, None, Some, length, take, All}
use Rattle.std.specs.List.Sorted.{IsStrictlySortedBy}
pub use Rattle.fact_trials.specs.Trials.{HasTooMany, IsAnswerWithin, IsSpent}
use Rattle.fact_trials.specs.Trials.{IsWithout}
use Rattle.kept_items.specs.Alike.{AreAlike}
use Rattle.partial_orders.specs.Pairs.{pair_cmp}
use Rattle.report_model.specs.declared.report.Report.{Report}
use Rattle.report_verify.specs.Right.{EachConsistent}
use Rattle.spec_items.specs.Items.{items_of}
use Rattle.spec_items.specs.Kept.{kept}
use Rattle.spec_items.specs.declared.item.Item.{Item}
use Rattle.spec_model.specs.Spec.{Spec}
use Rattle.spec_model.specs.declared.question.Question.{Question}
use Rattle.spec_model.specs.declared.relation.Relation.{Relation}
use Rattle.unit_questions.specs.Facts.{FactHolds}
use Rattle.minimal_items.specs.Among.{among, marked_items}
use Rattle.minimal_items.specs.Explanations.{IsNeeded, needed_items}
use Rattle.minimal_items.specs.Reduced.{FailsWith, IsSpentOn}
use Rattle.minimal_items.specs.declared.needed.Needed.{Needed}
use Rattle.minimal_items.specs.declared.reducing.Spent.{Spent}
use Rattle.minimal_items.specs.declared.trying.Tried.{Tried}
use Rattle.minimal_items.specs.declared.trying.Tried.TheVariants as tried

-- the given pairs of a relation ascend
abbrev pub Ascends : Relation → Type 0
Ascends r = IsStrictlySortedBy pair_cmp r.given

-- ---- trials

-- what is told of the fact over a part, which is kept where the budget is spent
abbrev pub IsPartTrial : Spec → Question → ℕ → Tried → Type 0
IsPartTrial part q budget tried.Holds = EachConsistent part (FactHolds part.relations q)
IsPartTrial part q budget (tried.Fails c) = IsWithout part q c
IsPartTrial part q budget (tried.Open left report) = (left ≡ part) × IsSpent part q budget report

-- for what is alike to a specification with these items the budget is spent
pub record IsPartSpent (s : Spec) (q : Question) (items : List Item) (budget : ℕ) (left : Spec) (report : Report) : Type 0 where
  pub part : AreAlike left (kept (among items) s)
  pub spent : IsSpent left q budget report

-- what is told of the fact with these items
abbrev pub IsTrialWith : Spec → Question → List Item → ℕ → Tried → Type 0
IsTrialWith s q items budget tried.Holds = EachConsistent (kept (among items) s) (FactHolds s.relations q)
IsTrialWith s q items budget (tried.Fails c) = FailsWith s q items c
IsTrialWith s q items budget (tried.Open part report) = IsPartSpent s q items budget part report

-- ---- what is reduced

-- the fact holds with the marked items, of which those before a place are needed
pub record AreReducedUpTo (s : Spec) (q : Question) (place : ℕ) (marks : List Bool) (needed : List Needed) : Type 0 where
  pub per_item : length marks ≡ length (items_of s)
  pub listed : needed_items needed ≡ marked_items (take place (items_of s)) marks
  pub sufficient : EachConsistent (kept (among (marked_items (items_of s) marks)) s) (FactHolds s.relations q)
  pub each_needed : All (IsNeeded s (FactHolds s.relations q) (marked_items (items_of s) marks)) needed

-- so it is, or the budget is spent
abbrev pub AreReducedOrSpent : Spec → Question → ℕ → ℕ → List Bool → List Needed → Option Spent → Type 0
AreReducedOrSpent s q budget place marks needed None = AreReducedUpTo s q place marks needed
AreReducedOrSpent s q budget place marks needed (Some spent) = IsSpentOn s q budget spent
