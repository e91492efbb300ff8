-- A trial over a part that is alike to a specification with some items is one with these items.
use Rattle.std.proofs.Common.{◌≡◌, ℕ, Bool, List, length, sym, subst}
use Rattle.currency_base.specs.Lists.{OnlyOnce}
use Rattle.item_limits.specs.Laws.{FewerAreWithin}
use Rattle.kept_items.specs.Alike.{AreAlike}
use Rattle.kept_items.specs.Laws.{AlikeAreOne}
use Rattle.kept_items.specs.Marked.{HasMarked}
use Rattle.search_logs.specs.SearchLogs.{IsWithin}
use Rattle.spec_items.specs.Items.{items_of}
use Rattle.spec_items.specs.Kept.{kept}
use Rattle.spec_items.specs.declared.item.Item.{Item}
use Rattle.spec_model.specs.Facts.{IsSpecification}
use Rattle.spec_model.specs.Spec.{Spec}
use Rattle.spec_model.specs.declared.question.Question.{Question}
use Rattle.spec_model.specs.declared.relation.Relation.{Relation}
use Rattle.fact_trials.specs.Trials.{IsSpent}
use Rattle.unit_questions.specs.Facts.{FactHolds, IsFactQuestion}
use Rattle.minimal_items.specs.Among.{among, marked_items}
use Rattle.minimal_items.specs.Trials.{IsPartTrial, IsTrialWith}
use Rattle.minimal_items.specs.declared.trying.Tried.{Tried}
use Rattle.minimal_items.specs.declared.trying.Tried.TheVariants as tried
use Rattle.minimal_items.proofs.Marks.{keeps_marked}
use Rattle.minimal_items.proofs.Tables.{fact_kept, fact_question, fact_whole}

pub alike_part : (s part : Spec) (marks : List Bool) → HasMarked s marks part → length marks ≡ length (items_of s)
    → OnlyOnce (items_of s) → AreAlike part (kept (among (marked_items (items_of s) marks)) s)
alike_part s part marks has many once =
    has (among (marked_items (items_of s) marks)) (keeps_marked (items_of s) marks many once)

module _ (s part : Spec) (items : List Item) (alike : AreAlike part (kept (among items) s)) where
  pub within : FewerAreWithin → IsSpecification part → IsWithin s → IsWithin part
  within law is whole =
      let none = law s part (among items) alike
      (record { parts = whole.parts; variables_few = whole.variables_few; instances_few = whole.instances_few }) in
      record {
        specification = is;
        parts = none.parts;
        variables_few = none.variables_few;
        instances_few = none.instances_few;
      }

  pub question : (q : Question) → IsFactQuestion s.relations q → IsFactQuestion part.relations q
  question q is =
      subst (λ (rs : List Relation). IsFactQuestion rs q) (sym alike.relations) (fact_question (among items) s.relations q is)

  pub tried_with : AlikeAreOne → (q : Question) (budget : ℕ) (told : Tried) → IsPartTrial part q budget told
      → IsTrialWith s q items budget told
  tried_with law q budget tried.Holds is = λ c consistent.
      fact_whole (among items) s.relations c q
      (subst (λ (rs : List Relation). FactHolds rs q c) alike.relations
      (is c ((law part (kept (among items) s) alike c).1 consistent)))
  tried_with law q budget (tried.Fails c) is = record {
    consistent = (law part (kept (among items) s) alike c).0 is.consistent;
    fails = λ holds.
        is.fails
        (subst (λ (rs : List Relation). FactHolds rs q c) (sym alike.relations) (fact_kept (among items) s.relations c q holds));
  }
  tried_with law q budget (tried.Open left report) is = record {
    part = subst (λ (p : Spec). AreAlike p (kept (among items) s)) (sym is.0) alike;
    spent = subst (λ (p : Spec). IsSpent p q budget report) (sym is.0) is.1;
  }
