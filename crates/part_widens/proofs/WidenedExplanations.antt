-- What explains a fact over a part explains it over the whole.
use Rattle.std.proofs.Common.{◌≡◌, ℕ, Some, slice_get, sym, subst, arith}
use Rattle.std.proofs.lemmas.Option.{slice_get_within}
use Rattle.minimal_items.specs.Among.{among_but}
use Rattle.minimal_items.specs.Explanations.{IsExplanation, IsNeeded, needed_items}
use Rattle.minimal_items.specs.declared.needed.Needed.{Needed}
use Rattle.part_facts.specs.Laws.{FactsWiden}
use Rattle.part_facts.specs.Questions.{IsPartQuestion}
use Rattle.part_items.specs.Laws.{ItemsAreParted}
use Rattle.part_laws.specs.Laws.{PairsAreKept, PartsNarrow}
use Rattle.part_laws.proofs.Rows.{all_at, there}
use Rattle.part_narrow.specs.Laws.{NarrowsExist}
use Rattle.spec_items.specs.Kept.{kept}
use Rattle.spec_items.specs.Laws.{FewerItems}
use Rattle.spec_items.specs.declared.item.Item.{Item}
use Rattle.spec_model.specs.Consistent.{IsConsistent}
use Rattle.spec_model.specs.Facts.{IsSpecification}
use Rattle.spec_model.specs.declared.question.Question.{Question}
use Rattle.unit_questions.specs.Facts.{FactHolds, IsFactQuestion}
use Rattle.part_widens.specs.Laws.{ExplanationsWiden}
use Rattle.part_widens.specs.Widened.{IsSeenToFail, rules_among}
use Rattle.part_widens.proofs.Enough.{enough}
use Rattle.part_widens.proofs.Fails.{AreBoth, fails}
use Rattle.part_widens.proofs.Joins.{joined}
use Rattle.part_widens.proofs.KeptCompletions.{completion_whole, shape_whole}
use Rattle.part_widens.proofs.Lists.{all_of}
use Rattle.part_widens.proofs.WideItems.{Widening, IsWidening, whole_of}

-- each item that is needed over the part is needed over the whole
needed : FewerItems → ItemsAreParted → PairsAreKept → (w : Widening) (new q : Question) (k : ℕ) (y : Needed) → IsWidening w
    → IsSpecification w.s → IsFactQuestion w.s.relations q → IsPartQuestion w.n new q
    → IsConsistent (kept (rules_among (needed_items w.wide)) w.s) w.base
    → IsExplanation w.part (FactHolds w.part.relations new) w.narrow
    → slice_get w.wide k ≡ Some y → IsSeenToFail w.s.relations q y
    → IsNeeded w.s (FactHolds w.s.relations q) (needed_items w.wide) y
needed fewer parted pairs w new q k y is whole_is fact part base_is explained at seen =
    let items = needed_items w.wide in
    let below = slice_get_within w.wide k y at in
    let x = there w.narrow k (let many = is.are.as_many in omega (arith, below, many)) in
    let one = is.are.each k x.0 y x.1 at in
    let of = all_at (IsNeeded w.part (FactHolds w.part.relations new) (needed_items w.narrow)) w.narrow k x.0
    explained.each_needed x.1 in
    let consistent = joined fewer parted w x.0.item x.0.without y.without is whole_is base_is of.consistent one.joined in
    let both : AreBoth w x.0.without y.without = record {
      whole_is = whole_is;
      completion = completion_whole (among_but (whole_of w x.0.item) items) w.s.relations y.without consistent.completion;
      shape = shape_whole (among_but x.0.item (needed_items w.narrow)) w.part.relations x.0.without
          of.consistent.completion.shape;
      narrowed = one.joined.narrowed;
    } in
    record {
      consistent = subst (λ (i : Item). IsConsistent (kept (among_but i items) w.s) y.without) (sym one.item) consistent;
      fails = fails pairs w x.0 y new q is both fact part of.fails seen;
    }

pub widened : ItemsAreParted → NarrowsExist → PartsNarrow → PairsAreKept → FewerItems → FactsWiden → ExplanationsWiden
widened parted exist narrowing pairs fewer widen s scope n part new q base narrow wide whole_is part_is of fact asked base_is
    explained in_order are seen =
    let w : Widening =
    record { s = s; scope = scope; n = n; part = part; base = base; narrow = narrow; wide = wide } in
    let is : IsWidening w = record { of = of; in_order = explained.in_order; are = are } in
    record {
      in_order = in_order;
      sufficient = enough parted exist narrowing fewer widen w new q is whole_is fact asked explained.sufficient;
      each_needed = all_of (IsNeeded s (FactHolds s.relations q) (needed_items wide)) wide (λ k y at.
          needed fewer parted pairs w new q k y is whole_is fact asked base_is explained at
          (all_at (IsSeenToFail s.relations q) wide k y seen at));
    }
