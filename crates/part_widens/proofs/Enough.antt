-- What suffices for a fact over a part suffices over the whole.
use Rattle.minimal_items.specs.Among.{among}
use Rattle.minimal_items.specs.Explanations.{needed_items}
use Rattle.part_facts.specs.Laws.{FactsWiden}
use Rattle.part_facts.specs.Questions.{IsPartQuestion}
use Rattle.part_items.specs.Items.{kept_in}
use Rattle.part_items.specs.Laws.{ItemsAreParted}
use Rattle.part_laws.specs.Laws.{PartsNarrow}
use Rattle.part_narrow.specs.Laws.{NarrowsExist}
use Rattle.report_verify.specs.Right.{EachConsistent}
use Rattle.spec_items.specs.Kept.{Keeps, kept}
use Rattle.spec_items.specs.Laws.{FewerItems}
use Rattle.spec_model.specs.Facts.{IsSpecification}
use Rattle.spec_model.specs.declared.question.Question.{Question}
use Rattle.unit_questions.specs.Facts.{FactHolds, IsFactQuestion}
use Rattle.part_widens.proofs.KeptCompletions.{completion_whole, narrowed_kept, shape_kept}
use Rattle.part_widens.proofs.KeptSpec.{is_kept}
use Rattle.part_widens.proofs.WideItems.{Widening, IsWidening, narrow_among}

-- each consistent completion of the whole with these items says of the part's rows what one of the part does
pub enough : ItemsAreParted → NarrowsExist → PartsNarrow → FewerItems → FactsWiden → (w : Widening) (new q : Question)
    → IsWidening w → IsSpecification w.s → IsFactQuestion w.s.relations q → IsPartQuestion w.n new q
    → EachConsistent (kept (among (needed_items w.narrow)) w.part) (FactHolds w.part.relations new)
    → EachConsistent (kept (among (needed_items w.wide)) w.s) (FactHolds w.s.relations q)
enough parted exist narrowing fewer widen w new q is whole_is asked is_new holds c consistent =
    let keeps = among (needed_items w.wide) in
    let part_keeps : Keeps = kept_in w.n w.s.copies keeps in
    let completion = completion_whole keeps w.s.relations c consistent.completion in
    let made = exist w.s w.scope w.n w.part c is.of completion in
    let in_part = narrowing (kept keeps w.s) w.scope w.n (kept part_keeps w.part) c made.narrow (is_kept keeps w.s whole_is)
    (parted w.s w.scope w.n w.part keeps is.of) (shape_kept part_keeps w.part.relations made.narrow made.shape)
    (narrowed_kept keeps w.s.relations w.n c made.narrow made.narrowed) consistent in
    let less = fewer w.part (among (needed_items w.narrow)) part_keeps (λ i at e. narrow_among w i is e) made.narrow in_part in
    widen w.s w.scope w.n w.part c made.narrow new q whole_is is.of completion made.shape made.narrowed asked is_new
    (holds made.narrow less)
