use Rattle.std.proofs.Common.{◌∙◌, ℕ, subst, sym}
use Rattle.spec_model.specs.Completion.{HasShape}
use Rattle.order_search.specs.Kept.{search_of}
use Rattle.order_search.proofs.PartTold.{counter_as, known_counter}
use Rattle.order_search.proofs.telling.told.Goals as goal

pub copied-requires : goal.copied-requires
copied-requires c =
    subst (HasShape c.args.subject.now.spec.relations) (sym c.completion.ensures) c.requires.tied.parting.known.shape

pub returns : goal.returns
returns c = λ (left : ℕ).
    let s = c.args.subject.now in
    let g = c.args.parting.now in
    let solver = c.args.progress.now.solver in
    counter_as (search_of s solver) c.args.goal c.in_ok-truths.truths g.known.truths c.in_ok-completion.completion
    g.known.completion (c.in_ok-truths.ensures ∙ c.truths.ensures) (c.in_ok-completion.ensures ∙ c.completion.ensures)
    (known_counter s g solver c.args.progress.now.brought.items c.requires.held c.requires.tied c.requires.whole
    c.known_is_model.ensures.model c.known_is_model.ensures.axioms c.logs_are_sound.ensures c.args.goal c.args._own
    c.requires.goal)
