use Rattle.std.proofs.Common.{◌≡◌, ◌≢◌, ◌∙◌, ◌<◌, ℕ, Bool, true, List, [], All, length, slice_set, sym, ap, subst, arith}
use Rattle.spec_model.specs.Completion.{Rankings, HasShape}
use Rattle.completion_build.specs.declared.built.Cycle.{Cycle}
use Rattle.known_models.specs.Changes.{Takes}
use Rattle.known_models.specs.Known.{KnownModel, vars_in}
use Rattle.known_models.specs.Ranked.{ArePut}
use Rattle.known_models.proofs.Counting.{nothing_in}
use Rattle.known_models.proofs.Replacing.{belied, found_room, replaced, replaced_as, vars_within}
use Rattle.known_models.proofs.known.KnownModel.replace.Goals as goal

pub make_same-requires-2-clause-within : goal.make_same-requires-2-clause-within
make_same-requires-2-clause-within c =
    let p = c.args.parted.now in
    let many = length c.self.inside.truths in
    let per_variable = ap (λ (k : KnownModel). length k.truths) c.self.view_is ∙ c.requires.known.per_variable in
    subst (λ (vars : List ℕ). All (λ var. var < many) vars) (sym c.vars-vars.ensures)
    (vars_within p c.args.part many c.facts.ensures per_variable)

pub put_lists-requires : goal.put_lists-requires
put_lists-requires c =
    let p = c.args.parted.now in
    found_room p c.args.part c.rank_values.new.truths c.in-Ok.draft c.self.inside.completion c.facts.ensures c.in-Ok.ensures.found
    (subst (λ (r : Rankings). HasShape p.spec.relations r) (sym (ap (λ (k : KnownModel). k.completion) c.self.view_is))
    c.requires.known.shape)

pub returns-then-len-gt0-clause-belied : goal.returns-then-len-gt0-clause-belied
returns-then-len-gt0-clause-belied c =
    let p = c.args.parted.now in
    let k = c.args.self.now in
    let given = c.args.values.now.given in
    let now = c.rank_values.new.truths in
    let start : c.self.inside.trial ≡ k.truths = c.self.invariant.same ∙ ap (λ (k : KnownModel). k.truths) c.self.view_is in
    let takes = subst (λ (old : List Bool). Takes (vars_in p c.args.part) given old now) start c.in-Ok.ensures.takes in
    let some : c.in-Ok.draft.cycles ≢ [] = λ none.
    absurd (omega (arith, c.if-len-gt0.true, c.len.ensures, ap (λ (cs : List Cycle). length cs) none)) in
    belied p c.facts.ensures k c.requires.known c.args.part given c.requires.values now takes c.in-Ok.draft c.in-Ok.ensures.found
    c.pairs_are_decided.ensures.exclude some

pub returns-clause-replaced : goal.returns-clause-replaced
returns-clause-replaced c =
    let p = c.args.parted.now in
    let k = c.args.self.now in
    let given = c.args.values.now.given in
    let now = c.rank_values.new.truths in
    let d = c.in-Ok.draft in
    let start : c.self.inside.trial ≡ k.truths = c.self.invariant.same ∙ ap (λ (k : KnownModel). k.truths) c.self.view_is in
    let takes = subst (λ (old : List Bool). Takes (vars_in p c.args.part) given old now) start c.in-Ok.ensures.takes in
    let none : d.cycles ≡ [] = nothing_in d.cycles (omega (arith, c.if-len-gt0.false, c.len.ensures)) in
    let put = subst (λ (r : Rankings). ArePut d.lists r c.put_lists.new.completion)
    (ap (λ (k : KnownModel). k.completion) c.self.view_is) c.put_lists.ensures in
    let done = c.finish.ensures.done ∙ ap (λ (k : KnownModel). slice_set k.done c.args.part true) c.self.view_is in
    replaced_as p given c.args.part k now c.make_same-2.new.truths c.put_lists.new.completion c.finish.new.done.items
    c.make_same-2.ensures done
    (replaced p c.facts.ensures k c.requires.known c.args.part given c.requires.values now takes d c.in-Ok.ensures.found none
    c.put_lists.new.completion put)
