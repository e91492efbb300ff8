use Rattle.std.proofs.Common.{◌≡◌, ◌∙◌, ◌<◌, ℕ, Contains, length, slice_set, true, ap, arith, refl, subst, sym}
use Rattle.known_models.specs.Known.{IsKnown, KnownModel, PartedSpec, variables_in, vars_in}
use Rattle.refutation_log.specs.declared.statement.Statement.TheVariants as says
use Rattle.order_literals.specs.Said.{positive}
use Rattle.variable_parts.specs.Parts.{Parted}
use Rattle.order_search.specs.Kept.{vars_of}
use Rattle.order_search.specs.Moved.{IsTiedTo}
use Rattle.order_search.specs.Parts.{AreParts, parted_of}
use Rattle.order_search.proofs.TiedSteps.{answer_at, of_none, one_var}
use Rattle.order_search.proofs.tying.tie.Goals as goal

pub move_tie-requires-clause-says : goal.move_tie-requires-clause-says
move_tie-requires-clause-says c =
    answer_at c.args.subject.now c.args.answer c.answer.result c.var-var.result c.answer.ensures c.var-var.ensures.value

pub parted-parted-requires : goal.parted-parted-requires
parted-parted-requires c =
    subst (λ (p : Parted). AreParts c.args.subject.now p) (sym (c.in_ok-move_tie.ensures).same.parts) c.requires.parting.parts

pub set_beside-requires-clause-within : goal.set_beside-requires-clause-within
set_beside-requires-clause-within c =
    subst (λ (p : PartedSpec). c.var-var.result < length (variables_in p)) (sym c.parted-parted.ensures)
    (let h = c.one_literal.ensures.within (vars_of c.args.subject.now) c.answer.result (positive (says.Answer c.args.answer))
    c.answer.ensures in omega (arith, h, c.var-var.ensures.value))

pub set_beside-requires-clause-beside : goal.set_beside-requires-clause-beside
set_beside-requires-clause-beside c part is_in =
    let here = subst (λ (p : PartedSpec). Contains (vars_in p part) c.var-var.result) c.parted-parted.ensures is_in in
    let there = subst (λ (p : Parted). Contains (vars_in (parted_of c.args.subject.now p) part) c.var-var.result)
    (c.in_ok-move_tie.ensures).same.parts here in
    of_none c.variables_have_parts.ensures.answers c.args.subject.now c.args.parting.now c.requires.parting.parts c.args.answer
    c.var-var.result part (answer_at c.args.subject.now c.args.answer c.answer.result c.var-var.result c.answer.ensures c.var-var.ensures.value) there

pub set_beside-requires-clause-known : goal.set_beside-requires-clause-known
set_beside-requires-clause-known c =
    let moved = c.in_ok-move_tie.ensures in
    subst (λ (p : PartedSpec). IsKnown p c.move_tie.new.parting.known) (sym c.parted-parted.ensures)
    (subst (λ (k : KnownModel). IsKnown (parted_of c.args.subject.now c.move_tie.new.parting.parts) k) (sym moved.same.known)
    (subst (λ (p : Parted). IsKnown (parted_of c.args.subject.now p) c.args.parting.now.known) (sym moved.same.parts)
    c.requires.parting.known))

pub returns : goal.returns
returns c var is =
    let s = c.args.subject.now in
    let same : var ≡ c.var-var.result = one_var s c.args.answer var c.var-var.result is (answer_at c.args.subject.now c.args.answer c.answer.result c.var-var.result c.answer.ensures c.var-var.ensures.value) in
    let moved = c.in_ok-move_tie.ensures in
    subst (λ (v : ℕ). IsTiedTo s c.args.answer v c.args.home c.args.parting.now (record {
      parts = c.move_tie.new.parting.parts;
      known = c.set_beside.new.self;
      members = c.move_tie.new.parting.members;
      ties = c.move_tie.new.parting.ties;
    })) (sym same) (record {
      moved = c.move_tie.new.parting;
      is_moved = moved;
      parts = refl;
      members = refl;
      ties = refl;
      known = subst (λ (p : PartedSpec). IsKnown p c.set_beside.new.self) c.parted-parted.ensures c.set_beside.ensures.known;
      truths = c.set_beside.ensures.truths ∙ ap (λ (k : KnownModel). slice_set k.truths c.var-var.result true) moved.same.known;
      done = c.set_beside.ensures.done ∙ ap (λ (k : KnownModel). k.done) moved.same.known;
    })
