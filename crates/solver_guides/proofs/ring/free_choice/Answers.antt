use Rattle.std.proofs.Common.{◌∙◌, sym, ap}
use Rattle.currency_base.specs.Literals.{var_of}
use Rattle.solver_guides.specs.Choices.{is_pick}
use Rattle.solver_guides.proofs.FirstFrees.{pick_of}
use Rattle.solver_guides.proofs.ring.free_choice.Goals as goal

pub returns-then-is_pick-clause-free : goal.returns-then-is_pick-clause-free
returns-then-is_pick-clause-free c =
    pick_of c.args.values.now (var_of c.in-Some.lit)
    (ap (is_pick c.args.values.now) (sym c.var.ensures.value) ∙ sym c.is_pick.ensures.same ∙ c.if-is_pick.true)
