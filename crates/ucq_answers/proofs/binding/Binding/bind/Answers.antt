use Rattle.std.proofs.Common.{◌<◌, List, Option, length, ap, ◌∙◌, sym, arith}
use Rattle.currency_base.specs.declared.value.Value.{Value}
use Rattle.ucq_answers.specs.Partly.{bind}
use Rattle.ucq_answers.proofs.Bindings.{bind_free}
use Rattle.ucq_answers.proofs.binding.Binding.bind.Goals as goal

pub returns-in-None-clause-yes : goal.returns-in-None-clause-yes
returns-in-None-clause-yes c _ =
    let inside : c.args.var < length c.self.inside.values.items = omega arith in
    ap (λ (b : List (Option Value)). bind b c.args.var c.args.value.now) (sym c.self.view_is)
    ∙ bind_free (λ v. v.now) c.self.inside.values.items c.args.var c.index.result.now c.args.value inside
    c.index.ensures c.in-None.is
