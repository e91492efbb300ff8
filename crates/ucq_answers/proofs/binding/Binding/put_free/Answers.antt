use Rattle.std.proofs.Common.{◌<◌, ◌∙◌, List, Option, ap, length, slice_get, arith}
use Rattle.currency_base.specs.declared.value.Value.{Value}
use Rattle.ucq_answers.specs.Partly.{put_free}
use Rattle.ucq_answers.proofs.Spreading.{put_view}
use Rattle.ucq_answers.proofs.binding.Binding.put_free.Goals as goal

pub returns-in-None : goal.returns-in-None
returns-in-None c =
    let inside : c.args.var < length c.self.inside.values.items = omega arith in
    put_view (λ v. v.now) c.self.inside.values.items c.args.var c.index.result.now c.args.value inside c.index.ensures
    c.in-None.is ∙ ap (λ (b : List (Option Value)). put_free (slice_get b c.args.var) b c.args.var c.args.value.now) c.self.view_is
