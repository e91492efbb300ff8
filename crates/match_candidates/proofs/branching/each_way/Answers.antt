use Rattle.std.proofs.Common.{◌∙◌, ap, Bor, map, slice_set, Some}
use Rattle.std.proofs.lemmas.Result.{IfOk-weaker}
use Rattle.currency_base.specs.declared.value.Value.{Value}
use Rattle.match_candidates.proofs.Branches.{each_of}
use Rattle.match_candidates.proofs.branching.each_way.Goals as goal

pub returns : goal.returns
returns c =
    IfOk-weaker c.with_each.result _ _
    (λ ways are. each_of c.args.tables.now c.args.at c.args.values.now c.args.var (λ
    (v : Bor Value). v.now) c.in_ok-list.list.items _
    c.in_ok-list.ensures (are ∙ ap (map (λ (v : Bor Value). slice_set c.args.values.now c.args.var
    (Some v.now))) c.deref.ensures.value))
    c.with_each.ensures
