use Rattle.std.proofs.Common.{◌∙◌, List, Option, Some, ap, option_map, slice_set}
use Rattle.std.proofs.lemmas.List.{map-set}
use Rattle.currency_base.specs.declared.value.Value.{Value}
use Rattle.match_candidates.proofs.binding.Binding.set.Goals as goal

pub returns : goal.returns
returns c =
    map-set (λ value. option_map (λ v. v.now) value) c.self.inside.values.items c.args.var (Some c.args.value)
    ∙ ap (λ (b : List (Option Value)). slice_set b c.args.var (Some c.args.value.now)) c.self.view_is
