use Rattle.std.proofs.Common.{◌≡◌, None, ap, map, option_map, replicate, ◌∙◌, arith}
use Rattle.match_candidates.proofs.Bindings.{none_all}
use Rattle.match_candidates.proofs.binding.Binding.new.Goals as goal

pub returns : goal.returns
returns c =
    let all : c.loop.counter ≡ c.args.vars = omega arith in
    ap (λ l. map (λ value. option_map (λ v. v.now) value) l) c.loop.invariant ∙ none_all (λ v. v.now) c.loop.counter
    ∙ ap (λ n. replicate n None) all
