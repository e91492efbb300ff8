use Rattle.std.proofs.Common.{◌≡◌, None, ap, map, option_map, replicate, ◌∙◌, arith}
use Rattle.ucq_answers.proofs.Bindings.{none_all}
use Rattle.ucq_answers.proofs.binding.Binding.new.Goals as goal

pub returns : goal.returns
returns c =
    let all : c.loop.counter ≡ c.args.vars = omega arith in
    ap (λ l. map (λ value. option_map (λ v. v.now) value) l) c.loop.invariant ∙ none_all (λ v. v.now) c.loop.counter
    ∙ ap (λ n. replicate n None) all
