use Rattle.std.proofs.Common.{◌≡◌, ◌∷◌, ◌++◌, [], sym, ap, ◌∙◌, rules}
use Rattle.value_names.specs.Names.{name_of}
use Rattle.value_names.proofs.Alike.{names_more}
use Rattle.value_names.proofs.names.attribute_names.Goals as goal

pub loop-at-preserved : goal.loop-at-preserved
loop-at-preserved c =
    let pushed : c.push.new.self ≡ c.loop-at.names ++ c.name_of.result ∷ [] = search rules in
    pushed ∙ ap (λ n. c.loop-at.names ++ n ∷ []) c.name_of.ensures
    ∙ ap (λ ns. ns ++ name_of c.args.rows.now c.args.attr (record { 0 = c.loop-at.at }) ∷ []) c.loop-at.invariant
    ∙ sym (names_more (name_of c.args.rows.now c.args.attr) c.loop-at.at)
