use Rattle.std.proofs.Common.{◌≡◌, ◌∷◌, ◌++◌, [], sym, ap, ◌∙◌, arith, rules}
use Rattle.std.proofs.lemmas.List.FromFn.{map-range_with_len_more}
use Rattle.value_names.specs.Names.{names_of}
use Rattle.value_names.proofs.names.value_names.Goals as goal

pub loop-attr-preserved : goal.loop-attr-preserved
loop-attr-preserved c =
    let pushed : c.push_list.new.self ≡ c.loop-attr.names ++ c.in_ok-list.list ∷ [] = search rules in
    pushed ∙ ap (λ n. c.loop-attr.names ++ n ∷ []) c.in_ok-list.ensures
    ∙ ap (λ ns. ns ++ names_of c.args.relation.now.rows c.loop-attr.attr ∷ []) c.loop-attr.invariant
    ∙ sym (map-range_with_len_more (names_of c.args.relation.now.rows) 0 c.loop-attr.attr c.loop-attr.attr (omega arith))
