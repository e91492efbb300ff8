use Rattle.std.proofs.Common.{◌≡◌, ◌∷◌, ◌++◌, [], rules}
use Rattle.value_names.specs.Names.{firsts_of}
use Rattle.value_names.proofs.Alike.{mapped_more}
use Rattle.value_names.proofs.names.first_rows.Goals as goal

pub loop-attr-preserved : goal.loop-attr-preserved
loop-attr-preserved c =
    let pushed : c.push_list.new.self ≡ c.loop-attr.firsts ++ c.in_ok-list.list ∷ [] = search rules in
    mapped_more firsts_of c.args.names.now c.loop-attr.attr c.get.result.now c.loop-attr.firsts c.in_ok-list.list
    c.push_list.new.self
    c.get.ensures c.loop-attr.invariant c.in_ok-list.ensures pushed
