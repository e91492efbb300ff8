use Rattle.std.proofs.Common.{◌≡◌, ◌∷◌, ◌++◌, [], slice_set, rules}
use Rattle.entity_ties.proofs.Putting.{puts}
use Rattle.entity_ties.proofs.lists.put.Goals as goal

pub returns : goal.returns
returns g c =
    let old = c.args.lists.now in
    let place = c.args.place in
    let list = c.replace-list.result in
    let new : c.replace.new.self ≡ slice_set (slice_set old place []) place (list ++ c.args.item ∷ []) = search rules in
    puts place c.args.item list old c.replace.new.self c.requires c.replace-list.ensures.old new
