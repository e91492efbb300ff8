use Rattle.std.proofs.Common.{◌≡◌, ◌∷◌, ◌++◌, [], slice_set, rules}
use Rattle.order_search.proofs.Members.{one_more}
use Rattle.order_search.proofs.tying.put.Goals as goal

pub returns : goal.returns
returns c =
    let old = c.args.lists.now in
    let place = c.args.place in
    let list = c.replace-list.result in
    let new : c.replace.new.self ≡ slice_set (slice_set old place []) place (list ++ c.args.item ∷ []) = search rules in
    one_more place c.args.item list old c.replace.new.self c.requires c.replace-list.ensures.old new
