use Rattle.std.proofs.lemmas.Option.{MatchOption-at_some}
use Rattle.part_join.specs.Joined.{IsJoined}
use Rattle.near_items.specs.Sites.{SeesFail}
use Rattle.near_items.proofs.Wides.{put_wide}
use Rattle.near_items.proofs.widening.widen_one.Goals as goal

pub returns-in_ok-push-in-Ok-Some : goal.returns-in_ok-push-in-Ok-Some
returns-in_ok-push-in-Ok-Some c =
    let s = c.args.site.now.spec.now in
    let n = c.args.site.now.places.now in
    let q = c.args.site.now.question.now in
    let base = c.args.base.now in
    let without = c.in-Ok-Some.without in
    let joined = MatchOption-at_some (Unit {0}) (IsJoined s.relations n base c.args.one.now.without) without
    c.in-Ok-Some.field-0-is c.in-Ok-Some.ensures.joined in
    let seen = MatchOption-at_some (Unit {0}) (SeesFail s.relations q) without c.in-Ok-Some.field-0-is
    c.in-Ok-Some.ensures.seen in
    put_wide s n q base c.args.start c.in-Some-first_from.place c.args.one.now c.in-Some.item without c.args.wide.now
    c.push.new.self c.args.items.now c.requires.items c.in-Some-first_from.ensures.after c.in-Some-first_from.ensures.there
    c.in-Some.ensures joined seen c.in_ok-push-in-Ok-Some.ensures.ok
