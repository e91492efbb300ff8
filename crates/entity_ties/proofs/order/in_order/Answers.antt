use Rattle.std.proofs.Common.{◌≡◌, ◌<◌, ◌∷◌, ◌++◌, ◌∙◌, [], length, get_or, take, subst, arith, rules}
use Rattle.std.proofs.lemmas.List.{take_all}
use Rattle.std.proofs.lemmas.List.Elements.{All-get_or}
use Rattle.std.proofs.lemmas.Option.{slice_get-get_or}
use Rattle.entity_ties.proofs.Naming.{AreNamed, named_more, named_all, as_much_room}
use Rattle.entity_ties.proofs.order.in_order.Goals as goal

pub loop-label-preserved : goal.loop-label-preserved
loop-label-preserved c =
    let labels = c.args.labels.now in
    let i = c.loop-label.label-index in
    let below : i < length labels = omega arith in
    let inside = All-get_or (λ l. l < length labels) labels i 0 below c.requires.within in
    let pushed : c.push.new.self.items ≡ c.loop-label.ordered.items ++ c.name_of.result ∷ [] = search rules in
    record {
      room = as_much_room c.loop-label.names.items c.name_of.new.names.items c.loop-label.count c.name_of.new.count
          (get_or labels i 0) c.name_of.result c.name_of.ensures
          ∙ c.loop-label.invariant.room;
      named = rw pushed (named_more i (get_or labels i 0) c.name_of.result c.loop-label.count c.name_of.new.count
          labels c.loop-label.ordered.items
          c.loop-label.names.items c.name_of.new.names.items (slice_get-get_or labels i 0 below)
          (omega (arith, inside, c.loop-label.invariant.room))
          c.loop-label.invariant.named c.name_of.ensures);
    }

pub returns : goal.returns
returns c =
    let labels = c.args.labels.now in
    let i = c.loop-label.label-index in
    let all : take i labels ≡ labels = take_all i labels (omega arith) in
    named_all labels c.loop-label.ordered.items c.loop-label.names.items c.loop-label.count
    (subst (λ l. AreNamed l c.loop-label.names.items c.loop-label.ordered.items c.loop-label.count) all
    c.loop-label.invariant.named)
