use Rattle.std.proofs.Common.{◌≡◌, ◌∙◌, List, [], ◌∷◌, ◌++◌, Contains, append_assoc, refl, sym, ap, subst, arith}
use Rattle.std.proofs.lemmas.List.Elements.{Contains-append_right}
use Rattle.known_models.specs.declared.draft.RankedList.{RankedList}
use Rattle.known_models.proofs.Places.{put_more, room_for}
use Rattle.known_models.proofs.placing.put_lists.Goals as goal

pub loop-list-preserved : goal.loop-list-preserved
loop-list-preserved c =
    let i = c.loop-list.invariant in
    let l = c.in-Some.list in
    let front = c.loop-list.yielded in
    let rest = c.next.new.self.rest.items in
    let whole : front ++ l ∷ rest ≡ c.args.lists = ap (λ rest. front ++ rest) (sym c.in-Some.ensures.steps.0) ∙ i.all in
    let has : Contains c.args.lists l =
    subst (λ (ls : List RankedList). Contains ls l) whole (Contains-append_right front (l ∷ rest) l (0, omega arith, refl)) in
    let room = room_for c.args.lists c.args.completion.now c.loop-list.completion front l i.room i.put has in
    record {
      all = append_assoc front (l ∷ []) rest ∙ whole;
      room = i.room;
      put = rw c.put_list.ensures
          (put_more c.set_keeps_shape.ensures front c.args.completion.now c.loop-list.completion l room i.put);
    }
