use Rattle.std.proofs.Common.{◌≡◌, ◌+◌, ◌∷◌, ◌++◌, ◌∙◌, [], length, rules, ap, arith}
use Rattle.flat_lists.proofs.Cuts.{flat_pushed, cut_pushed}
use Rattle.flat_lists.proofs.lists.FlatLists.push.Goals as goal

pub invariant_of-self-2 : goal.invariant_of-self-2
invariant_of-self-2 g c =
    let items : c.extend_from_slice.new.self.items ≡ c.self.inside.items.items ++ c.args.list.now = search rules in
    let ends : c.push.new.self.items ≡ c.self.inside.ends.items ++ c.in-Ok.end ∷ [] = search rules in
    let end : c.in-Ok.end ≡ length c.self.inside.items.items + length c.args.list.now =
    omega (arith, c.in-Ok.ensures.end, c.self.inside.items.ok.0) in
    flat_pushed _ _ _ c.self.invariant _ _ _ items ends end (search rules)

pub returns-clause-ok : goal.returns-clause-ok
returns-clause-ok g c =
    let items : c.extend_from_slice.new.self.items ≡ c.self.inside.items.items ++ c.args.list.now = search rules in
    let ends : c.push.new.self.items ≡ c.self.inside.ends.items ++ c.in-Ok.end ∷ [] = search rules in
    let end : c.in-Ok.end ≡ length c.self.inside.items.items + length c.args.list.now =
    omega (arith, c.in-Ok.ensures.end, c.self.inside.items.ok.0) in
    cut_pushed _ _ _ c.self.invariant _ _ _ items ends end ∙ ap (λ lists. lists ++ c.args.list.now ∷ []) c.self.view_is
