use Rattle.std.proofs.Common.{◌≤◌, ◌∷◌, ◌∙◌, length, get_or, take, sym, ap, arith}
use Rattle.std.proofs.lemmas.List.{take_all}
use Rattle.flat_lists.proofs.Places.{flat_cut, cut_cut}
use Rattle.flat_lists.proofs.Cuts.{length-cut_from}
use Rattle.flat_lists.proofs.lists.FlatLists.truncate.Goals as goal

pub invariant_of-self : goal.invariant_of-self
invariant_of-self g c =
    let within : c.args.count ≤ length c.self.inside.ends.items = omega (arith, c.self.inside.ends.ok.0) in
    let start = c.start_of-start.ensures ∙ ap (λ ends. get_or (0 ∷ ends) c.args.count 0) c.deref.ensures.value in
    flat_cut _ _ c.self.invariant _ within _ _ _ start c.truncate.ensures.items c.truncate-then-count-len.ensures.items

pub returns-then-count-len : goal.returns-then-count-len
returns-then-count-len g c =
    let within : c.args.count ≤ length c.self.inside.ends.items = omega (arith, c.self.inside.ends.ok.0) in
    let start = c.start_of-start.ensures ∙ ap (λ ends. get_or (0 ∷ ends) c.args.count 0) c.deref.ensures.value in
    cut_cut _ _ c.self.invariant _ within _ _ _ start c.truncate.ensures.items c.truncate-then-count-len.ensures.items
    ∙ ap (take c.args.count) c.self.view_is

pub returns-else-count-len : goal.returns-else-count-len
returns-else-count-len g c =
    let whole = ap length c.self.view_is in
    let lists = length-cut_from 0 c.self.inside.ends.items c.self.inside.items.items in
    sym (take_all c.args.count c.args.self.now (omega (arith, c.self.inside.ends.ok.0)))
