use Rattle.std.proofs.Common.{◌≡◌, ◌+◌, ◌∷◌, ◌++◌, ◌∙◌, ◌≤◌, [], length, rules, ap, arith}
use Rattle.clause_arena.specs.Slots.{Clauses}
use Rattle.flat_lists.proofs.Cuts.{flat_pushed, cut_pushed}
use Rattle.clause_arena.proofs.clause_lits.ClauseLits.push.Goals as goal

pub invariant_of-self : goal.invariant_of-self
invariant_of-self c =
    let end = c.len.result + length c.args.lits.now in
    let items : c.extend_from_slice.new.self.items ≡ c.self.inside.lits.items ++ c.args.lits.now = search rules in
    let ends : c.push.new.self.items ≡ c.self.inside.ends.items ++ end ∷ [] = search rules in
    let is_end : end ≡ length c.self.inside.lits.items + length c.args.lits.now =
    omega (arith, c.len.ensures, c.self.inside.lits.ok.0) in
    let few : end ≤ 4294967295 =
    omega (
      arith,
      ap (λ (v : Clauses). v.lits_left) c.self.view_is,
      c.requires.lits_room,
      c.self.invariant.few,
      c.self.inside.lits.ok.0,
      c.len.ensures,
    ) in
    flat_pushed _ _ _ c.self.invariant _ _ _ items ends is_end few

pub returns-clause-lists : goal.returns-clause-lists
returns-clause-lists c =
    let end = c.len.result + length c.args.lits.now in
    let items : c.extend_from_slice.new.self.items ≡ c.self.inside.lits.items ++ c.args.lits.now = search rules in
    let ends : c.push.new.self.items ≡ c.self.inside.ends.items ++ end ∷ [] = search rules in
    let is_end : end ≡ length c.self.inside.lits.items + length c.args.lits.now =
    omega (arith, c.len.ensures, c.self.inside.lits.ok.0) in
    cut_pushed _ _ _ c.self.invariant _ _ _ items ends is_end ∙ ap (λ (v : Clauses). v.lists ++ c.args.lits.now ∷ [])
    c.self.view_is
