use Rattle.std.proofs.Common.{◌≡◌, ◌<◌, ◌++◌, ◌∷◌, [], List, true, length, set, sym, subst, arith, rules}
use Rattle.currency_base.specs.declared.lit.Lit.{Lit}
use Rattle.log_replay.specs.Marks.{AreMarks}
use Rattle.log_replay.proofs.MarksSet.{index_is, marks_more}
use Rattle.log_replay.proofs.marks.Marks.mark.Goals as goal

pub invariant_of-self-2 : goal.invariant_of-self-2
invariant_of-self-2 c =
    let at : c.index-index.result ≡ c.args.lit.0 = index_is c.args.lit c.index-index.result c.index-index.ensures in
    let pushed : c.push.new.self.items ≡ c.self.inside.lits.items ++ c.args.lit ∷ [] = search rules in
    let within : c.args.lit.0 < length c.grow.new.marked.items = omega (
      arith,
      c.in_ok-grow.ensures.within,
      c.grow.new.marked.ok.0,
    ) in
    let marks : AreMarks (set c.grow.new.marked.items c.args.lit.0 true) (c.self.inside.lits.items ++ c.args.lit ∷ []) =
    marks_more c.self.inside.marked.items c.grow.new.marked.items c.self.inside.lits.items c.args.lit c.self.invariant
    c.in_ok-grow.ensures.same within in
    subst (λ (n : _). AreMarks (set c.grow.new.marked.items n true) c.push.new.self.items) (sym at)
    (subst (λ (lits : List Lit). AreMarks (set c.grow.new.marked.items c.args.lit.0 true) lits) (sym pushed) marks)
