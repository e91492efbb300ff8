use Rattle.std.proofs.Common.{List, ℕ, inr, refl, subst}
use Rattle.order_search.specs.Moved.{IsWithout}
use Rattle.order_search.proofs.Members.{dropped}
use Rattle.order_search.proofs.tying.stay.Goals as goal

pub returns : goal.returns
returns c = inr record {
  same = record { parts = refl; known = refl };
  members = dropped c.args.part c.args.var c.get.result.now c.in_ok-kept.kept c.args.parting.now.members c.replace.new.self
      c.requires.part c.get.ensures
      (subst (λ (list : List ℕ). IsWithout c.args.var list c.in_ok-kept.kept) c.as_slice.ensures c.in_ok-kept.ensures)
      c.replace.ensures.new;
  ties = c.replace-in.ensures.new;
}
