use Rattle.std.proofs.Common.{rules, ◌≡◌, [], ℕ, List, length, sym, ap, subst}
use Rattle.order_squares.specs.Squares.{GoesOn}
use Rattle.order_squares.proofs.Columns.{goes_none, goes_next}
use Rattle.order_squares.proofs.listing.add_squares.Goals as goal

pub loop-attr-init : goal.loop-attr-init
loop-attr-init c =
    let none : c.new-column.result.items ≡ [] = search rules in
    record {
      many = ap length (sym none);
      goes = subst (λ (column : List ℕ). GoesOn c.args.relation.now c.args.rel.0 c.args.squares.now.items column
          c.args.squares.now.items) (sym none)
          (goes_none c.args.relation.now c.args.rel.0 c.args.squares.now.items);
    }

pub loop-attr-preserved : goal.loop-attr-preserved
loop-attr-preserved c =
    let next = goes_next c.args.relation.now c.args.rel.0 c.loop-attr.attr c.args.squares.now.items
    c.loop-attr.squares.items c.add_column.new.squares.items
    c.loop-attr.column.items c.push.new.self.items c.loop-attr.invariant.many c.loop-attr.invariant.goes
    (search rules) (search rules) in
    record { many = next.many; goes = next.goes }
