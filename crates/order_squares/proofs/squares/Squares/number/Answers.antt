use Rattle.std.proofs.Common.{length, ap, subst, arith}
use Rattle.order_squares.specs.Squares.{Layout, IsLaidOut}
use Rattle.order_squares.proofs.Layouts.{start_within, is_read}
use Rattle.order_squares.proofs.squares.Squares.number.Goals as goal

pub get-starts-requires : goal.get-starts-requires
get-starts-requires c =
    let is = subst (λ l. IsLaidOut l c.self.inside.starts c.self.inside.bases.items) c.self.view_is c.self.invariant in
    start_within c.args.self.now.relations c.self.inside.starts c.args.self.now.squares c.args.rel.0 c.args.attr.0
    is.listed c.requires.attr

pub bounds-starts-attr : goal.bounds-starts-attr
bounds-starts-attr c =
    let is = subst (λ l. IsLaidOut l c.self.inside.starts c.self.inside.bases.items) c.self.view_is c.self.invariant in
    (is_read c.args.self.now.relations c.self.inside.starts c.args.self.now.squares c.args.rel.0 c.args.attr.0
    c.args.ent.0 c.get-starts.result.now
    is.listed c.requires.attr c.requires.ent c.get-starts.ensures).within

pub overflow_add-result : goal.overflow_add-result
overflow_add-result c =
    let is = subst (λ l. IsLaidOut l c.self.inside.starts c.self.inside.bases.items) c.self.view_is c.self.invariant in
    let read = is_read c.args.self.now.relations c.self.inside.starts c.args.self.now.squares c.args.rel.0
    c.args.attr.0 c.args.ent.0 c.get-starts.result.now
    is.listed c.requires.attr c.requires.ent c.get-starts.ensures in
    omega (arith, read.bound, c.len.ensures, c.self.inside.squares.ok.0, ap (λ (l : Layout). length l.squares) c.self.view_is)

pub returns : goal.returns
returns c =
    let is = subst (λ l. IsLaidOut l c.self.inside.starts c.self.inside.bases.items) c.self.view_is c.self.invariant in
    (is_read c.args.self.now.relations c.self.inside.starts c.args.self.now.squares c.args.rel.0 c.args.attr.0
    c.args.ent.0 c.get-starts.result.now
    is.listed c.requires.attr c.requires.ent c.get-starts.ensures).square
