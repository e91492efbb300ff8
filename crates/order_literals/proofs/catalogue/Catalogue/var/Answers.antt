use Rattle.std.proofs.Common.{◌≡◌, ◌∙◌, ◌+◌, ◌<◌, length, ap, subst, arith}
use Rattle.std.proofs.lemmas.Option.{slice_get_within}
use Rattle.order_literals.specs.Layout.{AreLaidOut, starts_of}
use Rattle.order_literals.specs.Numbers.{Numbers}
use Rattle.order_literals.specs.Statements.{blocks_of, statements_of}
use Rattle.order_literals.proofs.Kept.{count_of_starts, statement_at, statement_below}
use Rattle.order_literals.proofs.catalogue.Catalogue.var.Goals as goal

pub start_at-requires : goal.start_at-requires
start_at-requires c =
    let n = c.args.self.now in
    let laid = subst (λ (m : Numbers). AreLaidOut m c.self.inside.firsts.items c.self.inside.blocks.items
    c.self.inside.starts.items) c.self.view_is c.self.invariant in
    let many = ap length (c.deref.ensures.value ∙ laid.starts_are) in
    omega (
      arith,
      count_of_starts n (blocks_of n),
      slice_get_within (blocks_of n) c.args.place c.requires.block
          c.requires.is_block,
    )

below : (c : goal.After-start_at) → (c.start_at.result + c.args.number < length (statements_of c.args.self.now)) ×
    (length (statements_of c.args.self.now) < 2147483648)
below c =
    let n = c.args.self.now in
    let laid = subst (λ (m : Numbers). AreLaidOut m c.self.inside.firsts.items c.self.inside.blocks.items
    c.self.inside.starts.items) c.self.view_is c.self.invariant in
    let these : c.deref.result.now ≡ starts_of n (blocks_of n) = c.deref.ensures.value ∙ laid.starts_are in
    let inside = statement_below n c.deref.result.now c.args.place c.args.number c.requires.block these
    c.requires.is_block c.requires.within in
    (omega (arith, c.start_at.ensures, inside), laid.few)

pub overflow_add-result : goal.overflow_add-result
overflow_add-result c =
    let h = below c in
    omega (arith, h.0, h.1)

pub overflow_cast-result-2 : goal.overflow_cast-result-2
overflow_cast-result-2 c =
    let h = below c in
    omega (arith, h.0, h.1)

pub returns-clause-value : goal.returns-clause-value
returns-clause-value c block at =
    let n = c.args.self.now in
    let laid = subst (λ (m : Numbers). AreLaidOut m c.self.inside.firsts.items c.self.inside.blocks.items
    c.self.inside.starts.items) c.self.view_is c.self.invariant in
    let these : c.deref.result.now ≡ starts_of n (blocks_of n) = c.deref.ensures.value ∙ laid.starts_are in
    let same : c.requires.block ≡ block = cc (c.requires.is_block) in
    rw c.start_at.ensures (statement_at n c.deref.result.now c.args.place c.args.number block these at
    (rw same at c.requires.within))

pub returns-clause-few : goal.returns-clause-few
returns-clause-few c =
    let h = below c in
    omega (arith, h.0, h.1)
