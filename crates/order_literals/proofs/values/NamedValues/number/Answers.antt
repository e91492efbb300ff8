use Rattle.std.proofs.Common.{[], slice_index_or, sym, subst}
use Rattle.order_literals.specs.Held.{IsAmong}
use Rattle.order_literals.proofs.Firsts.{among_firsts}
use Rattle.order_literals.proofs.values.NamedValues.number.Goals as goal

pub place_among-requires : goal.place_among-requires
place_among-requires c =
    let names = slice_index_or c.args.self.now c.args.attr.0 [] in
    subst (λ rows. IsAmong rows c.args.row) (sym c.firsts.ensures) (among_firsts names c.args.row c.requires.named)
