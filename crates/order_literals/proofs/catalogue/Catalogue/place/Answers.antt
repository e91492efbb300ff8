use Rattle.std.proofs.Common.{◌≡◌, ◌∙◌, ap}
use Rattle.order_literals.specs.Numbers.{Numbers}
use Rattle.order_literals.proofs.catalogue.Catalogue.place.Goals as goal

pub returns : goal.returns
returns c =
    let n = c.args.self.now in
    let same : c.deref.result.now ≡ n.tables = c.deref.ensures.value ∙ ap (λ (m : Numbers). m.tables) c.self.view_is in
    rw same at (c.place_of.ensures n.answers)
