use Rattle.std.proofs.Common.{◌<◌, length, ap, refl, arith}
use Rattle.std.proofs.lemmas.Option.{slice_get_read}
use Rattle.horn_closure.specs.Steps.{Derivation}
use Rattle.horn_closure.proofs.KnownFacts.{known_within}
use Rattle.horn_closure.proofs.known.Known.slot.Goals as goal

pub returns-clause-within : goal.returns-clause-within
returns-clause-within c =
    let there : c.args.place < length c.self.inside.derived.items =
    omega (arith, ap (λ (k : Derivation). length k.derived) c.self.view_is, c.requires) in
    let at = slice_get_read c.self.inside.derived.items _ c.args.place _ refl there c.index.ensures in
    omega (arith, known_within _ _ c.self.invariant c.args.place _ at, ap (λ (k : Derivation). k.cells) c.self.view_is)
