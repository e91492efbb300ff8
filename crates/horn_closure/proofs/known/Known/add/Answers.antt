use Rattle.std.proofs.Common.{◌≡◌, ◌<◌, ◌++◌, ◌∷◌, ◌∙◌, [], List, Some, length, slice_get, ap, subst, arith, rules}
use Rattle.horn_closure.specs.Steps.{Derivation, IsAdded}
use Rattle.horn_closure.specs.declared.derived.Derived.{Derived}
use Rattle.horn_closure.proofs.Derivations.{added_none, added_one}
use Rattle.horn_closure.proofs.KnownFacts.{known_few, known_more, known_room, known_there, read_there}
use Rattle.horn_closure.proofs.known.Known.add.Goals as goal

pub returns-then-index-ne0-clause-ok : goal.returns-then-index-ne0-clause-ok
returns-then-index-ne0-clause-ok c =
    let within : c.args.slot < length c.self.inside.places.items =
    omega (arith, ap (λ (k : Derivation). k.cells) c.self.view_is, c.requires) in
    subst (λ (ds : List Derived). IsAdded ds c.args.slot c.args.why ds) (ap (λ (k : Derivation). k.derived) c.self.view_is)
    (added_none _ _ _ (known_there _ _ _ within c.index.ensures _ c.self.invariant c.if-index-ne0.true))

pub overflow_cast-place : goal.overflow_cast-place
overflow_cast-place c =
    omega (arith, known_few _ _ c.self.invariant, c.self.invariant.few, c.len-place.ensures, c.self.inside.derived.ok.0)

pub overflow_add-place : goal.overflow_add-place
overflow_add-place c =
    let within : c.args.slot < length c.self.inside.places.items =
    omega (arith, ap (λ (k : Derivation). k.cells) c.self.view_is, c.requires) in
    let none : slice_get c.self.inside.places.items c.args.slot ≡ Some 0 = read_there _ _ _ within c.index.ensures
    ∙ ap Some c.if-index-ne0.false in
    omega (
      arith,
      known_room _ _ c.args.slot c.self.invariant none,
      c.self.invariant.few,
      c.len-place.ensures,
      c.self.inside.derived.ok.0,
    )

pub invariant_of-self-2 : goal.invariant_of-self-2
invariant_of-self-2 c =
    let within : c.args.slot < length c.self.inside.places.items =
    omega (arith, ap (λ (k : Derivation). k.cells) c.self.view_is, c.requires) in
    let none : slice_get c.self.inside.places.items c.args.slot ≡ Some 0 = read_there _ _ _ within c.index.ensures
    ∙ ap Some c.if-index-ne0.false in
    let items : c.push.new.self.items ≡ c.self.inside.derived.items
    ++ record { slot = c.args.slot; why = c.args.why } ∷ [] = search rules in
    let place : c.len-place.result ≡ length c.self.inside.derived.items =
    omega (arith, c.len-place.ensures, c.self.inside.derived.ok.0) in
    rw (items, place) (known_more _ _ c.self.invariant c.args.slot c.args.why none)

pub returns-clause-ok : goal.returns-clause-ok
returns-clause-ok c =
    let items : c.push.new.self.items ≡ c.self.inside.derived.items
    ++ record { slot = c.args.slot; why = c.args.why } ∷ [] = search rules in
    rw items
    (subst (λ (ds : List Derived). IsAdded ds c.args.slot c.args.why (c.self.inside.derived.items
    ++ record { slot = c.args.slot; why = c.args.why } ∷ []))
    (ap (λ (k : Derivation). k.derived) c.self.view_is) (added_one _ _ _))
