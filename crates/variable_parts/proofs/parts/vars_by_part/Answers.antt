use Rattle.std.proofs.Common.{◌∙◌}
use Rattle.std.proofs.lemmas.Result.{IfOk-weaker}
use Rattle.variable_parts.specs.Told.{Divided}
use Rattle.variable_parts.proofs.Parting.{keys_below, parts_are}
use Rattle.variable_parts.proofs.parts.vars_by_part.Goals as goal

pub places_by_key-requires-clause-within : goal.places_by_key-requires-clause-within
places_by_key-requires-clause-within c =
    let d : Divided = record { spec = c.args.spec.now; wanted = c.args.wanted.now; ties = c.args.ties.now } in
    rw (c.count-count.ensures, c.deref.ensures.value, c.in_ok-keys.ensures.keys) (keys_below d c.requires.ties)

pub returns : goal.returns
returns c =
    let d : Divided = record { spec = c.args.spec.now; wanted = c.args.wanted.now; ties = c.args.ties.now } in
    IfOk-weaker c.places_by_key.result _ _ (λ lists listed.
    parts_are d c.requires.ties c.args.numbering.now c.deref.result.now c.count-count.result lists c.requires.numbering
    (c.deref.ensures.value ∙ c.in_ok-keys.ensures.keys) c.count-count.ensures listed) c.places_by_key.ensures
