use Rattle.std.proofs.Common.{◌+◌}
use Rattle.std.proofs.lemmas.Result.{IfOk-weaker}
use Rattle.part_conflicts.specs.Steps.{AreDecidedTo, IsPartDecided}
use Rattle.part_conflicts.proofs.Listing.{one_decided, part_within}
use Rattle.part_conflicts.proofs.parts.decide.Goals as goal

pub decide_alone-requires : goal.decide_alone-requires
decide_alone-requires g c = record {
  within = part_within c.args.spec.now c.args.ties.now c.args.number c.in_ok-part.part c.parts_are_within.ensures
      c.requires.within c.in_ok-part.ensures c.is_specification.ensures;
}

pub returns : goal.returns
returns g c =
    let s = c.args.spec.now in
    let t = c.args.ties.now in
    let old = c.args.found.now in
    let new = c.decide_alone.new.found in
    IfOk-weaker c.decide_alone.result (IsPartDecided c.in_ok-part.part c.args.budget old new)
    (AreDecidedTo s t c.args.budget (c.args.number + 1) new)
    (one_decided s t c.args.budget c.args.number old new c.in_ok-part.part c.requires.earlier c.in_ok-part.ensures)
    c.decide_alone.ensures
