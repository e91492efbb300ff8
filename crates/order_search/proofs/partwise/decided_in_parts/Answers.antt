use Rattle.std.proofs.Common.{◌∙◌, ap, arith, length, refl}
use Rattle.std.proofs.lemmas.Option.{IfSome_then}
use Rattle.variable_parts.specs.Parts.{Parted}
use Rattle.order_search.specs.Kept.{search_of}
use Rattle.order_search.proofs.Growing.{added_then, same_added}
use Rattle.order_search.proofs.PartMade.{all_done, done_more, done_none, ends_tell, same_itself, same_then}
use Rattle.order_search.proofs.partwise.decided_in_parts.Goals as goal

pub loop-part-init : goal.loop-part-init
loop-part-init g c = record {
  held = c.requires.held;
  added = same_added c.args.progress.now.solver c.args.progress.now.solver refl refl;
  tied = c.requires.tied;
  same = same_itself c.args.parting.now;
  units = refl;
  goal_false = c.requires.goal;
  own_done = c.requires.own;
  done = done_none c.args.parting.now.known.done;
}

pub decide_left-requires-clause-part : goal.decide_left-requires-clause-part
decide_left-requires-clause-part g c =
    omega (
      arith,
      c.loop-part-test.true,
      c.count-count.ensures.value,
      ap (λ (p : Parted). length p.parts) c.loop-part.invariant.same.parts,
    )

pub loop-part-preserved : goal.loop-part-preserved
loop-part-preserved g c = record {
  held = c.decide_left.ensures.held;
  added = added_then c.args.progress.now.solver c.loop-part.progress.solver c.decide_left.new.progress.solver
      c.loop-part.invariant.added c.decide_left.ensures.added;
  tied = c.decide_left.ensures.tied;
  same = same_then c.args.parting.now c.loop-part.parting c.decide_left.new.parting c.loop-part.invariant.same
      c.decide_left.ensures.same;
  units = c.decide_left.ensures.units ∙ c.loop-part.invariant.units;
  goal_false = c.decide_left.ensures.goal;
  own_done = IfSome_then c.args.own c.loop-part.invariant.own_done (λ part is. c.decide_left.ensures.kept part is);
  done = done_more c.decide_left.new.parting.known.done c.loop-part.part
      (λ other below. c.decide_left.ensures.kept other (c.loop-part.invariant.done other below))
      (rw c.in-Ok-None.field-0-is at c.in-Ok-None.ensures.done);
}

pub returns-in-Ok-Some-clause-added : goal.returns-in-Ok-Some-clause-added
returns-in-Ok-Some-clause-added g c =
    added_then c.args.progress.now.solver c.loop-part.progress.solver c.decide_left.new.progress.solver
    c.loop-part.invariant.added c.decide_left.ensures.added

pub returns-in-Ok-Some-clause-found : goal.returns-in-Ok-Some-clause-found
returns-in-Ok-Some-clause-found g c =
    ends_tell (search_of c.args.subject.now c.decide_left.new.progress.solver) c.args.goal c.decide_left.new.budget
    c.in-Ok-Some.outcome (rw c.in-Ok-Some.field-0-is at c.in-Ok-Some.ensures.ended)

pub returns-in-Err-clause-added : goal.returns-in-Err-clause-added
returns-in-Err-clause-added g c =
    added_then c.args.progress.now.solver c.loop-part.progress.solver c.decide_left.new.progress.solver
    c.loop-part.invariant.added c.decide_left.ensures.added

pub told-requires-clause-whole : goal.told-requires-clause-whole
told-requires-clause-whole g c =
    all_done c.args.subject.now c.loop-part.parting c.loop-part.part c.loop-part.invariant.tied.parting
    (omega (
      arith,
      c.loop-part-test.false,
      c.count-count.ensures.value,
      ap (λ (p : Parted). length p.parts) c.loop-part.invariant.same.parts,
    ))
    c.loop-part.invariant.done

pub returns-clause-found : goal.returns-clause-found
returns-clause-found g c = c.told.ensures c.loop-part.budget
