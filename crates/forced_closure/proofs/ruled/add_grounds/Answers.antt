use Rattle.std.proofs.Common.{◌≡◌, ◌∙◌, ◌+◌, ◌<◌, List, length, sym, ap, subst, arith}
use Rattle.std.proofs.lemmas.Option.{same_Some}
use Rattle.currency_base.specs.declared.ids.RowId.{RowId}
use Rattle.forced_closure.specs.Clauses.{OfGrounds, OfGroundsAt}
use Rattle.forced_closure.specs.declared.origin.Origin.TheVariants as origin
use Rattle.forced_closure.proofs.Adding.{adds_none, adds_then, adds_as, grounds_cases}
use Rattle.forced_closure.proofs.ruled.add_grounds.Goals as goal

pub grounds_of-requires : goal.grounds_of-requires
grounds_of-requires c = omega (arith, c.spec.ensures.facts.rules.per_rule, c.requires.rule)

pub loop-ground-init : goal.loop-ground-init
loop-ground-init c = adds_none c.args.subject.now c.args.gathered.now (OfGrounds c.args.rule 0)
    (λ o is. absurd (omega (arith, is.below)))

pub push_ground-requires-clause-ground : goal.push_ground-requires-clause-ground
push_ground-requires-clause-ground c grounds at =
    let same = same_Some c.grounds_of.result.now grounds (sym c.grounds_of.ensures ∙ at) in
    subst (λ (g : List (List RowId)). c.loop-ground.ground < length g) same (omega arith)

pub loop-ground-preserved : goal.loop-ground-preserved
loop-ground-preserved c =
    adds_then c.args.subject.now c.args.gathered.now c.loop-ground.gathered c.push_ground.new.gathered
    (OfGrounds c.args.rule c.loop-ground.ground)
    (λ o. o ≡ origin.Rule c.args.rule c.loop-ground.ground) (OfGrounds c.args.rule (c.loop-ground.ground + 1))
    c.loop-ground.invariant c.in_ok-push_ground.ensures
    (λ o is. grounds_cases c.args.rule c.loop-ground.ground o is)

pub returns : goal.returns
returns c =
    adds_as c.args.subject.now c.args.gathered.now c.loop-ground.gathered
    (OfGrounds c.args.rule c.loop-ground.ground) (OfGroundsAt c.args.subject.now c.args.rule)
    c.loop-ground.invariant (λ o is.
    let same = same_Some is.grounds c.grounds_of.result.now (sym is.are_grounds ∙ c.grounds_of.ensures) in
    record {
      ground = is.of.ground;
      below = omega (
        arith,
        is.of.below,
        ap (λ (g : List (List RowId)). length g)
            same,
      );
      is = is.of.is;
    })
