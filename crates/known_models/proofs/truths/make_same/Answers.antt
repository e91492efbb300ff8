use Rattle.std.proofs.Common.{◌≡◌, ◌<◌, ℕ, List, Some, get_or, length, map, take, subst, arith}
use Rattle.std.proofs.lemmas.List.{take_all, take_more}
use Rattle.std.proofs.lemmas.List.Elements.{All-get_or}
use Rattle.known_models.specs.Changes.{Takes}
use Rattle.known_models.proofs.Putting.{as_value, made_same, takes_more}
use Rattle.known_models.proofs.truths.make_same.Goals as goal

pub loop-var-preserved : goal.loop-var-preserved
loop-var-preserved c =
    let vars = c.args.vars.now in
    let other = c.args.other.now in
    let at = c.loop-var.var-index in
    let var = get_or vars at 0 in
    let within = All-get_or (λ var. var < length c.args.truths.now) vars at 0 c.loop-var-test.true c.requires.within in
    rw (take_more vars at 0 c.loop-var-test.true, c.set.ensures)
    (takes_more (take at vars) (map Some other) c.args.truths.now c.loop-var.truths var c.value.result within
    (as_value other var c.value.result c.value.ensures) c.loop-var.invariant)

pub returns : goal.returns
returns c =
    let vars = c.args.vars.now in
    let at = c.loop-var.var-index in
    let all : take at vars ≡ vars = take_all at vars (omega (arith, c.loop-var-test.false)) in
    made_same vars c.args.truths.now c.loop-var.truths c.args.other.now c.requires.many c.requires.others
    (subst (λ (vs : List ℕ). Takes vs (map Some c.args.other.now) c.args.truths.now c.loop-var.truths) all
    c.loop-var.invariant)
