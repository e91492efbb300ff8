use Rattle.std.proofs.Common.{◌≡◌, ◌∙◌, ℕ, All, Contains, length, take, ap, subst, arith}
use Rattle.std.proofs.Math.Seq.{take-length}
use Rattle.std.proofs.lemmas.List.Elements.{All-contains, All-more}
use Rattle.search_state.proofs.leaving.is_part.Goals as goal

pub loop-lit-preserved : goal.loop-lit-preserved
loop-lit-preserved c =
    All-more (Contains c.args.of.now) c.args.lits.now c.loop-lit.lit-index (record { 0 = 0 }) c.loop-lit-test.true
    c.loop-lit.invariant (c.is_in.ensures c.if-not-is_in.false)

pub returns : goal.returns
returns c = λ yes lit h.
    let below = c.loop-lit.auto.lit-index-end in
    let above = c.loop-lit-test.false in
    let same : c.loop-lit.lit-index ≡ length c.args.lits.now = omega (arith, below, above) in
    All-contains (Contains c.args.of.now) c.args.lits.now lit
    (subst (All (Contains c.args.of.now)) (ap (λ (n : ℕ). take n c.args.lits.now) same ∙ take-length c.args.lits.now)
    c.loop-lit.invariant) h
