use Rattle.std.proofs.Common.{◌≡◌, refl, subst}
use Rattle.std.specs.List.{All}
use Rattle.std.proofs.lemmas.Bool.{false≢true}
use Rattle.std.proofs.lemmas.List.{take_all}
use Rattle.std.proofs.lemmas.List.Elements.{All-contains, All-more}
use Rattle.query_model.specs.declared.query.Term.{Term}
use Rattle.query_model.specs.declared.query.Term.TheVariants.{Var}
use Rattle.ucq_answers.proofs.fits.is_among.Goals as goal

pub loop-term-preserved : goal.loop-term-preserved
loop-term-preserved c =
    let P : Term → Type 0 = λ term. term ≡ Var c.args.var → ⊥ in
    let here : P c.term-item.result = λ is. false≢true (c.if-is_variable.ensures.1 is) in
    All-more P c.args.terms.now c.loop-term.term-index c.term-item.result c.loop-term-test.true c.loop-term.invariant
    (subst P c.term-item.is here)

pub returns : goal.returns
returns c =
    let P : Term → Type 0 = λ term. term ≡ Var c.args.var → ⊥ in
    let all = subst (All P) (take_all c.loop-term.term-index c.args.terms.now c.loop-term-test.false) c.loop-term.invariant in
    (λ t. absurd (false≢true t), λ is. absurd (All-contains P c.args.terms.now (Var c.args.var) all is refl))
