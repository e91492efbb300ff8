use Rattle.std.proofs.Common.{subst}
use Rattle.std.specs.List.{All, Contains}
use Rattle.std.proofs.lemmas.Bool.{false≢true}
use Rattle.std.proofs.lemmas.List.{take_all}
use Rattle.std.proofs.lemmas.List.Elements.{All-contains, All-more}
use Rattle.query_model.specs.declared.query.Atom.{Atom}
use Rattle.query_model.specs.declared.query.Term.TheVariants.{Var}
use Rattle.ucq_answers.proofs.fits.stands_in.Goals as goal

pub loop-atom-preserved : goal.loop-atom-preserved
loop-atom-preserved c =
    let P : Atom → Type 0 = λ atom. Contains atom.terms (Var c.args.var) → ⊥ in
    let here : P c.atom-item.result = λ is. false≢true (c.if-stands_at.ensures.1 is) in
    All-more P c.args.atoms.now c.loop-atom.atom-index c.atom-item.result c.loop-atom-test.true c.loop-atom.invariant
    (subst P c.atom-item.is here)

pub returns : goal.returns
returns c =
    let P : Atom → Type 0 = λ atom. Contains atom.terms (Var c.args.var) → ⊥ in
    let all = subst (All P) (take_all c.loop-atom.atom-index c.args.atoms.now c.loop-atom-test.false) c.loop-atom.invariant in
    (λ t. absurd (false≢true t), λ is. absurd (All-contains P c.args.atoms.now is.atom all is.is_atom is.stands))
