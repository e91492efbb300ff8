use Rattle.std.proofs.Common.{◌↔◌, Bool, true, false, IsTrue, List, refl, subst}
use Rattle.std.specs.Bool.{OnTrue}
use Rattle.std.specs.List.{All}
use Rattle.query_model.specs.Fitting.{IsDisjunct, IsQuery}
use Rattle.query_model.specs.declared.query.Disjunct.{Disjunct}
use Rattle.ucq_answers.proofs.fits.is_query.Goals as goal

on_true : (b : Bool) (P : Type 0) → (IsTrue b → P) → OnTrue b P
on_true true P from = from refl
on_true false P from = tt

pub returns-clause-fits : goal.returns-clause-fits
returns-clause-fits c =
    let told = subst (λ (l : List Disjunct). IsTrue c.are_disjuncts.result ↔ All IsDisjunct l) c.as_slice.ensures
    c.are_disjuncts.ensures in
    on_true c.are_disjuncts.result (IsQuery c.args.query.now) told.0

pub returns-clause-all : goal.returns-clause-all
returns-clause-all c = λ all.
    let told = subst (λ (l : List Disjunct). IsTrue c.are_disjuncts.result ↔ All IsDisjunct l) c.as_slice.ensures
    c.are_disjuncts.ensures in
    told.1 all
