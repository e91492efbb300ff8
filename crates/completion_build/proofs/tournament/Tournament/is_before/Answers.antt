use Rattle.std.proofs.Common.{◌≡◌, false, not, eqb, sym, ap, subst}
use Rattle.std.proofs.lemmas.Bool.{OnFalse_from, OnFalse_at}
use Rattle.completion_build.specs.Contests.{Contest, Beats}
use Rattle.completion_build.proofs.Decisions.{not_both, not_put}
use Rattle.completion_build.proofs.tournament.Tournament.is_before.Goals as goal

pub returns-then-first-second-clause-no : goal.returns-then-first-second-clause-no
returns-then-first-second-clause-no c =
    OnFalse_from _ _ (λ (is : c.puts.result ≡ false).
    not_put c.pairs_are_decided.ensures.exclude c.args.self.now c.self.inside.rows.now
    (ap (λ (v : Contest). v.rows) c.self.view_is) (record { 0 = 0 }) c.args.first c.args.second
    c.requires.first c.requires.second (OnFalse_at is c.puts.ensures.no))

pub returns-else-first-second-clause-no : goal.returns-else-first-second-clause-no
returns-else-first-second-clause-no c =
    let t = c.args.self.now in
    let i = c.args.first in
    let none : Beats t i c.args.second → ⊥ = λ beats.
    let itself = subst (Beats t i) (sym c.if-first-second.false) beats in
    not_both c.pairs_are_decided.ensures.exclude t i i itself itself in
    OnFalse_from (not (eqb i c.args.second)) (Beats t i c.args.second → ⊥) (λ _. none)
