use Rattle.std.proofs.Common.{◌≡◌, ◌∙◌, ◌<◌, ℕ, Bool, false, List, length, replicate, sym, ap, subst, refl, rules}
use Rattle.currency_base.specs.Literals.{var_of}
use Rattle.currency_base.specs.declared.lit.Lit.{Lit}
use Rattle.log_trim.specs.Trimmed.{lits_at}
use Rattle.log_trim.specs.Marked.{vars_at, gathered, IsMarkedWhere, IsOfMarked}
use Rattle.std.proofs.lemmas.List.Elements.{All-map}
use Rattle.log_trim.proofs.Closure.{gathered_marked}
use Rattle.log_trim.proofs.Marking.{gathered_step, in_range}
use Rattle.log_trim.proofs.needs.used_statements.Goals as goal

pub mark_vars_at-requires-clause-vars : goal.mark_vars_at-requires-clause-vars
mark_vars_at-requires-clause-vars c =
    in_range (λ (lit : Lit). var_of lit) _ _ _ _ refl c.loop-place.invariant.count (c.requires.vars c.loop-place.place)

pub loop-place-preserved : goal.loop-place-preserved
loop-place-preserved c =
    let steps = c.args.log.now.steps in
    let place = c.loop-place.place in
    record {
      count = c.mark_vars_at.ensures.count ∙ c.loop-place.invariant.count;
      all =
          gathered_step c.args.kept.now (vars_at steps) place _ c.loop-place.marks _ c.is_marked-told.result (vars_at steps place)
          c.is_marked-told.ensures refl c.loop-place.invariant.all c.mark_vars_at.ensures.value;
    }

pub returns-clause-marked : goal.returns-clause-marked
returns-clause-marked c =
    let steps = c.args.log.now.steps in
    let count = length c.args.log.now.statements in
    let all_steps : c.loop-place.place ≡ length steps = search rules in
    let same : c.loop-place.marks ≡ gathered c.args.kept.now (vars_at steps) (length steps) (replicate count false) =
    c.loop-place.invariant.all ∙ ap (λ (n : ℕ). gathered c.args.kept.now (vars_at steps) n (replicate count false)) all_steps in
    subst (λ (marks : List Bool). IsMarkedWhere marks (IsOfMarked c.args.kept.now (vars_at steps) (length steps))) (sym same)
    (gathered_marked c.args.kept.now (vars_at steps) (length steps) count
    (λ place. All-map (λ var. var < count) var_of (lits_at steps place) (c.requires.vars place)))
