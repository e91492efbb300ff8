-- A log has no unit of a pair that none of its statements is on.
use Rattle.std.proofs.Common.{◌≡◌, ◌∙◌, ◌==◌, ◌&&◌, ◌||◌, not, Bool, true, false, List, [], ◌∷◌, Option, Some, None, option_map, slice_get, refl, sym, ap, subst}
use Rattle.std.specs.List.{list_any}
use Rattle.std.proofs.lemmas.Bool.{false≢true}
use Rattle.std.proofs.lemmas.List.Elements.{All-head}
use Rattle.std.proofs.lemmas.List.Folds.{list_any_at}
use Rattle.std.proofs.lemmas.Option.{get_or_from_slice_get, slice_get_within}
use Rattle.currency_base.specs.Literals.{is_negative, var_of}
use Rattle.log_axioms.specs.Axioms.{before, is_said, same_sign, says_same}
use Rattle.log_units.specs.Units.{HasUnit}
use Rattle.refutation_log.specs.declared.log.Log.{Log}
use Rattle.refutation_log.specs.declared.statement.Statement.{Statement}
use Rattle.refutation_log.specs.declared.statement.Statement.TheVariants.{Before, Top, Last, Answer}
use Rattle.report_model.specs.declared.report.Report.{Report}
use Rattle.report_model.specs.declared.verdict.Verdict.{Verdict}
use Rattle.report_model.specs.declared.verdict.Verdict.TheVariants as verdict
use Rattle.report_verify.specs.Shown.{ShowsVerdict}
use Rattle.report_verify.specs.Supported.{IsDerived, IsSupported, pair_needs}
use Rattle.spec_model.specs.Spec.{Spec}
use Rattle.spec_model.specs.declared.question.Asked.{Asked}
use Rattle.spec_model.specs.declared.question.Question.TheVariants as asked
use Rattle.spec_model.specs.declared.relation.Relation.{Relation}
use Rattle.currency_session.specs.Looks.{is_on, names_first}

first_two : (c d y : Bool) → (c && d && y) ≡ true → (c && d) ≡ true
first_two false d y e = cc
first_two true false y e = cc
first_two true true y e = refl

without_signs : (r t a b c d x y : Bool) → ((r && t) && ((a && b && x) || (c && d && y))) ≡ true
    → (r && t && ((a && b) || (c && d))) ≡ true
without_signs false t a b c d x y e = cc
without_signs true false a b c d x y e = cc
without_signs true true true true c d x y e = refl
without_signs true true true false c d x y e = first_two c d y e
without_signs true true false b c d x y e = first_two c d y e

-- what says the same as that a pair holds is on the pair
says_on : (relations : List Relation) (p : Asked) (s : Statement) (negative : Bool)
    → says_same relations (record { statement = s; negative = negative })
    (before p.rel p.pair.attr p.pair.earlier p.pair.later) ≡ true
    → is_on p s ≡ true
says_on relations p (Before rel attr earlier later) negative e =
    without_signs (rel.0 == p.rel.0) (attr.0 == p.pair.attr.0) (earlier.0 == p.pair.earlier.0) (later.0 == p.pair.later.0)
    (earlier.0 == p.pair.later.0) (later.0 == p.pair.earlier.0) (same_sign negative false) (not (same_sign negative false)) e
says_on relations p (Top rel attr row) negative e = cc
says_on relations p (Last rel attr row) negative e = cc
says_on relations p (Answer tuple) negative e = cc

unit_is_on : (relations : List Relation) (log : Log) (p : Asked)
    → HasUnit relations log (before p.rel p.pair.attr p.pair.earlier p.pair.later) → list_any (is_on p) log.statements ≡ true
unit_is_on relations log p unit = go (slice_get log.statements (var_of unit.lit)) refl unit.says
  where
    go : (o : Option Statement) → slice_get log.statements (var_of unit.lit) ≡ o
        → is_said relations (before p.rel p.pair.attr p.pair.earlier p.pair.later)
        (option_map (λ (s : Statement). record { statement = s; negative = is_negative unit.lit })
        (slice_get log.statements (var_of unit.lit))) ≡ true
        → list_any (is_on p) log.statements ≡ true
    go None at said = let f = rw at at said in absurd (false≢true f)
    go (Some s) at said =
        let f = rw at at said in
        let here = get_or_from_slice_get log.statements (var_of unit.lit) s s at in
        list_any_at (is_on p) log.statements (var_of unit.lit) s (slice_get_within log.statements (var_of unit.lit) s at)
        (ap (is_on p) here ∙ says_on relations p s (is_negative unit.lit) f)

-- so a report of such a log does not show that the pair is certain
pub names_none : (s : Spec) (pairs : List Asked) (r : Report) → r.verdict ≡ verdict.Certain
    → names_first r.log.statements pairs ≡ false → ShowsVerdict s (asked.Certain pairs) r → ⊥
names_none s [] r is none shows = false≢true (sym none)
names_none s (p ∷ pairs) r is none shows =
    let supported : IsSupported s (asked.Certain (p ∷ pairs)) verdict.Certain r.completions r.log =
    subst (λ (v : Verdict). IsSupported s (asked.Certain (p ∷ pairs)) v r.completions r.log) is shows.supported in
    false≢true (sym none ∙ unit_is_on s.relations r.log p
    (All-head (IsDerived s.relations r.log) _ (pair_needs pairs) supported.1))
