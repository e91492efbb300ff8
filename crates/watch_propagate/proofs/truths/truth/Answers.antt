use Rattle.std.proofs.Common.{◌≡◌, ◌∙◌, ℕ, Bool, true, false, not, Option, Some, length, slice_get, refl, sym, ap, arith}
use Rattle.std.proofs.lemmas.Bool.{false≢true}
use Rattle.std.proofs.lemmas.Option.{same_Some}
use mathlib.Core.Bool.{beq}
use Rattle.currency_base.specs.Literals.{var_of}
use Rattle.currency_base.specs.declared.lit.Lit.{Lit}
use Rattle.search_trail.specs.Trails.{ScopedValues, Trail, lits_of, value_in, values_of}
use Rattle.search_trail.proofs.KnownValues.{as_many_values, is_value}
use Rattle.watch_propagate.proofs.WalkLits.{negation_var, value_true, value_false, value_open}
use Rattle.watch_propagate.proofs.truths.truth.Goals as goal

-- the value that was read is the one that the trail's literals give
value_read : (t : Trail) (lit : Lit) (values : ScopedValues) (var : ℕ) (r : Option Bool) → values ≡ values_of t
    → var ≡ var_of lit
    → slice_get values.given var ≡ Some r → value_in (lits_of t) (var_of lit) ≡ r
value_read t lit values var r all of read =
    is_value t (var_of lit) r (ap (slice_get (values_of t).given) (sym of)
    ∙ ap (λ (vs : ScopedValues). slice_get vs.given var) (sym all) ∙ read)

differ : (b negative : Bool) → not (beq b negative) ≡ true → not negative ≡ b
differ true true e = absurd (false≢true e)
differ true false e = refl
differ false true e = refl
differ false false e = absurd (false≢true e)

agree : (b negative : Bool) → not (beq b negative) ≡ false → negative ≡ b
agree true true e = refl
agree true false e = absurd (false≢true (sym e))
agree false true e = absurd (false≢true (sym e))
agree false false e = refl

pub value-requires : goal.value-requires
value-requires c =
    let many : length c.values.result.now.given ≡ c.args.trail.now.vars =
    ap (λ (vs : ScopedValues). length vs.given) c.values.ensures
    ∙ as_many_values c.args.trail.now in
    omega (arith, c.requires, c.var.ensures.value, many)

pub returns-in_err-value-clause-open : goal.returns-in_err-value-clause-open
returns-in_err-value-clause-open c =
    let t = c.args.trail.now in
    let lit = c.args.lit in
    let none = value_read t lit _ _ _ c.values.ensures c.var.ensures.value c.value.ensures ∙ c.in_err-value.was in
    λ e. record {
      not_true = value_open (lits_of t) lit lit none refl;
      not_false = value_open (lits_of t) lit _ none (negation_var lit);
    }

pub returns-in_err-value-clause-free : goal.returns-in_err-value-clause-free
returns-in_err-value-clause-free c =
    λ e. value_read c.args.trail.now c.args.lit _ _ _ c.values.ensures c.var.ensures.value c.value.ensures ∙ c.in_err-value.was

pub returns-clause-holds : goal.returns-clause-holds
returns-clause-holds c =
    let some = value_read c.args.trail.now c.args.lit _ _ _ c.values.ensures c.var.ensures.value c.value.ensures
    ∙ c.in_ok-value.was in
    λ e. value_true (lits_of c.args.trail.now) c.args.lit c.in_ok-value.value some
    (ap not (sym c.negative.ensures) ∙ differ c.in_ok-value.value c.negative.result (same_Some _ true e))

pub returns-clause-fails : goal.returns-clause-fails
returns-clause-fails c =
    let some = value_read c.args.trail.now c.args.lit _ _ _ c.values.ensures c.var.ensures.value c.value.ensures
    ∙ c.in_ok-value.was in
    λ e. value_false (lits_of c.args.trail.now) c.args.lit c.in_ok-value.value some
    (sym c.negative.ensures ∙ agree c.in_ok-value.value c.negative.result (same_Some _ false e))
