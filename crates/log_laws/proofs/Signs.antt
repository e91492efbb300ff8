-- Literals by their signs: each is its variable's or the negation of it, and just one of a literal and its negation holds.
use Rattle.std.proofs.Common.{◌≡◌, ◌⊎◌, ℕ, ◌+◌, ◌*◌, ◌/◌, ◌%◌, ◌==◌, Bool, true, false, not, if◌then◌else◌, refl, sym, ap, ◌∙◌, inl, inr, ⊎_elim, arith, true≢false}
use Rattle.std.proofs.lemmas.Bool.{eqb-true, eqb-false, eq-eqb, ne_eqb}
use Rattle.currency_base.specs.Literals.{var_of, literal, negation}
use Rattle.currency_base.specs.declared.lit.Lit.{Lit}
use Rattle.refutation_log.specs.Counted.{holds}

-- the literal that is this number
abbrev pub lit_of : ℕ → Lit
lit_of n = record { 0 = n }

-- the literal is its variable's, of this sign, and its negation the one of the other sign
pub record IsOfSign (lit : Lit) (negative : Bool) : Type 0 where
  pub itself : literal (var_of lit) negative ≡ lit
  pub negated : negation lit ≡ literal (var_of lit) (not negative)

pub signs : (lit : Lit) → IsOfSign lit false ⊎ IsOfSign lit true
signs lit = go (lit.0 % 2 == 1) refl
  where
    flipped : Bool → Lit
    flipped b = if b then lit_of (2 * (lit.0 / 2)) else lit_of (2 * (lit.0 / 2) + 1)

    go : (negative : Bool) → (lit.0 % 2 == 1) ≡ negative → IsOfSign lit false ⊎ IsOfSign lit true
    go false e =
        let even = eqb-false (lit.0 % 2) 1 e in
        let is : 2 * (lit.0 / 2) ≡ lit.0 = omega arith in
        inl (record { itself = ap lit_of is; negated = ap flipped e })
    go true e =
        let odd = eqb-true (lit.0 % 2) 1 e in
        let is : 2 * (lit.0 / 2) + 1 ≡ lit.0 = omega arith in
        inr (record { itself = ap lit_of is; negated = ap flipped e })

-- ---- where each variable has a truth

-- what a literal of this variable and sign is
abbrev sign_holds : (ℕ → Bool) → ℕ → Bool → Bool
sign_holds truth var negative = if negative then not (truth var) else truth var

holds_positive : (truth : ℕ → Bool) (var : ℕ) → holds truth (literal var false) ≡ truth var
holds_positive truth var =
    let half : 2 * var / 2 ≡ var = omega arith in
    let even : (2 * var % 2 == 1) ≡ false = ne_eqb (2 * var % 2) 1 (λ e. omega (arith, e)) in
    ap (sign_holds truth (2 * var / 2)) even ∙ ap truth half

holds_negative : (truth : ℕ → Bool) (var : ℕ) → holds truth (literal var true) ≡ not (truth var)
holds_negative truth var =
    let half : (2 * var + 1) / 2 ≡ var = omega arith in
    let odd : ((2 * var + 1) % 2 == 1) ≡ true = eq-eqb ((2 * var + 1) % 2) 1 (omega arith) in
    ap (sign_holds truth ((2 * var + 1) / 2)) odd ∙ ap (λ v. not (truth v)) half

-- a literal and its negation do not both hold
pub holds_once : (truth : ℕ → Bool) (lit : Lit) → holds truth lit ≡ true → holds truth (negation lit) ≡ true → ⊥
holds_once truth lit one other = ⊎_elim
    (λ (p : IsOfSign lit false). both (truth (var_of lit)) (positive ∙ ap (holds truth) p.itself ∙ one)
    (negative ∙ sym (ap (holds truth) p.negated) ∙ other))
    (λ (n : IsOfSign lit true). both (truth (var_of lit)) (positive ∙ sym (ap (holds truth) n.negated) ∙ other)
    (negative ∙ ap (holds truth) n.itself ∙ one))
    (signs lit)
  where
    positive : truth (var_of lit) ≡ holds truth (literal (var_of lit) false)
    positive = sym (holds_positive truth (var_of lit))

    negative : not (truth (var_of lit)) ≡ holds truth (literal (var_of lit) true)
    negative = sym (holds_negative truth (var_of lit))

    both : (b : Bool) → b ≡ true → not b ≡ true → ⊥
    both true e n = true≢false (sym n)
    both false e n = true≢false (sym e)
