-- A literal is its variable and its sign; its negation has the other sign.
use Rattle.std.proofs.Common.{◌≡◌, ◌⊎◌, ◌+◌, ◌*◌, ◌/◌, ◌%◌, ◌==◌, ◌∙◌, ℕ, Bool, true, false, not, if◌then◌else◌, refl, sym, ap, inl, inr, arith}
use Rattle.std.proofs.lemmas.Bool.{eqb-true, eqb-false, eq-eqb, ne_eqb}
use Rattle.currency_base.specs.Literals.{is_negative, negation, var_of}
use Rattle.currency_base.specs.declared.lit.Lit.{Lit}

-- the literal of that number
abbrev lit_of : ℕ → Lit
lit_of n = record { 0 = n }

pub same_parts : (a b : Lit) → var_of a ≡ var_of b → is_negative a ≡ is_negative b → a ≡ b
same_parts a b var sign = go (is_negative a) (is_negative b) refl refl sign
  where
    go : (x y : Bool) → is_negative a ≡ x → is_negative b ≡ y → is_negative a ≡ is_negative b → a ≡ b
    go true true p q s =
        let one = eqb-true (a.0 % 2) 1 p in
        let other = eqb-true (b.0 % 2) 1 q in
        let n : a.0 ≡ b.0 = omega (arith, one, other, var) in
        ap lit_of n
    go false false p q s =
        let one = eqb-false (a.0 % 2) 1 p in
        let other = eqb-false (b.0 % 2) 1 q in
        let n : a.0 ≡ b.0 = omega (arith, one, other, var) in
        ap lit_of n
    go true false p q s = let no : ⊥ = cc in absurd no
    go false true p q s = let no : ⊥ = cc in absurd no

-- the parts of a negation
pub record AreOtherParts (lit other : Lit) : Type 0 where
  pub var : var_of other ≡ var_of lit
  pub sign : is_negative other ≡ not (is_negative lit)

pub other_parts : (lit : Lit) → AreOtherParts lit (negation lit)
other_parts lit = go (lit.0 % 2 == 1) refl
  where
    flipped : Bool → Lit
    flipped b = if b then lit_of (2 * (lit.0 / 2)) else lit_of (2 * (lit.0 / 2) + 1)

    go : (b : Bool) → (lit.0 % 2 == 1) ≡ b → AreOtherParts lit (flipped (lit.0 % 2 == 1))
    go true e =
        let even : ((2 * (lit.0 / 2)) % 2 == 1) ≡ false = ne_eqb ((2 * (lit.0 / 2)) % 2) 1 (λ h. omega (arith, h)) in
        rw e (record { var = omega arith; sign = even ∙ ap not (sym e) })
    go false e =
        let odd : ((2 * (lit.0 / 2) + 1) % 2 == 1) ≡ true = eq-eqb ((2 * (lit.0 / 2) + 1) % 2) 1 (omega arith) in
        rw e (record { var = omega arith; sign = odd ∙ ap not (sym e) })

pub not_twice : (b : Bool) → not (not b) ≡ b
not_twice true = refl
not_twice false = refl

-- a literal of the same variable and the other sign is the negation
pub is_other : (lit other : Lit) → var_of other ≡ var_of lit → is_negative other ≡ not (is_negative lit) → other ≡ negation lit
is_other lit other var sign =
    let parts = other_parts lit in
    same_parts other (negation lit) (var ∙ sym parts.var) (sign ∙ sym parts.sign)

pub negated_twice : (lit : Lit) → negation (negation lit) ≡ lit
negated_twice lit =
    let once = other_parts lit in
    let twice = other_parts (negation lit) in
    same_parts (negation (negation lit)) lit (twice.var ∙ once.var) (twice.sign ∙ ap not once.sign ∙ not_twice (is_negative lit))

pub same_negated : (a b : Lit) → negation a ≡ negation b → a ≡ b
same_negated a b same = sym (negated_twice a) ∙ ap negation same ∙ negated_twice b

-- a sign is that of a literal or of its negation
pub sign_cases : (lit : Lit) (b : Bool) → (b ≡ is_negative lit) ⊎ (b ≡ not (is_negative lit))
sign_cases lit b = go b (is_negative lit)
  where
    go : (b n : Bool) → (b ≡ n) ⊎ (b ≡ not n)
    go true true = inl refl
    go true false = inr refl
    go false true = inr refl
    go false false = inl refl
