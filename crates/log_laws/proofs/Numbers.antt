-- A clause over so many variables as a number: to base 3, with one digit for each variable.
use Rattle.std.proofs.Common.{◌≡◌, ◌≢◌, ℕ, zero, suc, ◌+◌, ◌*◌, ◌^◌, ◌<◌, eqb, Bool, true, false, cond, List, All, Contains, refl, sym, ap, subst, ◌∙◌, ⊎_elim, arith, pow-suc}
use Rattle.std.specs.List.{list_any}
use Rattle.std.specs.Cmp.{nat_eq_equiv, on_equiv}
use Rattle.std.proofs.lemmas.Bool.{cases_eq, eqb-true, false_from_ne_true}
use Rattle.std.proofs.lemmas.Nat.{mul-add-lt, same_from_place}
use Rattle.std.proofs.lemmas.List.Elements.{All-contains}
use Rattle.std.proofs.lemmas.Map.Views.{list_any-from_Contains, Contains-from_any}
use Rattle.currency_base.specs.Literals.{var_of, literal, negation}
use Rattle.currency_base.specs.declared.lit.Lit.{Lit}
use Rattle.refutation_log.specs.Counted.{IsConsistent}
use Rattle.log_laws.proofs.Signs.{IsOfSign, lit_of, signs}

-- ---- whether a clause has a literal

abbrev has : List Lit → Lit → Bool
has clause lit = list_any (λ other. eqb lit.0 other.0) clause

has_true : (clause : List Lit) (lit : Lit) → Contains clause lit → has clause lit ≡ true
has_true clause lit at = list_any-from_Contains {eq = λ a b. eqb a.0 b.0} (on_equiv (λ (l : Lit). l.0) nat_eq_equiv) lit clause at

in_clause : (clause : List Lit) (lit : Lit) → has clause lit ≡ true → Contains clause lit
in_clause clause lit is = Contains-from_any {eq = λ a b. eqb a.0 b.0} (λ a b e. ap lit_of (eqb-true a.0 b.0 e)) lit clause is

-- ---- digits

-- 0: the variable does not stand in the clause; 1: it does; 2: its negation does, and it does not
abbrev digit : List Lit → ℕ → ℕ
digit clause var = cond (has clause (literal var false)) 1 (cond (has clause (literal var true)) 2 0)

digit_below : (clause : List Lit) (var : ℕ) → digit clause var < 3
digit_below clause var = go (has clause (literal var false)) (has clause (literal var true))
  where
    go : (a b : Bool) → cond a 1 (cond b 2 0) < 3
    go true b = omega arith
    go false true = omega arith
    go false false = omega arith

is_one : (a b : Bool) → ◌≡◌ {A = ℕ} (cond a 1 (cond b 2 0)) 1 → a ≡ true
is_one true b e = refl
is_one false true e = absurd (omega (arith, e))
is_one false false e = absurd (omega (arith, e))

is_two : (a b : Bool) → ◌≡◌ {A = ℕ} (cond a 1 (cond b 2 0)) 2 → b ≡ true
is_two true b e = absurd (omega (arith, e))
is_two false true e = refl
is_two false false e = absurd (omega (arith, e))

-- a literal of a clause without opposites is in each clause that has its variable's digit
same_digit : (c d : List Lit) (lit : Lit) → IsConsistent c → Contains c lit → digit c (var_of lit) ≡ digit d (var_of lit)
    → Contains d lit
same_digit c d lit consistent at same = ⊎_elim
    (λ (p : IsOfSign lit false).
    let is : has c positive ≡ true = ap (has c) p.itself ∙ has_true c lit at in
    let one : digit c (var_of lit) ≡ 1 = ap (λ b. cond b 1 (cond (has c negative) 2 0)) is in
    in_clause d lit (ap (has d) (sym p.itself) ∙ is_one (has d positive) (has d negative) (sym same ∙ one)))
    (λ (n : IsOfSign lit true).
    let is : has c negative ≡ true = ap (has c) n.itself ∙ has_true c lit at in
    let opposite : has c positive ≡ false =
    false_from_ne_true (has c positive) (λ e. consistent lit at (in_clause c (negation lit) (ap (has c) n.negated ∙ e))) in
    let two : digit c (var_of lit) ≡ 2 = ap (λ b. cond b 1 (cond (has c negative) 2 0)) opposite ∙ ap (λ b. cond b 2 0) is in
    in_clause d lit (ap (has d) (sym n.itself) ∙ is_two (has d positive) (has d negative) (sym same ∙ two)))
    (signs lit)
  where
    positive : Lit
    positive = literal (var_of lit) false

    negative : Lit
    negative = literal (var_of lit) true

-- ---- numbers

-- the digits of the variables below a number, the last one first
abbrev pub number : ℕ → List Lit → ℕ
number zero clause = 0
number (suc vars) clause = digit clause vars * 3 ^ vars + number vars clause

pub number_below : (vars : ℕ) (clause : List Lit) → number vars clause < 3 ^ vars
number_below zero clause = omega arith
number_below (suc vars) clause = subst (λ n. number (suc vars) clause < n) (sym (pow-suc 3 vars))
    (mul-add-lt (digit clause vars) (3 ^ vars) (number vars clause) 3 (digit_below clause vars) (number_below vars clause))

same_digits : (vars : ℕ) (c d : List Lit) → number vars c ≡ number vars d → (var : ℕ) → var < vars → digit c var ≡ digit d var
same_digits zero c d e var below = absurd (omega (arith, below))
same_digits (suc vars) c d e var below =
    let both = same_from_place (digit c vars) (number vars c) (digit d vars) (number vars d) (3 ^ vars)
    (number_below vars c) (number_below vars d) e in
    ⊎_elim
    (λ (is : var ≡ vars). subst (λ v. digit c v ≡ digit d v) (sym is) both.0)
    (λ (other : var ≢ vars). same_digits vars c d both.1 var (omega arith))
    (cases_eq var vars)

-- a clause without opposites is a subset of each clause that has its number
pub same_number : (vars : ℕ) (c d : List Lit) → All (λ lit. var_of lit < vars) c → IsConsistent c → number vars c ≡ number vars d
    → (lit : Lit) → Contains c lit → Contains d lit
same_number vars c d within consistent e lit at =
    same_digit c d lit consistent at (same_digits vars c d e (var_of lit) (All-contains (λ l. var_of l < vars) c lit within at))
