-- What literals say: a statement with a sign, by one literal at most, and what their negations say.
use Rattle.std.proofs.Common.{◌≡◌, ◌⊎◌, ◌+◌, ◌*◌, ◌%◌, ◌<◌, ℕ, Bool, true, false, not, if◌then◌else◌, List, Option, Some, None, length, slice_get, option_map, refl, sym, ap, ◌∙◌, inl, inr, arith}
use Rattle.std.proofs.lemmas.Bool.{eqb-true, eqb-false, eq-eqb, ne_eqb}
use Rattle.std.proofs.lemmas.Option.{same_Some, none-some, slice_get_within}
use Rattle.currency_base.specs.Literals.{var_of, is_negative, literal, negation}
use Rattle.currency_base.specs.declared.lit.Lit.{Lit}
use Rattle.refutation_log.specs.declared.statement.Statement.{Statement}
use Rattle.refutation_log.specs.declared.statement.Statement.TheVariants as says
use Rattle.order_literals.specs.Numbers.{Numbers}
use Rattle.order_literals.specs.Said.{Said, turned, said_by, Says}
use Rattle.order_literals.specs.Statements.{statements_of}
use Rattle.order_literals.proofs.Items.{in_at}
use Rattle.order_literals.proofs.Members.{before_in}
use Rattle.order_literals.proofs.Order.{numbered_once}

pub not_not : (b : Bool) → not (not b) ≡ b
not_not true = refl
not_not false = refl

-- ---- variables and signs

pub literal_var : (var : ℕ) (negative : Bool) → var_of (literal var negative) ≡ var
literal_var var true = omega arith
literal_var var false = omega arith

pub literal_sign : (var : ℕ) (negative : Bool) → is_negative (literal var negative) ≡ negative
literal_sign var true = eq-eqb ((2 * var + 1) % 2) 1 (omega arith)
literal_sign var false = ne_eqb (2 * var % 2) 1 (λ e. omega (arith, e))

-- a literal is its variable and its sign
pub lit_is : (a b : Lit) → var_of a ≡ var_of b → is_negative a ≡ is_negative b → a ≡ b
lit_is a b var sign = by (is_negative a) refl
  where
    numbered : a.0 ≡ b.0 → a ≡ b
    numbered e = ap (λ (n : ℕ). let x : Lit = record { 0 = n } in x) e

    by : (negative : Bool) → is_negative a ≡ negative → a ≡ b
    by true e =
        let odd = eqb-true (a.0 % 2) 1 e in
        let odd' = eqb-true (b.0 % 2) 1 (sym sign ∙ e) in
        numbered (omega arith)
    by false e =
        let even = eqb-false (a.0 % 2) 1 e in
        let even' = eqb-false (b.0 % 2) 1 (sym sign ∙ e) in
        numbered (omega arith)

-- the negation of a literal, by the variable and the sign
abbrev flipped : ℕ → Bool → Lit
flipped var negative = if negative then record { 0 = 2 * var } else record { 0 = 2 * var + 1 }

flipped_var : (var : ℕ) (negative : Bool) → var_of (flipped var negative) ≡ var
flipped_var var true = omega arith
flipped_var var false = omega arith

flipped_sign : (var : ℕ) (negative : Bool) → is_negative (flipped var negative) ≡ not negative
flipped_sign var true = ne_eqb (2 * var % 2) 1 (λ e. omega (arith, e))
flipped_sign var false = eq-eqb ((2 * var + 1) % 2) 1 (omega arith)

pub negation_var : (lit : Lit) → var_of (negation lit) ≡ var_of lit
negation_var lit = flipped_var (var_of lit) (is_negative lit)

pub negation_sign : (lit : Lit) → is_negative (negation lit) ≡ not (is_negative lit)
negation_sign lit = flipped_sign (var_of lit) (is_negative lit)

-- ---- what is said

abbrev pub signed : Statement → Bool → Said
signed statement negative = record { statement = statement; negative = negative }

-- the same with the other sign
abbrev pub opposite : Said → Said
opposite s = record { statement = s.statement; negative = not s.negative }

signed_twice : (statement : Statement) (negative : Bool) → turned (turned (signed statement negative)) ≡ signed statement negative
signed_twice (says.Before rel attr earlier later) negative = ap (signed (says.Before rel attr earlier later)) (not_not negative)
signed_twice (says.Top rel attr row) negative = refl
signed_twice (says.Last rel attr row) negative = refl
signed_twice (says.Answer tuple) negative = refl

pub turned_twice : (s : Said) → turned (turned s) ≡ s
turned_twice s = signed_twice s.statement s.negative

signed_opposite : (statement : Statement) (negative : Bool)
    → opposite (turned (signed statement negative)) ≡ turned (opposite (signed statement negative))
signed_opposite (says.Before rel attr earlier later) negative = refl
signed_opposite (says.Top rel attr row) negative = refl
signed_opposite (says.Last rel attr row) negative = refl
signed_opposite (says.Answer tuple) negative = refl

pub turned_opposite : (s : Said) → opposite (turned s) ≡ turned (opposite s)
turned_opposite s = signed_opposite s.statement s.negative

-- ---- what a literal says

-- the statement of its variable, with its sign
pub record Tells (statements : List Statement) (lit : Lit) (s : Said) : Type 0 where
  pub at : slice_get statements (var_of lit) ≡ Some s.statement
  pub sign : is_negative lit ≡ s.negative

pub tells : (statements : List Statement) (lit : Lit) (s : Said) → said_by statements lit ≡ Some s → Tells statements lit s
tells statements lit s told = by (slice_get statements (var_of lit)) refl
  where
    by : (o : Option Statement) → slice_get statements (var_of lit) ≡ o → Tells statements lit s
    by None e = absurd (none-some s (sym (ap (option_map (λ x. signed x (is_negative lit))) e) ∙ told))
    by (Some x) e =
        let is : signed x (is_negative lit) ≡ s =
        same_Some (signed x (is_negative lit)) s (sym (ap (option_map (λ y. signed y (is_negative lit))) e) ∙ told) in
        record { at = e ∙ ap (λ (q : Said). Some q.statement) is; sign = ap (λ (q : Said). q.negative) is }

pub told_from : (statements : List Statement) (lit : Lit) (s : Said) → Tells statements lit s → said_by statements lit ≡ Some s
told_from statements lit s t =
    ap (option_map (λ x. signed x (is_negative lit))) t.at ∙ ap (λ b. Some (signed s.statement b)) t.sign

-- the literal of a place says the statement that stands there
pub says_at : (statements : List Statement) (place : ℕ) (s : Said) → slice_get statements place ≡ Some s.statement
    → Says statements (literal place s.negative) s
says_at statements place s at = inl (told_from statements (literal place s.negative) s (record {
  at = ap (slice_get statements) (literal_var place s.negative) ∙ at;
  sign = literal_sign place s.negative;
}))

-- in other words
pub says_turned : (statements : List Statement) (lit : Lit) (s : Said) → Says statements lit s → Says statements lit (turned s)
says_turned statements lit s (inl e) = inr (e ∙ ap Some (sym (turned_twice s)))
says_turned statements lit s (inr e) = inl e

pub one_said : (statements : List Statement) (lit : Lit) (s t : Said) → Says statements lit s → Says statements lit t
    → (t ≡ s) ⊎ (t ≡ turned s)
one_said statements lit s t (inl e) (inl f) = inl (same_Some t s (sym f ∙ e))
one_said statements lit s t (inl e) (inr f) = inr (sym (turned_twice t) ∙ ap turned (same_Some (turned t) s (sym f ∙ e)))
one_said statements lit s t (inr e) (inl f) = inr (same_Some t (turned s) (sym f ∙ e))
one_said statements lit s t (inr e) (inr f) =
    inl (sym (turned_twice t) ∙ ap turned (same_Some (turned t) (turned s) (sym f ∙ e)) ∙ turned_twice s)

told_within : (statements : List Statement) (lit : Lit) (s : Said) → said_by statements lit ≡ Some s
    → var_of lit < length statements
told_within statements lit s e = slice_get_within statements (var_of lit) s.statement (tells statements lit s e).at

pub says_within : (statements : List Statement) (lit : Lit) (s : Said) → Says statements lit s → var_of lit < length statements
says_within statements lit s (inl e) = told_within statements lit s e
says_within statements lit s (inr e) = told_within statements lit (turned s) e

negation_told : (statements : List Statement) (lit : Lit) (s : Said) → said_by statements lit ≡ Some s
    → said_by statements (negation lit) ≡ Some (opposite s)
negation_told statements lit s e =
    let t = tells statements lit s e in
    told_from statements (negation lit) (opposite s) (record {
      at = ap (slice_get statements) (negation_var lit) ∙ t.at;
      sign = negation_sign lit ∙ ap not t.sign;
    })

pub negation_says : (statements : List Statement) (lit : Lit) (s : Said) → Says statements lit s
    → Says statements (negation lit) (opposite s)
negation_says statements lit s (inl e) = inl (negation_told statements lit s e)
negation_says statements lit s (inr e) = inr (negation_told statements lit (turned s) e ∙ ap Some (turned_opposite s))

-- ---- one literal

-- of two rows one order is numbered, so what is numbered in two ways is the same in other words
one_way : (n : Numbers) (i j : ℕ) (statement : Statement) (negative : Bool) → slice_get (statements_of n) i ≡ Some statement
    → slice_get (statements_of n) j ≡ Some (turned (signed statement negative)).statement
    → turned (signed statement negative) ≡ signed statement negative
one_way n i j (says.Before rel attr t u) negative e f =
    let one = (before_in n rel attr t u (in_at (statements_of n) i (says.Before rel attr t u) e)).1 in
    let other = (before_in n rel attr u t (in_at (statements_of n) j (says.Before rel attr u t) f)).1 in
    absurd (omega (arith, one, other))
one_way n i j (says.Top rel attr row) negative e f = refl
one_way n i j (says.Last rel attr row) negative e f = refl
one_way n i j (says.Answer tuple) negative e f = refl

one_told : (n : Numbers) (a b : Lit) (s : Said) → said_by (statements_of n) a ≡ Some s → said_by (statements_of n)
    b ≡ Some s → a ≡ b
one_told n a b s e f =
    let of_a = tells (statements_of n) a s e in
    let of_b = tells (statements_of n) b s f in
    lit_is a b (numbered_once n (var_of a) (var_of b) s.statement of_a.at of_b.at) (of_a.sign ∙ sym of_b.sign)

two_told : (n : Numbers) (a b : Lit) (s : Said) → said_by (statements_of n) a ≡ Some s
    → said_by (statements_of n) b ≡ Some (turned s) → a ≡ b
two_told n a b s e f =
    let of_a = tells (statements_of n) a s e in
    let of_b = tells (statements_of n) b (turned s) f in
    one_told n a b s e (f ∙ ap Some (one_way n (var_of a) (var_of b) s.statement s.negative of_a.at of_b.at))

pub one_literal : (n : Numbers) (a b : Lit) (s : Said) → Says (statements_of n) a s → Says (statements_of n) b s → a ≡ b
one_literal n a b s (inl e) (inl f) = one_told n a b s e f
one_literal n a b s (inl e) (inr f) = two_told n a b s e f
one_literal n a b s (inr e) (inl f) = sym (two_told n b a s f e)
one_literal n a b s (inr e) (inr f) = one_told n a b (turned s) e f
