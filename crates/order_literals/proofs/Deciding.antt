-- What is decided under an assignment: each literal, what literals say, and the order of two rows of one entity.
use Rattle.std.proofs.Common.{◌≡◌, ◌⊎◌, ◌<◌, ℕ, Bool, true, false, not, List, Some, length, slice_get, get_or, refl, sym, ap, ◌∙◌, subst, inl, inr, ⊎_elim, arith}
use Rattle.std.proofs.lemmas.Bool.{cases_order}
use Rattle.std.proofs.lemmas.Option.{same_Some, slice_get-get_or}
use Rattle.currency_base.specs.Literals.{var_of, is_negative, literal, negation}
use Rattle.currency_base.specs.declared.ids.AttrId.{AttrId}
use Rattle.currency_base.specs.declared.ids.RelId.{RelId}
use Rattle.currency_base.specs.declared.ids.RowId.{RowId}
use Rattle.currency_base.specs.declared.lit.Lit.{Lit}
use Rattle.refutation_log.specs.declared.statement.Statement.{Statement}
use Rattle.refutation_log.specs.declared.statement.Statement.TheVariants as says
use Rattle.order_literals.specs.Numbers.{Numbers, IsPairOf}
use Rattle.order_literals.specs.Said.{Said, Says, said_by, turned, before, IsLitTrue, IsSaidTrue}
use Rattle.order_literals.specs.Statements.{statements_of}
use Rattle.order_literals.proofs.Items.{in_at, place_of}
use Rattle.order_literals.proofs.RowLaws.{row_is, IsLess}
use Rattle.order_literals.proofs.Members.{before_in, in_before}
use Rattle.order_literals.proofs.Sayings.{signed, opposite, negation_var, negation_sign, tells, says_at, says_turned, says_within, negation_says, one_literal}

-- ---- literals

one_of_two : (truth negative : Bool) → (truth ≡ not negative) ⊎ (truth ≡ not (not negative))
one_of_two true true = inr refl
one_of_two true false = inl refl
one_of_two false true = inl refl
one_of_two false false = inr refl

never_both : (negative : Bool) → not negative ≡ not (not negative) → ⊥
never_both true e = cc
never_both false e = cc

pub literal_decided : (truths : List Bool) (lit : Lit) → var_of lit < length truths → IsLitTrue truths lit ⊎
    IsLitTrue truths (negation lit)
literal_decided truths lit within =
    let at = slice_get-get_or truths (var_of lit) true within in
    ⊎_elim
    (λ e. inl (at ∙ ap Some e))
    (λ e. inr (ap (slice_get truths) (negation_var lit) ∙ (at ∙ ap Some (e ∙ ap not (sym (negation_sign lit))))))
    (one_of_two (get_or truths (var_of lit) true) (is_negative lit))

pub literals_exclude : (truths : List Bool) (lit : Lit) → IsLitTrue truths lit → IsLitTrue truths (negation lit) → ⊥
literals_exclude truths lit one other =
    never_both (is_negative lit)
    (same_Some (not (is_negative lit)) (not (not (is_negative lit)))
    (sym one ∙ (ap (slice_get truths) (sym (negation_var lit)) ∙ (other ∙ ap (λ b. Some (not b)) (negation_sign lit)))))

-- ---- what is said

-- what a literal says is true, or the same with the other sign
pub said_decided : (statements : List Statement) (truths : List Bool) → length truths ≡ length statements → (lit : Lit) (s : Said)
    → Says statements lit s → IsSaidTrue statements truths s ⊎ IsSaidTrue statements truths (opposite s)
said_decided statements truths long lit s says =
    let within = says_within statements lit s says in
    ⊎_elim
    (λ holds. inl (record { lit = lit; says = says; is_true = holds }))
    (λ holds. inr (record { lit = negation lit; says = negation_says statements lit s says; is_true = holds }))
    (literal_decided truths lit (omega arith))

pub said_turned : (statements : List Statement) (truths : List Bool) (s : Said) → IsSaidTrue statements truths s
    → IsSaidTrue statements truths (turned s)
said_turned statements truths s t = record { lit = t.lit; says = says_turned statements t.lit s t.says; is_true = t.is_true }

-- and not both
pub said_exclude : (n : Numbers) (truths : List Bool) (s : Said) → IsSaidTrue (statements_of n) truths s
    → IsSaidTrue (statements_of n) truths (opposite s) → ⊥
said_exclude n truths s one other =
    let same : negation one.lit ≡ other.lit =
    one_literal n (negation one.lit) other.lit (opposite s) (negation_says (statements_of n) one.lit s one.says) other.says in
    literals_exclude truths one.lit one.is_true (subst (IsLitTrue truths) (sym same) other.is_true)

-- ---- the order of two rows

pub pair_back : (n : Numbers) (rel attr : ℕ) (t u : RowId) → IsPairOf n rel attr t u → IsPairOf n rel attr u t
pair_back n rel attr t u pair = record {
  table = pair.table;
  is_table = pair.is_table;
  attr_within = pair.attr_within;
  ent = pair.ent;
  first_of = pair.second_of;
  second_of = pair.first_of;
  differ = λ e. pair.differ (sym e);
}

lesser_decided : (n : Numbers) (truths : List Bool) → length truths ≡ length (statements_of n) →
    (rel : RelId) (attr : AttrId) (t u : RowId)
    → IsPairOf n rel.0 attr.0 t u → IsLess t u
    → IsSaidTrue (statements_of n) truths (before rel attr t u) ⊎ IsSaidTrue (statements_of n) truths (before rel attr u t)
lesser_decided n truths long rel attr t u pair below =
    let at = place_of (statements_of n) (says.Before rel attr t u) (in_before n rel attr t u pair below) in
    let said = says_at (statements_of n) at.0 (before rel attr t u) at.1 in
    ⊎_elim
    (λ holds. inl holds)
    (λ fails. inr (said_turned (statements_of n) truths (signed (says.Before rel attr t u) true) fails))
    (said_decided (statements_of n) truths long (literal at.0 false) (before rel attr t u) said)

pub pair_decided : (n : Numbers) (truths : List Bool) → length truths ≡ length (statements_of n) →
    (rel : RelId) (attr : AttrId) (t u : RowId)
    → IsPairOf n rel.0 attr.0 t u
    → IsSaidTrue (statements_of n) truths (before rel attr t u) ⊎ IsSaidTrue (statements_of n) truths (before rel attr u t)
pair_decided n truths long rel attr t u pair = ⊎_elim
    (λ (same : t.0 ≡ u.0). absurd (pair.differ (row_is t u same)))
    (λ (differ : (t.0 < u.0) ⊎ (u.0 < t.0)). ⊎_elim
    (λ (below : t.0 < u.0). lesser_decided n truths long rel attr t u pair below)
    (λ (above : u.0 < t.0). ⊎_elim (λ one. inr one) (λ other. inl other)
    (lesser_decided n truths long rel attr u t (pair_back n rel.0 attr.0 t u pair) above))
    differ)
    (cases_order t.0 u.0)

pub pair_exclude : (n : Numbers) (truths : List Bool) (rel : RelId) (attr : AttrId) (t u : RowId)
    → IsSaidTrue (statements_of n) truths (before rel attr t u) → IsSaidTrue (statements_of n) truths (before rel attr u t) → ⊥
pair_exclude n truths rel attr t u one other =
    said_exclude n truths (before rel attr t u) one (said_turned (statements_of n) truths (before rel attr u t) other)

told_pair : (n : Numbers) (lit : Lit) (rel : RelId) (attr : AttrId) (t u : RowId) (negative : Bool)
    → said_by (statements_of n) lit ≡ Some (signed (says.Before rel attr t u) negative) → IsPairOf n rel.0 attr.0 t u
told_pair n lit rel attr t u negative e =
    let told = tells (statements_of n) lit (signed (says.Before rel attr t u) negative) e in
    (before_in n rel attr t u (in_at (statements_of n) (var_of lit) (says.Before rel attr t u) told.at)).0

pub said_of_pairs : (n : Numbers) (lit : Lit) (rel : RelId) (attr : AttrId) (t u : RowId) (negative : Bool)
    → Says (statements_of n) lit (signed (says.Before rel attr t u) negative) → IsPairOf n rel.0 attr.0 t u
said_of_pairs n lit rel attr t u negative (inl e) = told_pair n lit rel attr t u negative e
said_of_pairs n lit rel attr t u negative (inr e) = pair_back n rel.0 attr.0 u t (told_pair n lit rel attr u t (not negative) e)
