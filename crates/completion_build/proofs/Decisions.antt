-- Of two rows of a list an assignment puts one before the other, and not both.
use Rattle.std.proofs.Common.{◌≡◌, ◌<◌, ℕ, Bool, true, false, not, List, Some, length, slice_get, get_or, refl, sym, ap, ◌∙◌, ⊎_elim, inl, inr, subst}
use mathlib.Core.Bool.{beq}
use Rattle.std.specs.Bool.{OnFalse}
use Rattle.std.proofs.lemmas.Bool.{OnFalse_from, cases_eq}
use Rattle.std.proofs.lemmas.Option.{slice_get-get_or, same_Some}
use Rattle.currency_base.specs.Lists.{OnlyOnce}
use Rattle.currency_base.specs.Literals.{var_of, is_negative}
use Rattle.currency_base.specs.declared.ids.AttrId.{AttrId}
use Rattle.currency_base.specs.declared.ids.RelId.{RelId}
use Rattle.currency_base.specs.declared.ids.RowId.{RowId}
use Rattle.currency_base.specs.declared.lit.Lit.{Lit}
use Rattle.order_literals.specs.Laws.{OneLiteral, PairIsDecided, PairExcludes}
use Rattle.order_literals.specs.Numbers.{Numbers, IsPairOf}
use Rattle.order_literals.specs.Said.{Says, before, IsLitTrue, IsSaidTrue}
use Rattle.order_literals.specs.Statements.{statements_of}
use Rattle.completion_build.specs.Contests.{Contest, IsContest, Puts, Beats, IsDecided}

not_self : (b : Bool) → not b ≡ b → ⊥
not_self true e = cc
not_self false e = cc

-- where the literal that says it is not true, the other of the two rows stands before the one
pub other_way : OneLiteral → PairIsDecided → (n : Numbers) (truths : List Bool) → length truths ≡ length (statements_of n)
    → (rel : RelId) (attr : AttrId) (t u : RowId) → IsPairOf n rel.0 attr.0 t u → (lit : Lit)
    → Says (statements_of n) lit (before rel attr t u)
    → slice_get truths (var_of lit) ≡ Some (is_negative lit) → IsSaidTrue (statements_of n) truths (before rel attr u t)
other_way one decided n truths per rel attr t u pair lit says value =
    ⊎_elim
    (λ (s : IsSaidTrue (statements_of n) truths (before rel attr t u)).
    let same : s.lit ≡ lit = one n s.lit lit (before rel attr t u) s.says says in
    let is_true : IsLitTrue truths lit = subst (IsLitTrue truths) same s.is_true in
    absurd (not_self (is_negative lit) (same_Some (not (is_negative lit)) (is_negative lit) (sym is_true ∙ value))))
    (λ (s : IsSaidTrue (statements_of n) truths (before rel attr u t)). s)
    (decided n truths per rel attr t u pair)

same_from : (a b : Bool) → not (beq a b) ≡ false → a ≡ b
same_from true true e = refl
same_from true false e = cc
same_from false true e = cc
same_from false false e = refl

-- the same of a list, by what is read of the literal
pub read_other : OneLiteral → PairIsDecided → (c : Contest) → IsContest c → (t u : RowId) → IsPairOf c.numbers
    c.rel.0 c.attr.0 t u → (lit : Lit)
    → Says (statements_of c.numbers) lit (before c.rel c.attr t u) → (var : ℕ) → var ≡ var_of lit → (value negative : Bool)
    → slice_get c.truths var ≡ Some value → negative ≡ is_negative lit → OnFalse (not (beq value negative)) (Puts c u t)
read_other one decided c is t u pair lit says var var_is value negative read negative_is = OnFalse_from
    (not (beq value negative)) (Puts c u t) (λ differ.
    let same : value ≡ negative = same_from value negative differ in
    other_way one decided c.numbers c.truths is.per_statement c.rel c.attr t u pair lit says
    (ap (slice_get c.truths) (sym var_is) ∙ read ∙ ap Some (same ∙ negative_is)))

-- one place does not beat another where that one beats it
pub not_both : PairExcludes → (c : Contest) (i j : ℕ) → Beats c i j → Beats c j i → ⊥
not_both exclude c i j a b =
    let first : b.second ≡ a.first = same_Some b.second a.first (sym b.is_second ∙ a.is_first) in
    let second : b.first ≡ a.second = same_Some b.first a.second (sym b.is_first ∙ a.is_second) in
    let back : Puts c a.second a.first = subst (λ (u : RowId). Puts c u a.first) second
    (subst (λ (t : RowId). Puts c b.first t) first b.put) in
    exclude c.numbers c.truths c.rel c.attr a.first a.second a.put back

-- nor does a place where the other row is put before its own
pub not_put : PairExcludes → (c : Contest) (rows : List RowId) → rows ≡ c.rows → (d : RowId) (i j : ℕ)
    → i < length c.rows → j < length c.rows
    → Puts c (get_or rows j d) (get_or rows i d) → Beats c i j → ⊥
not_put exclude c rows same d i j below_i below_j put beats =
    let at_i : slice_get c.rows i ≡ Some (get_or rows i d) = rw same (slice_get-get_or c.rows i d below_i) in
    let at_j : slice_get c.rows j ≡ Some (get_or rows j d) = rw same (slice_get-get_or c.rows j d below_j) in
    not_both exclude c i j beats (record {
      first = get_or rows j d;
      second = get_or rows i d;
      is_first =
          at_j;
      is_second = at_i;
      put = put;
    })

pub is_decided : PairIsDecided → PairExcludes → (c : Contest) → IsContest c → IsDecided (length c.rows) (Beats c)
is_decided decided exclude c is = record {
  either = λ i j below_i below_j differ.
      let d : RowId = record { 0 = 0 } in
      let t = get_or c.rows i d in
      let u = get_or c.rows j d in
      let at_i = slice_get-get_or c.rows i d below_i in
      let at_j = slice_get-get_or c.rows j d below_j in
      ⊎_elim
      (λ (s : Puts c t u). inl (record { first = t; second = u; is_first = at_i; is_second = at_j; put = s }))
      (λ (s : Puts c u t). inr (record { first = u; second = t; is_first = at_j; is_second = at_i; put = s }))
      (decided c.numbers c.truths is.per_statement c.rel c.attr t u (is.pairs i j t u at_i at_j differ));
  not_both = not_both exclude c;
}

-- no row stands at two places
pub rows_once : (c : Contest) → IsContest c → OnlyOnce c.rows
rows_once c is i j t at_i at_j =
    ⊎_elim (λ (same : i ≡ j). same)
    (λ (differ : i ≡ j → ⊥). absurd ((is.pairs i j t t at_i at_j differ).differ refl)) (cases_eq i j)
