-- The rules of a specification stay rules on its relations when these grow or change their given pairs.
use Rattle.std.proofs.Common.{◌≡◌, ℕ, zero, suc, List, [], ◌∷◌, ◌++◌, slice_get, slice_set, Some, refl, subst, sym, ap, ◌∙◌, ⊎_elim}
use Rattle.std.proofs.lemmas.Bool.{cases_eq}
use Rattle.std.proofs.lemmas.List.Elements.{All-weaker}
use Rattle.std.proofs.lemmas.Option.{none-some, same_Some}
use Rattle.currency_base.specs.declared.pair.Pair.{Pair}
use Rattle.denial_rules.specs.Rules.{IsRuleOn}
use Rattle.denial_rules.specs.declared.rule.Rule.{Rule}
use Rattle.spec_model.specs.declared.relation.Relation.{Relation}
use Rattle.spec_model.specs.Facts.{kinds_of, IsRuleOf, AreRules}

-- an item of a list stands at its place when more follow
pub get_left : {A : Type 0} (xs ys : List A) (i : ℕ) (x : A) → slice_get xs i ≡ Some x → slice_get (xs ++ ys) i ≡ Some x
get_left [] ys i x e = absurd (none-some x e)
get_left (z ∷ xs) ys zero x e = e
get_left (z ∷ xs) ys (suc i) x e = get_left xs ys i x e

rule_beside : (rs more : List Relation) (rule : Rule) → IsRuleOf rs rule → IsRuleOf (rs ++ more) rule
rule_beside rs more rule h =
    record { relation = h.relation; is_relation = get_left rs more rule.relation.0 h.relation h.is_relation; fits = h.fits }

-- more relations
pub rules_beside : (rs more : List Relation) (rules : List Rule) → AreRules rs rules → AreRules (rs ++ more) rules
rules_beside rs more rules h =
    record {
      few = h.few;
      each = All-weaker (IsRuleOf rs) (IsRuleOf (rs ++ more)) (rule_beside rs more) rules h.each;
      names = h.names;
    }

-- what stands at a place after a write
pub get_set_same : {A : Type 0} (xs : List A) (i : ℕ) (x y : A) → slice_get xs i ≡ Some x
    → slice_get (slice_set xs i y) i ≡ Some y
get_set_same [] i x y e = absurd (none-some x e)
get_set_same (z ∷ xs) zero x y e = refl
get_set_same (z ∷ xs) (suc i) x y e = get_set_same xs i x y e

pub get_set_other : {A : Type 0} (xs : List A) (i j : ℕ) (y : A) → (j ≡ i → ⊥) → slice_get (slice_set xs i y) j ≡ slice_get xs j
get_set_other [] i j y apart = refl
get_set_other (z ∷ xs) zero zero y apart = absurd (apart refl)
get_set_other (z ∷ xs) zero (suc j) y apart = refl
get_set_other (z ∷ xs) (suc i) zero y apart = refl
get_set_other (z ∷ xs) (suc i) (suc j) y apart = get_set_other xs i j y (λ e. apart (ap suc e))

rule_given : (rs : List Relation) (i : ℕ) (r : Relation) (given : List Pair) → slice_get rs i ≡ Some r
    → (rule : Rule) → IsRuleOf rs rule → IsRuleOf (slice_set rs i (record r { given = given })) rule
rule_given rs i r given at rule h =
    ⊎_elim
    (λ (is : rule.relation.0 ≡ i).
    let same : h.relation ≡ r = same_Some h.relation r (sym h.is_relation ∙ (ap (slice_get rs) is ∙ at)) in
    record {
      relation = record r { given = given };
      is_relation = ap (slice_get (slice_set rs i (record r { given = given }))) is ∙ get_set_same rs i r
          (record r { given = given }) at;
      fits = subst (λ (q : Relation). IsRuleOn (kinds_of q) rule) same h.fits;
    })
    (λ (apart : rule.relation.0 ≡ i → ⊥).
    record {
      relation = h.relation;
      is_relation = get_set_other rs i rule.relation.0 (record r { given = given }) apart ∙ h.is_relation;
      fits = h.fits;
    })
    (cases_eq rule.relation.0 i)

-- other given pairs at one relation
pub rules_given : (rs : List Relation) (i : ℕ) (r : Relation) (given : List Pair) (rules : List Rule) → slice_get rs i ≡ Some r
    → AreRules rs rules → AreRules (slice_set rs i (record r { given = given })) rules
rules_given rs i r given rules at h =
    record {
      few = h.few;
      each = All-weaker (IsRuleOf rs) (IsRuleOf (slice_set rs i (record r { given = given })))
          (rule_given rs i r given at) rules h.each;
      names = h.names;
    }
