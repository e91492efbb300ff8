-- Rules that are added and withdrawn.
use Rattle.std.proofs.Common.{◌≡◌, ◌⊎◌, ◌-◌, ◌<◌, ◌^◌, ◌∙◌, ◌++◌, ◌∷◌, [], ℕ, zero, suc, List, length, map, Contains, Some, None, Ok, Err, slice_get, refl, sym, ap, subst, inl, inr, arith}
use Rattle.std.proofs.lemmas.List.{map-append}
use Rattle.std.proofs.lemmas.List.Elements.{All-push}
use Rattle.std.proofs.lemmas.Option.{get_or_from_slice_get, slice_get_within}
use Rattle.currency_base.specs.Lists.{OnlyOnce}
use Rattle.currency_base.specs.declared.ids.RowId.{RowId}
use Rattle.currency_base.specs.declared.ids.RuleId.{RuleId}
use Rattle.denial_rules.specs.declared.rule.Rule.{Rule}
use Rattle.spec_limits.specs.Left.{AreEntityLists, left_of}
use Rattle.spec_limits.specs.Limits.{exceeded}
use Rattle.spec_limits.proofs.Leaving.{left_and, left_some}
use Rattle.spec_model.specs.Facts.{AreRules, IsRuleOf}
use Rattle.spec_model.specs.Spec.{Spec}
use Rattle.spec_edits.specs.Counted.{IsCounted}
use Rattle.spec_edits.specs.Edits.{IsNewRule, edited, limited, with_rule, without_rule}
use Rattle.spec_edits.specs.declared.edit.Edit.TheVariants.{AddRule, WithdrawRule}
use Rattle.spec_edits.specs.declared.fault.EditFault.TheVariants.{Limit}
use Rattle.spec_edits.proofs.Counting.{few_rules, limited_by_parts, short_rule, within_limits}

-- ---- a list with a new item more

contains_at : {A : Type 0} (xs : List A) (i : ℕ) (x : A) → slice_get xs i ≡ Some x → Contains xs x
contains_at xs i x at = (i, slice_get_within xs i x at, get_or_from_slice_get xs i x x at)

snoc_at : {A : Type 0} (xs : List A) (x : A) (i : ℕ) (y : A) → slice_get (xs ++ x ∷ []) i ≡ Some y
    → (slice_get xs i ≡ Some y) ⊎ ((i ≡ length xs) × (x ≡ y))
snoc_at [] x zero y at = inr (refl, cc)
snoc_at [] x (suc i) y at = inl at
snoc_at (z ∷ zs) x zero y at = inl at
snoc_at (z ∷ zs) x (suc i) y at = elim (snoc_at zs x i y at) [ inl here ↦ inl here | inr last ↦ inr (ap suc last.0, last.1) ]

once_more : {A : Type 0} (xs : List A) (x : A) → OnlyOnce xs → (Contains xs x → ⊥) → OnlyOnce (xs ++ x ∷ [])
once_more {A} xs x once new i j y at_i at_j = cases (snoc_at xs x i y at_i) (snoc_at xs x j y at_j)
  where
    cases : (slice_get xs i ≡ Some y) ⊎ ((i ≡ length xs) × (x ≡ y)) → (slice_get xs j ≡ Some y) ⊎
        ((j ≡ length xs) × (x ≡ y)) → i ≡ j
    cases (inl a) (inl b) = once i j y a b
    cases (inl a) (inr b) = absurd (new (subst (λ (z : A). Contains xs z) (sym b.1) (contains_at xs i y a)))
    cases (inr a) (inl b) = absurd (new (subst (λ (z : A). Contains xs z) (sym a.1) (contains_at xs j y b)))
    cases (inr a) (inr b) = a.0 ∙ sym b.0

-- ---- an added rule

-- with which no limit of parts is exceeded
pub rule_fits : (s : Spec) (rule : Rule) → IsNewRule s rule → exceeded (with_rule s rule) ≡ None → IsRuleOf s.relations rule
rule_fits s rule new within = let short = short_rule s rule within in new.fits short.0 short.1

pub rules_longer : (s : Spec) (rule : Rule) → AreRules s.relations s.rules → IsNewRule s rule
    → exceeded (with_rule s rule) ≡ None → AreRules s.relations (s.rules ++ rule ∷ [])
rules_longer s rule are new within =
    record {
      few = omega (arith, few_rules (with_rule s rule) within);
      each = All-push (IsRuleOf s.relations) s.rules rule are.each (rule_fits s rule new within);
      names = rw map-append (once_more (map (λ (r : Rule). r.name) s.rules) rule.name are.names new.fresh);
    }

-- its relation has a list
pub listed : (s : Spec) (lists : List (List (List RowId))) (rule : Rule) → AreEntityLists s.relations lists
    → IsRuleOf s.relations rule → rule.relation.0 < length lists
listed s lists rule are of =
    omega (arith, are.one_each, slice_get_within s.relations rule.relation.0 of.relation of.is_relation)

pub rule_edit : (s t : Spec) (rule : Rule) (lists : List (List (List RowId))) (left : ℕ)
    → IsCounted (with_rule s rule) lists left → t ≡ with_rule s rule → edited s (AddRule rule) ≡ Ok t
unfolding edited
rule_edit s t rule lists left h is = within_limits (with_rule s rule) lists left h ∙ ap Ok (sym is)

pub refused_parts : (s : Spec) (rule : Rule) (k : ℕ) → exceeded (with_rule s rule) ≡ Some k
    → edited s (AddRule rule) ≡ Err (Limit k)
unfolding edited
refused_parts s rule k is = limited_by_parts (with_rule s rule) k is

pub refused_instances : (s : Spec) (rule : Rule) → limited (with_rule s rule) ≡ Err (Limit 11)
    → edited s (AddRule rule) ≡ Err (Limit 11)
unfolding edited
refused_instances s rule is = is

-- ---- a withdrawn rule

pub withdrawn_edit : (s t : Spec) (rule : RuleId) → t ≡ without_rule s rule.0 → edited s (WithdrawRule rule) ≡ Ok t
unfolding edited
withdrawn_edit s t rule is = ap Ok (sym is)

-- ---- how many instances a rule has, as what they leave of 32 bits tells

pub some_left : (n : ℕ) → n < 2 ^ 32 → left_of 4294967295 n ≡ Some (4294967295 - n)
some_left n few = left_some 4294967295 n (4294967295 - n) (omega arith)

pub told_left : (n left : ℕ) → left_of 4294967295 n ≡ Some left → 4294967295 - left ≡ n
told_left n left is = omega (arith, left_and 4294967295 n left is)
