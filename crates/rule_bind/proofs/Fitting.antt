-- The rule that a tree says fits its relation, where it is short enough.
use Rattle.std.proofs.Common.{◌≡◌, ◌∙◌, ◌<◌, ◌≤◌, ◌∷◌, [], ℕ, Bool, true, false, List, length, All, Contains, Option, Some, None, Result, Ok, Err, refl, ap, ap₂, sym, subst, arith, inl, inr}
use Rattle.std.specs.Prelude.{if◌then◌else◌, option_map}
use Rattle.std.proofs.lemmas.List.{length-map}
use Rattle.std.proofs.lemmas.List.Elements.{All-cons, All-nil}
use Rattle.std.proofs.lemmas.List.Quantifiers.{position-Some}
use Rattle.std.proofs.lemmas.Option.{slice_get_cases}
use Rattle.currency_base.specs.Values.{kind_of}
use Rattle.currency_base.specs.declared.error_code.ErrorCode.TheVariants.{UnknownName}
use Rattle.currency_base.specs.declared.value.ValueKind.{ValueKind}
use Rattle.currency_base.specs.declared.value.ValueKind.TheVariants.{Text, Int}
use Rattle.text_grammar.specs.declared.named.Named.{Named}
use Rattle.rule_syntax.specs.declared.trees.RuleTree.{RuleTree}
use Rattle.rule_syntax.specs.declared.trees.PredicateTree.{PredicateTree}
use Rattle.rule_syntax.specs.declared.trees.PredicateTree.TheVariants as predicate_tree
use Rattle.rule_syntax.specs.declared.trees.OrderAtomTree.{OrderAtomTree}
use Rattle.rule_syntax.specs.declared.trees.TermTree.{TermTree}
use Rattle.rule_syntax.specs.declared.trees.TermTree.TheVariants as term_tree
use Rattle.rule_syntax.specs.declared.trees.ConclusionTree.{ConclusionTree}
use Rattle.rule_syntax.specs.declared.trees.ConclusionTree.TheVariants as conclusion_tree
use Rattle.bind_faults.specs.Faults.{refused_at, found_or, and_then, or_else, all_of, first_of}
use Rattle.bind_faults.specs.declared.fault.BindFault.{BindFault}
use Rattle.denial_rules.specs.Rules.{IsRuleOn, IsAtom, IsOperand, IsPredicate, IsConclusion, operand_kind}
use Rattle.denial_rules.specs.declared.rule.Conclusion.{Conclusion}
use Rattle.denial_rules.specs.declared.rule.Conclusion.TheVariants as a_conclusion
use Rattle.denial_rules.specs.declared.rule.Operand.{Operand}
use Rattle.denial_rules.specs.declared.rule.Operand.TheVariants as an_operand
use Rattle.denial_rules.specs.declared.rule.OrderAtom.{OrderAtom}
use Rattle.denial_rules.specs.declared.rule.Predicate.{Predicate}
use Rattle.denial_rules.specs.declared.rule.Predicate.TheVariants as a_predicate
use Rattle.denial_rules.specs.declared.rule.Rule.{Rule}
use Rattle.spec_model.specs.Facts.{kinds_of}
use Rattle.spec_model.specs.declared.relation.Attr.{Attr}
use Rattle.spec_model.specs.declared.relation.Relation.{Relation}
use Rattle.spec_names.specs.Names.{place_of}
use Rattle.rule_bind.specs.Ruled.{atom_of, conclusion_of, differ, field_of, kind_at, mismatch, named_in, names_of_attrs, operand_of, predicate_of, refused_later, repeated, taken, term_kind}
use Rattle.rule_bind.proofs.Due.{AreOf, few_names}
use Rattle.rule_bind.proofs.Places.{missing}

-- what comes of two steps is what comes of the second, from what came of the first
and_then_ok : {A B : Type 0} (first : Result A BindFault) (next : A → Result B BindFault) (y : B) → and_then first next ≡ Ok y
    → (x : A) × (first ≡ Ok x) × (next x ≡ Ok y)
and_then_ok (Ok x) next y is = (x, refl, is)
and_then_ok (Err e) next y is = absurd (cc)

found_ok : (place : Option ℕ) (fault : BindFault) (k : ℕ) → found_or place fault Ok ≡ Ok k → place ≡ Some k
found_ok None fault k is = absurd (cc)
found_ok (Some place) fault k is = cc

-- a name that is known has a place
named_at : (names : List (List ℕ)) (named : Named) (k : ℕ) → named_in names named ≡ Ok k → place_of names named.name ≡ Some k
named_at names named k is = found_ok (place_of names named.name) (refused_at UnknownName named) k is

-- which is one of the names
named_within : (names : List (List ℕ)) (named : Named) (k n : ℕ) → length names ≤ n → named_in names named ≡ Ok k → k < n
named_within names named k n few is = omega (arith, (position-Some _ names k [] (named_at names named k is)).0)

-- an order atom fits
atom_fits : (vars attrs : List (List ℕ)) (n : ℕ) (kinds : List ValueKind) (tree : OrderAtomTree) (atom : OrderAtom)
    → length vars ≤ n
    → length attrs ≤ length kinds → atom_of vars attrs tree ≡ Ok atom → IsAtom n kinds atom
atom_fits vars attrs n kinds tree atom few as_many is =
    let a = and_then_ok _ _ atom is in
    let b = and_then_ok _ _ atom a.2 in
    let c = and_then_ok _ _ atom b.2 in
    let made : record { earlier = a.0; later = b.0; attr = record { 0 = c.0 } } ≡ atom = cc in
    subst (IsAtom n kinds) made (record {
      earlier = named_within vars tree.earlier a.0 n few a.1;
      later = named_within vars tree.later b.0 n few b.1;
      attr = named_within attrs tree.attr c.0 (length kinds) as_many c.1;
    })

-- an operand that fits, and is of its term's kind
record IsFitting (n : ℕ) (kinds : List ValueKind) (term_is : Option ValueKind) (operand : Operand) : Type 0 where
  pub is_operand : IsOperand n operand
  pub kind : ValueKind
  pub has_kind : operand_kind kinds operand ≡ Some kind
  pub same_kind : term_is ≡ Some kind

field_fits : (vars attrs : List (List ℕ)) (n : ℕ) (kinds : List ValueKind) (var attr : Named) (operand : Operand)
    → length vars ≤ n
    → length attrs ≤ length kinds → field_of vars attrs var attr ≡ Ok operand
    → IsFitting n kinds (kind_at kinds (place_of attrs attr.name)) operand
field_fits vars attrs n kinds var attr operand few as_many is =
    let a = and_then_ok (named_in vars var)
    (λ v. and_then (named_in attrs attr) (λ k. Ok (an_operand.Field v (record { 0 = k })))) operand is in
    let b = and_then_ok (named_in attrs attr) (λ k. Ok (an_operand.Field a.0 (record { 0 = k }))) operand a.2 in
    let made : an_operand.Field a.0 (record { 0 = b.0 }) ≡ operand = cc in
    let low = named_within attrs attr b.0 (length kinds) as_many b.1 in
    subst (IsFitting n kinds (kind_at kinds (place_of attrs attr.name))) made (elim (slice_get_cases kinds b.0).1 [
      | inl there ↦ record {
        is_operand = named_within vars var a.0 n few a.1;
        kind = there.0;
        has_kind = there.2;
        same_kind = ap (kind_at kinds) (named_at attrs attr b.0 b.1) ∙ there.2;
      }
      | inr past ↦ absurd (omega arith)
    ])

operand_fits : (vars attrs : List (List ℕ)) (n : ℕ) (kinds : List ValueKind) (tree : TermTree) (operand : Operand)
    → length vars ≤ n
    → length attrs ≤ length kinds → operand_of vars attrs tree ≡ Ok operand → IsFitting n kinds
    (term_kind attrs kinds tree) operand
operand_fits vars attrs n kinds (term_tree.Field var attr) operand few as_many is = field_fits vars attrs n kinds var
    attr operand few as_many is
operand_fits vars attrs n kinds (term_tree.Constant constant) operand few as_many is =
    let made : an_operand.Constant constant.value ≡ operand = cc in
    subst (IsFitting n kinds (Some (kind_of constant.value))) made
    (record { is_operand = tt; kind = kind_of constant.value; has_kind = refl; same_kind = refl })

-- kinds that do not differ are one
one_kind : (a b : ValueKind) → differ (Some a) (Some b) ≡ false → a ≡ b
one_kind Text Text is = refl
one_kind Text Int is = absurd (cc)
one_kind Int Text is = absurd (cc)
one_kind Int Int is = refl

if_none : (b : Bool) (fault : BindFault) → (if b then Some fault else None) ≡ None → b ≡ false
if_none true fault is = absurd (cc)
if_none false fault is = refl

-- a predicate fits, where it does not compare two kinds
predicate_fits : (vars attrs : List (List ℕ)) (n : ℕ) (kinds : List ValueKind) (tree : PredicateTree)
    (predicate : Predicate) → length vars ≤ n
    → length attrs ≤ length kinds → predicate_of vars attrs tree ≡ Ok predicate → mismatch attrs kinds tree ≡ None
    → IsPredicate n kinds predicate
predicate_fits vars attrs n kinds (predicate_tree.Order tree) predicate few as_many is fine =
    let a = and_then_ok (atom_of vars attrs tree) _ predicate is in
    let made : a_predicate.Order a.0 ≡ predicate = cc in
    subst (IsPredicate n kinds) made (atom_fits vars attrs n kinds tree a.0 few as_many a.1)
predicate_fits vars attrs n kinds (predicate_tree.Compare left cmp right) predicate few as_many is fine =
    let a = and_then_ok (operand_of vars attrs left) _ predicate is in
    let b = and_then_ok (operand_of vars attrs right) _ predicate a.2 in
    let made : a_predicate.Compare a.0 cmp b.0 ≡ predicate = cc in
    let l = operand_fits vars attrs n kinds left a.0 few as_many a.1 in
    let r = operand_fits vars attrs n kinds right b.0 few as_many b.1 in
    let apart = if_none _ _ fine in
    let same : l.kind ≡ r.kind = one_kind l.kind r.kind (sym (ap₂ differ l.same_kind r.same_kind) ∙ apart) in
    subst (IsPredicate n kinds) made (record {
      left_is = l.is_operand;
      right_is = r.is_operand;
      kind = l.kind;
      left_kind = l.has_kind;
      right_kind = r.has_kind ∙ ap Some (sym same);
    })

-- neither of two refusals
pub neither : (a b : Option BindFault) → or_else a b ≡ None → (a ≡ None) × (b ≡ None)
neither None b is = (refl, is)
neither (Some fault) b is = absurd (cc)

-- all predicates fit, where none of them compares two kinds
predicates_fit : (vars attrs : List (List ℕ)) (n : ℕ) (kinds : List ValueKind) (trees : List PredicateTree)
    (predicates : List Predicate)
    → length vars ≤ n → length attrs ≤ length kinds → all_of (predicate_of vars attrs) trees ≡ Ok predicates
    → first_of (mismatch attrs kinds) trees ≡ None → All (IsPredicate n kinds) predicates
predicates_fit vars attrs n kinds [] predicates few as_many is fine =
    let made : [] ≡ predicates = cc in
    subst (All (IsPredicate n kinds)) made (All-nil (IsPredicate n kinds))
predicates_fit vars attrs n kinds (tree ∷ trees) predicates few as_many is fine =
    let a = and_then_ok (predicate_of vars attrs tree) _ predicates is in
    let b = and_then_ok (all_of (predicate_of vars attrs) trees) _ predicates a.2 in
    let made : a.0 ∷ b.0 ≡ predicates = cc in
    let both = neither (mismatch attrs kinds tree) (first_of (mismatch attrs kinds) trees) fine in
    subst (All (IsPredicate n kinds)) made (All-cons (IsPredicate n kinds) a.0 b.0
    (predicate_fits vars attrs n kinds tree a.0 few as_many a.1 both.0)
    (predicates_fit vars attrs n kinds trees b.0 few as_many b.1 both.1))

-- a conclusion fits
conclusion_fits : (vars attrs : List (List ℕ)) (n : ℕ) (kinds : List ValueKind) (tree : ConclusionTree)
    (made : Conclusion) → length vars ≤ n
    → length attrs ≤ length kinds → conclusion_of vars attrs tree ≡ Ok made → IsConclusion n kinds made
conclusion_fits vars attrs n kinds conclusion_tree.Never made few as_many is =
    let same : a_conclusion.Never ≡ made = cc in
    subst (IsConclusion n kinds) same tt
conclusion_fits vars attrs n kinds (conclusion_tree.Order tree) made few as_many is =
    let a = and_then_ok (atom_of vars attrs tree) _ made is in
    let same : a_conclusion.Order a.0 ≡ made = cc in
    subst (IsConclusion n kinds) same (atom_fits vars attrs n kinds tree a.0 few as_many a.1)

pub none_mapped : {A B : Type 0} (f : A → B) (o : Option A) → option_map f o ≡ None → o ≡ None
none_mapped f None is = refl
none_mapped f (Some a) is = absurd (cc)

-- a rule that is not refused has a name of its own
pub is_fresh : (rules : List (List ℕ)) (r : Relation) (tree : RuleTree) (name : List ℕ) → name ≡ tree.name.name
    → None ≡ refused_later rules r tree
    → Contains rules name → ⊥
is_fresh rules r tree name same fine there =
    let both = neither (taken rules tree.name) _ (sym fine) in
    missing rules tree.name.name (none_mapped _ _ both.0) (subst (Contains rules) same there)

-- a rule that is not refused fits its relation, where it is short enough
pub rule_fits : (rules : List (List ℕ)) (r : Relation) (tree : RuleTree) (names attrs : List (List ℕ)) (vars : List Named)
    (trees : List PredicateTree) (rule : Rule) → AreOf r tree names attrs vars trees
    → all_of (predicate_of names attrs) trees ≡ Ok rule.predicates → Ok rule.conclusion ≡ conclusion_of names attrs
    tree.conclusion
    → None ≡ refused_later rules r tree → 0 < length tree.vars → rule.vars ≡ length tree.vars
    → rule.vars ≤ 4 → length rule.predicates ≤ 16 → IsRuleOn (kinds_of r) rule
rule_fits rules r tree names attrs vars trees rule are is concluded fine some listed few_vars few_predicates =
    let few : length names ≤ rule.vars = omega (arith, few_names names vars tree.vars are.is_names are.is_vars, listed) in
    let as_many : length attrs ≤ length (kinds_of r) =
    omega (arith, ap length are.is_attrs, length-map r.attrs (λ (a : Attr). a.name), length-map r.attrs (λ (a : Attr). a.kind)) in
    let later = neither (repeated [] tree.vars) (first_of (mismatch (names_of_attrs r) (kinds_of r)) tree.predicates)
    (neither (taken rules tree.name) _ (sym fine)).1 in
    let apart : first_of (mismatch attrs (kinds_of r)) trees ≡ None =
    ap (λ a. first_of (mismatch a (kinds_of r)) trees) are.is_attrs
    ∙ ap (first_of (mismatch (names_of_attrs r) (kinds_of r))) are.is_trees ∙ later.1 in
    record {
      some_var = omega arith;
      few_vars = few_vars;
      few_predicates = few_predicates;
      predicates = predicates_fit names attrs rule.vars (kinds_of r) trees rule.predicates few as_many is apart;
      conclusion = conclusion_fits names attrs rule.vars (kinds_of r) tree.conclusion rule.conclusion few as_many (sym concluded);
    }
