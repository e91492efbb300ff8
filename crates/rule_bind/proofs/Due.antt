-- What is due of a rule, check by check.
use Rattle.std.proofs.Common.{◌≡◌, ◌∙◌, ◌++◌, ◌∷◌, ◌+◌, ◌≤◌, [], ℕ, Bool, true, false, List, length, length-append, Result, Ok, Err, ap, sym, arith}
use Rattle.std.specs.Prelude.{is_some, if◌then◌else◌}
use Rattle.text_grammar.specs.declared.named.Named.{Named}
use Rattle.rule_syntax.specs.declared.trees.RuleTree.{RuleTree}
use Rattle.rule_syntax.specs.declared.trees.PredicateTree.{PredicateTree}
use Rattle.bind_faults.specs.Faults.{and_then, unless, all_of, IsDue}
use Rattle.bind_faults.proofs.Outcomes.{due_same, due_through}
use Rattle.bind_faults.specs.declared.fault.BindFault.{BindFault}
use Rattle.denial_rules.specs.declared.rule.Conclusion.{Conclusion}
use Rattle.denial_rules.specs.declared.rule.Predicate.{Predicate}
use Rattle.spec_model.specs.declared.relation.Relation.{Relation}
use Rattle.spec_names.specs.Names.{place_of}
use Rattle.rule_bind.specs.Ruled.{conclusion_of, names_of_attrs, names_of_vars, predicate_of, refused_later, rule_of, ruled_on, with_name}

-- ---- how many names variables have

with_name_few : (names : List (List ℕ)) (name : List ℕ) → length (with_name names name) ≤ length names + 1
with_name_few names name = by_cases (is_some (place_of names name))
  where
    by_cases : (b : Bool) → length (if b then names else names ++ name ∷ []) ≤ length names + 1
    by_cases true = omega arith
    by_cases false = omega (arith, length-append names (name ∷ []))

names_few : (before : List (List ℕ)) (vars : List Named) → length (names_of_vars before vars) ≤ length before + length vars
names_few before [] = omega arith
names_few before (v ∷ vars) = omega (arith, with_name_few before v.name, names_few (with_name before v.name) vars)

pub few_names : (names : List (List ℕ)) (vars listed : List Named) → names ≡ names_of_vars [] vars → vars ≡ listed
    → length names ≤ length listed
few_names names vars listed is same = omega (arith, ap length is, ap (length {A = Named}) same, names_few [] vars)

-- ---- the parts of a rule

-- the names, attributes and predicates that a rule's parts are looked up in
pub record AreOf (r : Relation) (tree : RuleTree) (names attrs : List (List ℕ)) (vars : List Named)
    (trees : List PredicateTree) : Type 0 where
  pub is_names : names ≡ names_of_vars [] vars
  pub is_vars : vars ≡ tree.vars
  pub is_attrs : attrs ≡ names_of_attrs r
  pub is_trees : trees ≡ tree.predicates

pub predicates_are : (r : Relation) (tree : RuleTree) (names attrs : List (List ℕ)) (vars : List Named)
    (trees : List PredicateTree)
    → AreOf r tree names attrs vars trees
    → all_of (predicate_of (names_of_vars [] tree.vars) (names_of_attrs r)) tree.predicates ≡ all_of
    (predicate_of names attrs) trees
predicates_are r tree names attrs vars trees are =
    let named : names ≡ names_of_vars [] tree.vars = are.is_names ∙ ap (names_of_vars []) are.is_vars in
    ap (λ n. all_of (predicate_of n (names_of_attrs r)) tree.predicates) (sym named)
    ∙ ap (λ a. all_of (predicate_of names a) tree.predicates) (sym are.is_attrs)
    ∙ ap (all_of (predicate_of names attrs)) (sym are.is_trees)

-- a predicate that is refused
pub predicates_fault : (rules : List (List ℕ)) (rel : ℕ) (r : Relation) (tree : RuleTree)
    (names attrs : List (List ℕ)) (vars : List Named)
    (trees : List PredicateTree) (e : BindFault) → AreOf r tree names attrs vars trees
    → IsDue (all_of (predicate_of names attrs) trees) (Err e)
    → IsDue (ruled_on rules rel r tree) (Err e)
unfolding ruled_on
predicates_fault rules rel r tree names attrs vars trees e are due =
    due_through (all_of (predicate_of names attrs) trees) (ruled_on rules rel r tree) e due
    (λ is. ap (λ p. and_then p (λ predicates. and_then (conclusion_of (names_of_vars [] tree.vars) (names_of_attrs r)
    tree.conclusion)
    (λ conclusion. unless (refused_later rules r tree) (Ok (rule_of tree rel predicates conclusion)))))
    (predicates_are r tree names attrs vars trees are ∙ is))

-- what is due once the predicates are there
predicates_there : (rules : List (List ℕ)) (rel : ℕ) (r : Relation) (tree : RuleTree) (names attrs : List (List ℕ))
    (vars : List Named)
    (trees : List PredicateTree) (predicates : List Predicate) → AreOf r tree names attrs vars trees
    → all_of (predicate_of names attrs) trees ≡ Ok predicates
    → ruled_on rules rel r tree
    ≡ and_then (conclusion_of names attrs tree.conclusion) (λ conclusion. unless (refused_later rules r tree)
    (Ok (rule_of tree rel predicates conclusion)))
unfolding ruled_on
predicates_there rules rel r tree names attrs vars trees predicates are is =
    let named : names ≡ names_of_vars [] tree.vars = are.is_names ∙ ap (names_of_vars []) are.is_vars in
    ap (λ p. and_then p (λ ps. and_then (conclusion_of (names_of_vars [] tree.vars) (names_of_attrs r) tree.conclusion)
    (λ conclusion. unless (refused_later rules r tree) (Ok (rule_of tree rel ps conclusion)))))
    (predicates_are r tree names attrs vars trees are ∙ is)
    ∙ ap (λ n. and_then (conclusion_of n (names_of_attrs r) tree.conclusion)
    (λ conclusion. unless (refused_later rules r tree) (Ok (rule_of tree rel predicates conclusion)))) (sym named)
    ∙ ap (λ a. and_then (conclusion_of names a tree.conclusion)
    (λ conclusion. unless (refused_later rules r tree) (Ok (rule_of tree rel predicates conclusion)))) (sym are.is_attrs)

-- a conclusion that is refused
pub conclusion_fault : (rules : List (List ℕ)) (rel : ℕ) (r : Relation) (tree : RuleTree)
    (names attrs : List (List ℕ)) (vars : List Named)
    (trees : List PredicateTree) (predicates : List Predicate) (e : BindFault) → AreOf r tree names attrs vars trees
    → all_of (predicate_of names attrs) trees ≡ Ok predicates → Err e ≡ conclusion_of names attrs tree.conclusion
    → ruled_on rules rel r tree ≡ Err e
conclusion_fault rules rel r tree names attrs vars trees predicates e are is refused =
    predicates_there rules rel r tree names attrs vars trees predicates are is
    ∙ ap (λ c. and_then c (λ conclusion. unless (refused_later rules r tree)
    (Ok (rule_of tree rel predicates conclusion)))) (sym refused)

-- what is due once predicates and conclusion are there
pub parts_there : (rules : List (List ℕ)) (rel : ℕ) (r : Relation) (tree : RuleTree) (names attrs : List (List ℕ))
    (vars : List Named)
    (trees : List PredicateTree) (predicates : List Predicate) (conclusion : Conclusion) → AreOf r tree names attrs vars trees
    → all_of (predicate_of names attrs) trees ≡ Ok predicates → Ok conclusion ≡ conclusion_of names attrs tree.conclusion
    → ruled_on rules rel r tree ≡ unless (refused_later rules r tree) (Ok (rule_of tree rel predicates conclusion))
parts_there rules rel r tree names attrs vars trees predicates conclusion are is concluded =
    predicates_there rules rel r tree names attrs vars trees predicates are is
    ∙ ap (λ c. and_then c (λ conclusion. unless (refused_later rules r tree)
    (Ok (rule_of tree rel predicates conclusion)))) (sym concluded)
