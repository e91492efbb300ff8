-- A rule reads nothing.
use Rattle.std.proofs.Common.{ℕ, Bool, true, false, List, [], ◌∷◌, map, Option, Some, None, option_map, Result, Ok, Err, slice_get, if◌then◌else◌}
use Rattle.currency_base.specs.declared.error_code.ErrorCode.TheVariants.{UnknownName, DuplicateName}
use Rattle.currency_base.specs.declared.value.ValueKind.{ValueKind}
use Rattle.text_grammar.specs.declared.named.Named.{Named}
use Rattle.rule_syntax.specs.declared.trees.RuleTree.{RuleTree}
use Rattle.rule_syntax.specs.declared.trees.PredicateTree.{PredicateTree}
use Rattle.rule_syntax.specs.declared.trees.PredicateTree.TheVariants as predicate_tree
use Rattle.rule_syntax.specs.declared.trees.OrderAtomTree.{OrderAtomTree}
use Rattle.rule_syntax.specs.declared.trees.TermTree.{TermTree}
use Rattle.rule_syntax.specs.declared.trees.TermTree.TheVariants as term_tree
use Rattle.rule_syntax.specs.declared.trees.ConclusionTree.{ConclusionTree}
use Rattle.rule_syntax.specs.declared.trees.ConclusionTree.TheVariants as conclusion_tree
use Rattle.denial_rules.specs.declared.rule.Rule.{Rule}
use Rattle.bind_faults.specs.Faults.{refused_at, found_or, and_then, unless, or_else, all_of, first_of, IsDue, IsReadFault}
use Rattle.bind_faults.specs.declared.fault.BindFault.{BindFault}
use Rattle.bind_faults.proofs.Outcomes.{same_read_fault, due_reads, then_reads, all_reads}
use Rattle.spec_model.specs.Spec.{Spec}
use Rattle.spec_model.specs.Facts.{kinds_of}
use Rattle.spec_model.specs.declared.relation.Relation.{Relation}
use Rattle.spec_names.specs.Names.{place_of}
use Rattle.rule_bind.specs.Ruled.{named_in, atom_of, operand_of, predicate_of, conclusion_of, taken, repeated, differ, term_kind, mismatch, with_name, names_of_attrs, names_of_vars, refused_later, rule_of, ruled_on, ruled_at, ruled}

-- no fault of reading
abbrev Reads : {A : Type 0} → Result A BindFault → Type 0
Reads r = IsReadFault r → ⊥

-- no fault that is one of reading
abbrev Refuses : Option BindFault → Type 0
Refuses None = Unit {0}
Refuses (Some fault) = IsReadFault {A = Spec} (Err fault) → ⊥

found_reads : (place : Option ℕ) (named : Named) → Reads {A = ℕ} (found_or place (refused_at UnknownName named) Ok)
found_reads None named h = h
found_reads (Some k) named h = h

named_reads : (names : List (List ℕ)) (named : Named) → Reads (named_in names named)
named_reads names named h = found_reads (place_of names named.name) named h

unless_reads : {A : Type 0} (refused : Option BindFault) (a : A) → Refuses refused → Reads (unless refused (Ok a))
unless_reads None a none h = h
unless_reads {A} (Some fault) a none h = none (same_read_fault A Spec fault h)

else_refuses : (a b : Option BindFault) → Refuses a → Refuses b → Refuses (or_else a b)
else_refuses None b first later = later
else_refuses (Some fault) b first later = first

atom_reads : (vars attrs : List (List ℕ)) (tree : OrderAtomTree) → Reads (atom_of vars attrs tree)
atom_reads vars attrs tree h =
    then_reads (named_in vars tree.earlier) _ (named_reads vars tree.earlier)
    (λ earlier. then_reads (named_in vars tree.later) _ (named_reads vars tree.later)
    (λ later. then_reads (named_in attrs tree.attr) _ (named_reads attrs tree.attr) (λ attr h. h))) h

operand_reads : (vars attrs : List (List ℕ)) (tree : TermTree) → Reads (operand_of vars attrs tree)
operand_reads vars attrs (term_tree.Field var attr) h =
    then_reads (named_in vars var) _ (named_reads vars var) (λ v. then_reads (named_in attrs attr) _
    (named_reads attrs attr) (λ a h. h)) h
operand_reads vars attrs (term_tree.Constant constant) h = h

predicate_reads : (vars attrs : List (List ℕ)) (tree : PredicateTree) → Reads (predicate_of vars attrs tree)
predicate_reads vars attrs (predicate_tree.Order tree) h = then_reads (atom_of vars attrs tree) _
    (atom_reads vars attrs tree) (λ atom h. h) h
predicate_reads vars attrs (predicate_tree.Compare left cmp right) h =
    then_reads (operand_of vars attrs left) _ (operand_reads vars attrs left)
    (λ l. then_reads (operand_of vars attrs right) _ (operand_reads vars attrs right) (λ r h. h)) h

conclusion_reads : (vars attrs : List (List ℕ)) (tree : ConclusionTree) → Reads (conclusion_of vars attrs tree)
conclusion_reads vars attrs conclusion_tree.Never h = h
conclusion_reads vars attrs (conclusion_tree.Order tree) h = then_reads (atom_of vars attrs tree) _
    (atom_reads vars attrs tree) (λ atom h. h) h

place_refuses : (place : Option ℕ) (named : Named) → Refuses (option_map (λ k. refused_at DuplicateName named) place)
place_refuses None named = tt
place_refuses (Some k) named = λ h. h

taken_refuses : (names : List (List ℕ)) (named : Named) → Refuses (taken names named)
taken_refuses names named = place_refuses (place_of names named.name) named

repeated_refuses : (before : List (List ℕ)) (named : List Named) → Refuses (repeated before named)
repeated_refuses before [] = tt
repeated_refuses before (n ∷ named) =
    else_refuses (taken before n) (repeated (with_name before n.name) named) (taken_refuses before n)
    (repeated_refuses (with_name before n.name) named)

test_refuses : (b : Bool) (fault : BindFault) → (IsReadFault {A = Spec} (Err fault) → ⊥)
    → Refuses (if b then Some fault else None)
test_refuses true fault none = none
test_refuses false fault none = tt

mismatch_refuses : (attrs : List (List ℕ)) (kinds : List ValueKind) (tree : PredicateTree) → Refuses (mismatch attrs kinds tree)
mismatch_refuses attrs kinds (predicate_tree.Order tree) = tt
mismatch_refuses attrs kinds (predicate_tree.Compare left cmp right) =
    test_refuses (differ (term_kind attrs kinds left) (term_kind attrs kinds right)) _ (λ h. h)

first_refuses : {A : Type 0} (f : A → Option BindFault) (xs : List A) → ((x : A) → Refuses (f x)) → Refuses (first_of f xs)
first_refuses f [] each = tt
first_refuses f (x ∷ xs) each = else_refuses (f x) (first_of f xs) (each x) (first_refuses f xs each)

later_refuses : (rules : List (List ℕ)) (r : Relation) (tree : RuleTree) → Refuses (refused_later rules r tree)
later_refuses rules r tree =
    else_refuses (taken rules tree.name) _ (taken_refuses rules tree.name)
    (else_refuses (repeated [] tree.vars) _ (repeated_refuses [] tree.vars)
    (first_refuses (mismatch (names_of_attrs r) (kinds_of r)) tree.predicates (mismatch_refuses (names_of_attrs r) (kinds_of r))))

ruled_on_reads : (rules : List (List ℕ)) (rel : ℕ) (r : Relation) (tree : RuleTree) → Reads (ruled_on rules rel r tree)
unfolding ruled_on
ruled_on_reads rules rel r tree h =
    then_reads (all_of (predicate_of (names_of_vars [] tree.vars) (names_of_attrs r)) tree.predicates) _
    (all_reads (predicate_of (names_of_vars [] tree.vars) (names_of_attrs r))
    (predicate_reads (names_of_vars [] tree.vars) (names_of_attrs r)) tree.predicates)
    (λ predicates. then_reads (conclusion_of (names_of_vars [] tree.vars) (names_of_attrs r) tree.conclusion) _
    (conclusion_reads (names_of_vars [] tree.vars) (names_of_attrs r) tree.conclusion)
    (λ conclusion. unless_reads (refused_later rules r tree) (rule_of tree rel predicates conclusion)
    (later_refuses rules r tree))) h

ruled_at_reads : (rules : List (List ℕ)) (rel : ℕ) (r : Option Relation) (tree : RuleTree) → Reads (ruled_at rules rel r tree)
ruled_at_reads rules rel None tree h = h
ruled_at_reads rules rel (Some r) tree h = ruled_on_reads rules rel r tree h

ruled_reads : (s : Spec) (tree : RuleTree) → Reads (ruled s tree)
unfolding ruled
ruled_reads s tree h =
    then_reads (named_in (map (λ r. r.name) s.relations) tree.relation) _
    (named_reads (map (λ r. r.name) s.relations) tree.relation)
    (λ rel. ruled_at_reads (map (λ rule. rule.name) s.rules) rel (slice_get s.relations rel) tree) h

-- a fault of a rule is none of reading
pub rule_reads : (s : Spec) (tree : RuleTree) (fault : BindFault) → IsDue (ruled s tree) (Err fault)
    → IsReadFault {A = Rule} (Err fault) → ⊥
rule_reads s tree fault is = due_reads Rule (ruled s tree) fault (ruled_reads s tree) is
