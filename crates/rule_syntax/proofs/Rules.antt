-- Rules are read as they are spelled.
use Rattle.std.proofs.Common.{◌≡◌, Bool, true, false, not, cond, List, [], ◌∷◌, inl, inr, refl, ap, subst, Option, Some, None, codes}
use Rattle.text_tokens.specs.Lexeme.{Lexeme}
use Rattle.text_tokens.specs.declared.token.TokenKind.TheVariants.{Word, Symbol}
use Rattle.text_grammar.specs.Words.{is_word, is_symbol, is_variable_token, variable}
use Rattle.text_grammar.specs.Grammar.{Language, ◌⋅◌, Says, IsWord, IsSymbol, SpellsName, Maybe, Listed}
use Rattle.text_grammar.specs.Reading.{one, both, after, before, listed}
use Rattle.text_grammar.specs.Laws.{IsReader}
use Rattle.text_grammar.specs.declared.named.Const.{Const}
use Rattle.text_grammar.specs.declared.named.Named.{Named}
use Rattle.text_grammar.proofs.Readers.{always, Begins, Continues, Ended, Image, begins_continues, begins_image, first_passes, first_says, first_then, first_two, last_two, reads_continued, reads_made, reads_mapped, reads_one, reads_same, reads_then, reads_two}
use Rattle.text_grammar.proofs.Choices.{Either, maybe_ends, reads_choose, reads_maybe}
use Rattle.text_grammar.proofs.ListReaders.{reads_until}
use Rattle.text_grammar.proofs.FixedTokens.{a_fixed, a_fixed_is, apart, reads_constant, reads_name, reads_variable, reads_word, after_word, after_symbol, before_word, listed_symbol, listed_word, begins_fixed}
use Rattle.text_grammar.proofs.VariableTokens.{constant_is_no_variable, variable_is, variable_not_false, variable_not_if}
use Rattle.currency_base.specs.declared.value.Cmp.{Cmp}
use Rattle.currency_base.specs.declared.value.Cmp.TheVariants.{Eq}
use Rattle.rule_syntax.specs.declared.trees.ConclusionTree.{ConclusionTree}
use Rattle.rule_syntax.specs.declared.trees.ConclusionTree.TheVariants as conclusion
use Rattle.rule_syntax.specs.declared.trees.OrderAtomTree.{OrderAtomTree}
use Rattle.rule_syntax.specs.declared.trees.PredicateTree.{PredicateTree}
use Rattle.rule_syntax.specs.declared.trees.PredicateTree.TheVariants as predicate
use Rattle.rule_syntax.specs.declared.trees.RuleTree.{RuleTree}
use Rattle.rule_syntax.specs.declared.trees.TermTree.{TermTree}
use Rattle.rule_syntax.specs.declared.trees.TermTree.TheVariants.{Field, Constant}
use Rattle.rule_syntax.specs.Grammar.{SpellsVariable, SpellsConst, SpellsAtom, SpellsTerm, SpellsPredicate, SpellsConclusion, SpellsConditions, SpellsRule, cmp_named}
use Rattle.rule_syntax.specs.Reading.{all_of, atom_after, atom_at, field_after, field_at, constant_at, term_at, comparison_after, predicate_after, predicate_at, conditions_at, conclusion_at, rule_at}

-- ---- that one row is older

-- what follows the first variable of an atom
abbrev AtomAfter : Named → OrderAtomTree → Language
AtomAfter v = Image (λ (x : Named × Named). record { earlier = v; later = x.0; attr = x.1 })
    (λ x. IsWord (codes "before") ⋅ SpellsVariable x.0 ⋅ IsWord (codes "in") ⋅ SpellsName x.1)

reads_atom_after : (v : Named) → IsReader (AtomAfter v) always (atom_after v)
unfolding atom_after
reads_atom_after v =
    reads_mapped (after_word (codes "before") (reads_two reads_variable (after_word (codes "in") reads_name)))
    (λ (x : Named × Named). record { earlier = v; later = x.0; attr = x.1 }) always (λ a t. refl)

atom_spelled : (a : OrderAtomTree) (tokens : List Lexeme) → Continues SpellsVariable AtomAfter a tokens → SpellsAtom a tokens
atom_spelled a tokens h = subst (λ (a : OrderAtomTree). SpellsAtom a tokens) h.spelled.second.is
    (record {
      front = h.spelled.front;
      rest = h.spelled.rest;
      split = h.spelled.split;
      first = h.spelled.first;
      second = h.spelled.second.spelled;
    })

spelled_atom : (a : OrderAtomTree) (tokens : List Lexeme) → SpellsAtom a tokens → Continues SpellsVariable AtomAfter a tokens
spelled_atom a tokens h = record {
  tree = a.earlier;
  spelled = record {
    front = h.front;
    rest = h.rest;
    split = h.split;
    first = h.first;
    second =
        record { tree = (a.later, a.attr); is = refl; spelled = h.second };
  };
}

reads_atom : IsReader SpellsAtom always atom_at
unfolding atom_at
reads_atom = reads_same (reads_continued reads_variable reads_atom_after) atom_spelled spelled_atom

-- ---- terms

-- what follows the variable of a field
abbrev FieldAfter : Named → TermTree → Language
FieldAfter v = Image (λ (attr : Named). Field v attr) (λ attr. IsSymbol (codes ".") ⋅ SpellsName attr)

reads_field_after : (v : Named) → IsReader (FieldAfter v) always (field_after v)
unfolding field_after
reads_field_after v = reads_mapped (after_symbol (codes ".") reads_name) (λ (attr : Named). Field v attr) always (λ a t. refl)

abbrev ConstantTerm : TermTree → Language
ConstantTerm = Image (λ (c : Const). Constant c) SpellsConst

reads_constant_term : IsReader ConstantTerm always constant_at
unfolding constant_at
reads_constant_term = reads_mapped reads_constant (λ (c : Const). Constant c) always (λ a t. refl)

reads_field : IsReader (Continues SpellsVariable FieldAfter) always field_at
unfolding field_at
reads_field = reads_continued reads_variable reads_field_after

begins_variable : Begins is_variable_token true SpellsVariable
begins_variable = first_says is_variable_token true variable_is

begins_constant : Begins is_variable_token false ConstantTerm
begins_constant = begins_image (λ (c : Const). Constant c) SpellsConst is_variable_token false
    (first_says is_variable_token false constant_is_no_variable)

term_spelled : (x : TermTree) (tokens : List Lexeme) → Either (Continues SpellsVariable FieldAfter) ConstantTerm x
    tokens → SpellsTerm x tokens
term_spelled x tokens (inl h) = subst (λ (x : TermTree). SpellsTerm x tokens) h.spelled.second.is
    (record {
      front = h.spelled.front;
      rest = h.spelled.rest;
      split = h.spelled.split;
      first = h.spelled.first;
      second = h.spelled.second.spelled;
    })
term_spelled x tokens (inr h) = subst (λ (x : TermTree). SpellsTerm x tokens) h.is h.spelled

spelled_term : (x : TermTree) (tokens : List Lexeme) → SpellsTerm x tokens
    → Either (Continues SpellsVariable FieldAfter) ConstantTerm x tokens
spelled_term (Field v attr) tokens h = inl (record {
  tree = v;
  spelled = record {
    front = h.front;
    rest = h.rest;
    split = h.split;
    first = h.first;
    second =
        record { tree = attr; is = refl; spelled = h.second };
  };
})
spelled_term (Constant c) tokens h = inr (record { tree = c; is = refl; spelled = h })

reads_term : IsReader SpellsTerm always term_at
unfolding term_at
reads_term = reads_same
    (reads_choose reads_field reads_constant_term is_variable_token
    (begins_continues SpellsVariable FieldAfter is_variable_token true begins_variable) begins_constant)
    term_spelled spelled_term

-- ---- predicates

first_chosen : {A : Type 0} (b : Bool) (x y : A) → b ≡ true → cond b x y ≡ x
first_chosen true x y e = refl
first_chosen false x y e = absurd (cc)

reads_cmp : IsReader (Says cmp_named) always (one cmp_named)
reads_cmp = reads_one cmp_named (a_fixed Symbol (codes "=")) Eq
    (first_chosen (is_symbol (codes "=") (a_fixed Symbol (codes "="))) (Some Eq) _ (a_fixed_is Symbol (codes "=")))

-- what follows the first term of a comparison
abbrev ComparisonAfter : TermTree → PredicateTree → Language
ComparisonAfter left = Image (λ (x : Cmp × TermTree). predicate.Compare left x.0 x.1) (λ x. Says cmp_named x.0 ⋅ SpellsTerm x.1)

reads_comparison_after : (left : TermTree) → IsReader (ComparisonAfter left) always (comparison_after left)
unfolding comparison_after
reads_comparison_after left = reads_mapped (reads_two reads_cmp reads_term)
    (λ (x : Cmp × TermTree). predicate.Compare left x.0 x.1) always (λ a t. refl)

comparison_spelled : (left : TermTree) (p : PredicateTree) (tokens : List Lexeme) →
    (SpellsTerm left ⋅ ComparisonAfter left p) tokens → SpellsPredicate p tokens
comparison_spelled left p tokens h = subst (λ (p : PredicateTree). SpellsPredicate p tokens) h.second.is
    (record { front = h.front; rest = h.rest; split = h.split; first = h.first; second = h.second.spelled })

-- what follows the variable that begins a predicate
abbrev OrderAfter : Named → PredicateTree → Language
OrderAfter v = Image (λ (a : OrderAtomTree). predicate.Order a) (AtomAfter v)

abbrev CompareAfter : Named → PredicateTree → Language
CompareAfter v = Continues (FieldAfter v) ComparisonAfter

abbrev PredicateAfter : Named → PredicateTree → Language
PredicateAfter v = Either (OrderAfter v) (CompareAfter v)

begins_order_after : (v : Named) → Begins (is_word (codes "before")) true (OrderAfter v)
begins_order_after v p tokens h =
    begins_fixed (λ (x : Named × Named). SpellsVariable x.0 ⋅ IsWord (codes "in") ⋅ SpellsName x.1) Word
    (codes "before") (is_word (codes "before")) true (λ t e. e)
    h.spelled.tree tokens h.spelled.spelled

begins_field_after : (v : Named) → Begins (is_word (codes "before")) false (FieldAfter v)
begins_field_after v x tokens h =
    begins_fixed SpellsName Symbol (codes ".") (is_word (codes "before")) false
    (apart Symbol (codes ".") Word (codes "before") refl) h.tree tokens h.spelled

reads_predicate_after : (v : Named) → IsReader (PredicateAfter v) always (predicate_after v)
unfolding predicate_after
reads_predicate_after v = reads_choose
    (reads_mapped (reads_atom_after v) (λ (a : OrderAtomTree). predicate.Order a) always (λ a t. refl))
    (reads_continued (reads_field_after v) reads_comparison_after)
    (is_word (codes "before")) (begins_order_after v) (begins_continues (FieldAfter v) ComparisonAfter
    (is_word (codes "before")) false (begins_field_after v))

abbrev FromVariable : PredicateTree → Language
FromVariable = Continues SpellsVariable PredicateAfter

abbrev FromConstant : PredicateTree → Language
FromConstant = Continues ConstantTerm ComparisonAfter

predicate_spelled : (p : PredicateTree) (tokens : List Lexeme) → Either FromVariable FromConstant p tokens
    → SpellsPredicate p tokens
predicate_spelled p tokens (inl h) = elim h.spelled.second [
  | inl o ↦ subst (λ (p : PredicateTree). SpellsPredicate p tokens) o.is (atom_spelled o.tree tokens (record {
    tree = h.tree;
    spelled = record {
      front = h.spelled.front;
      rest = h.spelled.rest;
      split = h.spelled.split;
      first =
          h.spelled.first;
      second = o.spelled;
    };
  }))
  | inr c ↦ (let parts : ((SpellsVariable h.tree ⋅ FieldAfter h.tree c.tree) ⋅ ComparisonAfter c.tree p) tokens =
      first_two {L = SpellsVariable h.tree} {M = FieldAfter h.tree c.tree} {N = ComparisonAfter c.tree p}
      (record {
        front = h.spelled.front;
        rest = h.spelled.rest;
        split = h.spelled.split;
        first = h.spelled.first;
        second = c.spelled;
      }) in
      comparison_spelled c.tree p tokens (record {
        front = parts.front;
        rest = parts.rest;
        split = parts.split;
        first = term_spelled c.tree parts.front (inl (record { tree = h.tree; spelled = parts.first }));
        second = parts.second;
      }))
]
predicate_spelled p tokens (inr h) = comparison_spelled h.tree p tokens (record {
  front = h.spelled.front;
  rest = h.spelled.rest;
  split = h.spelled.split;
  first = term_spelled h.tree h.spelled.front (inr h.spelled.first);
  second = h.spelled.second;
})

spelled_predicate : (p : PredicateTree) (tokens : List Lexeme) → SpellsPredicate p tokens → Either FromVariable
    FromConstant p tokens
spelled_predicate (predicate.Order a) tokens h =
    let c : Continues SpellsVariable AtomAfter a tokens = spelled_atom a tokens h in
    inl (record {
      tree = c.tree;
      spelled = record {
        front = c.spelled.front;
        rest = c.spelled.rest;
        split = c.spelled.split;
        first = c.spelled.first;
        second = inl (record { tree = a; is = refl; spelled = c.spelled.second });
      };
    })
spelled_predicate (predicate.Compare (Field v attr) cmp right) tokens h =
    let parts : (SpellsVariable v ⋅ (IsSymbol (codes ".") ⋅ SpellsName attr) ⋅ Says cmp_named cmp ⋅ SpellsTerm right) tokens =
    last_two {L = SpellsVariable v} {M = IsSymbol (codes ".") ⋅ SpellsName attr} {N = Says cmp_named cmp ⋅ SpellsTerm right} h in
    inl (record {
      tree = v;
      spelled = record {
        front = parts.front;
        rest = parts.rest;
        split = parts.split;
        first = parts.first;
        second = inr (record {
          tree = Field v attr;
          spelled = record {
            front = parts.second.front;
            rest = parts.second.rest;
            split = parts.second.split;
            first = record { tree = attr; is = refl; spelled = parts.second.first };
            second = record { tree = (cmp, right); is = refl; spelled = parts.second.second };
          };
        });
      };
    })
spelled_predicate (predicate.Compare (Constant c) cmp right) tokens h = inr (record {
  tree = Constant c;
  spelled = record {
    front = h.front;
    rest = h.rest;
    split = h.split;
    first = record { tree = c; is = refl; spelled = h.first };
    second = record { tree = (cmp, right); is = refl; spelled = h.second };
  };
})

pub reads_predicate : IsReader SpellsPredicate always predicate_at
unfolding predicate_at
reads_predicate = reads_same
    (reads_choose (reads_continued reads_variable reads_predicate_after)
    (reads_continued reads_constant_term reads_comparison_after) is_variable_token
    (begins_continues SpellsVariable PredicateAfter is_variable_token true begins_variable)
    (begins_continues ConstantTerm ComparisonAfter is_variable_token false begins_constant))
    predicate_spelled spelled_predicate

-- ---- conditions

abbrev If : List PredicateTree → Language
If ps = IsWord (codes "if") ⋅ Listed (IsWord (codes "and")) SpellsPredicate ps ⋅ IsWord (codes "then")

reads_if : IsReader If always (after (is_word (codes "if")) (before (listed (is_word (codes "and")) predicate_at)
    (is_word (codes "then"))))
reads_if = after_word (codes "if")
    (before_word (codes "then") (listed_word (codes "and") reads_predicate)
    (λ a t e. ap not (apart Word (codes "then") Word (codes "and") refl t e)))

-- what ends conditions: any token, but the word `if` begins some
abbrev ends_conditions : List PredicateTree → Lexeme → Bool
ends_conditions [] t = not (is_word (codes "if") t)
ends_conditions (p ∷ ps) t = true

same_end : (o : Option (List PredicateTree)) (tokens : List Lexeme) (t : Lexeme) → Maybe If o tokens
    → ends_conditions (all_of o) t ≡ maybe_ends always (is_word (codes "if")) o t
same_end None tokens t h = refl
same_end (Some []) tokens t h = absurd h.second.first
same_end (Some (p ∷ ps)) tokens t h = refl

conditions_spelled : (o : Option (List PredicateTree)) (tokens : List Lexeme) → Maybe If o tokens → SpellsConditions
    (all_of o) tokens
conditions_spelled None tokens h = h
conditions_spelled (Some []) tokens h = absurd h.second.first
conditions_spelled (Some (p ∷ ps)) tokens h = h

spelled_conditions : (ps : List PredicateTree) (tokens : List Lexeme) → SpellsConditions ps tokens → Image all_of
    (Maybe If) ps tokens
spelled_conditions [] tokens h = record { tree = None; is = refl; spelled = h }
spelled_conditions (p ∷ ps) tokens h = record { tree = Some (p ∷ ps); is = refl; spelled = h }

reads_conditions : IsReader SpellsConditions ends_conditions conditions_at
unfolding conditions_at
reads_conditions =
    reads_made
    (reads_until {stop' = λ o. ends_conditions (all_of o)}
    (reads_maybe reads_if (is_word (codes "if"))
    (begins_fixed (λ (ps : List PredicateTree). Listed (IsWord (codes "and")) SpellsPredicate ps ⋅ IsWord
    (codes "then")) Word (codes "if") (is_word (codes "if")) true (λ t e. e)))
    same_end)
    all_of ends_conditions (λ a t. refl) conditions_spelled spelled_conditions

-- ---- conclusions

abbrev False : ConclusionTree → Language
False = Image (λ (u : Unit {0}). conclusion.Never) (λ u. IsWord (codes "false"))

abbrev Concludes : ConclusionTree → Language
Concludes = Image (λ (a : OrderAtomTree). conclusion.Order a) SpellsAtom

conclusion_spelled : (c : ConclusionTree) (tokens : List Lexeme) → Either False Concludes c tokens → SpellsConclusion c tokens
conclusion_spelled c tokens (inl h) = subst (λ (c : ConclusionTree). SpellsConclusion c tokens) h.is h.spelled
conclusion_spelled c tokens (inr h) = subst (λ (c : ConclusionTree). SpellsConclusion c tokens) h.is h.spelled

spelled_conclusion : (c : ConclusionTree) (tokens : List Lexeme) → SpellsConclusion c tokens → Either False Concludes c tokens
spelled_conclusion conclusion.Never tokens h = inl (record { tree = tt; is = refl; spelled = h })
spelled_conclusion (conclusion.Order a) tokens h = inr (record { tree = a; is = refl; spelled = h })

begins_false : (test : Lexeme → Bool) (b : Bool) → ((t : Lexeme) → is_word (codes "false") t ≡ true → test t ≡ b)
    → Begins test b False
begins_false test b goes c tokens h = first_passes (is_word (codes "false")) test b goes tokens h.spelled

begins_atom : (test : Lexeme → Bool) (b : Bool) → ((t : Lexeme) → is_variable_token t ≡ true → test t ≡ b)
    → Begins test b Concludes
begins_atom test b goes c tokens h = first_then test b (first_says test b (λ t v e. goes t (variable_is t v e))
    h.tree.earlier) h.spelled

pub reads_conclusion : IsReader SpellsConclusion always conclusion_at
unfolding conclusion_at
reads_conclusion = reads_same
    (reads_choose
    (reads_mapped (reads_word (codes "false")) (λ (u : Unit {0}). conclusion.Never) always (λ a t. refl))
    (reads_mapped reads_atom (λ (a : OrderAtomTree). conclusion.Order a) always (λ a t. refl))
    (is_word (codes "false")) (begins_false (is_word (codes "false")) true (λ t e. e))
    (begins_atom (is_word (codes "false")) false variable_not_false))
    conclusion_spelled spelled_conclusion

-- no conclusion begins with the word `if`
abbrev no_if : Lexeme → Bool
no_if t = not (is_word (codes "if") t)

begins_conclusion : Begins no_if true SpellsConclusion
begins_conclusion c tokens h = elim (spelled_conclusion c tokens h) [
  | inl k ↦ begins_false no_if true (λ t e. ap not (apart Word (codes "false") Word (codes "if") refl t e)) c tokens k
  | inr k ↦ begins_atom no_if true (λ t e. ap not (variable_not_if t e)) c tokens k
]

ends_at_conclusion : Ended ends_conditions no_if
ends_at_conclusion [] t e = e
ends_at_conclusion (p ∷ ps) t e = refl

-- ---- rules

-- the parts of a rule: name, relation, variables, predicates, conclusion
abbrev RuleParts : Type 0
RuleParts = Named × (Named × (List Named × (List PredicateTree × ConclusionTree)))

abbrev rule_of : RuleParts → RuleTree
rule_of x = record { name = x.0; relation = x.1.0; vars = x.1.1.0; predicates = x.1.1.1.0; conclusion = x.1.1.1.1 }

abbrev Body : List PredicateTree × ConclusionTree → Language
Body x = SpellsConditions x.0 ⋅ SpellsConclusion x.1

abbrev Vars : List Named × (List PredicateTree × ConclusionTree) → Language
Vars x = Listed (IsSymbol (codes ",")) SpellsVariable x.0 ⋅ IsSymbol (codes ")") ⋅ IsSymbol (codes ":") ⋅ Body x.1

reads_body : IsReader Body always (both conditions_at conclusion_at)
reads_body = reads_then reads_conditions reads_conclusion no_if begins_conclusion ends_at_conclusion

reads_vars : IsReader Vars always (both (listed (is_symbol (codes ",")) (one variable))
    (after (is_symbol (codes ")")) (after (is_symbol (codes ":")) (both conditions_at conclusion_at))))
reads_vars = reads_then (listed_symbol (codes ",") reads_variable)
    (after_symbol (codes ")") (after_symbol (codes ":") reads_body)) (is_symbol (codes ")"))
    (begins_fixed (λ (x : List PredicateTree × ConclusionTree). IsSymbol (codes ":") ⋅ Body x) Symbol (codes ")")
    (is_symbol (codes ")")) true (λ t e. e))
    (λ a t e. ap not (apart Symbol (codes ")") Symbol (codes ",") refl t e))

-- a rule ends at any token
pub reads_rule : IsReader SpellsRule always rule_at
unfolding rule_at
reads_rule =
    reads_made (after_word (codes "rule")
    (reads_two reads_name (after_word (codes "on") (reads_two reads_name (after_symbol (codes "(") reads_vars)))))
    rule_of always (λ a t. refl) (λ x tokens h. h)
    (λ r tokens h. record { tree = (r.name, (r.relation, (r.vars, (r.predicates, r.conclusion)))); is = refl; spelled = h })

-- a rule begins with the word `rule`
pub begins_rule : (test : Lexeme → Bool) (b : Bool) → ((t : Lexeme) → is_word (codes "rule") t ≡ true → test t ≡ b)
    → Begins test b SpellsRule
begins_rule test b goes = begins_fixed
    (λ (r : RuleTree). SpellsName r.name ⋅ IsWord (codes "on") ⋅ SpellsName r.relation ⋅ IsSymbol (codes "(") ⋅ Vars
    (r.vars, (r.predicates, r.conclusion)))
    Word (codes "rule") test b goes
