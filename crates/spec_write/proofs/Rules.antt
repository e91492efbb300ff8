-- The rules of specifications are written in tokens that spell the same trees, their lines aside.
use Rattle.std.proofs.Common.{◌≡◌, List, [], ◌∷◌, ◌++◌, map, refl, ap, arith, Option, option_map, codes}
use Rattle.std.specs.Prelude.{All}
use Rattle.std.proofs.lemmas.List.Elements.{All-nil}
use Rattle.currency_base.specs.declared.value.Cmp.{Cmp}
use Rattle.currency_base.specs.declared.value.ValueKind.{ValueKind}
use Rattle.text_tokens.specs.Lexeme.{Lexeme}
use Rattle.text_grammar.specs.Grammar.{◌⋅◌, IsSymbol, IsWord, Language, Listed, SpellsName}
use Rattle.text_grammar.specs.declared.named.Const.{Const}
use Rattle.text_grammar.specs.declared.named.Named.{Named}
use Rattle.text_grammar.specs.declared.named.NamedPair.{NamedPair}
use Rattle.rule_syntax.specs.Grammar.{SpellsAtom, SpellsConclusion, SpellsConditions, SpellsPredicate, SpellsRule, SpellsTerm}
use Rattle.rule_syntax.specs.declared.trees.ConclusionTree.{ConclusionTree}
use Rattle.rule_syntax.specs.declared.trees.ConclusionTree.TheVariants as conclusion
use Rattle.rule_syntax.specs.declared.trees.OrderAtomTree.{OrderAtomTree}
use Rattle.rule_syntax.specs.declared.trees.PredicateTree.{PredicateTree}
use Rattle.rule_syntax.specs.declared.trees.PredicateTree.TheVariants as predicate
use Rattle.rule_syntax.specs.declared.trees.RuleTree.{RuleTree}
use Rattle.rule_syntax.specs.declared.trees.TermTree.{TermTree}
use Rattle.rule_syntax.specs.declared.trees.TermTree.TheVariants.{Field, Constant}
use Rattle.copy_syntax.specs.Grammar.{SpellsCopy, SpellsMapping, SpellsMappings, SpellsNames}
use Rattle.copy_syntax.specs.declared.trees.CopyTree.{CopyTree}
use Rattle.copy_syntax.specs.declared.trees.Mappings.{Mappings}
use Rattle.copy_syntax.specs.declared.trees.Mappings.TheVariants.{Inline, Table}
use Rattle.spec_syntax.specs.Grammar.{SpellsAttr, SpellsEndedStatement, SpellsOrdering, SpellsPair, SpellsSpec, SpellsStatement}
use Rattle.spec_syntax.specs.declared.trees.AttrTree.{AttrTree}
use Rattle.spec_syntax.specs.declared.trees.OrderingTree.{OrderingTree}
use Rattle.spec_syntax.specs.declared.trees.SpecTree.{SpecTree}
use Rattle.spec_syntax.specs.declared.trees.StatementTree.{StatementTree}
use Rattle.spec_syntax.specs.declared.trees.StatementTree.TheVariants.{Relation, Order, Orders, Rule, Copy}
use Rattle.text_write.specs.Pieces.{Piece, piece_of}
use Rattle.text_write.specs.Written.{IsPiece}
use Rattle.spec_write.specs.Pieces.{atom_pieces, attr_pieces, comma_listed, conclusion_pieces, conditions_pieces, copy_pieces, ended_statement_pieces, listed_pieces, mapping_pieces, mappings_pieces, names_pieces, ordering_pieces, pair_pieces, predicate_pieces, row_pieces, rule_pieces, separator_pieces, spec_pieces, statement_pieces, symbol, term_pieces, word}
use Rattle.spec_write.specs.Unlined.{unlined_atom, unlined_attr, unlined_conclusion, unlined_copy, unlined_mappings, unlined_name, unlined_ordering, unlined_pair, unlined_predicate, unlined_rule, unlined_spec, unlined_statement, unlined_term}
use Rattle.spec_write.specs.declared.listed.Separator.TheVariants.{And}
use Rattle.spec_write.proofs.Rewritten.{IsKept, IsRewritten, Respelled, respelled_as, rewritten_after, rewritten_before, rewritten_listed, rewritten_made, rewritten_many, rewritten_maybe, rewritten_two}
use Rattle.spec_write.proofs.SingleTokens.{Laws, kept_symbol, kept_word, rewritten_cmp, rewritten_const, rewritten_document, rewritten_kind, rewritten_name, rewritten_variable}
use Rattle.spec_write.proofs.Words.{IsToken}

-- ---- symbols

semicolon : IsKept (IsSymbol (codes ";")) (symbol (codes ";"))
semicolon = kept_symbol (codes ";") (0, omega arith, refl)

comma : IsKept (IsSymbol (codes ",")) (symbol (codes ","))
comma = kept_symbol (codes ",") (1, omega arith, refl)

colon : IsKept (IsSymbol (codes ":")) (symbol (codes ":"))
colon = kept_symbol (codes ":") (2, omega arith, refl)

opening : IsKept (IsSymbol (codes "(")) (symbol (codes "("))
opening = kept_symbol (codes "(") (3, omega arith, refl)

closing : IsKept (IsSymbol (codes ")")) (symbol (codes ")"))
closing = kept_symbol (codes ")") (4, omega arith, refl)

dot : IsKept (IsSymbol (codes ".")) (symbol (codes "."))
dot = kept_symbol (codes ".") (5, omega arith, refl)

less : IsKept (IsSymbol (codes "<")) (symbol (codes "<"))
less = kept_symbol (codes "<") (9, omega arith, refl)

-- items with commas between them, in parentheses
in_parentheses : {A : Type 0} {P : A → List Lexeme → Type 0} {p : A → List Piece} {u : A → A} → IsRewritten P p u
    → IsRewritten (λ xs. IsSymbol (codes "(") ⋅ Listed (IsSymbol (codes ",")) P xs ⋅ IsSymbol (codes ")"))
    (λ xs. symbol (codes "(") ++ (comma_listed p xs ++ symbol (codes ")"))) (map u)
in_parentheses r = rewritten_after opening (rewritten_before (rewritten_listed comma r) closing)

-- ---- relations and given pairs

rewritten_attr : Laws → IsRewritten SpellsAttr attr_pieces unlined_attr
rewritten_attr laws = rewritten_made
    (rewritten_two (rewritten_name laws) (rewritten_after colon rewritten_kind))
    (λ (x : Named × ValueKind). record { name = x.0; kind = x.1 }) (λ (a : AttrTree). (a.name, a.kind))
    (λ a tokens h. h) (λ x tokens h. h) (λ a. refl)
    (λ x a e. ap (λ (y : Named × ValueKind). record { name = y.0; kind = y.1 }) e)

rewritten_row : Laws → IsRewritten (λ column. IsWord (codes "row") ⋅ SpellsName column) row_pieces unlined_name
rewritten_row laws = rewritten_after (kept_word (codes "row")) (rewritten_name laws)

rewritten_pair : Laws → IsRewritten SpellsPair pair_pieces unlined_pair
rewritten_pair laws = rewritten_made
    (rewritten_two (rewritten_name laws) (rewritten_after less (rewritten_name laws)))
    (λ (x : Named × Named). record { first = x.0; second = x.1 }) (λ (p : NamedPair). (p.first, p.second))
    (λ p tokens h. h) (λ x tokens h. h) (λ p. refl)
    (λ x p e. ap (λ (y : Named × Named). record { first = y.0; second = y.1 }) e)

-- the parts of an ordering: relation, attribute, pairs
abbrev OrderingParts : Type 0
OrderingParts = Named × (Named × List NamedPair)

abbrev ordering_of : OrderingParts → OrderingTree
ordering_of x = record { relation = x.0; attr = x.1.0; pairs = x.1.1 }

rewritten_ordering : Laws → IsRewritten SpellsOrdering ordering_pieces unlined_ordering
rewritten_ordering laws = rewritten_made
    (rewritten_two (rewritten_name laws) (rewritten_after dot
    (rewritten_two (rewritten_name laws) (rewritten_after colon (rewritten_listed comma (rewritten_pair laws))))))
    ordering_of (λ (o : OrderingTree). (o.relation, (o.attr, o.pairs)))
    (λ o tokens h. h) (λ x tokens h. h) (λ o. refl) (λ x o e. ap ordering_of e)

-- ---- rules

abbrev atom_of : Named × (Named × Named) → OrderAtomTree
atom_of x = record { earlier = x.0; later = x.1.0; attr = x.1.1 }

rewritten_atom : Laws → IsRewritten SpellsAtom atom_pieces unlined_atom
rewritten_atom laws = rewritten_made
    (rewritten_two rewritten_variable (rewritten_after (kept_word (codes "before"))
    (rewritten_two rewritten_variable (rewritten_after (kept_word (codes "in")) (rewritten_name laws)))))
    atom_of (λ (a : OrderAtomTree). (a.earlier, (a.later, a.attr)))
    (λ a tokens h. h) (λ x tokens h. h) (λ a. refl) (λ x a e. ap atom_of e)

abbrev field_of : Named × Named → TermTree
field_of x = Field x.0 x.1

rewritten_field : Laws → IsRewritten (λ (x : Named × Named). SpellsTerm (field_of x)) (λ x. term_pieces (field_of x))
    (λ x. (unlined_name x.0, unlined_name x.1))
rewritten_field laws = rewritten_two rewritten_variable (rewritten_after dot (rewritten_name laws))

rewritten_term : Laws → IsRewritten SpellsTerm term_pieces unlined_term
rewritten_term laws = record { whole = whole; again = again }
  where
    whole : (a : TermTree) (tokens : List Lexeme) → All IsToken tokens → SpellsTerm a tokens → All IsPiece (term_pieces a)
    whole (Field var attr) tokens h s = (rewritten_field laws).whole (var, attr) tokens h s
    whole (Constant c) tokens h s = (rewritten_const laws).whole c tokens h s

    again : (a : TermTree) (tokens others : List Lexeme) → SpellsTerm a tokens → map piece_of others ≡ term_pieces a
        → Respelled SpellsTerm unlined_term a others
    again (Field var attr) tokens others s e =
        respelled_as field_of (var, attr) (Field var attr) others (λ x h. h) (λ x h. ap field_of h)
        ((rewritten_field laws).again (var, attr) tokens others s e)
    again (Constant c) tokens others s e =
        respelled_as (λ (x : Const). Constant x) c (Constant c) others (λ x h. h)
        (λ x h. ap (λ (y : Const). Constant y) h) ((rewritten_const laws).again c tokens others s e)

abbrev compare_of : TermTree × (Cmp × TermTree) → PredicateTree
compare_of x = predicate.Compare x.0 x.1.0 x.1.1

rewritten_compare : Laws → IsRewritten (λ (x : TermTree × (Cmp × TermTree)). SpellsPredicate (compare_of x))
    (λ x. predicate_pieces (compare_of x))
    (λ x. (unlined_term x.0, (x.1.0, unlined_term x.1.1)))
rewritten_compare laws = rewritten_two (rewritten_term laws) (rewritten_two rewritten_cmp (rewritten_term laws))

rewritten_predicate : Laws → IsRewritten SpellsPredicate predicate_pieces unlined_predicate
rewritten_predicate laws = record { whole = whole; again = again }
  where
    whole : (a : PredicateTree) (tokens : List Lexeme) → All IsToken tokens → SpellsPredicate a tokens → All IsPiece
        (predicate_pieces a)
    whole (predicate.Order atom) tokens h s = (rewritten_atom laws).whole atom tokens h s
    whole (predicate.Compare left cmp right) tokens h s = (rewritten_compare laws).whole (left, (cmp, right)) tokens h s

    again : (a : PredicateTree) (tokens others : List Lexeme) → SpellsPredicate a tokens → map piece_of others ≡
        predicate_pieces a → Respelled SpellsPredicate unlined_predicate a others
    again (predicate.Order atom) tokens others s e =
        respelled_as (λ (x : OrderAtomTree). predicate.Order x) atom (predicate.Order atom) others (λ x h. h)
        (λ x h. ap (λ (y : OrderAtomTree). predicate.Order y) h)
        ((rewritten_atom laws).again atom tokens others s e)
    again (predicate.Compare left cmp right) tokens others s e =
        respelled_as compare_of (left, (cmp, right)) (predicate.Compare left cmp right) others (λ x h. h) (λ x h. ap compare_of h)
        ((rewritten_compare laws).again (left, (cmp, right)) tokens others s e)

rewritten_conclusion : Laws → IsRewritten SpellsConclusion conclusion_pieces unlined_conclusion
rewritten_conclusion laws = record { whole = whole; again = again }
  where
    never : IsKept (IsWord (codes "false")) (conclusion_pieces conclusion.Never)
    never = kept_word (codes "false")

    whole : (a : ConclusionTree) (tokens : List Lexeme) → All IsToken tokens → SpellsConclusion a tokens
        → All IsPiece (conclusion_pieces a)
    whole conclusion.Never tokens h s = never.whole tokens h s
    whole (conclusion.Order atom) tokens h s = (rewritten_atom laws).whole atom tokens h s

    again : (a : ConclusionTree) (tokens others : List Lexeme) → SpellsConclusion a tokens → map piece_of others ≡
        conclusion_pieces a → Respelled SpellsConclusion unlined_conclusion a others
    again conclusion.Never tokens others s e = record {
      tree = conclusion.Never;
      spelled = never.again tokens others
          s e;
      same = refl;
    }
    again (conclusion.Order atom) tokens others s e =
        respelled_as (λ (x : OrderAtomTree). conclusion.Order x) atom (conclusion.Order atom) others (λ x h. h)
        (λ x h. ap (λ (y : OrderAtomTree). conclusion.Order y) h)
        ((rewritten_atom laws).again atom tokens others s e)

-- predicates between `if` and `then`, of which there is one or more
abbrev Conditions : List PredicateTree → Language
Conditions ps = IsWord (codes "if") ⋅ Listed (IsWord (codes "and")) SpellsPredicate ps ⋅ IsWord (codes "then")

abbrev some_conditions : List PredicateTree → List Piece
some_conditions ps = word (codes "if") ++ (listed_pieces (separator_pieces And) predicate_pieces ps ++ word (codes "then"))

rewritten_conditions : Laws → IsRewritten SpellsConditions conditions_pieces (map unlined_predicate)
rewritten_conditions laws = record { whole = whole; again = again }
  where
    some : IsRewritten Conditions some_conditions (map unlined_predicate)
    some = rewritten_after (kept_word (codes "if"))
        (rewritten_before (rewritten_listed (kept_word (codes "and")) (rewritten_predicate laws)) (kept_word (codes "then")))

    spelled : (ps : List PredicateTree) (tokens : List Lexeme) → Conditions ps tokens → SpellsConditions ps tokens
    spelled [] tokens h = absurd h.second.first
    spelled (p ∷ ps) tokens h = h

    whole : (ps : List PredicateTree) (tokens : List Lexeme) → All IsToken tokens → SpellsConditions ps tokens
        → All IsPiece (conditions_pieces ps)
    whole [] tokens h s = All-nil IsPiece
    whole (p ∷ ps) tokens h s = some.whole (p ∷ ps) tokens h s

    again : (ps : List PredicateTree) (tokens others : List Lexeme) → SpellsConditions ps tokens
        → map piece_of others ≡ conditions_pieces ps → Respelled SpellsConditions (map unlined_predicate) ps others
    again [] tokens [] s e = record { tree = []; spelled = refl; same = refl }
    again [] tokens (t ∷ ts) s e = absurd (cc)
    again (p ∷ ps) tokens others s e =
        respelled_as (λ (x : List PredicateTree). x) (p ∷ ps) (p ∷ ps) others (λ x h. spelled x others h) (λ x h. h)
        (some.again (p ∷ ps) tokens others s e)

-- the parts of a rule: name, relation, variables, predicates, conclusion
abbrev RuleParts : Type 0
RuleParts = Named × (Named × (List Named × (List PredicateTree × ConclusionTree)))

abbrev rule_of : RuleParts → RuleTree
rule_of x = record { name = x.0; relation = x.1.0; vars = x.1.1.0; predicates = x.1.1.1.0; conclusion = x.1.1.1.1 }

rewritten_rule : Laws → IsRewritten SpellsRule rule_pieces unlined_rule
rewritten_rule laws = rewritten_made
    (rewritten_after (kept_word (codes "rule")) (rewritten_two (rewritten_name laws)
    (rewritten_after (kept_word (codes "on")) (rewritten_two (rewritten_name laws)
    (rewritten_after opening (rewritten_two (rewritten_listed comma rewritten_variable)
    (rewritten_after closing (rewritten_after colon (rewritten_two (rewritten_conditions laws)
    (rewritten_conclusion laws))))))))))
    rule_of (λ (r : RuleTree). (r.name, (r.relation, (r.vars, (r.predicates, r.conclusion)))))
    (λ r tokens h. h) (λ x tokens h. h) (λ r. refl) (λ x r e. ap rule_of e)

-- ---- copies

rewritten_names : Laws → IsRewritten SpellsNames names_pieces (map unlined_name)
rewritten_names laws = in_parentheses (rewritten_name laws)

rewritten_mapping : Laws → IsRewritten SpellsMapping mapping_pieces unlined_pair
rewritten_mapping laws = rewritten_made
    (rewritten_two (rewritten_name laws) (rewritten_after (kept_word (codes "from")) (rewritten_name laws)))
    (λ (x : Named × Named). record { first = x.0; second = x.1 }) (λ (p : NamedPair). (p.first, p.second))
    (λ p tokens h. h) (λ x tokens h. h) (λ p. refl)
    (λ x p e. ap (λ (y : Named × Named). record { first = y.0; second = y.1 }) e)

rewritten_mappings : Laws → IsRewritten SpellsMappings mappings_pieces unlined_mappings
rewritten_mappings laws = record { whole = whole; again = again }
  where
    rows : IsRewritten (λ (pairs : List NamedPair). SpellsMappings (Inline pairs))
        (λ pairs. mappings_pieces (Inline pairs)) (map unlined_pair)
    rows = rewritten_after colon (rewritten_listed comma (rewritten_mapping laws))

    table : IsRewritten (λ (document : Named). SpellsMappings (Table document))
        (λ document. mappings_pieces (Table document)) unlined_name
    table = rewritten_after (kept_word (codes "using")) (rewritten_document laws)

    whole : (a : Mappings) (tokens : List Lexeme) → All IsToken tokens → SpellsMappings a tokens → All IsPiece (mappings_pieces a)
    whole (Inline pairs) tokens h s = rows.whole pairs tokens h s
    whole (Table document) tokens h s = table.whole document tokens h s

    again : (a : Mappings) (tokens others : List Lexeme) → SpellsMappings a tokens → map piece_of others ≡
        mappings_pieces a → Respelled SpellsMappings unlined_mappings a others
    again (Inline pairs) tokens others s e =
        respelled_as (λ (x : List NamedPair). Inline x) pairs (Inline pairs) others (λ x h. h)
        (λ x h. ap (λ (y : List NamedPair). Inline y) h) (rows.again pairs tokens others s e)
    again (Table document) tokens others s e =
        respelled_as (λ (x : Named). Table x) document (Table document) others (λ x h. h)
        (λ x h. ap (λ (y : Named). Table y) h) (table.again document tokens others s e)

-- the parts of a copy: name, target and its attributes, source and its attributes, mappings
abbrev CopyParts : Type 0
CopyParts = Named × (Named × (List Named × (Named × (List Named × Mappings))))

abbrev copy_of : CopyParts → CopyTree
copy_of x = record {
  name = x.0;
  target = x.1.0;
  target_attrs = x.1.1.0;
  source = x.1.1.1.0;
  source_attrs =
      x.1.1.1.1.0;
  mappings = x.1.1.1.1.1;
}

rewritten_copy : Laws → IsRewritten SpellsCopy copy_pieces unlined_copy
rewritten_copy laws = rewritten_made
    (rewritten_after (kept_word (codes "copy")) (rewritten_two (rewritten_name laws)
    (rewritten_after (kept_word (codes "into")) (rewritten_two (rewritten_name laws) (rewritten_two (rewritten_names laws)
    (rewritten_after (kept_word (codes "from"))
    (rewritten_two (rewritten_name laws) (rewritten_two (rewritten_names laws) (rewritten_mappings laws)))))))))
    copy_of (λ (c : CopyTree). (c.name, (c.target, (c.target_attrs, (c.source, (c.source_attrs, c.mappings))))))
    (λ c tokens h. h) (λ x tokens h. h) (λ c. refl) (λ x c e. ap copy_of e)

-- ---- specifications

-- the parts of a relation: name, document, column of rows, column of entities, attributes
abbrev RelationParts : Type 0
RelationParts = Named × (Named × (Option Named × (Named × List AttrTree)))

abbrev relation_of : RelationParts → StatementTree
relation_of x = Relation x.0 x.1.0 x.1.1.0 x.1.1.1.0 x.1.1.1.1

abbrev unlined_relation : RelationParts → RelationParts
unlined_relation x = (
  unlined_name x.0,
  (unlined_name x.1.0, (option_map unlined_name x.1.1.0, (unlined_name x.1.1.1.0, map unlined_attr x.1.1.1.1))),
)

abbrev orders_of : Named × Named → StatementTree
orders_of x = Orders x.0 x.1

rewritten_statement : Laws → IsRewritten SpellsStatement statement_pieces unlined_statement
rewritten_statement laws = record { whole = whole; again = again }
  where
    relation : IsRewritten (λ (x : RelationParts). SpellsStatement (relation_of x))
        (λ x. statement_pieces (relation_of x)) unlined_relation
    relation = rewritten_after (kept_word (codes "relation")) (rewritten_two (rewritten_name laws)
        (rewritten_after (kept_word (codes "from")) (rewritten_two (rewritten_document laws)
        (rewritten_two (rewritten_maybe (rewritten_row laws))
        (rewritten_after (kept_word (codes "entity"))
        (rewritten_two (rewritten_name laws) (in_parentheses (rewritten_attr laws))))))))

    order : IsRewritten (λ (o : OrderingTree). SpellsStatement (Order o)) (λ o. statement_pieces (Order o)) unlined_ordering
    order = rewritten_after (kept_word (codes "order")) (rewritten_ordering laws)

    orders : IsRewritten (λ (x : Named × Named). SpellsStatement (orders_of x)) (λ x. statement_pieces (orders_of x))
        (λ x. (unlined_name x.0, unlined_name x.1))
    orders = rewritten_after (kept_word (codes "orders"))
        (rewritten_two (rewritten_name laws) (rewritten_after (kept_word (codes "from")) (rewritten_document laws)))

    whole : (a : StatementTree) (tokens : List Lexeme) → All IsToken tokens → SpellsStatement a tokens → All IsPiece
        (statement_pieces a)
    whole (Relation name document row entity attrs) tokens h s = relation.whole
        (name, (document, (row, (entity, attrs)))) tokens h s
    whole (Order o) tokens h s = order.whole o tokens h s
    whole (Orders r document) tokens h s = orders.whole (r, document) tokens h s
    whole (Rule r) tokens h s = (rewritten_rule laws).whole r tokens h s
    whole (Copy c) tokens h s = (rewritten_copy laws).whole c tokens h s

    again : (a : StatementTree) (tokens others : List Lexeme) → SpellsStatement a tokens → map piece_of others ≡
        statement_pieces a → Respelled SpellsStatement unlined_statement a others
    again (Relation name document row entity attrs) tokens others s e =
        respelled_as relation_of (name, (document, (row, (entity, attrs)))) (Relation name document row entity attrs)
        others (λ x h. h) (λ x h. ap relation_of h)
        (relation.again (name, (document, (row, (entity, attrs)))) tokens others s e)
    again (Order o) tokens others s e =
        respelled_as (λ (x : OrderingTree). Order x) o (Order o) others (λ x h. h)
        (λ x h. ap (λ (y : OrderingTree). Order y) h) (order.again o tokens others s e)
    again (Orders r document) tokens others s e =
        respelled_as orders_of (r, document) (Orders r document) others (λ x h. h) (λ x h. ap orders_of h)
        (orders.again (r, document) tokens others s e)
    again (Rule r) tokens others s e =
        respelled_as (λ (x : RuleTree). Rule x) r (Rule r) others (λ x h. h) (λ x h. ap (λ (y : RuleTree). Rule y) h)
        ((rewritten_rule laws).again r tokens others s e)
    again (Copy c) tokens others s e =
        respelled_as (λ (x : CopyTree). Copy x) c (Copy c) others (λ x h. h) (λ x h. ap (λ (y : CopyTree). Copy y) h)
        ((rewritten_copy laws).again c tokens others s e)

rewritten_ended_statement : Laws → IsRewritten SpellsEndedStatement ended_statement_pieces unlined_statement
rewritten_ended_statement laws = rewritten_before (rewritten_statement laws) semicolon

pub rewritten_spec : Laws → IsRewritten SpellsSpec spec_pieces unlined_spec
rewritten_spec laws = rewritten_made (rewritten_many (rewritten_ended_statement laws))
    (λ (xs : List StatementTree). record { statements = xs }) (λ (s : SpecTree). s.statements)
    (λ s tokens h. h) (λ x tokens h. h) (λ s. refl)
    (λ x s e. ap (λ (xs : List StatementTree). record { statements = xs }) e)
