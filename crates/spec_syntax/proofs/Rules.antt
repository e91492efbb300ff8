-- The rules of the grammars are read as they are spelled.
use Rattle.std.proofs.Common.{◌≡◌, Bool, true, false, not, cond, List, inl, inr, refl, ap, subst, Option, Some, None, codes}
use Rattle.text_tokens.specs.Lexeme.{Lexeme}
use Rattle.text_tokens.specs.declared.token.TokenKind.TheVariants.{Word, Symbol}
use Rattle.text_grammar.specs.Words.{is_word, is_symbol, named, quoted}
use Rattle.text_grammar.specs.Grammar.{Language, ◌⋅◌, Says, IsWord, IsSymbol, SpellsName, SpellsString, Maybe, Listed}
use Rattle.text_grammar.specs.Reading.{one, both, after, choose}
use Rattle.text_grammar.specs.Laws.{IsReader}
use Rattle.text_grammar.specs.declared.named.Named.{Named}
use Rattle.text_grammar.proofs.Readers.{always, Begins, Ended, FirstIs, Image, begins_image, first_then, reads_one, reads_two, reads_then, reads_made, reads_mapped, reads_same}
use Rattle.text_grammar.proofs.Choices.{Either, maybe_ends, reads_maybe, reads_choose}
use Rattle.text_grammar.proofs.ListReaders.{unless, reads_many_plain}
use Rattle.text_grammar.proofs.FixedTokens.{a_fixed, a_fixed_is, apart, reads_name, reads_string, after_word, after_symbol, before_symbol, listed_symbol, begins_fixed}
use Rattle.rule_syntax.specs.Grammar.{SpellsRule}
use Rattle.rule_syntax.proofs.Rules.{begins_rule, reads_rule}
use Rattle.copy_syntax.specs.Grammar.{SpellsCopy}
use Rattle.copy_syntax.proofs.Copies.{begins_copy, copy_ends, ends_copy, reads_copy}
use Rattle.currency_base.specs.declared.value.ValueKind.TheVariants.{Text, Int}
use Rattle.spec_syntax.specs.declared.trees.AttrTree.{AttrTree}
use Rattle.spec_syntax.specs.declared.trees.OrderingTree.{OrderingTree}
use Rattle.spec_syntax.specs.declared.trees.StatementTree.{StatementTree}
use Rattle.spec_syntax.specs.declared.trees.StatementTree.TheVariants.{Relation, Order, Orders, Rule, Copy}
use Rattle.spec_syntax.specs.Grammar
use Rattle.spec_syntax.specs.Reading.{attr_at, pair_at, ordering_at, ended_ordering_at, row_at, attrs_at, relation_at, order_at, orders_at, constraint_at, copying_at, statement_at, ended_statement_at, spec_at}

-- ---- attributes

reads_kind : IsReader (Says Grammar.kind_named) always (one Grammar.kind_named)
reads_kind = reads_one Grammar.kind_named (a_fixed Word (codes "text")) Text
    (ap (λ (b : Bool). cond b (Some Text) (cond (is_word (codes "int") (a_fixed Word (codes "text"))) (Some Int)
    None)) (a_fixed_is Word (codes "text")))

pub reads_attr : IsReader Grammar.SpellsAttr always attr_at
unfolding attr_at
reads_attr =
    reads_made (reads_two reads_name (after_symbol (codes ":") reads_kind)) (λ x. record { name = x.0; kind = x.1 }) always
    (λ a t. refl) (λ x tokens h. h) (λ a tokens h. record { tree = (a.name, a.kind); is = refl; spelled = h })

-- ---- orderings

pub reads_pair : IsReader Grammar.SpellsPair always pair_at
unfolding pair_at
reads_pair =
    reads_made (reads_two reads_name (after_symbol (codes "<") reads_name)) (λ x. record { first = x.0; second = x.1 }) always
    (λ a t. refl) (λ x tokens h. h) (λ p tokens h. record { tree = (p.first, p.second); is = refl; spelled = h })

-- an ordering ends at any token but a comma
pub reads_ordering : IsReader Grammar.SpellsOrdering (unless (is_symbol (codes ","))) ordering_at
unfolding ordering_at
reads_ordering =
    reads_made (reads_two reads_name
    (after_symbol (codes ".") (reads_two reads_name (after_symbol (codes ":") (listed_symbol (codes ",") reads_pair)))))
    (λ x. record { relation = x.0; attr = x.1.0; pairs = x.1.1 }) (unless (is_symbol (codes ",")))
    (λ a t. refl) (λ x tokens h. h) (λ o tokens h. record { tree = (o.relation, (o.attr, o.pairs)); is = refl; spelled = h })

pub reads_ended_ordering : IsReader Grammar.SpellsEndedOrdering always ended_ordering_at
unfolding ended_ordering_at
reads_ended_ordering = before_symbol (codes ";") reads_ordering
    (λ o t e. ap not (apart Symbol (codes ";") Symbol (codes ",") refl t e))

-- ---- statements

abbrev Row : Option Named → Language
Row row = Maybe (λ column. IsWord (codes "row") ⋅ SpellsName column) row

reads_row : IsReader Row (maybe_ends always (is_word (codes "row"))) row_at
unfolding row_at
reads_row = reads_maybe (after_word (codes "row") reads_name) (is_word (codes "row"))
    (begins_fixed SpellsName Word (codes "row") (is_word (codes "row")) true (λ t e. e))

-- what ends a row's column, or its absence: the word `entity`
ends_row : Ended (maybe_ends {A = Named} always (is_word (codes "row"))) (is_word (codes "entity"))
ends_row None t e = ap not (apart Word (codes "entity") Word (codes "row") refl t e)
ends_row (Some n) t e = refl

abbrev Attrs : List AttrTree → Language
Attrs attrs = IsSymbol (codes "(") ⋅ Listed (IsSymbol (codes ",")) Grammar.SpellsAttr attrs ⋅ IsSymbol (codes ")")

reads_attrs : IsReader Attrs always attrs_at
unfolding attrs_at
reads_attrs = after_symbol (codes "(") (before_symbol (codes ")") (listed_symbol (codes ",") reads_attr)
    (λ a t e. ap not (apart Symbol (codes ")") Symbol (codes ",") refl t e)))

-- the parts of a relation: name, document, column of the row names, column of the entity names, attributes
abbrev RelationParts : Type 0
RelationParts = Named × (Named × (Option Named × (Named × List AttrTree)))

abbrev relation_of : RelationParts → StatementTree
relation_of x = Relation x.0 x.1.0 x.1.1.0 x.1.1.1.0 x.1.1.1.1

abbrev SpellsRelation : RelationParts → Language
SpellsRelation x =
    IsWord (codes "relation") ⋅ SpellsName x.0 ⋅ IsWord (codes "from") ⋅ SpellsString x.1.0 ⋅ Row x.1.1.0
    ⋅ IsWord (codes "entity") ⋅ SpellsName x.1.1.1.0 ⋅ Attrs x.1.1.1.1

-- what ends a statement: any token, but a comma goes on with an order or with the rows of a copy
abbrev ends_statement : StatementTree → Lexeme → Bool
ends_statement (Relation name document row entity attrs) t = true
ends_statement (Order o) t = not (is_symbol (codes ",") t)
ends_statement (Orders relation document) t = true
ends_statement (Rule r) t = true
ends_statement (Copy c) t = ends_copy c t

reads_relation : IsReader (Image relation_of SpellsRelation) ends_statement relation_at
unfolding relation_at
reads_relation = reads_mapped parts relation_of ends_statement (λ a t. refl)
  where
    entity : IsReader (λ (x : Named × List AttrTree). IsWord (codes "entity") ⋅ SpellsName x.0 ⋅ Attrs x.1) always
        (after (is_word (codes "entity")) (both (one named) attrs_at))
    entity = after_word (codes "entity") (reads_two reads_name reads_attrs)

    row : IsReader (λ (x : Option Named × (Named × List AttrTree)). Row x.0 ⋅ IsWord (codes "entity") ⋅ SpellsName
        x.1.0 ⋅ Attrs x.1.1) always
        (both row_at (after (is_word (codes "entity")) (both (one named) attrs_at)))
    row = reads_then reads_row entity (is_word (codes "entity"))
        (begins_fixed (λ (x : Named × List AttrTree). SpellsName x.0 ⋅ Attrs x.1) Word (codes "entity")
        (is_word (codes "entity")) true (λ t e. e)) ends_row

    parts : IsReader SpellsRelation always
        (after (is_word (codes "relation")) (both (one named) (after (is_word (codes "from")) (both (one quoted)
        (both row_at (after (is_word (codes "entity")) (both (one named) attrs_at)))))))
    parts = after_word (codes "relation") (reads_two reads_name (after_word (codes "from") (reads_two reads_string row)))

abbrev SpellsOrder : OrderingTree → Language
SpellsOrder o = IsWord (codes "order") ⋅ Grammar.SpellsOrdering o

reads_order : IsReader (Image Order SpellsOrder) ends_statement order_at
unfolding order_at
reads_order = reads_mapped (after_word (codes "order") reads_ordering) Order ends_statement (λ o t. refl)

-- the parts of `orders`: relation and document
abbrev OrdersParts : Type 0
OrdersParts = Named × Named

abbrev orders_of : OrdersParts → StatementTree
orders_of x = Orders x.0 x.1

abbrev SpellsOrders : OrdersParts → Language
SpellsOrders x = IsWord (codes "orders") ⋅ SpellsName x.0 ⋅ IsWord (codes "from") ⋅ SpellsString x.1

reads_orders : IsReader (Image orders_of SpellsOrders) ends_statement orders_at
unfolding orders_at
reads_orders = reads_mapped (after_word (codes "orders")
    (reads_two reads_name (after_word (codes "from") reads_string))) orders_of ends_statement (λ x t. refl)

reads_constraint : IsReader (Image Rule SpellsRule) ends_statement constraint_at
unfolding constraint_at
reads_constraint = reads_mapped reads_rule Rule ends_statement (λ r t. refl)

reads_copying : IsReader (Image Copy SpellsCopy) ends_statement copying_at
unfolding copying_at
reads_copying = reads_mapped reads_copy Copy ends_statement (λ c t. refl)

begins_relation : (test : Lexeme → Bool) (b : Bool) → ((t : Lexeme) → is_word (codes "relation") t ≡ true
    → test t ≡ b) → Begins test b (Image relation_of SpellsRelation)
begins_relation test b goes = begins_image relation_of SpellsRelation test b
    (begins_fixed
    (λ (x : RelationParts). SpellsName x.0 ⋅ IsWord (codes "from") ⋅ SpellsString x.1.0 ⋅ Row x.1.1.0 ⋅ IsWord
    (codes "entity") ⋅ SpellsName x.1.1.1.0 ⋅ Attrs x.1.1.1.1)
    Word (codes "relation") test b goes)

begins_order : (test : Lexeme → Bool) (b : Bool) → ((t : Lexeme) → is_word (codes "order") t ≡ true → test t ≡ b)
    → Begins test b (Image Order SpellsOrder)
begins_order test b goes = begins_image Order SpellsOrder test b (begins_fixed Grammar.SpellsOrdering Word
    (codes "order") test b goes)

begins_orders : (test : Lexeme → Bool) (b : Bool) → ((t : Lexeme) → is_word (codes "orders") t ≡ true → test t ≡ b)
    → Begins test b (Image orders_of SpellsOrders)
begins_orders test b goes = begins_image orders_of SpellsOrders test b
    (begins_fixed (λ (x : OrdersParts). SpellsName x.0 ⋅ IsWord (codes "from") ⋅ SpellsString x.1) Word
    (codes "orders") test b goes)

begins_constraint : (test : Lexeme → Bool) (b : Bool) → ((t : Lexeme) → is_word (codes "rule") t ≡ true → test t ≡ b)
    → Begins test b (Image Rule SpellsRule)
begins_constraint test b goes = begins_image Rule SpellsRule test b (begins_rule test b goes)

begins_copying : (test : Lexeme → Bool) (b : Bool) → ((t : Lexeme) → is_word (codes "copy") t ≡ true → test t ≡ b)
    → Begins test b (Image Copy SpellsCopy)
begins_copying test b goes = begins_image Copy SpellsCopy test b (begins_copy test b goes)

-- statements from some kind on, in the order in which they are tried
abbrev FromRule : StatementTree → Language
FromRule = Either (Image Rule SpellsRule) (Image Copy SpellsCopy)

abbrev FromOrders : StatementTree → Language
FromOrders = Either (Image orders_of SpellsOrders) FromRule

abbrev FromOrder : StatementTree → Language
FromOrder = Either (Image Order SpellsOrder) FromOrders

abbrev FromRelation : StatementTree → Language
FromRelation = Either (Image relation_of SpellsRelation) FromOrder

-- what a test answers at their first words
begins_from_rule : (test : Lexeme → Bool) (b : Bool)
    → ((t : Lexeme) → is_word (codes "rule") t ≡ true → test t ≡ b) → ((t : Lexeme) → is_word (codes "copy") t ≡ true
    → test t ≡ b) → Begins test b FromRule
begins_from_rule test b rule copy s tokens (inl h) = begins_constraint test b rule s tokens h
begins_from_rule test b rule copy s tokens (inr h) = begins_copying test b copy s tokens h

begins_from_orders : (test : Lexeme → Bool) (b : Bool) → ((t : Lexeme) → is_word (codes "orders") t ≡ true
    → test t ≡ b) → Begins test b FromRule → Begins test b FromOrders
begins_from_orders test b orders others s tokens (inl h) = begins_orders test b orders s tokens h
begins_from_orders test b orders others s tokens (inr h) = others s tokens h

begins_from_order : (test : Lexeme → Bool) (b : Bool) → ((t : Lexeme) → is_word (codes "order") t ≡ true
    → test t ≡ b) → Begins test b FromOrders → Begins test b FromOrder
begins_from_order test b order others s tokens (inl h) = begins_order test b order s tokens h
begins_from_order test b order others s tokens (inr h) = others s tokens h

statement_spelled : (s : StatementTree) (tokens : List Lexeme) → FromRelation s tokens → Grammar.SpellsStatement s tokens
statement_spelled s tokens (inl h) = subst (λ (s : StatementTree). Grammar.SpellsStatement s tokens) h.is h.spelled
statement_spelled s tokens (inr (inl h)) = subst (λ (s : StatementTree). Grammar.SpellsStatement s tokens) h.is h.spelled
statement_spelled s tokens (inr (inr (inl h))) = subst (λ (s : StatementTree). Grammar.SpellsStatement s tokens) h.is h.spelled
statement_spelled s tokens (inr (inr (inr (inl h)))) = subst (λ (s : StatementTree). Grammar.SpellsStatement s
    tokens) h.is h.spelled
statement_spelled s tokens (inr (inr (inr (inr h)))) = subst (λ (s : StatementTree). Grammar.SpellsStatement s
    tokens) h.is h.spelled

spelled_statement : (s : StatementTree) (tokens : List Lexeme) → Grammar.SpellsStatement s tokens → FromRelation s tokens
spelled_statement (Relation name document row entity attrs) tokens h =
    inl (record { tree = (name, (document, (row, (entity, attrs)))); is = refl; spelled = h })
spelled_statement (Order o) tokens h = inr (inl (record { tree = o; is = refl; spelled = h }))
spelled_statement (Orders relation document) tokens h =
    inr (inr (inl (record { tree = (relation, document); is = refl; spelled = h })))
spelled_statement (Rule r) tokens h = inr (inr (inr (inl (record { tree = r; is = refl; spelled = h }))))
spelled_statement (Copy c) tokens h = inr (inr (inr (inr (record { tree = c; is = refl; spelled = h }))))

reads_from_rule : IsReader FromRule ends_statement (choose (is_word (codes "rule")) constraint_at copying_at)
reads_from_rule = reads_choose reads_constraint reads_copying (is_word (codes "rule"))
    (begins_constraint (is_word (codes "rule")) true (λ t e. e))
    (begins_copying (is_word (codes "rule")) false (apart Word (codes "copy") Word (codes "rule") refl))

reads_from_orders : IsReader FromOrders ends_statement (choose (is_word (codes "orders")) orders_at
    (choose (is_word (codes "rule")) constraint_at copying_at))
reads_from_orders = reads_choose reads_orders reads_from_rule (is_word (codes "orders"))
    (begins_orders (is_word (codes "orders")) true (λ t e. e))
    (begins_from_rule (is_word (codes "orders")) false
    (apart Word (codes "rule") Word (codes "orders") refl) (apart Word (codes "copy") Word (codes "orders") refl))

reads_from_order : IsReader FromOrder ends_statement
    (choose (is_word (codes "order")) order_at (choose (is_word (codes "orders")) orders_at
    (choose (is_word (codes "rule")) constraint_at copying_at)))
reads_from_order = reads_choose reads_order reads_from_orders (is_word (codes "order"))
    (begins_order (is_word (codes "order")) true (λ t e. e))
    (begins_from_orders (is_word (codes "order")) false (apart Word (codes "orders") Word (codes "order") refl)
    (begins_from_rule (is_word (codes "order")) false
    (apart Word (codes "rule") Word (codes "order") refl) (apart Word (codes "copy") Word (codes "order") refl)))

pub reads_statement : IsReader Grammar.SpellsStatement ends_statement statement_at
unfolding statement_at
reads_statement = reads_same
    (reads_choose reads_relation reads_from_order (is_word (codes "relation"))
    (begins_relation (is_word (codes "relation")) true (λ t e. e))
    (begins_from_order (is_word (codes "relation")) false (apart Word (codes "order") Word (codes "relation") refl)
    (begins_from_orders (is_word (codes "relation")) false (apart Word (codes "orders") Word (codes "relation") refl)
    (begins_from_rule (is_word (codes "relation")) false
    (apart Word (codes "rule") Word (codes "relation") refl) (apart Word (codes "copy") Word (codes "relation") refl)))))
    statement_spelled spelled_statement

ends_at_semicolon : Ended ends_statement (is_symbol (codes ";"))
ends_at_semicolon (Relation name document row entity attrs) t e = refl
ends_at_semicolon (Order o) t e = ap not (apart Symbol (codes ";") Symbol (codes ",") refl t e)
ends_at_semicolon (Orders relation document) t e = refl
ends_at_semicolon (Rule r) t e = refl
ends_at_semicolon (Copy c) t e = copy_ends c t e

pub reads_ended_statement : IsReader Grammar.SpellsEndedStatement always ended_statement_at
unfolding ended_statement_at
reads_ended_statement = before_symbol (codes ";") reads_statement ends_at_semicolon

-- ---- specifications

begins_ended_statement : Begins (λ t. true) true Grammar.SpellsEndedStatement
begins_ended_statement s tokens h = first_then (λ t. true) true (statement_begins s) h
  where
    statement_begins : (s : StatementTree) (front : List Lexeme) → Grammar.SpellsStatement s front
        → FirstIs (λ t. true) true front
    statement_begins s front h = elim (spelled_statement s front h) [
      | inl h ↦ begins_relation (λ t. true) true (λ t e. refl) s front h
      | inr h ↦ begins_from_order (λ t. true) true (λ t e. refl) (begins_from_orders (λ t. true) true (λ t e. refl)
          (begins_from_rule (λ t. true) true (λ t e. refl) (λ t e. refl))) s front h
    ]

pub reads_spec : IsReader Grammar.SpellsSpec (unless (λ t. true)) spec_at
unfolding spec_at
reads_spec =
    reads_made (reads_many_plain reads_ended_statement (λ t. true) begins_ended_statement)
    (λ s. record { statements = s }) (unless (λ t. true))
    (λ a t. refl) (λ x tokens h. h) (λ spec tokens h. record { tree = spec.statements; is = refl; spelled = h })
