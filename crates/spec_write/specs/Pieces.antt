-- The tokens of a specification that is written, rule by rule of the grammars.
use Rattle.std.specs.Prelude.{ℕ, List, [], ◌∷◌, ◌++◌, Option, Some, None, codes}
use Rattle.currency_base.specs.declared.value.Cmp.{Cmp}
use Rattle.currency_base.specs.declared.value.Cmp.TheVariants.{Eq, Ne, Lt, Le, Gt, Ge}
use Rattle.currency_base.specs.declared.value.ValueKind.{ValueKind}
use Rattle.currency_base.specs.declared.value.ValueKind.TheVariants.{Text, Int}
use Rattle.text_grammar.specs.declared.named.Const.{Const}
use Rattle.text_grammar.specs.declared.named.Named.{Named}
use Rattle.text_grammar.specs.declared.named.NamedPair.{NamedPair}
use Rattle.rule_syntax.specs.declared.trees.ConclusionTree.{ConclusionTree}
use Rattle.rule_syntax.specs.declared.trees.ConclusionTree.TheVariants as conclusion
use Rattle.rule_syntax.specs.declared.trees.OrderAtomTree.{OrderAtomTree}
use Rattle.rule_syntax.specs.declared.trees.PredicateTree.{PredicateTree}
use Rattle.rule_syntax.specs.declared.trees.PredicateTree.TheVariants as predicate
use Rattle.rule_syntax.specs.declared.trees.RuleTree.{RuleTree}
use Rattle.rule_syntax.specs.declared.trees.TermTree.{TermTree}
use Rattle.rule_syntax.specs.declared.trees.TermTree.TheVariants.{Field, Constant}
use Rattle.copy_syntax.specs.declared.trees.CopyTree.{CopyTree}
use Rattle.copy_syntax.specs.declared.trees.Mappings.{Mappings}
use Rattle.copy_syntax.specs.declared.trees.Mappings.TheVariants.{Inline, Table}
use Rattle.spec_syntax.specs.declared.trees.AttrTree.{AttrTree}
use Rattle.spec_syntax.specs.declared.trees.OrderingTree.{OrderingTree}
use Rattle.spec_syntax.specs.declared.trees.SpecTree.{SpecTree}
use Rattle.spec_syntax.specs.declared.trees.StatementTree.{StatementTree}
use Rattle.spec_syntax.specs.declared.trees.StatementTree.TheVariants.{Relation, Order, Orders, Rule, Copy}
use Rattle.text_write.specs.Pieces.{Piece, word_piece, symbol_piece}
use Rattle.text_write.specs.Spelling.{name_piece, string_piece, value_piece}
use Rattle.spec_write.specs.declared.listed.Separator.{Separator}
use Rattle.spec_write.specs.declared.listed.Separator.TheVariants.{Comma, And}

-- ---- single tokens

-- this very word
abbrev pub word : List ℕ → List Piece
word text = word_piece text ∷ []

-- this very symbol
abbrev pub symbol : List ℕ → List Piece
symbol text = symbol_piece text ∷ []

-- a name
abbrev pub name_pieces : Named → List Piece
name_pieces n = name_piece n.name ∷ []

-- the name of a document, as a string
abbrev pub document_pieces : Named → List Piece
document_pieces n = string_piece n.name ∷ []

-- a variable
abbrev pub variable_pieces : Named → List Piece
variable_pieces v = word_piece v.name ∷ []

-- a constant
abbrev pub const_pieces : Const → List Piece
const_pieces c = value_piece c.value ∷ []

-- the word that names a kind
abbrev pub kind_text : ValueKind → List ℕ
kind_text Text = codes "text"
kind_text Int = codes "int"

-- a kind, by its word
abbrev pub kind_pieces : ValueKind → List Piece
kind_pieces kind = word (kind_text kind)

-- the symbol that names a comparison
abbrev pub cmp_text : Cmp → List ℕ
cmp_text Eq = codes "="
cmp_text Ne = codes "!="
cmp_text Lt = codes "<"
cmp_text Le = codes "<="
cmp_text Gt = codes ">"
cmp_text Ge = codes ">="

-- a comparison, by its symbol
abbrev pub cmp_pieces : Cmp → List Piece
cmp_pieces cmp = symbol (cmp_text cmp)

-- ---- parts that may be missing or stand many times

-- a part where it is there
abbrev pub maybe_pieces : {A : Type 0} → (A → List Piece) → Option A → List Piece
maybe_pieces pieces None = []
maybe_pieces pieces (Some a) = pieces a

-- items one after another
abbrev pub many_pieces : {A : Type 0} → (A → List Piece) → List A → List Piece
many_pieces pieces [] = []
many_pieces pieces (x ∷ xs) = pieces x ++ many_pieces pieces xs

-- items with a separator between two
abbrev pub listed_pieces : {A : Type 0} → List Piece → (A → List Piece) → List A → List Piece
listed_pieces separator pieces [] = []
listed_pieces separator pieces (x ∷ xs) = pieces x ++ many_pieces (λ y. separator ++ pieces y) xs

-- a comma, or the word `and`
abbrev pub separator_pieces : Separator → List Piece
separator_pieces Comma = symbol (codes ",")
separator_pieces And = word (codes "and")

-- items with a comma between two
abbrev pub comma_listed : {A : Type 0} → (A → List Piece) → List A → List Piece
comma_listed pieces xs = listed_pieces (separator_pieces Comma) pieces xs

-- ---- relations

-- attr = name ":" ( "text" | "int" )
abbrev pub attr_pieces : AttrTree → List Piece
attr_pieces a = name_pieces a.name ++ (symbol (codes ":") ++ kind_pieces a.kind)

-- attrs = "(" attr { "," attr } ")"
abbrev pub attrs_pieces : List AttrTree → List Piece
attrs_pieces attrs = symbol (codes "(") ++ (comma_listed attr_pieces attrs ++ symbol (codes ")"))

-- row = "row" name
abbrev pub row_pieces : Named → List Piece
row_pieces column = word (codes "row") ++ name_pieces column

-- ---- given pairs

-- pair = name "<" name
abbrev pub pair_pieces : NamedPair → List Piece
pair_pieces p = name_pieces p.first ++ (symbol (codes "<") ++ name_pieces p.second)

-- ordering = name "." name ":" pair { "," pair }
abbrev pub ordering_pieces : OrderingTree → List Piece
ordering_pieces o =
    name_pieces o.relation ++ (symbol (codes ".")
    ++ (name_pieces o.attr ++ (symbol (codes ":") ++ comma_listed pair_pieces o.pairs)))

-- ---- rules

-- atomorder = variable "before" variable "in" name
abbrev pub atom_pieces : OrderAtomTree → List Piece
atom_pieces a =
    variable_pieces a.earlier ++ (word (codes "before") ++ (variable_pieces a.later ++ (word (codes "in") ++ name_pieces a.attr)))

-- term = variable "." name | constant
abbrev pub term_pieces : TermTree → List Piece
term_pieces (Field var attr) = variable_pieces var ++ (symbol (codes ".") ++ name_pieces attr)
term_pieces (Constant c) = const_pieces c

-- predicate = atomorder | term cmp term
abbrev pub predicate_pieces : PredicateTree → List Piece
predicate_pieces (predicate.Order atom) = atom_pieces atom
predicate_pieces (predicate.Compare left cmp right) = term_pieces left ++ (cmp_pieces cmp ++ term_pieces right)

-- conclusion = "false" | atomorder
abbrev pub conclusion_pieces : ConclusionTree → List Piece
conclusion_pieces conclusion.Never = word (codes "false")
conclusion_pieces (conclusion.Order atom) = atom_pieces atom

-- conditions = [ "if" predicate { "and" predicate } "then" ]
abbrev pub conditions_pieces : List PredicateTree → List Piece
conditions_pieces [] = []
conditions_pieces (p ∷ ps) =
    word (codes "if") ++ (listed_pieces (separator_pieces And) predicate_pieces (p ∷ ps) ++ word (codes "then"))

-- rule = "rule" name "on" name "(" variable { "," variable } ")" ":" conditions conclusion
abbrev pub rule_pieces : RuleTree → List Piece
rule_pieces r =
    word (codes "rule") ++ (name_pieces r.name ++ (word (codes "on") ++ (name_pieces r.relation
    ++ (symbol (codes "(") ++ (comma_listed variable_pieces r.vars ++ (symbol (codes ")")
    ++ (symbol (codes ":") ++ (conditions_pieces r.predicates ++ conclusion_pieces r.conclusion))))))))

-- ---- copies

-- names = "(" name { "," name } ")"
abbrev pub names_pieces : List Named → List Piece
names_pieces names = symbol (codes "(") ++ (comma_listed name_pieces names ++ symbol (codes ")"))

-- mapping = name "from" name
abbrev pub mapping_pieces : NamedPair → List Piece
mapping_pieces m = name_pieces m.first ++ (word (codes "from") ++ name_pieces m.second)

-- mappings = ":" mapping { "," mapping } | "using" string
abbrev pub mappings_pieces : Mappings → List Piece
mappings_pieces (Inline pairs) = symbol (codes ":") ++ comma_listed mapping_pieces pairs
mappings_pieces (Table document) = word (codes "using") ++ document_pieces document

-- copy = "copy" name "into" name names "from" name names mappings
abbrev pub copy_pieces : CopyTree → List Piece
copy_pieces c =
    word (codes "copy") ++ (name_pieces c.name ++ (word (codes "into") ++ (name_pieces c.target ++ (names_pieces c.target_attrs
    ++ (word (codes "from") ++ (name_pieces c.source ++ (names_pieces c.source_attrs ++ mappings_pieces c.mappings)))))))

-- ---- specifications

-- statement = "relation" name "from" string [ "row" name ] "entity" name "(" attr { "," attr } ")"
--           | "order" ordering
--           | "orders" name "from" string
--           | rule
--           | copy
abbrev pub statement_pieces : StatementTree → List Piece
statement_pieces (Relation name document row entity attrs) =
    word (codes "relation") ++ (name_pieces name ++ (word (codes "from") ++ (document_pieces document
    ++ (maybe_pieces row_pieces row ++ (word (codes "entity") ++ (name_pieces entity ++ attrs_pieces attrs))))))
statement_pieces (Order ordering) = word (codes "order") ++ ordering_pieces ordering
statement_pieces (Orders relation document) =
    word (codes "orders") ++ (name_pieces relation ++ (word (codes "from") ++ document_pieces document))
statement_pieces (Rule rule) = rule_pieces rule
statement_pieces (Copy copy) = copy_pieces copy

-- statement ";"
abbrev pub ended_statement_pieces : StatementTree → List Piece
ended_statement_pieces s = statement_pieces s ++ symbol (codes ";")

-- spec = { statement ";" }
abbrev pub spec_pieces : SpecTree → List Piece
spec_pieces spec = many_pieces ended_statement_pieces spec.statements
