-- The grammar of rules.
use Rattle.std.specs.Prelude.{List, [], ◌∷◌, if◌then◌else◌, Option, Some, None, codes}
use Rattle.text_tokens.specs.Lexeme.{Lexeme}
use Rattle.text_grammar.specs.Words.{is_symbol, variable, constant}
use Rattle.text_grammar.specs.Grammar.{Language, ◌⋅◌, Nothing, Says, IsWord, IsSymbol, SpellsName, Listed}
use Rattle.text_grammar.specs.declared.named.Const.{Const}
use Rattle.text_grammar.specs.declared.named.Named.{Named}
use Rattle.currency_base.specs.declared.value.Cmp.{Cmp}
use Rattle.currency_base.specs.declared.value.Cmp.TheVariants.{Eq, Ne, Lt, Le, Gt, Ge}
use Rattle.rule_syntax.specs.declared.trees.ConclusionTree.{ConclusionTree}
use Rattle.rule_syntax.specs.declared.trees.ConclusionTree.TheVariants as conclusion
use Rattle.rule_syntax.specs.declared.trees.OrderAtomTree.{OrderAtomTree}
use Rattle.rule_syntax.specs.declared.trees.PredicateTree.{PredicateTree}
use Rattle.rule_syntax.specs.declared.trees.PredicateTree.TheVariants as predicate
use Rattle.rule_syntax.specs.declared.trees.RuleTree.{RuleTree}
use Rattle.rule_syntax.specs.declared.trees.TermTree.{TermTree}
use Rattle.rule_syntax.specs.declared.trees.TermTree.TheVariants.{Field, Constant}

-- one token that is a variable, and the line where it stands
abbrev pub SpellsVariable : Named → Language
SpellsVariable v = Says variable v

-- one token that is a constant, and the line where it stands
abbrev pub SpellsConst : Const → Language
SpellsConst c = Says constant c

-- the comparison that a symbol names
abbrev pub cmp_named : Lexeme → Option Cmp
cmp_named t =
    if is_symbol (codes "=") t then Some Eq else (if is_symbol (codes "!=") t then Some Ne else
    (if is_symbol (codes "<") t then Some Lt
    else (if is_symbol (codes "<=") t then Some Le else (if is_symbol (codes ">") t then Some Gt else
    (if is_symbol (codes ">=") t then Some Ge
    else None)))))

-- atomorder = variable "before" variable "in" name
abbrev pub SpellsAtom : OrderAtomTree → Language
SpellsAtom a = SpellsVariable a.earlier ⋅ IsWord (codes "before") ⋅ SpellsVariable a.later ⋅ IsWord (codes "in") ⋅
    SpellsName a.attr

-- term = variable "." name | constant
abbrev pub SpellsTerm : TermTree → Language
SpellsTerm (Field var attr) = SpellsVariable var ⋅ IsSymbol (codes ".") ⋅ SpellsName attr
SpellsTerm (Constant c) = SpellsConst c

-- predicate = atomorder | term cmp term
abbrev pub SpellsPredicate : PredicateTree → Language
SpellsPredicate (predicate.Order atom) = SpellsAtom atom
SpellsPredicate (predicate.Compare left cmp right) = SpellsTerm left ⋅ Says cmp_named cmp ⋅ SpellsTerm right

-- conclusion = "false" | atomorder
abbrev pub SpellsConclusion : ConclusionTree → Language
SpellsConclusion conclusion.Never = IsWord (codes "false")
SpellsConclusion (conclusion.Order atom) = SpellsAtom atom

-- conditions = [ "if" predicate { "and" predicate } "then" ]
abbrev pub SpellsConditions : List PredicateTree → Language
SpellsConditions [] = Nothing
SpellsConditions (p ∷ ps) = IsWord (codes "if") ⋅ Listed (IsWord (codes "and")) SpellsPredicate (p ∷ ps) ⋅ IsWord (codes "then")

-- rule = "rule" name "on" name "(" variable { "," variable } ")" ":" conditions conclusion
abbrev pub SpellsRule : RuleTree → Language
SpellsRule r =
    IsWord (codes "rule") ⋅ SpellsName r.name ⋅ IsWord (codes "on") ⋅ SpellsName r.relation
    ⋅ IsSymbol (codes "(") ⋅ Listed (IsSymbol (codes ",")) SpellsVariable r.vars ⋅ IsSymbol (codes ")")
    ⋅ IsSymbol (codes ":") ⋅ SpellsConditions r.predicates ⋅ SpellsConclusion r.conclusion
