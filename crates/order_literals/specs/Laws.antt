-- Laws of numbered statements and of the literals that say them.
use Rattle.std.specs.Prelude.{◌≡◌, ◌⊎◌, ◌<◌, Bool, not, List, length}
use Rattle.std.specs.List.Sorted.{IsStrictlySortedBy}
use Rattle.currency_base.specs.Literals.{var_of, negation}
use Rattle.currency_base.specs.declared.ids.AttrId.{AttrId}
use Rattle.currency_base.specs.declared.ids.RelId.{RelId}
use Rattle.currency_base.specs.declared.ids.RowId.{RowId}
use Rattle.currency_base.specs.declared.lit.Lit.{Lit}
use Rattle.refutation_log.specs.declared.statement.Statement.{Statement}
use Rattle.order_literals.specs.Numbers.{Numbers, IsPairOf}
use Rattle.order_literals.specs.Statements.{statements_of, statement_cmp}
use Rattle.order_literals.specs.Said.{Said, Says, turned, before, IsLitTrue, IsSaidTrue}

-- the numbered statements ascend, so each is numbered once
abbrev pub StatementsAscend : Type 0
StatementsAscend = (n : Numbers) → IsStrictlySortedBy statement_cmp (statements_of n)

-- one literal at most says a statement with its sign
abbrev pub OneLiteral : Type 0
OneLiteral = (n : Numbers) (a b : Lit) (s : Said) → Says (statements_of n) a s → Says (statements_of n) b s → a ≡ b

-- what one literal says is one thing, or the same in other words
abbrev pub OneSaid : Type 0
OneSaid = (statements : List Statement) (lit : Lit) (s t : Said) → Says statements lit s → Says statements lit t →
    (t ≡ s) ⊎ (t ≡ turned s)

-- a literal that says something is of a statement
abbrev pub SaysWithin : Type 0
SaysWithin = (statements : List Statement) (lit : Lit) (s : Said) → Says statements lit s → var_of lit < length statements

-- the negation of a literal says the same with the other sign
abbrev pub NegationSays : Type 0
NegationSays = (statements : List Statement) (lit : Lit) (s : Said) → Says statements lit s
    → Says statements (negation lit) (record { statement = s.statement; negative = not s.negative })

-- a literal of a variable, or its negation, is true, and not both
abbrev pub LiteralIsDecided : Type 0
LiteralIsDecided = (truths : List Bool) (lit : Lit) → var_of lit < length truths → IsLitTrue truths lit ⊎ IsLitTrue
    truths (negation lit)

abbrev pub LiteralsExclude : Type 0
LiteralsExclude = (truths : List Bool) (lit : Lit) → IsLitTrue truths lit → IsLitTrue truths (negation lit) → ⊥

-- of two different rows of one entity, the first stands before the second or the second before the first
abbrev pub PairIsDecided : Type 0
PairIsDecided = (n : Numbers) (truths : List Bool) → length truths ≡ length (statements_of n) →
    (rel : RelId) (attr : AttrId) (t u : RowId)
    → IsPairOf n rel.0 attr.0 t u
    → IsSaidTrue (statements_of n) truths (before rel attr t u) ⊎ IsSaidTrue (statements_of n) truths (before rel attr u t)

-- and not both, and no row stands before itself
abbrev pub PairExcludes : Type 0
PairExcludes = (n : Numbers) (truths : List Bool) (rel : RelId) (attr : AttrId) (t u : RowId)
    → IsSaidTrue (statements_of n) truths (before rel attr t u) → IsSaidTrue (statements_of n) truths (before rel attr u t) → ⊥

-- what is said of the order of two rows is of two different rows of one entity
abbrev pub SaidOfPairs : Type 0
SaidOfPairs = (n : Numbers) (lit : Lit) (rel : RelId) (attr : AttrId) (t u : RowId) (negative : Bool)
    → Says (statements_of n) lit (record (before rel attr t u) { negative = negative }) → IsPairOf n rel.0 attr.0 t u
