-- The grammar of logs: which tokens spell a log.
use Rattle.std.specs.Prelude.{◌≡◌, ◌⊎◌, ◌≤◌, ℕ, ◌+◌, true, false, if◌then◌else◌, List, [], ◌∷◌, length, map, Option, Some, None, codes}
use Rattle.text_tokens.specs.Lexeme.{Lexeme}
use Rattle.text_grammar.specs.Words.{is_word}
use Rattle.text_grammar.specs.Grammar.{Language, Nothing, ◌⋅◌, Says, IsWord, IsSymbol, Many}
use Rattle.currency_base.specs.declared.ids.AttrId.{AttrId}
use Rattle.currency_base.specs.declared.ids.EntId.{EntId}
use Rattle.currency_base.specs.declared.ids.RelId.{RelId}
use Rattle.currency_base.specs.declared.ids.RowId.{RowId}
use Rattle.currency_base.specs.declared.lit.Lit.{Lit}
use Rattle.currency_base.specs.declared.value.Value.{Value}
use Rattle.refutation_log.specs.declared.log.Log.{Log}
use Rattle.refutation_log.specs.declared.statement.Statement.{Statement}
use Rattle.refutation_log.specs.declared.statement.Statement.TheVariants as statement
use Rattle.refutation_log.specs.declared.step.Label.{Label}
use Rattle.refutation_log.specs.declared.step.Label.TheVariants as label
use Rattle.refutation_log.specs.declared.step.Step.{Step}
use Rattle.refutation_log.specs.declared.step.Step.TheVariants.{Axiom, OnDemand, Learn}
use Rattle.log_syntax.specs.declared.trees.ReadLog.{ReadLog}
use Rattle.log_syntax.specs.declared.trees.StatementOnLine.{StatementOnLine}
use Rattle.log_syntax.specs.declared.trees.StepOnLine.{StepOnLine}
use Rattle.log_syntax.specs.declared.trees.StatementTree.{StatementTree}
use Rattle.log_syntax.specs.declared.trees.StatementTree.TheVariants.{Before, Top, Last, Answer}
use Rattle.log_syntax.specs.Numbers.{place_in, lit_in, constant_in}

-- any number of times, but at most so many
pub record UpTo {A : Type 0} (most : ℕ) (P : A → List Lexeme → Type 0) (xs : List A) (tokens : List Lexeme) : Type 0 where
  pub few : length xs ≤ most
  pub spelled : Many P xs tokens

-- the line of a token that is this word
abbrev pub word_line : List ℕ → Lexeme → Option ℕ
word_line text t = if is_word text t then Some t.line else None

-- this word on this line
abbrev pub IsWordOn : List ℕ → ℕ → Language
IsWordOn text line = Says (word_line text) line

-- one token that counts this place from 1
abbrev pub SpellsNumber : ℕ → Language
SpellsNumber n = Says place_in n

-- one token that writes this literal
abbrev pub SpellsLit : Lit → Language
SpellsLit l = Says lit_in l

-- one token that is this constant
abbrev pub SpellsConstant : Value → Language
SpellsConstant v = Says constant_in v

-- the numbers of a relation, of an attribute of it and of a row
abbrev pub SpellsCell : RelId → AttrId → RowId → Language
SpellsCell rel attr row = SpellsNumber rel.0 ⋅ SpellsNumber attr.0 ⋅ SpellsNumber row.0

-- ---- lists

-- the numbers of rows
abbrev pub SpellsRows : List RowId → Language
SpellsRows = UpTo 4294967294 (λ row. SpellsNumber row.0)

-- the numbers of entities
abbrev pub SpellsEntities : List EntId → Language
SpellsEntities = UpTo 4294967294 (λ entity. SpellsNumber entity.0)

-- the numbers of steps
abbrev pub SpellsHints : List ℕ → Language
SpellsHints = UpTo 4294967294 SpellsNumber

-- literals
abbrev pub SpellsLits : List Lit → Language
SpellsLits = UpTo 4294967294 SpellsLit

-- a comma and a constant
abbrev pub SpellsFurther : Value → Language
SpellsFurther v = IsSymbol (codes ",") ⋅ SpellsConstant v

-- constants = [ constant { "," constant } ]
abbrev pub SpellsConstants : List Value → Language
SpellsConstants [] = Nothing
SpellsConstants (v ∷ vs) = SpellsConstant v ⋅ UpTo 4294967293 SpellsFurther vs

-- values = "(" constants ")"
abbrev pub SpellsValues : List Value → Language
SpellsValues vs = IsSymbol (codes "(") ⋅ SpellsConstants vs ⋅ IsSymbol (codes ")")

-- ---- steps

-- label = "given" N N N N | "transitive" N N N N N | "rule" N { N } | "copy" N N N N | "above" N N N N
--       | "top" N N N | "last" N N N | "value" N N N | "match" N { N } values
abbrev pub SpellsLabel : Label → Language
SpellsLabel (label.Given rel attr earlier later) = IsWord (codes "given") ⋅ SpellsCell rel attr earlier ⋅ SpellsNumber later.0
SpellsLabel (label.Transitive rel attr first second third) =
    IsWord (codes "transitive") ⋅ SpellsCell rel attr first ⋅ SpellsNumber second.0 ⋅ SpellsNumber third.0
SpellsLabel (label.Rule rule rows) = IsWord (codes "rule") ⋅ SpellsNumber rule.0 ⋅ SpellsRows rows
SpellsLabel (label.Copy copy place first second) =
    IsWord (codes "copy") ⋅ SpellsNumber copy.0 ⋅ SpellsNumber place ⋅ SpellsNumber first.0 ⋅ SpellsNumber second.0
SpellsLabel (label.Above rel attr row other) = IsWord (codes "above") ⋅ SpellsCell rel attr row ⋅ SpellsNumber other.0
SpellsLabel (label.Top rel attr row) = IsWord (codes "top") ⋅ SpellsCell rel attr row
SpellsLabel (label.Last rel attr row) = IsWord (codes "last") ⋅ SpellsCell rel attr row
SpellsLabel (label.Value rel attr row) = IsWord (codes "value") ⋅ SpellsCell rel attr row
SpellsLabel (label.Match disjunct entities values) =
    IsWord (codes "match") ⋅ SpellsNumber disjunct ⋅ SpellsEntities entities ⋅ SpellsValues values

-- step = "axiom" label ":" { literal } | "demand" label ":" { literal }
--      | "learn" { literal } "by" { N } | "derive" { literal } "by" { N }
abbrev pub SpellsStep : ℕ → Step → Language
SpellsStep line (Axiom l lits) = IsWordOn (codes "axiom") line ⋅ SpellsLabel l ⋅ IsSymbol (codes ":") ⋅ SpellsLits lits
SpellsStep line (OnDemand l lits) = IsWordOn (codes "demand") line ⋅ SpellsLabel l ⋅ IsSymbol (codes ":") ⋅ SpellsLits lits
SpellsStep line (Learn lits hints true) = IsWordOn (codes "learn") line ⋅ SpellsLits lits ⋅ IsWord (codes "by") ⋅
    SpellsHints hints
SpellsStep line (Learn lits hints false) = IsWordOn (codes "derive") line ⋅ SpellsLits lits ⋅ IsWord (codes "by") ⋅
    SpellsHints hints

-- a step that begins on its line, and its semicolon
abbrev pub SpellsEndedStep : StepOnLine → Language
SpellsEndedStep s = SpellsStep s.line s.step ⋅ IsSymbol (codes ";")

-- these steps, on these lines, are those that are written
pub record SpellsSteps (steps : List Step) (lines : List ℕ) (tokens : List Lexeme) : Type 0 where
  pub trees : List StepOnLine
  pub steps_are : steps ≡ map (λ s. s.step) trees
  pub lines_are : lines ≡ map (λ s. s.line) trees
  pub spelled : UpTo 4294967294 SpellsEndedStep trees tokens

-- ---- statements

-- statement = "before" N N N N | "top" N N N | "last" N N N | "answer" values
abbrev pub SpellsStatement : StatementTree → Language
SpellsStatement (Before rel attr earlier later) = IsWord (codes "before") ⋅ SpellsCell rel attr earlier ⋅ SpellsNumber later.0
SpellsStatement (Top rel attr row) = IsWord (codes "top") ⋅ SpellsCell rel attr row
SpellsStatement (Last rel attr row) = IsWord (codes "last") ⋅ SpellsCell rel attr row
SpellsStatement (Answer values) = IsWord (codes "answer") ⋅ SpellsValues values

-- the word `statement` on its line, a statement and its semicolon
abbrev pub SpellsEndedStatement : StatementOnLine → Language
SpellsEndedStatement t = IsWordOn (codes "statement") t.line ⋅ SpellsStatement t.statement ⋅ IsSymbol (codes ";")

-- the tuples of the answers among the statements, in order
abbrev pub answers_of : List StatementTree → List (List Value)
answers_of [] = []
answers_of (Answer values ∷ trees) = values ∷ answers_of trees
answers_of (Before rel attr earlier later ∷ trees) = answers_of trees
answers_of (Top rel attr row ∷ trees) = answers_of trees
answers_of (Last rel attr row ∷ trees) = answers_of trees

-- the statements, where that many answers stand before them: an answer is named by its place among the answers
abbrev pub statements_of : ℕ → List StatementTree → List Statement
statements_of n [] = []
statements_of n (Answer values ∷ trees) = statement.Answer n ∷ statements_of (n + 1) trees
statements_of n (Before rel attr earlier later ∷ trees) = statement.Before rel attr earlier later ∷ statements_of n trees
statements_of n (Top rel attr row ∷ trees) = statement.Top rel attr row ∷ statements_of n trees
statements_of n (Last rel attr row ∷ trees) = statement.Last rel attr row ∷ statements_of n trees

-- these answers and statements, on these lines, are those that are written
pub record SpellsStatements (answers : List (List Value)) (statements : List Statement) (lines : List ℕ)
    (tokens : List Lexeme) : Type 0 where
  pub trees : List StatementOnLine
  pub answers_are : answers ≡ answers_of (map (λ t. t.statement) trees)
  pub statements_are : statements ≡ statements_of 0 (map (λ t. t.statement) trees)
  pub lines_are : lines ≡ map (λ t. t.line) trees
  pub spelled : UpTo 4294967294 SpellsEndedStatement trees tokens

-- ---- logs

-- log = "log" ";" { "statement" statement ";" } { step ";" }
abbrev pub SpellsLog : ReadLog → Language
SpellsLog r =
    IsWord (codes "log") ⋅ IsSymbol (codes ";")
    ⋅ SpellsStatements r.log.answers r.log.statements r.statements ⋅ SpellsSteps r.log.steps r.steps

-- the log with no statement and no step
abbrev pub empty_log : Log
empty_log = record { answers = []; statements = []; steps = [] }

-- the same as it is read where no token is
abbrev pub no_log : ReadLog
no_log = record { log = empty_log; statements = []; steps = [] }

-- [ log ]: no token is the empty log
abbrev pub SpellsLogPart : ReadLog → Language
SpellsLogPart r tokens = ((r ≡ no_log) × (tokens ≡ [])) ⊎ SpellsLog r tokens
