-- How the rules of logs are read.
use Rattle.std.specs.Prelude.{ℕ, Bool, true, false, not, ◌||◌, List, [], ◌∷◌, ◌++◌, length, Option, Some, None, codes, Result}
use Rattle.text_tokens.specs.Lexeme.{Lexeme}
use Rattle.text_grammar.specs.Words.{is_word, is_symbol, constant}
use Rattle.text_grammar.specs.Reading.{Stop, Parser, one, both, after, before, mapped, maybe, choose, many_within, whole}
use Rattle.currency_base.specs.declared.ids.EntId.{EntId}
use Rattle.currency_base.specs.declared.ids.RowId.{RowId}
use Rattle.currency_base.specs.declared.lit.Lit.{Lit}
use Rattle.currency_base.specs.declared.value.Value.{Value}
use Rattle.refutation_log.specs.declared.statement.Statement.{Statement}
use Rattle.refutation_log.specs.declared.statement.Statement.TheVariants as statement
use Rattle.refutation_log.specs.declared.step.Label.{Label}
use Rattle.refutation_log.specs.declared.step.Label.TheVariants as label
use Rattle.refutation_log.specs.declared.step.Step.TheVariants.{Axiom, OnDemand, Learn}
use Rattle.log_syntax.specs.declared.trees.Cell.{Cell}
use Rattle.log_syntax.specs.declared.trees.ReadLog.{ReadLog}
use Rattle.log_syntax.specs.declared.trees.Said.{Said}
use Rattle.log_syntax.specs.declared.trees.SaidSteps.{SaidSteps}
use Rattle.log_syntax.specs.declared.trees.StatementOnLine.{StatementOnLine}
use Rattle.log_syntax.specs.declared.trees.StepOnLine.{StepOnLine}
use Rattle.log_syntax.specs.declared.trees.StatementTree.{StatementTree}
use Rattle.log_syntax.specs.declared.trees.StatementTree.TheVariants.{Before, Top, Last, Answer}
use Rattle.log_syntax.specs.Numbers.{place_in, lit_in, says_some}
use Rattle.log_syntax.specs.Grammar.{word_line, no_log}

-- ---- lists

-- items put one after the other into what holds them
abbrev pub put_all : {A B : Type 0} → (B → A → B) → B → List A → B
put_all put into [] = into
put_all put into (x ∷ xs) = put_all put (put into x) xs

-- items as long as the first token passes the test, at most so many, put into what holds them
abbrev pub gathered : {A B : Type 0} → (B → A → B) → B → ℕ → (Lexeme → Bool) → Parser A → Parser B
gathered put into most test p = mapped (put_all put into) (many_within most test p)

-- an item at the end of a list
abbrev pub pushed : {A : Type 0} → List A → A → List A
pushed xs x = xs ++ x ∷ []

-- a number
abbrev pub number_at : Parser ℕ
number_at = one place_in

unfoldable pub row_at : Parser RowId
row_at = mapped (λ n. record { 0 = n }) number_at

unfoldable pub entity_at : Parser EntId
entity_at = mapped (λ n. record { 0 = n }) number_at

-- the numbers of rows, up to the first token that is no number
unfoldable pub rows_at : Parser (List RowId)
rows_at = gathered pushed [] 4294967294 (says_some place_in) row_at

-- the numbers of entities, up to the first token that is no number
unfoldable pub entities_at : Parser (List EntId)
entities_at = gathered pushed [] 4294967294 (says_some place_in) entity_at

-- the numbers of steps, up to the first token that is no number
unfoldable pub hints_at : Parser (List ℕ)
hints_at = gathered pushed [] 4294967294 (says_some place_in) number_at

-- literals, up to the first token that is none
unfoldable pub lits_at : Parser (List Lit)
lits_at = gathered pushed [] 4294967294 (says_some lit_in) (one lit_in)

unfoldable pub cell_at : Parser Cell
cell_at =
    mapped (λ x. record { rel = record { 0 = x.0 }; attr = record { 0 = x.1.0 }; row = record { 0 = x.1.1 } })
    (both number_at (both number_at number_at))

-- ---- values

unfoldable pub constant_at : Parser Value
constant_at = mapped (λ c. c.value) (one constant)

unfoldable pub further_at : Parser Value
further_at = after (is_symbol (codes ",")) constant_at

-- one constant or more
unfoldable pub some_constants_at : Parser (List Value)
some_constants_at =
    mapped (λ x. put_all pushed (x.0 ∷ []) x.1) (both constant_at (many_within 4294967293 (is_symbol (codes ",")) further_at))

-- a token that doesn't close a list
abbrev pub is_inside : Lexeme → Bool
is_inside t = not (is_symbol (codes ")") t)

-- the values, where there are some
abbrev pub all_of : Option (List Value) → List Value
all_of None = []
all_of (Some values) = values

unfoldable pub constants_at : Parser (List Value)
constants_at = mapped all_of (maybe is_inside some_constants_at)

unfoldable pub values_at : Parser (List Value)
values_at = after (is_symbol (codes "(")) (before constants_at (is_symbol (codes ")")))

-- ---- labels

unfoldable pub given_at : Parser Label
given_at =
    mapped (λ x. label.Given x.0.rel x.0.attr x.0.row (record { 0 = x.1 }))
    (after (is_word (codes "given")) (both cell_at number_at))

unfoldable pub transitive_at : Parser Label
transitive_at =
    mapped (λ x. label.Transitive x.0.rel x.0.attr x.0.row (record { 0 = x.1.0 }) (record { 0 = x.1.1 }))
    (after (is_word (codes "transitive")) (both cell_at (both number_at number_at)))

unfoldable pub rule_at : Parser Label
rule_at = mapped (λ x. label.Rule (record { 0 = x.0 }) x.1) (after (is_word (codes "rule")) (both number_at rows_at))

unfoldable pub copy_at : Parser Label
copy_at =
    mapped (λ x. label.Copy (record { 0 = x.0 }) x.1.0 (record { 0 = x.1.1.0 }) (record { 0 = x.1.1.1 }))
    (after (is_word (codes "copy")) (both number_at (both number_at (both number_at number_at))))

unfoldable pub above_at : Parser Label
above_at =
    mapped (λ x. label.Above x.0.rel x.0.attr x.0.row (record { 0 = x.1 }))
    (after (is_word (codes "above")) (both cell_at number_at))

unfoldable pub top_at : Parser Label
top_at = mapped (λ x. label.Top x.rel x.attr x.row) (after (is_word (codes "top")) cell_at)

unfoldable pub last_at : Parser Label
last_at = mapped (λ x. label.Last x.rel x.attr x.row) (after (is_word (codes "last")) cell_at)

unfoldable pub value_at : Parser Label
value_at = mapped (λ x. label.Value x.rel x.attr x.row) (after (is_word (codes "value")) cell_at)

unfoldable pub match_at : Parser Label
match_at =
    mapped (λ x. label.Match x.0 x.1.0 x.1.1)
    (after (is_word (codes "match")) (both number_at (both entities_at values_at)))

-- a label of one row and its value's, or of a disjunct
unfoldable pub current_label_at : Parser Label
current_label_at =
    choose (is_word (codes "top")) top_at
    (choose (is_word (codes "last")) last_at
    (choose (is_word (codes "value")) value_at match_at))

unfoldable pub label_at : Parser Label
label_at =
    choose (is_word (codes "given")) given_at
    (choose (is_word (codes "transitive")) transitive_at
    (choose (is_word (codes "rule")) rule_at
    (choose (is_word (codes "copy")) copy_at
    (choose (is_word (codes "above")) above_at current_label_at))))

-- ---- steps

unfoldable pub axiom_at : Parser StepOnLine
axiom_at =
    mapped (λ x. record { line = x.0; step = Axiom x.1.0 x.1.1 })
    (both (one (word_line (codes "axiom"))) (both label_at (after (is_symbol (codes ":")) lits_at)))

unfoldable pub demand_at : Parser StepOnLine
demand_at =
    mapped (λ x. record { line = x.0; step = OnDemand x.1.0 x.1.1 })
    (both (one (word_line (codes "demand"))) (both label_at (after (is_symbol (codes ":")) lits_at)))

unfoldable pub learn_at : Parser StepOnLine
learn_at =
    mapped (λ x. record { line = x.0; step = Learn x.1.0 x.1.1 true })
    (both (one (word_line (codes "learn"))) (both lits_at (after (is_word (codes "by")) hints_at)))

unfoldable pub derive_at : Parser StepOnLine
derive_at =
    mapped (λ x. record { line = x.0; step = Learn x.1.0 x.1.1 false })
    (both (one (word_line (codes "derive"))) (both lits_at (after (is_word (codes "by")) hints_at)))

unfoldable pub step_at : Parser StepOnLine
step_at =
    choose (is_word (codes "axiom")) axiom_at
    (choose (is_word (codes "demand")) demand_at
    (choose (is_word (codes "learn")) learn_at derive_at))

unfoldable pub ended_step_at : Parser StepOnLine
ended_step_at = before step_at (is_symbol (codes ";"))

-- a word that begins a step
abbrev pub begins_step : Lexeme → Bool
begins_step t = is_word (codes "axiom") t || is_word (codes "demand") t || is_word (codes "learn") t || is_word (codes "derive") t

-- one step more
abbrev pub stepped : SaidSteps → StepOnLine → SaidSteps
stepped said s = record { steps = said.steps ++ s.step ∷ []; lines = said.lines ++ s.line ∷ [] }

-- no step
abbrev pub no_step_said : SaidSteps
no_step_said = record { steps = []; lines = [] }

unfoldable pub steps_at : Parser SaidSteps
steps_at = gathered stepped no_step_said 4294967294 begins_step ended_step_at

-- ---- statements

unfoldable pub before_at : Parser StatementTree
before_at =
    mapped (λ x. Before x.0.rel x.0.attr x.0.row (record { 0 = x.1 })) (after (is_word (codes "before")) (both cell_at number_at))

unfoldable pub top_statement_at : Parser StatementTree
top_statement_at = mapped (λ x. Top x.rel x.attr x.row) (after (is_word (codes "top")) cell_at)

unfoldable pub last_statement_at : Parser StatementTree
last_statement_at = mapped (λ x. Last x.rel x.attr x.row) (after (is_word (codes "last")) cell_at)

unfoldable pub answer_at : Parser StatementTree
answer_at = mapped (λ x. Answer x) (after (is_word (codes "answer")) values_at)

unfoldable pub statement_at : Parser StatementTree
statement_at =
    choose (is_word (codes "before")) before_at
    (choose (is_word (codes "top")) top_statement_at
    (choose (is_word (codes "last")) last_statement_at answer_at))

unfoldable pub ended_statement_at : Parser StatementOnLine
ended_statement_at =
    mapped (λ x. record { line = x.0; statement = x.1 })
    (both (one (word_line (codes "statement"))) (before statement_at (is_symbol (codes ";"))))

-- a statement more, and its line
abbrev pub with_statement : Said → ℕ → Statement → Said
with_statement said line s =
    record { answers = said.answers; statements = said.statements ++ s ∷ []; lines = said.lines ++ line ∷ [] }

-- an answer more, and its line
abbrev pub with_answer : Said → ℕ → List Value → Said
with_answer said line values = record {
  answers = said.answers ++ values ∷ [];
  statements = said.statements ++ statement.Answer (length said.answers) ∷ [];
  lines = said.lines ++ line ∷ [];
}

-- one statement more
unfoldable pub said_by : Said → ℕ → StatementTree → Said
said_by said line (Before rel attr earlier later) = with_statement said line (statement.Before rel attr earlier later)
said_by said line (Top rel attr row) = with_statement said line (statement.Top rel attr row)
said_by said line (Last rel attr row) = with_statement said line (statement.Last rel attr row)
said_by said line (Answer values) = with_answer said line values

abbrev pub said_too : Said → StatementOnLine → Said
said_too said t = said_by said t.line t.statement

-- no statement
abbrev pub nothing_said : Said
nothing_said = record { answers = []; statements = []; lines = [] }

unfoldable pub statements_at : Parser Said
statements_at = gathered said_too nothing_said 4294967294 (is_word (codes "statement")) ended_statement_at

-- ---- logs

-- what was read of a log
abbrev pub log_said : Said → SaidSteps → ReadLog
log_said said steps = record {
  log = record { answers = said.answers; statements = said.statements; steps = steps.steps };
  statements = said.lines;
  steps = steps.lines;
}

unfoldable pub log_at : Parser ReadLog
log_at =
    mapped (λ x. log_said x.0 x.1)
    (after (is_word (codes "log")) (after (is_symbol (codes ";")) (both statements_at steps_at)))

-- a log or none
abbrev pub log_or_none : Option ReadLog → ReadLog
log_or_none None = no_log
log_or_none (Some r) = r

-- [ log ]
unfoldable pub log_part_at : Parser ReadLog
log_part_at = mapped log_or_none (maybe (is_word (codes "log")) log_at)

-- the log of a whole text; no token is the empty log
abbrev pub log_of : List Lexeme → Result ReadLog Stop
log_of tokens = whole log_part_at tokens
