-- Statements and whole logs are read as they are spelled.
use Rattle.std.proofs.Common.{◌≡◌, ℕ, ◌+◌, Bool, true, false, ◌&&◌, ◌||◌, List, [], ◌∷◌, ◌++◌, length, length-append, map, inl, inr, refl, sym, ap, subst, ◌∙◌, append_assoc, arith, codes}
use Rattle.std.proofs.lemmas.List.{append-nil, length-map}
use Rattle.text_tokens.specs.Lexeme.{Lexeme}
use Rattle.text_tokens.specs.declared.token.TokenKind.TheVariants.{Word}
use Rattle.text_grammar.specs.Words.{is_word}
use Rattle.text_grammar.specs.Grammar.{Language, ◌⋅◌, IsSymbol}
use Rattle.text_grammar.specs.Reading.{both}
use Rattle.text_grammar.specs.Laws.{IsReader, Stopped}
use Rattle.text_grammar.proofs.Readers.{always, Begins, Image, Joins, reads_both, reads_made, reads_same, reads_two, stopped_at_first}
use Rattle.text_grammar.proofs.Choices.{Either}
use Rattle.text_grammar.proofs.FixedTokens.{after_symbol, after_word, apart, before_symbol, begins_fixed, either_apart}
use Rattle.currency_base.specs.declared.value.Value.{Value}
use Rattle.refutation_log.specs.declared.statement.Statement.{Statement}
use Rattle.refutation_log.specs.declared.statement.Statement.TheVariants as statement
use Rattle.refutation_log.specs.declared.step.Step.{Step}
use Rattle.log_syntax.specs.declared.trees.Cell.{Cell}
use Rattle.log_syntax.specs.declared.trees.ReadLog.{ReadLog}
use Rattle.log_syntax.specs.declared.trees.Said.{Said}
use Rattle.log_syntax.specs.declared.trees.SaidSteps.{SaidSteps}
use Rattle.log_syntax.specs.declared.trees.StatementOnLine.{StatementOnLine}
use Rattle.log_syntax.specs.declared.trees.StatementTree.{StatementTree}
use Rattle.log_syntax.specs.declared.trees.StepOnLine.{StepOnLine}
use Rattle.log_syntax.specs.declared.trees.StatementTree.TheVariants.{Before, Top, Last, Answer}
use Rattle.log_syntax.specs.Grammar.{SpellsEndedStatement, SpellsEndedStep, SpellsLog, SpellsStatement, SpellsStatements, SpellsSteps, SpellsValues, UpTo, answers_of, statements_of}
use Rattle.log_syntax.specs.Reading.{answer_at, before_at, begins_step, ended_statement_at, last_statement_at, log_at, log_said, nothing_said, put_all, said_by, said_too, statement_at, statements_at, steps_at, top_statement_at}
use Rattle.log_syntax.proofs.Keywords.{BeginsWith, Case, case_begins, either_begins, reads_case, reads_cases}
use Rattle.log_syntax.proofs.Rules.{CellAndRow, CellOf, reads_cell, reads_cell_and_row, reads_values}
use Rattle.log_syntax.proofs.StepRules.{SteppedBy, begins_ended_step, ends_steps, reads_steps, steps_of}
use Rattle.log_syntax.proofs.UpToReaders.{ended_at, ended_within, ends_alike, ends_within, reads_up_to, up_to_begins}
use Rattle.log_syntax.proofs.WordLines.{begins_word_on, reads_word_on}

-- ---- statements

abbrev before_of : Cell × ℕ → StatementTree
before_of x = Before x.0.rel x.0.attr x.0.row (record { 0 = x.1 })

abbrev top_of : Cell → StatementTree
top_of x = Top x.rel x.attr x.row

abbrev last_of : Cell → StatementTree
last_of x = Last x.rel x.attr x.row

abbrev answer_of : List Value → StatementTree
answer_of x = Answer x

reads_before : IsReader (Case (codes "before") before_of CellAndRow) always before_at
unfolding before_at
reads_before = reads_case (codes "before") reads_cell_and_row before_of always (λ a t. refl)

reads_top : IsReader (Case (codes "top") top_of CellOf) always top_statement_at
unfolding top_statement_at
reads_top = reads_case (codes "top") reads_cell top_of always (λ a t. refl)

reads_last : IsReader (Case (codes "last") last_of CellOf) always last_statement_at
unfolding last_statement_at
reads_last = reads_case (codes "last") reads_cell last_of always (λ a t. refl)

reads_answer : IsReader (Case (codes "answer") answer_of SpellsValues) always answer_at
unfolding answer_at
reads_answer = reads_case (codes "answer") reads_values answer_of always (λ a t. refl)

abbrev FromAnswer : StatementTree → Language
FromAnswer = Case (codes "answer") answer_of SpellsValues

abbrev FromLast : StatementTree → Language
FromLast = Either (Case (codes "last") last_of CellOf) FromAnswer

abbrev FromTop : StatementTree → Language
FromTop = Either (Case (codes "top") top_of CellOf) FromLast

abbrev FromBefore : StatementTree → Language
FromBefore = Either (Case (codes "before") before_of CellAndRow) FromTop

abbrev words_answer : List (List ℕ)
words_answer = codes "answer" ∷ []

abbrev words_last : List (List ℕ)
words_last = codes "last" ∷ words_answer

begins_answer : BeginsWith words_answer FromAnswer
begins_answer = case_begins (codes "answer") answer_of SpellsValues

begins_last : BeginsWith words_last FromLast
begins_last = either_begins (codes "last") words_answer last_of CellOf FromAnswer begins_answer

begins_top : BeginsWith (codes "top" ∷ words_last) FromTop
begins_top = either_begins (codes "top") words_last top_of CellOf FromLast begins_last

statement_spelled : (t : StatementTree) (tokens : List Lexeme) → FromBefore t tokens → SpellsStatement t tokens
statement_spelled t tokens (inl h) = subst (λ (t : StatementTree). SpellsStatement t tokens) h.is h.spelled
statement_spelled t tokens (inr (inl h)) = subst (λ (t : StatementTree). SpellsStatement t tokens) h.is h.spelled
statement_spelled t tokens (inr (inr (inl h))) = subst (λ (t : StatementTree). SpellsStatement t tokens) h.is h.spelled
statement_spelled t tokens (inr (inr (inr h))) = subst (λ (t : StatementTree). SpellsStatement t tokens) h.is h.spelled

spelled_statement : (t : StatementTree) (tokens : List Lexeme) → SpellsStatement t tokens → FromBefore t tokens
spelled_statement (Before rel attr earlier later) tokens h =
    inl (record { tree = (record { rel = rel; attr = attr; row = earlier }, later.0); is = refl; spelled = h })
spelled_statement (Top rel attr row) tokens h =
    inr (inl (record { tree = record { rel = rel; attr = attr; row = row }; is = refl; spelled = h }))
spelled_statement (Last rel attr row) tokens h =
    inr (inr (inl (record { tree = record { rel = rel; attr = attr; row = row }; is = refl; spelled = h })))
spelled_statement (Answer values) tokens h = inr (inr (inr (record { tree = values; is = refl; spelled = h })))

reads_statement : IsReader SpellsStatement always statement_at
unfolding statement_at
reads_statement = reads_same
    (reads_cases (codes "before") (codes "top" ∷ words_last) reads_before
    (reads_cases (codes "top") words_last reads_top
    (reads_cases (codes "last") words_answer reads_last reads_answer begins_answer (refl, tt))
    begins_last (refl, (refl, tt)))
    begins_top (refl, (refl, (refl, tt))))
    statement_spelled spelled_statement

-- a statement and its semicolon
abbrev AndSemicolon : StatementTree → Language
AndSemicolon s = SpellsStatement s ⋅ IsSymbol (codes ";")

abbrev on_line : ℕ × StatementTree → StatementOnLine
on_line x = record { line = x.0; statement = x.1 }

pub reads_ended_statement : IsReader SpellsEndedStatement always ended_statement_at
unfolding ended_statement_at
reads_ended_statement =
    reads_made (reads_two (reads_word_on (codes "statement")) (before_symbol (codes ";") reads_statement
    (λ a t e. refl))) on_line always
    (λ x t. refl) (λ x tokens h. h) (λ t tokens h. record { tree = (t.line, t.statement); is = refl; spelled = h })

pub begins_ended_statement : Begins (is_word (codes "statement")) true SpellsEndedStatement
begins_ended_statement t tokens h = begins_word_on (codes "statement") t.line (AndSemicolon t.statement) tokens h

-- ---- what statements say

pub same_said : (answers answers' : List (List Value)) (statements statements' : List Statement)
    (lines lines' : List ℕ) → answers ≡ answers'
    → statements ≡ statements' → lines ≡ lines'
    → ◌≡◌ {A = Said} (record { answers = answers; statements = statements; lines = lines })
    (record { answers = answers'; statements = statements'; lines = lines' })
same_said answers answers' statements statements' lines lines' e f g =
    let make : List (List Value) → List Statement → List ℕ → Said = λ a s l. record { answers = a; statements = s; lines = l } in
    ap (λ a. make a statements lines) e ∙ ap (λ s. make answers' s lines) f ∙ ap (λ l. make answers' statements' l) g

-- the statements and the lines of statements on their lines
abbrev pub said_of : List StatementOnLine → List StatementTree
said_of trees = map (λ t. t.statement) trees

abbrev pub said_lines_of : List StatementOnLine → List ℕ
said_lines_of trees = map (λ t. t.line) trees

-- statements after others
abbrev said_with : Said → List StatementOnLine → Said
said_with said trees = record {
  answers = said.answers ++ answers_of (said_of trees);
  statements = said.statements ++ statements_of (length said.answers) (said_of trees);
  lines = said.lines ++ said_lines_of trees;
}

said_more : (said : Said) (line : ℕ) (s : StatementTree) (trees : List StatementOnLine)
    → said_with (said_by said line s) trees ≡ said_with said (record { line = line; statement = s } ∷ trees)
unfolding said_by
said_more said line (Before rel attr earlier later) trees =
    same_said _ _ _ _ _ _ refl (append_assoc said.statements (statement.Before rel attr earlier later ∷ [])
    (statements_of (length said.answers) (said_of trees)))
    (append_assoc said.lines (line ∷ []) (said_lines_of trees))
said_more said line (Top rel attr row) trees =
    same_said _ _ _ _ _ _ refl (append_assoc said.statements (statement.Top rel attr row ∷ [])
    (statements_of (length said.answers) (said_of trees)))
    (append_assoc said.lines (line ∷ []) (said_lines_of trees))
said_more said line (Last rel attr row) trees =
    same_said _ _ _ _ _ _ refl (append_assoc said.statements (statement.Last rel attr row ∷ [])
    (statements_of (length said.answers) (said_of trees)))
    (append_assoc said.lines (line ∷ []) (said_lines_of trees))
said_more said line (Answer values) trees =
    same_said _ _ _ _ _ _ (append_assoc said.answers (values ∷ []) (answers_of (said_of trees)))
    (ap (λ (n : ℕ). (said.statements ++ statement.Answer (length said.answers) ∷ []) ++ statements_of n
    (said_of trees)) (length-append said.answers (values ∷ []))
    ∙ append_assoc said.statements (statement.Answer (length said.answers) ∷ [])
    (statements_of (length said.answers + 1) (said_of trees)))
    (append_assoc said.lines (line ∷ []) (said_lines_of trees))

all_said : (said : Said) (trees : List StatementOnLine) → put_all said_too said trees ≡ said_with said trees
all_said said [] =
    same_said said.answers (said.answers ++ []) said.statements (said.statements ++ []) said.lines (said.lines ++ [])
    (sym (append-nil said.answers)) (sym (append-nil said.statements)) (sym (append-nil said.lines))
all_said said (t ∷ trees) = all_said (said_too said t) trees ∙ said_more said t.line t.statement trees

pub as_many : (n : ℕ) (trees : List StatementTree) → length (statements_of n trees) ≡ length trees
as_many n [] = refl
as_many n (Before rel attr earlier later ∷ trees) = (let e = as_many n trees in omega arith)
as_many n (Top rel attr row ∷ trees) = (let e = as_many n trees in omega arith)
as_many n (Last rel attr row ∷ trees) = (let e = as_many n trees in omega arith)
as_many n (Answer values ∷ trees) = (let e = as_many (n + 1) trees in omega arith)

-- what ends statements
abbrev pub ends_statements : List Statement → Lexeme → Bool
ends_statements = ends_within 4294967294 (is_word (codes "statement"))

abbrev SaidBy : Said → Language
SaidBy said = SpellsStatements said.answers said.statements said.lines

pub reads_statements : IsReader SaidBy (λ said. ends_statements said.statements) statements_at
unfolding statements_at
reads_statements = reads_made
    (reads_up_to reads_ended_statement (is_word (codes "statement")) begins_ended_statement 4294967294)
    (put_all said_too nothing_said) (λ said. ends_statements said.statements) same into back
  where
    same : (trees : List StatementOnLine) (t : Lexeme)
        → ends_statements (put_all said_too nothing_said trees).statements t ≡ ends_within 4294967294
        (is_word (codes "statement")) trees t
    same trees t =
        ap (λ (said : Said). ends_statements said.statements t) (all_said nothing_said trees)
        ∙ ends_alike 4294967294 (is_word (codes "statement")) (statements_of 0 (said_of trees)) trees t
        (as_many 0 (said_of trees) ∙ length-map trees (λ t. t.statement))

    into : (trees : List StatementOnLine) (tokens : List Lexeme) → UpTo 4294967294 SpellsEndedStatement trees tokens
        → SaidBy (put_all said_too nothing_said trees) tokens
    into trees tokens h = record {
      trees = trees;
      answers_are = ap (λ (said : Said). said.answers) (all_said nothing_said trees);
      statements_are = ap (λ (said : Said). said.statements) (all_said nothing_said trees);
      lines_are = ap (λ (said : Said). said.lines) (all_said nothing_said trees);
      spelled = h;
    }

    back : (said : Said) (tokens : List Lexeme) → SaidBy said tokens
        → Image (put_all said_too nothing_said) (UpTo 4294967294 SpellsEndedStatement) said tokens
    back said tokens h = record {
      tree = h.trees;
      is = all_said nothing_said h.trees
          ∙ same_said (answers_of (said_of h.trees)) said.answers (statements_of 0 (said_of h.trees)) said.statements
          (said_lines_of h.trees) said.lines
          (sym h.answers_are) (sym h.statements_are) (sym h.lines_are);
      spelled = h.spelled;
    }

-- ---- logs

-- what ends statements and then steps
abbrev ends_both : List Statement → List Step → Lexeme → Bool
ends_both statements [] t = ends_statements statements t && ends_steps [] t
ends_both statements (s ∷ steps) t = ends_steps (s ∷ steps) t

step_no_statement : (t : Lexeme) → begins_step t ≡ true → is_word (codes "statement") t ≡ false
step_no_statement t =
    either_apart (is_word (codes "axiom") t || is_word (codes "demand") t || is_word (codes "learn") t)
    (is_word (codes "derive") t) (is_word (codes "statement") t)
    (either_apart (is_word (codes "axiom") t || is_word (codes "demand") t) (is_word (codes "learn") t)
    (is_word (codes "statement") t)
    (either_apart (is_word (codes "axiom") t) (is_word (codes "demand") t) (is_word (codes "statement") t)
    (apart Word (codes "axiom") Word (codes "statement") refl t) (apart Word (codes "demand") Word (codes "statement") refl t))
    (apart Word (codes "learn") Word (codes "statement") refl t))
    (apart Word (codes "derive") Word (codes "statement") refl t)

and_first : (a b : Bool) → a && b ≡ true → a ≡ true
and_first true b e = refl
and_first false b e = absurd (cc)

and_second : (a b : Bool) → a && b ≡ true → b ≡ true
and_second true b e = e
and_second false b e = absurd (cc)

pub and_both : (a b : Bool) → a ≡ true → b ≡ true → a && b ≡ true
and_both true b e f = f
and_both false b e f = absurd (cc)

pub stopped_first : (s r : Lexeme → Bool) (rest : List Lexeme) → Stopped (λ t. s t && r t) rest → Stopped s rest
stopped_first s r [] h = tt
stopped_first s r (t ∷ ts) h = and_first (s t) (r t) h

pub stopped_second : (s r : Lexeme → Bool) (rest : List Lexeme) → Stopped (λ t. s t && r t) rest → Stopped r rest
stopped_second s r [] h = tt
stopped_second s r (t ∷ ts) h = and_second (s t) (r t) h

pub stopped_both : (s r : Lexeme → Bool) (rest : List Lexeme) → Stopped s rest → Stopped r rest → Stopped (λ t. s t && r t) rest
stopped_both s r [] h k = tt
stopped_both s r (t ∷ ts) h k = and_both (s t) (r t) h k

-- the statements end where a step begins
goes : (statements : List Statement) (t : Lexeme) → begins_step t ≡ true → ends_statements statements t ≡ true
goes statements t e = ended_within 4294967294 (is_word (codes "statement")) begins_step step_no_statement statements t e

-- where no step follows
none_first : (statements : List Statement) (rest : List Lexeme) → Stopped (ends_both statements []) rest
    → Stopped (ends_statements statements) rest
none_first statements rest k = stopped_first (ends_statements statements) (ends_steps []) rest k

none_all : (statements : List Statement) (rest : List Lexeme) → Stopped (ends_statements statements) rest
    → Stopped (ends_steps []) rest
    → Stopped (ends_both statements []) rest
none_all statements rest k m = stopped_both (ends_statements statements) (ends_steps []) rest k m

joined_first : (statements : List Statement) (trees : List StepOnLine) (front rest : List Lexeme)
    → UpTo 4294967294 SpellsEndedStep trees front
    → Stopped (ends_both statements (steps_of trees)) rest → Stopped (ends_statements statements) (front ++ rest)
joined_first statements [] front rest h k =
    subst (λ (l : List Lexeme). Stopped (ends_statements statements) (l ++ rest)) (sym h.spelled) (none_first statements rest k)
joined_first statements (s ∷ trees) front rest h k =
    stopped_at_first (ends_statements statements) begins_step (goes statements) front rest
    (up_to_begins 4294967294 SpellsEndedStep begins_step true begins_ended_step s trees front h)

joined_second : (statements : List Statement) (steps : List Step) (rest : List Lexeme) → Stopped (ends_both statements steps) rest
    → Stopped (ends_steps steps) rest
joined_second statements [] rest k = stopped_second (ends_statements statements) (ends_steps []) rest k
joined_second statements (s ∷ steps) rest k = k

joined_all : (statements : List Statement) (trees : List StepOnLine) (front rest : List Lexeme)
    → UpTo 4294967294 SpellsEndedStep trees front
    → Stopped (ends_statements statements) (front ++ rest) → Stopped (ends_steps (steps_of trees)) rest
    → Stopped (ends_both statements (steps_of trees)) rest
joined_all statements [] front rest h k m =
    none_all statements rest (subst (λ (l : List Lexeme). Stopped (ends_statements statements) (l ++ rest)) h.spelled k) m
joined_all statements (s ∷ trees) front rest h k m = m

joined : Joins (λ (said : Said). ends_statements said.statements) SteppedBy (λ said. ends_steps said.steps)
    (λ (x : Said × SaidSteps). ends_both x.0.statements x.1.steps)
joined = record { first = first; second = λ said steps rest k. joined_second said.statements steps.steps rest k; all = all }
  where
    first : (said : Said) (steps : SaidSteps) (front rest : List Lexeme) → SteppedBy steps front
        → Stopped (ends_both said.statements steps.steps) rest → Stopped (ends_statements said.statements) (front ++ rest)
    first said steps front rest h k =
        joined_first said.statements h.trees front rest h.spelled
        (subst (λ (l : List Step). Stopped (ends_both said.statements l) rest) h.steps_are k)

    all : (said : Said) (steps : SaidSteps) (front rest : List Lexeme) → SteppedBy steps front
        → Stopped (ends_statements said.statements) (front ++ rest) → Stopped (ends_steps steps.steps) rest
        → Stopped (ends_both said.statements steps.steps) rest
    all said steps front rest h k m =
        subst (λ (l : List Step). Stopped (ends_both said.statements l) rest) (sym h.steps_are)
        (joined_all said.statements h.trees front rest h.spelled k
        (subst (λ (l : List Step). Stopped (ends_steps l) rest) h.steps_are m))

-- what ends a log
abbrev pub ends_log : ReadLog → Lexeme → Bool
ends_log r = ends_both r.log.statements r.log.steps

reads_body : IsReader (λ (x : Said × SaidSteps). SaidBy x.0 ⋅ SteppedBy x.1)
    (λ x. ends_both x.0.statements x.1.steps) (both statements_at steps_at)
reads_body = reads_both reads_statements reads_steps joined

pub reads_log : IsReader SpellsLog ends_log log_at
unfolding log_at
reads_log = reads_made
    (after_word (codes "log") (after_symbol (codes ";") reads_body)) (λ x. log_said x.0 x.1) ends_log
    (λ a t. refl) (λ x tokens h. h)
    (λ r tokens h. record {
      tree = (
        record { answers = r.log.answers; statements = r.log.statements; lines = r.statements },
        record { steps = r.log.steps; lines = r.steps },
      );
      is = refl;
      spelled = h;
    })

-- a log begins with the word `log`
pub begins_log : (test : Lexeme → Bool) (b : Bool) → ((t : Lexeme) → is_word (codes "log") t ≡ true → test t ≡ b)
    → Begins test b SpellsLog
begins_log test b goes = begins_fixed
    (λ (r : ReadLog). IsSymbol (codes ";") ⋅ SpellsStatements r.log.answers r.log.statements r.statements ⋅
    SpellsSteps r.log.steps r.steps)
    Word (codes "log") test b goes

-- a token with which no statement and no step begins ends a log
pub ended_log : (r : ReadLog) (t : Lexeme) → is_word (codes "statement") t ≡ false → begins_step t ≡ false → ends_log r t ≡ true
ended_log r t e f = by r.log.statements r.log.steps
  where
    said : (statements : List Statement) → ends_statements statements t ≡ true
    said statements = ended_at 4294967294 (is_word (codes "statement")) statements t e

    by : (statements : List Statement) (steps : List Step) → ends_both statements steps t ≡ true
    by statements [] = and_both (ends_statements statements t) (ends_steps [] t) (said statements)
        (ended_at {A = Step} 4294967294 begins_step [] t f)
    by statements (s ∷ steps) = ended_at 4294967294 begins_step (s ∷ steps) t f
