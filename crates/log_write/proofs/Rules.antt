-- Labels, steps and statements that are written spell themselves.
use Rattle.std.proofs.Common.{◌≡◌, ℕ, true, false, zero, suc, List, [], ◌∷◌, ◌++◌, length, ◌≤◌, map, refl, ap, ◌∙◌, arith, codes}
use Rattle.std.proofs.lemmas.List.{length-map}
use Rattle.text_tokens.specs.Lexeme.{Lexeme}
use Rattle.std.specs.Prelude.{All, slice_index_or}
use Rattle.std.proofs.lemmas.List.Elements.{All-nil, All-head, All-tail}
use Rattle.text_grammar.specs.Grammar.{◌⋅◌, IsSymbol, Many}
use Rattle.currency_base.specs.Literals.{is_negative, literal, var_of}
use Rattle.currency_base.specs.declared.ids.AttrId.{AttrId}
use Rattle.currency_base.specs.declared.ids.EntId.{EntId}
use Rattle.currency_base.specs.declared.ids.RelId.{RelId}
use Rattle.currency_base.specs.declared.ids.RowId.{RowId}
use Rattle.currency_base.specs.declared.lit.Lit.{Lit}
use Rattle.currency_base.specs.declared.value.Value.{Value}
use Rattle.refutation_log.specs.declared.statement.Statement.{Statement}
use Rattle.refutation_log.specs.declared.statement.Statement.TheVariants as statement
use Rattle.refutation_log.specs.declared.step.Label.{Label}
use Rattle.refutation_log.specs.declared.step.Label.TheVariants as label
use Rattle.refutation_log.specs.declared.step.Step.{Step}
use Rattle.refutation_log.specs.declared.step.Step.TheVariants.{Axiom, OnDemand, Learn}
use Rattle.currency_base.specs.Values.{IsValue}
use Rattle.log_syntax.specs.declared.trees.StatementOnLine.{StatementOnLine}
use Rattle.log_syntax.specs.declared.trees.StatementTree.{StatementTree}
use Rattle.log_syntax.specs.declared.trees.StepOnLine.{StepOnLine}
use Rattle.log_syntax.specs.declared.trees.StatementTree.TheVariants.{Before, Top, Last, Answer}
use Rattle.log_syntax.specs.Grammar.{SpellsCell, SpellsConstants, SpellsEndedStatement, SpellsEndedStep, SpellsEntities, SpellsFurther, SpellsHints, SpellsLabel, SpellsLit, SpellsLits, SpellsNumber, SpellsRows, SpellsStatement, SpellsStep, SpellsSteps, SpellsValues, UpTo}
use Rattle.log_write.specs.Pieces.{cell_pieces, constants_pieces, ended_statement_pieces, ended_step_pieces, entity_pieces, further_pieces, label_pieces, lit_pieces, many_pieces, number_pieces, row_pieces, statement_pieces, step_pieces, symbol, values_pieces}
use Rattle.refutation_log.specs.Writable.{AreFew, IsLit, IsPlace, IsWritableLabel, IsWritableStatement, IsWritableStep}
use Rattle.log_write.proofs.Numbers.{text_constant, text_lit, text_number}
use Rattle.log_write.proofs.Texts.{AreSpelled, IsText, OnSomeLine, many_on_lines, text_few, text_many, text_nothing, text_on_line, text_symbol, text_then, text_wider, text_word, text_word_on}

-- ---- symbols

pub semicolon : IsText (IsSymbol (codes ";")) (symbol (codes ";"))
semicolon = text_symbol (codes ";") (0, omega arith, refl)

comma : IsText (IsSymbol (codes ",")) (symbol (codes ","))
comma = text_symbol (codes ",") (1, omega arith, refl)

colon : IsText (IsSymbol (codes ":")) (symbol (codes ":"))
colon = text_symbol (codes ":") (2, omega arith, refl)

opening : IsText (IsSymbol (codes "(")) (symbol (codes "("))
opening = text_symbol (codes "(") (3, omega arith, refl)

closing : IsText (IsSymbol (codes ")")) (symbol (codes ")"))
closing = text_symbol (codes ")") (4, omega arith, refl)

-- ---- lists

text_rows : (rows : List RowId) → AreFew (λ row. IsPlace row.0) rows → IsText (SpellsRows rows) (many_pieces row_pieces rows)
text_rows = text_few (λ row. SpellsNumber row.0) row_pieces (λ row. IsPlace row.0) (λ row h. text_number row.0 h)

text_entities : (entities : List EntId) → AreFew (λ entity. IsPlace entity.0) entities
    → IsText (SpellsEntities entities) (many_pieces entity_pieces entities)
text_entities =
    text_few (λ entity. SpellsNumber entity.0) entity_pieces (λ entity. IsPlace entity.0) (λ entity h. text_number entity.0 h)

text_hints : (hints : List ℕ) → AreFew IsPlace hints → IsText (SpellsHints hints) (many_pieces number_pieces hints)
text_hints = text_few SpellsNumber number_pieces IsPlace text_number

-- what is known of literals
abbrev pub Parts : Type 0
Parts = (l : Lit) → literal (var_of l) (is_negative l) ≡ l

text_lits : Parts → (lits : List Lit) → AreFew IsLit lits → IsText (SpellsLits lits) (many_pieces lit_pieces lits)
text_lits parts = text_few SpellsLit lit_pieces IsLit (text_lit parts)

text_further : (v : Value) → IsValue v → IsText (SpellsFurther v) (further_pieces v)
text_further v h = text_then comma (text_constant v h)

text_constants : (vs : List Value) → AreFew IsValue vs → IsText (SpellsConstants vs) (constants_pieces vs)
text_constants [] h = text_nothing
text_constants (v ∷ vs) h =
    let few : length (v ∷ vs) ≤ 4294967294 = h.few in
    let many : IsText (Many SpellsFurther vs) (many_pieces further_pieces vs) =
    text_many SpellsFurther further_pieces IsValue text_further vs (All-tail IsValue v vs h.each) in
    text_then (text_constant v (All-head IsValue v vs h.each))
    (record { whole = many.whole; read = λ tokens e. record { few = omega arith; spelled = many.read tokens e } })

pub text_values : (vs : List Value) → AreFew IsValue vs → IsText (SpellsValues vs) (values_pieces vs)
text_values vs h = text_then opening (text_then (text_constants vs h) closing)

text_cell : (rel : RelId) (attr : AttrId) (row : RowId) → IsPlace rel.0 → IsPlace attr.0 → IsPlace row.0
    → IsText (SpellsCell rel attr row) (cell_pieces rel attr row)
text_cell rel attr row a b c = text_then (text_number rel.0 a) (text_then (text_number attr.0 b) (text_number row.0 c))

-- ---- steps

text_label : (l : Label) → IsWritableLabel l → IsText (SpellsLabel l) (label_pieces l)
text_label (label.Given rel attr earlier later) (a, b, c, d) =
    text_then (text_word (codes "given") (omega arith) refl) (text_then (text_cell rel attr earlier a b c)
    (text_number later.0 d))
text_label (label.Transitive rel attr first second third) (a, b, c, d, e) =
    text_then (text_word (codes "transitive") (omega arith) refl)
    (text_then (text_cell rel attr first a b c) (text_then (text_number second.0 d) (text_number third.0 e)))
text_label (label.Rule rule rows) (a, b) =
    text_then (text_word (codes "rule") (omega arith) refl) (text_then (text_number rule.0 a) (text_rows rows b))
text_label (label.Copy copy place first second) (a, b, c, d) =
    text_then (text_word (codes "copy") (omega arith) refl)
    (text_then (text_number copy.0 a)
    (text_then (text_number place b) (text_then (text_number first.0 c) (text_number second.0 d))))
text_label (label.Above rel attr row other) (a, b, c, d) =
    text_then (text_word (codes "above") (omega arith) refl) (text_then (text_cell rel attr row a b c) (text_number other.0 d))
text_label (label.Top rel attr row) (a, b, c) =
    text_then (text_word (codes "top") (omega arith) refl) (text_cell rel attr row a b c)
text_label (label.Last rel attr row) (a, b, c) =
    text_then (text_word (codes "last") (omega arith) refl) (text_cell rel attr row a b c)
text_label (label.Value rel attr row) (a, b, c) =
    text_then (text_word (codes "value") (omega arith) refl) (text_cell rel attr row a b c)
text_label (label.Match disjunct entities values) (a, b, c) =
    text_then (text_word (codes "match") (omega arith) refl)
    (text_then (text_number disjunct a) (text_then (text_entities entities b) (text_values values c)))

text_labelled : Parts → (l : Label) (lits : List Lit) → IsWritableLabel l → AreFew IsLit lits
    → IsText (SpellsLabel l ⋅ IsSymbol (codes ":") ⋅ SpellsLits lits)
    (label_pieces l ++ (symbol (codes ":") ++ many_pieces lit_pieces lits))
text_labelled parts l lits a b =
    text_then (text_label l a) (text_then colon (text_lits parts lits b))

-- a step on some line
abbrev StepSomewhere : Step → List Lexeme → Type 0
StepSomewhere s = OnSomeLine (λ line. SpellsStep line s)

text_step : Parts → (s : Step) → IsWritableStep s → IsText (StepSomewhere s) (step_pieces s)
text_step parts (Axiom l lits) (a, b) =
    text_on_line (text_word_on (codes "axiom") (omega arith) refl) (text_labelled parts l lits a b)
text_step parts (OnDemand l lits) (a, b) =
    text_on_line (text_word_on (codes "demand") (omega arith) refl) (text_labelled parts l lits a b)
text_step parts (Learn lits hints true) (a, b) =
    text_on_line (text_word_on (codes "learn") (omega arith) refl)
    (text_then (text_lits parts lits a) (text_then (text_word (codes "by") (omega arith) refl) (text_hints hints b)))
text_step parts (Learn lits hints false) (a, b) =
    text_on_line (text_word_on (codes "derive") (omega arith) refl)
    (text_then (text_lits parts lits a) (text_then (text_word (codes "by") (omega arith) refl) (text_hints hints b)))

abbrev step_on : ℕ → Step → StepOnLine
step_on line s = record { line = line; step = s }

-- a step and its semicolon on some line
abbrev EndedStep : Step → List Lexeme → Type 0
EndedStep s = OnSomeLine (λ line. SpellsEndedStep (step_on line s))

-- steps on some lines
abbrev pub StepsSomewhere : List Step → List Lexeme → Type 0
StepsSomewhere steps tokens = (lines : List ℕ) × SpellsSteps steps lines tokens

pub text_steps : Parts → (steps : List Step) → AreFew IsWritableStep steps → IsText (StepsSomewhere steps)
    (many_pieces ended_step_pieces steps)
text_steps parts steps few =
    text_wider (text_few EndedStep ended_step_pieces IsWritableStep
    (λ s h. text_on_line (text_step parts s h) semicolon) steps few) read
  where
    read : (tokens : List Lexeme) → UpTo 4294967294 EndedStep steps tokens → StepsSomewhere steps tokens
    read tokens h =
        let said : AreSpelled (λ s. s.step) SpellsEndedStep steps tokens =
        many_on_lines (λ s. s.step) step_on SpellsEndedStep (λ line s. refl) steps tokens h.spelled in
        let few : length steps ≤ 4294967294 = h.few in
        let count : length steps ≡ length said.trees = ap length said.are ∙ length-map said.trees (λ s. s.step) in (
          map (λ s. s.line) said.trees,
          record {
            trees = said.trees;
            steps_are = said.are;
            lines_are = refl;
            spelled =
                record { few = omega arith; spelled = said.spelled };
          },
        )

-- ---- statements

-- the statement as it is written, where these are the answers
abbrev pub tree_of : List (List Value) → Statement → StatementTree
tree_of answers (statement.Before rel attr earlier later) = Before rel attr earlier later
tree_of answers (statement.Top rel attr row) = Top rel attr row
tree_of answers (statement.Last rel attr row) = Last rel attr row
tree_of answers (statement.Answer tuple) = Answer (slice_index_or answers tuple [])

few_values : (answers : List (List Value)) (i : ℕ) → All (AreFew IsValue) answers → AreFew IsValue (slice_index_or answers i [])
few_values [] zero h = record { few = omega arith; each = All-nil IsValue }
few_values [] (suc i) h = record { few = omega arith; each = All-nil IsValue }
few_values (values ∷ answers) zero h = All-head (AreFew IsValue) values answers h
few_values (values ∷ answers) (suc i) h = few_values answers i (All-tail (AreFew IsValue) values answers h)

text_statement : (answers : List (List Value)) → All (AreFew IsValue) answers → (s : Statement) → IsWritableStatement s
    → IsText (SpellsStatement (tree_of answers s)) (statement_pieces answers s)
text_statement answers all (statement.Before rel attr earlier later) (a, b, c, d) =
    text_then (text_word (codes "before") (omega arith) refl) (text_then (text_cell rel attr earlier a b c)
    (text_number later.0 d))
text_statement answers all (statement.Top rel attr row) (a, b, c) =
    text_then (text_word (codes "top") (omega arith) refl) (text_cell rel attr row a b c)
text_statement answers all (statement.Last rel attr row) (a, b, c) =
    text_then (text_word (codes "last") (omega arith) refl) (text_cell rel attr row a b c)
text_statement answers all (statement.Answer tuple) h =
    text_then (text_word (codes "answer") (omega arith) refl) (text_values (slice_index_or answers tuple [])
    (few_values answers tuple all))

abbrev pub statement_on : ℕ → StatementTree → StatementOnLine
statement_on line t = record { line = line; statement = t }

-- a statement with its word and its semicolon, on some line
abbrev pub EndedStatement : StatementTree → List Lexeme → Type 0
EndedStatement t = OnSomeLine (λ line. SpellsEndedStatement (statement_on line t))

pub text_statements : (answers : List (List Value)) → All (AreFew IsValue) answers → (statements : List Statement)
    → AreFew IsWritableStatement statements
    → IsText (UpTo 4294967294 (λ s. EndedStatement (tree_of answers s)) statements)
    (many_pieces (ended_statement_pieces answers) statements)
text_statements answers all =
    text_few (λ s. EndedStatement (tree_of answers s)) (ended_statement_pieces answers) IsWritableStatement
    (λ s h. text_on_line (text_word_on (codes "statement") (omega arith) refl)
    (text_then (text_statement answers all s h) semicolon))
