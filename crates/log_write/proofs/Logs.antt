-- A log that is written spells itself.
use Rattle.std.proofs.Common.{◌≡◌, ℕ, ◌+◌, ◌≤◌, Bool, true, false, ◌&&◌, cond, List, [], ◌∷◌, ◌++◌, inl, inr, length, length-append, map, refl, sym, ap, ap₂, ◌∙◌, append_assoc, arith, codes}
use Rattle.std.specs.Prelude.{slice_index_or, ◌==◌}
use Rattle.std.proofs.lemmas.List.{length-map}
use Rattle.text_tokens.specs.Lexeme.{Lexeme}
use Rattle.text_grammar.specs.Grammar.{◌⋅◌, IsSymbol, IsWord, Many}
use Rattle.text_grammar.specs.Texts.{ReadsText}
use Rattle.currency_base.specs.declared.value.Value.{Value}
use Rattle.refutation_log.specs.declared.log.Log.{Log}
use Rattle.refutation_log.specs.declared.statement.Statement.{Statement}
use Rattle.refutation_log.specs.declared.statement.Statement.TheVariants as statement
use Rattle.refutation_log.specs.declared.step.Step.{Step}
use Rattle.text_write.specs.Pieces.{text_of}
use Rattle.text_write.specs.Written.{HasTokens}
use Rattle.text_write.proofs.Tokens.{pieces_found}
use Rattle.log_syntax.specs.declared.trees.ReadLog.{ReadLog}
use Rattle.log_syntax.specs.declared.trees.StatementTree.{StatementTree}
use Rattle.log_syntax.specs.Grammar.{SpellsEndedStatement, SpellsLog, SpellsStatements, UpTo, answers_of, empty_log, no_log, statements_of}
use Rattle.log_syntax.specs.Reads.{SpellsLogOrNothing}
use Rattle.log_write.specs.Pieces.{clause_pieces, ended_statement_pieces, is_empty, log_pieces, many_pieces}
use Rattle.refutation_log.specs.Writable.{AreAnswered, IsWritable}
use Rattle.log_write.proofs.Rules.{EndedStatement, Parts, StepsSomewhere, semicolon, statement_on, text_statements, text_steps, tree_of}
use Rattle.log_write.proofs.Texts.{AreSpelled, IsText, many_on_lines, text_nothing, text_then, text_wider, text_word}

-- ---- the answers that statements name

at_length : (front : List (List Value)) (values : List Value) (rest : List (List Value))
    → slice_index_or (front ++ values ∷ rest) (length front) [] ≡ values
at_length [] values rest = refl
at_length (x ∷ front) values rest = at_length front values rest

-- trees of statements say these answers and statements
record AreNamed (n : ℕ) (answers : List (List Value)) (statements : List Statement) (trees : List StatementTree) : Type 0 where
  answers_are : answers ≡ answers_of trees
  statements_are : statements ≡ statements_of n trees

named : (all : List (List Value)) (n : ℕ) (statements : List Statement) (front rest : List (List Value)) → all ≡ front ++ rest
    → n ≡ length front
    → AreAnswered n statements rest → AreNamed n rest statements (map (tree_of all) statements)
named all n [] front rest e f h = record { answers_are = h; statements_are = refl }
named all n (statement.Before rel attr earlier later ∷ statements) front rest e f h =
    let more = named all n statements front rest e f h in
    record {
      answers_are = more.answers_are;
      statements_are =
          ap (λ (l : List Statement). statement.Before rel attr earlier later ∷ l) more.statements_are;
    }
named all n (statement.Top rel attr row ∷ statements) front rest e f h =
    let more = named all n statements front rest e f h in
    record {
      answers_are = more.answers_are;
      statements_are = ap (λ (l : List Statement). statement.Top rel attr row
          ∷ l) more.statements_are;
    }
named all n (statement.Last rel attr row ∷ statements) front rest e f h =
    let more = named all n statements front rest e f h in
    record {
      answers_are = more.answers_are;
      statements_are = ap (λ (l : List Statement). statement.Last rel attr row
          ∷ l) more.statements_are;
    }
named all n (statement.Answer tuple ∷ statements) front [] e f h = absurd h
named all n (statement.Answer tuple ∷ statements) front (values ∷ rest) e f h =
    let count : length (front ++ values ∷ []) ≡ length front + 1 = length-append front (values ∷ []) in
    let more = named all (n + 1) statements (front ++ values ∷ []) rest
    (e ∙ sym (append_assoc front (values ∷ []) rest)) (omega arith) h.1 in
    let found : slice_index_or all tuple [] ≡ values =
    ap (λ (l : List (List Value)). slice_index_or l tuple []) e
    ∙ ap (λ (i : ℕ). slice_index_or (front ++ values ∷ rest) i []) (h.0 ∙ f) ∙ at_length front values rest in
    record {
      answers_are = ap₂ (λ (v : List Value) (l : List (List Value)). v ∷ l) (sym found) more.answers_are;
      statements_are = ap₂ (λ (i : ℕ) (l : List Statement). statement.Answer i ∷ l) h.0 more.statements_are;
    }

many_map : {A B : Type 0} (f : A → B) (P : B → List Lexeme → Type 0) (xs : List A) (tokens : List Lexeme)
    → Many (λ x. P (f x)) xs tokens → Many P (map f xs) tokens
many_map f P [] tokens h = h
many_map f P (x ∷ xs) tokens h =
    record { front = h.front; rest = h.rest; split = h.split; first = h.first; second = many_map f P xs h.rest h.second }

-- statements on some lines
abbrev Somewhere : Log → List Lexeme → Type 0
Somewhere log tokens = (lines : List ℕ) × SpellsStatements log.answers log.statements lines tokens

text_said : (log : Log) → IsWritable log
    → IsText (Somewhere log) (many_pieces (ended_statement_pieces log.answers) log.statements)
text_said log h = text_wider (text_statements log.answers h.answers log.statements h.statements) read
  where
    trees : List StatementTree
    trees = map (tree_of log.answers) log.statements

    said : AreNamed 0 log.answers log.statements trees
    said = named log.answers 0 log.statements [] log.answers refl refl h.answered

    read : (tokens : List Lexeme) → UpTo 4294967294 (λ s. EndedStatement (tree_of log.answers s)) log.statements
        tokens → Somewhere log tokens
    read tokens up =
        let on_lines : AreSpelled (λ t. t.statement) SpellsEndedStatement trees tokens =
        many_on_lines (λ t. t.statement) statement_on SpellsEndedStatement (λ line t. refl) trees tokens
        (many_map (tree_of log.answers) EndedStatement log.statements tokens up.spelled) in
        let few : length log.statements ≤ 4294967294 = up.few in
        let count : length log.statements ≡ length on_lines.trees =
        sym (length-map log.statements (tree_of log.answers)) ∙ ap length on_lines.are ∙ length-map on_lines.trees
        (λ t. t.statement) in (
          map (λ t. t.line) on_lines.trees,
          record {
            trees = on_lines.trees;
            answers_are = said.answers_are ∙ ap answers_of on_lines.are;
            statements_are = said.statements_are ∙ ap (statements_of 0) on_lines.are;
            lines_are = refl;
            spelled = record { few = omega arith; spelled = on_lines.spelled };
          },
        )

-- ---- logs

-- a log on some lines
abbrev LogSomewhere : Log → List Lexeme → Type 0
LogSomewhere log tokens = (r : ReadLog) × (r.log ≡ log) × SpellsLog r tokens

text_full : Parts → (log : Log) → IsWritable log → IsText (LogSomewhere log) (clause_pieces log)
text_full parts log h =
    text_wider (text_then (text_word (codes "log") (omega arith) refl)
    (text_then semicolon (text_then (text_said log h) (text_steps parts log.steps h.steps)))) read
  where
    read : (tokens : List Lexeme) → (IsWord (codes "log") ⋅ IsSymbol (codes ";") ⋅ Somewhere log ⋅ StepsSomewhere
        log.steps) tokens → LogSomewhere log tokens
    read tokens k =
        let both = k.second.second in (
          record { log = log; statements = both.first.0; steps = both.second.0 },
          refl,
          record {
            front = k.front;
            rest = k.rest;
            split = k.split;
            first = k.first;
            second = record {
              front = k.second.front;
              rest = k.second.rest;
              split = k.second.split;
              first = k.second.first;
              second = record {
                front = both.front;
                rest = both.rest;
                split = both.split;
                first =
                    both.first.1;
                second = both.second.1;
              };
            };
          },
        )

none : (answers : List (List Value)) (statements : List Statement) (steps : List Step)
    → (length statements == 0) && (length steps == 0) ≡ true → AreAnswered 0 statements answers
    → ◌≡◌ {A = Log} (record { answers = answers; statements = statements; steps = steps }) empty_log
none answers [] [] e h =
    let make : List (List Value) → Log = λ a. record { answers = a; statements = []; steps = [] } in
    ap make h
none answers [] (s ∷ steps) e h = absurd (grind arith)
none answers (s ∷ statements) steps e h = absurd (grind arith)

text_empty : (log : Log) → log ≡ empty_log → IsText (SpellsLogOrNothing log) []
text_empty log e = text_wider text_nothing (λ tokens h. (no_log, sym e, inl (refl, h)))

-- tokens with just the pieces of a log spell it, on some lines
pub text_log : Parts → (log : Log) → IsWritable log → IsText (SpellsLogOrNothing log) (log_pieces log)
text_log parts log h = by (is_empty log) refl
  where
    by : (b : Bool) → is_empty log ≡ b → IsText (SpellsLogOrNothing log) (cond b [] (clause_pieces log))
    by true e = text_empty log (none log.answers log.statements log.steps e h.answered)
    by false e = text_wider (text_full parts log h) (λ tokens k. (k.0, k.1, inr k.2))

pub read_again : Parts → (log : Log) → IsWritable log → ReadsText SpellsLogOrNothing (text_of (log_pieces log)) log
read_again parts log h =
    let t : IsText (SpellsLogOrNothing log) (log_pieces log) = text_log parts log h in
    let found : HasTokens (log_pieces log) = pieces_found (log_pieces log) t.whole in
    record { utf8 = found.utf8; lexemes = found.lexemes; tokens = found.tokens; spelled = t.read found.lexemes found.same }
