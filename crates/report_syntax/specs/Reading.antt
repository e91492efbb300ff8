-- How the rules of reports are read.
use Rattle.std.specs.Prelude.{ℕ, List, [], ◌∷◌, codes}
use Rattle.text_grammar.specs.Words.{is_word, is_symbol, named}
use Rattle.text_grammar.specs.Reading.{Parser, one, passing, both, after, before, mapped, choose, many_within}
use Rattle.text_grammar.specs.declared.named.Named.{Named}
use Rattle.log_syntax.specs.Grammar.{word_line}
use Rattle.log_syntax.specs.Reading.{gathered, log_part_at, pushed, put_all, values_at}
use Rattle.report_syntax.specs.declared.attribute.AttributeTree.{AttributeTree}
use Rattle.report_syntax.specs.declared.tree.AnswerTree.{AnswerTree}
use Rattle.report_syntax.specs.declared.tree.ClaimTree.{ClaimTree}
use Rattle.report_syntax.specs.declared.tree.ClaimTree.TheVariants.{Inconsistent, Consistent, Certain, NotCertain, Same, NotSame, Answers, Undecided}
use Rattle.report_syntax.specs.declared.tree.CompletionTree.{CompletionTree}
use Rattle.report_syntax.specs.declared.tree.CurrentTree.{CurrentTree}
use Rattle.report_syntax.specs.declared.tree.RankingTree.{RankingTree}
use Rattle.report_syntax.specs.declared.tree.ReportTree.{ReportTree}
use Rattle.report_syntax.specs.declared.tree.VerdictTree.{VerdictTree}
use Rattle.report_syntax.specs.declared.tree.Version.{Version}
use Rattle.report_syntax.specs.declared.tree.Version.TheVariants.{First, Second}
use Rattle.report_syntax.specs.Spells.{count_in}

-- a word and the semicolon that ends it
abbrev pub ended_word_at : List ℕ → Parser (Unit {0})
ended_word_at text = after (is_word text) (passing (is_symbol (codes ";")))

-- ---- the head

unfoldable pub first_at : Parser Version
first_at = mapped (λ u. First) (passing (is_word (codes "1")))

unfoldable pub second_at : Parser Version
second_at = mapped (λ u. Second) (passing (is_word (codes "2")))

unfoldable pub version_at : Parser Version
version_at = choose (is_word (codes "1")) first_at second_at

-- ---- the items of a verdict

unfoldable pub current_at : Parser CurrentTree
current_at =
    mapped (λ x. record { line = x.0; relation = x.1.0; entity = x.1.1.0; values = x.1.1.1 })
    (both (one (word_line (codes "current"))) (both (one named) (both (one named) (before values_at (is_symbol (codes ";"))))))

unfoldable pub currents_at : Parser (List CurrentTree)
currents_at = gathered pushed [] 4294967294 (is_word (codes "current")) current_at

unfoldable pub answer_at : Parser AnswerTree
answer_at =
    mapped (λ x. record { line = x.0; values = x.1 })
    (both (one (word_line (codes "answer"))) (before values_at (is_symbol (codes ";"))))

unfoldable pub answers_at : Parser (List AnswerTree)
answers_at = gathered pushed [] 4294967294 (is_word (codes "answer")) answer_at

-- ---- what a verdict claims

unfoldable pub attribute_at : Parser AttributeTree
attribute_at = mapped (λ x. record { relation = x.0; attr = x.1 }) (both (one named) (after (is_symbol (codes ".")) (one named)))

unfoldable pub inconsistent_at : Parser ClaimTree
inconsistent_at = mapped (λ u. Inconsistent) (ended_word_at (codes "inconsistent"))

unfoldable pub consistent_at : Parser ClaimTree
consistent_at = mapped (λ u. Consistent) (ended_word_at (codes "consistent"))

unfoldable pub certain_at : Parser ClaimTree
certain_at = mapped (λ u. Certain) (ended_word_at (codes "certain"))

-- what is not certain, from the word `certain` on
unfoldable pub not_certain_at : Parser ClaimTree
not_certain_at =
    mapped (λ x. NotCertain x.0.relation x.0.attr x.1.0 x.1.1)
    (after (is_word (codes "certain")) (both attribute_at
    (after (is_symbol (codes ":")) (both (one named)
    (after (is_symbol (codes "<")) (before (one named) (is_symbol (codes ";"))))))))

-- what is not the same, from the word `same` on
unfoldable pub not_same_at : Parser ClaimTree
not_same_at =
    mapped (λ x. NotSame x.0.relation x.0.attr x.1)
    (after (is_word (codes "same")) (both attribute_at
    (after (is_word (codes "of")) (before (one named) (is_symbol (codes ";"))))))

-- what follows the word `not`
unfoldable pub denied_at : Parser ClaimTree
denied_at = choose (is_word (codes "certain")) not_certain_at not_same_at

unfoldable pub not_at : Parser ClaimTree
not_at = mapped (λ c. c) (after (is_word (codes "not")) denied_at)

unfoldable pub same_at : Parser ClaimTree
same_at = mapped (λ items. Same items) (after (is_word (codes "same")) (after (is_symbol (codes ";")) currents_at))

unfoldable pub answers_claim_at : Parser ClaimTree
answers_claim_at = mapped (λ items. Answers items) (after (is_word (codes "answers")) (after (is_symbol (codes ";")) answers_at))

unfoldable pub undecided_at : Parser ClaimTree
undecided_at = mapped (λ counted. Undecided counted)
    (after (is_word (codes "undecided")) (before (one count_in) (is_symbol (codes ";"))))

-- a claim that is not about consistency alone
unfoldable pub further_claim_at : Parser ClaimTree
further_claim_at =
    choose (is_word (codes "certain")) certain_at
    (choose (is_word (codes "not")) not_at
    (choose (is_word (codes "same")) same_at
    (choose (is_word (codes "answers")) answers_claim_at undecided_at)))

unfoldable pub claim_at : Parser ClaimTree
claim_at =
    choose (is_word (codes "inconsistent")) inconsistent_at
    (choose (is_word (codes "consistent")) consistent_at further_claim_at)

unfoldable pub verdict_at : Parser VerdictTree
verdict_at = mapped (λ x. record { line = x.0; claim = x.1 }) (both (one (word_line (codes "verdict"))) claim_at)

-- ---- completions

unfoldable pub further_row_at : Parser Named
further_row_at = after (is_symbol (codes "<")) (one named)

unfoldable pub rows_at : Parser (List Named)
rows_at =
    mapped (λ x. put_all pushed (x.0 ∷ []) x.1) (both (one named) (many_within 4294967293 (is_symbol (codes "<")) further_row_at))

unfoldable pub ranking_at : Parser RankingTree
ranking_at =
    mapped (λ x. record { line = x.0; relation = x.1.0.relation; attr = x.1.0.attr; entity = x.1.1.0; rows = x.1.1.1 })
    (both (one (word_line (codes "ranking"))) (both attribute_at
    (after (is_word (codes "of")) (both (one named)
    (after (is_symbol (codes ":")) (before rows_at (is_symbol (codes ";"))))))))

unfoldable pub rankings_at : Parser (List RankingTree)
rankings_at = gathered pushed [] 4294967294 (is_word (codes "ranking")) ranking_at

unfoldable pub completion_at : Parser CompletionTree
completion_at =
    mapped (λ x. record { line = x.0; rankings = x.1 })
    (both (one (word_line (codes "completion"))) (after (is_symbol (codes ";")) rankings_at))

unfoldable pub completions_at : Parser (List CompletionTree)
completions_at = gathered pushed [] 4294967294 (is_word (codes "completion")) completion_at

-- ---- reports

unfoldable pub report_at : Parser ReportTree
report_at =
    mapped (λ x. record { version = x.0; verdict = x.1.0; completions = x.1.1.0; log = x.1.1.1.0 })
    (after (is_word (codes "currency")) (after (is_word (codes "report"))
    (both version_at (after (is_symbol (codes ";"))
    (both verdict_at (both completions_at (both log_part_at (ended_word_at (codes "end")))))))))
