-- The grammar of reports: which tokens spell a report.
use Rattle.std.specs.Prelude.{◌&&◌, ◌^◌, ℕ, nat_lt, List, [], ◌∷◌, Option, Some, None, if◌then◌else◌, codes}
use Rattle.std.specs.Str.Parse.{digits_value}
use Rattle.currency_base.specs.Number.{is_numeral}
use Rattle.text_tokens.specs.Lexeme.{Lexeme}
use Rattle.text_tokens.specs.declared.token.TokenKind.TheVariants.{Word}
use Rattle.text_grammar.specs.Words.{same_kind}
use Rattle.text_grammar.specs.Grammar.{Language, ◌⋅◌, IsWord, IsSymbol, Says, SpellsName}
use Rattle.text_grammar.specs.declared.named.Named.{Named}
use Rattle.log_syntax.specs.Grammar.{IsWordOn, SpellsLogPart, SpellsValues, UpTo}
use Rattle.report_syntax.specs.declared.tree.AnswerTree.{AnswerTree}
use Rattle.report_syntax.specs.declared.tree.ClaimTree.{ClaimTree}
use Rattle.report_syntax.specs.declared.tree.ClaimTree.TheVariants.{Inconsistent, Consistent, Certain, NotCertain, Same, NotSame, Answers, Undecided}
use Rattle.report_syntax.specs.declared.tree.CompletionTree.{CompletionTree}
use Rattle.report_syntax.specs.declared.tree.CurrentTree.{CurrentTree}
use Rattle.report_syntax.specs.declared.tree.RankingTree.{RankingTree}
use Rattle.report_syntax.specs.declared.tree.ReportTree.{ReportTree}
use Rattle.report_syntax.specs.declared.tree.VerdictTree.{VerdictTree}
use Rattle.report_syntax.specs.declared.tree.Version.{Version}
use Rattle.report_syntax.specs.declared.tree.Version.TheVariants.{First, Second}

-- ---- the head

-- "1" | "2"
abbrev pub SpellsVersion : Version → Language
SpellsVersion First = IsWord (codes "1")
SpellsVersion Second = IsWord (codes "2")

-- ---- verdicts

-- the number of 64 bits that digits write
unfoldable pub count_of : List ℕ → Option ℕ
count_of digits = if is_numeral digits && nat_lt (digits_value 10 digits) (2 ^ 64) then Some (digits_value 10 digits) else None

-- the number of 64 bits that a token writes
abbrev pub count_in : Lexeme → Option ℕ
count_in t = if same_kind t.kind Word then count_of t.text else None

-- attribute = name "." name
abbrev pub SpellsAttribute : Named → Named → Language
SpellsAttribute relation attr = SpellsName relation ⋅ IsSymbol (codes ".") ⋅ SpellsName attr

-- "current" name name values ";"
abbrev pub SpellsCurrent : CurrentTree → Language
SpellsCurrent t =
    IsWordOn (codes "current") t.line ⋅ SpellsName t.relation ⋅ SpellsName t.entity ⋅ SpellsValues t.values ⋅ IsSymbol (codes ";")

-- "answer" values ";"
abbrev pub SpellsAnswer : AnswerTree → Language
SpellsAnswer t = IsWordOn (codes "answer") t.line ⋅ SpellsValues t.values ⋅ IsSymbol (codes ";")

-- claim = "inconsistent" ";" | "consistent" ";" | "certain" ";" | "not" "certain" attribute ":" name "<" name ";"
--       | "same" ";" { current } | "not" "same" attribute "of" name ";" | "answers" ";" { answer } | "undecided" digits ";"
abbrev pub SpellsClaim : ClaimTree → Language
SpellsClaim Inconsistent = IsWord (codes "inconsistent") ⋅ IsSymbol (codes ";")
SpellsClaim Consistent = IsWord (codes "consistent") ⋅ IsSymbol (codes ";")
SpellsClaim Certain = IsWord (codes "certain") ⋅ IsSymbol (codes ";")
SpellsClaim (NotCertain relation attr earlier later) =
    IsWord (codes "not") ⋅ IsWord (codes "certain") ⋅ SpellsAttribute relation attr ⋅ IsSymbol (codes ":")
    ⋅ SpellsName earlier ⋅ IsSymbol (codes "<") ⋅ SpellsName later ⋅ IsSymbol (codes ";")
SpellsClaim (Same items) = IsWord (codes "same") ⋅ IsSymbol (codes ";") ⋅ UpTo 4294967294 SpellsCurrent items
SpellsClaim (NotSame relation attr entity) =
    IsWord (codes "not") ⋅ IsWord (codes "same") ⋅ SpellsAttribute relation attr ⋅ IsWord (codes "of")
    ⋅ SpellsName entity ⋅ IsSymbol (codes ";")
SpellsClaim (Answers items) = IsWord (codes "answers") ⋅ IsSymbol (codes ";") ⋅ UpTo 4294967294 SpellsAnswer items
SpellsClaim (Undecided counted) = IsWord (codes "undecided") ⋅ Says count_in counted ⋅ IsSymbol (codes ";")

-- verdict = "verdict" claim
abbrev pub SpellsVerdict : VerdictTree → Language
SpellsVerdict t = IsWordOn (codes "verdict") t.line ⋅ SpellsClaim t.claim

-- ---- completions

-- a further row of a ranking
abbrev pub SpellsFurtherRow : Named → Language
SpellsFurtherRow row = IsSymbol (codes "<") ⋅ SpellsName row

-- rows = name { "<" name }
abbrev pub SpellsRows : List Named → Language
SpellsRows [] = λ tokens. ⊥
SpellsRows (row ∷ rows) = SpellsName row ⋅ UpTo 4294967293 SpellsFurtherRow rows

-- ranking = "ranking" attribute "of" name ":" rows ";"
abbrev pub SpellsRanking : RankingTree → Language
SpellsRanking t =
    IsWordOn (codes "ranking") t.line ⋅ SpellsAttribute t.relation t.attr
    ⋅ IsWord (codes "of") ⋅ SpellsName t.entity ⋅ IsSymbol (codes ":") ⋅ SpellsRows t.rows ⋅ IsSymbol (codes ";")

-- completion = "completion" ";" { ranking }
abbrev pub SpellsCompletion : CompletionTree → Language
SpellsCompletion t =
    IsWordOn (codes "completion") t.line ⋅ IsSymbol (codes ";") ⋅ UpTo 4294967294 SpellsRanking t.rankings

-- { completion }
abbrev pub SpellsCompletions : List CompletionTree → Language
SpellsCompletions = UpTo 4294967294 SpellsCompletion

-- ---- reports

-- report = "currency" "report" version ";" verdict { completion } [ log ] "end" ";"
abbrev pub SpellsReport : ReportTree → Language
SpellsReport t =
    IsWord (codes "currency") ⋅ IsWord (codes "report") ⋅ SpellsVersion t.version ⋅ IsSymbol (codes ";")
    ⋅ SpellsVerdict t.verdict ⋅ SpellsCompletions t.completions ⋅ SpellsLogPart t.log ⋅ IsWord (codes "end") ⋅
    IsSymbol (codes ";")
