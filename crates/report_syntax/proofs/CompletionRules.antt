-- Rankings and completions are read as they are spelled.
use Rattle.std.proofs.Common.{◌≡◌, ℕ, Bool, true, false, List, [], ◌∷◌, refl, sym, ap, subst, codes}
use Rattle.std.specs.Str.{bytes_eq}
use Rattle.text_tokens.specs.Lexeme.{Lexeme}
use Rattle.text_tokens.specs.declared.token.TokenKind.TheVariants.{Word, Symbol}
use Rattle.text_grammar.specs.Words.{is_word, is_symbol}
use Rattle.text_grammar.specs.Grammar.{◌⋅◌, SpellsName}
use Rattle.text_grammar.specs.Laws.{IsReader}
use Rattle.text_grammar.specs.declared.named.Named.{Named}
use Rattle.text_grammar.proofs.Readers.{always, Begins, Ended, Image, reads_made, reads_two}
use Rattle.text_grammar.proofs.FixedTokens.{after_symbol, after_word, apart, before_symbol, begins_fixed, reads_name}
use Rattle.log_syntax.specs.Grammar.{UpTo}
use Rattle.log_syntax.specs.Reading.{pushed, put_all}
use Rattle.log_syntax.proofs.EndingReaders.{ends_up_to, reads_ending}
use Rattle.log_syntax.proofs.Gathering.{all_pushed}
use Rattle.log_syntax.proofs.UpToReaders.{ended_at, ends_within, reads_gathered, reads_up_to}
use Rattle.log_syntax.proofs.WordLines.{begins_word_line, begins_word_on, reads_word_on}
use Rattle.report_syntax.specs.declared.tree.CompletionTree.{CompletionTree}
use Rattle.report_syntax.specs.declared.tree.RankingTree.{RankingTree}
use Rattle.report_syntax.specs.Spells.{SpellsCompletion, SpellsCompletions, SpellsFurtherRow, SpellsRanking, SpellsRows}
use Rattle.report_syntax.specs.Reading.{completion_at, completions_at, further_row_at, ranking_at, rankings_at, rows_at}
use Rattle.report_syntax.proofs.VerdictRules.{reads_attribute}

-- ---- rankings

-- what ends rows
abbrev ends_rows : List Named → Lexeme → Bool
ends_rows [] t = true
ends_rows (row ∷ rows) t = ends_within 4294967293 (is_symbol (codes "<")) rows t

begins_further_row : Begins (is_symbol (codes "<")) true SpellsFurtherRow
begins_further_row = begins_fixed SpellsName Symbol (codes "<") (is_symbol (codes "<")) true (λ t e. e)

reads_further_row : IsReader SpellsFurtherRow always further_row_at
unfolding further_row_at
reads_further_row = after_symbol (codes "<") reads_name

all_rows : (row : Named) (rows : List Named) → put_all pushed (row ∷ []) rows ≡ row ∷ rows
all_rows row rows = all_pushed (row ∷ []) rows

reads_rows : IsReader SpellsRows ends_rows rows_at
unfolding rows_at
reads_rows =
    reads_made (reads_two reads_name (reads_up_to reads_further_row (is_symbol (codes "<")) begins_further_row 4294967293))
    (λ x. put_all pushed (x.0 ∷ []) x.1) ends_rows
    (λ x t. ap (λ (l : List Named). ends_rows l t) (all_rows x.0 x.1))
    (λ x tokens h. subst (λ (l : List Named). SpellsRows l tokens) (sym (all_rows x.0 x.1)) h)
    back
  where
    back : (rows : List Named) (tokens : List Lexeme) → SpellsRows rows tokens
        → Image (λ (x : Named × List Named). put_all pushed (x.0 ∷ []) x.1)
        (λ (x : Named × List Named). SpellsName x.0 ⋅ UpTo 4294967293 SpellsFurtherRow x.1) rows tokens
    back [] tokens h = absurd h
    back (row ∷ rows) tokens h = record { tree = (row, rows); is = all_rows row rows; spelled = h }

rows_end : Ended ends_rows (is_symbol (codes ";"))
rows_end [] t e = refl
rows_end (row ∷ rows) t e = ended_at 4294967293 (is_symbol (codes "<")) rows t
    (apart Symbol (codes ";") Symbol (codes "<") refl t e)

reads_ranking : IsReader SpellsRanking always ranking_at
unfolding ranking_at
reads_ranking =
    reads_made
    (reads_two (reads_word_on (codes "ranking")) (reads_two reads_attribute (after_word (codes "of") (reads_two reads_name
    (after_symbol (codes ":") (before_symbol (codes ";") reads_rows rows_end))))))
    (λ x. record { line = x.0; relation = x.1.0.relation; attr = x.1.0.attr; entity = x.1.1.0; rows = x.1.1.1 }) always
    (λ a t. refl) (λ x tokens h. h)
    (λ r tokens h. record {
      tree = (r.line, (record { relation = r.relation; attr = r.attr }, (r.entity, r.rows)));
      is = refl;
      spelled = h;
    })

begins_ranking : Begins (is_word (codes "ranking")) true SpellsRanking
begins_ranking r tokens h = begins_word_on (codes "ranking") r.line _ tokens h

-- what ends rankings
abbrev ends_rankings : List RankingTree → Lexeme → Bool
ends_rankings = ends_within 4294967294 (is_word (codes "ranking"))

reads_rankings : IsReader (UpTo 4294967294 SpellsRanking) ends_rankings rankings_at
unfolding rankings_at
reads_rankings = reads_gathered reads_ranking (is_word (codes "ranking")) begins_ranking 4294967294

-- ---- completions

-- what ends a completion
abbrev pub ends_completion : CompletionTree → Lexeme → Bool
ends_completion c = ends_rankings c.rankings

reads_completion : IsReader SpellsCompletion ends_completion completion_at
unfolding completion_at
reads_completion =
    reads_made (reads_two (reads_word_on (codes "completion")) (after_symbol (codes ";") reads_rankings))
    (λ x. record { line = x.0; rankings = x.1 }) ends_completion
    (λ a t. refl) (λ x tokens h. h) (λ c tokens h. record { tree = (c.line, c.rankings); is = refl; spelled = h })

-- a completion begins with its word
pub begins_completion : (test : Lexeme → Bool) → ((t : Lexeme) → is_word (codes "completion") t ≡ true
    → test t ≡ true) → Begins test true SpellsCompletion
begins_completion test goes c tokens h = begins_word_line (codes "completion") test true goes c.line _ tokens h

-- a word that goes on with no ranking ends a completion
completion_ends : (text : List ℕ) → bytes_eq text (codes "ranking") ≡ false → Ended ends_completion (is_word text)
completion_ends text differs c t e = ended_at 4294967294 (is_word (codes "ranking")) c.rankings t
    (apart Word text Word (codes "ranking") differs t e)

-- what ends completions
abbrev pub ends_completions : List CompletionTree → Lexeme → Bool
ends_completions = ends_up_to 4294967294 ends_completion (is_word (codes "completion"))

pub reads_completions : IsReader SpellsCompletions ends_completions completions_at
unfolding completions_at
reads_completions =
    reads_ending reads_completion (is_word (codes "completion")) (begins_completion (is_word (codes "completion")) (λ t e. e))
    (completion_ends (codes "completion") refl) 4294967294
