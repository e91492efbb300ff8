-- What one run of the program promises, where so many guides are handed in.
use Rattle.std.specs.Prelude.{◌≡◌, ℕ, List, Option, None}
use Rattle.currency_cli.specs.Clauses.{Answered, Blames, Complete, Conducts, Ends, Exact, Explains, Imagines, Listed, PossiblyTables}
use Rattle.currency_cli.specs.Clauses.{Records, Refused, Steady, Tables, Tries, Verified, WordsRefused}
use Rattle.currency_cli.specs.Ends.{IsCutShort, IsDenied, IsDone, IsInconsistent, IsUndecided, NamesUnread}
use Rattle.currency_cli.specs.Words.{command_for}
use Rattle.currency_edge.specs.Fault.{Rose}

-- each clause of `run`, on this status
pub record IsRun (texts : Option (List (List ℕ × List ℕ))) (count : ℕ) (words : List (List ℕ)) (reads_before reads_now : ℕ)
    (old new : Option (List ℕ)) (writes_before writes_now status : ℕ) : Type 0 where
  pub ends : Ends texts count words reads_before reads_now old new writes_before writes_now status
  pub exact : Exact texts count words reads_before reads_now writes_before writes_now status
  pub complete : Steady reads_before reads_now writes_before writes_now (Complete texts count words status)
  pub answered : Steady reads_before reads_now writes_before writes_now (Answered texts count words status)
  pub verified : Steady reads_before reads_now writes_before writes_now (Verified texts count words status)
  pub listed : Steady reads_before reads_now writes_before writes_now (Listed texts count words status)
  pub explained : Steady reads_before reads_now writes_before writes_now (Explains texts count words status)
  pub blamed : Steady reads_before reads_now writes_before writes_now (Blames texts count words status)
  pub recorded : Steady reads_before reads_now writes_before writes_now (Records texts count words status)
  pub imagined : Steady reads_before reads_now writes_before writes_now (Imagines texts count words status)
  pub tabled : Steady reads_before reads_now writes_before writes_now (Tables texts count words status)
  pub possibly_tabled : Steady reads_before reads_now writes_before writes_now (PossiblyTables texts count words status)
  pub conducted : Steady reads_before reads_now writes_before writes_now (Conducts texts count words status)
  pub tried : Tries count words old new writes_before writes_now status
  pub refused : Refused texts count words status
  pub no_command : status ≡ 2 → command_for count words ≡ None
  pub words_refused : WordsRefused count words status
  pub done : status ≡ 0 → IsDone texts count words old new
  pub denied : status ≡ 1 → IsDenied texts count words old new
  pub undecided : status ≡ 3 → IsUndecided texts count words old new
  pub inconsistent : status ≡ 10 → IsInconsistent texts count words old new
  pub read_fault : status ≡ 7 → Rose reads_before reads_now
  pub read_fault_text : status ≡ 7 → NamesUnread texts count words old new
  pub write_fault : status ≡ 8 → Rose writes_before writes_now
  pub write_fault_text : status ≡ 8 → IsCutShort texts count words old new
