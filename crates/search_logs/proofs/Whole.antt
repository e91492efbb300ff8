-- The log of a search can be written, and so can what it is trimmed to.
use Rattle.std.proofs.Common.{⊎_elim, ℕ, List, [], Contains, length, ap, subst, arith}
use Rattle.std.proofs.lemmas.List.Elements.{All-nil}
use Rattle.log_trim.proofs.StaysInPlace.{stays_in_place}
use Rattle.currency_base.specs.declared.value.Value.{Value}
use Rattle.log_axioms.specs.Posed.{Posed}
use Rattle.order_literals.proofs.Items.{IsIn, contained, in_at}
use Rattle.order_literals.proofs.Members.{in_answer}
use Rattle.order_literals.specs.Numbers.{numbers_of}
use Rattle.order_literals.specs.declared.wanted.Wanted.{Wanted}
use Rattle.refutation_log.specs.declared.log.Log.{Log}
use Rattle.refutation_log.specs.declared.statement.Statement.TheVariants.{Before, Top, Last, Answer}
use Rattle.spec_model.specs.Spec.{Spec}
use Rattle.order_limits.specs.Few.{StatementsAreFew}
use Rattle.refutation_log.specs.declared.statement.Statement.{Statement}
use Rattle.search_logs.specs.Laws.{LogsAreWritable, TrimmedAreAmong, TrimmedAreWritable}
use Rattle.search_logs.specs.SearchLogs.{IsSearchLog, variables}
use Rattle.search_logs.proofs.OnceLists.{all_placed}
use Rattle.search_logs.proofs.Plain.{written, formed}
use Rattle.search_logs.proofs.Searched.{in_place, plain}
use Rattle.search_logs.proofs.Trimmed.{IsLessAnswer, still_among, still_plain}

pub search_logs_writable : StatementsAreFew → LogsAreWritable
search_logs_writable few s posed wanted log within is few_steps =
    let relations = within.specification.relations in
    let mine = plain s posed wanted log within is few_steps in
    let none : List ℕ = [] in
    let inside = in_place s posed wanted log within is few few_steps none (All-nil _) in
    (written s.relations relations log none mine inside, formed s.relations relations log none mine inside)

pub trimmed_logs_writable : StatementsAreFew → TrimmedAreWritable
trimmed_logs_writable few s posed wanted log goals trimmed within is few_steps goals_in t =
    let relations = within.specification.relations in
    let mine = still_plain log goals trimmed t s.relations (plain s posed wanted log within is few_steps) in
    let inside = stays_in_place log goals trimmed t (in_place s posed wanted log within is few few_steps goals goals_in) in (
      written s.relations relations trimmed.log trimmed.goals mine inside,
      formed s.relations relations trimmed.log
          trimmed.goals mine inside,
    )

-- an answer that is there is numbered
answer_numbered : (s : Spec) (posed : Posed) (wanted : Wanted) (log : Log) → IsSearchLog s posed wanted log →
    (st : Statement) → IsLessAnswer log.answers st
    → IsIn (variables s wanted) st
answer_numbered s posed wanted log is (Answer tuple) below =
    let many = ap (λ (answers : List (List Value)). length answers) is.answers in
    let all = is.as_many in
    in_answer (numbers_of s.relations wanted) tuple (omega (arith, below, many, all))
answer_numbered s posed wanted log is (Before rel attr a b) below = absurd below
answer_numbered s posed wanted log is (Top rel attr row) below = absurd below
answer_numbered s posed wanted log is (Last rel attr row) below = absurd below

pub trimmed_logs_among : TrimmedAreAmong
trimmed_logs_among s posed wanted log goals trimmed within is few_steps t =
    all_placed (Contains (variables s wanted)) trimmed.log.statements (λ place st at.
    contained (variables s wanted) st (⊎_elim
    (λ (stood : IsIn log.statements st). subst (λ (statements : List Statement). IsIn statements st) is.statements stood)
    (λ (less : IsLessAnswer log.answers st). answer_numbered s posed wanted log is st less)
    (still_among log goals trimmed t s.relations (plain s posed wanted log within is few_steps) st
    (in_at trimmed.log.statements place st at))))
