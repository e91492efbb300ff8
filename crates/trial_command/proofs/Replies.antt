-- What `trial` comes to.
use Rattle.std.proofs.Common.{◌≡◌, ◌∙◌, ℕ, List, [], ◌∷◌, codes, MatchResult, Result, Ok, Err, inl, inr, ap, subst, sym, arith}
use Rattle.command_stages.proofs.OneRead.{IsOne, then_one}
use Rattle.command_stages.proofs.Outcomes.{IsLike, answer_or_limit, answers_alike, done_apart, limit_or_answer, same_alike, same_done, then_like}
use Rattle.command_stages.specs.Endings.{IsOfQuestion, ending_status}
use Rattle.command_stages.specs.Stages.{Then, IsQuestionRead, IsSpecRead}
use Rattle.command_stages.specs.declared.done.Done.{Done}
use Rattle.command_stages.specs.declared.done.Ending.{Ending}
use Rattle.command_stages.specs.declared.done.Ending.TheVariants as ending
use Rattle.command_stages.specs.declared.trouble.Trouble.{Trouble}
use Rattle.command_stages.specs.declared.trouble.Trouble.TheVariants as trouble
use Rattle.spec_model.specs.Spec.{Spec}
use Rattle.spec_model.specs.declared.question.Question.{Question}
use Rattle.spec_model.specs.declared.relation.Relation.{Relation}
use Rattle.answer_texts.proofs.Spent.{short}
use Rattle.trial_command.specs.Trial.{AreQuestionsRead, AreTried, IsTrialDueOver, IsTrialPrinted, IsTrialSpent, trial_budget}
use Rattle.trial_documents.specs.Documents.{documents}

abbrev OneSpec : Type 0
OneSpec = (told : List (List ℕ × List ℕ)) (name : List ℕ) → IsOne (IsSpecRead told name)

abbrev OneQuestion : Type 0
OneQuestion = (told : List (List ℕ × List ℕ)) (relations : List Relation) (name : List ℕ)
    → IsOne (IsQuestionRead told relations name)

-- ---- what is due differs in no more than which reports answer

-- each outcome of `trial` is a text, or that a query has too many answers
tried_like : (size : ℕ) (s : Spec) (questions : List Question) → IsLike (AreTried size s questions)
tried_like size s questions x y (inl h) (inl k) = answers_alike _ _ x y tt tt h.is_text k.is_text
tried_like size s questions x y (inl h) (inr (inl k)) = answers_alike _ _ x y tt tt h.is_text k.is_text
tried_like size s questions x y (inl h) (inr (inr k)) = answer_or_limit _ x y tt h.is_text k.is_limit
tried_like size s questions x y (inr (inl h)) (inl k) = answers_alike _ _ x y tt tt h.is_text k.is_text
tried_like size s questions x y (inr (inl h)) (inr (inl k)) = answers_alike _ _ x y tt tt h.is_text k.is_text
tried_like size s questions x y (inr (inl h)) (inr (inr k)) = answer_or_limit _ x y tt h.is_text k.is_limit
tried_like size s questions x y (inr (inr h)) (inl k) = limit_or_answer _ x y tt h.is_limit k.is_text
tried_like size s questions x y (inr (inr h)) (inr (inl k)) = limit_or_answer _ x y tt h.is_limit k.is_text
tried_like size s questions x y (inr (inr h)) (inr (inr k)) = same_alike x y (h.is_limit ∙ sym k.is_limit)

same_list : (a b c d : Question) → IsOne (λ (o : Result (List Question) Trouble). o ≡ Ok (a ∷ b ∷ c ∷ d ∷ []))
same_list a b c d x y h k = h ∙ sym k

questions_one : OneQuestion → (told : List (List ℕ × List ℕ)) (relations : List Relation)
    → IsOne (AreQuestionsRead told relations)
questions_one one_question told relations =
    then_one (IsQuestionRead told relations (codes "q1")) _ (one_question told relations (codes "q1")) (λ a.
    then_one (IsQuestionRead told relations (codes "q2")) _ (one_question told relations (codes "q2")) (λ b.
    then_one (IsQuestionRead told relations (codes "q3")) _ (one_question told relations (codes "q3")) (λ c.
    then_one (IsQuestionRead told relations (codes "q4")) _ (one_question told relations (codes "q4")) (λ d.
    same_list a b c d))))

pub trial_like : OneSpec → OneQuestion → (told : List (List ℕ × List ℕ)) (size : ℕ) → IsLike (IsTrialDueOver told size)
trial_like one_spec one_question told size =
    then_like (IsSpecRead told (codes "spec")) _ (one_spec told (codes "spec")) (λ s.
    then_like (AreQuestionsRead told s.relations) (AreTried size s) (questions_one one_question told s.relations)
    (tried_like size s))

-- ---- what is told, by the status

-- a text and how it ends, as one
abbrev printed_as : List ℕ → Ending → Done
printed_as text e = record { text = text; ending = e }

of_printed : (size : ℕ) (P : Spec → Type 0) (text : List ℕ) (e : Ending) → IsTrialPrinted size text e
    → ((s : Spec) → IsSpecRead (documents size) (codes "spec") (Ok s) → (questions : List Question)
    → AreQuestionsRead (documents size) s.relations (Ok questions)
    → AreTried size s questions (Ok (printed_as text e)) → P s)
    → (s : Spec) × IsSpecRead (documents size) (codes "spec") (Ok s) × P s
of_printed size P text e told by = of_spec told.0 told.1 told.2
  where
    of_questions : (s : Spec) → IsSpecRead (documents size) (codes "spec") (Ok s) → (r : Result (List Question) Trouble)
        → AreQuestionsRead (documents size) s.relations r
        → MatchResult r (λ qs. AreTried size s qs (Ok (printed_as text e)))
        (λ t. ◌≡◌ {A = Result Done Trouble} (Ok (printed_as text e)) (Err t)) → P s
    of_questions s read (Ok qs) asked h = by s read qs asked h
    of_questions s read (Err t) asked h = absurd (done_apart (printed_as text e) t h)

    of_spec : (r : Result Spec Trouble) → IsSpecRead (documents size) (codes "spec") r
        → MatchResult r (λ s. Then (AreQuestionsRead (documents size) s.relations) (AreTried size s) (Ok (printed_as text e)))
        (λ t. ◌≡◌ {A = Result Done Trouble} (Ok (printed_as text e)) (Err t))
        → (s : Spec) × IsSpecRead (documents size) (codes "spec") (Ok s) × P s
    of_spec (Ok s) read h = (s, read, of_questions s read h.0 h.1 h.2)
    of_spec (Err t) read h = absurd (done_apart (printed_as text e) t h)

same_end : (a b : List ℕ) (d e : Ending) → ◌≡◌ {A = Result Done Trouble} (Ok (printed_as a d)) (Ok (printed_as b e)) → d ≡ e
same_end a b d e same = ap (λ (x : Done). x.ending) (same_done (printed_as a d) (printed_as b e) same)

not_both : ending.Undecided ≡ ending.Decided → ⊥
not_both e = cc

-- it ends as a question
ends_as_question : (size : ℕ) (text : List ℕ) (e : Ending) (s : Spec) (questions : List Question)
    → AreTried size s questions (Ok (printed_as text e)) → IsOfQuestion e
ends_as_question size text e s questions (inl h) =
    subst IsOfQuestion (sym (same_end text _ e ending.Decided h.is_text)) tt
ends_as_question size text e s questions (inr (inl h)) =
    subst IsOfQuestion (sym (same_end text _ e ending.Undecided h.is_text)) tt
ends_as_question size text e s questions (inr (inr h)) = absurd (done_apart (printed_as text e) (trouble.Limit 3) h.is_limit)

pub of_question : (size : ℕ) (text : List ℕ) (e : Ending) → IsTrialPrinted size text e → IsOfQuestion e
of_question size text e h =
    (of_printed size (λ s. IsOfQuestion e) text e h
    (λ s read questions asked tried. ends_as_question size text e s questions tried)).2

pub decided_printed : (size : ℕ) (text : List ℕ) (e : Ending) → ending_status e ≡ 0 → IsTrialPrinted size text e
    → IsTrialPrinted size text ending.Decided
decided_printed size text ending.Printed zero h = absurd (of_question size text ending.Printed h)
decided_printed size text ending.Tabled zero h = absurd (of_question size text ending.Tabled h)
decided_printed size text ending.Inconsistent zero h = absurd (of_question size text ending.Inconsistent h)
decided_printed size text ending.Open zero h = absurd (of_question size text ending.Open h)
decided_printed size text ending.Decided zero h = h
decided_printed size text ending.Denied zero h = absurd (of_question size text ending.Denied h)
decided_printed size text ending.Undecided zero h = absurd (omega (arith, zero))

spent_of : (size : ℕ) (text : List ℕ) (s : Spec) (questions : List Question) → IsTrialPrinted size text ending.Undecided
    → IsSpecRead (documents size) (codes "spec") (Ok s) → AreQuestionsRead (documents size) s.relations (Ok questions)
    → AreTried size s questions (Ok (printed_as text ending.Undecided)) → IsTrialSpent size text
spent_of size text s questions told read asked (inl h) =
    absurd (not_both (same_end text _ ending.Undecided ending.Decided h.is_text))
spent_of size text s questions told read asked (inr (inl h)) = record {
  printed = told;
  spec = s;
  spec_read = read;
  questions = questions;
  questions_read = asked;
  spent = h;
  short = short s h.question trial_budget h.report h.answer h.undecided;
}
spent_of size text s questions told read asked (inr (inr h)) = absurd (done_apart (printed_as text ending.Undecided)
    (trouble.Limit 3) h.is_limit)

pub spent_printed : (size : ℕ) (text : List ℕ) (e : Ending) → ending_status e ≡ 3 → IsTrialPrinted size text e
    → IsTrialSpent size text
spent_printed size text ending.Printed three h = absurd (of_question size text ending.Printed h)
spent_printed size text ending.Tabled three h = absurd (of_question size text ending.Tabled h)
spent_printed size text ending.Inconsistent three h = absurd (of_question size text ending.Inconsistent h)
spent_printed size text ending.Open three h = absurd (of_question size text ending.Open h)
spent_printed size text ending.Decided three h = absurd (omega (arith, three))
spent_printed size text ending.Denied three h = absurd (of_question size text ending.Denied h)
spent_printed size text ending.Undecided three h =
    (of_printed size (λ s. IsTrialSpent size text) text ending.Undecided h
    (λ s read questions asked tried. spent_of size text s questions h read asked tried)).2
