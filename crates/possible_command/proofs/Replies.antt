-- What is due where it is asked what may hold differs in no more than what is found, and how it ends.
use Rattle.std.proofs.Common.{◌≡◌, ◌⊎◌, ◌∙◌, ℕ, Bool, true, false, List, MatchResult, Result, Ok, Err, Some, ap, arith, inl}
use Rattle.std.proofs.Common.{inr, slice_get, subst, sym}
use Rattle.std.proofs.lemmas.Option.{get_or_from_slice_get, slice_get_within}
use Rattle.command_stages.proofs.OneRead.{IsOne}
use Rattle.command_stages.proofs.Outcomes.{IsLike, answers_alike, same_alike, then_like}
use Rattle.command_stages.specs.Alike.{AreAlike}
use Rattle.command_stages.specs.Endings.{IsOfQuestion, ending_status}
use Rattle.command_stages.specs.Outcomes.{status_of}
use Rattle.command_stages.specs.Stages.{Then, IsSpecRead, IsQuestionRead}
use Rattle.command_stages.specs.declared.done.Done.{Done}
use Rattle.command_stages.specs.declared.done.Ending.{Ending}
use Rattle.command_stages.specs.declared.done.Ending.TheVariants as ending
use Rattle.command_stages.specs.declared.trouble.Trouble.{Trouble}
use Rattle.command_stages.specs.declared.trouble.Trouble.TheVariants as trouble
use Rattle.match_candidates.specs.Matches.{IsMatch}
use Rattle.possible_values.specs.Candidates.{AreCandidates, HasTooManyCandidates}
use Rattle.possible_values.specs.Possible.{HasFewCandidates, IsPossible}
use Rattle.possible_values.specs.declared.candidates.Candidate.{Candidate}
use Rattle.possible_values.specs.declared.found.Found.{Found}
use Rattle.possible_values.specs.declared.found.Possible.{Possible}
use Rattle.possible_values.specs.declared.found.Possible.TheVariants as possible
use Rattle.program_words.specs.Words.{PossibleSaid}
use Rattle.query_model.specs.declared.query.Match.{Match}
use Rattle.spec_model.specs.Spec.{Spec}
use Rattle.spec_model.specs.declared.question.Question.{Question}
use Rattle.spec_model.specs.declared.question.Question.TheVariants as asked
use Rattle.spec_model.specs.declared.relation.Relation.{Relation}
use Rattle.possible_command.specs.Possible.{ArePrinted, ComesOf, IsPossibleDue, IsPossibleOf}
use Rattle.possible_values.proofs.Few.{few_or_many}

abbrev OneSpec : Type 0
OneSpec = (told : List (List ℕ × List ℕ)) (name : List ℕ) → IsOne (IsSpecRead told name)

abbrev OneQuestion : Type 0
OneQuestion = (told : List (List ℕ × List ℕ)) (relations : List Relation) (name : List ℕ)
    → IsOne (IsQuestionRead told relations name)

-- ---- what it comes to

-- an answer to a question whose candidates can be listed, or that they are too many
abbrev pub IsAnswerOrLimit : Spec → Question → Result Done Trouble → Type 0
IsAnswerOrLimit s q outcome =
    (((d : Done) × IsOfQuestion d.ending × (outcome ≡ Ok d)) × HasFewCandidates s q)
    ⊎ ((outcome ≡ Err (trouble.Limit 13)) × HasTooManyCandidates s.relations q)

found_printed : (s : Spec) (budget : ℕ) (brief : Bool) (f : Found) (outcome : Result Done Trouble)
    → ArePrinted s brief budget f outcome → (d : Done) × IsOfQuestion d.ending × (outcome ≡ Ok d)
found_printed s budget true f outcome told = (_, tt, told)
found_printed s budget false f outcome (inl told) = (_, tt, told.comes)
found_printed s budget false f outcome (inr left) = (_, tt, left.comes)

either : (s : Spec) (q : Question) (budget : ℕ) (brief : Bool) (x : Possible) (outcome : Result Done Trouble)
    → IsPossible s q budget x → ComesOf s brief budget x outcome → IsAnswerOrLimit s q outcome
either s q budget brief (possible.Inconsistent report) outcome is comes = inl ((_, tt, comes), is.0)
either s q budget brief (possible.Found f) outcome is comes =
    inl (found_printed s budget brief f outcome comes, (f.candidates, is.candidates))
either s q budget brief (possible.Undecided p report) outcome is comes = inl ((_, tt, comes), is.0)
either s q budget brief possible.TooMany outcome is comes = inr (comes, is)

pub answer_or_limit : (s : Spec) (a : PossibleSaid) (q : Question) (outcome : Result Done Trouble)
    → IsPossibleOf s a q outcome → IsAnswerOrLimit s q outcome
answer_or_limit s a q outcome h = either s q a.budget a.brief h.0 outcome h.1 h.2

-- ---- it is alike

apart : (s : Spec) (q : Question) → HasFewCandidates s q → HasTooManyCandidates s.relations q → ⊥
apart s q few many = few_or_many s.relations q few.0 few.1 many

alike : (s : Spec) (q : Question) (a b : Result Done Trouble) → IsAnswerOrLimit s q a → IsAnswerOrLimit s q b → AreAlike a b
alike s q a b (inl h) (inl k) = answers_alike h.0.0 k.0.0 a b h.0.1 k.0.1 h.0.2 k.0.2
alike s q a b (inl h) (inr k) = absurd (apart s q h.1 k.1)
alike s q a b (inr h) (inl k) = absurd (apart s q k.1 h.1)
alike s q a b (inr h) (inr k) = same_alike a b (h.0 ∙ sym k.0)

pub outcomes_like : (s : Spec) (a : PossibleSaid) (q : Question) → IsLike (IsPossibleOf s a q)
outcomes_like s a q x y h k = alike s q x y (answer_or_limit s a q x h) (answer_or_limit s a q y k)

-- the same once the documents are read, each of which has one reading
pub possible_like : OneSpec → OneQuestion → (told : List (List ℕ × List ℕ)) (a : PossibleSaid) → IsLike (IsPossibleDue told a)
possible_like one_spec one_question told a =
    then_like (IsSpecRead told a.spec) _ (one_spec told a.spec) (λ s.
    then_like (IsQuestionRead told s.relations a.question) (IsPossibleOf s a)
    (one_question told s.relations a.question) (outcomes_like s a))

-- ---- both are read, so what may hold is due

asked_at : OneQuestion → (told : List (List ℕ × List ℕ)) (a : PossibleSaid) (s : Spec) (q : Question) (got : Result Done Trouble)
    → IsQuestionRead told s.relations a.question (Ok q) → Then (IsQuestionRead told s.relations a.question)
    (IsPossibleOf s a) got → IsPossibleOf s a q got
asked_at one told a s q got read h =
    subst (λ (r : Result Question Trouble). MatchResult r (λ x. IsPossibleOf s a x got) (λ x. got ≡ Err x))
    (one told s.relations a.question h.0 (Ok q) h.1 read) h.2

pub possible_due : OneSpec → OneQuestion → (told : List (List ℕ × List ℕ)) (a : PossibleSaid) (s : Spec) (q : Question)
    (got : Result Done Trouble)
    → IsSpecRead told a.spec (Ok s) → IsQuestionRead told s.relations a.question (Ok q) → IsPossibleDue told a got
    → IsPossibleOf s a q got
possible_due one_spec one_question told a s q got spec question h =
    asked_at one_question told a s q got question
    (subst (λ (r : Result Spec Trouble). MatchResult r (λ x. Then (IsQuestionRead told x.relations a.question)
    (IsPossibleOf x a) got) (λ x. got ≡ Err x))
    (one_spec told a.spec h.0 (Ok s) h.1 spec) h.2)

-- ---- its status

-- decided, or not; or the candidates are too many
abbrev pub ComesToPossible : Spec → Question → ℕ → Type 0
ComesToPossible s q status = (status ≡ 0) ⊎ ((status ≡ 3) ⊎ ((status ≡ 6) × HasTooManyCandidates s.relations q))

question_status : (s : Spec) (q : Question) (e : Ending) (status : ℕ) → IsOfQuestion e → status ≡ ending_status e
    → ComesToPossible s q status
question_status s q ending.Printed status of is = absurd of
question_status s q ending.Decided status of is = inl is
question_status s q ending.Denied status of is = absurd of
question_status s q ending.Undecided status of is = inr (inl is)
question_status s q ending.Tabled status of is = absurd of
question_status s q ending.Inconsistent status of is = absurd of
question_status s q ending.Open status of is = absurd of

comes_at : (s : Spec) (q : Question) (got : Result Done Trouble) (status : ℕ) → IsAnswerOrLimit s q got
    → status ≡ status_of got → ComesToPossible s q status
comes_at s q got status (inl h) is =
    question_status s q h.0.0.ending status h.0.1 (is ∙ ap (λ (o : Result Done Trouble). status_of o) h.0.2)
comes_at s q got status (inr h) is = inr (inr (is ∙ ap (λ (o : Result Done Trouble). status_of o) h.0, h.1))

pub possible_comes : (s : Spec) (a : PossibleSaid) (q : Question) (got : Result Done Trouble) (status : ℕ)
    → IsPossibleOf s a q got → status ≡ status_of got → ComesToPossible s q status
possible_comes s a q got status h is = comes_at s q got status (answer_or_limit s a q got h) is
