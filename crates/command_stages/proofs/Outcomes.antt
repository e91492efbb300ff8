-- Outcomes that are alike, and what each says.
use Rattle.std.proofs.Common.{◌≡◌, ◌≢◌, ◌∙◌, Bool, true, false, IfErr, MatchResult, Result, Ok, Err, inl, inr, refl, sym, subst}
use Rattle.command_stages.specs.Alike.{AreAlike, EndAlike}
use Rattle.command_stages.specs.Endings.{IsOfAnswers, IsOfQuestion, IsOfTable, ending_of}
use Rattle.command_stages.specs.Named.{IsReadFault}
use Rattle.command_stages.specs.Stages.{Then}
use Rattle.command_stages.specs.declared.done.Done.{Done}
use Rattle.command_stages.specs.declared.done.Ending.{Ending}
use Rattle.command_stages.specs.declared.done.Ending.TheVariants as ending
use Rattle.command_stages.specs.declared.trouble.Trouble.{Trouble}
use Rattle.command_stages.specs.declared.trouble.Trouble.TheVariants as trouble
use Rattle.command_stages.proofs.OneRead.{IsOne}

pub same_done : (a b : Done) → ◌≡◌ {A = Result Done Trouble} (Ok a) (Ok b) → a ≡ b
same_done a b e = cc

pub done_apart : (d : Done) (e : Trouble) → ◌≡◌ {A = Result Done Trouble} (Ok d) (Err e) → ⊥
done_apart d e same = cc

-- ---- alike

end_alike : (e : Ending) → EndAlike e e
end_alike ending.Printed = refl
end_alike ending.Decided = tt
end_alike ending.Denied = tt
end_alike ending.Undecided = inl tt
end_alike ending.Tabled = tt
end_alike ending.Inconsistent = tt
end_alike ending.Open = tt

pub same_alike : (a b : Result Done Trouble) → a ≡ b → AreAlike a b
same_alike a b same = subst (AreAlike a) same (self a)
  where
    self : (o : Result Done Trouble) → AreAlike o o
    self (Ok d) = end_alike d.ending
    self (Err e) = refl

pub is_of_question : (decided : Bool) → IsOfQuestion (ending_of decided)
is_of_question true = tt
is_of_question false = tt

questions_end_alike : (d e : Ending) → IsOfQuestion d → IsOfQuestion e → EndAlike d e
questions_end_alike ending.Printed e h k = absurd h
questions_end_alike ending.Decided e h k = k
questions_end_alike ending.Denied e h k = absurd h
questions_end_alike ending.Undecided e h k = inl k
questions_end_alike ending.Tabled e h k = absurd h
questions_end_alike ending.Inconsistent e h k = absurd h
questions_end_alike ending.Open e h k = absurd h

tables_end_alike : (d e : Ending) → IsOfTable d → IsOfTable e → EndAlike d e
tables_end_alike ending.Printed e h k = absurd h
tables_end_alike ending.Decided e h k = absurd h
tables_end_alike ending.Denied e h k = absurd h
tables_end_alike ending.Undecided e h k = absurd h
tables_end_alike ending.Tabled e h k = k
tables_end_alike ending.Inconsistent e h k = k
tables_end_alike ending.Open e h k = k

-- what is done ends alike
pub done_alike : (d e : Done) (a b : Result Done Trouble) → EndAlike d.ending e.ending → a ≡ Ok d → b ≡ Ok e → AreAlike a b
done_alike d e a b alike h k =
    subst (λ (o : Result Done Trouble). AreAlike o b) (sym h)
    (subst (λ (o : Result Done Trouble). AreAlike (Ok d) o) (sym k) alike)

-- two answers
pub answers_alike : (d e : Done) (a b : Result Done Trouble) → IsOfQuestion d.ending → IsOfQuestion e.ending
    → a ≡ Ok d → b ≡ Ok e → AreAlike a b
answers_alike d e a b first second = done_alike d e a b (questions_end_alike d.ending e.ending first second)

-- two tables
pub tables_alike : (d e : Done) (a b : Result Done Trouble) → IsOfTable d.ending → IsOfTable e.ending
    → a ≡ Ok d → b ≡ Ok e → AreAlike a b
tables_alike d e a b first second = done_alike d e a b (tables_end_alike d.ending e.ending first second)

-- a question looks for answers
pub of_answers : (e : Ending) → IsOfQuestion e → IsOfAnswers e
of_answers ending.Printed h = h
of_answers ending.Decided h = h
of_answers ending.Denied h = h
of_answers ending.Undecided h = h
of_answers ending.Tabled h = absurd h
of_answers ending.Inconsistent h = h
of_answers ending.Open h = absurd h

-- an answer, and that there are too many
pub answer_or_limit : (d : Done) (a b : Result Done Trouble) → IsOfAnswers d.ending → a ≡ Ok d
    → b ≡ Err (trouble.Limit 3) → AreAlike a b
answer_or_limit d a b of h k =
    subst (λ (o : Result Done Trouble). AreAlike o b) (sym h)
    (subst (λ (o : Result Done Trouble). AreAlike (Ok d) o) (sym k) (of, refl))

pub limit_or_answer : (d : Done) (a b : Result Done Trouble) → IsOfAnswers d.ending → a ≡ Err (trouble.Limit 3)
    → b ≡ Ok d → AreAlike a b
limit_or_answer d a b of h k =
    subst (λ (o : Result Done Trouble). AreAlike o b) (sym h)
    (subst (λ (o : Result Done Trouble). AreAlike (Err (trouble.Limit 3)) o) (sym k) (of, refl))

-- ---- stages whose outcomes are alike

abbrev pub IsLike : (Result Done Trouble → Type 0) → Type 0
IsLike stage = (a b : Result Done Trouble) → stage a → stage b → AreAlike a b

like_at : {A : Type 0} (next : A → Result Done Trouble → Type 0) → ((x : A) → IsLike (next x)) →
    (r : Result A Trouble) (a b : Result Done Trouble)
    → MatchResult r (λ x. next x a) (λ e. a ≡ Err e) → MatchResult r (λ x. next x b) (λ e. b ≡ Err e) → AreAlike a b
like_at next like (Ok x) a b h k = like x a b h k
like_at next like (Err e) a b h k = same_alike a b (h ∙ sym k)

pub then_like : {A : Type 0} (first : Result A Trouble → Type 0) (next : A → Result Done Trouble → Type 0)
    → IsOne first → ((x : A) → IsLike (next x)) → IsLike (Then first next)
then_like {A} first next one like a b h k =
    let same = one h.0 k.0 h.1 k.1 in
    like_at next like h.0 a b h.2 (subst (λ (r : Result A Trouble). MatchResult r (λ x. next x b) (λ e. b ≡ Err e))
    (sym same) k.2)

-- ---- want of memory

-- it is no fault of the outside, and no fault of the words
pub is_no_fault : (outcome : Result Done Trouble) → IfErr outcome (λ e. e ≡ trouble.NoMemory) → IsReadFault outcome → ⊥
is_no_fault (Ok d) memory fault = fault
is_no_fault (Err e) memory fault = subst (λ (x : Trouble). IsReadFault {A = Done} (Err x)) memory fault

pub not_the_words : (outcome : Result Done Trouble) → IfErr outcome (λ e. e ≡ trouble.NoMemory) → IfErr outcome
    (λ e. e ≢ trouble.Words)
not_the_words (Ok d) memory = tt
not_the_words (Err e) memory = λ words. cc
