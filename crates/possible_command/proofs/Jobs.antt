-- What `possible` told, by the status it ended with.
use Rattle.std.proofs.Common.{◌≡◌, ℕ, List, Ok, ap, arith, inl, inr, subst, sym}
use Rattle.command_stages.proofs.Outcomes.{done_apart, same_done}
use Rattle.command_stages.specs.Endings.{IsOfQuestion, ending_status}
use Rattle.command_stages.specs.declared.done.Done.{Done}
use Rattle.command_stages.specs.declared.done.Ending.{Ending}
use Rattle.command_stages.specs.declared.done.Ending.TheVariants as ending
use Rattle.command_stages.specs.declared.trouble.Trouble.TheVariants as trouble
use Rattle.program_words.specs.Words.{PossibleSaid}
use Rattle.possible_command.specs.Possible.{IsPossiblePrinted}
use Rattle.spec_model.specs.Spec.{Spec}
use Rattle.spec_model.specs.declared.question.Question.{Question}
use Rattle.possible_command.proofs.Replies.{IsAnswerOrLimit, answer_or_limit}

-- what is an answer to a question, or that there are too many candidates, ends as a question does
ends_so : (s : Spec) (q : Question) (done : Done) → IsAnswerOrLimit s q (Ok done) → IsOfQuestion done.ending
ends_so s q done (inl h) = subst IsOfQuestion (sym (ap (λ (d : Done). d.ending) (same_done done h.0.0 h.0.2))) h.0.1
ends_so s q done (inr h) = absurd (done_apart done (trouble.Limit 13) h.0)

-- what may hold is told as a question is
pub of_question : (told : List (List ℕ × List ℕ)) (a : PossibleSaid) (text : List ℕ) (e : Ending)
    → IsPossiblePrinted told a text e → IsOfQuestion e
of_question told a text e h =
    ends_so h.spec h.question (record { text = text; ending = e }) (answer_or_limit h.spec a h.question _ h.possible)

pub decided_printed : (told : List (List ℕ × List ℕ)) (a : PossibleSaid) (text : List ℕ) (end : Ending)
    → ending_status end ≡ 0 → IsPossiblePrinted told a text end → IsPossiblePrinted told a text ending.Decided
decided_printed told a text ending.Printed zero h = absurd (of_question told a text ending.Printed h)
decided_printed told a text ending.Tabled zero h = absurd (of_question told a text ending.Tabled h)
decided_printed told a text ending.Inconsistent zero h = absurd (of_question told a text ending.Inconsistent h)
decided_printed told a text ending.Open zero h = absurd (of_question told a text ending.Open h)
decided_printed told a text ending.Decided zero h = h
decided_printed told a text ending.Denied zero h = absurd (of_question told a text ending.Denied h)
decided_printed told a text ending.Undecided zero h = absurd (omega (arith, zero))

pub spent_printed : (told : List (List ℕ × List ℕ)) (a : PossibleSaid) (text : List ℕ) (end : Ending)
    → ending_status end ≡ 3 → IsPossiblePrinted told a text end → IsPossiblePrinted told a text ending.Undecided
spent_printed told a text ending.Printed three h = absurd (of_question told a text ending.Printed h)
spent_printed told a text ending.Tabled three h = absurd (of_question told a text ending.Tabled h)
spent_printed told a text ending.Inconsistent three h = absurd (of_question told a text ending.Inconsistent h)
spent_printed told a text ending.Open three h = absurd (of_question told a text ending.Open h)
spent_printed told a text ending.Decided three h = absurd (omega (arith, three))
spent_printed told a text ending.Denied three h = absurd (of_question told a text ending.Denied h)
spent_printed told a text ending.Undecided three h = h
