-- What `conflicts` told, by the status it ended with.
use Rattle.std.proofs.Common.{◌≡◌, ℕ, List, ap, arith, subst}
use Rattle.command_stages.specs.Endings.{IsOfQuestion, ending_status}
use Rattle.command_stages.specs.declared.done.Done.{Done}
use Rattle.command_stages.specs.declared.done.Ending.{Ending}
use Rattle.command_stages.specs.declared.done.Ending.TheVariants as ending
use Rattle.conflicts_command.specs.Found.{AreConflictsPrinted}
use Rattle.conflicts_command.specs.Text.{conflicts_ending}
use Rattle.part_conflicts.specs.declared.found.Found.{Found}
use Rattle.part_conflicts.specs.declared.found.Found.TheVariants as found
use Rattle.program_words.specs.Words.{ConflictsSaid}

ends_as_question : (f : Found) → IsOfQuestion (conflicts_ending f)
ends_as_question (found.All list) = tt
ends_as_question (found.Undecided part report) = tt
ends_as_question (found.Open part spent) = tt

-- what is told of conflicts ends as a question does
pub of_question : (told : List (List ℕ × List ℕ)) (c : ConflictsSaid) (text : List ℕ) (e : Ending)
    → AreConflictsPrinted told c text e → IsOfQuestion e
of_question told c text e h = subst IsOfQuestion (ap (λ (d : Done). d.ending) h.done) (ends_as_question h.found)

pub decided_printed : (told : List (List ℕ × List ℕ)) (c : ConflictsSaid) (text : List ℕ) (end : Ending) → ending_status end ≡ 0
    → AreConflictsPrinted told c text end → AreConflictsPrinted told c text ending.Decided
decided_printed told c text ending.Printed zero h = absurd (of_question told c text ending.Printed h)
decided_printed told c text ending.Tabled zero h = absurd (of_question told c text ending.Tabled h)
decided_printed told c text ending.Inconsistent zero h = absurd (of_question told c text ending.Inconsistent h)
decided_printed told c text ending.Open zero h = absurd (of_question told c text ending.Open h)
decided_printed told c text ending.Decided zero h = h
decided_printed told c text ending.Denied zero h = absurd (of_question told c text ending.Denied h)
decided_printed told c text ending.Undecided zero h = absurd (omega (arith, zero))

pub spent_printed : (told : List (List ℕ × List ℕ)) (c : ConflictsSaid) (text : List ℕ) (end : Ending) → ending_status end ≡ 3
    → AreConflictsPrinted told c text end → AreConflictsPrinted told c text ending.Undecided
spent_printed told c text ending.Printed three h = absurd (of_question told c text ending.Printed h)
spent_printed told c text ending.Tabled three h = absurd (of_question told c text ending.Tabled h)
spent_printed told c text ending.Inconsistent three h = absurd (of_question told c text ending.Inconsistent h)
spent_printed told c text ending.Open three h = absurd (of_question told c text ending.Open h)
spent_printed told c text ending.Decided three h = absurd (omega (arith, three))
spent_printed told c text ending.Denied three h = absurd (of_question told c text ending.Denied h)
spent_printed told c text ending.Undecided three h = h
