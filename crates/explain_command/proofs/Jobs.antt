-- What `explain` told, by the status it ended with.
use Rattle.std.proofs.Common.{◌≡◌, ℕ, List, Ok, ap, arith, subst, sym}
use Rattle.command_stages.proofs.Outcomes.{done_apart, same_done}
use Rattle.command_stages.specs.Endings.{IsOfQuestion, ending_status}
use Rattle.command_stages.specs.declared.done.Done.{Done}
use Rattle.command_stages.specs.declared.done.Ending.{Ending}
use Rattle.command_stages.specs.declared.done.Ending.TheVariants as ending
use Rattle.command_stages.specs.declared.trouble.Trouble.TheVariants as trouble
use Rattle.core_explain.specs.declared.explaining.Explained.{Explained}
use Rattle.core_explain.specs.declared.explaining.Explained.TheVariants as explained
use Rattle.explain_command.specs.Explained.{IsExplainPrinted}
use Rattle.explain_command.specs.Text.{decided, explained_done, undecided}
use Rattle.program_words.specs.Words.{ExplainSaid}
use Rattle.spec_model.specs.Spec.{Spec}

-- what is decided, or not, ends as a question does
decided_ends : (a text : List ℕ) (e : Ending) → decided a ≡ Ok (record { text = text; ending = e }) → IsOfQuestion e
decided_ends a text e is = subst IsOfQuestion
    (ap (λ (d : Done). d.ending)
    (same_done (record { text = a; ending = ending.Decided }) (record { text = text; ending = e }) is)) tt

undecided_ends : (a text : List ℕ) (e : Ending) → undecided a ≡ Ok (record { text = text; ending = e }) → IsOfQuestion e
undecided_ends a text e is = subst IsOfQuestion
    (ap (λ (d : Done). d.ending)
    (same_done (record { text = a; ending = ending.Undecided }) (record { text = text; ending = e }) is)) tt

done_ends : (s : Spec) (n : ℕ) (x : Explained) (text : List ℕ) (e : Ending)
    → explained_done s n x ≡ Ok (record { text = text; ending = e }) → IsOfQuestion e
done_ends s n (explained.Inconsistent needed) text e is = decided_ends _ text e is
done_ends s n (explained.Unit needed) text e is = decided_ends _ text e is
done_ends s n (explained.NoUnit report) text e is = decided_ends _ text e is
done_ends s n (explained.TooMany c) text e is =
    absurd (done_apart (record { text = text; ending = e }) (trouble.Limit 3) (sym is))
done_ends s n (explained.Undecided report) text e is = undecided_ends _ text e is
done_ends s n (explained.Open spent) text e is = undecided_ends _ text e is

-- an explanation ends as a question does
pub of_question : (documents : List (List ℕ × List ℕ)) (x : ExplainSaid) (text : List ℕ) (e : Ending)
    → IsExplainPrinted documents x text e → IsOfQuestion e
of_question documents x text e h = done_ends h.spec x.unit h.explained text e h.done

pub decided_printed : (documents : List (List ℕ × List ℕ)) (e : ExplainSaid) (text : List ℕ) (end : Ending)
    → ending_status end ≡ 0 → IsExplainPrinted documents e text end → IsExplainPrinted documents e text ending.Decided
decided_printed documents e text ending.Printed zero h = absurd (of_question documents e text ending.Printed h)
decided_printed documents e text ending.Tabled zero h = absurd (of_question documents e text ending.Tabled h)
decided_printed documents e text ending.Inconsistent zero h = absurd (of_question documents e text ending.Inconsistent h)
decided_printed documents e text ending.Open zero h = absurd (of_question documents e text ending.Open h)
decided_printed documents e text ending.Decided zero h = h
decided_printed documents e text ending.Denied zero h = absurd (of_question documents e text ending.Denied h)
decided_printed documents e text ending.Undecided zero h = absurd (omega (arith, zero))

pub spent_printed : (documents : List (List ℕ × List ℕ)) (e : ExplainSaid) (text : List ℕ) (end : Ending)
    → ending_status end ≡ 3 → IsExplainPrinted documents e text end → IsExplainPrinted documents e text ending.Undecided
spent_printed documents e text ending.Printed three h = absurd (of_question documents e text ending.Printed h)
spent_printed documents e text ending.Tabled three h = absurd (of_question documents e text ending.Tabled h)
spent_printed documents e text ending.Inconsistent three h = absurd (of_question documents e text ending.Inconsistent h)
spent_printed documents e text ending.Open three h = absurd (of_question documents e text ending.Open h)
spent_printed documents e text ending.Decided three h = absurd (omega (arith, three))
spent_printed documents e text ending.Denied three h = absurd (of_question documents e text ending.Denied h)
spent_printed documents e text ending.Undecided three h = h
