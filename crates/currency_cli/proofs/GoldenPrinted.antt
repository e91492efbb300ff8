-- What `golden` printed, by the status it ended with.
use Rattle.std.proofs.Common.{◌≡◌, ℕ, List, ap, arith, subst, sym}
use Rattle.command_stages.proofs.Outcomes.{same_done}
use Rattle.command_stages.specs.Endings.{IsOfTable, ending_status}
use Rattle.command_stages.specs.declared.done.Done.{Done}
use Rattle.command_stages.specs.declared.done.Ending.{Ending}
use Rattle.command_stages.specs.declared.done.Ending.TheVariants as ending
use Rattle.golden_command.specs.Asked.{column_in}
use Rattle.golden_command.specs.Golden.{IsGoldenPrinted}
use Rattle.golden_command.specs.Text.{golden_done}
use Rattle.golden_command.specs.Found.{Golden, Records, Inconsistent, Undecided}
use Rattle.program_words.specs.Words.{GoldenSaid}
use Rattle.spec_model.specs.Spec.{Spec}
use Rattle.spec_model.specs.declared.relation.Relation.{Relation}

ends_as_table : (s : Spec) (column : List ℕ) (r : Relation) (found : Golden) → IsOfTable (golden_done s column r found).ending
ends_as_table s column r (Records table) = tt
ends_as_table s column r Inconsistent = tt
ends_as_table s column r (Undecided p report) = tt

pub of_table : (told : List (List ℕ × List ℕ)) (g : GoldenSaid) (text : List ℕ) (e : Ending) → IsGoldenPrinted told g text e
    → IsOfTable e
of_table told g text e h =
    subst IsOfTable (sym (ap (λ (d : Done). d.ending) (same_done (record { text = text; ending = e }) _ h.golden.comes)))
    (ends_as_table h.spec (column_in h.tree.statements h.golden.relation.name) h.golden.relation h.golden.found)

pub tabled_printed : (told : List (List ℕ × List ℕ)) (g : GoldenSaid) (text : List ℕ) (e : Ending) → ending_status e ≡ 0
    → IsGoldenPrinted told g text e → IsGoldenPrinted told g text ending.Tabled
tabled_printed told g text ending.Tabled zero h = h
tabled_printed told g text ending.Inconsistent zero h = absurd (omega (arith, zero))
tabled_printed told g text ending.Open zero h = absurd (omega (arith, zero))
tabled_printed told g text ending.Printed zero h = absurd (of_table told g text ending.Printed h)
tabled_printed told g text ending.Decided zero h = absurd (of_table told g text ending.Decided h)
tabled_printed told g text ending.Denied zero h = absurd (of_table told g text ending.Denied h)
tabled_printed told g text ending.Undecided zero h = absurd (of_table told g text ending.Undecided h)

pub open_printed : (told : List (List ℕ × List ℕ)) (g : GoldenSaid) (text : List ℕ) (e : Ending) → ending_status e ≡ 3
    → IsGoldenPrinted told g text e → IsGoldenPrinted told g text ending.Open
open_printed told g text ending.Open three h = h
open_printed told g text ending.Inconsistent three h = absurd (omega (arith, three))
open_printed told g text ending.Tabled three h = absurd (omega (arith, three))
open_printed told g text ending.Printed three h = absurd (of_table told g text ending.Printed h)
open_printed told g text ending.Decided three h = absurd (of_table told g text ending.Decided h)
open_printed told g text ending.Denied three h = absurd (of_table told g text ending.Denied h)
open_printed told g text ending.Undecided three h = absurd (of_table told g text ending.Undecided h)

pub bare_printed : (told : List (List ℕ × List ℕ)) (g : GoldenSaid) (text : List ℕ) (e : Ending) → ending_status e ≡ 10
    → IsGoldenPrinted told g text e → IsGoldenPrinted told g text ending.Inconsistent
bare_printed told g text ending.Inconsistent ten h = h
bare_printed told g text ending.Open ten h = absurd (omega (arith, ten))
bare_printed told g text ending.Tabled ten h = absurd (omega (arith, ten))
bare_printed told g text ending.Printed ten h = absurd (of_table told g text ending.Printed h)
bare_printed told g text ending.Decided ten h = absurd (of_table told g text ending.Decided h)
bare_printed told g text ending.Denied ten h = absurd (of_table told g text ending.Denied h)
bare_printed told g text ending.Undecided ten h = absurd (of_table told g text ending.Undecided h)
