-- Where the job is done, the sink got its text, and what is told is shown.
use Rattle.std.proofs.Common.{◌≡◌, ◌∙◌, ℕ, List, Option, Some, None, IfSome, Ok, Err, inl, inr, sym, ap, arith, subst}
use Rattle.std.specs.Io.KnownBytes.{Appends}
use Rattle.ask_command.proofs.Jobs as ask
use Rattle.command_stages.specs.Endings.{IsOfQuestion, IsOfTable, ending_status}
use Rattle.conflicts_command.proofs.Jobs as conflicts
use Rattle.explain_command.proofs.Jobs as explain
use Rattle.currency_cli.proofs.GoldenPrinted as golden
use Rattle.currency_cli.proofs.SessionsPrinted as sessions
use Rattle.certain_table.proofs.Jobs as certain_table
use Rattle.possible_command.proofs.Jobs as possible
use Rattle.possible_table.proofs.Jobs as possible_table
use Rattle.command_stages.specs.Texts.{trouble_status}
use Rattle.command_stages.specs.declared.done.Done.{Done}
use Rattle.command_stages.specs.declared.done.Ending.{Ending}
use Rattle.command_stages.specs.declared.done.Ending.TheVariants as ending
use Rattle.command_stages.specs.declared.trouble.Trouble.{Trouble}
use Rattle.command_stages.specs.declared.trouble.Trouble.TheVariants as trouble
use Rattle.currency_cli.specs.Ends.{EndsWith, IsBare, IsDenied, IsInconsistent, IsJobDone, IsDone, IsNo, IsSpent, IsUndecided}
use Rattle.command_stages.specs.Outcomes.{output_of, status_of}
use Rattle.currency_cli.specs.Printed.{IsPrinted, IsPrintedFor}
use Rattle.currency_edge.specs.Fault.{Rose}
use Rattle.currency_edge.specs.Sink.{AppendsPrefix}
use Rattle.forced_command.specs.Forced.{AreForcedListed}
use Rattle.program_words.specs.Words.{AskFor, CertainTableFor, CommandSaid, ConflictsIn, ExplainFor, ForcedOf, GoldenIn}
use Rattle.program_words.specs.Words.{PossibleFor, PossibleTableFor, SessionOver, TrialOf, VerifyOf}
use Rattle.trial_command.proofs.Replies as trial

-- ---- the text

-- the whole text where the status is neither 8 nor 9
written : (old new : Option (List ℕ)) (wb wn : ℕ) (d : Done) (status : ℕ) → EndsWith old new wb wn (Ok d) status
    → (status ≡ 8 → ⊥) → (status ≡ 9 → ⊥) → (status ≡ status_of (Ok d)) × Appends old new (output_of (Ok d))
written old new wb wn d status (inl h) eight nine = h
written old new wb wn d status (inr (inl h)) eight nine = absurd (eight h.0)
written old new wb wn d status (inr (inr h)) eight nine = absurd (nine h.0)

not_at : (status k j : ℕ) → status ≡ k → (k ≡ j → ⊥) → status ≡ j → ⊥
not_at status k j is other at = other (sym is ∙ at)

-- the status of what is done is no 8
done_not_eight : (d : Done) → status_of (Ok d) ≡ 8 → ⊥
done_not_eight d h = by d.ending h
  where
    by : (e : Ending) → ending_status e ≡ 8 → ⊥
    by ending.Printed h = omega (arith, h)
    by ending.Decided h = omega (arith, h)
    by ending.Denied h = omega (arith, h)
    by ending.Undecided h = omega (arith, h)
    by ending.Tabled h = omega (arith, h)
    by ending.Inconsistent h = omega (arith, h)
    by ending.Open h = omega (arith, h)

-- a prefix of it where the status is 8
pub prefix_written : (old new : Option (List ℕ)) (wb wn : ℕ) (d : Done) (status : ℕ) → EndsWith old new wb wn (Ok d) status
    → status ≡ 8 → AppendsPrefix old new (output_of (Ok d))
prefix_written old new wb wn d status (inl h) eight = absurd (done_not_eight d (sym h.0 ∙ eight))
prefix_written old new wb wn d status (inr (inl h)) eight = h.2
prefix_written old new wb wn d status (inr (inr h)) eight = absurd (omega (arith, h.0, eight))

-- nothing is done with a status of 7, and 8 only where the sink failed
done_not_seven : (d : Done) → status_of (Ok d) ≡ 7 → ⊥
done_not_seven d h = by d.ending h
  where
    by : (e : Ending) → ending_status e ≡ 7 → ⊥
    by ending.Printed h = omega (arith, h)
    by ending.Decided h = omega (arith, h)
    by ending.Denied h = omega (arith, h)
    by ending.Undecided h = omega (arith, h)
    by ending.Tabled h = omega (arith, h)
    by ending.Inconsistent h = omega (arith, h)
    by ending.Open h = omega (arith, h)

pub done_reads : (old new : Option (List ℕ)) (wb wn : ℕ) (d : Done) (status : ℕ) → EndsWith old new wb wn
    (Ok d) status → status ≡ 7 → ⊥
done_reads old new wb wn d status (inl h) seven = done_not_seven d (sym h.0 ∙ seven)
done_reads old new wb wn d status (inr (inl h)) seven = omega (arith, h.0, seven)
done_reads old new wb wn d status (inr (inr h)) seven = omega (arith, h.0, seven)

pub sink_failed : (old new : Option (List ℕ)) (wb wn : ℕ) (d : Done) (status : ℕ) → EndsWith old new wb wn
    (Ok d) status → status ≡ 8 → Rose wb wn
sink_failed old new wb wn d status (inl h) eight = absurd (done_not_eight d (sym h.0 ∙ eight))
sink_failed old new wb wn d status (inr (inl h)) eight = h.1
sink_failed old new wb wn d status (inr (inr h)) eight = absurd (omega (arith, h.0, eight))

-- a refusal has another status than 0, 1, 3, 8 and 10
no_zero : (e : Trouble) → trouble_status e ≡ 0 → ⊥
no_zero trouble.Words h = omega (arith, h)
no_zero (trouble.Unshown c d l) h = omega (arith, h)
no_zero (trouble.Refused c d l) h = omega (arith, h)
no_zero (trouble.CopyDiffers d l t s) h = omega (arith, h)
no_zero (trouble.Limit k) h = omega (arith, h)
no_zero (trouble.ReadFault name) h = omega (arith, h)
no_zero trouble.NoMemory h = omega (arith, h)

no_one : (e : Trouble) → trouble_status e ≡ 1 → ⊥
no_one trouble.Words h = omega (arith, h)
no_one (trouble.Unshown c d l) h = omega (arith, h)
no_one (trouble.Refused c d l) h = omega (arith, h)
no_one (trouble.CopyDiffers d l t s) h = omega (arith, h)
no_one (trouble.Limit k) h = omega (arith, h)
no_one (trouble.ReadFault name) h = omega (arith, h)
no_one trouble.NoMemory h = omega (arith, h)

no_three : (e : Trouble) → trouble_status e ≡ 3 → ⊥
no_three trouble.Words h = omega (arith, h)
no_three (trouble.Unshown c d l) h = omega (arith, h)
no_three (trouble.Refused c d l) h = omega (arith, h)
no_three (trouble.CopyDiffers d l t s) h = omega (arith, h)
no_three (trouble.Limit k) h = omega (arith, h)
no_three (trouble.ReadFault name) h = omega (arith, h)
no_three trouble.NoMemory h = omega (arith, h)

no_ten : (e : Trouble) → trouble_status e ≡ 10 → ⊥
no_ten trouble.Words h = omega (arith, h)
no_ten (trouble.Unshown c d l) h = omega (arith, h)
no_ten (trouble.Refused c d l) h = omega (arith, h)
no_ten (trouble.CopyDiffers d l t s) h = omega (arith, h)
no_ten (trouble.Limit k) h = omega (arith, h)
no_ten (trouble.ReadFault name) h = omega (arith, h)
no_ten trouble.NoMemory h = omega (arith, h)

no_eight : (e : Trouble) → trouble_status e ≡ 8 → ⊥
no_eight trouble.Words h = omega (arith, h)
no_eight (trouble.Unshown c d l) h = omega (arith, h)
no_eight (trouble.Refused c d l) h = omega (arith, h)
no_eight (trouble.CopyDiffers d l t s) h = omega (arith, h)
no_eight (trouble.Limit k) h = omega (arith, h)
no_eight (trouble.ReadFault name) h = omega (arith, h)
no_eight trouble.NoMemory h = omega (arith, h)

refusal_not : (old new : Option (List ℕ)) (wb wn : ℕ) (e : Trouble) (status k : ℕ) → EndsWith old new wb wn (Err e) status
    → (trouble_status e ≡ k → ⊥) → (9 ≡ k → ⊥) → status ≡ k → ⊥
refusal_not old new wb wn e status k (inl h) other nine is = other (sym h.0 ∙ is)
refusal_not old new wb wn e status k (inr (inl h)) other nine is = other (sym h.0 ∙ is)
refusal_not old new wb wn e status k (inr (inr h)) other nine is = nine (sym h.0 ∙ is)

pub refusal_not_zero : (old new : Option (List ℕ)) (wb wn : ℕ) (e : Trouble) (status : ℕ) → EndsWith old new wb wn
    (Err e) status → status ≡ 0 → ⊥
refusal_not_zero old new wb wn e status ends = refusal_not old new wb wn e status 0 ends (no_zero e) (λ h. omega (arith, h))

pub refusal_not_one : (old new : Option (List ℕ)) (wb wn : ℕ) (e : Trouble) (status : ℕ) → EndsWith old new wb wn
    (Err e) status → status ≡ 1 → ⊥
refusal_not_one old new wb wn e status ends = refusal_not old new wb wn e status 1 ends (no_one e) (λ h. omega (arith, h))

pub refusal_not_three : (old new : Option (List ℕ)) (wb wn : ℕ) (e : Trouble) (status : ℕ) → EndsWith old new wb wn
    (Err e) status → status ≡ 3 → ⊥
refusal_not_three old new wb wn e status ends = refusal_not old new wb wn e status 3 ends (no_three e) (λ h. omega (arith, h))

pub refusal_not_ten : (old new : Option (List ℕ)) (wb wn : ℕ) (e : Trouble) (status : ℕ) → EndsWith old new wb wn
    (Err e) status → status ≡ 10 → ⊥
refusal_not_ten old new wb wn e status ends = refusal_not old new wb wn e status 10 ends (no_ten e) (λ h. omega (arith, h))

pub refusal_not_eight : (old new : Option (List ℕ)) (wb wn : ℕ) (e : Trouble) (status : ℕ) → EndsWith old new wb wn
    (Err e) status → status ≡ 8 → ⊥
refusal_not_eight old new wb wn e status ends = refusal_not old new wb wn e status 8 ends (no_eight e) (λ h. omega (arith, h))

-- ---- status 0

job_at : (told : List (List ℕ × List ℕ)) (c : CommandSaid) (d : Done) → status_of (Ok d) ≡ 0 → IsPrinted told c d
    → IsJobDone told c (output_of (Ok d))
job_at told (VerifyOf v) d zero h = (h.0, h.1, ap (λ (x : Done). x.text) h.2)
job_at told (AskFor a) d zero h = ask.decided_printed told a d.text d.ending zero h
job_at told (ForcedOf name) d zero h = subst (AreForcedListed told name) (sym (ap (λ (x : Done). x.text) h.2)) h.1
job_at told (TrialOf size) d zero h = trial.decided_printed size d.text d.ending zero h
job_at told (ExplainFor e) d zero h = explain.decided_printed told e d.text d.ending zero h
job_at told (ConflictsIn c) d zero h = conflicts.decided_printed told c d.text d.ending zero h
job_at told (GoldenIn g) d zero h = golden.tabled_printed told g d.text d.ending zero h
job_at told (PossibleFor p) d zero h = possible.decided_printed told p d.text d.ending zero h
job_at told (CertainTableFor t) d zero h = certain_table.tabled_printed told t d.text d.ending zero h
job_at told (PossibleTableFor t) d zero h = possible_table.tabled_printed told t d.text d.ending zero h
job_at told (SessionOver a) d zero h = sessions.decided_printed told a d.text d.ending zero h

job : (texts : Option (List (List ℕ × List ℕ))) (c : CommandSaid) (d : Done) → status_of (Ok d) ≡ 0 → IfSome texts
    (λ told. IsPrinted told c d)
    → IfSome texts (λ told. IsJobDone told c (output_of (Ok d)))
job None c d zero h = tt
job (Some told) c d zero h = job_at told c d zero h

pub is_done : (texts : Option (List (List ℕ × List ℕ))) (count : ℕ) (words : List (List ℕ))
    (old new : Option (List ℕ)) (wb wn : ℕ) (d : Done) (status : ℕ)
    → IsPrintedFor texts count words d → EndsWith old new wb wn (Ok d) status → status ≡ 0 → IsDone texts count words old new
is_done texts count words old new wb wn d status t ends zero =
    let ended : (status ≡ status_of (Ok d)) × Appends old new (output_of (Ok d)) =
    written old new wb wn d status ends (not_at status 0 8 zero (λ h. omega (arith, h)))
    (not_at status 0 9 zero (λ h. omega (arith, h))) in
    record {
      command = t.command;
      said = t.said;
      text = output_of (Ok d);
      done = job texts t.command d
          (sym ended.0 ∙ zero) t.printed;
      written = ended.1;
    }

-- ---- status 1

-- no other question, no table and nothing that is just told ends so
no_denial : (e : Ending) → IsOfQuestion e → ending_status e ≡ 1 → ⊥
no_denial ending.Printed of one = of
no_denial ending.Decided of one = omega (arith, one)
no_denial ending.Denied of one = of
no_denial ending.Undecided of one = omega (arith, one)
no_denial ending.Tabled of one = of
no_denial ending.Inconsistent of one = of
no_denial ending.Open of one = of

no_table_denies : (e : Ending) → IsOfTable e → ending_status e ≡ 1 → ⊥
no_table_denies ending.Printed of one = of
no_table_denies ending.Decided of one = of
no_table_denies ending.Denied of one = of
no_table_denies ending.Undecided of one = of
no_table_denies ending.Tabled of one = omega (arith, one)
no_table_denies ending.Inconsistent of one = omega (arith, one)
no_table_denies ending.Open of one = omega (arith, one)

no_at : (told : List (List ℕ × List ℕ)) (c : CommandSaid) (d : Done) → status_of (Ok d) ≡ 1 → IsPrinted told c d
    → IsNo told c (output_of (Ok d))
no_at told (AskFor a) d one h = ask.denied_printed told a d.text d.ending one h
no_at told (VerifyOf v) d one h = absurd (omega (arith, one, ap (λ (x : Done). ending_status x.ending) h.2))
no_at told (ForcedOf name) d one h = absurd (omega (arith, one, ap (λ (x : Done). ending_status x.ending) h.2))
no_at told (TrialOf size) d one h = absurd (no_denial d.ending (trial.of_question size d.text d.ending h) one)
no_at told (ExplainFor e) d one h = absurd (no_denial d.ending (explain.of_question told e d.text d.ending h) one)
no_at told (ConflictsIn c) d one h = absurd (no_denial d.ending (conflicts.of_question told c d.text d.ending h) one)
no_at told (GoldenIn g) d one h = absurd (no_table_denies d.ending (golden.of_table told g d.text d.ending h) one)
no_at told (PossibleFor p) d one h = absurd (no_denial d.ending (possible.of_question told p d.text d.ending h) one)
no_at told (CertainTableFor t) d one h =
    absurd (no_table_denies d.ending (certain_table.ends_as_table told t d.text d.ending h) one)
no_at told (PossibleTableFor t) d one h =
    absurd (no_table_denies d.ending (possible_table.of_table told t d.text d.ending h) one)
no_at told (SessionOver a) d one h = absurd (no_denial d.ending (sessions.of_question told a d.text d.ending h) one)

no_printed : (texts : Option (List (List ℕ × List ℕ))) (c : CommandSaid) (d : Done) → status_of (Ok d) ≡ 1
    → IfSome texts (λ told. IsPrinted told c d) → IfSome texts (λ told. IsNo told c (output_of (Ok d)))
no_printed None c d one h = tt
no_printed (Some told) c d one h = no_at told c d one h

pub is_denied : (texts : Option (List (List ℕ × List ℕ))) (count : ℕ) (words : List (List ℕ))
    (old new : Option (List ℕ)) (wb wn : ℕ) (d : Done) (status : ℕ)
    → IsPrintedFor texts count words d → EndsWith old new wb wn (Ok d) status → status ≡ 1 → IsDenied texts count words old new
is_denied texts count words old new wb wn d status t ends one =
    let ended : (status ≡ status_of (Ok d)) × Appends old new (output_of (Ok d)) =
    written old new wb wn d status ends (not_at status 1 8 one (λ h. omega (arith, h)))
    (not_at status 1 9 one (λ h. omega (arith, h))) in
    record {
      command = t.command;
      said = t.said;
      text = output_of (Ok d);
      printed = no_printed texts t.command d (sym ended.0 ∙ one) t.printed;
      written = ended.1;
    }

-- ---- status 3

spent_at : (told : List (List ℕ × List ℕ)) (c : CommandSaid) (d : Done) → status_of (Ok d) ≡ 3 → IsPrinted told c d
    → IsSpent told c (output_of (Ok d))
spent_at told (AskFor a) d three h = ask.spent_printed told a d.text d.ending three h
spent_at told (VerifyOf v) d three h = absurd (omega (arith, three, ap (λ (x : Done). ending_status x.ending) h.2))
spent_at told (ForcedOf name) d three h = absurd (omega (arith, three, ap (λ (x : Done). ending_status x.ending) h.2))
spent_at told (TrialOf size) d three h = trial.spent_printed size d.text d.ending three h
spent_at told (ExplainFor e) d three h = explain.spent_printed told e d.text d.ending three h
spent_at told (ConflictsIn c) d three h = conflicts.spent_printed told c d.text d.ending three h
spent_at told (GoldenIn g) d three h = golden.open_printed told g d.text d.ending three h
spent_at told (PossibleFor p) d three h = possible.spent_printed told p d.text d.ending three h
spent_at told (CertainTableFor t) d three h = certain_table.open_printed told t d.text d.ending three h
spent_at told (PossibleTableFor t) d three h = possible_table.open_printed told t d.text d.ending three h
spent_at told (SessionOver a) d three h = sessions.spent_printed told a d.text d.ending three h

spent : (texts : Option (List (List ℕ × List ℕ))) (c : CommandSaid) (d : Done) → status_of (Ok d) ≡ 3 → IfSome texts
    (λ told. IsPrinted told c d)
    → IfSome texts (λ told. IsSpent told c (output_of (Ok d)))
spent None c d three h = tt
spent (Some told) c d three h = spent_at told c d three h

pub is_undecided : (texts : Option (List (List ℕ × List ℕ))) (count : ℕ) (words : List (List ℕ))
    (old new : Option (List ℕ)) (wb wn : ℕ) (d : Done) (status : ℕ)
    → IsPrintedFor texts count words d → EndsWith old new wb wn (Ok d) status → status ≡ 3 → IsUndecided texts count words old new
is_undecided texts count words old new wb wn d status t ends three =
    let ended : (status ≡ status_of (Ok d)) × Appends old new (output_of (Ok d)) =
    written old new wb wn d status ends (not_at status 3 8 three (λ h. omega (arith, h)))
    (not_at status 3 9 three (λ h. omega (arith, h))) in
    record {
      command = t.command;
      said = t.said;
      text = output_of (Ok d);
      printed = spent texts t.command d
          (sym ended.0 ∙ three) t.printed;
      written = ended.1;
    }

-- ---- status 10

-- no question and nothing that is just told ends so
no_question : (e : Ending) → IsOfQuestion e → ending_status e ≡ 10 → ⊥
no_question ending.Printed of ten = of
no_question ending.Decided of ten = omega (arith, ten)
no_question ending.Denied of ten = of
no_question ending.Undecided of ten = omega (arith, ten)
no_question ending.Tabled of ten = of
no_question ending.Inconsistent of ten = of
no_question ending.Open of ten = of

bare_at : (told : List (List ℕ × List ℕ)) (c : CommandSaid) (d : Done) → status_of (Ok d) ≡ 10 → IsPrinted told c d
    → IsBare told c (output_of (Ok d))
bare_at told (AskFor a) d ten h = absurd (ask.not_bare told a d.text d.ending ten h)
bare_at told (VerifyOf v) d ten h = absurd (omega (arith, ten, ap (λ (x : Done). ending_status x.ending) h.2))
bare_at told (ForcedOf name) d ten h = absurd (omega (arith, ten, ap (λ (x : Done). ending_status x.ending) h.2))
bare_at told (TrialOf size) d ten h = absurd (no_question d.ending (trial.of_question size d.text d.ending h) ten)
bare_at told (ExplainFor e) d ten h = absurd (no_question d.ending (explain.of_question told e d.text d.ending h) ten)
bare_at told (ConflictsIn c) d ten h = absurd (no_question d.ending (conflicts.of_question told c d.text d.ending h) ten)
bare_at told (GoldenIn g) d ten h = golden.bare_printed told g d.text d.ending ten h
bare_at told (PossibleFor p) d ten h = absurd (no_question d.ending (possible.of_question told p d.text d.ending h) ten)
bare_at told (CertainTableFor t) d ten h = certain_table.bare_printed told t d.text d.ending ten h
bare_at told (PossibleTableFor t) d ten h = possible_table.bare_printed told t d.text d.ending ten h
bare_at told (SessionOver a) d ten h = absurd (no_question d.ending (sessions.of_question told a d.text d.ending h) ten)

bare : (texts : Option (List (List ℕ × List ℕ))) (c : CommandSaid) (d : Done) → status_of (Ok d) ≡ 10
    → IfSome texts (λ told. IsPrinted told c d) → IfSome texts (λ told. IsBare told c (output_of (Ok d)))
bare None c d ten h = tt
bare (Some told) c d ten h = bare_at told c d ten h

pub is_inconsistent : (texts : Option (List (List ℕ × List ℕ))) (count : ℕ) (words : List (List ℕ))
    (old new : Option (List ℕ)) (wb wn : ℕ) (d : Done) (status : ℕ)
    → IsPrintedFor texts count words d → EndsWith old new wb wn (Ok d) status → status ≡ 10
    → IsInconsistent texts count words old new
is_inconsistent texts count words old new wb wn d status t ends ten =
    let ended : (status ≡ status_of (Ok d)) × Appends old new (output_of (Ok d)) =
    written old new wb wn d status ends (not_at status 10 8 ten (λ h. omega (arith, h)))
    (not_at status 10 9 ten (λ h. omega (arith, h))) in
    record {
      command = t.command;
      said = t.said;
      text = output_of (Ok d);
      printed = bare texts t.command d (sym ended.0 ∙ ten) t.printed;
      written = ended.1;
    }
