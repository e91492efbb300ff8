-- Words say no command only where clap sees a fault or options are wrong.
use Rattle.std.proofs.Common.{ℕ, ◌≡◌, Bool, true, false, cond, List, [], ◌∷◌, codes, get_or, Option, Some, None, is_some}
use Rattle.std.proofs.Common.{arith, refl, inl, inr}
use Rattle.std.specs.Prelude.{◌&&◌, ◌||◌, find, not, option_and_then, option_map}
use Rattle.std.specs.List.{AllByRecursion}
use Rattle.std.specs.Option.{option_map_or}
use Rattle.std.specs.Str.{bytes_eq}
use Rattle.clap.specs.Faults.{entered_fault, fault_of, level_fault}
use Rattle.clap.specs.Kinds.{Kinds}
use Rattle.clap.specs.Simple.{Shape, argument_words, built, entered, label_of, names_of, rows_at, subcommand_of}
use Rattle.clap.specs.Walk.{Row, Text, answers_to, first_of, nothing_held, rows_after, stop_after}
use Rattle.program_words.specs.Line.{line}
use Rattle.program_words.specs.Numbers.{number_if_given, number_or, number_up_to}
use Rattle.program_words.specs.Words.{CommandSaid, ConflictsIn, ForcedOf, IsRefused, TrialOf, VerifyOf, ask_in, asked_in}
use Rattle.program_words.specs.Words.{command_in, command_of, conflicts_in, explain_in, golden_in, has_wrong_options}
use Rattle.program_words.specs.Words.{is_explain_wrong, is_search_wrong, is_telling_wrong, is_trial_wrong, possible_in, session_in}
use Rattle.program_words.specs.Words.{asked_in_one_way, tells_two_ways, trial_in, unit_in, unless_fault}
use Rattle.program_words.proofs.Parts.{from_number, from_question, from_search, no_number, no_question, no_search}
use Rattle.program_words.proofs.TextRows.{found_holds}
use Rattle.program_words.proofs.TextWalks.{AreValued, level_texts}
use Rattle.program_words.proofs.RequiredTexts.{none_wanted, required_text}
use Rattle.program_words.proofs.Written.{no_arguments, whole_line}

-- the k-th command, as it is built
abbrev sub : ℕ → Shape
sub k = get_or (built line).subs k line.top

-- where nothing is found in the rows of this command, a number is wrong
abbrev IsCaused : Shape → Type 0
IsCaused s = (words : List Text) → level_fault s [] nothing_held words false [] ≡ [] → command_in (rows_at s words) ≡ None
    → has_wrong_options (rows_at s words) ≡ true

verify_whole : (report : Option Text) (spec question : Text) → is_some report ≡ true
    → option_map (λ r. VerifyOf (record { spec = spec; question = question; report = r })) report ≡ None → ⊥
verify_whole None spec question s e = cc
verify_whole (Some report) spec question s e = cc

forced_whole : (spec : Option Text) → is_some spec ≡ true → option_map (λ s. ForcedOf s) spec ≡ None → ⊥
forced_whole None s e = cc
forced_whole (Some spec) s e = cc

trial_number : (text : Option Text) → is_some text ≡ true → option_and_then
    (λ t. option_map (λ n. TrialOf n) (number_up_to 1000 t)) text ≡ None
    → option_map_or (λ t. not (is_some (number_up_to 1000 t))) text false ≡ true
trial_number None s e = cc
trial_number (Some text) s e = by (number_up_to 1000 text) e
  where
    by : (o : Option ℕ) → option_map (λ n. TrialOf n) o ≡ None → not (is_some o) ≡ true
    by None e = refl
    by (Some n) e = cc

conflicts_number : (spec : Option Text) (budget : Option ℕ) (guide : Option (Option ℕ)) → is_some spec ≡ true
    → option_and_then (λ s. option_and_then
    (λ b. option_map (λ g. ConflictsIn (record { spec = s; budget = b; guide = g })) guide) budget) spec ≡ None
    → (not (is_some budget) || not (is_some guide)) ≡ true
conflicts_number None budget guide s e = cc
conflicts_number (Some spec) budget guide s e = from_search budget guide _ e

asked_number : (rows : List Row) (said : Text → Text → ℕ → Option ℕ → CommandSaid)
    → is_some (first_of (codes "SPEC") rows) ≡ true → is_some (first_of (codes "QUESTION") rows) ≡ true
    → asked_in rows said ≡ None → is_search_wrong rows ≡ true
asked_number rows said spec question none =
    from_question (first_of (codes "SPEC") rows) (first_of (codes "QUESTION") rows) _ spec question
    (λ s q. from_search (number_or 100000 10000000 (first_of (codes "budget") rows))
    (number_if_given 4 (first_of (codes "guide") rows)) _) none

told_number : (rows : List Row) (said : Text → Text → ℕ → Option ℕ → CommandSaid)
    → is_some (first_of (codes "SPEC") rows) ≡ true → is_some (first_of (codes "QUESTION") rows) ≡ true
    → asked_in_one_way rows said ≡ None → is_telling_wrong rows ≡ true
told_number rows said spec question none = by (tells_two_ways rows) none
  where
    by : (two : Bool) → cond two None (asked_in rows said) ≡ None → (two || is_search_wrong rows) ≡ true
    by true e = refl
    by false e = asked_number rows said spec question e

-- each argument of a command has a text where it is used
ask_valued : AreValued (sub 0).rules
unfolding whole_line
ask_valued = (
  record { acts = λ values rows. refl; stands = λ e. cc },
  (
    record { acts = λ values rows. refl; stands = λ e. cc },
    (
      record { acts = λ values rows. refl; stands = λ e. cc },
      (
        record { acts = λ values rows. refl; stands = λ e. cc },
        (
          record { acts = λ values rows. refl; stands = λ e. omega arith },
          (
            record { acts = λ values rows. refl; stands = λ e. omega arith },
            (
              record { acts = λ values rows. refl; stands = λ e. omega arith },
              (record { acts = λ values rows. refl; stands = λ e. omega arith }, tt),
            ),
          ),
        ),
      ),
    ),
  ),
)

possible_valued : AreValued (sub 7).rules
unfolding whole_line
possible_valued = (
  record { acts = λ values rows. refl; stands = λ e. cc },
  (
    record { acts = λ values rows. refl; stands = λ e. cc },
    (
      record { acts = λ values rows. refl; stands = λ e. cc },
      (
        record { acts = λ values rows. refl; stands = λ e. cc },
        (
          record { acts = λ values rows. refl; stands = λ e. omega arith },
          (record { acts = λ values rows. refl; stands = λ e. omega arith }, tt),
        ),
      ),
    ),
  ),
)

verify_valued : AreValued (sub 1).rules
unfolding whole_line
verify_valued = (
  record { acts = λ values rows. refl; stands = λ e. cc },
  (record { acts = λ values rows. refl; stands = λ e. cc }, (record { acts = λ values rows. refl; stands = λ e. cc }, tt)),
)

forced_valued : AreValued (sub 2).rules
unfolding whole_line
forced_valued = (record { acts = λ values rows. refl; stands = λ e. cc }, tt)

trial_valued : AreValued (sub 3).rules
unfolding whole_line
trial_valued = (record { acts = λ values rows. refl; stands = λ e. cc }, tt)

explain_valued : AreValued (sub 4).rules
unfolding whole_line
explain_valued = (
  record { acts = λ values rows. refl; stands = λ e. cc },
  (
    record { acts = λ values rows. refl; stands = λ e. cc },
    (
      record { acts = λ values rows. refl; stands = λ e. cc },
      (
        record { acts = λ values rows. refl; stands = λ e. cc },
        (record { acts = λ values rows. refl; stands = λ e. cc }, tt),
      ),
    ),
  ),
)

conflicts_valued : AreValued (sub 5).rules
unfolding whole_line
conflicts_valued = (
  record { acts = λ values rows. refl; stands = λ e. cc },
  (record { acts = λ values rows. refl; stands = λ e. cc }, (record { acts = λ values rows. refl; stands = λ e. cc }, tt)),
)

session_valued : AreValued (sub 8).rules
unfolding whole_line
session_valued = (
  record { acts = λ values rows. refl; stands = λ e. cc },
  (
    record { acts = λ values rows. refl; stands = λ e. cc },
    (
      record { acts = λ values rows. refl; stands = λ e. cc },
      (
        record { acts = λ values rows. refl; stands = λ e. cc },
        (record { acts = λ values rows. refl; stands = λ e. omega arith }, tt),
      ),
    ),
  ),
)

golden_valued : AreValued (sub 6).rules
unfolding whole_line
golden_valued = (
  record { acts = λ values rows. refl; stands = λ e. cc },
  (
    record { acts = λ values rows. refl; stands = λ e. cc },
    (
      record { acts = λ values rows. refl; stands = λ e. cc },
      (record { acts = λ values rows. refl; stands = λ e. cc }, tt),
    ),
  ),
)

ask_caused : IsCaused (sub 0)
unfolding whole_line
ask_caused words free none =
    told_number (rows_after (sub 0).rules [] words) _
    (required_text (sub 0) words (codes "SPEC") ask_valued (inl (refl, refl)) free)
    (required_text (sub 0) words (codes "QUESTION") ask_valued (inr (inl (refl, refl))) free) none

verify_caused : IsCaused (sub 1)
unfolding whole_line
verify_caused words free none =
    let rows = rows_after (sub 1).rules [] words in
    absurd (from_question (first_of (codes "SPEC") rows) (first_of (codes "QUESTION") rows) _
    (required_text (sub 1) words (codes "SPEC") verify_valued (inl (refl, refl)) free)
    (required_text (sub 1) words (codes "QUESTION") verify_valued (inr (inl (refl, refl))) free)
    (λ spec question. verify_whole (first_of (codes "REPORT") rows) spec question
    (required_text (sub 1) words (codes "REPORT") verify_valued (inr (inr (inl (refl, refl)))) free)) none)

forced_caused : IsCaused (sub 2)
unfolding whole_line
forced_caused words free none =
    let rows = rows_after (sub 2).rules [] words in
    absurd (forced_whole (first_of (codes "SPEC") rows) (required_text (sub 2) words (codes "SPEC") forced_valued
    (inl (refl, refl)) free) none)

trial_caused : IsCaused (sub 3)
unfolding whole_line
trial_caused words free none =
    let rows = rows_after (sub 3).rules [] words in
    trial_number (first_of (codes "N") rows) (required_text (sub 3) words (codes "N") trial_valued (inl (refl, refl)) free) none

explain_caused : IsCaused (sub 4)
unfolding whole_line
explain_caused words free none =
    let rows = rows_after (sub 4).rules [] words in
    from_question (first_of (codes "SPEC") rows) (first_of (codes "QUESTION") rows) _
    (required_text (sub 4) words (codes "SPEC") explain_valued (inl (refl, refl)) free)
    (required_text (sub 4) words (codes "QUESTION") explain_valued (inr (inl (refl, refl))) free)
    (λ spec question. from_number unit_in (first_of (codes "N") rows) _ (is_search_wrong rows)
    (required_text (sub 4) words (codes "N") explain_valued (inr (inr (inl (refl, refl)))) free)
    (λ unit. from_search (number_or 100000 10000000 (first_of (codes "budget") rows))
    (number_if_given 4 (first_of (codes "guide") rows)) _)) none

conflicts_caused : IsCaused (sub 5)
unfolding whole_line
conflicts_caused words free none =
    let rows = rows_after (sub 5).rules [] words in
    conflicts_number (first_of (codes "SPEC") rows) (number_or 100000 10000000 (first_of (codes "budget") rows))
    (number_if_given 4 (first_of (codes "guide") rows))
    (required_text (sub 5) words (codes "SPEC") conflicts_valued (inl (refl, refl)) free) none

golden_caused : IsCaused (sub 6)
unfolding whole_line
golden_caused words free none =
    let rows = rows_after (sub 6).rules [] words in
    from_question (first_of (codes "SPEC") rows) (first_of (codes "RELATION") rows) _
    (required_text (sub 6) words (codes "SPEC") golden_valued (inl (refl, refl)) free)
    (required_text (sub 6) words (codes "RELATION") golden_valued (inr (inl (refl, refl))) free)
    (λ spec relation. from_search (number_or 100000 10000000 (first_of (codes "budget") rows))
    (number_if_given 4 (first_of (codes "guide") rows)) _) none

possible_caused : IsCaused (sub 7)
unfolding whole_line
possible_caused words free none =
    told_number (rows_after (sub 7).rules [] words) _
    (required_text (sub 7) words (codes "SPEC") possible_valued (inl (refl, refl)) free)
    (required_text (sub 7) words (codes "QUESTION") possible_valued (inr (inl (refl, refl))) free) none

session_caused : IsCaused (sub 8)
unfolding whole_line
session_caused words free none =
    let rows = rows_after (sub 8).rules [] words in
    from_question (first_of (codes "SPEC") rows) (first_of (codes "SCRIPT") rows) _
    (required_text (sub 8) words (codes "SPEC") session_valued (inl (refl, refl)) free)
    (required_text (sub 8) words (codes "SCRIPT") session_valued (inr (inl (refl, refl))) free)
    (λ spec script. from_search (number_or 100000 10000000 (first_of (codes "budget") rows))
    (number_if_given 4 (first_of (codes "guide") rows)) _) none

all_caused : AllByRecursion IsCaused (built line).subs
unfolding no_arguments
all_caused = (
  ask_caused,
  (
    verify_caused,
    (
      forced_caused,
      (trial_caused, (explain_caused, (conflicts_caused, (golden_caused, (possible_caused, (session_caused, tt)))))),
    ),
  ),
)

-- the same of the command that was entered
entered_caused : (stop : Option (Text × List Text)) → is_some (entered (built line) stop) ≡ true → entered_fault
    (built line) stop ≡ []
    → option_and_then command_in (entered (built line) stop) ≡ None → option_map_or has_wrong_options
    (entered (built line) stop) false ≡ true
entered_caused None some free none = cc
entered_caused (Some p) some free none = by (find (λ s. answers_to p.0 (label_of s)) (built line).subs) refl some free none
  where
    by : (o : Option Shape) → find (λ s. answers_to p.0 (label_of s)) (built line).subs ≡ o
        → is_some (option_map (λ s. rows_at s p.1) o) ≡ true
        → option_map_or (λ s. level_fault s [] nothing_held p.1 false []) o [] ≡ []
        → option_and_then command_in (option_map (λ s. rows_at s p.1) o) ≡ None
        → option_map_or has_wrong_options (option_map (λ s. rows_at s p.1) o) false ≡ true
    by None e s f n = cc
    by (Some s) e some f n = found_holds IsCaused _ (built line).subs s all_caused e p.1 f n

wanted_and_met : (met : Bool) → (not met && true) ≡ false → met ≡ true
wanted_and_met true e = refl
wanted_and_met false e = cc

top_valued : AreValued (built line).top.rules
unfolding no_arguments
top_valued = tt

top_wants_one : (met : Bool) → (not met && (built line).top.subcommand_required) ≡ false → met ≡ true
unfolding no_arguments
top_wants_one met e = wanted_and_met met e

number_wrong : (words : List Text) → fault_of line words ≡ [] → option_and_then command_in (subcommand_of line words) ≡ None
    → option_map_or has_wrong_options (subcommand_of line words) false ≡ true
number_wrong words free none =
    let app = built line in
    let stop = stop_after app.top.rules (names_of app) (argument_words line words) in
    let end = level_texts app.top (names_of app) top_valued nothing_held (argument_words line words)
    (is_some (entered app stop)) (entered_fault app stop) free tt in
    entered_caused stop (top_wants_one _ (none_wanted _ _ _ end.1).0) end.2 none

pub caused : (words : List Text) → command_of words ≡ None → IsRefused words
unfolding command_of
caused words none = by (fault_of line words) refl none
  where
    by : (kinds : Kinds) → fault_of line words ≡ kinds → unless_fault kinds
        (option_and_then command_in (subcommand_of line words)) ≡ None → IsRefused words
    by [] e n = inr (number_wrong words e n)
    by (k ∷ ks) e n = inl (λ free. cc)

conflicts_none : (spec : Option Text) (budget : Option ℕ) (guide : Option (Option ℕ))
    → (not (is_some budget) || not (is_some guide)) ≡ true
    → option_and_then (λ s. option_and_then
    (λ b. option_map (λ g. ConflictsIn (record { spec = s; budget = b; guide = g })) guide) budget) spec ≡ None
conflicts_none None budget guide e = refl
conflicts_none (Some spec) budget guide e = no_search budget guide _ e

trial_none : (text : Option Text) → option_map_or (λ t. not (is_some (number_up_to 1000 t))) text false ≡ true
    → option_and_then (λ t. option_map (λ n. TrialOf n) (number_up_to 1000 t)) text ≡ None
trial_none None e = refl
trial_none (Some text) e = by (number_up_to 1000 text) e
  where
    by : (o : Option ℕ) → not (is_some o) ≡ true → option_map (λ n. TrialOf n) o ≡ None
    by None e = refl
    by (Some n) e = cc

asked_none : (rows : List Row) (said : Text → Text → ℕ → Option ℕ → CommandSaid) → is_search_wrong rows ≡ true
    → asked_in rows said ≡ None
asked_none rows said wrong = no_question (first_of (codes "SPEC") rows) (first_of (codes "QUESTION") rows) _
    (λ spec question. no_search (number_or 100000 10000000 (first_of (codes "budget") rows))
    (number_if_given 4 (first_of (codes "guide") rows)) _ wrong)

told_none : (rows : List Row) (said : Text → Text → ℕ → Option ℕ → CommandSaid) → is_telling_wrong rows ≡ true
    → asked_in_one_way rows said ≡ None
told_none rows said wrong = by (tells_two_ways rows) wrong
  where
    by : (two : Bool) → (two || is_search_wrong rows) ≡ true → cond two None (asked_in rows said) ≡ None
    by true e = refl
    by false e = asked_none rows said e

explain_none : (rows : List Row) → is_explain_wrong rows ≡ true → explain_in rows ≡ None
explain_none rows wrong = no_question (first_of (codes "SPEC") rows) (first_of (codes "QUESTION") rows) _
    (λ spec question. no_number unit_in (first_of (codes "N") rows) _ (is_search_wrong rows)
    (λ unit. no_search (number_or 100000 10000000 (first_of (codes "budget") rows))
    (number_if_given 4 (first_of (codes "guide") rows)) _) wrong)

golden_none : (rows : List Row) → is_search_wrong rows ≡ true → golden_in rows ≡ None
golden_none rows wrong = no_question (first_of (codes "SPEC") rows) (first_of (codes "RELATION") rows) _
    (λ spec relation. no_search (number_or 100000 10000000 (first_of (codes "budget") rows))
    (number_if_given 4 (first_of (codes "guide") rows)) _ wrong)

session_none : (rows : List Row) → is_search_wrong rows ≡ true → session_in rows ≡ None
session_none rows wrong = no_question (first_of (codes "SPEC") rows) (first_of (codes "SCRIPT") rows) _
    (λ spec script. no_search (number_or 100000 10000000 (first_of (codes "budget") rows))
    (number_if_given 4 (first_of (codes "guide") rows)) _ wrong)

wrong_is_none : (found : Option (Text × List Row)) → option_map_or has_wrong_options found false ≡ true
    → option_and_then command_in found ≡ None
wrong_is_none None wrong = refl
wrong_is_none (Some p) wrong = by (bytes_eq p.0 (codes "ask")) (bytes_eq p.0 (codes "trial"))
    (bytes_eq p.0 (codes "explain")) (bytes_eq p.0 (codes "conflicts")) (bytes_eq p.0 (codes "golden"))
    (bytes_eq p.0 (codes "possible")) (bytes_eq p.0 (codes "session")) _ wrong
  where
    by : (is_ask is_trial is_explain is_conflicts is_golden is_possible is_session : Bool) (other : Option CommandSaid)
        → cond is_ask (is_telling_wrong p.1) (cond is_trial (is_trial_wrong p.1)
        (cond is_explain (is_explain_wrong p.1) (cond is_conflicts (is_search_wrong p.1)
        (cond is_golden (is_search_wrong p.1) (cond is_possible (is_telling_wrong p.1)
        (cond is_session (is_search_wrong p.1) false)))))) ≡ true
        → cond is_ask (ask_in p.1) (cond is_trial (trial_in p.1)
        (cond is_explain (explain_in p.1) (cond is_conflicts (conflicts_in p.1) (cond is_golden (golden_in p.1)
        (cond is_possible (possible_in p.1) (cond is_session (session_in p.1) other)))))) ≡ None
    by true is_trial is_explain is_conflicts is_golden is_possible is_session other w = told_none p.1 _ w
    by false true is_explain is_conflicts is_golden is_possible is_session other w = trial_none (first_of (codes "N") p.1) w
    by false false true is_conflicts is_golden is_possible is_session other w = explain_none p.1 w
    by false false false true is_golden is_possible is_session other w = conflicts_none (first_of (codes "SPEC") p.1) _ _ w
    by false false false false true is_possible is_session other w = golden_none p.1 w
    by false false false false false true is_session other w = told_none p.1 _ w
    by false false false false false false true other w = session_none p.1 w
    by false false false false false false false other w = cc

pub refused : (words : List Text) → IsRefused words → command_of words ≡ None
unfolding command_of
refused words h = by (fault_of line words) refl h
  where
    by : (kinds : Kinds) → fault_of line words ≡ kinds → IsRefused words → unless_fault kinds
        (option_and_then command_in (subcommand_of line words)) ≡ None
    by [] e (inl fault) = absurd (fault e)
    by [] e (inr wrong) = wrong_is_none (subcommand_of line words) wrong
    by (k ∷ ks) e r = refl
