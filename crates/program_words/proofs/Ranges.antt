-- The numbers of a command that is said are in their ranges.
use Rattle.std.proofs.Common.{ℕ, ◌≤◌, ◌≡◌, Bool, true, false, cond, List, [], ◌∷◌, codes, Option, Some, None, arith, refl}
use Rattle.std.proofs.Common.{subst}
use Rattle.std.specs.Prelude.{IfSome, option_and_then, option_map}
use Rattle.std.specs.Str.{bytes_eq}
use Rattle.clap.specs.Faults.{fault_of}
use Rattle.clap.specs.Kinds.{Kinds}
use Rattle.clap.specs.Simple.{subcommand_of}
use Rattle.clap.specs.Walk.{Row, Text, first_of}
use Rattle.program_words.specs.Line.{line}
use Rattle.program_words.specs.Numbers.{number_if_given, number_or, number_up_to}
use Rattle.program_words.specs.Words.{AskFor, CertainTableFor, CommandSaid, ConflictsIn, ExplainFor, ForcedOf, GoldenIn}
use Rattle.program_words.specs.Words.{PossibleFor, PossibleTableFor, SessionOver, TrialOf, VerifyOf, ask_for, ask_in, asked_in, command_in}
use Rattle.program_words.specs.Words.{command_of, conflicts_in, explain_in, forced_in, golden_in, has_flag, possible_for}
use Rattle.program_words.specs.Words.{asked_in_one_way, possible_in, session_in, tells_two_ways, trial_in, unit_in, unless_fault, verify_in}
use Rattle.program_words.proofs.Numerals.{number_in_range}
use Rattle.program_words.proofs.Parts.{of_question, of_search}

-- the numbers of a search in their ranges
pub record AreInRange (b : ℕ) (g : Option ℕ) : Type 0 where
  pub budget : (1 ≤ b) × (b ≤ 10000000)
  pub guide : IfSome g (λ k. (1 ≤ k) × (k ≤ 4))

-- the numbers of `explain` in their ranges
pub record IsExplainInRange (u : ℕ) (b : ℕ) (g : Option ℕ) : Type 0 where
  pub unit : (1 ≤ u) × (u ≤ 4294967295)
  pub search : AreInRange b g

-- the numbers of a command in their ranges
abbrev pub IsInRange : CommandSaid → Type 0
IsInRange (AskFor a) = AreInRange a.budget a.guide
IsInRange (TrialOf n) = (1 ≤ n) × (n ≤ 1000)
IsInRange (ExplainFor e) = IsExplainInRange e.unit e.budget e.guide
IsInRange (ConflictsIn c) = AreInRange c.budget c.guide
IsInRange (GoldenIn g) = AreInRange g.budget g.guide
IsInRange (PossibleFor p) = AreInRange p.budget p.guide
IsInRange (CertainTableFor t) = AreInRange t.budget t.guide
IsInRange (PossibleTableFor t) = AreInRange t.budget t.guide
IsInRange (SessionOver s) = AreInRange s.budget s.guide
IsInRange other = Unit {0}

budget_in_range : (text : Option Text) (n : ℕ) → number_or 100000 10000000 text ≡ Some n → (1 ≤ n) × (n ≤ 10000000)
budget_in_range None n e =
    let is : 100000 ≡ n = cc in
    rw (← is) (omega arith, omega arith)
budget_in_range (Some text) n e = number_in_range 10000000 n text e

guide_in_range : (text : Option Text) (guide : Option ℕ) → number_if_given 4 text ≡ Some guide → IfSome guide
    (λ k. (1 ≤ k) × (k ≤ 4))
guide_in_range text None e = tt
guide_in_range None (Some k) e = cc
guide_in_range (Some text) (Some k) e = by (number_up_to 4 text) refl e
  where
    by : (o : Option ℕ) → number_up_to 4 text ≡ o → option_map (λ n. Some n) o ≡ Some (Some k) → (1 ≤ k) × (k ≤ 4)
    by None is e = cc
    by (Some n) is e = let same : n ≡ k = cc in number_in_range 4 k text (rw same at is)

-- what is said of a budget and a guide is in range where it is for those that are
search_in_range : (budget guide : Option Text) (said : ℕ → Option ℕ → CommandSaid)
    → ((b : ℕ) (g : Option ℕ) → AreInRange b g → IsInRange (said b g))
    → IfSome (of_search (number_or 100000 10000000 budget) (number_if_given 4 guide) said) IsInRange
search_in_range budget guide said holds = by (number_or 100000 10000000 budget) (number_if_given 4 guide) refl refl
  where
    by : (b : Option ℕ) (g : Option (Option ℕ)) → number_or 100000 10000000 budget ≡ b → number_if_given 4 guide ≡ g
        → IfSome (of_search b g said) IsInRange
    by None g e f = tt
    by (Some b) None e f = tt
    by (Some b) (Some g) e f =
        holds b g (record { budget = budget_in_range budget b e; guide = guide_in_range guide g f })

of_question_in_range : (spec question : Option Text) (said : Text → Text → Option CommandSaid)
    → ((s q : Text) → IfSome (said s q) IsInRange) → IfSome (of_question spec question said) IsInRange
of_question_in_range None question said holds = tt
of_question_in_range (Some spec) None said holds = tt
of_question_in_range (Some spec) (Some question) said holds = holds spec question

unit_in_range : (text : Option Text) (said : ℕ → Option CommandSaid)
    → ((u : ℕ) → (1 ≤ u) × (u ≤ 4294967295) → IfSome (said u) IsInRange)
    → IfSome (option_and_then said (option_and_then unit_in text)) IsInRange
unit_in_range None said holds = tt
unit_in_range (Some text) said holds = by (unit_in text) refl
  where
    by : (o : Option ℕ) → unit_in text ≡ o → IfSome (option_and_then said o) IsInRange
    by None is = tt
    by (Some u) is = holds u (number_in_range 4294967295 u text is)

asked_in_range : (rows : List Row) (said : Text → Text → ℕ → Option ℕ → CommandSaid)
    → ((s q : Text) (b : ℕ) (g : Option ℕ) → AreInRange b g → IsInRange (said s q b g))
    → IfSome (asked_in rows said) IsInRange
asked_in_range rows said holds =
    of_question_in_range (first_of (codes "SPEC") rows) (first_of (codes "QUESTION") rows) _ (λ s q.
    search_in_range (first_of (codes "budget") rows) (first_of (codes "guide") rows) (said s q) (holds s q))

told_in_range : (rows : List Row) (said : Text → Text → ℕ → Option ℕ → CommandSaid)
    → ((s q : Text) (b : ℕ) (g : Option ℕ) → AreInRange b g → IsInRange (said s q b g))
    → IfSome (asked_in_one_way rows said) IsInRange
told_in_range rows said holds = by (tells_two_ways rows)
  where
    by : (two : Bool) → IfSome (cond two None (asked_in rows said)) IsInRange
    by true = tt
    by false = asked_in_range rows said holds

-- what is said is one of two commands
either_in_range : (table : Bool) (first other : CommandSaid) → IsInRange first → IsInRange other
    → IsInRange (cond table first other)
either_in_range true first other h k = h
either_in_range false first other h k = k

ask_in_range : (rows : List Row) → IfSome (ask_in rows) IsInRange
ask_in_range rows =
    told_in_range rows (ask_for rows) (λ s q b g h. either_in_range (has_flag (codes "csv") rows) _ _ h h)

possible_in_range : (rows : List Row) → IfSome (possible_in rows) IsInRange
possible_in_range rows =
    told_in_range rows (possible_for rows) (λ s q b g h. either_in_range (has_flag (codes "csv") rows) _ _ h h)

explain_in_range : (rows : List Row) → IfSome (explain_in rows) IsInRange
explain_in_range rows =
    of_question_in_range (first_of (codes "SPEC") rows) (first_of (codes "QUESTION") rows) _ (λ s q.
    unit_in_range (first_of (codes "N") rows) _ (λ u unit.
    search_in_range (first_of (codes "budget") rows) (first_of (codes "guide") rows)
    (λ b g. ExplainFor (record { spec = s; question = q; unit = u; budget = b; guide = g }))
    (λ b g h. record { unit = unit; search = h })))

conflicts_in_range : (rows : List Row) → IfSome (conflicts_in rows) IsInRange
conflicts_in_range rows = by (first_of (codes "SPEC") rows)
  where
    by : (spec : Option Text) → IfSome (option_and_then
        (λ s. of_search (number_or 100000 10000000 (first_of (codes "budget") rows))
        (number_if_given 4 (first_of (codes "guide") rows))
        (λ b g. ConflictsIn (record { spec = s; budget = b; guide = g }))) spec) IsInRange
    by None = tt
    by (Some s) = search_in_range (first_of (codes "budget") rows) (first_of (codes "guide") rows)
        (λ b g. ConflictsIn (record { spec = s; budget = b; guide = g })) (λ b g h. h)

golden_in_range : (rows : List Row) → IfSome (golden_in rows) IsInRange
golden_in_range rows =
    of_question_in_range (first_of (codes "SPEC") rows) (first_of (codes "RELATION") rows) _ (λ s r.
    search_in_range (first_of (codes "budget") rows) (first_of (codes "guide") rows)
    (λ b g. GoldenIn (record { spec = s; relation = r; budget = b; guide = g })) (λ b g h. h))

session_in_range : (rows : List Row) → IfSome (session_in rows) IsInRange
session_in_range rows =
    of_question_in_range (first_of (codes "SPEC") rows) (first_of (codes "SCRIPT") rows) _ (λ s t.
    search_in_range (first_of (codes "budget") rows) (first_of (codes "guide") rows)
    (λ b g. SessionOver (record {
      spec = s;
      script = t;
      budget = b;
      brief = has_flag (codes "brief") rows;
      guide = g;
    })) (λ b g h. h))

verify_in_range : (rows : List Row) → IfSome (verify_in rows) IsInRange
verify_in_range rows =
    of_question_in_range (first_of (codes "SPEC") rows) (first_of (codes "QUESTION") rows) _ (λ s q.
    by s q (first_of (codes "REPORT") rows))
  where
    by : (s q : Text) (report : Option Text)
        → IfSome (option_map (λ r. VerifyOf (record { spec = s; question = q; report = r })) report) IsInRange
    by s q None = tt
    by s q (Some r) = tt

forced_in_range : (spec : Option Text) → IfSome (option_map (λ s. ForcedOf s) spec) IsInRange
forced_in_range None = tt
forced_in_range (Some spec) = tt

trial_in_range : (text : Option Text) → IfSome (option_and_then (λ t. option_map (λ n. TrialOf n) (number_up_to 1000 t))
    text) IsInRange
trial_in_range None = tt
trial_in_range (Some text) = by (number_up_to 1000 text) refl
  where
    by : (o : Option ℕ) → number_up_to 1000 text ≡ o → IfSome (option_map (λ n. TrialOf n) o) IsInRange
    by None is = tt
    by (Some n) is = number_in_range 1000 n text is

found_in_range : (name : Text) (rows : List Row) → IfSome (command_in (name, rows)) IsInRange
found_in_range name rows = by (bytes_eq name (codes "ask")) (bytes_eq name (codes "trial"))
    (bytes_eq name (codes "explain")) (bytes_eq name (codes "conflicts")) (bytes_eq name (codes "golden"))
    (bytes_eq name (codes "possible")) (bytes_eq name (codes "session")) (bytes_eq name (codes "verify"))
    (bytes_eq name (codes "forced"))
  where
    by : (is_ask is_trial is_explain is_conflicts is_golden is_possible is_session is_verify is_forced : Bool)
        → IfSome (cond is_ask (ask_in rows) (cond is_trial (trial_in rows)
        (cond is_explain (explain_in rows) (cond is_conflicts (conflicts_in rows) (cond is_golden (golden_in rows)
        (cond is_possible (possible_in rows) (cond is_session (session_in rows) (cond is_verify (verify_in rows)
        (cond is_forced (forced_in rows) None)))))))))
        IsInRange
    by true t e c g p s v f = ask_in_range rows
    by false true e c g p s v f = trial_in_range (first_of (codes "N") rows)
    by false false true c g p s v f = explain_in_range rows
    by false false false true g p s v f = conflicts_in_range rows
    by false false false false true p s v f = golden_in_range rows
    by false false false false false true s v f = possible_in_range rows
    by false false false false false false true v f = session_in_range rows
    by false false false false false false false true f = verify_in_range rows
    by false false false false false false false false true = forced_in_range (first_of (codes "SPEC") rows)
    by false false false false false false false false false = tt

-- a command that words say has its numbers in their ranges
pub said_in_range : (words : List Text) (said : CommandSaid) → command_of words ≡ Some said → IsInRange said
unfolding command_of
said_in_range words said is = subst (λ (o : Option CommandSaid). IfSome o IsInRange) is
    (by (fault_of line words) (subcommand_of line words))
  where
    by : (kinds : Kinds) (found : Option (Text × List Row))
        → IfSome (unless_fault kinds (option_and_then command_in found)) IsInRange
    by [] None = tt
    by [] (Some p) = found_in_range p.0 p.1
    by (k ∷ ks) found = tt
