-- A command that is made of its parts: none where a part is none, and only then.
use Rattle.std.proofs.Common.{ℕ, ◌≡◌, Bool, true, false, Option, Some, None, is_some, refl}
use Rattle.std.specs.Prelude.{◌||◌, not, option_and_then, option_map}
use Rattle.std.specs.Option.{option_map_or}
use Rattle.clap.specs.Walk.{Text}
use Rattle.program_words.specs.Words.{CommandSaid}

-- what is said of SPEC and QUESTION, or, by `golden`, of SPEC and RELATION
abbrev pub of_question : Option Text → Option Text → (Text → Text → Option CommandSaid) → Option CommandSaid
of_question spec question said = option_and_then (λ s. option_and_then (λ q. said s q) question) spec

-- what is said of a budget and a guide
abbrev pub of_search : Option ℕ → Option (Option ℕ) → (ℕ → Option ℕ → CommandSaid) → Option CommandSaid
of_search budget guide said = option_and_then (λ b. option_map (λ g. said b g) guide) budget

-- what is said of the number that a text writes, as `read` has it
abbrev pub of_number : (Text → Option ℕ) → Option Text → (ℕ → Option CommandSaid) → Option CommandSaid
of_number read text said = option_and_then said (option_and_then read text)

-- the text writes no number
abbrev pub is_no_number : (Text → Option ℕ) → Option Text → Bool
is_no_number read text = option_map_or (λ t. not (is_some (read t))) text false

pub from_question : {P : Type 0} (spec question : Option Text) (said : Text → Text → Option CommandSaid)
    → is_some spec ≡ true → is_some question ≡ true
    → ((s q : Text) → said s q ≡ None → P) → of_question spec question said ≡ None → P
from_question None question said s q next e = cc
from_question (Some spec) None said s q next e = cc
from_question (Some spec) (Some question) said s q next e = next spec question e

pub from_search : (budget : Option ℕ) (guide : Option (Option ℕ)) (said : ℕ → Option ℕ → CommandSaid)
    → of_search budget guide said ≡ None → (not (is_some budget) || not (is_some guide)) ≡ true
from_search None guide said e = refl
from_search (Some budget) None said e = refl
from_search (Some budget) (Some guide) said e = cc

pub from_number : (read : Text → Option ℕ) (text : Option Text) (said : ℕ → Option CommandSaid) (later : Bool)
    → is_some text ≡ true
    → ((n : ℕ) → said n ≡ None → later ≡ true) → of_number read text said ≡ None → (is_no_number read text || later) ≡ true
from_number read None said later s next e = cc
from_number read (Some text) said later s next e = by (read text) e
  where
    by : (o : Option ℕ) → option_and_then said o ≡ None → (not (is_some o) || later) ≡ true
    by None e = refl
    by (Some n) e = next n e

pub no_question : (spec question : Option Text) (said : Text → Text → Option CommandSaid) → ((s q : Text) → said s q ≡ None)
    → of_question spec question said ≡ None
no_question None question said none = refl
no_question (Some spec) None said none = refl
no_question (Some spec) (Some question) said none = none spec question

pub no_search : (budget : Option ℕ) (guide : Option (Option ℕ)) (said : ℕ → Option ℕ → CommandSaid)
    → (not (is_some budget) || not (is_some guide)) ≡ true → of_search budget guide said ≡ None
no_search None guide said e = refl
no_search (Some budget) None said e = refl
no_search (Some budget) (Some guide) said e = cc

pub no_number : (read : Text → Option ℕ) (text : Option Text) (said : ℕ → Option CommandSaid) (later : Bool)
    → ((n : ℕ) → later ≡ true → said n ≡ None) → (is_no_number read text || later) ≡ true → of_number read text said ≡ None
no_number read None said later none e = refl
no_number read (Some text) said later none e = by (read text) e
  where
    by : (o : Option ℕ) → (not (is_some o) || later) ≡ true → option_and_then said o ≡ None
    by None e = refl
    by (Some n) e = none n e
