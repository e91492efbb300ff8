-- Where a level of a parse ends with no fault, each required argument has a text.
use Rattle.std.proofs.Common.{◌≡◌, ◌⊎◌, Bool, true, false, List, [], ◌∷◌, is_some, refl, inl, inr}
use Rattle.std.specs.Prelude.{◌&&◌, not}
use Rattle.std.specs.List.{list_any}
use Rattle.std.proofs.lemmas.Bool.{or_parts}
use Rattle.clap.specs.Faults.{level_fault}
use Rattle.clap.specs.Kinds.{check_kinds}
use Rattle.clap.specs.Simple.{Shape}
use Rattle.clap.specs.Takes.{is_given}
use Rattle.clap.specs.Walk.{Row, Rule, Text, first_of, nothing_held, rows_after}
use Rattle.program_words.proofs.TextRows.{given_text}
use Rattle.program_words.proofs.TextWalks.{AreValued, level_texts}

-- the last checks pass only where none of their tests holds
pub none_wanted : (help subcommand argument : Bool) → check_kinds help subcommand argument ≡ [] →
    (subcommand ≡ false) × (argument ≡ false)
none_wanted true subcommand argument e = cc
none_wanted false true argument e = cc
none_wanted false false true e = cc
none_wanted false false false e = (refl, refl)

no_argument : (negates missing : Bool) → (not (negates && false) && missing) ≡ false → missing ≡ false
no_argument true missing e = e
no_argument false missing e = e

-- an argument of this id has to be there
abbrev pub IsRequired : Text → List Rule → Type 0
IsRequired id [] = ⊥
IsRequired id (a ∷ rest) = ((a.id ≡ id) × (a.required ≡ true)) ⊎ IsRequired id rest

not_false : (b : Bool) → not b ≡ false → b ≡ true
not_false true e = refl
not_false false e = cc

required_given : (rules : List Rule) (rows : List Row) (id : Text)
    → list_any (λ a. a.required && not (is_given a.id rows)) rules ≡ false
    → IsRequired id rules → is_given id rows ≡ true
required_given [] rows id none is = absurd is
required_given (a ∷ rest) rows id none (inl is) =
    let first = (or_parts (a.required && not (is_given a.id rows))
    (list_any (λ a. a.required && not (is_given a.id rows)) rest) none).0 in
    not_false (is_given id rows) (rw (is.0, is.1) at first)
required_given (a ∷ rest) rows id none (inr later) = required_given rest rows id
    (or_parts (a.required && not (is_given a.id rows)) (list_any (λ a. a.required && not (is_given a.id rows)) rest) none).1 later

-- the text of a required argument, in a level that goes no further down
pub required_text : (s : Shape) (words : List Text) (id : Text) → AreValued s.rules → IsRequired id s.rules
    → level_fault s [] nothing_held words false [] ≡ [] → is_some (first_of id (rows_after s.rules [] words)) ≡ true
required_text s words id valued required free =
    let end = level_texts s [] valued nothing_held words false [] free tt in
    let missing = no_argument s.subcommand_negates_reqs _ (none_wanted _ _ _ end.1).1 in
    given_text id (rows_after s.rules [] words) end.0 (required_given s.rules (rows_after s.rules [] words) id missing required)
