-- What clap's clauses say of its command, said of `line`.
use Rattle.std.proofs.Common.{◌≡◌, true, List, [], ◌∷◌, None, refl, inl, inr, subst}
use Rattle.std.specs.Prelude.{option_and_then}
use Rattle.clap.specs.Walk.{Text}
use Rattle.clap.specs.Simple.{App, HasMatchesOf, is_simple, subcommand_of, subcommand_rows_of}
use Rattle.clap.specs.Kinds.{HasKind, Kinds}
use Rattle.clap.specs.Values.{kind_of}
use Rattle.clap.specs.Faults.{fault_of, is_simple_and_free}
use Rattle.clap.specs.declared.error.Error.{Error}
use Rattle.clap.specs.declared.error.kind.ErrorKind.TheVariants.{OutOfMemory}
use Rattle.clap.specs.declared.parser.matches.ArgMatches.{ArgMatches}
use Rattle.program_words.specs.Line.{line}
use Rattle.program_words.specs.Words.{command_in, command_of, unless_fault}
use Rattle.program_words.proofs.Written.{whole_line}

-- clap's words on simple commands hold of `line`
line_is_simple : is_simple line ≡ true
unfolding whole_line
line_is_simple = refl

line_is_free : is_simple_and_free line ≡ true
unfolding whole_line
line_is_free = refl

-- where the parse succeeds, what it found says the command
pub said_by_matches : (app : App) (words : List Text) (m : ArgMatches) → app ≡ line → HasMatchesOf app words m
    → (is_simple_and_free app ≡ true → fault_of app words ≡ [])
    → option_and_then command_in (subcommand_rows_of m) ≡ command_of words
unfolding command_of
said_by_matches app words m is has free =
    let found : subcommand_rows_of m ≡ subcommand_of line words = (subst (λ a. HasMatchesOf a words m) is has line_is_simple).1 in
    let none : fault_of line words ≡ [] = subst (λ a. is_simple_and_free a ≡ true → fault_of a words ≡ []) is free line_is_free in
    rw (none, found) refl

-- where it fails, and not for want of memory, no command is said
pub none_said : (app : App) (words : List Text) (e : Error) → app ≡ line → (kind_of e ≡ OutOfMemory → ⊥)
    → (is_simple_and_free app ≡ true → HasKind (fault_of app words) e) → command_of words ≡ None
unfolding command_of
none_said app words e is memory free =
    by (fault_of line words) (subst (λ a. is_simple_and_free a ≡ true → HasKind (fault_of a words) e) is free line_is_free)
  where
    by : (kinds : Kinds) → HasKind kinds e → unless_fault kinds (option_and_then command_in (subcommand_of line words)) ≡ None
    by [] (inl out) = absurd (memory out)
    by [] (inr none) = absurd none
    by (k ∷ ks) h = refl
