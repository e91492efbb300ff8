-- What is due, told or unread for a command is so for the words that say it.
use Rattle.std.proofs.Common.{◌≡◌, ℕ, List, Option, Some, None, IfOk, IfSome, MatchOption, Result, Ok, Err, sym, subst}
use Rattle.program_words.specs.Words.{CommandSaid}
use Rattle.currency_cli.specs.Due.{IsDueFor, IsDue, IsDocumentDue, IsReadDue}
use Rattle.currency_cli.specs.Printed.{IsPrinted, IsPrintedFor}
use Rattle.currency_cli.specs.Words.{command_for}
use Rattle.command_stages.specs.declared.done.Done.{Done}
use Rattle.command_stages.specs.declared.trouble.Trouble.{Trouble}
use Rattle.command_stages.specs.declared.trouble.Trouble.TheVariants as trouble

pub due_for_words : (texts : Option (List (List ℕ × List ℕ))) (count : ℕ) (words : List (List ℕ)) (c : CommandSaid)
    (outcome : Result Done Trouble)
    → command_for count words ≡ Some c → IfSome texts (λ told. IsDueFor told c outcome) → IfSome texts
    (λ told. IsDue told count words outcome)
due_for_words None count words c outcome said due = tt
due_for_words (Some told) count words c outcome said due =
    subst (λ (o : Option CommandSaid). MatchOption o (outcome ≡ Err trouble.Words) (λ c. IsDueFor told c outcome)) (sym said) due

pub refused_words : (texts : Option (List (List ℕ × List ℕ))) (count : ℕ) (words : List (List ℕ)) (outcome : Result Done Trouble)
    → command_for count words ≡ None → outcome ≡ Err trouble.Words → IfSome texts (λ told. IsDue told count words outcome)
refused_words None count words outcome said is = tt
refused_words (Some told) count words outcome said is =
    subst (λ (o : Option CommandSaid). MatchOption o (outcome ≡ Err trouble.Words) (λ c. IsDueFor told c outcome)) (sym said) is

pub read_due_for_words : (texts : Option (List (List ℕ × List ℕ))) (count : ℕ) (words : List (List ℕ))
    (c : CommandSaid) (name : List ℕ)
    → command_for count words ≡ Some c → IfSome texts (λ told. IsDocumentDue told c name) → IfSome texts
    (λ told. IsReadDue told count words name)
read_due_for_words None count words c name said due = tt
read_due_for_words (Some told) count words c name said due =
    subst (λ (o : Option CommandSaid). MatchOption o ⊥ (λ c. IsDocumentDue told c name)) (sym said) due

pub printed_for_words : (texts : Option (List (List ℕ × List ℕ))) (count : ℕ) (words : List (List ℕ)) (c : CommandSaid)
    (outcome : Result Done Trouble)
    → command_for count words ≡ Some c → IfOk outcome (λ d. IfSome texts (λ told. IsPrinted told c d))
    → IfOk outcome (λ d. IsPrintedFor texts count words d)
printed_for_words texts count words c (Ok d) said told = record { command = c; said = said; printed = told }
printed_for_words texts count words c (Err e) said told = tt
