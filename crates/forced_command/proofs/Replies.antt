-- Where the document of `forced` is read, its forced pairs are told.
use Rattle.std.proofs.Common.{◌≡◌, ℕ, List, MatchResult, Result, Ok, Err, refl, subst, sym}
use Rattle.command_stages.proofs.OneRead.{IsOne}
use Rattle.command_stages.proofs.Outcomes.{IsLike, then_like}
use Rattle.command_stages.specs.Alike.{AreAlike}
use Rattle.command_stages.specs.Endings.{printed_text}
use Rattle.command_stages.specs.Stages.{IsSpecRead}
use Rattle.command_stages.specs.declared.done.Done.{Done}
use Rattle.command_stages.specs.declared.trouble.Trouble.{Trouble}
use Rattle.forced_command.specs.Forced.{IsForcedPrinted, IsForcedDue}
use Rattle.spec_model.specs.Spec.{Spec}

abbrev OneSpec : Type 0
OneSpec = (told : List (List ℕ × List ℕ)) (name : List ℕ) → IsOne (IsSpecRead told name)

pub printed_due : OneSpec → (told : List (List ℕ × List ℕ)) (name : List ℕ) (s : Spec) (got : Result Done Trouble)
    → IsSpecRead told name (Ok s) → IsForcedDue told name got → IsForcedPrinted s got
printed_due one_spec told name s got spec h =
    subst (λ (o : Result Spec Trouble). MatchResult o (λ x. IsForcedPrinted x got) (λ e. got ≡ Err e))
    (one_spec told name h.0 (Ok s) h.1 spec) h.2

texts_alike : (text other : List ℕ) (a b : Result Done Trouble) → a ≡ Ok (printed_text text) → b ≡ Ok (printed_text other)
    → AreAlike a b
texts_alike text other a b h k =
    subst (λ (o : Result Done Trouble). AreAlike o b) (sym h)
    (subst (λ (o : Result Done Trouble). AreAlike (Ok (printed_text text)) o) (sym k) refl)

forced_printed_like : (s : Spec) → IsLike (IsForcedPrinted s)
forced_printed_like s x y h k = texts_alike h.0 k.0 x y h.2 k.2

pub forced_like : OneSpec → (told : List (List ℕ × List ℕ)) (name : List ℕ) → IsLike (IsForcedDue told name)
forced_like one_spec told name = then_like (IsSpecRead told name) IsForcedPrinted (one_spec told name) forced_printed_like
