-- Reports that are tried one after another.
use Rattle.std.proofs.Common.{◌≡◌, ◌+◌, ◌≤◌, ◌∙◌, ◌++◌, ◌∷◌, ℕ, List, [], Some, length, slice_get, take, sym, ap, subst}
use Rattle.std.proofs.lemmas.List.{take_all, take_more}
use Rattle.std.proofs.lemmas.List.Elements.{All-push}
use Rattle.std.proofs.lemmas.Option.{get_or_from_slice_get, slice_get_within}
use Rattle.report_model.specs.declared.report.Report.{Report}
use Rattle.report_verify.specs.Shown.{ShowsVerdict}
use Rattle.spec_model.specs.Spec.{Spec}
use Rattle.spec_model.specs.declared.question.Question.{Question}
use Rattle.currency_session.specs.Sessions.{IsFirstShown, NoneShows}

-- none of the reports so far, nor the next, shows its verdict
pub none_more : (s : Spec) (q : Question) (kept : List Report) (place : ℕ) (r : Report) → slice_get kept place ≡ Some r
    → NoneShows s q (take place kept) → (ShowsVerdict s q r → ⊥) → NoneShows s q (take (place + 1) kept)
none_more s q kept place r at none not_this =
    subst (NoneShows s q)
    (sym (take_more kept place r (slice_get_within kept place r at)
    ∙ ap (λ (x : Report). take place kept ++ x ∷ []) (get_or_from_slice_get kept place r r at)))
    (All-push (λ (x : Report). ShowsVerdict s q x → ⊥) (take place kept) r none not_this)

-- nor does any in the end
pub none_shows : (s : Spec) (q : Question) (kept : List Report) (place : ℕ) → length kept ≤ place
    → NoneShows s q (take place kept) → NoneShows s q kept
none_shows s q kept place past none = subst (NoneShows s q) (take_all place kept past) none

-- the next is the first that does
pub first_is : (s : Spec) (q : Question) (kept : List Report) (place : ℕ) (r : Report) → slice_get kept place ≡ Some r
    → NoneShows s q (take place kept) → ShowsVerdict s q r → IsFirstShown s q kept place
first_is s q kept place r at none shows = record { report = r; is_report = at; shows = shows; before = none }
