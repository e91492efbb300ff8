-- The first name of a list that stands twice.
use Rattle.std.proofs.Common.{◌≡◌, ◌∙◌, ◌+◌, ◌<◌, ◌++◌, ◌∷◌, [], ℕ, List, length, drop, get_or, Some, None, Contains, slice_get, ap, sym, refl}
use Rattle.text_grammar.specs.declared.named.Named.{Named}
use Rattle.bind_faults.specs.Faults.{refused_at}
use Rattle.bind_faults.specs.declared.fault.BindFault.{BindFault}
use Rattle.currency_base.specs.declared.error_code.ErrorCode.TheVariants.{DuplicateName}
use Rattle.copy_bind.specs.Heads.{repeated, taken}
use Rattle.copy_bind.proofs.Places.{drop_at, free, known}

repeated_here : (before : List (List ℕ)) (named : Named) (more : List Named) (fault : BindFault) → taken before named ≡ Some fault
    → repeated before (named ∷ more) ≡ Some fault
repeated_here before named more fault is = rw is refl

repeated_later : (before : List (List ℕ)) (named : Named) (more : List Named) → taken before named ≡ None
    → repeated before (named ∷ more) ≡ repeated (before ++ named.name ∷ []) more
repeated_later before named more is = rw is refl

-- the first repeated name, where all names before it were new
pub repeated_at : (list : List Named) (i : ℕ) (before : List (List ℕ)) (named : Named) (place : ℕ) → i < length list
    → named ≡ get_or list i named
    → slice_get before place ≡ Some named.name → repeated before (drop i list) ≡ repeated [] list
    → repeated [] list ≡ Some (refused_at DuplicateName named)
repeated_at list i before named place within is at so_far =
    sym so_far ∙ ap (repeated before) (drop_at list i named within is)
    ∙ repeated_here before named (drop (i + 1) list) (refused_at DuplicateName named) (known before named place at)

-- a new name is passed over
pub new_at : (list : List Named) (i : ℕ) (before : List (List ℕ)) (named : Named) → i < length list → named ≡ get_or list i named
    → (Contains before named.name → ⊥) → repeated before (drop i list) ≡ repeated [] list
    → repeated (before ++ named.name ∷ []) (drop (i + 1) list) ≡ repeated [] list
new_at list i before named within is missing so_far =
    sym (ap (repeated before) (drop_at list i named within is)
    ∙ repeated_later before named (drop (i + 1) list) (free before named missing)) ∙ so_far
