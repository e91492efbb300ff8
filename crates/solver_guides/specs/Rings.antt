-- Rings: guides that take turns.
use Rattle.std.specs.Prelude.{◌≡◌, ◌<◌, ◌+◌, ℕ, Bool, true, false, List, [], ◌∷◌, Option, Some, option_and_then, if◌then◌else◌, nat_lt, slice_get, vec_len}
use Rattle.std.specs.DynBox.{dyn_box_with}
use Rattle.std.specs.declared.alloc.Global.{Global}
use Rattle.std.specs.declared.dyn_box.DynBox.{DynBox}
use Rattle.currency_base.specs.declared.lit.Lit.{Lit}
use Rattle.search_trail.specs.Trails.{ScopedValues}
use Rattle.solver_guides.specs.declared.ring.Guides.{Guides}

-- how many guides there are
abbrev pub count_of : {X : Type 0} {P : X → Type 0} → Guides X P → ℕ
count_of ring = vec_len ring.guides

-- whose turn it is
abbrev pub place_of : {X : Type 0} {P : X → Type 0} → Guides X P → ℕ
place_of ring = ring.at

-- the guides, in their order
abbrev pub guides_of : {X : Type 0} {P : X → Type 0} → Guides X P → List (DynBox X Global P)
guides_of ring = ring.guides.items

-- the place after one, in a ring of so many
abbrev pub next_place : ℕ → ℕ → ℕ
next_place count place = if nat_lt (place + 1) count then place + 1 else 0

-- what the guide at a place chooses, where there is one
abbrev pub choice_at : {B : Type 0} → (B → ScopedValues → Option Lit) → List B → ℕ → ScopedValues → Option Lit
choice_at choice guides place values = option_and_then (λ guide. choice guide values) (slice_get guides place)

-- what the guide chooses whose turn it is; none where there is no guide
abbrev pub current_choice : {X : Type 0} {P : X → Type 0} → (DynBox X Global P → ScopedValues → Option Lit)
    → Guides X P → ScopedValues → Option Lit
current_choice choice ring values = choice_at choice (guides_of ring) (place_of ring) values

-- each of so many guides has made room for so many variables
abbrev pub HaveRoom : {B : Type 0} → (B → ℕ → Bool) → ℕ → List B → ℕ → Type 0
HaveRoom has_room vars guides count = (place : ℕ) (guide : _) → place < count → slice_get guides place ≡ Some guide
    → has_room guide vars ≡ true

-- a guide was asked to make room for so many variables: it told whether there was memory, and the call left the new one
pub record IsAsked {X : Type 0} {P : X → Type 0} (may_fit : (guide : DynBox X Global P) → ℕ → Bool → P guide.vtable → Bool)
    (vars : ℕ) (old : DynBox X Global P) (fits : Bool) (new : DynBox X Global P) : Type 0 where
  pub value : P old.vtable
  pub is_new : new ≡ dyn_box_with old old.vtable value
  pub told : may_fit old vars fits value ≡ true

-- of guides that were each asked to make room for so many variables, those that were not refused memory are left, in their
-- order, each as its call left it
pub data AreLeft {X : Type 0} {P : X → Type 0} (may_fit : (guide : DynBox X Global P) → ℕ → Bool → P guide.vtable → Bool)
    (vars : ℕ) : List (DynBox X Global P) → List (DynBox X Global P) → Type 0 where
  none : AreLeft may_fit vars [] []
  stays : {old new : DynBox X Global P} {olds news : List (DynBox X Global P)} → IsAsked may_fit vars old true new
      → AreLeft may_fit vars olds news → AreLeft may_fit vars (old ∷ olds) (new ∷ news)
  goes : {old new : DynBox X Global P} {olds news : List (DynBox X Global P)} → IsAsked may_fit vars old false new
      → AreLeft may_fit vars olds news → AreLeft may_fit vars (old ∷ olds) news
