-- The guide that is asked for is the one that is left.
use Rattle.std.proofs.Common.{◌≡◌, ◌∙◌, ◌-◌, ℕ, Option, Some, ap, subst, sym}
use Rattle.std.specs.declared.alloc.Global.{Global}
use Rattle.std.specs.declared.dyn_box.DynBox.{DynBox}
use Rattle.currency_base.specs.declared.lit.Lit.{Lit}
use Rattle.currency_cli.specs.Guides.{IsLeft}
use Rattle.search_trail.specs.Trails.{ScopedValues}
use Rattle.solver_guides.specs.Rings.{choice_at, count_of, current_choice, guides_of}
use Rattle.solver_guides.specs.declared.ring.Guides.{Guides}

module _ {X : Type 0} {P : X → Type 0} (choice : DynBox X Global P → ScopedValues → Option Lit) (old new : Guides X P) where
  pub kept_left : (guide : Option ℕ) (number place : ℕ) → guide ≡ Some number → place ≡ number - 1 → count_of new ≡ 1
      → ((values : ScopedValues) → current_choice choice new values ≡ choice_at choice (guides_of old) place values)
      → IsLeft choice old new guide
  kept_left guide number place is at one kept =
      subst (IsLeft choice old new) (sym is)
      (one, λ values. kept values ∙ ap (λ (n : ℕ). choice_at choice (guides_of old) n values) at)
