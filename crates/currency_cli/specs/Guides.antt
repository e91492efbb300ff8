-- Which guide is left where a command asks for one.
use Rattle.std.specs.Prelude.{◌≡◌, ◌-◌, ℕ, Option, Some, None}
use Rattle.std.specs.declared.alloc.Global.{Global}
use Rattle.std.specs.declared.dyn_box.DynBox.{DynBox}
use Rattle.currency_base.specs.declared.lit.Lit.{Lit}
use Rattle.program_words.specs.Words.{AskFor, CertainTableFor, CommandSaid, ConflictsIn, ExplainFor, ForcedOf, GoldenIn}
use Rattle.program_words.specs.Words.{PossibleFor, PossibleTableFor, SessionOver, TrialOf, VerifyOf}
use Rattle.search_trail.specs.Trails.{ScopedValues}
use Rattle.solver_guides.specs.Rings.{choice_at, count_of, current_choice, guides_of}
use Rattle.solver_guides.specs.declared.ring.Guides.{Guides}

-- the guide that a command asks for, counted from 1, if it asks for one
abbrev pub guide_of : CommandSaid → Option ℕ
guide_of (AskFor a) = a.guide
guide_of (VerifyOf v) = None
guide_of (ForcedOf name) = None
guide_of (TrialOf size) = None
guide_of (ExplainFor e) = e.guide
guide_of (ConflictsIn c) = c.guide
guide_of (GoldenIn g) = g.guide
guide_of (PossibleFor p) = p.guide
guide_of (CertainTableFor t) = t.guide
guide_of (PossibleTableFor t) = t.guide
guide_of (SessionOver a) = a.guide

-- where a guide is asked for, counted from 1, one guide is left, and it chooses what that one did; else all are as they were
abbrev pub IsLeft : {X : Type 0} {P : X → Type 0} → (DynBox X Global P → ScopedValues → Option Lit) → Guides X P → Guides X P
    → Option ℕ → Type 0
IsLeft choice old new None = new ≡ old
IsLeft choice old new (Some k) = (count_of new ≡ 1)
    × ((values : ScopedValues) → current_choice choice new values ≡ choice_at choice (guides_of old) (k - 1) values)
