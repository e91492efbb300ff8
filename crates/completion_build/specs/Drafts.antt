-- What is built of the lists so far, and what becomes of it.
use Rattle.std.specs.Prelude.{ℕ, List, [], ◌∷◌, ◌++◌}
use Rattle.spec_model.specs.Completion.{Rankings, with_ranking}
use Rattle.completion_build.specs.declared.built.Built.{Built}
use Rattle.completion_build.specs.declared.built.Built.TheVariants.{Whole, Cyclic}
use Rattle.completion_build.specs.declared.built.Cycle.{Cycle}
use Rattle.completion_build.specs.declared.judging.Judged.{Judged}
use Rattle.completion_build.specs.declared.judging.Judged.TheVariants.{Ordered, Round}

-- rankings with what is found of a list
abbrev pub rankings_with : Rankings → ℕ → ℕ → ℕ → Judged → Rankings
rankings_with c rel attr ent (Ordered list) = with_ranking c rel attr ent list
rankings_with c rel attr ent (Round cycle) = c

-- cycles with what is found of a list
abbrev pub cycles_with : List Cycle → Judged → List Cycle
cycles_with cycles (Ordered list) = cycles
cycles_with cycles (Round cycle) = cycles ++ cycle ∷ []

-- rankings, if there is no cycle
abbrev pub built_of : Rankings → List Cycle → Built
built_of c [] = Whole c
built_of c (cycle ∷ cycles) = Cyclic (cycle ∷ cycles)
