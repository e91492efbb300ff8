use Rattle.std.proofs.Common.{◌≡◌, ◌-◌, ◌+◌, ◌<◌, ◌≤◌, ◌∙◌, ℕ, [], ◌∷◌, ◌++◌, length, take, slice_index_or, slice_set, ap, sym, subst, rules, arith}
use Rattle.std.proofs.lemmas.List.{take_more_set, length-take-le, length-set}
use Rattle.std.proofs.lemmas.Option.{slice_get-get_or}
use Rattle.completion_check.specs.Breaks.{AreTested, AreRows, NoneBreaks, BreaksFirst}
use Rattle.completion_check.proofs.Kept.{each_at_more}
use Rattle.completion_check.proofs.Fronts.{none_failed, none_concluded, breaks_here}
use Rattle.completion_check.proofs.Searched.{tested_next, tested_push, none_next, first_next, rows_push}
use Rattle.completion_check.proofs.search.+first_from.Goals as goal

pub returns-then-not-passes-clause-none : goal.returns-then-not-passes-clause-none
returns-then-not-passes-clause-none t c =
    let few = c.vars-vars.ensures.facts.few_vars in
    let count : length (take c.args.depth c.args.choice) ≡ c.args.depth = length-take-le c.args.depth c.args.choice
    (omega (arith, c.requires.room, c.requires.within)) in
    none_failed c.args.trial.now c.args.members.now (take c.args.depth c.args.choice)
    (c.args.trial.now.rule.vars - c.args.depth) (c.args.depth - 1)
    c.if-not-passes.ensures.no (omega (arith, c.requires.some))

pub returns-then-concludes-clause-none : goal.returns-then-concludes-clause-none
returns-then-concludes-clause-none t c =
    let front = take c.args.depth c.args.choice in
    let all = tested_next c.args.trial.now c.args.depth front c.requires.some c.requires.tested c.if-not-passes.ensures.yes in
    let same : c.args.depth ≡ c.args.trial.now.rule.vars = c.if-depth-vars.true ∙ c.vars-vars.ensures.value in
    let whole : AreTested c.args.trial.now c.args.trial.now.rule.vars front =
    subst (λ (n : ℕ). AreTested c.args.trial.now n front) same all in
    let none : c.args.trial.now.rule.vars - c.args.depth ≡ 0 = omega (arith, same) in
    rw none (none_concluded c.args.trial.now c.args.members.now front c.vars-vars.ensures.facts whole
    (sym c.concludes.ensures ∙ c.if-concludes.true))

pub returns-then-depth-vars-clause-some : goal.returns-then-depth-vars-clause-some
returns-then-depth-vars-clause-some t c =
    let front = take c.args.depth c.args.choice in
    let all = tested_next c.args.trial.now c.args.depth front c.requires.some c.requires.tested c.if-not-passes.ensures.yes in
    let same : c.args.depth ≡ c.args.trial.now.rule.vars = c.if-depth-vars.true ∙ c.vars-vars.ensures.value in
    let whole : AreTested c.args.trial.now c.args.trial.now.rule.vars front =
    subst (λ (n : ℕ). AreTested c.args.trial.now n front) same all in
    let none : c.args.trial.now.rule.vars - c.args.depth ≡ 0 = omega (arith, same) in
    let found : take c.args.trial.now.rule.vars c.args.choice ≡ front = ap (λ (n : ℕ). take n c.args.choice) (sym same) in
    rw (none, found) (breaks_here c.args.trial.now c.args.members.now front c.vars-vars.ensures.facts whole
    (sym c.concludes.ensures ∙ c.if-concludes.false))

pub first_from-requires : goal.first_from-requires
first_from-requires t c =
    let depth = c.args.depth in
    let choice = c.args.choice in
    let few = c.vars-vars.ensures.facts.few_vars in
    let vars = c.vars-vars.ensures.value in
    let row = slice_index_or c.args.members.now c.loop-row.row-index (record { 0 = 0 }) in
    let inside : depth < length choice = omega (arith, c.requires.room, c.requires.within) in
    let apart : depth ≡ c.vars-vars.result → ⊥ = c.if-depth-vars.false in
    let deeper : depth + 1 ≤ c.args.trial.now.rule.vars = omega (arith, apart, vars, c.requires.within) in
    let count : length (take depth choice) ≡ depth = length-take-le depth choice (omega arith) in
    let next : take (depth + 1) (slice_set choice depth row) ≡ take depth choice ++ row ∷ [] = take_more_set choice
    depth row inside in
    let here : row.0 < length c.args.trial.now.table = c.requires.members c.loop-row.row-index (record { 0 = 0 })
    c.loop-row-test.true in
    let all = tested_next c.args.trial.now depth (take depth choice) c.requires.some c.requires.tested
    c.if-not-passes.ensures.yes in
    let rows : AreRows c.args.trial.now.table (take depth choice ++ row ∷ []) = rows_push
    (length c.args.trial.now.table) (take depth choice) row c.requires.rows here in
    let tested : AreTested c.args.trial.now depth (take depth choice ++ row ∷ []) = tested_push c.args.trial.now
    depth (take depth choice) row count all in
    let bound : depth + 1 - 1 ≡ depth = omega arith in (
      search rules,
      (
        length-set choice depth row ∙ c.requires.room,
        (omega arith, (deeper, (c.requires.members, (c.requires.ascend, (rw next rows, rw (next, bound) tested))))),
      ),
    )

pub returns-in-Some-clause-some : goal.returns-in-Some-clause-some
returns-in-Some-clause-some t c =
    let depth = c.args.depth in
    let choice = c.args.choice in
    let members = c.args.members.now in
    let few = c.vars-vars.ensures.facts.few_vars in
    let vars = c.vars-vars.ensures.value in
    let i = c.loop-row.row-index in
    let row = slice_index_or members i (record { 0 = 0 }) in
    let apart : depth ≡ c.vars-vars.result → ⊥ = c.if-depth-vars.false in
    let inside : depth < length choice = omega (arith, c.requires.room, c.requires.within) in
    let next : take (depth + 1) (slice_set choice depth row) ≡ take depth choice ++ row ∷ [] = take_more_set choice
    depth row inside in
    let left : c.args.trial.now.rule.vars - (depth + 1) ≡ c.args.trial.now.rule.vars - depth - 1 = omega arith in
    let more : c.args.trial.now.rule.vars - depth ≡ c.args.trial.now.rule.vars - depth - 1 + 1 =
    omega (arith, apart, vars, c.requires.within) in
    let found = take c.args.trial.now.rule.vars c.in-Some.found in
    let deep : BreaksFirst c.args.trial.now members (c.args.trial.now.rule.vars - depth - 1)
    (take depth choice ++ row ∷ []) found = rw (next, left) at c.in-Some.ensures.some in
    rw more (first_next c.args.trial.now members (take depth choice) found (c.args.trial.now.rule.vars - depth - 1) i
    row c.requires.ascend
    (slice_get-get_or members i (record { 0 = 0 }) c.loop-row-test.true) c.loop-row.invariant deep)

pub loop-row-preserved : goal.loop-row-preserved
loop-row-preserved t c =
    let depth = c.args.depth in
    let choice = c.args.choice in
    let members = c.args.members.now in
    let few = c.vars-vars.ensures.facts.few_vars in
    let vars = c.vars-vars.ensures.value in
    let i = c.loop-row.row-index in
    let row = slice_index_or members i (record { 0 = 0 }) in
    let apart : depth ≡ c.vars-vars.result → ⊥ = c.if-depth-vars.false in
    let inside : depth < length choice = omega (arith, c.requires.room, c.requires.within) in
    let next : take (depth + 1) (slice_set choice depth row) ≡ take depth choice ++ row ∷ [] = take_more_set choice
    depth row inside in
    let left : c.args.trial.now.rule.vars - (depth + 1) ≡ c.args.trial.now.rule.vars - depth - 1 = omega arith in
    let deep : NoneBreaks c.args.trial.now members (c.args.trial.now.rule.vars - depth - 1)
    (take depth choice ++ row ∷ []) = rw (next, left) at c.in_default.ensures.none in
    each_at_more (λ _ r. NoneBreaks c.args.trial.now members (c.args.trial.now.rule.vars - depth - 1)
    (take depth choice ++ r ∷ [])) members i row
    (slice_get-get_or members i (record { 0 = 0 }) c.loop-row-test.true) deep c.loop-row.invariant

pub returns-clause-none : goal.returns-clause-none
returns-clause-none t c =
    let depth = c.args.depth in
    let vars = c.vars-vars.ensures.value in
    let apart : depth ≡ c.vars-vars.result → ⊥ = c.if-depth-vars.false in
    let more : c.args.trial.now.rule.vars - depth ≡ c.args.trial.now.rule.vars - depth - 1 + 1 =
    omega (arith, apart, vars, c.requires.within) in
    rw more (none_next c.args.trial.now c.args.members.now (take depth c.args.choice) (c.args.trial.now.rule.vars - depth - 1)
    (λ k row below at. c.loop-row.invariant k row (omega arith) at))
