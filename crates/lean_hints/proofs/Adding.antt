-- Clauses of which each adds a literal.
use Rattle.std.proofs.Common.{◌++◌, ◌∷◌, [], refl, inr, arith, length-append}
use Rattle.currency_base.specs.Literals.{negation}
use Rattle.lean_hints.specs.Lean.{EachAddsOne}

pub adds_one : EachAddsOne
adds_one falses [] adds = record { all = falses; falsified = refl; many = omega arith }
adds_one falses (clause ∷ clauses) adds =
    let h = adds_one (falses ++ negation adds.0 ∷ []) clauses adds.2 in
    let many = h.many in
    let longer = length-append falses (negation adds.0 ∷ []) in
    record { all = h.all; falsified = inr (adds.0, adds.1.only_open, h.falsified); many = omega (arith, many, longer) }
