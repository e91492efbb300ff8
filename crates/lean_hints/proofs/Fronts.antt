-- Hints with a last one are lean where those before it each add a literal.
use Rattle.std.proofs.Common.{◌≡◌, ◌∙◌, ◌++◌, ◌∷◌, ℕ, List, [], length, take, sym, ap, subst, arith, length-append}
use Rattle.std.proofs.Math.Seq.{take-append_seam}
use Rattle.currency_base.specs.Lists.{OnlyOnce}
use Rattle.currency_base.specs.declared.lit.Lit.{Lit}
use Rattle.refutation_log.specs.Follows.{clauses_at}
use Rattle.lean_hints.specs.Lean.{AreLean, EachAdds}

-- what stands before the last number of a list is one list
pub front_is : (xs ys : List ℕ) (x y : ℕ) → xs ++ x ∷ [] ≡ ys ++ y ∷ [] → xs ≡ ys
front_is xs ys x y same =
    let long : length xs ≡ length ys = omega (arith, length-append xs (x ∷ []), length-append ys (y ∷ []), ap length same) in
    sym (take-append_seam xs (x ∷ [])) ∙ ap (take (length xs)) same ∙ ap (λ n. take n (ys ++ y ∷ [])) long
    ∙ take-append_seam ys (y ∷ [])

pub lean_of : (earlier : List (List Lit)) (clause : List Lit) (front : List ℕ) (last : ℕ) → OnlyOnce (front ++ last ∷ [])
    → EachAdds clause (clauses_at earlier front) → AreLean earlier clause (front ++ last ∷ [])
lean_of earlier clause front last once adds = record {
  once = once;
  adds = λ other x is. subst (λ hs. EachAdds clause (clauses_at earlier hs)) (front_is front other last x is) adds;
}
