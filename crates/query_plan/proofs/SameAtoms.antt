-- Lists of the same atoms.
use Rattle.std.proofs.Common.{◌≡◌, ◌+◌, ◌<◌, ◌⊎◌, inl, inr, ℕ, List, [], ◌∷◌, ◌++◌, length, get_or, take, sym, subst, ap, ◌∙◌, append_assoc}
use Rattle.std.specs.List.{Contains, remove}
use Rattle.std.specs.List.Sorted.{IsPermutation}
use Rattle.std.proofs.lemmas.List.{take_more}
use Rattle.std.proofs.lemmas.List.Elements.{Contains-append_left, Contains-push, Contains-push_cases}
use Rattle.std.proofs.lemmas.List.Sorted.{Contains-permutation, IsPermutation-append_right, IsPermutation-remove, IsPermutation-sym}
use Rattle.query_model.specs.declared.query.Atom.{Atom}
use Rattle.query_plan.specs.Plans.{AreSameAtoms}

-- an atom that is among the others
kept : (atoms steps : List Atom) (a : Atom) → Contains steps a → AreSameAtoms atoms steps → AreSameAtoms (atoms ++ a ∷ []) steps
kept atoms steps a has are =
    record {
      each = λ x is. Contains-append_left atoms (a ∷ []) x (are.each x is);
      all = λ x is. by x (Contains-push_cases atoms a x is);
    }
  where
    by : (x : Atom) → Contains atoms x ⊎ (a ≡ x) → Contains steps x
    by x (inl before) = are.all x before
    by x (inr same) = subst (Contains steps) same has

more : (atoms steps : List Atom) (a : Atom) → AreSameAtoms atoms steps → AreSameAtoms (atoms ++ a ∷ []) (steps ++ a ∷ [])
more atoms steps a are =
    record {
      each = λ x is. to x (Contains-push_cases steps a x is);
      all = λ x is. from x (Contains-push_cases atoms a x is);
    }
  where
    to : (x : Atom) → Contains steps x ⊎ (a ≡ x) → Contains (atoms ++ a ∷ []) x
    to x (inl before) = Contains-append_left atoms (a ∷ []) x (are.each x before)
    to x (inr same) = subst (Contains (atoms ++ a ∷ [])) same (Contains-push atoms a)

    from : (x : Atom) → Contains atoms x ⊎ (a ≡ x) → Contains (steps ++ a ∷ []) x
    from x (inl before) = Contains-append_left steps (a ∷ []) x (are.all x before)
    from x (inr same) = subst (Contains (steps ++ a ∷ [])) same (Contains-push steps a)

-- one more atom of the text
pub kept_more : (atoms steps : List Atom) (i : ℕ) (a : Atom) → i < length atoms → a ≡ get_or atoms i a → Contains steps a
    → AreSameAtoms (take i atoms) steps → AreSameAtoms (take (i + 1) atoms) steps
kept_more atoms steps i a below is has are =
    let next : take (i + 1) atoms ≡ take i atoms ++ a ∷ [] = take_more atoms i a below ∙ ap (λ e. take i atoms ++ e ∷ [])
    (sym is) in
    subst (λ l. AreSameAtoms l steps) (sym next) (kept (take i atoms) steps a has are)

pub push_more : (atoms steps now : List Atom) (i : ℕ) (a : Atom) → i < length atoms → a ≡ get_or atoms i a
    → now ≡ steps ++ a ∷ [] → AreSameAtoms (take i atoms) steps → AreSameAtoms (take (i + 1) atoms) now
push_more atoms steps now i a below is after are =
    let next : take (i + 1) atoms ≡ take i atoms ++ a ∷ [] = take_more atoms i a below ∙ ap (λ e. take i atoms ++ e ∷ [])
    (sym is) in
    subst (λ l. AreSameAtoms (take (i + 1) atoms) l) (sym after)
    (subst (λ l. AreSameAtoms l (steps ++ a ∷ [])) (sym next) (more (take i atoms) steps a are))

-- in another order
permuted : (atoms steps now : List Atom) → AreSameAtoms atoms steps → IsPermutation steps now → AreSameAtoms atoms now
permuted atoms steps now are moved =
    record {
      each = λ x is. are.each x (Contains-permutation now steps x (IsPermutation-sym steps now moved) is);
      all = λ x is. Contains-permutation steps now x moved (are.all x is);
    }

-- one atom is moved from what is left to the end of the others
pub moved_on : (atoms steps steps_now left left_now : List Atom) (i : ℕ) (x : Atom) → i < length left
    → x ≡ get_or left i x → left_now ≡ remove left i → steps_now ≡ steps ++ x ∷ []
    → AreSameAtoms atoms (steps ++ left) → AreSameAtoms atoms (steps_now ++ left_now)
moved_on atoms steps steps_now left left_now i x below is rest after before =
    permuted atoms (steps ++ left) (steps_now ++ left_now) before
    (subst (λ l. IsPermutation (steps ++ left) (l ++ left_now)) (sym after)
    (subst (λ l. IsPermutation (steps ++ left) ((steps ++ x ∷ []) ++ l)) (sym rest)
    (subst (IsPermutation (steps ++ left)) (sym (append_assoc steps (x ∷ []) (remove left i)))
    (IsPermutation-append_right steps left (x ∷ remove left i) (IsPermutation-remove left i x below is)))))
