-- A walk over an owner's list, from slot to slot, which may take the slot off where it is.
use Rattle.std.proofs.Common.{◌≡◌, ◌<◌, ◌∙◌, ℕ, List, [], ◌∷◌, ◌++◌, Option, Some, None, IfSome, length, sym, ap, subst, append_assoc, arith}
use Rattle.std.proofs.lemmas.List.{append-nil}
use Rattle.watch_links.specs.Links.{IsIn, HasNoneTwice, head_of, following, without, rest_from}
use Rattle.watch_links.proofs.SlotLists.{head_in, following_in, following_stays, rest_at_head, rest_at_end, rest_is, rest_without}

-- the walk has seen these slots of the list as it was, and is at a slot of the list as it is now, or
-- at its end
pub record IsWalked (seen : List ℕ) (at : Option ℕ) (list was : List ℕ) : Type 0 where
  pub so_far : seen ++ rest_from at list ≡ was
  pub stands : IfSome at (λ slot. IsIn slot list)

pub walk_begins : (seen : List ℕ) (at : Option ℕ) (list : List ℕ) → seen ≡ [] → at ≡ head_of list → IsWalked seen at list list
walk_begins seen at list none first =
    rw (none, first) (record { so_far = rest_at_head list; stands = head_in list })

-- the slot where it is stands in the list
pub walk_stands : (seen : List ℕ) (at : Option ℕ) (list was : List ℕ) (slot : ℕ) → IsWalked seen at list was
    → at ≡ Some slot → IsIn slot list
walk_stands seen at list was slot walked is =
    subst (λ (o : Option ℕ). IfSome o (λ x. IsIn x list)) is walked.stands

rest_split : (seen : List ℕ) (at : Option ℕ) (list was : List ℕ) (slot : ℕ) → HasNoneTwice list
    → IsWalked seen at list was → at ≡ Some slot
    → rest_from at list ≡ slot ∷ rest_from (following slot list) list
rest_split seen at list was slot once walked is =
    ap (λ (o : Option ℕ). rest_from o list) is ∙ rest_is slot list once (walk_stands seen at list was slot walked is)

seen_more : (seen : List ℕ) (at : Option ℕ) (list was : List ℕ) (slot : ℕ) → HasNoneTwice list
    → IsWalked seen at list was → at ≡ Some slot
    → (seen ++ slot ∷ []) ++ rest_from (following slot list) list ≡ was
seen_more seen at list was slot once walked is =
    append_assoc seen (slot ∷ []) (rest_from (following slot list) list)
    ∙ ap (λ (xs : List ℕ). seen ++ xs) (sym (rest_split seen at list was slot once walked is)) ∙ walked.so_far

-- it goes on to the slot that follows
pub walk_goes_on : (seen seen' : List ℕ) (at at' : Option ℕ) (list was : List ℕ) (slot : ℕ) → HasNoneTwice list
    → IsWalked seen at list was → at ≡ Some slot
    → seen' ≡ seen ++ slot ∷ [] → at' ≡ following slot list → IsWalked seen' at' list was
walk_goes_on seen seen' at at' list was slot once walked is more on =
    rw (more, on) (record { so_far = seen_more seen at list was slot once walked is; stands = following_in slot list })

-- and what is left grows shorter
pub walk_falls : (seen : List ℕ) (at at' : Option ℕ) (list was : List ℕ) (slot : ℕ) → HasNoneTwice list
    → IsWalked seen at list was → at ≡ Some slot
    → at' ≡ following slot list → length (rest_from at' list) < length (rest_from at list)
walk_falls seen at at' list was slot once walked is on =
    rw (on, rest_split seen at list was slot once walked is) (omega arith)

-- the same where the slot is taken off the list
pub walk_goes_on_without : (seen seen' : List ℕ) (at at' : Option ℕ) (list list' was : List ℕ) (slot : ℕ)
    → HasNoneTwice list → IsWalked seen at list was → at ≡ Some slot
    → seen' ≡ seen ++ slot ∷ [] → at' ≡ following slot list → list' ≡ without slot list → IsWalked seen' at' list' was
walk_goes_on_without seen seen' at at' list list' was slot once walked is more on off =
    let so_far = ap (λ (xs : List ℕ). (seen ++ slot ∷ []) ++ xs) (rest_without slot list once)
    ∙ seen_more seen at list was slot once walked is in
    rw (more, on, off) (record { so_far = so_far; stands = following_stays slot list })

pub walk_falls_without : (seen : List ℕ) (at at' : Option ℕ) (list list' was : List ℕ) (slot : ℕ) → HasNoneTwice list
    → IsWalked seen at list was → at ≡ Some slot
    → at' ≡ following slot list → list' ≡ without slot list → length (rest_from at' list') < length (rest_from at list)
walk_falls_without seen at at' list list' was slot once walked is on off =
    rw (on, off, rest_without slot list once, rest_split seen at list was slot once walked is) (omega arith)

-- at its end the walk has seen the whole list as it was
pub walk_ends : (seen : List ℕ) (at : Option ℕ) (list was : List ℕ) → IsWalked seen at list was → at ≡ None → seen ≡ was
walk_ends seen at list was walked is =
    let rest : rest_from at list ≡ [] = ap (λ (o : Option ℕ). rest_from o list) is ∙ rest_at_end list in
    sym (append-nil seen) ∙ ap (λ (xs : List ℕ). seen ++ xs) (sym rest) ∙ walked.so_far
