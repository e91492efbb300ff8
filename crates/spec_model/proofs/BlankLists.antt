-- Each list of a completion with no row is empty.
use Rattle.std.proofs.Common.{◌≡◌, ◌<◌, ◌≤◌, ℕ, List, [], All, get_or, length, refl, subst, sym, ⊎_elim}
use Rattle.std.proofs.lemmas.Bool.{cases_lt}
use Rattle.std.proofs.lemmas.List.{get_or_past}
use Rattle.std.proofs.lemmas.List.Elements.{All-get_or, All-replicate, All-map}
use Rattle.currency_base.specs.declared.ids.RowId.{RowId}
use Rattle.spec_model.specs.declared.relation.Relation.{Relation}
use Rattle.spec_model.specs.Blank.{blank_lists, blank_rankings, blank_of}
use Rattle.spec_model.specs.Completion.{IsBlank}

-- what holds of each item and of what stands for a missing one
get_or_either : {A : Type 0} (P : A → Type 0) (xs : List A) (i : ℕ) (d : A) → All P xs → P d → P (get_or xs i d)
get_or_either P xs i d all past =
    ⊎_elim (λ (h : i < length xs). All-get_or P xs i d h all)
    (λ (h : length xs ≤ i). subst P (sym (get_or_past xs i d h)) past) (cases_lt i (length xs))

-- the lists of one attribute
abbrev AreBlank : List (List RowId) → Type 0
AreBlank lists = (ent : ℕ) → get_or lists ent [] ≡ []

-- the lists of one relation
abbrev AreAllBlank : List (List (List RowId)) → Type 0
AreAllBlank attrs = (attr : ℕ) → AreBlank (get_or attrs attr [])

are_blank : (n : ℕ) → AreBlank (blank_lists n)
are_blank n ent = get_or_either (λ l. l ≡ []) (blank_lists n) ent [] (All-replicate (λ l. l ≡ []) n [] refl) refl

are_all_blank : (m n : ℕ) → AreAllBlank (blank_rankings m n)
are_all_blank m n attr = get_or_either AreBlank (blank_rankings m n) attr []
    (All-replicate AreBlank m (blank_lists n) (are_blank n)) (λ _. refl)

pub is_blank : (relations : List Relation) → IsBlank (blank_of relations)
is_blank relations rel =
    get_or_either AreAllBlank (blank_of relations) rel []
    (All-map AreAllBlank (λ r. blank_rankings (length r.attrs) (length r.entities)) relations (λ k d h. are_all_blank _ _))
    (λ _ _. refl)
