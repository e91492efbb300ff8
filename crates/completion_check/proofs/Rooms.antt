-- Room for one relation after another.
use Rattle.std.proofs.Common.{◌≡◌, ◌+◌, ◌<◌, ◌≤◌, ℕ, zero, suc, refl, List, [], ◌∷◌, ◌++◌, Some, length, get_or, take, slice_get, slice_set, slice_index_or, sym, ap, ◌∙◌, subst, ⊎_elim, arith}
use Rattle.std.proofs.lemmas.Bool.{cases_eq}
use Rattle.std.proofs.lemmas.List.{length-set, length_push, length-take-le, take_all, get_or-set_same, get_or-set_other}
use Rattle.std.proofs.lemmas.Option.{same_Some, none-some, slice_get-get_or}
use Rattle.spec_model.specs.declared.relation.Relation.{Relation}
use Rattle.currency_base.specs.declared.ids.RowId.{RowId}
use Rattle.entity_rows.specs.Members.{AreEntityRows}
use Rattle.completion_check.specs.Room.{HasPlaces, HasAllPlaces, HasMembers}
use Rattle.completion_check.proofs.Places.{get_of_take, get_in_take}

-- the item at a place of a list with one more at its end
push_front : {A : Type 0} (xs : List A) (y d : A) (i : ℕ) → i < length xs → slice_index_or (xs ++ y ∷ []) i d ≡
    slice_index_or xs i d
push_front [] y d i below = absurd (omega arith)
push_front (x ∷ xs) y d zero below = refl
push_front (x ∷ xs) y d (suc i) below = push_front xs y d i (omega arith)

push_end : {A : Type 0} (xs : List A) (y d : A) → slice_index_or (xs ++ y ∷ []) (length xs) d ≡ y
push_end [] y d = refl
push_end (x ∷ xs) y d = push_end xs y d

-- what holds of each relation and what is kept for it holds with one more
pub each_next : {A B : Type 0} (P : A → B → Type 0) (rs : List A) (xs : List B) (n : ℕ) (r : A) (x d : B)
    → n < length rs → r ≡ get_or rs n r → length xs ≡ n → P r x
    → ((rel : ℕ) (q : A) → slice_get (take n rs) rel ≡ Some q → P q (slice_index_or xs rel d))
    → (rel : ℕ) (q : A) → slice_get (take (n + 1) rs) rel ≡ Some q → P q (slice_index_or (xs ++ x ∷ []) rel d)
each_next P rs xs n r x d within read count here before rel q at =
    let found = get_of_take rs (n + 1) rel q at in
    let at_n : slice_get rs n ≡ Some r = slice_get-get_or rs n r within ∙ ap Some (sym read) in
    ⊎_elim
    (λ (is : rel ≡ n).
    let same : r ≡ q = same_Some r q (sym at_n ∙ ap (slice_get rs) (sym is) ∙ found.1) in
    let value : slice_index_or (xs ++ x ∷ []) rel d ≡ x = ap (λ (k : ℕ). slice_index_or (xs ++ x ∷ []) k d)
    (is ∙ sym count) ∙ push_end xs x d in
    subst (P q) (sym value) (rw same at here))
    (λ (apart : rel ≡ n → ⊥).
    let below : rel < n = omega (arith, found.0) in
    let value : slice_index_or (xs ++ x ∷ []) rel d ≡ slice_index_or xs rel d = push_front xs x d rel (omega arith) in
    subst (P q) (sym value) (before rel q (get_in_take rs n rel q found.1 below)))
    (cases_eq rel n)

-- as many relations as things that are kept for them, with one more
count_next : {A B : Type 0} (rs : List A) (xs : List B) (n : ℕ) (x : B) → n < length rs → length xs ≡ length (take n rs)
    → length (xs ++ x ∷ []) ≡ length (take (n + 1) rs)
count_next rs xs n x within count =
    let before = length-take-le n rs (omega arith) in
    let after = length-take-le (n + 1) rs (omega arith) in
    length_push xs x ∙ omega (arith, count, before, after)

-- room for each relation of a front: of none, of one more, and of all
pub room_none : (ps : List (List (List ℕ))) → ps ≡ [] → HasAllPlaces [] ps
room_none ps is = subst (HasAllPlaces []) (sym is) (record { per_relation = refl; each = λ rel r at. absurd (none-some r at) })

pub room_next : (rs : List Relation) (ps new : List (List (List ℕ))) (n : ℕ) (r : Relation) (own : List (List ℕ))
    → n < length rs → r ≡ get_or rs n r
    → HasPlaces r own → new ≡ ps ++ own ∷ [] → HasAllPlaces (take n rs) ps → HasAllPlaces (take (n + 1) rs) new
room_next rs ps new n r own within read here is room =
    let count = room.per_relation ∙ length-take-le n rs (omega arith) in
    subst (HasAllPlaces (take (n + 1) rs)) (sym is)
    (record {
      per_relation = count_next rs ps n own within room.per_relation;
      each = each_next HasPlaces rs ps n r own [] within
          read count here room.each;
    })

pub room_all : (rs : List Relation) (ps : List (List (List ℕ))) (n : ℕ) → length rs ≤ n → HasAllPlaces (take n rs) ps
    → HasAllPlaces rs ps
room_all rs ps n past room = subst (λ (all : List Relation). HasAllPlaces all ps) (take_all n rs past) room

-- the rows of each entity, for each relation of a front: of none, of one more, and of all
pub members_none : (ms : List (List (List RowId))) → ms ≡ [] → HasMembers [] ms
members_none ms is = subst (HasMembers []) (sym is) (record { per_relation = refl; each = λ rel r at. absurd (none-some r at) })

pub members_next : (rs : List Relation) (ms new : List (List (List RowId))) (n : ℕ) (r : Relation) (own : List (List RowId))
    → n < length rs → r ≡ get_or rs n r
    → AreEntityRows r.rows (length r.entities) own → new ≡ ms ++ own ∷ [] → HasMembers (take n rs) ms
    → HasMembers (take (n + 1) rs) new
members_next rs ms new n r own within read here is room =
    let count = room.per_relation ∙ length-take-le n rs (omega arith) in
    let each = each_next (λ (q : Relation). AreEntityRows q.rows (length q.entities)) rs ms n r own [] within read count here
    room.each in
    subst (HasMembers (take (n + 1) rs)) (sym is) (record {
      per_relation = count_next rs ms n own within room.per_relation;
      each
          = each;
    })

pub members_all : (rs : List Relation) (ms : List (List (List RowId))) (n : ℕ) → length rs ≤ n → HasMembers (take n rs) ms
    → HasMembers rs ms
members_all rs ms n past room = subst (λ (all : List Relation). HasMembers all ms) (take_all n rs past) room

-- what holds of each relation and what is kept for it holds after what is kept for one more was written
pub each_written : {A B : Type 0} (P : ℕ → A → B → Type 0) (rs : List A) (xs : List B) (n : ℕ) (r : A) (x d : B)
    → n < length xs → slice_get rs n ≡ Some r → P n r x
    → ((rel : ℕ) (q : A) → rel < n → slice_get rs rel ≡ Some q → P rel q (slice_index_or xs rel d))
    → (rel : ℕ) (q : A) → rel < n + 1 → slice_get rs rel ≡ Some q → P rel q (slice_index_or (slice_set xs n x) rel d)
each_written {A} P rs xs n r x d within at_n here before rel q below at =
    ⊎_elim
    (λ (is : rel ≡ n).
    let same : r ≡ q = same_Some r q (sym at_n ∙ ap (slice_get rs) (sym is) ∙ at) in
    let value : slice_index_or (slice_set xs n x) rel d ≡ x = ap (λ (k : ℕ). slice_index_or (slice_set xs n x) k d)
    is ∙ get_or-set_same xs n x d within in
    subst (P rel q) (sym value) (subst (λ (s : A). P rel s x) same (subst (λ (k : ℕ). P k r x) (sym is) here)))
    (λ (apart : rel ≡ n → ⊥). subst (P rel q) (sym (get_or-set_other xs n rel x d apart)) (before rel q (omega arith) at))
    (cases_eq rel n)

-- there is room for each relation after the places of one were written
pub has_all_places_set : (rs : List Relation) (ps : List (List (List ℕ))) (n : ℕ) (r : Relation)
    (new : List (List ℕ)) → n < length ps → slice_get rs n ≡ Some r → HasPlaces r new
    → HasAllPlaces rs ps → HasAllPlaces rs (slice_set ps n new)
has_all_places_set rs ps n r new within at_n here room =
    record {
      per_relation = length-set ps n new ∙ room.per_relation;
      each = λ rel q at.
          ⊎_elim
          (λ (is : rel ≡ n).
          let same : r ≡ q = same_Some r q (sym at_n ∙ ap (slice_get rs) (sym is) ∙ at) in
          let value : slice_index_or (slice_set ps n new) rel [] ≡ new =
          ap (λ (k : ℕ). slice_index_or (slice_set ps n new) k []) is ∙ get_or-set_same ps n new [] within in
          subst (HasPlaces q) (sym value) (subst (λ (s : Relation). HasPlaces s new) same here))
          (λ (apart : rel ≡ n → ⊥). subst (HasPlaces q) (sym (get_or-set_other ps n rel new [] apart)) (room.each rel q at))
          (cases_eq rel n);
    }
