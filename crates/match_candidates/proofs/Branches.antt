-- How a search goes on at a place, and where variables stand that have no value yet.
use Rattle.std.proofs.Common.{◌≡◌, ◌+◌, ◌-◌, ◌<◌, ◌≤◌, ◌⊎◌, inl, inr, ℕ, suc, true, List, [], ◌∷◌, map, length, Option, None, Some, slice_get, slice_set, refl, sym, ap, subst, ◌∙◌, arith}
use Rattle.std.specs.List.{All, Contains}
use Rattle.std.proofs.lemmas.Bool.{cases_eq, cases_lt, false≢true}
use Rattle.std.proofs.lemmas.List.Elements.{All-map, All-weaker}
use Rattle.std.proofs.lemmas.Option.{none-some, same_Some, slice_get-get_or, slice_get_cases, slice_get_within}
use Rattle.currency_base.specs.declared.value.Value.{Value}
use Rattle.query_model.specs.declared.query.Atom.{Atom}
use Rattle.query_model.specs.declared.query.Term.{Term}
use Rattle.query_model.specs.declared.query.Term.TheVariants.{Var}
use Rattle.spec_model.specs.declared.relation.Relation.{Relation}
use Rattle.ucq_answers.specs.Partly.{value_at}
use Rattle.match_candidates.specs.Meant.{steps_of}
use Rattle.match_candidates.specs.Places.{has_at, has_known}
use Rattle.match_candidates.specs.Ways.{Agrees, AllStand, AreChoices, AreWays, IsEachWay, IsWay, StandsLater}
use Rattle.match_candidates.specs.declared.at.At.{At}
use Rattle.match_candidates.proofs.Among.{Among, from_contains, to_contains}
use Rattle.match_candidates.proofs.Bindings.{agreed_after, agreed_before, get_given, get_other, is_unknown}

among_map : {A B : Type 0} (f : A → B) (xs : List A) (x : A) → Among xs x → Among (map f xs) (f x)
among_map f [] x is = is
among_map f (y ∷ ys) x (inl same) = inl (ap f same)
among_map f (y ∷ ys) x (inr more) = inr (among_map f ys x more)

pub contains_map : {A B : Type 0} (f : A → B) (xs : List A) (x : A) → Contains xs x → Contains (map f xs) (f x)
contains_map f xs x is = to_contains (map f xs) (f x) (among_map f xs x (from_contains xs x is))

-- ---- a way for each value that is had

module _ (relations : List Relation) (at : At) (b : List (Option Value)) (v : ℕ) (within : v < length b)
    (unknown : slice_get b v ≡ Some None) where
  abbrev way : Value → List (Option Value)
  way x = slice_set b v (Some x)

  way_has : (x : Value) (values : List Value) → Agrees (way x) values → slice_get values v ≡ Some x
  way_has x values is = is.known v x (get_given b v (Some x) within)

  apart : (x : Value) (w : ℕ) → slice_get (way x) w ≡ Some None → w ≡ v → ⊥
  apart x w none same =
      let own : Some None ≡ Some (Some x) = sym none ∙ ap (slice_get (way x)) same ∙ get_given b v (Some x) within in
      none-some x (same_Some None (Some x) own)

  is_way : (x : Value) → has_at relations at x ≡ true → IsWay relations at b (Var v) (way x)
  is_way x had = record {
    agrees = λ values is. agreed_before b v unknown x values is;
    fits = λ values is. ap (has_known relations at) (way_has x values is) ∙ had;
    unknown = λ w none. sym (get_other b v w (Some x) (apart x w none)) ∙ none;
    given = λ w none same. apart x w none (same_var w same);
  }
    where
      same_var : (w : ℕ) → Var v ≡ Var w → w ≡ v
      same_var w same = cc

  pub each_way : (ways : List (List (Option Value))) → IsEachWay relations at b v ways → AreWays relations at b (Var v) ways
  each_way ways is = record {
    each = subst (All (IsWay relations at b (Var v))) (sym is.are)
        (All-map (IsWay relations at b (Var v)) way is.list (All-weaker _ (λ x. IsWay relations at b (Var v)
        (way x)) is_way is.list is.choices.each));
    all = λ values agrees fits. by values agrees (slice_get values v) refl fits;
  }
    where
      by : (values : List Value) → Agrees b values → (o : Option Value) → slice_get values v ≡ o → has_known relations at o ≡ true
          → (next : List (Option Value)) × Contains ways next × Agrees next values
      by values agrees None has fits = absurd (false≢true fits)
      by values agrees (Some x) has fits = (
        way x,
        subst (λ l. Contains l (way x)) (sym is.are) (contains_map way is.list x (is.choices.all x fits)),
        agreed_after b v unknown x values within has agrees,
      )

pub each_way_at : (relations : List Relation) (at : At) (b : List (Option Value)) (v : ℕ) (t : Term) (ways : List (List
    (Option Value)))
    → t ≡ Var v → v < length b → value_at b v ≡ None → IsEachWay relations at b v ways → AreWays relations at b t ways
each_way_at relations at b v t ways same within none is =
    subst (λ u. AreWays relations at b u ways) (sym same) (each_way relations at b v within (is_unknown b v within none) ways is)

map_twice : {A B C : Type 0} (f : B → C) (g : A → B) (xs : List A) → map (λ x. f (g x)) xs ≡ map f (map g xs)
map_twice f g [] = refl
map_twice f g (x ∷ xs) = ap (λ l. f (g x) ∷ l) (map_twice f g xs)

-- the ways are made of the values that were found
pub each_of : {R : Type 0} (relations : List Relation) (at : At) (b : List (Option Value)) (v : ℕ) (now : R
    → Value) (list : List R)
    (ways : List (List (Option Value))) → AreChoices (slice_get relations at.rel.0) at.ent at.place (map now list)
    → ways ≡ map (λ x. slice_set b v (Some (now x))) list → IsEachWay relations at b v ways
each_of relations at b v now list ways choices made = record {
  list = map now list;
  choices = choices;
  are = made ∙ map_twice (λ x. slice_set b v (Some x)) now list;
}

-- ---- where variables stand

-- where there is no item the list has ended
pub past_end : {A : Type 0} (xs : List A) (i : ℕ) → None ≡ slice_get xs i → length xs ≤ i
past_end xs i none = by (cases_lt i (length xs))
  where
    by : (i < length xs) ⊎ (length xs ≤ i) → length xs ≤ i
    by (inr past) = past
    by (inl within) = elim ((slice_get_cases xs i).1) [
      | inl one ↦ absurd (none-some one.0 (none ∙ one.2))
      | inr past ↦ past.0
    ]

pub stands_next : (relations : List Relation) (at : At) (terms : List Term) (atoms : List Atom) (b way : List
    (Option Value)) (t : Term)
    → slice_get terms at.place ≡ Some t → IsWay relations at b t way → AllStand at.place terms atoms b
    → AllStand (at.place + 1) terms atoms way
stands_next relations at terms atoms b way t here is stand = record {
  each =
      λ v none. by v none (stand.each v (is.unknown v none));
}
  where
    by : (v : ℕ) → slice_get way v ≡ Some None → StandsLater at.place terms atoms v → StandsLater (at.place + 1) terms atoms v
    by v none (inr later) = inr later
    by v none (inl place) = elim (cases_eq place.0 at.place) [
      | inl same ↦ absurd (is.given v none (same_Some t (Var v) (sym here ∙ ap (slice_get terms) (sym same) ∙ place.2)))
      | inr other ↦ let from = place.1 in inl (place.0, omega (arith, from, other), place.2)
    ]

item_at : {A : Type 0} (xs : List A) (x : A) → Contains xs x → (k : ℕ) × (slice_get xs k ≡ Some x)
item_at xs x is = (is.0, slice_get-get_or xs is.0 x is.1 ∙ ap Some is.2)

pub stands_first : (place : ℕ) (terms : List Term) (atoms rest : List Atom) (atom : Atom) (b : List (Option Value))
    → length terms ≤ place → atoms ≡ atom ∷ rest → AllStand place terms atoms b → AllStand 0 atom.terms rest b
stands_first place terms atoms rest atom b past same stand = record { each = λ v none. by v (stand.each v none) }
  where
    in_one : (v : ℕ) (one : Atom) → Among (atom ∷ rest) one → Contains one.terms (Var v) → StandsLater 0 atom.terms rest v
    in_one v one (inl is) has =
        let there = item_at atom.terms (Var v) (subst (λ (a : Atom). Contains a.terms (Var v)) (sym is) has) in
        inl (there.0, omega arith, there.1)
    in_one v one (inr more) has = inr (record { atom = one; is_atom = to_contains rest one more; stands = has })

    by : (v : ℕ) → StandsLater place terms atoms v → StandsLater 0 atom.terms rest v
    by v (inl at) = let within = slice_get_within terms at.0 (Var v) at.2 in let from = at.1 in
        absurd (omega (arith, past, within, from))
    by v (inr later) = in_one v later.atom (from_contains (atom ∷ rest) later.atom (subst
        (λ l. Contains l later.atom) same later.is_atom)) later.stands

pub all_known : (place : ℕ) (terms : List Term) (atoms : List Atom) (b : List (Option Value))
    → length terms ≤ place → atoms ≡ [] → AllStand place terms atoms b → (v : ℕ) → slice_get b v ≡ Some None → ⊥
all_known place terms atoms b past none stand v unknown = by (stand.each v unknown)
  where
    by : StandsLater place terms atoms v → ⊥
    by (inl at) = let within = slice_get_within terms at.0 (Var v) at.2 in let from = at.1 in
        absurd (omega (arith, past, within, from))
    by (inr later) = from_contains [] later.atom (subst (λ l. Contains l later.atom) none later.is_atom)

-- ---- steps

-- one place more leaves fewer steps
pub fewer_places : (terms : List Term) (atoms : List Atom) (place : ℕ) (t : Term) → slice_get terms place ≡ Some t
    → (length terms - (place + 1)) + steps_of atoms < (length terms - place) + steps_of atoms
fewer_places terms atoms place t here = let within = slice_get_within terms place t here in omega (arith, within)

-- and so does an atom more
pub fewer_atoms : (terms : List Term) (atoms rest : List Atom) (atom : Atom) (place : ℕ) → atoms ≡ atom ∷ rest
    → (length atom.terms - 0) + steps_of rest < (length terms - place) + steps_of atoms
fewer_atoms terms atoms rest atom place same =
    let steps : steps_of atoms ≡ suc (length atom.terms + steps_of rest) = ap steps_of same in omega (arith, steps)
