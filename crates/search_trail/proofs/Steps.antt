-- What a trail is seen as after a change.
use Rattle.std.proofs.Common.{◌≡◌, ◌<◌, ◌≤◌, ◌-◌, ◌∙◌, min, ℕ, Bool, not, List, [], ◌∷◌, ◌++◌, Option, Some, None, length, take, drop, slice_get, slice_set, slice_index_or, refl, sym, ap, subst, arith}
use Rattle.std.proofs.lemmas.Bool.{ne_eqb}
use Rattle.std.proofs.lemmas.List.{get_or_past, length-drop, length-set, take_all}
use Rattle.std.proofs.lemmas.Option.{get_or_from_slice_get}
use Rattle.currency_base.specs.Literals.{var_of, is_negative}
use Rattle.currency_base.specs.declared.lit.Lit.{Lit}
use Rattle.search_trail.specs.Trails.{Entry, IsFree, ScopedValues, Trail, assumed, implied, rebased, undone, value_in}
use Rattle.search_trail.specs.Kept.{IsTrail, entries_of, freed, reason_at}
use Rattle.search_trail.proofs.EntryFacts.{as_many, entries_more, entries_rebased, entries_take, lits_of_entries}
use Rattle.search_trail.proofs.ValueLists.{freed_length}

-- a trail as its parts
abbrev pub seen : List (Option Bool) → List Lit → List ℕ → List ℕ → ℕ → List ℕ → Trail
seen values lits reasons starts gone scope = record {
  vars = length values;
  entries = entries_of reasons lits;
  starts =
      starts;
  gone = gone;
  scope = scope;
}

pub same_trail : (vars vars' : ℕ) (entries entries' : List Entry) (starts starts' : List ℕ) (gone gone' : ℕ) (scope : List ℕ)
    → vars ≡ vars' → entries ≡ entries' → starts ≡ starts' → gone ≡ gone'
    → ◌≡◌ {A = Trail} (record { vars = vars; entries = entries; starts = starts; gone = gone; scope = scope })
    (record { vars = vars'; entries = entries'; starts = starts'; gone = gone'; scope = scope })
same_trail vars vars' entries entries' starts starts' gone gone' scope a b c d = rw (a, b, c, d) refl

module _ (values : List (Option Bool)) (lits : List Lit) (places reasons starts : List ℕ) (gone lits_room starts_room : ℕ)
    (is : IsTrail values lits places reasons starts gone lits_room starts_room) (scope : List ℕ) (lit : Lit) where
  -- a variable that is free has no value by the literals
  pub fresh_of : (t : Trail) → seen values lits reasons starts gone scope ≡ t → IsFree t (var_of lit) → value_in lits
      (var_of lit) ≡ None
  fresh_of t view_is free =
      ap (λ ls. value_in ls (var_of lit)) (sym (lits_of_entries reasons lits))
      ∙ subst (λ (u : Trail). IsFree u (var_of lit)) (sym view_is) free

  pub inside_of : (t : Trail) → seen values lits reasons starts gone scope ≡ t → var_of lit < t.vars → var_of lit < length values
  inside_of t view_is within = subst (λ (u : Trail). var_of lit < u.vars) (sym view_is) within

  module _ (fresh : value_in lits (var_of lit) ≡ None) (inside : var_of lit < length values) where
    pub seen_implied : (clause : ℕ) → reason_at clause ≡ Some clause
        → seen (slice_set values (var_of lit) (Some (not (is_negative lit)))) (lits ++ lit ∷ [])
        (slice_set reasons (var_of lit) clause) starts gone scope
        ≡ implied (seen values lits reasons starts gone scope) lit clause
    seen_implied clause is_some =
        same_trail _ _ _ _ _ _ _ _ _ (length-set values (var_of lit) (Some (not (is_negative lit))))
        (entries_more reasons lits lit clause (Some clause) fresh (omega (arith, inside, is.reasons_length)) is_some) refl refl

    pub seen_assumed : seen (slice_set values (var_of lit) (Some (not (is_negative lit)))) (lits ++ lit ∷ [])
        (slice_set reasons (var_of lit) 4294967295)
        (starts ++ length lits ∷ []) gone scope
        ≡ assumed (seen values lits reasons starts gone scope) lit
    seen_assumed =
        same_trail _ _ _ _ _ _ _ _ _ (length-set values (var_of lit) (Some (not (is_negative lit))))
        (entries_more reasons lits lit 4294967295 None fresh (omega (arith, inside, is.reasons_length)) refl)
        (ap (λ n. starts ++ n ∷ []) (sym (as_many reasons lits))) refl

-- another reason for a variable
pub seen_rebased : (values : List (Option Bool)) (lits : List Lit) (reasons starts : List ℕ) (gone : ℕ) (scope : List ℕ)
    (var clause : ℕ)
    → var < length reasons → reason_at clause ≡ Some clause
    → seen values lits (slice_set reasons var clause) starts gone scope
    ≡ rebased (seen values lits reasons starts gone scope) var clause
seen_rebased values lits reasons starts gone scope var clause within is =
    same_trail _ _ _ _ _ _ _ _ _ refl (entries_rebased reasons lits var clause within is) refl refl

-- a clause's number stands for it
pub reason_some : (clause : ℕ) → clause < 4294967295 → reason_at clause ≡ Some clause
reason_some clause few = rw (ne_eqb clause 4294967295 (λ e. absurd (omega (arith, e, few)))) refl

-- the levels above one are gone
pub seen_undone : (values : List (Option Bool)) (lits : List Lit) (reasons starts : List ℕ) (gone level cut : ℕ) (scope : List ℕ)
    → slice_get starts level ≡ Some cut
    → seen (freed values (drop cut lits)) (take cut lits) reasons (take level starts) (min gone cut) scope ≡ undone
    (seen values lits reasons starts gone scope) level
seen_undone values lits reasons starts gone level cut scope at =
    let begins : slice_index_or starts level (length (entries_of reasons lits)) ≡ cut = get_or_from_slice_get starts
    level cut (length (entries_of reasons lits)) at in
    same_trail _ _ _ _ _ _ _ _ _ (freed_length values (drop cut lits))
    (entries_take reasons cut lits ∙ ap (λ n. take n (entries_of reasons lits)) (sym begins)) refl (ap (min gone) (sym begins))

-- there are no levels above the last
pub seen_whole : (values : List (Option Bool)) (lits : List Lit) (reasons starts : List ℕ) (gone level : ℕ) (scope : List ℕ)
    → length starts ≤ level → gone ≤ length lits
    → seen values lits reasons starts gone scope ≡ undone (seen values lits reasons starts gone scope) level
seen_whole values lits reasons starts gone level scope top few =
    let all : slice_index_or starts level (length (entries_of reasons lits)) ≡ length (entries_of reasons lits) =
    get_or_past starts level (length (entries_of reasons lits)) top in
    let entries : take (slice_index_or starts level (length (entries_of reasons lits))) (entries_of reasons lits) ≡
    entries_of reasons lits =
    ap (λ n. take n (entries_of reasons lits)) all ∙ take_all (length (entries_of reasons lits))
    (entries_of reasons lits) (omega arith) in
    let least : min gone (slice_index_or starts level (length (entries_of reasons lits))) ≡ gone =
    ap (min gone) all ∙ omega (arith, few, as_many reasons lits) in
    same_trail _ _ _ _ _ _ _ _ _ refl (sym entries) (sym (take_all level starts top)) (sym least)

-- the literals from a place on
pub from_place : (lits lent : List Lit) (cut : ℕ) → lent ≡ lits → take (length lent - cut) (drop cut lent) ≡ drop cut lits
from_place lits lent cut same =
    take_all (length lent - cut) (drop cut lent) (omega (arith, length-drop cut lent)) ∙ ap (drop cut) same

-- so the values without those of these literals
pub freeing_of : (values : ScopedValues) (lits lent : List Lit) (cut : ℕ) (values' : ScopedValues) → lent ≡ lits
    → values' ≡ record values { given = freed values.given (take (length lent - cut) (drop cut lent)) }
    → values' ≡ record values { given = freed values.given (drop cut lits) }
freeing_of values lits lent cut values' same is =
    is ∙ ap (λ (ls : List Lit). let v : ScopedValues = record values { given = freed values.given ls } in v)
    (from_place lits lent cut same)
