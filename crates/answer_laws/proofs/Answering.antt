-- Whether a tuple is an answer is decided: values that meet a disjunct are values of the instance.
use Rattle.std.proofs.Common.{◌≡◌, ℕ, zero, suc, List, [], ◌∷◌, ◌++◌, All, Contains, Some, length, map, slice_get, slice_index_or, refl, sym, ap, subst, ◌∙◌, inl, arith}
use Rattle.std.proofs.lemmas.Bool.{cases_eq}
use Rattle.std.proofs.lemmas.List.{get_or_default}
use Rattle.std.proofs.lemmas.List.Elements.{All-contains, Contains-append_left, Contains-append_right}
use Rattle.std.proofs.lemmas.Option.{same_Some, none-some, slice_get-get_or}
use Rattle.currency_base.specs.declared.value.Value.{Value}
use Rattle.query_model.specs.Answers.{Fits, FitsTuple, AtomHolds, TestHolds, Meets, IsHead, IsAnswer, is_compared, value_of}
use Rattle.query_model.specs.Fitting.{IsDisjunct, IsQuery}
use Rattle.query_model.specs.declared.query.Atom.{Atom}
use Rattle.query_model.specs.declared.query.Disjunct.{Disjunct}
use Rattle.query_model.specs.declared.query.Query.{Query}
use Rattle.query_model.specs.declared.query.Term.{Term}
use Rattle.query_model.specs.declared.query.Term.TheVariants as term
use Rattle.query_model.specs.declared.query.Test.{Test}
use Rattle.answer_laws.proofs.Decisions.{Decided, HasOne, decided_as, both_or, true_or, value_or, option_or, list_or, all_or, one_or}
use Rattle.answer_laws.proofs.Drawn.{IsDrawn, drawn_or}
use Rattle.answer_laws.proofs.Places.{item_at, at_place, is_in}

-- ---- given values

fits_or : (values : List Value) (t : Term) (x : Value) → Decided (Fits values t x)
fits_or values (term.Var v) x = option_or value_or (slice_get values v) (Some x)
fits_or values term.Any x = inl tt
fits_or values (term.Constant c) x = value_or c x

abbrev EachFits : List Value → List Term → List Value → Type 0
EachFits values terms tuple =
    (k : ℕ) (t : Term) (x : Value) → slice_get terms k ≡ Some t → slice_get tuple k ≡ Some x → Fits values t x

each_more : (values : List Value) (t : Term) (terms : List Term) (x : Value) (tuple : List Value) → Fits values t x
    → EachFits values terms tuple → EachFits values (t ∷ terms) (x ∷ tuple)
each_more values t terms x tuple first rest zero u y at at' =
    subst (λ z. Fits values u z) (same_Some x y at') (subst (λ s. Fits values s x) (same_Some t u at) first)
each_more values t terms x tuple first rest (suc k) u y at at' = rest k u y at at'

each_or : (values : List Value) (terms : List Term) (tuple : List Value) → Decided (EachFits values terms tuple)
each_or values [] tuple = inl (λ k t x at at'. absurd (none-some t at))
each_or values (t ∷ terms) [] = inl (λ k u x at at'. absurd (none-some x at'))
each_or values (t ∷ terms) (x ∷ tuple) =
    decided_as (λ both. each_more values t terms x tuple both.0 both.1)
    (λ (each : EachFits values (t ∷ terms) (x ∷ tuple)). (each 0 t x refl refl, λ k. each (suc k)))
    (both_or (fits_or values t x) (each_or values terms tuple))

tuple_or : (values : List Value) (terms : List Term) (tuple : List Value) → Decided (FitsTuple values terms tuple)
tuple_or values terms tuple =
    decided_as (λ both. record { as_many = both.0; each = both.1 })
    (λ (fits : FitsTuple values terms tuple). (fits.as_many, fits.each))
    (both_or (cases_eq (length terms) (length tuple)) (each_or values terms tuple))

atom_or : (instance : List (List (List Value))) (values : List Value) (atom : Atom) → Decided (AtomHolds instance values atom)
atom_or instance values atom =
    decided_as
    (λ (has : HasOne (FitsTuple values atom.terms) (slice_index_or instance atom.relation.0 [])).
    record { tuple = has.one; is_there = has.is_there; fits = has.holds })
    (λ (holds : AtomHolds instance values atom). record { one = holds.tuple; is_there = holds.is_there; holds = holds.fits })
    (one_or (FitsTuple values atom.terms) (slice_index_or instance atom.relation.0 []) (λ t is. tuple_or values atom.terms t))

test_or : (values : List Value) (t : Test) → Decided (TestHolds values t)
test_or values t = true_or (is_compared (value_of values t.left) t.cmp (value_of values t.right))

meets_or : (instance : List (List (List Value))) (d : Disjunct) (values : List Value) → Decided (Meets instance d values)
meets_or instance d values =
    decided_as (λ all. record { per_var = all.0; atoms = all.1.0; tests = all.1.1 })
    (λ (meets : Meets instance d values). (meets.per_var, (meets.atoms, meets.tests)))
    (both_or (cases_eq (length values) d.vars)
    (both_or (all_or (AtomHolds instance values) (atom_or instance values) d.atoms)
    (all_or (TestHolds values) (test_or values) d.tests)))

-- the values meet the disjunct, and the tuple is its head
record IsGivenBy (instance : List (List (List Value))) (d : Disjunct) (tuple values : List Value) : Type 0 where
  meets : Meets instance d values
  is_head : IsHead values d.head tuple

given_or : (instance : List (List (List Value))) (d : Disjunct) (tuple values : List Value)
    → Decided (IsGivenBy instance d tuple values)
given_or instance d tuple values =
    decided_as (λ both. record { meets = both.0; is_head = both.1 })
    (λ (given : IsGivenBy instance d tuple values). (given.meets, given.is_head))
    (both_or (meets_or instance d values)
    (list_or (option_or value_or) (map (λ v. slice_get values v) d.head) (map (λ x. Some x) tuple)))

-- ---- the pool of an instance's values

joined : {A : Type 0} → List (List A) → List A
joined [] = []
joined (xs ∷ lists) = xs ++ joined lists

in_joined : {A : Type 0} (lists : List (List A)) (i : ℕ) (x : A) → Contains (slice_index_or lists i []) x
    → Contains (joined lists) x
unfolding joined
in_joined [] i x is = is
in_joined (xs ∷ lists) zero x is = Contains-append_left xs (joined lists) x is
in_joined (xs ∷ lists) (suc i) x is = Contains-append_right xs (joined lists) x (in_joined lists i x is)

-- each value of each tuple of each relation
abbrev pool : List (List (List Value)) → List Value
pool instance = joined (joined instance)

in_pool : (instance : List (List (List Value))) (rel : ℕ) (tuple : List Value) (x : Value)
    → Contains (slice_index_or instance rel []) tuple → Contains tuple x → Contains (pool instance) x
in_pool instance rel tuple x is there =
    let at = in_joined instance rel tuple is in
    let same : slice_index_or (joined instance) at.0 [] ≡ tuple = get_or_default (joined instance) at.0 [] tuple at.1 ∙ at.2 in
    in_joined (joined instance) at.0 x (subst (λ (t : List Value). Contains t x) (sym same) there)

-- values that meet a disjunct are of the pool, since each variable stands in an atom
values_of_pool : (instance : List (List (List Value))) (d : Disjunct) (values : List Value) → IsDisjunct d
    → Meets instance d values → All (Contains (pool instance)) values
values_of_pool instance d values is meets k e below =
    let stands = is.each_stands k (omega (arith, below, meets.per_var)) in
    let holds : AtomHolds instance values stands.atom =
    All-contains (AtomHolds instance values) d.atoms stands.atom meets.atoms stands.is_atom in
    let j = stands.stands.0 in
    let at : slice_get stands.atom.terms j ≡ Some (term.Var k) =
    slice_get-get_or stands.atom.terms j (term.Var k) stands.stands.1 ∙ ap Some stands.stands.2 in
    let item = item_at holds.tuple j (omega (arith, stands.stands.1, holds.fits.as_many)) in
    let value : slice_get values k ≡ Some item.0 = holds.fits.each j (term.Var k) item.0 at item.1 in
    at_place (Contains (pool instance)) values k e item.0 value
    (in_pool instance stands.atom.relation.0 holds.tuple item.0 holds.is_there (is_in holds.tuple j item.0 item.1))

-- ---- answers

-- some values meet the disjunct, and the tuple is its head
record IsAnswerOf (instance : List (List (List Value))) (tuple : List Value) (d : Disjunct) : Type 0 where
  values : List Value
  meets : Meets instance d values
  is_head : IsHead values d.head tuple

disjunct_or : (instance : List (List (List Value))) (tuple : List Value) (d : Disjunct) → IsDisjunct d
    → Decided (IsAnswerOf instance tuple d)
disjunct_or instance tuple d is =
    decided_as
    (λ (drawn : IsDrawn (pool instance) d.vars (IsGivenBy instance d tuple)).
    record { values = drawn.items; meets = drawn.holds.meets; is_head = drawn.holds.is_head })
    (λ (answer : IsAnswerOf instance tuple d).
    record {
      items = answer.values;
      as_many = answer.meets.per_var;
      of_pool = values_of_pool instance d answer.values is answer.meets;
      holds = record { meets = answer.meets; is_head = answer.is_head };
    })
    (drawn_or (pool instance) d.vars (IsGivenBy instance d tuple) (given_or instance d tuple))

pub answers_decided : (q : Query) → IsQuery q → (instance : List (List (List Value))) (tuple : List Value)
    → Decided (IsAnswer q instance tuple)
answers_decided q is instance tuple =
    decided_as
    (λ (has : HasOne (IsAnswerOf instance tuple) q.disjuncts).
    record {
      disjunct = has.one;
      is_disjunct = has.is_there;
      values = has.holds.values;
      meets = has.holds.meets;
      is_head = has.holds.is_head;
    })
    (λ (answer : IsAnswer q instance tuple).
    record {
      one = answer.disjunct;
      is_there = answer.is_disjunct;
      holds = record { values = answer.values; meets = answer.meets; is_head = answer.is_head };
    })
    (one_or (IsAnswerOf instance tuple) q.disjuncts
    (λ d there. disjunct_or instance tuple d (All-contains IsDisjunct q.disjuncts d is there)))
