-- Values of variables.
use Rattle.std.proofs.Common.{◌≡◌, ◌<◌, ◌⊎◌, inl, inr, ℕ, zero, suc, List, [], ◌∷◌, map, length, replicate, Option, None, Some, option_map, slice_get, slice_set, unwrap_or, refl, sym, ap, ◌∙◌, arith}
use Rattle.std.proofs.lemmas.Bool.{cases_eq}
use Rattle.std.proofs.lemmas.List.{length-replicate, length-set}
use Rattle.std.proofs.lemmas.Option.{none-some, same_Some, slice_get_cases}
use Rattle.currency_base.specs.declared.value.Value.{Value}
use Rattle.ucq_answers.specs.Partly.{value_at, values_of}
use Rattle.match_candidates.specs.Ways.{Agrees}

pub none_all : {B : Type 0} (now : B → Value) (n : ℕ) → map (λ value. option_map now value) (replicate n None) ≡ replicate n None
none_all now zero = refl
none_all now (suc n) = ap (λ l. None ∷ l) (none_all now n)

-- ---- one value is given

pub get_given : {A : Type 0} (xs : List A) (i : ℕ) (x : A) → i < length xs → slice_get (slice_set xs i x) i ≡ Some x
get_given [] i x within = absurd (omega (arith, within))
get_given (y ∷ ys) zero x within = refl
get_given (y ∷ ys) (suc i) x within = get_given ys i x (omega (arith, within))

pub get_other : {A : Type 0} (xs : List A) (i j : ℕ) (x : A) → (j ≡ i → ⊥) → slice_get (slice_set xs i x) j ≡ slice_get xs j
get_other [] i j x apart = refl
get_other (y ∷ ys) zero zero x apart = absurd (apart refl)
get_other (y ∷ ys) zero (suc j) x apart = refl
get_other (y ∷ ys) (suc i) zero x apart = refl
get_other (y ∷ ys) (suc i) (suc j) x apart = get_other ys i j x (λ same. apart (ap (λ n. suc n) same))

-- a variable that is there and has no value
pub is_unknown : (b : List (Option Value)) (v : ℕ) → v < length b → value_at b v ≡ None → slice_get b v ≡ Some None
is_unknown b v within none = elim ((slice_get_cases b v).1) [
  | inl one ↦
      let own : unwrap_or (slice_get b v) None ≡ one.0 = ap (λ o. unwrap_or o None) one.2 in
      one.2 ∙ ap Some (sym own ∙ none)
  | inr past ↦ let p = past.0 in absurd (omega (arith, within, p))
]

module _ (b : List (Option Value)) (v : ℕ) (unknown : slice_get b v ≡ Some None) where
  -- values that have it agree with what was known before
  pub agreed_before : (x : Value) (values : List Value) → Agrees (slice_set b v (Some x)) values → Agrees b values
  agreed_before x values is = record {
    as_many = is.as_many ∙ length-set b v (Some x);
    known = λ w y at. is.known w y (get_other b v w (Some x) (λ same. none-some y (same_Some None (Some y)
        (sym unknown ∙ ap (slice_get b) (sym same) ∙ at))) ∙ at);
  }

  pub agreed_after : (x : Value) (values : List Value) → v < length b → slice_get values v ≡ Some x → Agrees b values
      → Agrees (slice_set b v (Some x)) values
  agreed_after x values within has is = record {
    as_many = is.as_many ∙ sym (length-set b v (Some x));
    known = λ w y at. by w y at (cases_eq w v);
  }
    where
      by : (w : ℕ) (y : Value) → slice_get (slice_set b v (Some x)) w ≡ Some (Some y) → (w ≡ v) ⊎ (w ≡ v → ⊥)
          → slice_get values w ≡ Some y
      by w y at (inl same) =
          let own : Some (Some x) ≡ Some (Some y) = sym (get_given b v (Some x) within)
          ∙ ap (slice_get (slice_set b v (Some x))) (sym same) ∙ at in
          ap (slice_get values) same ∙ has ∙ same_Some (Some x) (Some y) own
      by w y at (inr apart) = is.known w y (sym (get_other b v w (Some x) apart) ∙ at)

-- ---- all values are known

pub known_is : (b : List (Option Value)) (values : List Value) → ((v : ℕ) → slice_get b v ≡ Some None → ⊥)
    → Agrees b values → values ≡ values_of b
known_is [] [] full is = refl
known_is [] (y ∷ ys) full is = absurd (let many = is.as_many in omega (arith, many))
known_is (o ∷ b) [] full is = absurd (let many = is.as_many in omega (arith, many))
known_is (None ∷ b) (y ∷ ys) full is = absurd (full 0 refl)
known_is (Some x ∷ b) (y ∷ ys) full is =
    let first : y ≡ x = same_Some y x (is.known 0 x refl) in
    let rest = known_is b ys (λ v at. full (suc v) at) (record {
      as_many = let many = is.as_many in omega (arith, many);
      known = λ v z at. is.known (suc v) z at;
    }) in
    ap (λ z. z ∷ ys) first ∙ ap (λ zs. x ∷ zs) rest

pub known_agrees : (b : List (Option Value)) → ((v : ℕ) → slice_get b v ≡ Some None → ⊥) → Agrees b (values_of b)
known_agrees [] full = record { as_many = refl; known = λ v x at. absurd (none-some (Some x) at) }
known_agrees (None ∷ b) full = absurd (full 0 refl)
known_agrees (Some x ∷ b) full =
    let rest = known_agrees b (λ v at. full (suc v) at) in
    record { as_many = ap (λ n. suc n) rest.as_many; known = λ v y at. by rest v y at }
  where
    by : Agrees b (values_of b) → (v : ℕ) (y : Value) → slice_get (Some x ∷ b) v ≡ Some (Some y)
        → slice_get (x ∷ values_of b) v ≡ Some y
    by rest zero y at = same_Some (Some x) (Some y) at
    by rest (suc v) y at = rest.known v y at

-- ---- none is known

pub none_known : (n v : ℕ) (x : Value) → slice_get (replicate n None) v ≡ Some (Some x) → ⊥
none_known zero v x at = none-some (Some x) at
none_known (suc n) zero x at = none-some x (same_Some None (Some x) at)
none_known (suc n) (suc v) x at = none_known n v x at

pub none_agrees : (n : ℕ) (values : List Value) → length values ≡ n → Agrees (replicate n None) values
none_agrees n values many = record {
  as_many = many
      ∙ sym (length-replicate n None);
  known = λ v x at. absurd (none_known n v x at);
}
