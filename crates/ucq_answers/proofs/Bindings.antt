-- Values of variables, one more at a time.
use Rattle.std.proofs.Common.{◌≡◌, ◌≢◌, ◌+◌, ◌<◌, ◌≤◌, ℕ, zero, suc, List, [], ◌∷◌, map, length, get_or, set, drop, replicate, Option, None, Some, option_and_then, option_map, slice_get, refl, sym, ap, ◌∙◌, arith}
use Rattle.std.proofs.lemmas.List.{drop_more, drop_all, map-set}
use Rattle.std.proofs.lemmas.Option.{slice_get-map, slice_get_read}
use Rattle.currency_base.specs.declared.value.Value.{Value}
use Rattle.ucq_answers.specs.Partly.{bind, fit_each, given}

pub none_all : {B : Type 0} (now : B → Value) (n : ℕ) → map (λ value. option_map now value) (replicate n None) ≡ replicate n None
none_all now zero = refl
none_all now (suc n) = ap (λ l. None ∷ l) (none_all now n)

-- a variable that has no value is given one
pub bind_free : {B : Type 0} (now : B → Value) (xs : List (Option B)) (v : ℕ) (own : Option B) (x : B)
    → v < length xs → own ≡ get_or xs v own → own ≡ None
    → bind (map (λ value. option_map now value) xs) v (now x) ≡ Some (map (λ value. option_map now value) (set xs v (Some x)))
bind_free {B} now xs v own x below at free =
    let f : Option B → Option Value = λ value. option_map now value in
    let has : slice_get (map f xs) v ≡ Some None =
    slice_get-map f xs v ∙ ap (λ o. option_map f o) (slice_get_read xs (length xs) v own refl below at ∙ ap (λ o. Some o) free) in
    ap (λ o. given o (map f xs) v (now x)) has ∙ ap (λ l. Some l) (sym (map-set f xs v (Some x)))

-- ---- one thing after another

pub read_drop : {A : Type 0} (xs : List A) (i : ℕ) (x : A) → i < length xs → x ≡ get_or xs i x → drop i xs ≡ x ∷ drop (i + 1) xs
read_drop xs i x below is = drop_more xs i x below ∙ ap (λ u. u ∷ drop (i + 1) xs) (sym is)

pub fit_step : {T : Type 0} (step : List (Option Value) → T → Value → Option (List (Option Value)))
    (b c : List (Option Value)) (ts rest : List T) (xs more : List Value) (t : T) (x : Value)
    → ts ≡ t ∷ rest → xs ≡ x ∷ more → step b t x ≡ Some c → fit_each step b ts xs ≡ fit_each step c rest more
fit_step step b c ts rest xs more t x is_t is_x fits =
    ap (λ l. fit_each step b l xs) is_t ∙ ap (λ l. fit_each step b (t ∷ rest) l) is_x
    ∙ ap (option_and_then (λ d. fit_each step d rest more)) fits

pub fit_stop : {T : Type 0} (step : List (Option Value) → T → Value → Option (List (Option Value)))
    (b : List (Option Value)) (ts rest : List T) (xs more : List Value) (t : T) (x : Value)
    → ts ≡ t ∷ rest → xs ≡ x ∷ more → step b t x ≡ None → fit_each step b ts xs ≡ None
fit_stop step b ts rest xs more t x is_t is_x fails =
    ap (λ l. fit_each step b l xs) is_t ∙ ap (λ l. fit_each step b (t ∷ rest) l) is_x
    ∙ ap (option_and_then (λ d. fit_each step d rest more)) fails

pub fit_end : {T : Type 0} (step : List (Option Value) → T → Value → Option (List (Option Value)))
    (b : List (Option Value)) (ts : List T) (xs : List Value) (i : ℕ) → length ts ≤ i
    → length ts ≡ length xs → fit_each step b (drop i ts) (drop i xs) ≡ Some b
fit_end step b ts xs i all same =
    ap (λ l. fit_each step b l (drop i xs)) (drop_all i ts all) ∙ ap (λ l. fit_each step b [] l)
    (drop_all i xs (omega (arith, all, same)))

and_none : {A B : Type 0} (o : Option A) (f : A → Option B) → ((a : A) → f a ≡ None) → option_and_then f o ≡ None
and_none None f none = refl
and_none (Some a) f none = none a

pub fit_apart : {T : Type 0} (step : List (Option Value) → T → Value → Option (List (Option Value)))
    (b : List (Option Value)) (ts : List T) (xs : List Value) → length ts ≢ length xs
    → fit_each step b ts xs ≡ None
fit_apart step b [] [] other = absurd (other refl)
fit_apart step b [] (x ∷ xs) other = refl
fit_apart step b (t ∷ ts) [] other = refl
fit_apart step b (t ∷ ts) (x ∷ xs) other = and_none (step b t x) (λ c. fit_each step c ts xs)
    (λ c. fit_apart step c ts xs (λ same. other (ap (λ n. suc n) same)))
