-- Answers of lists.
use Rattle.std.proofs.Common.{◌≡◌, ◌∙◌, List, [], ◌∷◌, Result, Ok, Err, refl, ap, sym}
use Rattle.bind_faults.specs.Faults.{all_of, and_then}
use Rattle.bind_faults.specs.declared.fault.BindFault.{BindFault}

-- what comes after is the same
pub then_same : {A B : Type 0} (r : Result A BindFault) (f g : A → Result B BindFault) → ((x : A) → f x ≡ g x)
    → and_then r f ≡ and_then r g
then_same (Ok x) f g same = same x
then_same (Err e) f g same = refl

-- each answer is the same
pub all_of_same : {X A : Type 0} (f g : X → Result A BindFault) → ((x : X) → f x ≡ g x) → (xs : List X)
    → all_of f xs ≡ all_of g xs
all_of_same f g same [] = refl
all_of_same f g same (x ∷ xs) =
    ap (λ r. and_then r (λ y. and_then (all_of f xs) (λ ys. Ok (y ∷ ys)))) (same x)
    ∙ ap (λ rs. and_then (g x) (λ y. and_then rs (λ ys. Ok (y ∷ ys)))) (all_of_same f g same xs)

-- one answer more, of lists whose answers are seen in another form
pub seen_step : {B C : Type 0} (one : B → C) (others : List B → List C) (all : List B → List C) →
    ((b : B) (bs : List B) → all (b ∷ bs) ≡ one b ∷ others bs)
    → (r : Result B BindFault) (rs : Result (List B) BindFault)
    → and_then (and_then r (λ b. Ok (one b))) (λ c. and_then (and_then rs (λ bs. Ok (others bs))) (λ cs. Ok (c ∷ cs)))
    ≡ and_then (and_then r (λ b. and_then rs (λ bs. Ok (b ∷ bs)))) (λ bs. Ok (all bs))
seen_step one others all step (Ok b) (Ok bs) = ap Ok (sym (step b bs))
seen_step one others all step (Ok b) (Err e) = refl
seen_step one others all step (Err e) rs = refl
