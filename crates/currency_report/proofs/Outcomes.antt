-- Outcomes of one part after another, up to the first refusal.
use Rattle.std.proofs.Common.{◌≡◌, ◌∙◌, ◌<◌, ◌+◌, ℕ, List, [], ◌∷◌, ◌++◌, append_assoc, length, get_or, drop, drop-cons, add-one, Result, Ok, Err, refl, sym, arith}
use Rattle.currency_report.specs.Outcomes.{and_then, IsDue}
use Rattle.currency_report.specs.declared.report.ReportFault.{ReportFault}
use Rattle.currency_report.specs.declared.report.ReportFault.TheVariants.{Refused, NoMemory}

-- what is left at a place begins with the item there
pub next_left : {A : Type 0} (xs : List A) (i : ℕ) (x : A) → i < length xs → x ≡ get_or xs i x → drop i xs ≡ x ∷ drop (i + 1) xs
next_left xs i x below is = rw (add-one, drop-cons xs i x, ← is) refl

-- what is due in other words is due
pub due_is : {A : Type 0} (due other : Result A ReportFault) (outcome : Result A ReportFault) → due ≡ other
    → IsDue due outcome → IsDue other outcome
due_is due other (Ok a) same h = rw (← same) h
due_is due other (Err (Refused code line)) same h = rw (← same) h
due_is due other (Err NoMemory) same h = tt

pub regroup : {A : Type 0} (front : List A) (x : A) (rest : Result (List A) ReportFault)
    → and_then rest (λ more. Ok ((front ++ x ∷ []) ++ more)) ≡ and_then (and_then rest (λ more. Ok (x ∷ more)))
    (λ more. Ok (front ++ more))
regroup front x (Ok more) = rw append_assoc refl
regroup front x (Err fault) = refl

one_longer : {A : Type 0} (first : Result A ReportFault) (rest : Result (List A) ReportFault) (n : ℕ) (ys : List A)
    → ((more : List A) → rest ≡ Ok more → length more ≡ n) → and_then first
    (λ y. and_then rest (λ more. Ok (y ∷ more))) ≡ Ok ys → length ys ≡ n + 1
one_longer (Err e) rest n ys h same = cc
one_longer (Ok y) (Err e) n ys h same = cc
one_longer {A} (Ok y) (Ok more) n ys h same =
    let is : ◌≡◌ {A = List A} (y ∷ more) ys = cc in
    let e = h more refl in
    rw (← is) (omega (arith, e))

-- the items of a list, each with its outcome, up to the first refusal
module _ {A B : Type 0} (one : A → Result B ReportFault) (all : List A → Result (List B) ReportFault)
    (step : (x : A) (xs : List A) → all (x ∷ xs) ≡ and_then (one x) (λ y. and_then (all xs) (λ ys. Ok (y ∷ ys)))) where
  -- the item at a place comes behind those before it
  pub one_more : (xs : List A) (i : ℕ) (x : A) (front now : List B) (y : B) → i < length xs → x ≡ get_or xs i x
      → and_then (all (drop i xs)) (λ more. Ok (front ++ more)) ≡ all xs → one x ≡ Ok y → now ≡ front ++ y ∷ []
      → and_then (all (drop (i + 1) xs)) (λ more. Ok (now ++ more)) ≡ all xs
  one_more xs i x front now y below is so_far due put =
      let next = rw (next_left xs i x below is, step x (drop (i + 1) xs), due) at so_far in
      rw put (regroup front y (all (drop (i + 1) xs)) ∙ next)

  -- ... or is refused
  pub ends : (xs : List A) (i : ℕ) (x : A) (front : List B) (fault : ReportFault) → i < length xs → x ≡ get_or xs i x
      → and_then (all (drop i xs)) (λ more. Ok (front ++ more)) ≡ all xs → IsDue (one x) (Err fault) → IsDue (all xs) (Err fault)
  ends xs i x front (Refused code line) below is so_far due =
      rw (← so_far, next_left xs i x below is, step x (drop (i + 1) xs), due) refl
  ends xs i x front NoMemory below is so_far due = tt

  -- where none is refused, there are as many outcomes as items
  pub same_length : all [] ≡ Ok [] → (xs : List A) (ys : List B) → all xs ≡ Ok ys → length ys ≡ length xs
  same_length none [] ys h =
      let is : ◌≡◌ {A = List B} [] ys = (let both : ◌≡◌ {A = Result (List B) ReportFault} (Ok []) (Ok ys) = sym none ∙ h in cc) in
      rw (← is) refl
  same_length none (x ∷ xs) ys h =
      let e = one_longer (one x) (all xs) (length xs) ys (λ more. same_length none xs more) (sym (step x xs) ∙ h) in
      omega (arith, e)
