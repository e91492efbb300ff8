-- Lists that go together.
use Rattle.std.proofs.Common.{◌≡◌, ◌+◌, ◌<◌, ℕ, zero, suc, List, [], ◌∷◌, ◌++◌, length, take, get_or, Some, slice_get, refl, sym, ap, ◌∙◌}
use Rattle.std.specs.List.{AllZip}
use Rattle.std.proofs.lemmas.List.{take_more}
use Rattle.std.proofs.lemmas.Option.{none-some, same_Some}

zip_push : {A B : Type 0} (R : A → B → Type 0) (xs : List A) (ys : List B) (x : A) (y : B) → AllZip R xs ys → R x y
    → AllZip R (xs ++ x ∷ []) (ys ++ y ∷ [])
zip_push R [] [] x y all one = (one, tt)
zip_push R [] (z ∷ ys) x y all one = absurd all
zip_push R (z ∷ xs) [] x y all one = absurd all
zip_push R (z ∷ xs) (w ∷ ys) x y all one = (all.0, zip_push R xs ys x y all.1 one)

-- one more of each
pub zip_more : {A B : Type 0} (R : A → B → Type 0) (xs : List A) (ys now : List B) (i : ℕ) (x : A) (y : B)
    → i < length xs → x ≡ get_or xs i x → AllZip R (take i xs) ys → R x y
    → now ≡ ys ++ y ∷ [] → AllZip R (take (i + 1) xs) now
zip_more R xs ys now i x y below is all one after =
    let next : take (i + 1) xs ≡ take i xs ++ x ∷ [] = take_more xs i x below ∙ ap (λ z. take i xs ++ z ∷ []) (sym is) in
    rw (next, after) (zip_push R (take i xs) ys x y all one)

pub zip_length : {A B : Type 0} (R : A → B → Type 0) (xs : List A) (ys : List B) → AllZip R xs ys → length ys ≡ length xs
zip_length R [] [] all = refl
zip_length R [] (y ∷ ys) all = absurd all
zip_length R (x ∷ xs) [] all = absurd all
zip_length R (x ∷ xs) (y ∷ ys) all = ap (λ n. suc n) (zip_length R xs ys all.1)

pub zip_both : {A B : Type 0} (R : A → B → Type 0) (xs : List A) (ys : List B) (k : ℕ) (x : A) (y : B)
    → AllZip R xs ys → slice_get xs k ≡ Some x → slice_get ys k ≡ Some y → R x y
zip_both R [] ys k x y all at there = absurd (none-some x at)
zip_both R (z ∷ xs) [] k x y all at there = absurd all
zip_both R (z ∷ xs) (w ∷ ys) zero x y all at there = rw (sym (same_Some z x at), sym (same_Some w y there)) all.0
zip_both R (z ∷ xs) (w ∷ ys) (suc k) x y all at there = zip_both R xs ys k x y all.1 at there
