-- Lists cut in two.
use Rattle.std.proofs.Common.{◌≡◌, List, [], ◌∷◌, ◌++◌, ◌⊎◌, inl, inr, refl, sym, ap}
use Rattle.text_tokens.specs.Lexeme.{Lexeme}

-- two cuts of one list: one of the fronts is the other's front
pub record Overlap (a b c d : List Lexeme) : Type 0 where
  pub mid : List Lexeme
  pub longer : a ≡ c ++ mid
  pub shorter : d ≡ mid ++ b

pub overlaps : (a b c d : List Lexeme) → a ++ b ≡ c ++ d → Overlap a b c d ⊎ Overlap c d a b
overlaps [] b c d e = inr (record { mid = c; longer = refl; shorter = e })
overlaps (x ∷ a) b [] d e = inl (record { mid = x ∷ a; longer = refl; shorter = sym e })
overlaps (x ∷ a) b (y ∷ c) d e =
    let head : x ≡ y = cc in
    let tail : a ++ b ≡ c ++ d = cc in
    elim (overlaps a b c d tail) [
      | inl o ↦ inl (record { mid = o.mid; longer = (let l = o.longer in cc); shorter = o.shorter })
      | inr o ↦ inr (record { mid = o.mid; longer = (let l = o.longer in cc); shorter = o.shorter })
    ]

pub append_empty : (xs : List Lexeme) → xs ++ [] ≡ xs
append_empty [] = refl
append_empty (x ∷ xs) = ap (λ (ys : List Lexeme). x ∷ ys) (append_empty xs)

pub one_more : (front : List Lexeme) (t : Lexeme) (rest : List Lexeme) → front ++ t ∷ rest ≡ (front ++ t ∷ []) ++ rest
one_more [] t rest = refl
one_more (x ∷ front) t rest = ap (λ (ys : List Lexeme). x ∷ ys) (one_more front t rest)
