-- Items that are written one after another.
use Rattle.std.proofs.Common.{◌≡◌, ℕ, ◌+◌, ◌<◌, List, [], ◌∷◌, ◌++◌, length, get_or, drop, refl, sym, ap, ◌∙◌, arith}
use Rattle.std.specs.List.{slice_range}
use Rattle.std.proofs.lemmas.List.{drop_more, take_rest}
use Rattle.text_write.specs.Pieces.{Piece}
use Rattle.text_write.specs.Spacing.{Writing, writes_all}
use Rattle.text_write.proofs.Writings.{writes_append}
use Rattle.spec_write.specs.Pieces.{listed_pieces, many_pieces}

-- pieces and then others are both written
pub both_written : (w u v : Writing) (ps qs : List Piece) → u ≡ writes_all w ps → v ≡ writes_all u qs
    → v ≡ writes_all w (ps ++ qs)
both_written w u v ps qs first second = second ∙ ap (λ x. writes_all x qs) first ∙ sym (writes_append w ps qs)

-- what is left is written after one item more
pub many_more : {A : Type 0} (pieces : A → List Piece) (xs : List A) (i : ℕ) (x : A) (w v : Writing) → i < length xs
    → x ≡ get_or xs i x
    → v ≡ writes_all w (pieces x) → writes_all v (many_pieces pieces (drop (i + 1) xs)) ≡ writes_all w
    (many_pieces pieces (drop i xs))
many_more pieces xs i x w v inside read one =
    let left = many_pieces pieces (drop (i + 1) xs) in
    both_written w v _ (pieces x) left one refl ∙ ap (λ y. writes_all w (pieces y ++ left)) read
    ∙ ap (λ ys. writes_all w (many_pieces pieces ys)) (sym (drop_more xs i x inside))

-- the others are written after the first one
pub listed_more : {A : Type 0} (separator : List Piece) (pieces : A → List Piece) (xs : List A) (x : A)
    (w v : Writing) → 0 < length xs → x ≡ get_or xs 0 x
    → v ≡ writes_all w (pieces x)
    → writes_all v (many_pieces (λ y. separator ++ pieces y) (slice_range xs 1 (length xs))) ≡ writes_all w
    (listed_pieces separator pieces xs)
listed_more separator pieces [] x w v some read one = absurd (omega (arith, some))
listed_more separator pieces (y ∷ ys) x w v some read one =
    let others = many_pieces (λ z. separator ++ pieces z) ys in
    ap (λ rest. writes_all v (many_pieces (λ z. separator ++ pieces z) rest)) (take_rest (y ∷ ys) 1)
    ∙ both_written w v _ (pieces x) others one refl ∙ ap (λ z. writes_all w (pieces z ++ others)) read
