-- Disjuncts that are written one after another.
use Rattle.std.proofs.Common.{◌≡◌, ◌∙◌, ℕ, ◌+◌, ◌<◌, List, length, get_or, drop, sym, ap}
use Rattle.std.proofs.lemmas.List.{drop_more}
use Rattle.text_write.specs.Pieces.{Piece}
use Rattle.text_write.specs.Spacing.{Writing, writes_all}
use Rattle.text_write.proofs.Writings.{writes_append}
use Rattle.log_write.specs.Pieces.{many_pieces}

-- what is left is written after one item more
pub list_more : {A : Type 0} (pieces : A → List Piece) (xs : List A) (i : ℕ) (d : A) (w v : Writing) → i < length xs
    → v ≡ writes_all w (pieces (get_or xs i d))
    → writes_all v (many_pieces pieces (drop (i + 1) xs)) ≡ writes_all w (many_pieces pieces (drop i xs))
list_more {A} pieces xs i d w v inside one =
    let left = many_pieces pieces (drop (i + 1) xs) in
    ap (λ u. writes_all u left) one ∙ sym (writes_append w (pieces (get_or xs i d)) left)
    ∙ ap (λ (ys : List A). writes_all w (many_pieces pieces ys)) (sym (drop_more xs i d inside))
