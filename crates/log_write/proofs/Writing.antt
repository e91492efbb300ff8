-- Items that are written one after another.
use Rattle.std.proofs.Common.{◌≡◌, ℕ, ◌+◌, ◌<◌, List, ◌++◌, length, get_or, drop, sym, ap, ◌∙◌, Some}
use Rattle.std.specs.List.{slice_get}
use Rattle.std.proofs.lemmas.List.{drop_more}
use Rattle.std.proofs.lemmas.Option.{get_or_from_slice_get, slice_get_within}
use Rattle.text_write.specs.Pieces.{Piece}
use Rattle.text_write.specs.Spacing.{Writing, writes_all}
use Rattle.text_write.proofs.Writings.{writes_append}
use Rattle.log_write.specs.Pieces.{many_pieces}

-- what is left is written after one item more
pub item_more : {A : Type 0} (pieces : A → List Piece) (xs : List A) (i : ℕ) (x : A) (w v : Writing) → i < length xs
    → x ≡ get_or xs i x
    → v ≡ writes_all w (pieces x)
    → writes_all v (many_pieces pieces (drop (i + 1) xs)) ≡ writes_all w (many_pieces pieces (drop i xs))
item_more pieces xs i x w v inside read one =
    let left = many_pieces pieces (drop (i + 1) xs) in
    ap (λ u. writes_all u left) one ∙ sym (writes_append w (pieces x) left) ∙ ap (λ y. writes_all w (pieces y ++ left)) read
    ∙ ap (λ ys. writes_all w (many_pieces pieces ys)) (sym (drop_more xs i x inside))

pub step_more : {A : Type 0} (pieces : A → List Piece) (xs : List A) (i : ℕ) (x : A) (w v : Writing) → slice_get xs i ≡ Some x
    → v ≡ writes_all w (pieces x)
    → writes_all v (many_pieces pieces (drop (i + 1) xs)) ≡ writes_all w (many_pieces pieces (drop i xs))
step_more pieces xs i x w v read one =
    item_more pieces xs i x w v (slice_get_within xs i x read) (sym (get_or_from_slice_get xs i x x read)) one
