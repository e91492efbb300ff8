-- What is written from the start, one after another, and put at the end of a text.
use Rattle.std.proofs.Common.{◌≡◌, ◌∙◌, ◌+◌, ◌<◌, ◌++◌, ℕ, List, ap, drop, get_or, length, sym}
use Rattle.item_write.proofs.Listing.{list_more}
use Rattle.log_write.specs.Pieces.{many_pieces}
use Rattle.text_write.proofs.Writings.{text_written, writes_append}
use Rattle.text_write.specs.Pieces.{Piece, text_of}
use Rattle.text_write.specs.Spacing.{Writing, start, writes_all}

-- what is written from the start is the text of the pieces
pub text_is : (w v : Writing) (pieces : List Piece) → v ≡ start → w ≡ writes_all v pieces → w.text ≡ text_of pieces
text_is w v pieces begun wrote =
    ap (λ (x : Writing). x.text) (wrote ∙ ap (λ (x : Writing). writes_all x pieces) begun) ∙ text_written pieces

-- what is left is written after the item more that was read
pub one_more : {A : Type 0} (pieces : A → List Piece) (xs : List A) (i : ℕ) (x : A) (w v : Writing) → i < length xs
    → x ≡ get_or xs i x → v ≡ writes_all w (pieces x)
    → writes_all v (many_pieces pieces (drop (i + 1) xs)) ≡ writes_all w (many_pieces pieces (drop i xs))
one_more {A} pieces xs i x w v inside read one =
    list_more pieces xs i x w v inside (one ∙ ap (λ (y : A). writes_all w (pieces y)) read)

-- three kinds of pieces, one after another
pub three_in_row : (w a b : Writing) (ps qs rs : List Piece) → a ≡ writes_all w ps → b ≡ writes_all a qs
    → writes_all b rs ≡ writes_all w (ps ++ qs ++ rs)
three_in_row w a b ps qs rs first second =
    let two : b ≡ writes_all w (ps ++ qs) =
    second ∙ ap (λ (x : Writing). writes_all x qs) first ∙ sym (writes_append w ps qs) in
    ap (λ (x : Writing). writes_all x rs) two ∙ sym (writes_append w (ps ++ qs) rs)
