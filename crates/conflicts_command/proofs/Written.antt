-- Items that are written one after another, and the text of what is written.
use Rattle.std.proofs.Common.{◌≡◌, ◌∙◌, ◌+◌, ◌<◌, ◌++◌, ◌∷◌, [], ℕ, List, ap, drop, get_or, length, refl, sym}
use Rattle.item_write.proofs.Listing.{list_more}
use Rattle.item_write.specs.Pieces.{item_pieces, items_pieces}
use Rattle.log_write.specs.Pieces.{many_pieces}
use Rattle.minimal_items.specs.Explanations.{needed_items}
use Rattle.minimal_items.specs.declared.needed.Needed.{Needed}
use Rattle.spec_model.specs.Spec.{Spec}
use Rattle.text_write.proofs.Writings.{text_written}
use Rattle.text_write.specs.Pieces.{Piece, text_of}
use Rattle.text_write.specs.Spacing.{Writing, start, writes_all}

-- what is left is written after the item more that was read
pub one_more : {A : Type 0} (pieces : A → List Piece) (xs : List A) (i : ℕ) (x : A) (w v : Writing) → i < length xs
    → x ≡ get_or xs i x → v ≡ writes_all w (pieces x)
    → writes_all v (many_pieces pieces (drop (i + 1) xs)) ≡ writes_all w (many_pieces pieces (drop i xs))
one_more {A} pieces xs i x w v inside read one =
    list_more pieces xs i x w v inside (one ∙ ap (λ (y : A). writes_all w (pieces y)) read)

-- the pieces of what is needed, one by one
each_needed : (s : Spec) (xs : List Needed)
    → items_pieces s (needed_items xs) ≡ many_pieces (λ (n : Needed). item_pieces s n.item) xs
each_needed s [] = refl
each_needed s (x ∷ xs) = ap (λ (ps : List Piece). item_pieces s x.item ++ ps) (each_needed s xs)

pub needed_more : (s : Spec) (xs : List Needed) (i : ℕ) (x : Needed) (w v : Writing) → i < length xs → x ≡ get_or xs i x
    → v ≡ writes_all w (item_pieces s x.item)
    → writes_all v (items_pieces s (needed_items (drop (i + 1) xs)))
    ≡ writes_all w (items_pieces s (needed_items (drop i xs)))
needed_more s xs i x w v inside read one =
    ap (λ (ps : List Piece). writes_all v ps) (each_needed s (drop (i + 1) xs))
    ∙ one_more (λ (n : Needed). item_pieces s n.item) xs i x w v inside read one
    ∙ sym (ap (λ (ps : List Piece). writes_all w ps) (each_needed s (drop i xs)))

pub text_is : (w v : Writing) (pieces : List Piece) → v ≡ start → w ≡ writes_all v pieces → w.text ≡ text_of pieces
text_is w v pieces begun wrote =
    ap (λ (x : Writing). x.text) (wrote ∙ ap (λ (x : Writing). writes_all x pieces) begun) ∙ text_written pieces
