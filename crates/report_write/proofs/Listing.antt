-- Items that are written one after another.
use Rattle.std.proofs.Common.{◌≡◌, ◌∙◌, ℕ, ◌+◌, ◌<◌, List, ◌∷◌, ◌++◌, length, get_or, drop, refl, sym, ap}
use Rattle.std.proofs.lemmas.List.{drop_more}
use Rattle.text_write.specs.Pieces.{Piece}
use Rattle.text_write.specs.Spacing.{Writing, writes_all}
use Rattle.text_write.proofs.Writings.{writes_append}
use Rattle.log_write.specs.Pieces.{many_pieces}

-- what is left is written after one item more, where the pieces of a list from a place on are those of its first item and
-- then of the rest from the next place on
pub item_more : {A : Type 0} (listed : ℕ → List A → List Piece) (pieces : ℕ → A → List Piece)
    → ((i : ℕ) (x : A) (xs : List A) → listed i (x ∷ xs) ≡ pieces i x ++ listed (i + 1) xs)
    → (xs : List A) (i : ℕ) (d : A) (w v : Writing) → i < length xs → v ≡ writes_all w (pieces i (get_or xs i d))
    → writes_all v (listed (i + 1) (drop (i + 1) xs)) ≡ writes_all w (listed i (drop i xs))
item_more listed pieces one_more xs i d w v inside one =
    let x = get_or xs i d in
    let rest = drop (i + 1) xs in
    let left = listed (i + 1) rest in
    ap (λ u. writes_all u left) one ∙ sym (writes_append w (pieces i x) left) ∙ ap (λ ps. writes_all w ps)
    (sym (one_more i x rest))
    ∙ ap (λ ys. writes_all w (listed i ys)) (sym (drop_more xs i d inside))

-- the same where the pieces of a list are those of its items
pub list_more : {A : Type 0} (pieces : A → List Piece) (xs : List A) (i : ℕ) (x : A) (w v : Writing) → i < length xs
    → x ≡ get_or xs i x
    → v ≡ writes_all w (pieces x)
    → writes_all v (many_pieces pieces (drop (i + 1) xs)) ≡ writes_all w (many_pieces pieces (drop i xs))
list_more pieces xs i x w v inside read one =
    item_more (λ n. many_pieces pieces) (λ n. pieces) (λ n y ys. refl) xs i x w v inside
    (one ∙ ap (λ y. writes_all w (pieces y)) read)
