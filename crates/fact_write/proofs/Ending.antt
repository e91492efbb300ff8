-- The text of what is written, and of what comes after it.
use Rattle.std.proofs.Common.{◌≡◌, ◌∙◌, ◌++◌, ℕ, List, ap, append_assoc}
use Rattle.text_write.proofs.Writings.{text_written}
use Rattle.text_write.specs.Pieces.{Piece, text_of}
use Rattle.text_write.specs.Spacing.{Writing, start, writes_all}

-- what is written from the start is the text of the pieces
pub text_is : (w v : Writing) (pieces : List Piece) → v ≡ start → w ≡ writes_all v pieces → w.text ≡ text_of pieces
text_is w v pieces begun wrote =
    ap (λ (x : Writing). x.text) (wrote ∙ ap (λ (x : Writing). writes_all x pieces) begun) ∙ text_written pieces

-- a text, a report after it, and an end
pub ended : (front report end into text bytes whole : List ℕ) → into ≡ front → text ≡ into ++ report → bytes ≡ end
    → whole ≡ text ++ bytes → whole ≡ front ++ (report ++ end)
ended front report end into text bytes whole first then last all =
    all ∙ ap (λ (x : List ℕ). x ++ bytes) (then ∙ ap (λ (x : List ℕ). x ++ report) first)
    ∙ ap (λ (x : List ℕ). (front ++ report) ++ x) last ∙ append_assoc front report end
