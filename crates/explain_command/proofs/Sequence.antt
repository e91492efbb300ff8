-- Pieces that are written one after another.
use Rattle.std.proofs.Common.{◌≡◌, ◌∙◌, List, ◌++◌, sym, ap}
use Rattle.text_write.specs.Pieces.{Piece}
use Rattle.text_write.specs.Spacing.{Writing, writes_all}
use Rattle.text_write.proofs.Writings.{writes_append}

-- pieces, and then others
pub then_more : (w u v : Writing) (ps qs : List Piece) → u ≡ writes_all w ps → v ≡ writes_all u qs → v ≡ writes_all w (ps ++ qs)
then_more w u v ps qs first next = next ∙ ap (λ x. writes_all x qs) first ∙ sym (writes_append w ps qs)

-- four in a row, after which a last one is written
pub five_in_row : (w a b c d : Writing) (ps qs rs ts us : List Piece) → a ≡ writes_all w ps → b ≡ writes_all a qs
    → c ≡ writes_all b rs → d ≡ writes_all c ts → writes_all d us ≡ writes_all w (ps ++ qs ++ rs ++ ts ++ us)
five_in_row w a b c d ps qs rs ts us first second third fourth =
    let two = then_more w a b ps qs first second in
    let three = then_more w b c (ps ++ qs) rs two third in
    let four = then_more w c d (ps ++ qs ++ rs) ts three fourth in
    ap (λ x. writes_all x us) four ∙ sym (writes_append w (ps ++ qs ++ rs ++ ts) us)
