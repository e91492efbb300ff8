-- What a writer of pieces holds, and what the next piece adds to it.
use Rattle.std.specs.Prelude.{ℕ, Bool, false, not, ◌&&◌, ◌||◌, if◌then◌else◌, List, [], ◌∷◌, ◌++◌}
use Rattle.text_write.specs.Pieces.{Piece, ends_line, is_tight_after, is_tight_before, line_end}

-- a text so far, and whether a blank follows it, unless none precedes the next piece
pub record Writing : Type 0 where
  pub text : List ℕ
  pub spaced : Bool

-- nothing is written yet
abbrev pub start : Writing
start = record { text = []; spaced = false }

-- a blank follows the piece, unless none precedes the next one
abbrev pub is_spaced : Piece → Bool
is_spaced p = not (ends_line p || is_tight_after p)

-- the blank between the text so far and the next piece, where there is one
abbrev pub blank_wanted : Writing → Piece → List ℕ
blank_wanted w p = if w.spaced && not (is_tight_before p) then 32 ∷ [] else []

-- one piece more: the blank before it, the piece, and the end of a line if it ends one
unfoldable pub writes : Writing → Piece → Writing
writes w p = record { text = w.text ++ blank_wanted w p ++ p.text ++ line_end p; spaced = is_spaced p }

-- one piece after another
abbrev pub writes_all : Writing → List Piece → Writing
writes_all w [] = w
writes_all w (p ∷ ps) = writes_all (writes w p) ps
