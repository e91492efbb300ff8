-- Pieces that are written one after another.
use Rattle.std.proofs.Common.{◌≡◌, ℕ, Bool, true, false, List, [], ◌∷◌, ◌++◌, Option, Some, None, refl, sym, ap, ◌∙◌, append_assoc, append-nil}
use Rattle.std.specs.Prelude.{◌&&◌, ◌||◌, if◌then◌else◌, not}
use Rattle.text_write.specs.Pieces.{Piece, blank_before, ends_line, is_tight_after, is_tight_before, line_end, text_after, text_of}
use Rattle.text_write.specs.Spacing.{Writing, blank_wanted, is_spaced, start, writes, writes_all}

-- pieces and then others are written as all of them
pub writes_append : (w : Writing) (ps qs : List Piece) → writes_all w (ps ++ qs) ≡ writes_all (writes_all w ps) qs
writes_append w [] qs = refl
writes_append w (p ∷ ps) qs = writes_append (writes w p) ps qs

either_way : {A : Type 0} (a b : Bool) (x y : A) → (if a || b then x else y) ≡ (if not a && not b then y else x)
either_way true true x y = refl
either_way true false x y = refl
either_way false true x y = refl
either_way false false x y = refl

-- a writer that holds this text, and that wrote this piece last, if any
abbrev held : List ℕ → Option Piece → Writing
held text None = record { text = text; spaced = false }
held text (Some p) = record { text = text; spaced = is_spaced p }

blank_is : (text : List ℕ) (before : Option Piece) (p : Piece) → blank_before before p ≡ blank_wanted (held text before) p
blank_is text None p = refl
blank_is text (Some q) p = either_way (ends_line q || is_tight_after q) (is_tight_before p) [] (32 ∷ [])

held_text : (text : List ℕ) (before : Option Piece) → (held text before).text ≡ text
held_text text None = refl
held_text text (Some q) = refl

regrouped : (t b x l rest : List ℕ) → (t ++ b ++ x ++ l) ++ rest ≡ t ++ (b ++ x ++ l ++ rest)
regrouped t b x l rest = simp append_assoc

text_held : (text : List ℕ) (before : Option Piece) (ps : List Piece) → (writes_all (held text before) ps).text ≡
    text ++ text_after before ps
unfolding writes
text_held text before [] = held_text text before ∙ sym (append-nil text)
text_held text before (p ∷ ps) =
    let added : List ℕ → List ℕ → List ℕ = λ t b. t ++ b ++ p.text ++ line_end p in
    text_held (added (held text before).text (blank_wanted (held text before) p)) (Some p) ps
    ∙ ap (λ t. added t (blank_wanted (held text before) p) ++ text_after (Some p) ps) (held_text text before)
    ∙ ap (λ b. added text b ++ text_after (Some p) ps) (sym (blank_is text before p))
    ∙ regrouped text (blank_before before p) p.text (line_end p) (text_after (Some p) ps)

-- what is written from the start is the text of the pieces
pub text_written : (ps : List Piece) → (writes_all start ps).text ≡ text_of ps
unfolding text_of
text_written ps = text_held [] None ps
