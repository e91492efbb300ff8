-- The fields of a record, by place.
use Rattle.std.proofs.Common.{Bor, arith, ◌≡◌, ◌+◌, ◌<◌, ℕ, zero, suc, Bool, true, false, List, [], ◌∷◌, length, take, get_or, Option, None, Some, IsUtf8, refl, sym, ◌∙◌}
use Rattle.std.specs.Prelude.{◌&&◌, option_map, unwrap_or, IsTrue}
use Rattle.std.specs.List.{list_all}
use Rattle.std.specs.Str.{is_utf8}
use Rattle.std.proofs.lemmas.List.Folds.{list_all_at, list_all_more}
use Rattle.std.proofs.lemmas.Str.{IsUtf8-from_ascii, IsUtf8-from_is_utf8, is_utf8-from_IsUtf8}
use Rattle.std.proofs.lemmas.Str.Ascii.{IsAscii-nil}
use Rattle.csv.specs.Records.{field_at}

-- a field's test lets it be a name
pub utf8_from_test : (field : List ℕ) → IsTrue (is_utf8 field) → IsUtf8 field
utf8_from_test field h = IsUtf8-from_is_utf8 field h

-- the field that `get` gives, and none past the end
pub field_or_none : (fields : List (List ℕ)) (place : ℕ) (o : Option (Bor (List ℕ))) (none : Bor (List ℕ))
    → option_map (λ f. f.now) o ≡ field_at fields place → none.now ≡ [] → (unwrap_or o none).now ≡ get_or fields place []
unfolding field_at
field_or_none [] place None none e empty = empty
field_or_none [] place (Some f) none e empty = cc e
field_or_none (f ∷ fs) zero None none e empty = cc e
field_or_none (f ∷ fs) zero (Some g) none e empty = cc e
field_or_none (f ∷ fs) (suc place) o none e empty = field_or_none fs place o none e empty

-- one more field that is text
pub all_so_far : (fields : List (List ℕ)) (place : ℕ) → place < length fields → list_all is_utf8
    (take place fields) ≡ true → true ≡ is_utf8 (get_or fields place [])
    → list_all is_utf8 (take (place + 1) fields) ≡ true
all_so_far fields place within before here = list_all_more is_utf8 fields place [] within ∙ rw (before, ← here) refl

-- a field that is no text
pub not_all : (fields : List (List ℕ)) (place : ℕ) → place < length fields → false ≡ is_utf8 (get_or fields place [])
    → false ≡ list_all is_utf8 fields
not_all fields place within here = sym (list_all_at is_utf8 fields place [] within (sym here))

-- of two tests that both hold
pub both : (a b : Bool) → (a && b) ≡ true → (a ≡ true) × (b ≡ true)
both true b h = (refl, h)
both false b h = cc h

-- a field of a record of text is text, and so is none
pub text_at : (fields : List (List ℕ)) (place : ℕ) → list_all is_utf8 fields ≡ true → is_utf8 (get_or fields place []) ≡ true
text_at [] place h = is_utf8-from_IsUtf8 [] (IsUtf8-from_ascii [] IsAscii-nil)
text_at (f ∷ fs) zero h = (both (is_utf8 f) _ h).0
text_at (f ∷ fs) (suc place) h = text_at fs place (both (is_utf8 f) _ h).1

-- what all pass, each passes
pub all_at : {A : Type 0} (p : A → Bool) (xs : List A) (i : ℕ) (d : A) → i < length xs → list_all p xs ≡ true
    → p (get_or xs i d) ≡ true
all_at p [] i d within h = absurd (omega arith)
all_at p (x ∷ xs) zero d within h = (both (p x) _ h).0
all_at p (x ∷ xs) (suc i) d within h = all_at p xs i d (omega arith) (both (p x) _ h).1

-- so it can be a name
pub utf8_of_field : (fields : List (List ℕ)) (place : ℕ) (field : List ℕ) → field ≡ get_or fields place []
    → list_all is_utf8 fields ≡ true → IsUtf8 field
utf8_of_field fields place field same h = IsUtf8-from_is_utf8 field (rw same (text_at fields place h))
