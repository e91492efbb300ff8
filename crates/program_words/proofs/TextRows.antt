-- Rows that have a text each, and what keeps them so.
use Rattle.std.proofs.Common.{◌<◌, ◌≡◌, Bool, true, false, cond, List, [], ◌∷◌, ◌++◌, length, Option, Some, None, is_some, arith, refl, subst}
use Rattle.std.specs.Prelude.{find, slice_get}
use Rattle.std.specs.List.{AllByRecursion}
use Rattle.std.specs.Option.{option_map_or}
use Rattle.std.specs.Str.{bytes_eq}
use Rattle.clap.specs.Facts.{explicit_source}
use Rattle.clap.specs.Takes.{is_given}
use Rattle.clap.specs.Walk.{Row, Text, at_row, first_of, more_values, with_values, without}
use Rattle.clap.specs.declared.builder.value_parser.Reading.{Reading}
use Rattle.clap.specs.declared.parser.matches.ValueSource.{ValueSource}

-- each row has a text
abbrev pub HaveTexts : List Row → Type 0
HaveTexts = AllByRecursion (λ r. 0 < length r.values)

-- what holds of each holds of the one that is found
pub found_holds : {X : Type 0} (P : X → Type 0) (p : X → Bool) (xs : List X) (x : X) → AllByRecursion P xs
    → find p xs ≡ Some x → P x
found_holds P p [] x h e = cc
found_holds P p (y ∷ ys) x h e = by (p y) e (found_holds P p ys x h.1)
  where
    by : (b : Bool) → cond b (Some y) (find p ys) ≡ Some x → (find p ys ≡ Some x → P x) → P x
    by true same later = let is : y ≡ x = cc in subst P is h.0
    by false same later = later same

joined : (xs ys : List Row) → HaveTexts xs → HaveTexts ys → HaveTexts (xs ++ ys)
joined [] ys f g = g
joined (x ∷ xs) ys f g = (f.0, joined xs ys f.1 g)

at_row_texts : (id : Text) (change : Row → List Row) (missing rows : List Row) →
    ((r : Row) → 0 < length r.values → HaveTexts (change r))
    → HaveTexts missing → HaveTexts rows → HaveTexts (at_row id change missing rows)
at_row_texts id change missing [] f g h = g
at_row_texts id change missing (r ∷ rs) f g h = by (bytes_eq r.id id) (at_row_texts id change missing rs f g h.1)
  where
    by : (b : Bool) → HaveTexts (at_row id change missing rs)
        → HaveTexts (cond b (change r ++ rs) (r ∷ at_row id change missing rs))
    by true rest = joined (change r) rs (f r h.0) h.1
    by false rest = (h.0, rest)

pub without_texts : (id : Text) (rows : List Row) → HaveTexts rows → HaveTexts (without id rows)
without_texts id rows h = at_row_texts id (λ _. []) [] rows (λ r some. tt) tt h

more_texts : (a b : List Text) → 0 < length a → 0 < length (a ++ b)
more_texts [] b h = absurd (omega arith)
more_texts (x ∷ xs) b h = omega arith

pub with_values_texts : (id : Text) (how : Reading) (s : ValueSource) (values : List Text) (rows : List Row) → 0 < length values
    → HaveTexts rows → HaveTexts (with_values id how s values rows)
with_values_texts id how s values rows some h =
    at_row_texts id (more_values s values) _ rows (λ r first. (more_texts r.values values first, tt)) (some, tt) h

first_text : (values : List Text) → 0 < length values → is_some (slice_get values 0) ≡ true
first_text [] h = absurd (omega arith)
first_text (v ∷ vs) h = refl

-- what was given has a text
pub given_text : (id : Text) (rows : List Row) → HaveTexts rows → is_given id rows ≡ true → is_some (first_of id rows) ≡ true
given_text id rows h given = by (find (λ r. bytes_eq r.id id) rows) refl given
  where
    by : (o : Option Row) → find (λ r. bytes_eq r.id id) rows ≡ o → option_map_or (λ r. explicit_source r.source) o false ≡ true
        → is_some (first_of id rows) ≡ true
    by None e g = cc
    by (Some r) e g = rw e (first_text r.values (found_holds (λ (r : Row). 0 < length r.values)
        (λ r. bytes_eq r.id id) rows r h e))
