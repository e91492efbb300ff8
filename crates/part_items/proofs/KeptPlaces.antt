-- What stands at each place of relations, rules and copy functions that are kept.
use Rattle.std.proofs.Common.{◌≡◌, ◌⊎◌, ◌∙◌, ◌+◌, ℕ, zero, suc, Bool, true, false, if◌then◌else◌, List, [], ◌∷◌, Option, Some, None, Contains, option_map, length, slice_get, slice_index_or, refl, sym, ap, subst, inl, inr, ⊎_elim, arith}
use Rattle.std.proofs.lemmas.Option.{same_Some, none-some, slice_get_within, slice_get-get_or, get_or_from_slice_get}
use Rattle.currency_base.specs.declared.ids.RowId.{RowId}
use Rattle.currency_base.specs.declared.pair.Pair.{Pair}
use Rattle.copy_functions.specs.Copies.{CopyFunction, source_at}
use Rattle.spec_model.specs.declared.relation.Relation.{Relation}
use Rattle.spec_items.specs.Kept.{Keeps, kept_pairs, kept_relations, kept_sources, kept_copies}
use Rattle.spec_items.specs.declared.item.Item.TheVariants as item

-- ---- what a function makes of an item that may be there

of_option : {A B : Type 0} (f : A → B) (o : Option A) (y : B) → option_map f o ≡ Some y → (x : A) × (o ≡ Some x) × (f x ≡ y)
of_option f None y e = absurd (none-some y e)
of_option f (Some x) y e = (x, refl, same_Some (f x) y e)

-- ---- relations

-- a relation with its given pairs that are kept
abbrev pub kept_relation : Keeps → ℕ → Relation → Relation
kept_relation keeps rel r = record r { given = kept_pairs keeps rel r.given }

relation_from : (keeps : Keeps) (first : ℕ) (rs : List Relation) (rel : ℕ)
    → slice_get (kept_relations keeps first rs) rel ≡ option_map (kept_relation keeps (first + rel)) (slice_get rs rel)
relation_from keeps first [] rel = refl
relation_from keeps first (r ∷ rs) zero = let same : first ≡ first + 0 = omega arith in ap
    (λ n. Some (kept_relation keeps n r)) same
relation_from keeps first (r ∷ rs) (suc rel) =
    let same : suc first + rel ≡ first + suc rel = omega arith in
    relation_from keeps (suc first) rs rel ∙ ap (λ n. option_map (kept_relation keeps n) (slice_get rs rel)) same

-- the relation that one is kept of
pub relation_of : (keeps : Keeps) (rs : List Relation) (rel : ℕ) (r : Relation)
    → slice_get (kept_relations keeps 0 rs) rel ≡ Some r
    → (whole : Relation) × (slice_get rs rel ≡ Some whole) × (kept_relation keeps rel whole ≡ r)
relation_of keeps rs rel r at =
    let same : 0 + rel ≡ rel = omega arith in
    of_option (kept_relation keeps rel) (slice_get rs rel) r
    (sym (relation_from keeps 0 rs rel ∙ ap (λ n. option_map (kept_relation keeps n) (slice_get rs rel)) same) ∙ at)

pub as_many_relations : (keeps : Keeps) (first : ℕ) (rs : List Relation) → length (kept_relations keeps first rs) ≡ length rs
as_many_relations keeps first [] = refl
as_many_relations keeps first (r ∷ rs) = let more = as_many_relations keeps (suc first) rs in omega (arith, more)

-- ---- given pairs

-- it is one of the pairs
abbrev IsAmong : List Pair → Pair → Type 0
IsAmong [] p = ⊥
IsAmong (q ∷ ps) p = (q ≡ p) ⊎ IsAmong ps p

place_among : (ps : List Pair) (p : Pair) → IsAmong ps p → (k : ℕ) × (slice_get ps k ≡ Some p)
place_among [] p at = absurd at
place_among (q ∷ ps) p (inl e) = (0, ap Some e)
place_among (q ∷ ps) p (inr at) = let more = place_among ps p at in (suc more.0, more.1)

among_at : (ps : List Pair) (k : ℕ) (p : Pair) → slice_get ps k ≡ Some p → IsAmong ps p
among_at [] k p e = absurd (none-some p e)
among_at (q ∷ ps) zero p e = inl (same_Some q p e)
among_at (q ∷ ps) (suc k) p e = inr (among_at ps k p e)

contained : (ps : List Pair) (p : Pair) → IsAmong ps p → Contains ps p
contained ps p at =
    let of = place_among ps p at in (of.0, slice_get_within ps of.0 p of.1, get_or_from_slice_get ps of.0 p p of.1)

among : (ps : List Pair) (p : Pair) → Contains ps p → IsAmong ps p
among ps p at = among_at ps at.0 p (slice_get-get_or ps at.0 p at.1 ∙ ap Some at.2)

-- a pair that is put before others where a test says so
abbrev put_if : Bool → Pair → List Pair → List Pair
put_if test p ps = if test then p ∷ ps else ps

first_or_later : (test : Bool) (q : Pair) (ps : List Pair) (p : Pair) → IsAmong (put_if test q ps) p
    → ((test ≡ true) × (q ≡ p)) ⊎ IsAmong ps p
first_or_later true q ps p (inl e) = inl (refl, e)
first_or_later true q ps p (inr at) = inr at
first_or_later false q ps p at = inr at

later : (test : Bool) (q : Pair) (ps : List Pair) (p : Pair) → IsAmong ps p → IsAmong (put_if test q ps) p
later true q ps p at = inr at
later false q ps p at = at

-- whether a given pair is kept
abbrev keeps_pair : Keeps → ℕ → Pair → Bool
keeps_pair keeps rel p = keeps (item.Given (record { 0 = rel }) p)

pair_among : (keeps : Keeps) (rel : ℕ) (ps : List Pair) (p : Pair) → IsAmong (kept_pairs keeps rel ps) p
    → IsAmong ps p × (keeps_pair keeps rel p ≡ true)
pair_among keeps rel [] p at = absurd at
pair_among keeps rel (q ∷ ps) p at = ⊎_elim
    (λ here. (inl here.1, subst (λ (z : Pair). keeps_pair keeps rel z ≡ true) here.1 here.0))
    (λ beyond. let more = pair_among keeps rel ps p beyond in (inr more.0, more.1))
    (first_or_later (keeps_pair keeps rel q) q (kept_pairs keeps rel ps) p at)

among_kept : (keeps : Keeps) (rel : ℕ) (ps : List Pair) (p : Pair) → IsAmong ps p → keeps_pair keeps rel p ≡ true
    → IsAmong (kept_pairs keeps rel ps) p
among_kept keeps rel [] p at is = absurd at
among_kept keeps rel (q ∷ ps) p (inl e) is =
    let rest = kept_pairs keeps rel ps in
    let test : keeps_pair keeps rel q ≡ true = subst (λ (z : Pair). keeps_pair keeps rel z ≡ true) (sym e) is in
    subst (λ t. IsAmong (put_if t q rest) p) (sym test) (inl e)
among_kept keeps rel (q ∷ ps) p (inr at) is =
    later (keeps_pair keeps rel q) q (kept_pairs keeps rel ps) p (among_kept keeps rel ps p at is)

-- a pair that is kept is one of the pairs, and the other way round
pub pair_of : (keeps : Keeps) (rel : ℕ) (ps : List Pair) (p : Pair) → Contains (kept_pairs keeps rel ps) p
    → Contains ps p × (keeps (item.Given (record { 0 = rel }) p) ≡ true)
pair_of keeps rel ps p at =
    let of = pair_among keeps rel ps p (among (kept_pairs keeps rel ps) p at) in (contained ps p of.0, of.1)

pub pair_kept : (keeps : Keeps) (rel : ℕ) (ps : List Pair) (p : Pair) → Contains ps p
    → keeps (item.Given (record { 0 = rel }) p) ≡ true
    → Contains (kept_pairs keeps rel ps) p
pair_kept keeps rel ps p at is = contained (kept_pairs keeps rel ps) p (among_kept keeps rel ps p (among ps p at) is)

-- ---- copy functions

-- a copy function with its mapped rows that are kept
abbrev pub kept_copy : Keeps → ℕ → CopyFunction → CopyFunction
kept_copy keeps k copy = record copy { sources = kept_sources keeps k 0 copy.sources }

copy_from : (keeps : Keeps) (first : ℕ) (copies : List CopyFunction) (k : ℕ)
    → slice_get (kept_copies keeps first copies) k ≡ option_map (kept_copy keeps (first + k)) (slice_get copies k)
copy_from keeps first [] k = refl
copy_from keeps first (copy ∷ copies) zero = let same : first ≡ first + 0 = omega arith in ap
    (λ n. Some (kept_copy keeps n copy)) same
copy_from keeps first (copy ∷ copies) (suc k) =
    let same : suc first + k ≡ first + suc k = omega arith in
    copy_from keeps (suc first) copies k ∙ ap (λ n. option_map (kept_copy keeps n) (slice_get copies k)) same

-- the copy function that one is kept of
pub copy_of : (keeps : Keeps) (copies : List CopyFunction) (k : ℕ) (copy : CopyFunction)
    → slice_get (kept_copies keeps 0 copies) k ≡ Some copy
    → (whole : CopyFunction) × (slice_get copies k ≡ Some whole) × (kept_copy keeps k whole ≡ copy)
copy_of keeps copies k copy at =
    let same : 0 + k ≡ k = omega arith in
    of_option (kept_copy keeps k) (slice_get copies k) copy
    (sym (copy_from keeps 0 copies k ∙ ap (λ n. option_map (kept_copy keeps n) (slice_get copies k)) same) ∙ at)

pub as_many_copies : (keeps : Keeps) (first : ℕ) (copies : List CopyFunction)
    → length (kept_copies keeps first copies) ≡ length copies
as_many_copies keeps first [] = refl
as_many_copies keeps first (copy ∷ copies) = let more = as_many_copies keeps (suc first) copies in omega (arith, more)

-- ---- mapped rows

none_either : (test : Bool) → ◌≡◌ {A = Option RowId} None (if test then None else None)
none_either true = refl
none_either false = refl

source_from : (keeps : Keeps) (k first : ℕ) (sources : List (Option RowId)) (n : ℕ)
    → slice_index_or (kept_sources keeps k first sources) n None
    ≡ (if keeps (item.Copy (record { 0 = k }) (record { 0 = first + n })) then slice_index_or sources n None else None)
source_from keeps k first [] n = none_either (keeps (item.Copy (record { 0 = k }) (record { 0 = first + n })))
source_from keeps k first (source ∷ sources) zero =
    let same : first ≡ first + 0 = omega arith in
    ap (λ m. if keeps (item.Copy (record { 0 = k }) (record { 0 = m })) then source else None) same
source_from keeps k first (source ∷ sources) (suc n) =
    let same : suc first + n ≡ first + suc n = omega arith in
    source_from keeps k (suc first) sources n
    ∙ ap (λ m. if keeps (item.Copy (record { 0 = k }) (record { 0 = m })) then slice_index_or sources n None else None) same

source_is : (keeps : Keeps) (k : ℕ) (copy : CopyFunction) (row : RowId)
    → source_at (kept_copy keeps k copy) row ≡ (if keeps (item.Copy (record { 0 = k }) row) then source_at copy row else None)
source_is keeps k copy row =
    let same : 0 + row.0 ≡ row.0 = omega arith in
    source_from keeps k 0 copy.sources row.0
    ∙ ap (λ m. if keeps (item.Copy (record { 0 = k }) (record { 0 = m })) then source_at copy row else None) same

some_if : (test : Bool) (o : Option RowId) (x : RowId) → (if test then o else None) ≡ Some x → (test ≡ true) × (o ≡ Some x)
some_if true o x e = (refl, e)
some_if false o x e = absurd (none-some x e)

-- a row that is mapped in what is kept is kept and mapped alike, and the other way round
pub source_of : (keeps : Keeps) (k : ℕ) (copy : CopyFunction) (row source : RowId)
    → source_at (kept_copy keeps k copy) row ≡ Some source
    → (keeps (item.Copy (record { 0 = k }) row) ≡ true) × (source_at copy row ≡ Some source)
source_of keeps k copy row source at =
    some_if (keeps (item.Copy (record { 0 = k }) row)) (source_at copy row) source (sym (source_is keeps k copy row) ∙ at)

pub source_kept : (keeps : Keeps) (k : ℕ) (copy : CopyFunction) (row source : RowId)
    → keeps (item.Copy (record { 0 = k }) row) ≡ true
    → source_at copy row ≡ Some source → source_at (kept_copy keeps k copy) row ≡ Some source
source_kept keeps k copy row source is at =
    source_is keeps k copy row ∙ ap (λ test. if test then source_at copy row else None) is ∙ at
