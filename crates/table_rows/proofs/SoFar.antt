-- A table's rows as far as its tuples are read.
use Rattle.std.proofs.Common.{◌≡◌, ◌⊎◌, inl, inr, ◌∙◌, ◌<◌, ◌≤◌, ◌^◌, ℕ, zero, suc, ◌+◌, Bool, true, false, Some, None, Result, Ok, Err, List, [], ◌∷◌, ◌++◌, length, map, min, slice_get, sym, refl, ap, subst, zero-add, add-zero, arith, length-append}
use Rattle.std.specs.List.{list_any, position_or_len, enumerate_from, All}
use Rattle.std.specs.Str.{bytes_eq}
use Rattle.std.proofs.lemmas.Bool.{or_right, cases_lt}
use Rattle.std.proofs.lemmas.List.{append-nil, map_push, map-append, length-map}
use Rattle.std.proofs.lemmas.List.FromFn.{length-enumerate_from}
use Rattle.std.proofs.lemmas.Slice.Eq.{bytes_eq-Decides}
use Rattle.currency_base.specs.Lists.{OnlyOnce}
use Rattle.currency_base.specs.Rows.{HasRowOf}
use Rattle.currency_base.specs.declared.row.Row.{Row}
use Rattle.currency_base.specs.declared.value.Value.{Value}
use Rattle.table_rows.specs.declared.rows.TableRows.{TableRows}
use Rattle.table_rows.specs.declared.rows.RowFault.{RowFault}
use Rattle.table_rows.specs.declared.rows.RowFault.TheVariants.{Repeated, NoMemory}
use Rattle.table_rows.specs.Rows.{row_name, entity_name, first_standing, first_repeat, row_names_of, entities_of, rows_of, row_of, rows_from, AreRows}
use Rattle.table_rows.specs.Growth.{HasGrown, IsRefusal, next_name}
use Rattle.table_rows.proofs.Standing.{none_distinct, only_once, place_is, place_stays, place_within, standing_append, standing_one, standing_distinct, standing_few, standing_kept, unrepeated_distinct, repeat_append}

-- the table holds what these tuples tell, and no row name stands twice
pub record IsSoFar (named : Bool) (tuples : List (List Value)) (table : TableRows) : Type 0 where
  pub rows : table.rows ≡ rows_of named tuples
  pub names : table.names ≡ row_names_of named tuples
  pub entities : table.entities ≡ entities_of named tuples
  pub unrepeated : first_repeat 0 [] (row_names_of named tuples) ≡ None
  pub inhabited : (ent : ℕ) → ent < length table.entities → HasRowOf table.rows ent

pub begun : (named : Bool) (table : TableRows) → table.rows ≡ [] → table.names ≡ [] → table.entities ≡ [] → IsSoFar named [] table
begun named table rows names entities = record {
  rows = rows;
  names = names;
  entities = entities;
  unrepeated =
      refl;
  inhabited = λ ent below. absurd (let none : length table.entities ≡ 0 = ap length entities in omega arith);
}

same_row : (r s : Row) → r.name ≡ s.name → r.entity.0 ≡ s.entity.0 → r.values ≡ s.values → r ≡ s
same_row r s name entity values =
    let make : List ℕ → ℕ → List Value → Row = λ n e v. record { name = n; entity = record { 0 = e }; values = v } in
    ap (λ n. make n r.entity.0 r.values) name ∙ ap (λ e. make s.name e r.values) entity
    ∙ ap (λ v. make s.name s.entity.0 v) values

same_table : (r s : TableRows) → r.rows ≡ s.rows → r.names ≡ s.names → r.entities ≡ s.entities → r ≡ s
same_table r s rows names entities =
    let make : List Row → List (List ℕ) → List (List ℕ) → TableRows = λ r n e. record { rows = r; names = n; entities = e } in
    ap (λ x. make x r.names r.entities) rows ∙ ap (λ x. make s.rows x r.entities) names ∙ ap (λ x. make s.rows s.names x) entities

-- ---- numbered lists

pub enumerate_append : {A : Type 0} (n : ℕ) (xs ys : List A) → enumerate_from n (xs ++ ys) ≡ enumerate_from n xs
    ++ enumerate_from (n + length xs) ys
enumerate_append n [] ys = rw add-zero refl
enumerate_append n (x ∷ xs) ys =
    let same : n + 1 + length xs ≡ n + length (x ∷ xs) = omega arith in
    ap (λ more. (n, x) ∷ more) (enumerate_append (n + 1) xs ys ∙ rw same refl)

pub names_append : (named : Bool) (done more : List (List Value)) → row_names_of named (done ++ more) ≡ row_names_of
    named done ++ map (row_name named) (enumerate_from (length done) more)
names_append named done more =
    ap (map (row_name named)) (enumerate_append 0 done more) ∙ map-append (row_name named) (enumerate_from 0 done)
    (enumerate_from (0 + length done) more) ∙ rw zero-add refl

pub count_of_rows : (named : Bool) (tuples : List (List Value)) → length (rows_of named tuples) ≡ length tuples
count_of_rows named tuples = length-map (enumerate_from 0 tuples) (row_of named (entities_of named tuples))
    ∙ length-enumerate_from 0 tuples

pub count_of_names : (named : Bool) (tuples : List (List Value)) → length (row_names_of named tuples) ≡ length tuples
count_of_names named tuples = length-map (enumerate_from 0 tuples) (row_name named) ∙ length-enumerate_from 0 tuples

pub few_entities : (named : Bool) (tuples : List (List Value)) → length (entities_of named tuples) ≤ length tuples
few_entities named tuples =
    let h = standing_few [] (map (entity_name named) tuples) in
    let e : length (map (entity_name named) tuples) ≡ length tuples = length-map tuples (entity_name named) in
    omega arith

-- ---- the entities of the rows

-- each tuple's entity stands among these
HasEntities : Bool → List (List ℕ) → List (List Value) → Type 0
HasEntities named entities [] = Unit {0}
HasEntities named entities (t ∷ ts) = (list_any (bytes_eq (entity_name named t)) entities ≡ true) × HasEntities named entities ts

any_last : (name : List ℕ) (names : List (List ℕ)) → list_any (bytes_eq name) (names ++ name ∷ []) ≡ true
any_last name [] = let e : bytes_eq name name ≡ true = (bytes_eq-Decides name name).1 refl in rw e refl
any_last name (x ∷ xs) = or_right (bytes_eq name x) _ (any_last name xs)

has_entities : (named : Bool) (so_far : List (List ℕ)) (ts : List (List Value)) → HasEntities named
    (first_standing so_far (map (entity_name named) ts)) ts
unfolding HasEntities
has_entities named so_far [] = tt
has_entities named so_far (t ∷ ts) =
    let next = first_standing so_far (entity_name named t ∷ []) in
    let here : list_any (bytes_eq (entity_name named t)) next ≡ true =
    elim (standing_one so_far (entity_name named t)) [
      | inl (e, same) ↦ rw same e
      | inr (e, same) ↦ rw same (any_last (entity_name named t) so_far)
    ] in
    (standing_kept (bytes_eq (entity_name named t)) next (map (entity_name named) ts) here, has_entities named next ts)

-- rows stay as they are where more entities come
rows_stay : (named : Bool) (entities more : List (List ℕ)) (n : ℕ) (ts : List (List Value)) → HasEntities named entities ts
    → map (row_of named (entities ++ more)) (enumerate_from n ts) ≡ map (row_of named entities) (enumerate_from n ts)
unfolding HasEntities
rows_stay named entities more n [] has = refl
rows_stay named entities more n (t ∷ ts) has =
    let same : position_or_len (bytes_eq (entity_name named t)) (entities ++ more) ≡ position_or_len
    (bytes_eq (entity_name named t)) entities =
    place_stays (bytes_eq (entity_name named t)) entities more has.0 in
    rw same (ap (λ rest. row_of named entities (n, t) ∷ rest) (rows_stay named entities more (n + 1) ts has.1))

rows_stay_one : (named : Bool) (entities : List (List ℕ)) (name : List ℕ) (ts : List (List Value)) → HasEntities named entities ts
    → map (row_of named (first_standing entities (name ∷ []))) (enumerate_from 0 ts) ≡ map (row_of named entities)
    (enumerate_from 0 ts)
rows_stay_one named entities name ts has =
    elim (standing_one entities name) [
      | inl (e, same) ↦ rw same refl
      | inr (e, same) ↦ rw same (rows_stay named entities (name ∷ []) 0 ts has)
    ]

-- each row stands for one of the entities
rows_within : (named : Bool) (entities : List (List ℕ)) (n : ℕ) (ts : List (List Value)) → HasEntities named entities ts
    → All (λ row. row.entity.0 < length entities) (map (row_of named entities) (enumerate_from n ts))
unfolding HasEntities
rows_within named entities n [] has k d below = absurd (omega arith)
rows_within named entities n (t ∷ ts) has zero d below = place_within (bytes_eq (entity_name named t)) entities has.0
rows_within named entities n (t ∷ ts) has (suc k) d below = rows_within named entities (n + 1) ts has.1 k d (omega arith)

names_of_rows : (named : Bool) (entities : List (List ℕ)) (n : ℕ) (ts : List (List Value))
    → map (λ row. row.name) (map (row_of named entities) (enumerate_from n ts)) ≡ map (row_name named) (enumerate_from n ts)
names_of_rows named entities n [] = refl
names_of_rows named entities n (t ∷ ts) = ap (λ rest. row_name named (n, t) ∷ rest) (names_of_rows named entities (n + 1) ts)

-- ---- each entity has a row

slice_get_front : {A : Type 0} (xs ys : List A) (k : ℕ) (x : A) → slice_get xs k ≡ Some x → slice_get (xs ++ ys) k ≡ Some x
slice_get_front [] ys k x e = cc
slice_get_front (a ∷ xs) ys zero x e = e
slice_get_front (a ∷ xs) ys (suc k) x e = slice_get_front xs ys k x e

slice_get_last : {A : Type 0} (xs : List A) (x : A) → slice_get (xs ++ x ∷ []) (length xs) ≡ Some x
slice_get_last [] x = refl
slice_get_last (a ∷ xs) x = slice_get_last xs x

has_row_still : (rows more : List Row) (ent : ℕ) → HasRowOf rows ent → HasRowOf (rows ++ more) ent
has_row_still rows more ent h = record {
  at = h.at;
  row = h.row;
  is_row = slice_get_front rows more h.at h.row
      h.is_row;
  is_of = h.is_of;
}

-- each entity has a row where one more row stands for its entity, be it new or not
inhabited_push : (old new : List (List ℕ)) (rows : List Row) (row : Row) (name : List ℕ) →
    ((ent : ℕ) → ent < length old → HasRowOf rows ent)
    → new ≡ first_standing old (name ∷ []) → OnlyOnce new → slice_get new row.entity.0 ≡ Some name
    → (ent : ℕ) → ent < length new → HasRowOf (rows ++ row ∷ []) ent
inhabited_push old new rows row name has is_new once at ent below =
    elim (standing_one old name) [
      | inl (e, same) ↦ let count : length new ≡ length old = ap length (is_new ∙ same) in has_row_still rows
          (row ∷ []) ent (has ent (omega arith))
      | inr (e, same) ↦
          let grown : new ≡ old ++ name ∷ [] = is_new ∙ same in
          let count : length new ≡ length old + 1 = ap length grown ∙ length-append old (name ∷ []) in
          let last : slice_get new (length old) ≡ Some name = rw grown (slice_get_last old name) in
          let place : row.entity.0 ≡ length old = once row.entity.0 (length old) name at last in
          elim (cases_lt ent (length old)) [
            | inl below_old ↦ has_row_still rows (row ∷ []) ent (has ent below_old)
            | inr not_below ↦ record { at = length rows; row = row; is_row = slice_get_last rows row; is_of = omega arith }
          ]
    ]

-- ---- one more tuple

entities_push : (named : Bool) (done : List (List Value)) (t : List Value)
    → entities_of named (done ++ t ∷ []) ≡ first_standing (entities_of named done) (entity_name named t ∷ [])
entities_push named done t =
    ap (first_standing []) (map_push (entity_name named) done t) ∙ standing_append [] (map (entity_name named) done)
    (entity_name named t ∷ [])

rows_push : (named : Bool) (done : List (List Value)) (t : List Value)
    → rows_of named (done ++ t ∷ []) ≡ rows_of named done ++ row_of named (entities_of named (done ++ t ∷ []))
    (length done, t) ∷ []
rows_push named done t =
    let entities = entities_of named done in
    let more = entities_of named (done ++ t ∷ []) in
    let numbered : enumerate_from 0 (done ++ t ∷ []) ≡ enumerate_from 0 done ++ (length done, t) ∷ [] =
    enumerate_append 0 done (t ∷ []) ∙ rw zero-add refl in
    let stay : map (row_of named more) (enumerate_from 0 done) ≡ map (row_of named entities) (enumerate_from 0 done) =
    rw (entities_push named done t) (rows_stay_one named entities (entity_name named t) done (has_entities named [] done)) in
    ap (map (row_of named more)) numbered
    ∙ map-append (row_of named more) (enumerate_from 0 done) ((length done, t) ∷ [])
    ∙ ap (λ rows. rows ++ row_of named more (length done, t) ∷ []) stay

pub grown : (named : Bool) (done : List (List Value)) (old new : TableRows) (t : List Value) → IsSoFar named done old
    → HasGrown named old t new
    → IsSoFar named (done ++ t ∷ []) new
grown named done old new t so_far step =
    let count : length old.rows ≡ length done = ap length so_far.rows ∙ count_of_rows named done in
    let name : next_name named old t ≡ row_name named (length done, t) = ap (λ n. row_name named (n, t)) count in
    let names : row_names_of named (done ++ t ∷ []) ≡ row_names_of named done ++ row_name named (length done, t)
    ∷ [] = names_append named done (t ∷ []) in
    let entities : new.entities ≡ entities_of named (done ++ t ∷ []) =
    step.entities ∙ ap (λ es. first_standing es (entity_name named t ∷ [])) so_far.entities ∙ sym (entities_push named done t) in
    let place : position_or_len (bytes_eq (entity_name named t)) (entities_of named (done ++ t ∷ [])) ≡ step.row.entity.0 =
    place_is (entities_of named (done ++ t ∷ [])) (entity_name named t) step.row.entity.0
    (standing_distinct [] (map (entity_name named) (done ++ t ∷ [])) none_distinct) (rw entities at step.entity) in
    let row : row_of named (entities_of named (done ++ t ∷ [])) (length done, t) ≡ step.row =
    same_row _ step.row (sym (step.name ∙ name)) place (sym step.values) in
    let fresh : list_any (bytes_eq (row_name named (length done, t))) (row_names_of named done) ≡ false =
    rw (name, so_far.names) at step.is_fresh in
    let last : first_repeat (0 + length (row_names_of named done)) (row_names_of named done)
    (row_name named (length done, t) ∷ []) ≡ None = rw fresh refl in
    record {
      rows = step.rows ∙ ap (λ rows. rows ++ step.row ∷ []) so_far.rows
          ∙ sym (rows_push named done t ∙ ap (λ r. rows_of named done ++ r ∷ []) row);
      names = step.names ∙ ap (λ n. old.names ++ n ∷ []) name ∙ ap (λ ns. ns ++ row_name named (length done, t) ∷ [])
          so_far.names ∙ sym names;
      entities = entities;
      unrepeated = ap (first_repeat 0 []) names
          ∙ repeat_append 0 [] (row_names_of named done) (row_name named (length done, t) ∷ []) so_far.unrepeated ∙ last;
      inhabited = rw step.rows (inhabited_push old.entities new.entities old.rows step.row (entity_name named t)
          so_far.inhabited step.entities
          (rw entities (only_once _ (standing_distinct [] (map (entity_name named) (done ++ t ∷ [])) none_distinct)))
          step.entity);
    }

-- ---- what comes of it

-- where no tuple is left, the table holds what all tell
pub ended : (named : Bool) (done rest tuples : List (List Value)) (table : TableRows) → done ++ rest ≡ tuples → length rest ≡ 0
    → IsSoFar named done table → IsSoFar named tuples table
ended named done [] tuples table all none so_far =
    let same : done ≡ tuples = sym (append-nil done) ∙ all in
    subst (λ (ts : List (List Value)). IsSoFar named ts table) same so_far
ended named done (t ∷ rest) tuples table all none so_far = absurd (omega arith)

-- all tuples are read
pub finished : (named : Bool) (tuples : List (List Value)) (table : TableRows) → IsSoFar named tuples table
    → Ok table ≡ rows_from named tuples
unfolding rows_from
finished named tuples table so_far =
    rw so_far.unrepeated (ap Ok (same_table table _ so_far.rows so_far.names so_far.entities))

-- what then holds of the table
pub facts : (named : Bool) (tuples : List (List Value)) (table : TableRows) → length tuples + 1 < 2 ^ 32
    → IsSoFar named tuples table → AreRows table
facts named tuples table few so_far =
    let rows : length table.rows ≡ length tuples = ap length so_far.rows ∙ count_of_rows named tuples in
    let entities : length table.entities ≡ length (entities_of named tuples) = ap length so_far.entities in
    let fewer = few_entities named tuples in
    record {
      few_rows = omega arith;
      few_entities = omega arith;
      names = ap (map (λ row. row.name)) so_far.rows ∙ names_of_rows named (entities_of named tuples) 0 tuples ∙ sym so_far.names;
      row_names = rw so_far.names (only_once _ (unrepeated_distinct 0 [] (row_names_of named tuples) none_distinct
          so_far.unrepeated));
      entity_names = rw so_far.entities (only_once _ (standing_distinct [] (map (entity_name named) tuples) none_distinct));
      entities = rw (so_far.rows, so_far.entities) (rows_within named (entities_of named tuples) 0 tuples
          (has_entities named [] tuples));
      inhabited = so_far.inhabited;
    }

-- where a tuple is left, there is room for its row and its entity
pub few : (named : Bool) (done : List (List Value)) (t : List Value) (rest : List (List Value)) (table : TableRows)
    (tuples : List (List Value))
    → done ++ t ∷ rest ≡ tuples → length tuples + 1 < 2 ^ 32 → IsSoFar named done table
    → (length table.rows + 2 < 2 ^ 32) × (length table.entities + 1 < 2 ^ 32)
few named done t rest table tuples all below so_far =
    let count : length table.rows ≡ length done = ap length so_far.rows ∙ count_of_rows named done in
    let entities : length table.entities ≡ length (entities_of named done) = ap length so_far.entities in
    let fewer = few_entities named done in
    let total : length tuples ≡ length done + length (t ∷ rest) = sym (ap length all) ∙ length-append done (t ∷ rest) in
    (omega arith, omega arith)

-- the next tuple is refused
pub refused : (named : Bool) (done : List (List Value)) (t : List Value) (rest : List (List Value))
    (table : TableRows) (fault : RowFault)
    (tuples : List (List Value)) → done ++ t ∷ rest ≡ tuples → length tuples + 1 < 2 ^ 32 → IsSoFar named done table
    → IsRefusal named table t fault
    → (◌≡◌ {A = Result TableRows RowFault} (Err fault) (Err NoMemory)) ⊎ (Err fault ≡ rows_from named tuples)
unfolding rows_from
refused named done t rest table fault tuples all below so_far (inl e) = inl (ap Err e)
refused named done t rest table fault tuples all below so_far (inr (there, e)) =
    let count : length table.rows ≡ length done = ap length so_far.rows ∙ count_of_rows named done in
    let there_now : list_any (bytes_eq (row_name named (length done, t))) (row_names_of named done) ≡ true =
    rw (count, so_far.names) at there in
    let found : first_repeat 0 [] (row_names_of named (done ++ t ∷ rest)) ≡ Some (length done) =
    ap (first_repeat 0 []) (names_append named done (t ∷ rest))
    ∙ repeat_append 0 [] (row_names_of named done) (map (row_name named) (enumerate_from (length done) (t ∷ rest)))
    so_far.unrepeated
    ∙ rw (there_now, count_of_names named done, zero-add) refl in
    let found_in_all : first_repeat 0 [] (row_names_of named tuples) ≡ Some (length done) = rw (← all) found in
    let fits = (few named done t rest table tuples all below so_far).0 in
    let number : length table.rows + 2 ≡ min (length done + 2) 4294967295 = omega arith in
    inr (ap Err (e ∙ ap Repeated number) ∙ rw found_in_all refl)
