-- The pairs by their first rows, and where those of a row begin.
use Rattle.std.proofs.Common.{◌≡◌, ◌⊎◌, ◌+◌, ◌-◌, ◌^◌, ◌<◌, ◌≤◌, ℕ, zero, suc, List, [], ◌∷◌, ◌++◌, Some, length, get_or, drop, slice_get, slice_index, slice_index_or, option_map, sym, ap, refl, subst, ◌∙◌, inl, inr, arith, append_assoc, length-append, length-drop, add-one}
use Rattle.std.proofs.lemmas.Bool.{cases_lt}
use Rattle.std.proofs.lemmas.List.{length-map, drop_more, drop-drop}
use Rattle.std.proofs.lemmas.Option.{slice_get-map, slice_get_within, get_or_from_slice_get, slice_get-get_or}
use Rattle.std.specs.List.Sorted.{IsNonDecreasing}
use Rattle.currency_base.specs.declared.ids.RowId.{RowId}
use Rattle.entity_lists.specs.Lists.{rows_from, rows_of}
use Rattle.pair_numbers.specs.declared.pair.RowPair.{RowPair}
use Rattle.pair_numbers.specs.Pairs.{with_each, pairs_from, pairs_of}
use Rattle.pair_numbers.specs.Starts.{left_from, AreStarts}
use Rattle.pair_numbers.proofs.LaterRows.{rows_after, rows_order, rows_few}

pub get_front : {A : Type 0} (xs ys : List A) (i : ℕ) → i < length xs → slice_get (xs ++ ys) i ≡ slice_get xs i
get_front [] ys i h = absurd (omega arith)
get_front (x ∷ xs) ys zero h = refl
get_front (x ∷ xs) ys (suc i) h = get_front xs ys i (omega arith)

pub get_behind : {A : Type 0} (xs ys : List A) (n i : ℕ) → n ≡ length xs + i → slice_get (xs ++ ys) n ≡ slice_get ys i
get_behind [] ys n i h = ap (slice_get ys) (omega arith)
get_behind (x ∷ xs) ys zero i h = absurd (omega arith)
get_behind (x ∷ xs) ys (suc n) i h = get_behind xs ys n i (omega arith)

get_drop : {A : Type 0} (xs : List A) (from n i : ℕ) → n ≡ from + i → slice_get (drop from xs) i ≡ slice_get xs n
get_drop xs zero n i h = ap (slice_get xs) (omega arith)
get_drop [] (suc from) n i h = refl
get_drop (x ∷ xs) (suc from) zero i h = absurd (omega arith)
get_drop (x ∷ xs) (suc from) (suc n) i h = get_drop xs from n i (omega arith)

-- the pair of a row with one of these rows
pub each_at : (earlier : RowId) (laters : List RowId) (i : ℕ) (later : RowId) → slice_get laters i ≡ Some later
    → slice_get (with_each earlier laters) i ≡ Some (record { earlier = earlier; later = later })
each_at earlier laters i later at =
    let pair : RowId → RowPair = λ later. record { earlier = earlier; later = later } in
    slice_get-map pair laters i ∙ ap (option_map pair) at

pub length_each : (earlier : RowId) (laters : List RowId) → length (with_each earlier laters) ≡ length laters
length_each earlier laters = length-map laters (λ later. let p : RowPair = record { earlier = earlier; later = later } in p)

-- all pairs are those of lesser first rows, and then those of the rows from one on
cut_at : (first : ℕ) (es : List ℕ) (row at : ℕ) → row ≤ length es → at ≡ first + row
    → (front : List RowPair) × (pairs_from first es ≡ front ++ pairs_from at (drop row es))
cut_at first es zero at h is = ([], ap (λ n. pairs_from n es) (omega arith))
cut_at first [] (suc row) at h is = absurd (omega arith)
cut_at first (x ∷ es) (suc row) at h is =
    let rest = cut_at (first + 1) es row at (omega arith) (omega arith) in
    let mine = with_each (record { 0 = first }) (rows_from (first + 1) es x) in
    (mine ++ rest.0, ap (λ ps. mine ++ ps) rest.1 ∙ sym (append_assoc mine rest.0 (pairs_from at (drop row es))))

-- what is left from a row on stands behind the pairs of lesser first rows
pair_from : (es : List ℕ) (row start total k : ℕ) → row ≤ length es → total ≡ length (pairs_of es)
    → start + left_from es row ≡ total
    → slice_get (pairs_of es) (start + k) ≡ slice_get (pairs_from row (drop row es)) k
pair_from es row start total k h total_is start_is =
    let cut = cut_at 0 es row row h (omega arith) in
    let rest = pairs_from row (drop row es) in
    let whole : length (pairs_of es) ≡ length cut.0 + length rest = ap length cut.1 ∙ length-append cut.0 rest in
    ap (λ ps. slice_get ps (start + k)) cut.1 ∙ get_behind cut.0 rest (start + k) k (omega arith)

-- the rows from a row on, and the later rows of its entity
row_first : (es : List ℕ) (row ent : ℕ) → slice_get es row ≡ Some ent → drop row es ≡ ent ∷ drop (row + 1) es
row_first es row ent at =
    drop_more es row ent (slice_get_within es row ent at) ∙ ap (λ e. e ∷ drop (row + 1) es)
    (get_or_from_slice_get es row ent ent at)

laters_of : (es : List ℕ) (ent place : ℕ) (row : RowId) → slice_get es row.0 ≡ Some ent → slice_get (rows_of es ent)
    place ≡ Some row
    → drop (place + 1) (rows_of es ent) ≡ rows_from (row.0 + 1) (drop (row.0 + 1) es) ent
laters_of es ent place row of at =
    let after = rows_after 0 es ent row.0 place row (row.0 + 1) of at (omega arith) (omega arith) in
    rw (add-one place, add-one row.0) (rw add-one at after)

pub left_more : (es : List ℕ) (ent place : ℕ) (row : RowId) → slice_get es row.0 ≡ Some ent
    → slice_get (rows_of es ent) place ≡ Some row
    → length (rows_of es ent) - place - 1 + left_from es (row.0 + 1) ≡ left_from es row.0
left_more es ent place row of at =
    let laters = rows_from (row.0 + 1) (drop (row.0 + 1) es) ent in
    let mine = with_each row laters in
    let rest = pairs_from (row.0 + 1) (drop (row.0 + 1) es) in
    let whole : left_from es row.0 ≡ length mine + length rest =
    ap (λ ds. length (pairs_from row.0 ds)) (row_first es row.0 ent of) ∙ length-append mine rest in
    let each = length_each row laters in
    let count : length laters ≡ length (rows_of es ent) - (place + 1) =
    ap length (sym (laters_of es ent place row of at)) ∙ length-drop (place + 1) (rows_of es ent) in
    let within = slice_get_within (rows_of es ent) place row at in
    omega arith

-- ---- the number of a pair

pub number_at : (es : List ℕ) (start total ent place place' : ℕ) (row row' : RowId) → total ≡ length (pairs_of es)
    → start + left_from es row.0 ≡ total → slice_get es row.0 ≡ Some ent → slice_get (rows_of es ent) place ≡ Some row
    → slice_get (rows_of es ent) place' ≡ Some row' → place < place'
    → slice_get (pairs_of es) (start + (place' - place - 1)) ≡ Some (record { earlier = row; later = row' })
number_at es start total ent place place' row row' total_is start_is of at at' order =
    let k = place' - place - 1 in
    let laters = rows_from (row.0 + 1) (drop (row.0 + 1) es) ent in
    let mine = with_each row laters in
    let rest = pairs_from (row.0 + 1) (drop (row.0 + 1) es) in
    let later : slice_get laters k ≡ Some row' =
    ap (λ rs. slice_get rs k) (sym (laters_of es ent place row of at))
    ∙ get_drop (rows_of es ent) (place + 1) place' k (omega arith) ∙ at' in
    let room : k < length mine = omega (arith, length_each row laters, slice_get_within laters k row' later) in
    pair_from es row.0 start total k (omega (arith, slice_get_within es row.0 ent of)) total_is start_is
    ∙ ap (λ ds. slice_get (pairs_from row.0 ds) k) (row_first es row.0 ent of)
    ∙ get_front mine rest k room ∙ each_at row laters k row' later

-- ---- the row of a number

left_falls : (es : List ℕ) (i j : ℕ) → i ≤ j → j ≤ length es → left_from es j ≤ left_from es i
left_falls es i j order within =
    let cut = cut_at i (drop i es) (j - i) j (omega (arith, length-drop i es)) (omega arith) in
    let same : drop (j - i) (drop i es) ≡ drop j es = drop-drop (j - i) i es ∙ ap (λ n. drop n es) (omega arith) in
    let whole : left_from es i ≡ length cut.0 + length (pairs_from j (drop (j - i) (drop i es))) =
    ap length cut.1 ∙ length-append cut.0 (pairs_from j (drop (j - i) (drop i es))) in
    let rest : length (pairs_from j (drop (j - i) (drop i es))) ≡ left_from es j = ap (λ ds. length (pairs_from j ds)) same in
    omega arith

-- the last row has no pair behind it
left_none : (es : List ℕ) (row : ℕ) → length es ≤ row → left_from es row ≡ 0
left_none es row h = ap (λ ds. length (pairs_from row ds)) (gone es row h)
  where
    gone : (es : List ℕ) (row : ℕ) → length es ≤ row → drop row es ≡ []
    gone [] zero h = refl
    gone [] (suc row) h = refl
    gone (x ∷ es) zero h = absurd (omega arith)
    gone (x ∷ es) (suc row) h = gone es row (omega arith)

any_default : (xs : List ℕ) (i d : ℕ) → i < length xs → get_or xs i d ≡ slice_index xs i
any_default xs i d h = get_or_from_slice_get xs i (get_or xs i 0) d (slice_get-get_or xs i 0 h)

-- what a number is, by the places of its rows among the rows of their entity
pub record IsNumbered (es : List ℕ) (row row' : RowId) (place place' start : ℕ) : Type 0 where
  pub order : place < place'
  pub pair : slice_get (pairs_of es) (start + (place' - place - 1)) ≡ Some (record { earlier = row; later = row' })
  pub within : start + (place' - place - 1) < length (pairs_of es)
  pub few : length (pairs_of es) < 2 ^ 32

-- the pair of a number, by the place of its first row among the rows of their entity
pub record IsFound (es : List ℕ) (rows : List RowId) (row : RowId) (place start number : ℕ) : Type 0 where
  pub room : place + 1 + (number - start) < length rows
  pub few : length rows < 2 ^ 32
  pub pair : (d : RowId) → slice_get (pairs_of es) number
      ≡ Some (record { earlier = row; later = slice_index_or rows (place + 1 + (number - start)) d })

module _ (es starts : List ℕ) (total : ℕ) (are : AreStarts es starts total) where
  pub starts_ascend : IsNonDecreasing starts
  starts_ascend i j d order within =
      let at_i = any_default starts i d (omega arith) in
      let at_j = any_default starts j d within in
      omega (
        arith,
        are.before i (omega (arith, are.rows)),
        are.before j (omega (arith, are.rows)),
        left_falls es i j
            order (omega (arith, are.rows)),
      )

  pub some_row : (number : ℕ) → number < length (pairs_of es) → 0 < length starts
  some_row number below = go (cases_lt 0 (length es))
    where
      go : (0 < length es) ⊎ (length es ≤ 0) → 0 < length starts
      go (inl h) = omega (arith, are.rows)
      go (inr h) = absurd (omega (arith, left_none es 0 h))

  pub first_start : 0 < length starts → slice_index starts 0 ≡ 0
  first_start some = omega (arith, are.before 0 (omega (arith, are.rows)), are.pairs)

  -- what is left behind the last row that begins up to a number
  pub below_next : (number next : ℕ) → number < length (pairs_of es) → next ≤ length starts →
      (next < length starts → number < slice_index starts next)
      → number + left_from es next < total
  below_next number next below within last = go (cases_lt next (length starts))
    where
      go : (next < length starts) ⊎ (length starts ≤ next) → number + left_from es next < total
      go (inl h) = omega (arith, last h, are.before next (omega (arith, are.rows)))
      go (inr h) = omega (arith, left_none es next (omega (arith, are.rows)), are.pairs)

  -- ---- what the calls tell

  module _ (row : RowId) (ent place start : ℕ) (of : slice_get es row.0 ≡ Some ent)
      (at : slice_get (rows_of es ent) place ≡ Some row)
      (start_is : start ≡ slice_index starts row.0) where
    begins : start + left_from es row.0 ≡ total
    begins = ap (λ n. n + left_from es row.0) start_is ∙ are.before row.0 (slice_get_within es row.0 ent of)

    pub numbered : (row' : RowId) (place' : ℕ) → slice_get (rows_of es ent) place' ≡ Some row' → row.0 < row'.0
        → IsNumbered es row row' place place' start
    numbered row' place' at' less =
        let order = rows_order es ent place place' row row' at at' less in
        let pair = number_at es start total ent place place' row row' are.pairs begins of at at' order in
        record {
          order = order;
          pair = pair;
          within = slice_get_within (pairs_of es) (start + (place' - place - 1)) _ pair;
          few = omega (arith, are.pairs, are.few_pairs);
        }

    pub found : (number : ℕ) → number < length (pairs_of es) → row.0 < length starts → start ≤ number
        → (row.0 + 1 < length starts → number < slice_index starts (row.0 + 1))
        → IsFound es (rows_of es ent) row place start number
    found number below within up_to last =
        let next = below_next number (row.0 + 1) below (omega arith) last in
        let laters = left_more es ent place row of at in
        let here = slice_get_within (rows_of es ent) place row at in
        let few = rows_few 0 es ent in
        let place' : ℕ = place + 1 + (number - start) in
        let room : place' < length (rows_of es ent) = omega (arith, begins) in
        let number_is : start + (place' - place - 1) ≡ number = omega arith in
        record {
          room = room;
          few = omega (arith, are.few);
          pair = λ d.
              let at' = slice_get-get_or (rows_of es ent) place' d room in
              let pair = number_at es start total ent place place' row (get_or (rows_of es ent) place' d) are.pairs
              begins of at at' (omega arith) in
              rw number_is at pair;
        }

  pub numbered_of : (now : List ℕ) (row row' : RowId) (place place' start : ℕ) → es ≡ now → row.0 < row'.0 → row'.0 < length now
      → slice_get now row.0 ≡ slice_get now row'.0
      → ((ent : ℕ) → slice_get es row.0 ≡ Some ent → slice_get (rows_of es ent) place ≡ Some row)
      → ((ent : ℕ) → slice_get es row'.0 ≡ Some ent → slice_get (rows_of es ent) place' ≡ Some row')
      → start ≡ get_or starts row.0 start → IsNumbered now row row' place place' start
  numbered_of now row row' place place' start same less within one at at' read =
      let ent : ℕ = get_or es row.0 0 in
      let here : row'.0 < length es = rw same within in
      let one' : slice_get es row.0 ≡ slice_get es row'.0 = rw same one in
      let of : slice_get es row.0 ≡ Some ent = slice_get-get_or es row.0 0 (omega arith) in
      let start_is : start ≡ slice_index starts row.0 = read ∙ any_default starts row.0 start (omega (arith, are.rows)) in
      subst (λ now. IsNumbered now row row' place place' start) same
      (numbered row ent place start of (at ent of) start_is row' place' (at' ent (sym one' ∙ of)) less)

  pub found_of : (now items : List ℕ) (rows : List RowId) (row : RowId) (ent place start number : ℕ) → es ≡ now → items ≡ starts
      → rows ≡ rows_of es ent → number < length (pairs_of now) → row.0 < length items → slice_index items row.0 ≤ number
      → (row.0 + 1 < length items → number < slice_index items (row.0 + 1)) → slice_get es row.0 ≡ Some ent
      → slice_get (rows_of es ent) place ≡ Some row → start ≡ get_or starts row.0 start → IsFound now rows row place start number
  found_of now items rows row ent place start number same same_items same_rows below room up_to last of at read =
      let below' : number < length (pairs_of es) = rw same below in
      let room' : row.0 < length starts = rw (← same_items) room in
      let last' : row.0 + 1 < length starts → number < slice_index starts (row.0 + 1) = rw (← same_items) last in
      let up_to' : slice_index starts row.0 ≤ number = rw (← same_items) up_to in
      let start_is : start ≡ slice_index starts row.0 = read ∙ any_default starts row.0 start room' in
      let f = found row ent place start of at start_is number below' room' (omega arith) last' in
      subst (λ now. IsFound now rows row place start number) same (subst (λ rs. IsFound es rs row place start number)
      (sym same_rows) f)
