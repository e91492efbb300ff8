-- The rows of an entity, with one row more.
use Rattle.std.proofs.Common.{◌≡◌, ◌==◌, ◌+◌, ◌<◌, ℕ, Bool, true, false, cond, List, [], ◌∷◌, ◌++◌, length, take, slice_set, slice_index_or, refl, sym, ap, ◌∙◌, ◌⊎◌, inl, inr, ◌≢◌, get_or, arith}
use Rattle.std.proofs.lemmas.Bool.Decides.{eqb_tells}
use Rattle.std.proofs.lemmas.List.{append-nil, take_more, length-take-le, length-set, get_or-set_same, get_or-set_other}
use Rattle.currency_base.specs.declared.ids.RowId.{RowId}
use Rattle.currency_base.specs.declared.row.Row.{Row}
use Rattle.entity_rows.specs.Members.{members_from, members, AreEntityRows}

-- a row of that number, where it is of the entity
abbrev one_if : Bool → ℕ → List RowId
one_if b n = cond b (record { 0 = n } ∷ []) []

more_at : (first : ℕ) (rows : List Row) (row : Row) (ent : ℕ)
    → members_from first (rows ++ row ∷ []) ent ≡ members_from first rows ent ++ one_if (row.entity.0 == ent)
    (first + length rows)
more_at first [] row ent = go (row.entity.0 == ent)
  where
    go : (b : Bool) → cond b (record { 0 = first } ∷ []) [] ≡ [] ++ one_if b (first + 0)
    go true = ap (λ (n : ℕ). let x : RowId = record { 0 = n } in x ∷ []) (omega arith)
    go false = refl
more_at first (x ∷ rows) row ent =
    let e : first + 1 + length rows ≡ first + length (x ∷ rows) = omega arith in
    let step = more_at (first + 1) rows row ent ∙ ap (λ (n : ℕ). members_from (first + 1) rows ent
    ++ one_if (row.entity.0 == ent) n) e in
    go (x.entity.0 == ent) step
  where
    go : (b : Bool) → members_from (first + 1) (rows ++ row ∷ []) ent ≡ members_from (first + 1) rows ent
        ++ one_if (row.entity.0 == ent) (first + length (x ∷ rows))
        → cond b (record { 0 = first } ∷ members_from (first + 1) (rows ++ row ∷ []) ent)
        (members_from (first + 1) (rows ++ row ∷ []) ent)
        ≡ cond b (record { 0 = first } ∷ members_from (first + 1) rows ent) (members_from (first + 1) rows ent)
        ++ one_if (row.entity.0 == ent) (first + length (x ∷ rows))
    go true step = ap (λ (l : List RowId). let y : RowId = record { 0 = first } in y ∷ l) step
    go false step = step

-- the rows of an entity among the first n + 1 rows
members_next : (rows : List Row) (n ent : ℕ) (row : Row) → n < length rows → row ≡ get_or rows n row
    → members (take (n + 1) rows) ent ≡ members (take n rows) ent ++ one_if (row.entity.0 == ent) n
members_next rows n ent row within read =
    let front : length (take n rows) ≡ n = length-take-le n rows (omega arith) in
    let one_more : take (n + 1) rows ≡ take n rows ++ row ∷ [] = take_more rows n row within
    ∙ ap (λ (r : Row). take n rows ++ r ∷ []) (sym read) in
    let count : 0 + length (take n rows) ≡ n = omega arith in
    ap (λ (l : List Row). members l ent) one_more ∙ more_at 0 (take n rows) row ent
    ∙ ap (λ (k : ℕ). members (take n rows) ent ++ one_if (row.entity.0 == ent) k) count

-- the lists of the entities, with one row more at the end of its entity's
pub entity_rows_more : (rows : List Row) (entities n : ℕ) (row : Row) (id : RowId) (lists : List (List RowId))
    → n < length rows → row ≡ get_or rows n row
    → id.0 ≡ n → row.entity.0 < entities → AreEntityRows (take n rows) entities lists
    → AreEntityRows (take (n + 1) rows) entities (slice_set lists row.entity.0 (slice_index_or lists row.entity.0 [] ++ id ∷ []))
entity_rows_more rows entities n row id lists within read numbered inside are =
    let new = slice_index_or lists row.entity.0 [] ++ id ∷ [] in
    let per : length (slice_set lists row.entity.0 new) ≡ entities = length-set lists row.entity.0 new ∙ are.per_entity in
    record { per_entity = per; each = λ ent below. at ent below (eqb_tells row.entity.0 ent) }
  where
    at : (ent : ℕ) → ent < entities → (((row.entity.0 == ent) ≡ true) × (row.entity.0 ≡ ent)) ⊎
        (((row.entity.0 == ent) ≡ false) × (row.entity.0 ≢ ent))
        → slice_index_or (slice_set lists row.entity.0 (slice_index_or lists row.entity.0 [] ++ id ∷ [])) ent [] ≡
        members (take (n + 1) rows) ent
    at ent below (inl h) =
        let new = slice_index_or lists row.entity.0 [] ++ id ∷ [] in
        let room : row.entity.0 < length lists = omega (arith, are.per_entity) in
        let here : slice_index_or (slice_set lists row.entity.0 new) row.entity.0 [] ≡ new = get_or-set_same lists
        row.entity.0 new [] room in
        let moved : slice_index_or (slice_set lists row.entity.0 new) ent [] ≡ new =
        ap (λ (k : ℕ). slice_index_or (slice_set lists row.entity.0 new) k []) (sym h.1) ∙ here in
        let was : slice_index_or lists row.entity.0 [] ≡ members (take n rows) ent = are.each row.entity.0 inside
        ∙ ap (members (take n rows)) h.1 in
        let one : one_if (row.entity.0 == ent) n ≡ id ∷ [] = ap (λ (b : Bool). one_if b n) h.0
        ∙ ap (λ (k : ℕ). let x : RowId = record { 0 = k } in x ∷ []) (sym numbered) in
        moved ∙ ap (λ (l : List RowId). l ++ id ∷ []) was ∙ ap (λ (l : List RowId). members (take n rows) ent ++ l)
        (sym one) ∙ sym (members_next rows n ent row within read)
    at ent below (inr h) =
        let new = slice_index_or lists row.entity.0 [] ++ id ∷ [] in
        let stays : slice_index_or (slice_set lists row.entity.0 new) ent [] ≡ slice_index_or lists ent [] =
        get_or-set_other lists row.entity.0 ent new [] (λ e. h.1 (sym e)) in
        let none : one_if (row.entity.0 == ent) n ≡ [] = ap (λ (b : Bool). one_if b n) h.0 in
        stays ∙ are.each ent below ∙ sym (append-nil (members (take n rows) ent))
        ∙ ap (λ (l : List RowId). members (take n rows) ent ++ l) (sym none) ∙ sym (members_next rows n ent row within read)
