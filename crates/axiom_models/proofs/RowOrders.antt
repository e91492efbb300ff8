-- Rows of which any two different ones are put one before the other, in a way that leads on, can be put in an order.
use Rattle.std.proofs.Common.{◌≡◌, ◌⊎◌, ◌<◌, ◌≤◌, ℕ, zero, suc, List, [], ◌∷◌, Some, slice_get, refl, sym, ap, subst, inl, inr, ⊎_elim, arith}
use Rattle.std.proofs.lemmas.Bool.{cases_eq, cases_lt}
use Rattle.std.proofs.lemmas.Option.{same_Some, none-some}
use Rattle.currency_base.specs.Lists.{OnlyOnce}
use Rattle.currency_base.specs.declared.ids.RowId.{RowId}
use Rattle.order_literals.proofs.Items.{IsIn, in_at}
use Rattle.order_literals.proofs.RowLaws.{row_is}

-- rows of one kind, of which any two different ones are put one before the other, and none before itself; and a row is put
-- before what one is put before that it is put before
pub record LeadsOn (M : RowId → Type 0) (B : RowId → RowId → Type 0) : Type 0 where
  pub either : (t u : RowId) → M t → M u → (t ≡ u → ⊥) → B t u ⊎ B u t
  pub never : (t : RowId) → B t t → ⊥
  pub on : (t u v : RowId) → M t → M u → M v → B t u → B u v → B t v

module _ (M : RowId → Type 0) (B : RowId → RowId → Type 0) (leads : LeadsOn M B) where
  -- each row is put before all that stand behind it
  abbrev AreInOrder : List RowId → Type 0
  AreInOrder [] = Unit {0}
  AreInOrder (x ∷ xs) = ((y : RowId) → IsIn xs y → B x y) × AreInOrder xs

  -- all are rows of the kind
  abbrev AreOf : List RowId → Type 0
  AreOf xs = (x : RowId) → IsIn xs x → M x

  -- an order of a row and those of a list
  record IsWith (row : RowId) (list with_row : List RowId) : Type 0 where
    in_order : AreInOrder with_row
    only : (x : RowId) → IsIn with_row x → (row ≡ x) ⊎ IsIn list x
    has : IsIn with_row row
    all : (x : RowId) → IsIn list x → IsIn with_row x

  put_first : (row x : RowId) (xs : List RowId) → M row → AreOf (x ∷ xs) → AreInOrder (x ∷ xs) → B row x
      → (with_row : List RowId) × IsWith row (x ∷ xs) with_row
  put_first row x xs of are ordered before = (
    row ∷ x ∷ xs,
    record {
      in_order = (
        λ y at. elim at [
          | inl e ↦ subst (B row) e before
          | inr later ↦ leads.on row x y of (are x (inl refl)) (are y (inr later)) before (ordered.0 y later)
        ],
        ordered,
      );
      only = λ y at. at;
      has = inl refl;
      all = λ y at. inr at;
    },
  )

  put_later : (row x : RowId) (xs : List RowId) → AreInOrder (x ∷ xs) → B x row → (with_row : List RowId) × IsWith row xs with_row
      → (with_row : List RowId) × IsWith row (x ∷ xs) with_row
  put_later row x xs ordered after (rest, is) = (
    x ∷ rest,
    record {
      in_order = (
        λ y at. elim (is.only y at) [
          | inl e ↦ subst (B x) e after
          | inr later ↦ ordered.0 y later
        ],
        is.in_order,
      );
      only = λ y at. elim at [
        | inl e ↦ inr (inl e)
        | inr later ↦ elim (is.only y later) [ inl e ↦ inl e | inr there ↦ inr (inr there) ]
      ];
      has = inr is.has;
      all = λ y at. elim at [ inl e ↦ inl e | inr later ↦ inr (is.all y later) ];
    },
  )

  put_same : (row x : RowId) (xs : List RowId) → AreInOrder (x ∷ xs) → row ≡ x
      → (with_row : List RowId) × IsWith row (x ∷ xs) with_row
  put_same row x xs ordered same = (
    x ∷ xs,
    record { in_order = ordered; only = λ y at. inr at; has = inl (sym same); all = λ y at. at },
  )

  put_in : (row : RowId) (list : List RowId) → M row → AreOf list → AreInOrder list
      → (with_row : List RowId) × IsWith row list with_row
  put_in row [] of are ordered =
      (row ∷ [], record { in_order = (λ y at. absurd at, tt); only = λ y at. at; has = inl refl; all = λ y at. absurd at })
  put_in row (x ∷ xs) of are ordered =
      by (cases_eq row.0 x.0) (put_in row xs of (λ y at. are y (inr at)) ordered.1)
    where
      by : (row.0 ≡ x.0) ⊎ (row.0 ≡ x.0 → ⊥) → (with_row : List RowId) × IsWith row xs with_row
          → (with_row : List RowId) × IsWith row (x ∷ xs) with_row
      by (inl same) rest = put_same row x xs ordered (row_is row x same)
      by (inr differ) rest =
          ⊎_elim
          (λ (before : B row x). put_first row x xs of are ordered before)
          (λ (after : B x row). put_later row x xs ordered after rest)
          (leads.either row x of (are x (inl refl)) (λ e. differ (ap (λ (r : RowId). r.0) e)))

  -- an order of these rows
  record IsOf (rows list : List RowId) : Type 0 where
    in_order : AreInOrder list
    only : (x : RowId) → IsIn list x → IsIn rows x
    all : (x : RowId) → IsIn rows x → IsIn list x

  sorted : (rows : List RowId) → AreOf rows → (list : List RowId) × IsOf rows list
  sorted [] are = ([], record { in_order = tt; only = λ x at. at; all = λ x at. at })
  sorted (row ∷ rows) are = by (sorted rows (λ x at. are x (inr at)))
    where
      by : (list : List RowId) × IsOf rows list → (list : List RowId) × IsOf (row ∷ rows) list
      by (rest, is) =
          let more = put_in row rest (are row (inl refl)) (λ x at. are x (inr (is.only x at))) is.in_order in (
            more.0,
            record {
              in_order = more.1.in_order;
              only = λ x at. elim (more.1.only x at) [ inl e ↦ inl e | inr there ↦ inr (is.only x there) ];
              all = λ x at. elim at [
                | inl e ↦ subst (IsIn more.0) e more.1.has
                | inr there ↦ more.1.all x (is.all x there)
              ];
            },
          )

  -- of two places of it the row at the smaller is put before the other
  put_at : (list : List RowId) → AreInOrder list → (low high : ℕ) (t u : RowId) → low < high → slice_get list low ≡ Some t
      → slice_get list high ≡ Some u → B t u
  put_at [] ordered low high t u below at_t at_u = absurd (none-some t at_t)
  put_at (x ∷ xs) ordered low zero t u below at_t at_u = absurd (omega (arith, below))
  put_at (x ∷ xs) ordered zero (suc high) t u below at_t at_u =
      subst (λ (r : RowId). B r u) (same_Some x t at_t) (ordered.0 u (in_at xs high u at_u))
  put_at (x ∷ xs) ordered (suc low) (suc high) t u below at_t at_u =
      put_at xs ordered.1 low high t u (omega (arith, below)) at_t at_u

  put_once : (list : List RowId) → AreInOrder list → OnlyOnce list
  put_once list ordered i j row at_i at_j =
      ⊎_elim
      (λ (below : i < j). absurd (leads.never row (put_at list ordered i j row row below at_i at_j)))
      (λ (above : j ≤ i).
      ⊎_elim
      (λ (same : i ≡ j). same)
      (λ (differ : i ≡ j → ⊥).
      absurd (leads.never row (put_at list ordered j i row row (omega (arith, above, differ)) at_j at_i)))
      (cases_eq i j))
      (cases_lt i j)

-- an order of rows: each of them once, and each put before all that stand behind it
pub record IsRowOrder (B : RowId → RowId → Type 0) (rows list : List RowId) : Type 0 where
  pub only : (x : RowId) → IsIn list x → IsIn rows x
  pub all : (x : RowId) → IsIn rows x → IsIn list x
  pub once : OnlyOnce list
  pub put : (low high : ℕ) (t u : RowId) → low < high → slice_get list low ≡ Some t → slice_get list high ≡ Some u → B t u

pub row_order : (M : RowId → Type 0) (B : RowId → RowId → Type 0) → LeadsOn M B → (rows : List RowId)
    → ((x : RowId) → IsIn rows x → M x) → (list : List RowId) × IsRowOrder B rows list
row_order M B leads rows are =
    let found = sorted M B leads rows are in (
      found.0,
      record {
        only = found.1.only;
        all = found.1.all;
        once = put_once M B leads found.0 found.1.in_order;
        put = put_at M B leads found.0 found.1.in_order;
      },
    )
