-- Steps of the search for the first two rows that break a place of a copy function.
use Rattle.std.proofs.Common.{◌≡◌, ◌+◌, ◌<◌, ℕ, false, List, Option, Some, None, is_some, length, refl, sym, ap, ◌∙◌, ⊎_elim, arith}
use Rattle.std.proofs.lemmas.Bool.{cases_eq, true≢false}
use Rattle.std.proofs.lemmas.Option.{same_Some}
use Rattle.currency_base.specs.declared.ids.RowId.{RowId}
use Rattle.copy_functions.specs.Copies.{source_at}
use Rattle.copy_functions.specs.declared.place.Place.{Place}
use Rattle.entity_rows.specs.Members.{members}
use Rattle.entity_rows.proofs.Membership.{member_of_entity, entity_member, members_ascend}
use Rattle.partial_orders.specs.Pairs.{entity_of}
use Rattle.completion_check.specs.CopyTests.{CopyTried, breaks_with, breaks_copy}
use Rattle.completion_check.specs.CopyBreaks.{NoPartner, IsFirstPartner, NoPairBreaks, IsFirstPairBreak}
use Rattle.completion_check.proofs.Places.{row_within, same_row}
use Rattle.completion_check.proofs.Searched.{stands_before}

breaks_with_none : (t : CopyTried) (place : Place) (first second : RowId) (x y : Option RowId) → is_some x ≡ false
    → breaks_with t place first second x y ≡ false
breaks_with_none t place first second None y no_source = refl
breaks_with_none t place first second (Some a) y no_source = absurd (true≢false no_source)

-- a row that is not mapped breaks no place with any row
pub unmapped : (t : CopyTried) (place : Place) (first : RowId) (members : List RowId)
    → is_some (source_at t.copy first) ≡ false → NoPartner t place first members
unfolding breaks_copy
unmapped t place first members no_source k row at = breaks_with_none t place first row (source_at t.copy first)
    (source_at t.copy row) no_source

-- no two rows of one entity break the place whose first stands below a number
abbrev pub NonePairBelow : CopyTried → Place → ℕ → Type 0
NonePairBelow t place n = (ent : ℕ) (first second : RowId) → first.0 < n → entity_of t.target_rows first.0 ≡ Some ent
    → entity_of t.target_rows second.0 ≡ Some ent
    → breaks_copy t place first second ≡ false

-- one more first row
pub none_pair_next : (t : CopyTried) (place : Place) (n ent : ℕ) (first : RowId) → first.0 ≡ n
    → entity_of t.target_rows n ≡ Some ent → NonePairBelow t place n
    → NoPartner t place first (members t.target_rows ent) → NonePairBelow t place (n + 1)
none_pair_next t place n ent first numbered of below here ent' row second less of_row of_second =
    ⊎_elim
    (λ (is : row.0 ≡ n).
    let same : row ≡ first = same_row row first (is ∙ sym numbered) in
    let mine : ent' ≡ ent = same_Some ent' ent (sym of_row ∙ (ap (entity_of t.target_rows) is ∙ of)) in
    let there = entity_member t.target_rows ent second (of_second ∙ ap Some mine) in
    ap (λ (r : RowId). breaks_copy t place r second) same ∙ here there.0 second there.1)
    (λ (apart : row.0 ≡ n → ⊥). below ent' row second (omega arith) of_row of_second)
    (cases_eq row.0 n)

-- none at all
pub none_pair_at_all : (t : CopyTried) (place : Place) → NonePairBelow t place (length t.target_rows) → NoPairBreaks t place
none_pair_at_all t place below ent first second of_first of_second =
    below ent first second (row_within t.target_rows first.0 ent of_first) of_first of_second

-- the first two rows are those of the first row that has a partner
pub first_pair_at : (t : CopyTried) (place : Place) (n ent : ℕ) (first second : RowId) → first.0 ≡ n
    → entity_of t.target_rows n ≡ Some ent → NonePairBelow t place n
    → IsFirstPartner t place first (members t.target_rows ent) second → IsFirstPairBreak t place first second
first_pair_at t place n ent first second numbered of below is =
    let mine : entity_of t.target_rows first.0 ≡ Some ent = ap (entity_of t.target_rows) numbered ∙ of in
    record {
      ent = ent;
      first_of = mine;
      second_of = member_of_entity t.target_rows ent is.at second is.is_member;
      breaks = is.breaks;
      earlier = λ ent' row other before of_row of_other.
          ⊎_elim
          (λ (less : row.0 < first.0). below ent' row other (omega (arith, numbered)) of_row of_other)
          (λ (same : (row ≡ first) × (other.0 < second.0)).
          let one : ent' ≡ ent = same_Some ent' ent
          (sym of_row ∙ (ap (λ (r : RowId). entity_of t.target_rows r.0) same.0 ∙ mine)) in
          let there = entity_member t.target_rows ent other (of_other ∙ ap Some one) in
          let stands = stands_before (members t.target_rows ent) is.at there.0 second other
          (λ i j a b. members_ascend t.target_rows ent i j a b) is.is_member there.1 same.1 in
          ap (λ (r : RowId). breaks_copy t place r other) same.0 ∙ is.earlier there.0 other stands there.1)
          before;
    }
