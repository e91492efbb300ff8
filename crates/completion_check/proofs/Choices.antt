-- Choices of rows, by their first row and those that follow it.
use Rattle.std.proofs.Common.{◌≡◌, ◌+◌, ◌-◌, ◌<◌, ℕ, zero, suc, false, List, [], ◌∷◌, length, All, Contains, Some, get_or, sym, ap, ◌∙◌, subst, ⊎_elim, arith}
use Rattle.std.proofs.lemmas.Bool.{cases_eq}
use Rattle.std.proofs.lemmas.List.Elements.{All-head, All-tail, All-cons, All-weaker, All-get_or}
use Rattle.std.proofs.lemmas.Option.{same_Some, slice_get-get_or}
use Rattle.partial_orders.specs.Pairs.{entity_of}
use Rattle.currency_base.specs.declared.ids.RowId.{RowId}
use Rattle.currency_base.specs.declared.row.Row.{Row}
use Rattle.entity_rows.specs.Members.{members}
use Rattle.entity_rows.proofs.Membership.{member_of_entity, entity_member}
use Rattle.spec_model.specs.Satisfies.{IsChoice, AreRowsBefore}
use Rattle.completion_check.specs.Breaks.{Tried, AreMore, AreRows, NoneBreaks, BreaksFirst, NoChoiceBreaks, IsFirstBreak, breaks_it}
use Rattle.completion_check.proofs.Places.{at_contains, contains_at, row_within}

-- the rows that follow the first one of a choice are of its entity
more_of_choice : (table : List Row) (vars ent : ℕ) (row : RowId) (more : List RowId) → entity_of table row.0 ≡ Some
    ent → IsChoice table vars (row ∷ more)
    → AreMore (members table ent) (vars - 1) more
more_of_choice table vars ent row more of choice =
    let first = All-head (λ (r : RowId). entity_of table r.0 ≡ Some choice.ent) row more choice.of_entity in
    let same : choice.ent ≡ ent = same_Some choice.ent ent (sym first ∙ of) in
    let rest = All-tail (λ (r : RowId). entity_of table r.0 ≡ Some choice.ent) row more choice.of_entity in
    record {
      count = omega (arith, choice.one_each);
      among = All-weaker (λ (r : RowId). entity_of table r.0 ≡ Some choice.ent) (Contains (members table ent))
          (λ r of_choice. let at = entity_member table ent r (of_choice ∙ ap Some same) in contains_at
          (members table ent) at.0 r at.1) more rest;
    }

-- and where they are, it is a choice
choice_of_more : (table : List Row) (vars ent : ℕ) (row : RowId) (more : List RowId) → 0 < vars → entity_of table row.0 ≡ Some ent
    → AreMore (members table ent) (vars - 1) more → IsChoice table vars (row ∷ more)
choice_of_more table vars ent row more some of are =
    record {
      one_each = omega (arith, are.count);
      ent = ent;
      of_entity = All-cons (λ (r : RowId). entity_of table r.0 ≡ Some ent) row more of
          (All-weaker (Contains (members table ent)) (λ (r : RowId). entity_of table r.0 ≡ Some ent)
          (λ r c. let at = at_contains (members table ent) r c in member_of_entity table ent at.0 r at.1) more are.among);
    }

-- no choice whose first row stands below a number breaks the rule
abbrev pub NoneBelow : Tried → ℕ → Type 0
NoneBelow t n = (row : RowId) (more : List RowId) → row.0 < n → IsChoice t.table t.rule.vars (row ∷ more)
    → breaks_it t (row ∷ more) ≡ false

-- the rows of an entity are rows of the table
pub members_are_rows : (table : List Row) (ent : ℕ) → AreRows table (members table ent)
members_are_rows table ent k d below =
    row_within table (get_or (members table ent) k d).0 ent
    (member_of_entity table ent k (get_or (members table ent) k d) (slice_get-get_or (members table ent) k d below))

-- the row of a number is of its entity
pub entity_at : (table : List Row) (n : ℕ) (row : Row) → n < length table → row ≡ get_or table n row
    → entity_of table n ≡ Some row.entity.0
entity_at [] n row within read = absurd (omega arith)
entity_at (x ∷ table) zero row within read = ap (λ (r : Row). Some r.entity.0) (sym read)
entity_at (x ∷ table) (suc n) row within read = entity_at table n row (omega arith) read

pub entity_read : (table now : List Row) (n : ℕ) (row : Row) → now ≡ table → n < length now → row ≡ get_or now n row
    → entity_of table n ≡ Some row.entity.0
entity_read table now n row same within read = subst (λ (t : List Row). entity_of t n ≡ Some row.entity.0) same
    (entity_at now n row within read)

-- the list of the rows of its entity
pub within_read : (table now : List Row) (n count : ℕ) (row : Row) → now ≡ table → n < length now → row ≡ get_or now n row
    → All (λ (r : Row). r.entity.0 < count) table → row.entity.0 < count
within_read table now n count row same within read all =
    let found : (get_or now n row).entity.0 < count = All-get_or (λ (r : Row). r.entity.0 < count) now n row within
    (subst (All (λ (r : Row). r.entity.0 < count)) (sym same) all) in
    rw (← read) at found

-- one more first row
pub none_below_next : (t : Tried) (n ent : ℕ) (first : RowId) → first.0 ≡ n → entity_of t.table n ≡ Some ent → NoneBelow t n
    → NoneBreaks t (members t.table ent) (t.rule.vars - 1) (first ∷ []) → NoneBelow t (n + 1)
none_below_next t n ent first numbered of below here row more less choice =
    ⊎_elim
    (λ (is : row.0 ≡ n).
    let same : row ≡ first = ap (λ (k : ℕ). let x : RowId = record { 0 = k } in x) (is ∙ sym numbered) in
    let mine : entity_of t.table row.0 ≡ Some ent = ap (entity_of t.table) is ∙ of in
    ap (λ (r : RowId). breaks_it t (r ∷ more)) same ∙ here more (more_of_choice t.table t.rule.vars ent row more mine choice))
    (λ (apart : row.0 ≡ n → ⊥). below row more (omega arith) choice)
    (cases_eq row.0 n)

-- none at all
pub none_at_all : (t : Tried) → 0 < t.rule.vars → NoneBelow t (length t.table) → NoChoiceBreaks t
none_at_all t some below [] choice = absurd (omega (arith, choice.one_each))
none_at_all t some below (row ∷ more) choice =
    below row more (row_within t.table row.0 choice.ent
    (All-head (λ (r : RowId). entity_of t.table r.0 ≡ Some choice.ent) row more choice.of_entity)) choice

-- the first break that begins with the first row that has one
pub first_at : (t : Tried) (n ent : ℕ) (first : RowId) (found : List RowId) → 0 < t.rule.vars → first.0 ≡ n
    → entity_of t.table n ≡ Some ent → NoneBelow t n
    → BreaksFirst t (members t.table ent) (t.rule.vars - 1) (first ∷ []) found → IsFirstBreak t found
first_at t n ent first found some numbered of below is =
    let mine : entity_of t.table first.0 ≡ Some ent = ap (entity_of t.table) numbered ∙ of in
    record {
      choice = subst (IsChoice t.table t.rule.vars) (sym is.found_is)
          (choice_of_more t.table t.rule.vars ent first is.more some mine is.are_more);
      breaks = is.breaks;
      earlier = λ others before choice. earlier mine others (subst (AreRowsBefore others) is.found_is before) choice;
    }
  where
    earlier : entity_of t.table first.0 ≡ Some ent → (others : List RowId) → AreRowsBefore others (first ∷ is.more)
        → IsChoice t.table t.rule.vars others → breaks_it t others ≡ false
    earlier mine [] before choice = absurd before
    earlier mine (r ∷ others) before choice =
        ⊎_elim
        (λ (less : r.0 < first.0). below r others (omega (arith, numbered)) choice)
        (λ (same : (r ≡ first) × AreRowsBefore others is.more).
        let own : entity_of t.table r.0 ≡ Some ent = ap (λ (q : RowId). entity_of t.table q.0) same.0 ∙ mine in
        ap (λ (q : RowId). breaks_it t (q ∷ others)) same.0
        ∙ is.earlier others same.1 (more_of_choice t.table t.rule.vars ent r others own choice))
        before
