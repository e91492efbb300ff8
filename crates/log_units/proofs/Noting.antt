-- What is noted of the units of literals below a number, one literal after another.
use Rattle.std.proofs.Common.{◌≡◌, ◌⊎◌, inl, inr, ◌+◌, ◌≤◌, ℕ, true, false, List, [], Contains, Option, Some, Result, Ok, Err, OnOk, slice_get, option_map, sym, ap, ◌∙◌, subst, ⊎_elim, arith}
use Rattle.std.proofs.lemmas.Bool.{cases_eq, false≢true}
use Rattle.std.proofs.lemmas.Option.{same_Some}
use Rattle.std.specs.List.{list_any}
use Rattle.currency_base.specs.Literals.{is_negative, var_of}
use Rattle.currency_base.specs.declared.lit.Lit.{Lit}
use Rattle.log_axioms.specs.Truth.{meaning}
use Rattle.log_axioms.specs.declared.signed.Signed.{Signed}
use Rattle.log_checker.specs.Shown.{is_unit}
use Rattle.refutation_log.specs.Steps.{clauses_of}
use Rattle.refutation_log.specs.declared.log.Log.{Log}
use Rattle.refutation_log.specs.declared.statement.Statement.{Statement}
use Rattle.spec_model.specs.declared.relation.Relation.{Relation}
use Rattle.log_units.specs.Noted.{AreNoted, IsSaid, Notes}
use Rattle.log_units.specs.Said.{Adds, has_row, pair_of, row_of, tuple_of}
use Rattle.log_units.specs.declared.index.Index.{Index}

lit_is : (a b : Lit) → a.0 ≡ b.0 → a ≡ b
lit_is a b e = ap (λ (n : ℕ). let x : Lit = record { 0 = n } in x) e

module _ {K : Type 0} (said_by : Signed → Option K) (log : Log) where
  -- what is said by units below a number is said by units below a greater one
  said_more : (low high : ℕ) (k : K) → low ≤ high → IsSaid said_by log low k → IsSaid said_by log high k
  said_more low high k le is = record {
    lit = is.lit;
    early = let early = is.early in omega arith;
    signed = is.signed;
    means = is.means;
    says = is.says;
    there = is.there;
  }

  -- nothing is said below 0
  pub notes_none : (noted : K → Type 0) → ((k : K) → noted k → ⊥) → Notes said_by log 0 noted
  notes_none noted none = record {
    all = λ k is. let early = is.early in absurd (omega arith);
    only = λ k h. absurd (none k h);
  }

  -- nothing is said by the clauses of no step
  pub notes_nothing : (below : ℕ) (noted : K → Type 0) → clauses_of log.steps ≡ [] → ((k : K) → noted k → ⊥)
      → Notes said_by log below noted
  notes_nothing below noted empty none = record {
    all = λ k is. absurd (false≢true (sym (ap (list_any (is_unit is.lit)) empty) ∙ is.there));
    only = λ k h. absurd (none k h);
  }

  module _ (lit : Lit) where
    abbrev after : ℕ
    after = lit.0 + 1

    -- what is said below one more: by this literal, or before
    said_cases : (k : K) → IsSaid said_by log after k
        → IsSaid said_by log lit.0 k ⊎ ((signed : Signed) × (meaning log.statements lit ≡ Some signed) × (said_by signed ≡ Some k)
        × (list_any (is_unit lit) (clauses_of log.steps) ≡ true))
    said_cases k is =
        ⊎_elim
        (λ (same : is.lit.0 ≡ lit.0).
        let one = lit_is is.lit lit same in
        inr (
          is.signed,
          subst (λ l. meaning log.statements l ≡ Some is.signed) one is.means,
          is.says,
          subst (λ l. list_any (is_unit l) (clauses_of log.steps) ≡ true) one is.there,
        ))
        (λ (apart : is.lit.0 ≡ lit.0 → ⊥).
        inl record {
          lit = is.lit;
          early = let early = is.early in omega arith;
          signed = is.signed;
          means = is.means;
          says = is.says;
          there = is.there;
        })
        (cases_eq is.lit.0 lit.0)

    -- the literal has no unit
    pub notes_no_more : (noted : K → Type 0) → list_any (is_unit lit) (clauses_of log.steps) ≡ false
        → Notes said_by log lit.0 noted → Notes said_by log (lit.0 + 1) noted
    notes_no_more noted missing notes = record {
      all = λ k is. ⊎_elim (λ before. notes.all k before) (λ by. absurd (false≢true (sym missing ∙ by.3))) (said_cases k is);
      only = λ k h. said_more lit.0 after k (omega arith) (notes.only k h);
    }

    -- the literal has one, and what it says is added
    pub notes_more : (old new : K → Type 0) (signed : Signed) → list_any (is_unit lit) (clauses_of log.steps) ≡ true
        → meaning log.statements lit ≡ Some signed → Adds old new (said_by signed)
        → Notes said_by log lit.0 old → Notes said_by log (lit.0 + 1) new
    notes_more old new signed there means adds notes = record {
      all = λ k is. ⊎_elim
          (λ before. adds.kept k (notes.all k before))
          (λ by. adds.there k (ap said_by (same_Some signed by.0 (sym means ∙ by.1)) ∙ by.2))
          (said_cases k is);
      only = λ k h. ⊎_elim
          (λ was. said_more lit.0 after k (omega arith) (notes.only k was))
          (λ says. record { lit = lit; early = omega arith; signed = signed; means = means; says = says; there = there })
          (adds.only k h);
    }

-- ---- pairs, rows and answers

module _ (relations : List Relation) (log : Log) where
  not_in : {A : Type 0} (x : A) → Contains [] x → ⊥
  not_in x is = let below = is.1 in absurd (omega arith)

  pub noted_none : (index : Index) → index.pairs ≡ [] → index.rows ≡ [] → index.answers ≡ [] → AreNoted relations log 0 index
  noted_none index pairs rows answers = record {
    pairs = notes_none pair_of log (Contains index.pairs) (λ k h. not_in k (subst (λ ps. Contains ps k) pairs h));
    rows = notes_none (row_of relations) log (has_row index.rows) (λ k h. not_in k.row (subst (λ es. has_row es k) rows h));
    answers = notes_none (tuple_of log.answers) log (Contains index.answers)
        (λ k h. not_in k (subst (λ ps. Contains ps k) answers h));
  }

  pub noted_nothing : (below : ℕ) (index : Index) → log.steps ≡ [] → index.pairs ≡ [] → index.rows ≡ [] → index.answers ≡ []
      → AreNoted relations log below index
  noted_nothing below index empty pairs rows answers = record {
    pairs = notes_nothing pair_of log below (Contains index.pairs) (ap clauses_of empty)
        (λ k h. not_in k (subst (λ ps. Contains ps k) pairs h));
    rows = notes_nothing (row_of relations) log below (has_row index.rows) (ap clauses_of empty)
        (λ k h. not_in k.row (subst (λ es. has_row es k) rows h));
    answers = notes_nothing (tuple_of log.answers) log below (Contains index.answers) (ap clauses_of empty)
        (λ k h. not_in k (subst (λ ps. Contains ps k) answers h));
  }

  pub noted_no_more : (lit : Lit) (index : Index) → list_any (is_unit lit) (clauses_of log.steps) ≡ false
      → AreNoted relations log lit.0 index → AreNoted relations log (lit.0 + 1) index
  noted_no_more lit index missing noted = record {
    pairs = notes_no_more pair_of log lit (Contains index.pairs) missing noted.pairs;
    rows = notes_no_more (row_of relations) log lit (has_row index.rows) missing noted.rows;
    answers = notes_no_more (tuple_of log.answers) log lit (Contains index.answers) missing noted.answers;
  }

  pub noted_more : (lit : Lit) (old new : Index) (statement : Statement) → list_any (is_unit lit) (clauses_of log.steps) ≡ true
      → slice_get log.statements (var_of lit) ≡ Some statement
      → Adds (Contains old.pairs) (Contains new.pairs) (pair_of record { statement = statement; negative = is_negative lit })
      → Adds (has_row old.rows) (has_row new.rows) (row_of relations record { statement = statement; negative = is_negative lit })
      → Adds (Contains old.answers) (Contains new.answers)
      (tuple_of log.answers record { statement = statement; negative = is_negative lit })
      → AreNoted relations log lit.0 old → AreNoted relations log (lit.0 + 1) new
  noted_more lit old new statement there at pairs rows answers noted =
      let signed : Signed = record { statement = statement; negative = is_negative lit } in
      let means : meaning log.statements lit ≡ Some signed =
      ap (option_map (λ (s : Statement). let m : Signed = record { statement = s; negative = is_negative lit } in m)) at in
      record {
        pairs = notes_more pair_of log lit (Contains old.pairs) (Contains new.pairs) signed there means pairs noted.pairs;
        rows = notes_more (row_of relations) log lit (has_row old.rows) (has_row new.rows) signed there means rows noted.rows;
        answers = notes_more (tuple_of log.answers) log lit (Contains old.answers) (Contains new.answers) signed
            there means answers noted.answers;
      }

-- what follows from three facts of a success
pub three_ok : {X Y : Type 0} (r : Result X Y) (P Q R S : Type 0) → OnOk r P → OnOk r Q → OnOk r R → (P → Q → R → S) → OnOk r S
three_ok (Ok x) P Q R S p q s f = f p q s
three_ok (Err y) P Q R S p q s f = tt
