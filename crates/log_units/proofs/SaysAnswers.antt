-- A unit of an answer is there exactly where its tuple is noted.
use Rattle.std.proofs.Common.{◌≡◌, ◌==◌, ◌&&◌, ◌*◌, ℕ, Bool, true, false, eq-eqb, Contains, List, Some, length, slice_get, refl, ap, ◌∙◌}
use Rattle.std.proofs.lemmas.Bool.{and_parts, eqb-true, false≢true}
use Rattle.std.proofs.lemmas.Option.{none-some}
use Rattle.currency_base.specs.declared.value.Value.{Value}
use Rattle.log_axioms.specs.Axioms.{answer, is_said, says_same}
use Rattle.log_axioms.specs.declared.signed.Signed.{Signed}
use Rattle.refutation_log.specs.declared.log.Log.{Log}
use Rattle.refutation_log.specs.declared.statement.Statement.{Statement}
use Rattle.refutation_log.specs.declared.statement.Statement.TheVariants as says
use Rattle.spec_model.specs.declared.relation.Relation.{Relation}
use Rattle.log_units.specs.Noted.{AreNoted}
use Rattle.log_units.specs.Said.{tuple_of}
use Rattle.log_units.specs.Units.{HasAnswerUnit}
use Rattle.log_units.specs.declared.index.Index.{Index}
use Rattle.log_units.proofs.Says.{is_meant, signed}

-- what says the same as that the tuple at a place is an answer says this tuple
tuple_of_same : (relations : List Relation) (answers : List (List Value)) (m : Signed) (place : ℕ)
    → says_same relations m (answer place) ≡ true → tuple_of answers m ≡ slice_get answers place
tuple_of_same relations answers m place e = by m.statement m.negative e
  where
    by : (s : Statement) (n : Bool) → says_same relations (signed s n) (answer place) ≡ true
        → tuple_of answers (signed s n) ≡ slice_get answers place
    by (says.Answer k) true e = absurd (false≢true (and_parts (k == place) false e).1)
    by (says.Answer k) false e = ap (slice_get answers) (eqb-true k place (and_parts (k == place) true e).0)
    by (says.Before r t x y) n e = absurd (false≢true e)
    by (says.Top r t x) n e = absurd (false≢true e)
    by (says.Last r t x) n e = absurd (false≢true e)

-- a statement with its sign says of a place, at which the tuple stands, that its tuple is an answer
record IsNamed (answers : List (List Value)) (m : Signed) (tuple : List Value) : Type 0 where
  place : ℕ
  is : m ≡ answer place
  is_tuple : slice_get answers place ≡ Some tuple

named : (answers : List (List Value)) (m : Signed) (tuple : List Value) → tuple_of answers m ≡ Some tuple
    → IsNamed answers m tuple
named answers m tuple e = by m.statement m.negative e
  where
    by : (s : Statement) (n : Bool) → tuple_of answers (signed s n) ≡ Some tuple → IsNamed answers (signed s n) tuple
    by (says.Answer k) true e = absurd (none-some tuple e)
    by (says.Answer k) false e = record { place = k; is = refl; is_tuple = e }
    by (says.Before r t x y) n e = absurd (none-some tuple e)
    by (says.Top r t x) n e = absurd (none-some tuple e)
    by (says.Last r t x) n e = absurd (none-some tuple e)

module _ (relations : List Relation) (log : Log) (index : Index)
    (noted : AreNoted relations log (2 * length log.statements) index) where
  pub unit_of_answer : (tuple : List Value) → Contains index.answers tuple → HasAnswerUnit relations log tuple
  unit_of_answer tuple is =
      let said = noted.answers.only tuple is in
      let one = named log.answers said.signed tuple said.says in
      record {
        place = one.place;
        is_tuple = one.is_tuple;
        unit = record {
          lit = said.lit;
          says = ap (is_said relations (answer one.place)) (said.means ∙ ap Some one.is) ∙ itself one.place;
          there = said.there;
        };
      }
    where
      itself : (k : ℕ) → ((k == k) && true) ≡ true
      itself k = ap (λ (b : Bool). b && true) (eq-eqb k k refl)

  pub answer_of_unit : (tuple : List Value) → HasAnswerUnit relations log tuple → Contains index.answers tuple
  answer_of_unit tuple has =
      let is = is_meant relations log has.unit.lit (answer has.place) has.unit.says in
      noted.answers.all tuple record {
        lit = has.unit.lit;
        early = is.early;
        signed = is.meant;
        means = is.means;
        says = tuple_of_same relations log.answers is.meant has.place is.same ∙ has.is_tuple;
        there = has.unit.there;
      }
