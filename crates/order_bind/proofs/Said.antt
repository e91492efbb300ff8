-- What a tuple says, its texts taken off one after another.
use Rattle.std.proofs.Common.{◌≡◌, ◌∙◌, ℕ, List, [], ◌∷◌, drop, Result, Ok, refl, ap}
use Rattle.currency_base.specs.declared.error_code.ErrorCode.TheVariants.{UnknownName}
use Rattle.currency_base.specs.declared.value.Value.{Value}
use Rattle.table_rows.specs.Rows.{text_at}
use Rattle.bind_faults.specs.Faults.{and_then}
use Rattle.bind_faults.specs.declared.fault.BindFault.{BindFault}
use Rattle.order_bind.specs.TableOrders.{line_at, place_in, record_in}
use Rattle.order_bind.specs.declared.tables.records.PairRecord.{PairRecord}

second : (values : List Value) → text_at (drop 1 values) 0 ≡ text_at values 1
second [] = refl
second (x ∷ values) = refl

third : (values : List Value) → text_at (drop 1 (drop 1 values)) 0 ≡ text_at values 2
third [] = refl
third (x ∷ []) = refl
third (x ∷ (y ∷ values)) = refl

-- the texts that are taken off
pub record AreTaken (tuple first rest last : List Value) (name earlier later : List ℕ) : Type 0 where
  pub all : first ≡ tuple
  pub dropped : rest ≡ drop 1 first
  pub dropped_again : last ≡ drop 1 rest
  pub name_is : name ≡ text_at first 0
  pub earlier_is : earlier ≡ text_at rest 0
  pub later_is : later ≡ text_at last 0

-- the record of a tuple of which these are the texts
pub said : (table : List ℕ) (attrs : List (List ℕ)) (place : ℕ) (tuple first rest last : List Value) (line attr : ℕ)
    (name earlier later : List ℕ)
    → AreTaken tuple first rest last name earlier later → line ≡ line_at place → place_in table UnknownName line
    attrs name ≡ Ok attr
    → record_in table attrs (place, tuple) ≡ Ok
    (record { line = line; attr = record { 0 = attr }; earlier = earlier; later = later })
said table attrs place tuple first rest last line attr name earlier later taken lines found =
    let names : name ≡ text_at tuple 0 = taken.name_is ∙ ap (λ vs. text_at vs 0) taken.all in
    let second_is : earlier ≡ text_at tuple 1 =
    taken.earlier_is ∙ ap (λ vs. text_at vs 0) taken.dropped ∙ second first ∙ ap (λ vs. text_at vs 1) taken.all in
    let third_is : later ≡ text_at tuple 2 =
    taken.later_is ∙ ap (λ vs. text_at vs 0) taken.dropped_again ∙ ap (λ vs. text_at (drop 1 vs) 0) taken.dropped
    ∙ third first ∙ ap (λ vs. text_at vs 2) taken.all in
    let at : place_in table UnknownName (line_at place) attrs (text_at tuple 0) ≡ Ok attr = rw (lines, names) at found in
    let next : ℕ → Result PairRecord BindFault =
    λ k. Ok (record { line = line_at place; attr = record { 0 = k }; earlier = text_at tuple 1; later = text_at tuple 2 }) in
    rw (lines, second_is, third_is) (ap (λ a. and_then a next) at)
