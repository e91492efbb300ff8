-- The state of a clause with one literal more.
use Rattle.std.proofs.Common.{◌≡◌, ◌≢◌, ◌⊎◌, List, [], ◌∷◌, ◌++◌, Bool, true, false, eqb, sym, ap, subst, ◌∙◌, inl, inr, Contains}
use Rattle.std.proofs.lemmas.Bool.{eqb-true, eqb-false}
use Rattle.std.proofs.lemmas.List.Elements.{Contains-push, Contains-push_cases, Contains-append_left}
use Rattle.currency_base.specs.declared.lit.Lit.{Lit}
use Rattle.refutation_log.specs.Follows.{AreFalse, IsOnlyOpen, HasTwoOpen}
use Rattle.log_replay.specs.declared.clause_state.ClauseState.{ClauseState}
use Rattle.log_replay.specs.declared.clause_state.ClauseState.TheVariants.{Falsified, Unit, Unresolved}
use Rattle.log_replay.specs.Replays.{IsState}
use Rattle.log_replay.proofs.MarksSet.{same_lit}

-- two literals that are open still are, with one more
pub two_more : (falses front : List Lit) (lit : Lit) → HasTwoOpen falses front → HasTwoOpen falses (front ++ lit ∷ [])
two_more falses front lit two = record {
  first = two.first;
  second = two.second;
  differ = two.differ;
  first_in = Contains-append_left front (lit ∷ []) two.first two.first_in;
  second_in = Contains-append_left front (lit ∷ []) two.second two.second_in;
  first_open = two.first_open;
  second_open = two.second_open;
}

-- a literal that is false changes nothing
pub state_with_false : (falses front : List Lit) (lit : Lit) (state : ClauseState) → Contains falses lit
    → IsState falses front state
    → IsState falses (front ++ lit ∷ []) state
state_with_false falses front lit Falsified is_false was = λ other is_in. go other (Contains-push_cases front lit other is_in)
  where
    go : (other : Lit) → Contains front other ⊎ (lit ≡ other) → Contains falses other
    go other (inl old) = was other old
    go other (inr e) = subst (λ (l : Lit). Contains falses l) e is_false
state_with_false falses front lit (Unit open_lit) is_false was = record {
  is_in = Contains-append_left front (lit ∷ []) open_lit was.is_in;
  is_open = was.is_open;
  others = λ other is_in apart. go other apart (Contains-push_cases front lit other is_in);
}
  where
    go : (other : Lit) → other ≢ open_lit → Contains front other ⊎ (lit ≡ other) → Contains falses other
    go other apart (inl old) = was.others other old apart
    go other apart (inr e) = subst (λ (l : Lit). Contains falses l) e is_false
state_with_false falses front lit Unresolved is_false was = two_more falses front lit was

-- the first literal that is open
pub state_with_first : (falses front : List Lit) (lit : Lit) → (Contains falses lit → ⊥) → AreFalse falses front
    → IsOnlyOpen falses (front ++ lit ∷ []) lit
state_with_first falses front lit is_open were = record {
  is_in = Contains-push front lit;
  is_open = is_open;
  others = λ other is_in apart. go other apart (Contains-push_cases front lit other is_in);
}
  where
    go : (other : Lit) → other ≢ lit → Contains front other ⊎ (lit ≡ other) → Contains falses other
    go other apart (inl old) = were other old
    go other apart (inr e) = absurd (apart (sym e))

-- the literal that is open already
pub state_with_again : (falses front : List Lit) (lit : Lit) → IsOnlyOpen falses front lit
    → IsOnlyOpen falses (front ++ lit ∷ []) lit
state_with_again falses front lit was = record {
  is_in = Contains-push front lit;
  is_open = was.is_open;
  others = λ other is_in apart. go other apart (Contains-push_cases front lit other is_in);
}
  where
    go : (other : Lit) → other ≢ lit → Contains front other ⊎ (lit ≡ other) → Contains falses other
    go other apart (inl old) = was.others other old apart
    go other apart (inr e) = absurd (apart (sym e))

-- a second literal that is open
pub state_with_second : (falses front : List Lit) (first lit : Lit) → first ≢ lit → (Contains falses lit → ⊥)
    → IsOnlyOpen falses front first
    → HasTwoOpen falses (front ++ lit ∷ [])
state_with_second falses front first lit differ is_open was = record {
  first = first;
  second = lit;
  differ = differ;
  first_in = Contains-append_left front (lit ∷ []) first was.is_in;
  second_in = Contains-push front lit;
  first_open = was.is_open;
  second_open = is_open;
}

-- the literal that is open already, by the test
pub state_by_same : (falses front : List Lit) (first lit : Lit) (same : Bool) → same ≡ eqb first.0 lit.0 → same ≡ true
    → IsOnlyOpen falses front first → IsOnlyOpen falses (front ++ lit ∷ []) first
state_by_same falses front first lit same tells is_same was =
    subst (λ (l : Lit). IsOnlyOpen falses (front ++ l ∷ []) first)
    (same_lit first lit (eqb-true first.0 lit.0 (sym tells ∙ is_same)))
    (state_with_again falses front first was)

-- a second one, by the test
pub state_by_other : (falses front : List Lit) (first lit : Lit) (same : Bool) → same ≡ eqb first.0 lit.0 → same ≡ false
    → (Contains falses lit → ⊥) → IsOnlyOpen falses front first → HasTwoOpen falses (front ++ lit ∷ [])
state_by_other falses front first lit same tells is_other is_open was =
    state_with_second falses front first lit
    (λ e. eqb-false first.0 lit.0 (sym tells ∙ is_other) (ap (λ (l : Lit). l.0) e)) is_open was
