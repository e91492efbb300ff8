-- Going through the hints of a clause: the start, one hint more, the cause for which a hint fails, and the end.
use Rattle.std.proofs.Common.{◌≡◌, ◌⊎◌, ◌+◌, ◌<◌, ℕ, List, [], ◌∷◌, ◌++◌, Some, None, length, get_or, take, slice_get, refl, sym, ap, subst, ◌∙◌, inl, inr, arith}
use Rattle.std.proofs.lemmas.List.{map-append, take_more, take_all}
use Rattle.std.proofs.lemmas.List.Elements.{All-nil, All-push, All-same}
use Rattle.std.proofs.lemmas.Option.{get_or_from_slice_get, slice_get-get_or, slice_get_within}
use Rattle.currency_base.specs.Literals.{negation}
use Rattle.currency_base.specs.declared.lit.Lit.{Lit}
use Rattle.refutation_log.specs.Follows.{AreFalse, IsOnlyOpen, Falsifies, clause_at, clauses_at, AreEarlier, FollowsFrom, IsReached, IsUnknownHint, IsNoUnit, IsNoConflict}
use Rattle.log_replay.specs.declared.clause_state.ClauseState.{ClauseState}
use Rattle.log_replay.specs.declared.clause_state.ClauseState.TheVariants.{Falsified, Unit, Unresolved}
use Rattle.log_replay.specs.declared.fault.StepFault.{StepFault}
use Rattle.log_replay.specs.declared.fault.StepFault.TheVariants.{NotUnit, NoConflict, UnknownHint, NoMemory}
use Rattle.log_replay.specs.Replays.{IsStepRefusal, IsState, IsHintState, IsUsed, HintFails}
use Rattle.log_replay.proofs.Falsified.{falsifies_with_false, falsifies_with_open}

-- the hints up to one, and it
pub taken_more : (hints : List ℕ) (place hint : ℕ) → slice_get hints place ≡ Some hint
    → take (place + 1) hints ≡ take place hints ++ hint ∷ []
taken_more hints place hint is_hint =
    take_more hints place 0 (slice_get_within hints place hint is_hint)
    ∙ ap (λ (h : ℕ). take place hints ++ h ∷ []) (get_or_from_slice_get hints place hint 0 is_hint)

-- the same with clauses
pub clauses_more : (earlier : List (List Lit)) (hints : List ℕ) (place hint : ℕ) → slice_get hints place ≡ Some hint
    → clauses_at earlier (take (place + 1) hints) ≡ clauses_at earlier (take place hints) ++ clause_at earlier hint ∷ []
clauses_more earlier hints place hint is_hint =
    ap (clauses_at earlier) (taken_more hints place hint is_hint) ∙ map-append (clause_at earlier) (take place hints) (hint ∷ [])

-- all hints, where this is the last
pub all_taken : (hints : List ℕ) (place : ℕ) → place + 1 ≡ length hints → take (place + 1) hints ≡ hints
all_taken hints place is_last = take_all (place + 1) hints (omega arith)

pub earlier_more : (earlier : List (List Lit)) (hints : List ℕ) (place hint : ℕ) → slice_get hints place ≡ Some hint
    → hint < length earlier
    → AreEarlier earlier (take place hints) → AreEarlier earlier (take (place + 1) hints)
earlier_more earlier hints place hint is_hint known were =
    All-same (λ (h : ℕ). h < length earlier) (take (place + 1) hints) (take place hints ++ hint ∷ [])
    (taken_more hints place hint is_hint)
    (All-push (λ (h : ℕ). h < length earlier) (take place hints) hint were known)

pub reached_first : (earlier : List (List Lit)) (clause : List Lit) (hints : List ℕ) → IsReached earlier clause hints 0 clause
reached_first earlier clause hints =
    record { within = omega arith; known = All-nil (λ (h : ℕ). h < length earlier); falsified = refl }

-- a hint is used
pub reached_more : (earlier : List (List Lit)) (clause : List Lit) (hints : List ℕ) (place hint : ℕ) (falses new : List Lit)
    → IsReached earlier clause hints place falses → slice_get hints place ≡ Some hint → IsUsed earlier falses hint new
    → IsReached earlier clause hints (place + 1) new
reached_more earlier clause hints place hint falses new reached is_hint used =
    let inside = slice_get_within hints place hint is_hint in
    record {
      within = omega arith;
      known = earlier_more earlier hints place hint is_hint used.0 reached.known;
      falsified =
          subst (λ (cs : List (List Lit)). Falsifies clause cs new)
          (sym (clauses_more earlier hints place hint is_hint)) (go used.1);
    }
  where
    go : (AreFalse falses (clause_at earlier hint) × (new ≡ falses))
        ⊎ ((lit : Lit) × IsOnlyOpen falses (clause_at earlier hint) lit × (new ≡ falses ++ negation lit ∷ []))
        → Falsifies clause (clauses_at earlier (take place hints) ++ clause_at earlier hint ∷ []) new
    go (inl h) =
        subst (λ (f : List Lit). Falsifies clause (clauses_at earlier (take place hints) ++ clause_at earlier hint
        ∷ []) f) (sym h.1)
        (falsifies_with_false clause (clauses_at earlier (take place hints)) (clause_at earlier hint) falses
        reached.falsified h.0)
    go (inr h) =
        subst (λ (f : List Lit). Falsifies clause (clauses_at earlier (take place hints) ++ clause_at earlier hint
        ∷ []) f) (sym h.2)
        (falsifies_with_open clause (clauses_at earlier (take place hints)) (clause_at earlier hint) falses h.0
        reached.falsified h.1)

-- a hint that is not the last fails
pub refused_here : (earlier : List (List Lit)) (clause : List Lit) (hints : List ℕ) (place hint : ℕ) (falses : List Lit)
    (fault : StepFault)
    → IsReached earlier clause hints place falses → slice_get hints place ≡ Some hint → place + 1 < length hints
    → HintFails earlier falses hint place fault → IsStepRefusal earlier clause hints fault
refused_here earlier clause hints place hint falses (NotUnit at) reached is_hint not_last fails =
    subst (λ (p : ℕ). IsNoUnit earlier clause hints p) (sym fails.0)
    (record {
      falses = falses;
      reached = reached;
      hint = hint;
      is_hint = is_hint;
      known = fails.1;
      not_last =
          not_last;
      open_two = fails.2;
    })
refused_here earlier clause hints place hint falses NoConflict reached is_hint not_last fails = absurd fails
refused_here earlier clause hints place hint falses (UnknownHint at) reached is_hint not_last fails =
    subst (λ (p : ℕ). IsUnknownHint earlier clause hints p) (sym fails.0)
    (record { falses = falses; reached = reached; hint = hint; is_hint = is_hint; unknown = fails.1 })
refused_here earlier clause hints place hint falses NoMemory reached is_hint not_last fails = fails

-- ---- the last hint

-- where it is reached
reached_last : (earlier : List (List Lit)) (clause : List Lit) (hints : List ℕ) (place last : ℕ) (falses : List Lit)
    → place ≡ last
    → IsReached earlier clause hints place falses → IsReached earlier clause hints last falses
reached_last earlier clause hints place last falses same reached =
    subst (λ (p : ℕ). IsReached earlier clause hints p falses) same reached

last_hint : (hints : List ℕ) (last : ℕ) → last + 1 ≡ length hints → slice_get hints last ≡ Some (get_or hints last 0)
last_hint hints last is_last = slice_get-get_or hints last 0 (omega arith)

-- all its literals are false
pub follows_here : (earlier : List (List Lit)) (clause : List Lit) (hints : List ℕ) (place last : ℕ) (falses : List Lit)
    (state : ClauseState)
    → place ≡ last → IsReached earlier clause hints place falses → last + 1 ≡ length hints → state ≡ Falsified
    → IsHintState earlier falses (get_or hints last 0) (Some state) → FollowsFrom earlier clause hints
follows_here earlier clause hints place last falses state same reached is_last is_false is_state =
    follows_at (reached_last earlier clause hints place last falses same reached)
    (subst (λ (s : ClauseState). IsHintState earlier falses (get_or hints last 0) (Some s)) is_false is_state)
  where
    follows_at : IsReached earlier clause hints last falses → IsHintState earlier falses (get_or hints last 0) (Some Falsified)
        → FollowsFrom earlier clause hints
    follows_at at here = record {
      known = All-same (λ (h : ℕ). h < length earlier) hints (take (last + 1) hints) (sym (all_taken hints last is_last))
          (earlier_more earlier hints last (get_or hints last 0) (last_hint hints last is_last) here.0 at.known);
      follows = record {
        front = clauses_at earlier (take last hints);
        last = clause_at earlier (get_or hints last 0);
        hints_are = ap (clauses_at earlier) (sym (all_taken hints last is_last))
            ∙ clauses_more earlier hints last (get_or hints last 0) (last_hint hints last is_last);
        falses = falses;
        falsified = at.falsified;
        conflict = here.1;
      };
    }

-- one of its literals is not
pub no_conflict_here : (earlier : List (List Lit)) (clause : List Lit) (hints : List ℕ) (place last : ℕ) (falses : List Lit)
    (state : ClauseState)
    → place ≡ last → IsReached earlier clause hints place falses → last + 1 ≡ length hints → (state ≡ Falsified → ⊥)
    → IsHintState earlier falses (get_or hints last 0) (Some state) → IsNoConflict earlier clause hints
no_conflict_here earlier clause hints place last falses Falsified same reached is_last differs is_state = absurd (differs refl)
no_conflict_here earlier clause hints place last falses (Unit lit) same reached is_last differs is_state = record {
  place = last;
  is_last = is_last;
  falses = falses;
  reached = reached_last earlier clause hints place last falses same reached;
  hint = get_or hints last 0;
  is_hint = last_hint hints last is_last;
  known = is_state.0;
  lit = lit;
  is_in = is_state.1.is_in;
  is_open = is_state.1.is_open;
}
no_conflict_here earlier clause hints place last falses Unresolved same reached is_last differs is_state = record {
  place = last;
  is_last = is_last;
  falses = falses;
  reached = reached_last earlier clause hints place last falses same reached;
  hint = get_or hints last 0;
  is_hint = last_hint hints last is_last;
  known = is_state.0;
  lit = is_state.1.first;
  is_in = is_state.1.first_in;
  is_open = is_state.1.first_open;
}

-- it is no earlier clause
pub unknown_here : (earlier : List (List Lit)) (clause : List Lit) (hints : List ℕ) (place last : ℕ) (falses : List Lit)
    → place ≡ last
    → IsReached earlier clause hints place falses → last + 1 ≡ length hints
    → IsHintState earlier falses (get_or hints last 0) None
    → IsUnknownHint earlier clause hints last
unknown_here earlier clause hints place last falses same reached is_last unknown =
    record {
      falses = falses;
      reached = reached_last earlier clause hints place last falses same reached;
      hint = get_or hints last 0;
      is_hint = last_hint hints last is_last;
      unknown = unknown;
    }

-- the state of an earlier clause that was got by its number
pub hint_state_is : (earlier : List (List Lit)) (falses clause : List Lit) (hint : ℕ) (state : ClauseState)
    → slice_get earlier hint ≡ Some clause
    → IsState falses clause state → IsHintState earlier falses hint (Some state)
hint_state_is earlier falses clause hint state is_clause is_state = (
  slice_get_within earlier hint clause is_clause,
  subst (λ (c : List Lit). IsState falses c state) (sym (get_or_from_slice_get earlier hint clause [] is_clause)) is_state,
)
