-- A step of a trimmed log follows where it did before.
use Rattle.std.proofs.Common.{◌≡◌, inl, inr, ◌∙◌, ◌<◌, ℕ, zero, suc, Bool, true, List, [], ◌∷◌, length, map, take, Option, Some, slice_get, option_map, sym, refl, ap, subst, arith, Contains}
use Rattle.std.proofs.lemmas.List.Elements.{Contains-get_or, All-map, All-contains}
use Rattle.std.proofs.lemmas.Option.{slice_get-map, slice_get_cases, slice_get_within, get_or_from_slice_get}
use Rattle.std.proofs.lemmas.List.{length-map}
use Rattle.currency_base.specs.Literals.{var_of}
use Rattle.currency_base.specs.declared.lit.Lit.{Lit}
use Rattle.refutation_log.specs.Follows.{Follows, FollowsFrom, clause_at, clauses_at}
use Rattle.refutation_log.specs.Steps.{clause_of, clauses_of}
use Rattle.refutation_log.specs.declared.log.Log.{Log}
use Rattle.refutation_log.specs.declared.step.Step.{Step}
use Rattle.refutation_log.specs.declared.step.Step.TheVariants.{Axiom, OnDemand, Learn}
use Rattle.log_trim.specs.Trimmed.{Reaches, is_hint, IsTrimmed, kept_of, rank, lits_at, hints_at, hints_of, renumbered_lit, renumbered_step}
use Rattle.log_trim.specs.Laws.{TrimmedFollows, ClausesKeep}
use Rattle.log_trim.specs.declared.trimming.Trimmed.{Trimmed}
use Rattle.log_trim.proofs.Marking.{at_is, contains_first, contains_later}
use Rattle.log_trim.proofs.NewPlaces.{changed_from, rank_lt, steps_keep}
use Rattle.log_trim.proofs.RenumberedLits.{AreKeptLits, renumbered_follows}
use Rattle.log_trim.proofs.Whole.{contains_mapped}

-- ---- fronts of a list

front_at : {X : Type 0} (xs : List X) (n k : ℕ) → k < n → slice_get (take n xs) k ≡ slice_get xs k
front_at xs zero k below = absurd (omega arith)
front_at [] (suc n) k below = refl
front_at (x ∷ xs) (suc n) zero below = refl
front_at (x ∷ xs) (suc n) (suc k) below = front_at xs n k (omega arith)

in_front : {X : Type 0} (xs : List X) (n k : ℕ) (x : X) → slice_get (take n xs) k ≡ Some x → (k < n) × (slice_get xs k ≡ Some x)
in_front xs zero k x there = absurd (cc)
in_front [] (suc n) k x there = absurd (cc)
in_front (y ∷ ys) (suc n) zero x there = (omega arith, there)
in_front (y ∷ ys) (suc n) (suc k) x there = let one = in_front ys n k x there in (let h = one.0 in omega arith, one.1)

-- an earlier step, of a number in range
earlier_step : (steps : List Step) (place hint : ℕ) → hint < length (clauses_of (take place steps))
    → (s : Step) × (slice_get (take place steps) hint ≡ Some s)
earlier_step steps place hint below =
    elim ((slice_get_cases (take place steps) hint).1) [
      | inl one ↦ (one.0, one.2)
      | inr past ↦ absurd (let count = length-map (take place steps) clause_of in let h = past.0 in omega arith)
    ]

pub renumbered_clause : (keep vars : ℕ → Bool) (s : Step)
    → clause_of (renumbered_step keep vars s) ≡ map (renumbered_lit vars) (clause_of s)
renumbered_clause keep vars (Axiom l lits) = refl
renumbered_clause keep vars (OnDemand l lits) = refl
renumbered_clause keep vars (Learn lits hints counted) = refl

mapped_twice : {A B : Type 0} (f : ℕ → B) (g : ℕ → A) (r : ℕ → ℕ) (m : A → B) (hints : List ℕ)
    → ((hint : ℕ) → Contains hints hint → f (r hint) ≡ m (g hint)) → map f (map r hints) ≡ map m (map g hints)
mapped_twice f g r m [] same = refl
mapped_twice {A} {B} f g r m (hint ∷ hints) same =
    let first : f (r hint) ≡ m (g hint) = same hint (contains_first hint hints) in
    let rest = mapped_twice f g r m hints (λ h is_in. same h (contains_later hint hints h is_in)) in
    ap (λ (b : B). b ∷ map f (map r hints)) first ∙ ap (λ (bs : List B). m (g hint) ∷ bs) rest

-- ---- one step

-- the clause of a hint stands, renumbered, at the hint's new place
hint_stays : (log : Log) (goals : List ℕ) (trimmed : Trimmed) (t : IsTrimmed log goals trimmed) (place hint : ℕ)
    → Reaches log.steps goals hint
    → hint < length (clauses_of (take place log.steps))
    → slice_get (clauses_of (take (rank t.step_kept place) trimmed.log.steps)) (rank t.step_kept hint)
    ≡ Some (map (renumbered_lit t.statement_kept) (clause_at (clauses_of (take place log.steps)) hint))
hint_stays log goals trimmed t place hint reached below =
    let one = earlier_step log.steps place hint below in
    let s = one.0 in
    let there = in_front log.steps place hint s one.1 in
    let new = renumbered_step t.step_kept t.statement_kept s in
    let lower : rank t.step_kept hint < rank t.step_kept place =
    rank_lt t.step_kept hint place ((t.kept_steps hint).1 reached) there.0 in
    let at_new : slice_get (take (rank t.step_kept place) trimmed.log.steps) (rank t.step_kept hint) ≡ Some new =
    front_at trimmed.log.steps (rank t.step_kept place) (rank t.step_kept hint) lower
    ∙ steps_keep log goals trimmed t hint s reached there.1 in
    let clause : clause_at (clauses_of (take place log.steps)) hint ≡ clause_of s =
    at_is clause_of (take place log.steps) hint s one.1 in
    slice_get-map clause_of (take (rank t.step_kept place) trimmed.log.steps) (rank t.step_kept hint)
    ∙ ap (λ (o : Option Step). option_map clause_of o) at_new
    ∙ ap (λ (lits : List Lit). Some lits)
    (renumbered_clause t.step_kept t.statement_kept s
    ∙ ap (λ (lits : List Lit). map (renumbered_lit t.statement_kept) lits) (sym clause))

pub clauses_keep : ClausesKeep
clauses_keep log goals trimmed t place reached within =
    elim ((slice_get_cases log.steps place).1) [
      | inl one ↦
          let s = one.0 in
          let clause : lits_at log.steps place ≡ clause_of s = at_is clause_of log.steps place s one.2 in
          slice_get-map clause_of trimmed.log.steps (rank t.step_kept place)
          ∙ ap (λ (o : Option Step). option_map clause_of o) (steps_keep log goals trimmed t place s reached one.2)
          ∙ ap (λ (lits : List Lit). Some lits)
          (renumbered_clause t.step_kept t.statement_kept s
          ∙ ap (λ (lits : List Lit). map (renumbered_lit t.statement_kept) lits) (sym clause))
      | inr past ↦ absurd (let h = past.0 in omega arith)
    ]

-- the literals of a step that is reached are of variables that are kept
pub kept_lits : (log : Log) (goals : List ℕ) (trimmed : Trimmed) (t : IsTrimmed log goals trimmed) (place : ℕ) (s : Step)
    → Reaches log.steps goals place
    → slice_get log.steps place ≡ Some s → AreKeptLits t.statement_kept (clause_of s)
kept_lits log goals trimmed t place s reached there lit is_in =
    let lits_are : lits_at log.steps place ≡ clause_of s = at_is clause_of log.steps place s there in
    (t.kept_statements (var_of lit)).1 (record {
      place = place;
      reached = reached;
      lit = lit;
      is_in = subst (λ (lits : List Lit). Contains lits lit) (sym lits_are) is_in;
      is_var = refl;
    })

learned_follows : (log : Log) (goals : List ℕ) (trimmed : Trimmed) (t : IsTrimmed log goals trimmed) (place : ℕ)
    (lits : List Lit) (hints : List ℕ)
    (counted : Bool) → Reaches log.steps goals place → slice_get log.steps place ≡ Some (Learn lits hints counted)
    → FollowsFrom (clauses_of (take place log.steps)) lits hints
    → FollowsFrom (clauses_of (take (rank t.step_kept place) trimmed.log.steps))
    (map (renumbered_lit t.statement_kept) lits) (map (rank t.step_kept) hints)
learned_follows log goals trimmed t place lits hints counted reached there follows =
    let earlier = clauses_of (take place log.steps) in
    let new_earlier = clauses_of (take (rank t.step_kept place) trimmed.log.steps) in
    let hints_are : hints_at log.steps place ≡ hints = at_is hints_of log.steps place (Learn lits hints counted) there in
    let hint_reached : (hint : ℕ) → Contains hints hint → Reaches log.steps goals hint =
    λ hint is_in. is_hint place hint reached (subst (λ (hs : List ℕ). Contains hs hint) (sym hints_are) is_in) in
    let hint_below : (hint : ℕ) → Contains hints hint → hint < length earlier =
    λ hint is_in. All-contains (λ h. h < length earlier) hints hint follows.known is_in in
    let stays : (hint : ℕ) → Contains hints hint
    → slice_get new_earlier (rank t.step_kept hint) ≡ Some (map (renumbered_lit t.statement_kept) (clause_at earlier hint)) =
    λ hint is_in. hint_stays log goals trimmed t place hint (hint_reached hint is_in) (hint_below hint is_in) in
    let same : clauses_at new_earlier (map (rank t.step_kept) hints)
    ≡ map (map (renumbered_lit t.statement_kept)) (clauses_at earlier hints) =
    mapped_twice (clause_at new_earlier) (clause_at earlier) (rank t.step_kept) (map (renumbered_lit t.statement_kept)) hints
    (λ hint is_in. get_or_from_slice_get new_earlier (rank t.step_kept hint)
    (map (renumbered_lit t.statement_kept) (clause_at earlier hint)) [] (stays hint is_in)) in
    let clause_kept : (c : List Lit) → Contains (clauses_at earlier hints) c → AreKeptLits t.statement_kept c =
    λ c is_in.
    let one = contains_mapped (clause_at earlier) hints c is_in in
    let s = earlier_step log.steps place one.0 (hint_below one.0 one.1) in
    let at = in_front log.steps place one.0 s.0 s.1 in
    let clause : clause_of s.0 ≡ c = sym (at_is clause_of (take place log.steps) one.0 s.0 s.1) ∙ one.2 in
    subst (λ (ls : List Lit). AreKeptLits t.statement_kept ls) clause
    (kept_lits log goals trimmed t one.0 s.0 (hint_reached one.0 one.1) at.1) in
    record {
      known = All-map (λ h. h < length new_earlier) (rank t.step_kept) hints (λ k d below.
          let is_in = Contains-get_or hints k d below in
          slice_get_within new_earlier _ _ (stays _ is_in));
      follows = subst (λ (cs : List (List Lit)). Follows (map (renumbered_lit t.statement_kept) lits) cs) (sym same)
          (renumbered_follows t.statement_kept lits (clauses_at earlier hints)
          (kept_lits log goals trimmed t place (Learn lits hints counted) reached there) clause_kept follows.follows);
    }

-- ---- the whole log

-- which step of the log a learned step of the trimmed log was
pub record WasLearned (steps : List Step) (keep vars : ℕ → Bool) (new : ℕ) (lits : List Lit) (hints : List ℕ) : Type 0 where
  pub place : ℕ
  pub old_lits : List Lit
  pub old_hints : List ℕ
  pub old_counted : Bool
  pub there : slice_get steps place ≡ Some (Learn old_lits old_hints old_counted)
  pub kept : keep place ≡ true
  pub is_new : rank keep place ≡ new
  pub lits_are : map (renumbered_lit vars) old_lits ≡ lits
  pub hints_are : map (rank keep) old_hints ≡ hints

learned_of : (steps : List Step) (keep vars : ℕ → Bool) (new place : ℕ) (s : Step) (lits : List Lit) (hints : List ℕ)
    (counted : Bool)
    → slice_get steps place ≡ Some s → keep place ≡ true → rank keep place ≡ new
    → renumbered_step keep vars s ≡ Learn lits hints counted
    → WasLearned steps keep vars new lits hints
learned_of steps keep vars new place (Axiom l ls) lits hints counted there kept is_new same = absurd (cc)
learned_of steps keep vars new place (OnDemand l ls) lits hints counted there kept is_new same = absurd (cc)
learned_of steps keep vars new place (Learn old_lits old_hints old_counted) lits hints counted there kept is_new same =
    record {
      place = place;
      old_lits = old_lits;
      old_hints = old_hints;
      old_counted = old_counted;
      there = there;
      kept = kept;
      is_new = is_new;
      lits_are = cc;
      hints_are = cc;
    }

was_learned : (steps : List Step) (keep vars : ℕ → Bool) (new : ℕ) (lits : List Lit) (hints : List ℕ) (counted : Bool)
    → slice_get (map (renumbered_step keep vars) (kept_of keep steps)) new ≡ Some (Learn lits hints counted)
    → WasLearned steps keep vars new lits hints
was_learned steps keep vars new lits hints counted there =
    let was =
    changed_from (renumbered_step keep vars) keep steps (map (renumbered_step keep vars) (kept_of keep steps)) new
    (Learn lits hints counted) refl there in
    let from = was.1 in
    learned_of steps keep vars new from.place was.0 lits hints counted from.there from.kept from.is_new was.2

pub trimmed_still_follows : TrimmedFollows
trimmed_still_follows log goals trimmed t all place lits hints counted there =
    let at : slice_get (map (renumbered_step t.step_kept t.statement_kept) (kept_of t.step_kept log.steps)) place
    ≡ Some (Learn lits hints counted) =
    ap (λ (steps : List Step). slice_get steps place) (sym t.steps) ∙ there in
    let was = was_learned log.steps t.step_kept t.statement_kept place lits hints counted at in
    let follows =
    learned_follows log goals trimmed t was.place was.old_lits was.old_hints was.old_counted
    ((t.kept_steps was.place).0 was.kept) was.there
    (all was.place was.old_lits was.old_hints was.old_counted was.there) in
    subst (λ (n : ℕ). FollowsFrom (clauses_of (take n trimmed.log.steps)) lits hints) was.is_new
    (subst (λ (hs : List ℕ). FollowsFrom (clauses_of (take (rank t.step_kept was.place) trimmed.log.steps)) lits hs)
    was.hints_are
    (subst (λ (ls : List Lit). FollowsFrom (clauses_of (take (rank t.step_kept was.place) trimmed.log.steps)) ls
    (map (rank t.step_kept) was.old_hints)) was.lits_are follows))
