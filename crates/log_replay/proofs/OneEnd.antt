-- What becomes of a step is determined.
use Rattle.std.proofs.Common.{◌≡◌, ◌⊎◌, ◌+◌, ◌<◌, ◌≤◌, ℕ, List, [], ◌∷◌, ◌++◌, Some, Result, Ok, Err, length, get_or, take, drop, slice_get, refl, sym, ap, subst, ◌∙◌, inl, inr, arith, Contains, length-append}
use Rattle.std.specs.Result.{IfErr}
use Rattle.std.proofs.Math.Seq.{take-append_seam, get_or-append_seam}
use Rattle.std.proofs.lemmas.Bool.{cases_lt}
use Rattle.std.proofs.lemmas.List.{map-append, take-append-drop, take-take, drop_more, get_or-take, length-take-le, take-map, get_or-map, length-map}
use Rattle.std.proofs.lemmas.List.Elements.{All-take, All-get_or}
use Rattle.std.proofs.lemmas.Option.{same_Some, slice_get-get_or, slice_get_within}
use Rattle.currency_base.specs.declared.lit.Lit.{Lit}
use Rattle.refutation_log.specs.Follows.{AreFalse, HasTwoOpen, Falsifies, clause_at, clauses_at, FollowsFrom, IsReached, IsUnknownHint, IsNoUnit, IsNoConflict, ComesToNoConflict}
use Rattle.log_replay.specs.declared.fault.StepFault.{StepFault}
use Rattle.log_replay.specs.declared.fault.StepFault.TheVariants.{NotUnit, NoConflict, UnknownHint, NoMemory}
use Rattle.log_replay.specs.Replays.{IsStepRefusal}
use Rattle.log_replay.proofs.Falsified.{leaves_not_two, ArePassed, falsifies_up_to, falsifies_once}

-- ---- hints that were used

-- the hint at a place was used, and later ones were looked at
pub record IsPassed (earlier : List (List Lit)) (clause : List Lit) (hints : List ℕ) (place : ℕ) : Type 0 where
  pub hint : ℕ
  pub is_hint : slice_get hints place ≡ Some hint
  pub known : hint < length earlier
  pub passed : ArePassed clause (clauses_at earlier (take place hints)) (clause_at earlier hint)

-- the hints before a place, cut at an earlier one
taken_cut : (hints : List ℕ) (place later : ℕ) → place < later → later ≤ length hints
    → take later hints ≡ take place hints ++ get_or hints place 0 ∷ drop (place + 1) (take later hints)
taken_cut hints place later below within =
    let count : length (take later hints) ≡ later = length-take-le later hints within in
    let front : take place (take later hints) ≡ take place hints = take-take place later hints (omega arith) in
    let rest : drop place (take later hints) ≡ get_or (take later hints) place 0 ∷ drop (place + 1) (take later hints) =
    drop_more (take later hints) place 0 (omega arith) in
    let here : get_or (take later hints) place 0 ≡ get_or hints place 0 = get_or-take later hints place 0 below in
    sym (take-append-drop place (take later hints))
    ∙ (ap (λ (f : List ℕ). f ++ drop place (take later hints)) front
    ∙ (ap (λ (r : List ℕ). take place hints ++ r) rest
    ∙ ap (λ (h : ℕ). take place hints ++ h ∷ drop (place + 1) (take later hints)) here))

pub passed_before : (earlier : List (List Lit)) (clause : List Lit) (hints : List ℕ) (place later : ℕ) (falses : List Lit)
    → IsReached earlier clause hints later falses → place < later → IsPassed earlier clause hints place
passed_before earlier clause hints place later falses reached below =
    let within : later ≤ length hints = reached.within in
    let cut = taken_cut hints place later below within in
    let count : length (take later hints) ≡ later = length-take-le later hints within in
    let is_known : get_or (take later hints) place 0 < length earlier =
    All-get_or (λ (h : ℕ). h < length earlier) (take later hints) place 0 (omega arith) reached.known in
    let clauses = ap (clauses_at earlier) cut
    ∙ map-append (clause_at earlier) (take place hints) (get_or hints place 0 ∷ drop (place + 1) (take later hints)) in
    record {
      hint = get_or hints place 0;
      is_hint = slice_get-get_or hints place 0 (omega arith);
      known = subst (λ (h : ℕ). h < length earlier) (get_or-take later hints place 0 below) is_known;
      passed = falsifies_up_to clause (clauses_at earlier (take place hints)) (clause_at earlier (get_or hints place 0))
          (clauses_at earlier (drop (place + 1) (take later hints))) falses
          (subst (λ (cs : List (List Lit)). Falsifies clause cs falses) clauses reached.falsified);
    }

-- a hint has one number
same_hint : (hints : List ℕ) (place one other : ℕ) → slice_get hints place ≡ Some one → slice_get hints place ≡ Some other
    → one ≡ other
same_hint hints place one other a b = same_Some one other (sym a ∙ b)

-- a hint that is unknown was not used
unknown_not_passed : (earlier : List (List Lit)) (clause : List Lit) (hints : List ℕ) (place : ℕ)
    → IsUnknownHint earlier clause hints place
    → IsPassed earlier clause hints place → ⊥
unknown_not_passed earlier clause hints place is_unknown passed =
    let same : is_unknown.hint ≡ passed.hint = same_hint hints place is_unknown.hint passed.hint is_unknown.is_hint
    passed.is_hint in
    let below : passed.hint < length earlier = passed.known in
    let above : length earlier ≤ is_unknown.hint = is_unknown.unknown in
    omega arith

-- nor was one that leaves two literals open
no_unit_not_passed : (earlier : List (List Lit)) (clause : List Lit) (hints : List ℕ) (place : ℕ)
    → IsNoUnit earlier clause hints place
    → IsPassed earlier clause hints place → ⊥
no_unit_not_passed earlier clause hints place no_unit passed =
    let same : no_unit.hint ≡ passed.hint = same_hint hints place no_unit.hint passed.hint no_unit.is_hint passed.is_hint in
    let falses : no_unit.falses ≡ passed.passed.falses =
    falsifies_once clause (clauses_at earlier (take place hints)) no_unit.falses passed.passed.falses no_unit.reached.falsified
    passed.passed.falsified in
    leaves_not_two passed.passed.falses (clause_at earlier passed.hint) passed.passed.leaves
    (subst (λ (f : List Lit). HasTwoOpen f (clause_at earlier passed.hint)) falses
    (subst (λ (h : ℕ). HasTwoOpen no_unit.falses (clause_at earlier h)) same no_unit.open_two))

-- ---- where a clause follows

-- all literals of the last hint's clause are false
pub record IsConflict (earlier : List (List Lit)) (clause : List Lit) (hints : List ℕ) : Type 0 where
  pub place : ℕ
  pub is_last : place + 1 ≡ length hints
  pub falses : List Lit
  pub reached : IsReached earlier clause hints place falses
  pub hint : ℕ
  pub is_hint : slice_get hints place ≡ Some hint
  pub known : hint < length earlier
  pub conflict : AreFalse falses (clause_at earlier hint)

pub follows_conflict : (earlier : List (List Lit)) (clause : List Lit) (hints : List ℕ) → FollowsFrom earlier clause hints
    → IsConflict earlier clause hints
follows_conflict earlier clause hints from =
    let front : List (List Lit) = from.follows.front in
    let last : List Lit = from.follows.last in
    let place : ℕ = length front in
    let are : clauses_at earlier hints ≡ front ++ last ∷ [] = from.follows.hints_are in
    let count : length hints ≡ length (front ++ last ∷ []) = sym (length-map hints (clause_at earlier)) ∙ ap length are in
    let counted : length (front ++ last ∷ []) ≡ length front + 1 = length-append front (last ∷ []) in
    let is_last : place + 1 ≡ length hints = omega arith in
    let before : clauses_at earlier (take place hints) ≡ front =
    sym (take-map (clause_at earlier) place hints) ∙ (ap (take place) are ∙ take-append_seam front (last ∷ [])) in
    let here : clause_at earlier (get_or hints place 0) ≡ last =
    sym (get_or-map (clause_at earlier) hints place 0 [] (omega arith))
    ∙ (ap (λ (cs : List (List Lit)). get_or cs place []) are ∙ get_or-append_seam front last [] []) in
    record {
      place = place;
      is_last = is_last;
      falses = from.follows.falses;
      reached = record {
        within = omega arith;
        known = All-take (λ (h : ℕ). h < length earlier) place hints from.known;
        falsified = subst (λ (cs : List (List Lit)). Falsifies clause cs from.follows.falses) (sym before) from.follows.falsified;
      };
      hint = get_or hints place 0;
      is_hint = slice_get-get_or hints place 0 (omega arith);
      known = All-get_or (λ (h : ℕ). h < length earlier) hints place 0 (omega arith) from.known;
      conflict = subst (λ (c : List Lit). AreFalse from.follows.falses c) (sym here) from.follows.conflict;
    }

-- ---- which hint fails first

-- two hints that fail stand at one place
same_place : (place other : ℕ) → (place < other → ⊥) → (other < place → ⊥) → place ≡ other
same_place place other a b = go (cases_lt place other) (cases_lt other place)
  where
    go : (place < other) ⊎ (other ≤ place) → (other < place) ⊎ (place ≤ other) → place ≡ other
    go (inl h) _ = absurd (a h)
    go (inr h) (inl k) = absurd (b k)
    go (inr h) (inr k) = omega arith

one_no_unit : (earlier : List (List Lit)) (clause : List Lit) (hints : List ℕ) (place other : ℕ)
    → IsNoUnit earlier clause hints place
    → IsNoUnit earlier clause hints other → place ≡ other
one_no_unit earlier clause hints place other a b =
    same_place place other
    (λ below. no_unit_not_passed earlier clause hints place a
    (passed_before earlier clause hints place other b.falses b.reached below))
    (λ below. no_unit_not_passed earlier clause hints other b
    (passed_before earlier clause hints other place a.falses a.reached below))

one_unknown : (earlier : List (List Lit)) (clause : List Lit) (hints : List ℕ) (place other : ℕ)
    → IsUnknownHint earlier clause hints place
    → IsUnknownHint earlier clause hints other → place ≡ other
one_unknown earlier clause hints place other a b =
    same_place place other
    (λ below. unknown_not_passed earlier clause hints place a
    (passed_before earlier clause hints place other b.falses b.reached below))
    (λ below. unknown_not_passed earlier clause hints other b
    (passed_before earlier clause hints other place a.falses a.reached below))

-- a known hint is not unknown
known_or_unknown : (earlier : List (List Lit)) (hints : List ℕ) (place other one hint : ℕ) → place ≡ other
    → slice_get hints place ≡ Some one
    → one < length earlier → slice_get hints other ≡ Some hint → length earlier ≤ hint → ⊥
known_or_unknown earlier hints place other one hint same is_one known is_hint unknown =
    let hints_same : one ≡ hint =
    same_hint hints other one hint (subst (λ (p : ℕ). slice_get hints p ≡ Some one) same is_one) is_hint in
    omega arith

no_unit_or_unknown : (earlier : List (List Lit)) (clause : List Lit) (hints : List ℕ) (place other : ℕ)
    → IsNoUnit earlier clause hints place
    → IsUnknownHint earlier clause hints other → ⊥
no_unit_or_unknown earlier clause hints place other a b =
    let same : place ≡ other = same_place place other
    (λ below. no_unit_not_passed earlier clause hints place a
    (passed_before earlier clause hints place other b.falses b.reached below))
    (λ below. unknown_not_passed earlier clause hints other b
    (passed_before earlier clause hints other place a.falses a.reached below)) in
    known_or_unknown earlier hints place other a.hint b.hint same a.is_hint a.known b.is_hint b.unknown

-- a hint that fails before the last, or at it, stands within the hints
hint_within : (hints : List ℕ) (place hint : ℕ) → slice_get hints place ≡ Some hint → hints ≡ [] → ⊥
hint_within hints place hint is_hint none =
    let below = slice_get_within hints place hint is_hint in
    let count : length hints ≡ 0 = ap length none in
    omega arith

no_unit_or_conflict : (earlier : List (List Lit)) (clause : List Lit) (hints : List ℕ) (place : ℕ)
    → IsNoUnit earlier clause hints place
    → ComesToNoConflict earlier clause hints → ⊥
no_unit_or_conflict earlier clause hints place a (inl none) = hint_within hints place a.hint a.is_hint none
no_unit_or_conflict earlier clause hints place a (inr b) =
    let is_last : b.place + 1 ≡ length hints = b.is_last in
    let before : place + 1 < length hints = a.not_last in
    no_unit_not_passed earlier clause hints place a (passed_before earlier clause hints place b.place b.falses
    b.reached (omega arith))

-- a hint that is unknown is the last or stands before it
unknown_or_last : (earlier : List (List Lit)) (clause : List Lit) (hints : List ℕ) (place last hint : ℕ) (falses : List Lit)
    → IsUnknownHint earlier clause hints place → last + 1 ≡ length hints → IsReached earlier clause hints last falses
    → slice_get hints last ≡ Some hint → hint < length earlier → ⊥
unknown_or_last earlier clause hints place last hint falses a is_last reached is_hint known = go (cases_lt place last)
  where
    go : (place < last) ⊎ (last ≤ place) → ⊥
    go (inl below) =
        unknown_not_passed earlier clause hints place a (passed_before earlier clause hints place last falses reached below)
    go (inr above) =
        let within = slice_get_within hints place a.hint a.is_hint in
        let same : last ≡ place = omega arith in
        known_or_unknown earlier hints last place hint a.hint same is_hint known a.is_hint a.unknown

unknown_or_conflict : (earlier : List (List Lit)) (clause : List Lit) (hints : List ℕ) (place : ℕ)
    → IsUnknownHint earlier clause hints place
    → ComesToNoConflict earlier clause hints → ⊥
unknown_or_conflict earlier clause hints place a (inl none) = hint_within hints place a.hint a.is_hint none
unknown_or_conflict earlier clause hints place a (inr b) =
    unknown_or_last earlier clause hints place b.place b.hint b.falses a b.is_last b.reached b.is_hint b.known

-- a conflict is none
conflict_at : (earlier : List (List Lit)) (clause : List Lit) (hints : List ℕ) (place one hint : ℕ)
    (falses found : List Lit) (lit : Lit)
    → IsReached earlier clause hints place falses → slice_get hints place ≡ Some one → AreFalse falses (clause_at earlier one)
    → IsReached earlier clause hints place found → slice_get hints place ≡ Some hint → Contains (clause_at earlier hint) lit
    → (Contains found lit → ⊥) → ⊥
conflict_at earlier clause hints place one hint falses found lit reached is_one are other is_hint is_in is_open =
    let same : hint ≡ one = same_hint hints place hint one is_hint is_one in
    let falses_same : falses ≡ found =
    falsifies_once clause (clauses_at earlier (take place hints)) falses found reached.falsified other.falsified in
    is_open (subst (λ (f : List Lit). Contains f lit) falses_same
    (are lit (subst (λ (h : ℕ). Contains (clause_at earlier h) lit) same is_in)))

conflict_or_none : (earlier : List (List Lit)) (clause : List Lit) (hints : List ℕ) → IsConflict earlier clause hints
    → IsNoConflict earlier clause hints → ⊥
conflict_or_none earlier clause hints a b =
    let one : a.place + 1 ≡ length hints = a.is_last in
    let other : b.place + 1 ≡ length hints = b.is_last in
    let same : b.place ≡ a.place = omega arith in
    conflict_at earlier clause hints a.place a.hint b.hint a.falses b.falses b.lit a.reached a.is_hint a.conflict
    (subst (λ (p : ℕ). IsReached earlier clause hints p b.falses) same b.reached)
    (subst (λ (p : ℕ). slice_get hints p ≡ Some b.hint) same b.is_hint) b.is_in b.is_open

-- ---- one end

-- where a clause follows, no hint fails
pub follows_not_refused : (earlier : List (List Lit)) (clause : List Lit) (hints : List ℕ) (fault : StepFault)
    → FollowsFrom earlier clause hints
    → IsStepRefusal earlier clause hints fault → ⊥
follows_not_refused earlier clause hints (NotUnit place) from refusal =
    let end = follows_conflict earlier clause hints from in
    let is_last : end.place + 1 ≡ length hints = end.is_last in
    let before : place + 1 < length hints = refusal.not_last in
    no_unit_not_passed earlier clause hints place refusal
    (passed_before earlier clause hints place end.place end.falses end.reached (omega arith))
follows_not_refused earlier clause hints NoConflict from (inl none) =
    let end = follows_conflict earlier clause hints from in
    let is_last : end.place + 1 ≡ length hints = end.is_last in
    let count : length hints ≡ 0 = ap length none in
    omega arith
follows_not_refused earlier clause hints NoConflict from (inr refusal) =
    let end = follows_conflict earlier clause hints from in
    conflict_or_none earlier clause hints end refusal
follows_not_refused earlier clause hints (UnknownHint place) from refusal =
    let end = follows_conflict earlier clause hints from in
    unknown_or_last earlier clause hints place end.place end.hint end.falses refusal end.is_last end.reached end.is_hint end.known
follows_not_refused earlier clause hints NoMemory from refusal = refusal

-- two causes are the same one
pub one_refusal : (earlier : List (List Lit)) (clause : List Lit) (hints : List ℕ) (one other : StepFault)
    → IsStepRefusal earlier clause hints one
    → IsStepRefusal earlier clause hints other → one ≡ other
one_refusal earlier clause hints (NotUnit place) (NotUnit later) a b =
    ap NotUnit (one_no_unit earlier clause hints place later a b)
one_refusal earlier clause hints (NotUnit place) NoConflict a b = absurd (no_unit_or_conflict earlier clause hints place a b)
one_refusal earlier clause hints (NotUnit place) (UnknownHint later) a b =
    absurd (no_unit_or_unknown earlier clause hints place later a b)
one_refusal earlier clause hints (NotUnit place) NoMemory a b = absurd b
one_refusal earlier clause hints NoConflict (NotUnit later) a b = absurd (no_unit_or_conflict earlier clause hints later b a)
one_refusal earlier clause hints NoConflict NoConflict a b = refl
one_refusal earlier clause hints NoConflict (UnknownHint later) a b = absurd (unknown_or_conflict earlier clause hints later b a)
one_refusal earlier clause hints NoConflict NoMemory a b = absurd b
one_refusal earlier clause hints (UnknownHint place) (NotUnit later) a b =
    absurd (no_unit_or_unknown earlier clause hints later place b a)
one_refusal earlier clause hints (UnknownHint place) NoConflict a b = absurd (unknown_or_conflict earlier clause hints place a b)
one_refusal earlier clause hints (UnknownHint place) (UnknownHint later) a b =
    ap UnknownHint (one_unknown earlier clause hints place later a b)
one_refusal earlier clause hints (UnknownHint place) NoMemory a b = absurd b
one_refusal earlier clause hints NoMemory other a b = absurd a

-- where a clause follows, a step can fail for want of memory alone
pub no_fault_where_follows : (earlier : List (List Lit)) (clause : List Lit) (hints : List ℕ) (outcome : Result Unit StepFault)
    → FollowsFrom earlier clause hints → IfErr outcome (λ (e : StepFault). (e ≡ NoMemory) ⊎ IsStepRefusal earlier clause hints e)
    → IfErr outcome (λ (e : StepFault). e ≡ NoMemory)
no_fault_where_follows earlier clause hints (Ok done) from refused = refused
no_fault_where_follows earlier clause hints (Err fault) from (inl no_memory) = no_memory
no_fault_where_follows earlier clause hints (Err fault) from (inr refusal) =
    absurd (follows_not_refused earlier clause hints fault from refusal)
