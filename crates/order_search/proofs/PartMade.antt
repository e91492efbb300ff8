-- A part made anew: what is known of it and of the others, and what a decision tells in the end.
use Rattle.std.proofs.Common.{Result, Ok, Err, ◌≡◌, ◌⊎◌, ◌<◌, ◌≤◌, ◌+◌, ◌∙◌, ℕ, Bool, true, not, List, Contains, Option, Some, None, IfOk, IfSome, IfNone, OnErr, length, get_or, slice_get, slice_set, refl, sym, ap, subst, inl, inr, arith}
use Rattle.std.proofs.lemmas.Bool.{cases_eq, cases_lt}
use Rattle.std.proofs.lemmas.List.{get_or-set_other, get_or-set_same, length-set, same_lists}
use Rattle.std.proofs.lemmas.Option.{IfSome_then, get_or_from_slice_get, none-some, slice_get-get_or, slice_get_within}
use Rattle.currency_base.specs.Literals.{is_negative, negation, var_of}
use Rattle.currency_base.specs.declared.lit.Lit.{Lit}
use Rattle.order_literals.proofs.Sayings.{negation_sign, negation_var, not_not}
use Rattle.variable_parts.specs.Laws.{AnswersHaveNone, PartsAreDisjoint}
use Rattle.search_trail.specs.Trails.{ScopedValues, Trail, lits_of, values_of}
use Rattle.watch_solver.specs.Decided.{Solver}
use Rattle.known_models.specs.Known.{IsWhole}
use Rattle.order_search.specs.Made.{HasSame, HasTakenIn, IsFalseIn, IsMade}
use Rattle.order_search.specs.Parts.{AreParts, Ends, IsParting}
use Rattle.order_search.specs.Searches.{Search, Subject, Tells}
use Rattle.order_search.specs.Tied.{AreMembers, scope_in}
use Rattle.order_search.specs.declared.parting.Parting.{Parting}
use Rattle.order_search.specs.declared.outcome.Outcome.{Outcome}
use Rattle.order_search.specs.declared.outcome.Outcome.TheVariants.{Model, Proved, Empty, Spent}
use Rattle.order_search.proofs.PartValues.{IsOnPart, true_value}
use Rattle.order_search.proofs.TiedSteps.{same_scope, scopes_apart}

-- ---- which parts are done

done_here : (done : List Bool) (part : ℕ) → part < length done → slice_get (slice_set done part true) part ≡ Some true
done_here done part within =
    slice_get-get_or (slice_set done part true) part true (omega (arith, within, length-set done part true))
    ∙ ap Some (get_or-set_same done part true true within)

done_other : (done : List Bool) (part other : ℕ) → slice_get done other ≡ Some true
    → slice_get (slice_set done part true) other ≡ Some true
done_other done part other is = by (cases_eq other part)
  where
    within : other < length done
    within = slice_get_within done other true is

    by : (other ≡ part) ⊎ (other ≡ part → ⊥) → slice_get (slice_set done part true) other ≡ Some true
    by (inl e) =
        subst (λ (n : ℕ). slice_get (slice_set done part true) n ≡ Some true) (sym e)
        (done_here done part (omega (arith, within, e)))
    by (inr d) =
        slice_get-get_or (slice_set done part true) other true (omega (arith, within, length-set done part true))
        ∙ ap Some (get_or-set_other done part other true true d ∙ get_or_from_slice_get done other true true is)

-- ---- a part is made anew

pub made_of : (s : Subject) (g : Parting) (solver : Solver) (goal : Option Lit) (part : ℕ) → IsOnPart s g solver goal part
    → IfSome goal (λ lit. Contains (scope_in g part) (var_of lit)) → (new : Parting)
    → HasTakenIn s part (values_of solver.trail).given g new → IsMade part goal g new
made_of s g solver goal part is of_goal new taken = record {
  same = taken.same;
  done = taken.done;
  others = taken.truths.kept;
  goal_false = λ lit e. false_lit lit e;
}
  where
    false_lit : (lit : Lit) → goal ≡ Some lit → IsFalseIn new (Some part) lit
    false_lit lit e =
        let in_part : Contains (scope_in g part) (var_of lit) =
        (subst (λ (x : Option Lit). IfSome x (λ l. Contains (scope_in g part) (var_of l))) e of_goal) in
        let told = subst (λ (x : Option Lit). IfSome x (λ l. Contains (lits_of solver.trail) (negation l))) e is.on.goal_false in
        let value = true_value solver.trail is.entries (negation lit) told in
        let same : slice_get (values_of solver.trail).given (var_of lit) ≡ Some (Some (is_negative lit)) =
        ap (slice_get (values_of solver.trail).given) (sym (negation_var lit)) ∙ value
        ∙ ap (λ (b : Bool). Some (Some b)) (ap not (negation_sign lit) ∙ not_not (is_negative lit)) in
        record {
          part = part;
          is_own = refl;
          of_part = subst (λ (vars : List ℕ). Contains vars (var_of lit)) (sym (same_scope g new taken.same part)) in_part;
          is_false = taken.truths.taken (var_of lit) (is_negative lit) in_part same;
        }

-- as it is told
pub taken_as : (s : Subject) (g new : Parting) (solver : Solver) (part : ℕ) (v : ScopedValues) (t : Trail) → v ≡ values_of t
    → t ≡ solver.trail → HasTakenIn s part v.given g new → HasTakenIn s part (values_of solver.trail).given g new
taken_as s g new solver part v t same_values same_trail taken =
    subst (λ (x : ScopedValues). HasTakenIn s part x.given g new) (same_values ∙ ap values_of same_trail) taken

pub made_done : (part : ℕ) (goal : Option Lit) (old new : Parting) → part < length old.known.done
    → IsMade part goal old new → slice_get new.known.done part ≡ Some true
made_done part goal old new within made =
    ap (λ (ds : List Bool). slice_get ds part) made.done ∙ done_here old.known.done part within

pub made_kept : (part : ℕ) (goal : Option Lit) (old new : Parting) → IsMade part goal old new
    → (other : ℕ) → slice_get old.known.done other ≡ Some true → slice_get new.known.done other ≡ Some true
made_kept part goal old new made other is =
    ap (λ (ds : List Bool). slice_get ds other) made.done ∙ done_other old.known.done part other is

-- a goal that is false in its part stays so where another part is made anew
pub goal_kept : PartsAreDisjoint → AnswersHaveNone → (s : Subject) (part : ℕ) (own : Option ℕ) (goal : Option Lit)
    → (old new : Parting) → AreParts s old.parts → AreMembers s old → IsMade part None old new → (own ≡ Some part → ⊥)
    → IfSome goal (IsFalseIn old own) → IfSome goal (IsFalseIn new own)
goal_kept law none s part own goal old new are members made differ false_before =
    IfSome_then goal false_before (λ lit f. record {
      part = f.part;
      is_own = f.is_own;
      of_part = subst (λ (vars : List ℕ). Contains vars (var_of lit)) (sym (same_scope old new made.same f.part)) f.of_part;
      is_false = made.others (var_of lit) (λ here.
          differ (f.is_own ∙ ap Some (scopes_apart law none s old are members f.part part (var_of lit) f.of_part here)))
          ∙ f.is_false;
    })

-- a part was made anew, or nothing was changed: what is so in both cases

pub made_or_same : {A E M S : Type 0} (r : Result (Option A) E) → IfOk r (λ e. IfNone e M) → IfOk r (λ e. IfSome e (λ o. S))
    → OnErr r S → M ⊎ S
made_or_same (Ok None) made same err = inl made
made_or_same (Ok (Some o)) made same err = inr same
made_or_same (Err x) made same err = inr err

pub none_then : {A E P Q : Type 0} (r : Result (Option A) E) → (P → Q) → IfOk r (λ e. IfNone e P) → IfOk r (λ e. IfNone e Q)
none_then (Ok None) f p = f p
none_then (Ok (Some o)) f p = p
none_then (Err x) f p = p

pub ended_then : {A E : Type 0} (P Q : A → Type 0) (r : Result (Option A) E) → ((x : A) → P x → Q x)
    → IfOk r (λ e. IfSome e P) → IfOk r (λ e. IfSome e Q)
ended_then P Q (Ok None) f p = p
ended_then P Q (Ok (Some o)) f p = f o p
ended_then P Q (Err x) f p = p

pub kept_after : (part : ℕ) (goal : Option Lit) (old new : Parting) → (IsMade part goal old new) ⊎ (new ≡ old) → (other : ℕ)
    → slice_get old.known.done other ≡ Some true → slice_get new.known.done other ≡ Some true
kept_after part goal old new (inl made) other is = made_kept part goal old new made other is
kept_after part goal old new (inr same) other is = ap (λ (g : Parting). slice_get g.known.done other) same ∙ is

pub goal_after : PartsAreDisjoint → AnswersHaveNone → (s : Subject) (part : ℕ) (own : Option ℕ) (goal : Option Lit)
    → (old new : Parting) → AreParts s old.parts → AreMembers s old → (IsMade part None old new) ⊎ (new ≡ old)
    → (own ≡ Some part → ⊥) → IfSome goal (IsFalseIn old own) → IfSome goal (IsFalseIn new own)
goal_after law none s part own goal old new are members (inl made) differ false_before =
    goal_kept law none s part own goal old new are members made differ false_before
goal_after law none s part own goal old new are members (inr e) differ false_before =
    subst (λ (g : Parting). IfSome goal (IsFalseIn g own)) (sym e) false_before

-- what is the same where nothing but the model changed
pub same_itself : (g : Parting) → HasSame g g
same_itself g = record { parts = refl; members = refl; ties = refl }

pub same_then : (a b c : Parting) → HasSame a b → HasSame b c → HasSame a c
same_then a b c one other = record {
  parts = other.parts ∙ one.parts;
  members = other.members ∙ one.members;
  ties = other.ties ∙ one.ties;
}

pub same_after : (part : ℕ) (goal : Option Lit) (old new : Parting) → (IsMade part goal old new) ⊎ (new ≡ old) → HasSame old new
same_after part goal old new (inl made) = made.same
same_after part goal old new (inr e) = subst (λ (g : Parting). HasSame old g) (sym e) (same_itself old)

-- ---- all parts

pub done_none : (done : List Bool) (other : ℕ) → other < 0 → slice_get done other ≡ Some true
done_none done other below = absurd (omega (arith, below))

pub all_done : (s : Subject) (g : Parting) (count : ℕ) → IsParting s g.parts g.known → length g.parts.parts ≤ count
    → ((other : ℕ) → other < count → slice_get g.known.done other ≡ Some true) → IsWhole g.known
all_done s g count parting past each =
    λ at d within.
    let h = each at (omega (arith, within, past, parting.known.per_part)) in
    get_or_from_slice_get g.known.done at true d h

pub done_more : (done : List Bool) (count : ℕ) → ((other : ℕ) → other < count → slice_get done other ≡ Some true)
    → slice_get done count ≡ Some true → (other : ℕ) → other < count + 1 → slice_get done other ≡ Some true
done_more done count each here other below = by (cases_eq other count)
  where
    by : (other ≡ count) ⊎ (other ≡ count → ⊥) → slice_get done other ≡ Some true
    by (inl e) = ap (slice_get done) e ∙ here
    by (inr d) = each other (below_of (cases_lt other count))
      where
        below_of : (other < count) ⊎ (count ≤ other) → other < count
        below_of (inl h) = h
        below_of (inr h) = let same : other ≡ count = omega (arith, h, below) in absurd (d same)

-- ---- a copy of truths, one after another

pub copy_none : (truths copy : List Bool) → (var : ℕ) → var < 0 → slice_get copy var ≡ slice_get truths var
copy_none truths copy var below = absurd (omega (arith, below))

pub copy_more : (truths copy : List Bool) (count : ℕ) (truth : Bool) → length copy ≡ length truths
    → slice_get truths count ≡ Some truth
    → ((var : ℕ) → var < count → slice_get copy var ≡ slice_get truths var)
    → (var : ℕ) → var < count + 1 → slice_get (slice_set copy count truth) var ≡ slice_get truths var
copy_more truths copy count truth many at same var below = by (cases_eq var count)
  where
    within : count < length copy
    within = let h = slice_get_within truths count truth at in omega (arith, h, many)

    by : (var ≡ count) ⊎ (var ≡ count → ⊥) → slice_get (slice_set copy count truth) var ≡ slice_get truths var
    by (inl e) =
        subst (λ (n : ℕ). slice_get (slice_set copy count truth) n ≡ slice_get truths n) (sym e)
        (slice_get-get_or (slice_set copy count truth) count truth (omega (arith, within, length-set copy count truth))
        ∙ ap Some (get_or-set_same copy count truth truth within) ∙ sym at)
    by (inr d) =
        slice_get-get_or (slice_set copy count truth) var truth (omega (arith, within, below, length-set copy count truth))
        ∙ ap Some (get_or-set_other copy count var truth truth d)
        ∙ sym (slice_get-get_or copy var truth (omega (arith, within, below)))
        ∙ same var (omega (arith, below, ne_below d))
      where
        ne_below : (var ≡ count → ⊥) → var < count
        ne_below differ = lower (cases_lt var count)
          where
            lower : (var < count) ⊎ (count ≤ var) → var < count
            lower (inl h) = h
            lower (inr h) = let e : var ≡ count = omega (arith, h, below) in absurd (differ e)

pub copy_all : (truths copy : List Bool) (count : ℕ) → length copy ≡ length truths → length truths ≤ count
    → ((var : ℕ) → var < count → slice_get copy var ≡ slice_get truths var) → copy ≡ truths
copy_all truths copy count many past same =
    same_lists copy truths many
    (λ var d within.
    sym (get_or_from_slice_get truths var (get_or copy var d) d
    (sym (same var (omega (arith, within, many, past))) ∙ slice_get-get_or copy var d within)))

-- ---- what a decision tells where it ends with no model

pub ends_tell : (s : Search) (goal : Option Lit) (left : ℕ) (outcome : Outcome) → Ends s goal left outcome
    → Tells s goal left outcome
ends_tell s goal left (Model truths c) ends = absurd ends
ends_tell s goal left (Proved place) ends = ends
ends_tell s goal left (Empty place) ends = ends
ends_tell s goal left Spent ends = ends

pub ends_none : (s : Search) (goal : Option Lit) (left : ℕ) (outcome : Outcome) → Ends s None left outcome
    → Ends s goal left outcome
ends_none s goal left (Model truths c) ends = ends
ends_none s goal left (Proved place) ends = absurd (none-some ends.0 (ends.1))
ends_none s goal left (Empty place) ends = ends
ends_none s goal left Spent ends = ends
