-- Steps that are added: what a search keeps stays so.
use Rattle.std.proofs.Common.{Result, Ok, Err, OnOk, ◌≡◌, ◌⊎◌, ◌<◌, ◌≤◌, ◌+◌, ◌∙◌, ℕ, zero, suc, Bool, true, false, cond, List, [], ◌∷◌, ◌++◌, All, Some, Contains, get_or, length, take, slice_get, refl, sym, ap, subst, inl, inr, ⊎_elim, arith}
use Rattle.std.proofs.lemmas.Bool.{cases_lt}
use Rattle.std.proofs.lemmas.List.{append-nil, append_assoc, length_push, take-append-le, take_all, take_more}
use Rattle.std.proofs.lemmas.Option.{get_or_from_slice_get, slice_get-get_or, slice_get_within}
use Rattle.std.proofs.lemmas.List.Elements.{All-append, All-contains, All-head, All-nil, All-tail, All-take, Contains-append_left, Contains-append_right}
use Rattle.std.proofs.lemmas.List.Sums.{sum_by-append, sum_by-cons}
use Rattle.currency_base.specs.declared.ids.AttrId.{AttrId}
use Rattle.currency_base.specs.declared.ids.RelId.{RelId}
use Rattle.currency_base.specs.declared.lit.Lit.{Lit}
use Rattle.refutation_log.specs.Counted.{IsNew, counted_steps}
use Rattle.refutation_log.specs.Steps.{clause_of, clauses_of, is_counted}
use Rattle.refutation_log.specs.declared.statement.Statement.{Statement}
use Rattle.refutation_log.specs.declared.step.Label.TheVariants as label
use Rattle.refutation_log.specs.declared.step.Step.{Step}
use Rattle.refutation_log.specs.declared.step.Step.TheVariants.{Axiom, Learn, OnDemand}
use Rattle.log_axioms.specs.Posed.{Posed}
use Rattle.order_literals.proofs.Items.{in_contained}
use Rattle.order_literals.proofs.Sayings.{says_within}
use Rattle.order_clauses.specs.Clauses.{AreAxioms, AreTransitive}
use Rattle.search_state.specs.States.{Frame, IsFit}
use Rattle.watch_propagate.proofs.KeptLists.{contains_at, get_front}
use Rattle.watch_solver.specs.Decided.{HasGrown, IsLearnedAfter, Solver}
use Rattle.search_logs.specs.SearchLogs.{IsPosed, IsSearchStep}
use Rattle.order_search.specs.Kept.{AreBrought, ArePlain, HasAdded, HasAxioms, HaveThrees, IsAxiomOf, IsFitAxiom, IsHeld, IsPlain, posed_of, vars_of}
use Rattle.order_search.specs.Searches.{Subject}
use Rattle.order_search.specs.Tied.{AreTied, IsTied, IsTiedStep, KeepsTied}
use Rattle.order_search.specs.declared.parting.Parting.{Parting}

-- ---- lists

-- the front of a list with more behind is the same at each place of the list
take_front : (old added new : List Step) (place : ℕ) → new ≡ old ++ added → place ≤ length old → take place new ≡ take place old
take_front old added new place is h = ap (take place) is ∙ take-append-le place old added h

-- what stands before the end stood there before
stood : (old added new : List Step) (place : ℕ) (taken : Step) → new ≡ old ++ added → place < length old
    → slice_get new place ≡ Some taken
    → slice_get old place ≡ Some taken
stood old added new place taken is h at = get_front old added place taken h
    (ap (λ (ss : List Step). slice_get ss place) (sym is) ∙ at)

-- what stands behind a list is among what was put there
pub behind : (xs ys : List Step) (i : ℕ) (x : Step) → length xs ≤ i → slice_get (xs ++ ys) i ≡ Some x → Contains ys x
behind [] ys i x h is = contains_at ys i x is
behind (z ∷ xs) ys zero x h is = absurd (omega (arith, h))
behind (z ∷ xs) ys (suc i) x h is = behind xs ys i x (omega (arith, h)) is

pub added_then : (old middle new : Solver) → HasAdded old middle → HasAdded middle new → HasAdded old new
added_then old middle new one other = record {
  frame = other.frame ∙ one.frame;
  added = one.added ++ other.added;
  steps = other.steps ∙ ap (λ (ss : List Step). ss ++ other.added) one.steps ∙ append_assoc old.steps one.added other.added;
}

-- ---- steps that may be added

-- each is one of a search, and new if it is counted
pub record AreNext (s : Subject) (posed : Posed) (old new : List Step) : Type 0 where
  pub added : List Step
  pub steps : new ≡ old ++ added
  pub each : (place : ℕ) (taken : Step) → length old ≤ place → slice_get new place ≡ Some taken
      → IsSearchStep s.spec posed (vars_of s) (clauses_of (take place new)) taken ×
      (is_counted taken ≡ true → IsNew (clauses_of (take place new)) taken)

-- a list that was brought in stays so
brought_more : (s : Subject) (old added new : List Step) (brought : List Bool) → new ≡ old ++ added
    → AreBrought s old brought → AreBrought s new brought
brought_more s old added new brought is were = record {
  per_variable = were.per_variable;
  marked = λ var mark rel attr first second at r is_r ent of r' is_r' a b c of_a clause ax.
      let stands = were.marked var mark rel attr first second at r is_r ent of r' is_r' a b c of_a clause ax in
      record {
        label = stands.label;
        lits = stands.lits;
        is_in = subst (λ (ss : List Step). Contains ss (Axiom stands.label stands.lits)) (sym is)
            (Contains-append_left old added (Axiom stands.label stands.lits) stands.is_in);
        are_lits = stands.are_lits;
      };
}

module _ (s : Subject) (solver new : Solver) (brought : List Bool) (held : IsHeld s solver brought)
    (frame : new.frame ≡ solver.frame)
    (next : AreNext s (posed_of s solver.frame) solver.steps new.steps) where
  search_steps : (place : ℕ) (taken : Step) → slice_get new.steps place ≡ Some taken → (place < length solver.steps)
      ⊎ (length solver.steps ≤ place)
      → IsSearchStep s.spec (posed_of s solver.frame) (vars_of s) (clauses_of (take place new.steps)) taken
  search_steps place taken at (inl below) =
      subst (λ (ss : List Step). IsSearchStep s.spec (posed_of s solver.frame) (vars_of s) (clauses_of ss) taken)
      (sym (take_front solver.steps next.added new.steps place next.steps (omega (arith, below))))
      (held.search.log.steps place taken (stood solver.steps next.added new.steps place taken next.steps below at))
  search_steps place taken at (inr above) = (next.each place taken above at).0

  counted_new : (place : ℕ) (taken : Step) → slice_get new.steps place ≡ Some taken → is_counted taken ≡ true
      → (place < length solver.steps) ⊎ (length solver.steps ≤ place) → IsNew (clauses_of (take place new.steps)) taken
  counted_new place taken at counted (inl below) =
      subst (λ (ss : List Step). IsNew (clauses_of ss) taken)
      (sym (take_front solver.steps next.added new.steps place next.steps (omega (arith, below))))
      (held.search.counted_new place taken (stood solver.steps next.added new.steps place taken next.steps below at) counted)
  counted_new place taken at counted (inr above) = (next.each place taken above at).1 counted

  pub held_next : IsHeld s new brought
  held_next = record {
    search = record {
      within = held.search.within;
      log = record {
        is_posed = subst (λ (f : Frame). IsPosed (posed_of s f)) (sym frame) held.search.log.is_posed;
        as_many = held.search.log.as_many ∙ ap (λ (f : Frame). length f.answers) (sym frame);
        answers = refl;
        statements = ap (λ (f : Frame). f.statements) frame ∙ held.search.log.statements;
        steps = λ place taken at.
            subst (λ (f : Frame). IsSearchStep s.spec (posed_of s f) (vars_of s) (clauses_of (take place new.steps))
            taken) (sym frame)
            (search_steps place taken at (cases_lt place (length solver.steps)));
      };
      begins = record {
        axioms = held.search.begins.axioms;
        later = held.search.begins.later ++ next.added;
        steps_are =
            next.steps ∙ ap (λ (ss : List Step). ss ++ next.added) held.search.begins.steps_are
            ∙ append_assoc held.search.begins.axioms held.search.begins.later next.added;
        are_axioms = held.search.begins.are_axioms;
      };
      counted_new = λ place taken at counted. counted_new place taken at counted (cases_lt place (length solver.steps));
    };
    lists = brought_more s solver.steps next.added new.steps brought next.steps held.lists;
  }

-- ---- one step more

-- what stands before the last one is all that was there
ends : (old : List Step) (x : Step) (new : List Step) (place : ℕ) (taken : Step) → new ≡ old ++ x ∷ []
    → length old ≤ place → slice_get new place ≡ Some taken
    → take place new ≡ old
ends old x new place taken e high at =
    let within = slice_get_within new place taken at in
    let count = ap (λ (ss : List Step). length ss) e ∙ length_push old x in
    let same : place ≡ length old = omega (arith, within, count, high) in
    ap (λ (n : ℕ). take n new) same ∙ ap (take (length old)) e ∙ take-append-le (length old) old (x ∷ [])
    (omega arith) ∙ take_all (length old) old (omega arith)

pub one_next : (s : Subject) (posed : Posed) (old new : List Step) (mine : Step) → new ≡ old ++ mine ∷ []
    → IsSearchStep s.spec posed (vars_of s) (clauses_of old) mine × (is_counted mine ≡ true → IsNew (clauses_of old) mine)
    → AreNext s posed old new
one_next s posed old new mine e is = record {
  added = mine ∷ [];
  steps = e;
  each = λ place taken high at.
      let there : slice_get (old ++ mine ∷ []) place ≡ Some taken = ap (λ (ss : List Step). slice_get ss place) (sym e) ∙ at in
      let same : mine ≡ taken = ⊎_elim (λ (x : mine ≡ taken). x) (λ (x : ⊥). absurd x)
      (in_contained (mine ∷ []) taken (behind old (mine ∷ []) place taken high there)) in
      let front : take place new ≡ old = ends old mine new place taken e high at in
      subst (λ (t : Step). IsSearchStep s.spec posed (vars_of s) (clauses_of (take place new)) t ×
      (is_counted t ≡ true → IsNew (clauses_of (take place new)) t)) same
      (subst (λ (ss : List Step). IsSearchStep s.spec posed (vars_of s) (clauses_of ss) mine ×
      (is_counted mine ≡ true → IsNew (clauses_of ss) mine)) (sym front) is);
}

-- ---- what a solver learns

learned_next : (s : Subject) (posed : Posed) (earlier : List (List Lit)) (taken : Step) → IsLearnedAfter
    (length (vars_of s)) earlier taken → (is_counted taken ≡ false → length (clause_of taken) ≤ 1)
    → IsSearchStep s.spec posed (vars_of s) earlier taken × (is_counted taken ≡ true → IsNew earlier taken)
learned_next s posed earlier (Axiom l lits) learned small = absurd learned
learned_next s posed earlier (OnDemand l lits) learned small = absurd learned
learned_next s posed earlier (Learn lits hints counted) learned small = (
  record {
    follows = learned.0;
    within = learned.1.within;
    lits_once = learned.1.once;
    lean = learned.2;
    free = λ e. inl (small e);
  },
  λ is. learned.3 is,
)

grown_next : (s : Subject) (posed : Posed) (old new : List Step) → HasGrown (length (vars_of s)) old new → AreNext s posed old new
grown_next s posed old new grown = record {
  added = grown.added;
  steps = grown.steps;
  each = λ place taken h at.
      learned_next s posed (clauses_of (take place new)) taken (grown.learned place taken h at) (grown.small place taken h at);
}

pub held_grown : (s : Subject) (solver new : Solver) (brought : List Bool) → IsHeld s solver brought → new.frame ≡ solver.frame
    → HasGrown (length solver.frame.statements) solver.steps new.steps
    → IsHeld s new brought
held_grown s solver new brought held frame grown =
    held_next s solver new brought held frame
    (grown_next s (posed_of s solver.frame) solver.steps new.steps
    (subst (λ (ss : List Statement). HasGrown (length ss) solver.steps new.steps) held.search.log.statements grown))

-- ---- axioms

axiom_next : (s : Subject) (posed : Posed) (earlier : List (List Lit)) (taken : Step) → IsAxiomOf s taken
    → IsSearchStep s.spec posed (vars_of s) earlier taken × (is_counted taken ≡ true → IsNew earlier taken)
axiom_next s posed earlier taken is =
    subst (λ (t : Step). IsSearchStep s.spec posed (vars_of s) earlier t × (is_counted t ≡ true → IsNew earlier t))
    (sym is.step.is_step) (
      inl (record { is_step = refl; clause = is.step.clause; is_axiom = is.step.is_axiom; are_lits = is.step.are_lits }),
      λ counted. let no : ⊥ = cc in absurd no,
    )

pub axioms_next : (s : Subject) (posed : Posed) (old axioms new : List Step) → new ≡ old ++ axioms
    → All (IsAxiomOf s) axioms → AreNext s posed old new
axioms_next s posed old axioms new is all = record {
  added = axioms;
  steps = is;
  each = λ place taken h at.
      axiom_next s posed (clauses_of (take place new)) taken
      (All-contains (IsAxiomOf s) axioms taken all
      (behind old axioms place taken h (ap (λ (ss : List Step). slice_get ss place) (sym is) ∙ at)));
}

-- their literals are of the variables, none twice
axiom_fit : (s : Subject) (taken : Step) → IsAxiomOf s taken → IsFitAxiom (length (vars_of s)) taken
axiom_fit s taken is = record {
  label = is.label;
  lits = is.lits;
  is_step = is.step.is_step;
  fit = record {
    within = λ k d h.
        let one = is.step.are_lits.each k d h in
        says_within (vars_of s) (get_or is.lits k d) one.said one.says;
    once = is.step.are_lits.once;
  };
}

pub axioms_fit : (s : Subject) (axioms : List Step) → All (IsAxiomOf s) axioms → All (IsFitAxiom (length (vars_of s))) axioms
axioms_fit s axioms all = λ k d h. axiom_fit s (get_or axioms k d) (all k d h)

pub clauses_fit : (s : Subject) (axioms : List Step) → All (IsAxiomOf s) axioms
    → All (λ step. IsFit (length (vars_of s)) (clause_of step)) axioms
clauses_fit s axioms all = λ k d h.
    let fit = axiom_fit s (get_or axioms k d) (all k d h) in
    subst (λ (t : Step). IsFit (length (vars_of s)) (clause_of t)) (sym fit.is_step) fit.fit

-- none is counted
counted_cons : (x : Step) (xs : List Step) → counted_steps (x ∷ xs) ≡ cond (is_counted x) 1 0 + counted_steps xs
counted_cons x xs = sum_by-cons (λ (y : Step). cond (is_counted y) 1 0) x xs

pub uncounted : (s : Subject) (axioms : List Step) → All (IsAxiomOf s) axioms → counted_steps axioms ≡ 0
uncounted s [] all = refl
uncounted s (x ∷ xs) all =
    let one = All-head (IsAxiomOf s) x xs all in
    let none : is_counted x ≡ false = ap is_counted one.step.is_step in
    let more = uncounted s xs (All-tail (IsAxiomOf s) x xs all) in
    let front : ◌≡◌ {A = ℕ} (cond (is_counted x) 1 0) 0 = ap (λ (b : Bool). cond b 1 0) none in
    let sum = counted_cons x xs in
    omega (arith, sum, front, more)

pub counted_added : (s : Subject) (old axioms new : List Step) → new ≡ old ++ axioms → All (IsAxiomOf s) axioms
    → counted_steps new ≡ counted_steps old
counted_added s old axioms new is all =
    let sum = sum_by-append (λ (y : Step). cond (is_counted y) 1 0) old axioms in
    let none = uncounted s axioms all in
    let same = ap counted_steps is in
    let sums : counted_steps (old ++ axioms) ≡ counted_steps old + counted_steps axioms = sum in
    omega (arith, sums, none, same)

-- the axioms from the start, and those on three rows of a list
pub asked_axioms : (s : Subject) (axioms : List Step) → AreAxioms s.spec s.wanted.currents (vars_of s) axioms
    → All (IsAxiomOf s) axioms
asked_axioms s axioms are = λ k d h.
    let one = are.each k d h in
    record { label = one.label; lits = one.lits; step = one.step }

pub three_axioms : (s : Subject) (rel : RelId) (attr : AttrId) (ent : ℕ) (axioms : List Step) → AreTransitive s.spec
    (vars_of s) rel attr ent axioms
    → All (IsAxiomOf s) axioms
three_axioms s rel attr ent axioms are = λ k d h.
    let one = are.each k d h in
    record { label = label.Transitive rel attr one.first one.second one.third; lits = one.lits; step = one.step }

-- and then the clauses on three rows of the list are there
pub have_threes : (s : Subject) (rel : RelId) (attr : AttrId) (ent : ℕ) (old axioms new : List Step) → new ≡ old ++ axioms
    → AreTransitive s.spec (vars_of s) rel attr ent axioms → HaveThrees s new rel attr ent
have_threes s rel attr ent old axioms new is are r is_r a b c of clause ax =
    let stands = are.all r is_r a b c of clause ax in
    record {
      label = stands.label;
      lits = stands.lits;
      is_in = subst (λ (ss : List Step). Contains ss (Axiom stands.label stands.lits)) (sym is)
          (Contains-append_right old axioms (Axiom stands.label stands.lits) stands.is_in);
      are_lits = stands.are_lits;
    }

-- some of the axioms
pub some_axioms : (s : Subject) (count : ℕ) (axioms : List Step) → All (IsAxiomOf s) axioms → All (IsAxiomOf s)
    (take count axioms)
some_axioms s count axioms all = All-take (IsAxiomOf s) count axioms all

-- where axioms were put after the others
pub held_axioms : (s : Subject) (solver new : Solver) (brought : List Bool) → IsHeld s solver brought → new.frame ≡ solver.frame
    → HasAxioms s solver.steps new.steps → IsHeld s new brought
held_axioms s solver new brought held frame has =
    held_next s solver new brought held frame (axioms_next s (posed_of s solver.frame) solver.steps has.axioms
    new.steps has.steps has.are_axioms)

pub same_units : (s : Subject) (old new : List Step) → HasAxioms s old new → counted_steps new ≡ counted_steps old
same_units s old new has = counted_added s old has.axioms new has.steps has.are_axioms

pub has_none : (s : Subject) (old new : List Step) → new ≡ old → HasAxioms s old new
has_none s old new is = record { axioms = []; steps = is ∙ sym (append-nil old); are_axioms = All-nil (IsAxiomOf s) }

pub has_threes : (s : Subject) (rel : RelId) (attr : AttrId) (ent : ℕ) (old axioms new : List Step) → new ≡ old ++ axioms
    → AreTransitive s.spec (vars_of s) rel attr ent axioms → HasAxioms s old new
has_threes s rel attr ent old axioms new is are = record {
  axioms = axioms;
  steps = is;
  are_axioms =
      three_axioms s rel attr ent axioms are;
}

pub has_some : (s : Subject) (rel : RelId) (attr : AttrId) (ent : ℕ) (old axioms new : List Step) →
    (count : ℕ) × (new ≡ old ++ take count axioms)
    → AreTransitive s.spec (vars_of s) rel attr ent axioms → HasAxioms s old new
has_some s rel attr ent old axioms new is are = record {
  axioms = take is.0 axioms;
  steps = is.1;
  are_axioms = some_axioms s is.0 axioms (three_axioms s rel attr ent axioms are);
}

-- ---- steps that no match brought in

plain_axiom : (s : Subject) (taken : Step) → IsAxiomOf s taken → IsPlain s taken
plain_axiom s (Axiom l lits) is = is
plain_axiom s (OnDemand l lits) is = let e = is.step.is_step in let no : ⊥ = cc in absurd no
plain_axiom s (Learn lits hints counted) is = record {}

pub all_plain : (s : Subject) (axioms : List Step) → All (IsAxiomOf s) axioms → ArePlain s axioms
all_plain s axioms all = λ k d h. plain_axiom s (get_or axioms k d) (all k d h)

tied_plain : (s : Subject) (g : Parting) (taken : Step) → IsPlain s taken → IsTiedStep s g taken
tied_plain s g (Axiom l lits) is = inl is
tied_plain s g (OnDemand l lits) is = absurd is
tied_plain s g (Learn lits hints counted) is = record {}

pub plain_tied : (s : Subject) (g : Parting) (steps : List Step) → ArePlain s steps → AreTied s g steps
plain_tied s g steps plain = λ k d h. tied_plain s g (get_or steps k d) (plain k d h)

pub tied_axioms : (s : Subject) (old new : List Step) → HasAxioms s old new → KeepsTied s old new
tied_axioms s old new has g tied =
    subst (AreTied s g) (sym has.steps)
    (All-append (IsTiedStep s g) old has.axioms tied (plain_tied s g has.axioms (all_plain s has.axioms has.are_axioms)))

tied_learned : (s : Subject) (g : Parting) (vars : ℕ) (earlier : List (List Lit)) (taken : Step)
    → IsLearnedAfter vars earlier taken → IsTiedStep s g taken
tied_learned s g vars earlier (Axiom l lits) learned = absurd learned
tied_learned s g vars earlier (OnDemand l lits) learned = absurd learned
tied_learned s g vars earlier (Learn lits hints counted) learned = record {}

pub tied_grown : (s : Subject) (vars : ℕ) (old new : List Step) → HasGrown vars old new → KeepsTied s old new
tied_grown s vars old new grown g tied = λ k d h. go k d h (cases_lt k (length old))
  where
    go : (k : ℕ) (d : Step) → k < length new → (k < length old) ⊎ (length old ≤ k) → IsTiedStep s g (get_or new k d)
    go k d h (inl below) =
        let at = stood old grown.added new k (get_or new k d) grown.steps below (slice_get-get_or new k d h) in
        subst (IsTiedStep s g) (get_or_from_slice_get old k (get_or new k d) d at) (tied k d below)
    go k d h (inr above) =
        tied_learned s g vars (clauses_of (take k new)) (get_or new k d)
        (grown.learned k (get_or new k d) above (slice_get-get_or new k d h))

-- ---- nothing that is added

pub same_added : (old new : Solver) → new.frame ≡ old.frame → new.steps ≡ old.steps → HasAdded old new
same_added old new frame steps = record { frame = frame; added = []; steps = steps ∙ sym (append-nil old.steps) }

pub held_same : (s : Subject) (solver new : Solver) (brought : List Bool) → IsHeld s solver brought → new.frame ≡ solver.frame
    → new.steps ≡ solver.steps → IsHeld s new brought
held_same s solver new brought held frame steps =
    held_axioms s solver new brought held frame (has_none s solver.steps new.steps steps)

pub tied_same : (s : Subject) (old new : List Step) → new ≡ old → KeepsTied s old new
tied_same s old new same g tied = subst (AreTied s g) (sym same) tied

-- what is kept of parts and answers
pub tied_with : (s : Subject) (g : Parting) (old new : List Step) → IsTied s g old → KeepsTied s old new → IsTied s g new
tied_with s g old new tied keeps = record { parting = tied.parting; members = tied.members; are_tied = keeps g tied.are_tied }

-- ---- what a solver learns is added

pub grown_added : (vars : ℕ) (old new : Solver) → new.frame ≡ old.frame → HasGrown vars old.steps new.steps → HasAdded old new
grown_added vars old new frame grown = record { frame = frame; added = grown.added; steps = grown.steps }

-- ---- one after another

pub take_one : (first axioms old new : List Step) (place : ℕ) (taken : Step) → old ≡ first ++ take place axioms
    → new ≡ old ++ taken ∷ []
    → slice_get axioms place ≡ Some taken → new ≡ first ++ take (place + 1) axioms
take_one first axioms old new place taken before after at =
    let more : take (place + 1) axioms ≡ take place axioms ++ taken ∷ [] =
    take_more axioms place taken (slice_get_within axioms place taken at)
    ∙ ap (λ (y : Step). take place axioms ++ y ∷ []) (get_or_from_slice_get axioms place taken taken at) in
    after ∙ ap (λ (ss : List Step). ss ++ taken ∷ []) before ∙ append_assoc first (take place axioms) (taken ∷ [])
    ∙ ap (λ (ss : List Step). first ++ ss) (sym more)

-- what follows from what an answer tells
pub on_ok : {A E P Q : Type 0} (r : Result A E) → (P → Q) → OnOk r P → OnOk r Q
on_ok (Ok x) f p = f p
on_ok (Err e) f p = p
