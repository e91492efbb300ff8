-- Answers in the parts of a specification: what is kept of the clauses of their matches, where a part is made anew and where a match
-- is one more.
use Rattle.std.proofs.Common.{◌≡◌, ◌⊎◌, ◌<◌, ◌≤◌, ◌∙◌, ℕ, Bool, true, false, List, [], ◌∷◌, ◌++◌, All, Contains, Option, Some, None, IfSome, get_or, length, option_map, replicate, slice_get, slice_set, refl, sym, ap, subst, inl, inr, ⊎_elim, arith}
use Rattle.std.proofs.lemmas.Bool.{cases_eq, cases_lt}
use Rattle.std.proofs.lemmas.List.{get_or-replicate, get_or_past, length-replicate}
use Rattle.std.proofs.lemmas.List.Elements.{All-append, All-cons, All-nil, Contains-append_cases, Contains-append_left, Contains-append_right, Contains-get_or, Contains-push_cases}
use Rattle.std.proofs.lemmas.Option.{get_or_from_slice_get, same_Some, slice_get-get_or, slice_get-map, slice_get_within}
use Rattle.currency_base.specs.Literals.{var_of}
use Rattle.currency_base.specs.declared.lit.Lit.{Lit}
use Rattle.entity_ties.specs.Parts.{list_at}
use Rattle.known_models.specs.Changes.{HasValue, IsBeside, Takes}
use Rattle.known_models.specs.Known.{IsKnown, KnownModel}
use Rattle.match_clauses.specs.Clauses.{AreMatchLits, SaysAnswer}
use Rattle.order_literals.proofs.Order.{numbered_once}
use Rattle.order_literals.proofs.Sayings.{Tells, tells}
use Rattle.order_literals.specs.Numbers.{numbers_of}
use Rattle.order_literals.specs.Said.{IsClauseTrue, positive}
use Rattle.query_model.specs.declared.query.Match.{Match}
use Rattle.refutation_log.specs.Steps.{clause_of, clauses_of}
use Rattle.refutation_log.specs.declared.statement.Statement.TheVariants as says
use Rattle.refutation_log.specs.declared.step.Label.{Label}
use Rattle.refutation_log.specs.declared.step.Label.TheVariants as label
use Rattle.refutation_log.specs.declared.step.Step.{Step}
use Rattle.refutation_log.specs.declared.step.Step.TheVariants.{Axiom, Learn, OnDemand}
use Rattle.last_rows.proofs.Below.{get_push}
use Rattle.search_trail.specs.Trails.{IsScope}
use Rattle.spec_model.specs.Completion.{Rankings}
use Rattle.variable_parts.specs.Parts.{Parted}
use Rattle.variable_parts.specs.Laws.{AnswersHaveNone, PartsAreDisjoint}
use Rattle.watch_propagate.proofs.KeptLists.{contains_at}
use Rattle.watch_solver.specs.Decided.{axiom_step}
use Rattle.order_search.specs.Kept.{IsMatchFor, vars_of}
use Rattle.order_search.specs.Made.{HasSame, HasTakenIn}
use Rattle.order_search.specs.Moved.{IsMoved, IsTiedTo}
use Rattle.order_search.specs.Parts.{AreParts, parted_of}
use Rattle.order_search.specs.Searches.{Subject}
use Rattle.order_search.specs.Tied.{AreMembers, AreTied, HasMatchedIn, IsAnswerVar, IsTied, IsTiedMatch, IsTiedStep, IsTrueAtHome, LieIn, scope_in}
use Rattle.order_search.specs.declared.parting.Parting.{Parting}
use Rattle.order_search.specs.declared.parting.Tie.{Tie}
use Rattle.order_search.specs.declared.parting.Tie.TheVariants as tie
use Rattle.order_search.proofs.Members.{get_other, get_same}

-- ---- members

-- a part with an answer in it is there
pub list_there : (lists : List (List ℕ)) (at x : ℕ) → Contains (list_at lists at) x → at < length lists
list_there lists at x is_in = by (cases_lt at (length lists))
  where
    by : (at < length lists) ⊎ (length lists ≤ at) → at < length lists
    by (inl h) = h
    by (inr h) =
        let nothing = subst (λ (xs : List ℕ). Contains xs x) (get_or_past lists at [] h) is_in in
        absurd (omega (arith, nothing.1))

pub member_below : (s : Subject) (g : Parting) → AreMembers s g → (part var : ℕ) → Contains (list_at g.members part) var
    → part < length g.parts.parts
member_below s g members part var is_in =
    let h = list_there g.members part var is_in in
    omega (arith, h, members.per_part)

-- a part with which a variable is given a value is there
pub scope_there : (s : Subject) (g : Parting) → AreMembers s g → (part var : ℕ) → Contains (scope_in g part) var
    → part < length g.parts.parts
scope_there s g members part var is_in =
    ⊎_elim (λ (h : Contains (list_at g.parts.parts part) var). list_there g.parts.parts part var h)
    (λ (h : Contains (list_at g.members part) var). member_below s g members part var h)
    (Contains-append_cases (list_at g.parts.parts part) (list_at g.members part) var is_in)

-- an answer has one variable, and a variable is of one answer
pub one_var : (s : Subject) (answer v w : ℕ) → IsAnswerVar s answer v → IsAnswerVar s answer w → v ≡ w
one_var s answer v w at_v at_w = numbered_once (numbers_of s.spec.relations s.wanted) v w (says.Answer answer) at_v at_w

pub one_answer : (s : Subject) (a b var : ℕ) → IsAnswerVar s a var → IsAnswerVar s b var → a ≡ b
one_answer s a b var at_a at_b =
    let e : says.Answer a ≡ says.Answer b = same_Some (says.Answer a) (says.Answer b) (sym at_a ∙ at_b) in
    cc

pub answer_var : (s : Subject) (answer : ℕ) (lit : Lit) → SaysAnswer (vars_of s) answer lit
    → Tells (vars_of s) lit (positive (says.Answer answer))
answer_var s answer lit is =
    ⊎_elim (λ e. tells (vars_of s) lit (positive (says.Answer answer)) e)
    (λ e. tells (vars_of s) lit (positive (says.Answer answer)) e) is

pub answer_at : (s : Subject) (answer : ℕ) (lit : Lit) (var : ℕ) → SaysAnswer (vars_of s) answer lit → var ≡ var_of lit
    → IsAnswerVar s answer var
answer_at s answer lit var is same =
    subst (λ (v : ℕ). IsAnswerVar s answer v) (sym same) (answer_var s answer lit is).at

-- an answer whose matches lie elsewhere is no member
pub no_member : (s : Subject) (g : Parting) → AreMembers s g → (part answer var : ℕ) → IsAnswerVar s answer var → (o : Option Tie)
    → slice_get g.ties answer ≡ o → (o ≡ Some (tie.In part) → ⊥) → Contains (list_at g.members part) var → ⊥
no_member s g members part answer var at o is differ is_in =
    let m = members.each part var is_in in
    let same = one_answer s m.answer answer var m.says at in
    differ (sym is ∙ ap (slice_get g.ties) (sym same) ∙ m.is_tied)

module _ (none : AnswersHaveNone) (s : Subject) (g : Parting) (are : AreParts s g.parts) where
  -- an answer's variable is of no part
  pub of_none : (answer var part : ℕ) → IsAnswerVar s answer var → Contains (list_at g.parts.parts part) var → ⊥
  of_none answer var part at is_in =
      none s.spec (vars_of s) g.parts.ties g.parts.parts part var answer are.parts at is_in

-- the scopes of two parts have no variable in common
pub scopes_apart : PartsAreDisjoint → AnswersHaveNone → (s : Subject) (g : Parting) → AreParts s g.parts → AreMembers s g
    → (a b var : ℕ) → Contains (scope_in g a) var → Contains (scope_in g b) var → a ≡ b
scopes_apart law none s g are members a b var in_a in_b =
    by (Contains-append_cases (list_at g.parts.parts a) (list_at g.members a) var in_a)
    (Contains-append_cases (list_at g.parts.parts b) (list_at g.members b) var in_b)
  where
    by : Contains (list_at g.parts.parts a) var ⊎ Contains (list_at g.members a) var
        → Contains (list_at g.parts.parts b) var ⊎ Contains (list_at g.members b) var → a ≡ b
    by (inl h) (inl k) = law s.spec (vars_of s) g.parts.ties g.parts.parts a b var are.parts h k
    by (inl h) (inr k) = let m = members.each b var k in absurd (of_none none s g are m.answer var a m.says h)
    by (inr h) (inl k) = let m = members.each a var h in absurd (of_none none s g are m.answer var b m.says k)
    by (inr h) (inr k) =
        let m = members.each a var h in
        let n = members.each b var k in
        let same = one_answer s m.answer n.answer var m.says n.says in
        let e : tie.In a ≡ tie.In b =
        same_Some (tie.In a) (tie.In b) (sym m.is_tied ∙ ap (slice_get g.ties) same ∙ n.is_tied) in
        cc

-- ---- the literals of a clause

pub lie_none : (p : Parted) (part var : ℕ) → LieIn p part var []
lie_none p part var lit is_in = absurd (omega (arith, is_in.1))

pub lie_more : (p : Parted) (part var : ℕ) (front : List Lit) (one : Lit) → LieIn p part var front
    → (var_of one ≡ var) ⊎ Contains (list_at p.parts part) (var_of one) → LieIn p part var (front ++ one ∷ [])
lie_more p part var front one were is lit is_in = by (Contains-push_cases front one lit is_in)
  where
    by : Contains front lit ⊎ (one ≡ lit) → (var_of lit ≡ var) ⊎ Contains (list_at p.parts part) (var_of lit)
    by (inl h) = were lit h
    by (inr e) = subst (λ (x : Lit). (var_of x ≡ var) ⊎ Contains (list_at p.parts part) (var_of x)) e is

-- ---- a scope

pub scope_push : (n : ℕ) (xs : List ℕ) (var : ℕ) → IsScope n xs → ((at low : ℕ) → slice_get xs at ≡ Some low → low < var) → var < n
    → IsScope n (xs ++ var ∷ [])
scope_push n xs var is behind below = record {
  ascend = λ i j low high less at_i at_j. up i j low high less (get_push xs var i low at_i) (get_push xs var j high at_j);
  within = λ i x at. in_all i x (get_push xs var i x at);
}
  where
    up : (i j low high : ℕ) → i < j → (slice_get xs i ≡ Some low) ⊎ ((i ≡ length xs) × (var ≡ low))
        → (slice_get xs j ≡ Some high) ⊎ ((j ≡ length xs) × (var ≡ high)) → low < high
    up i j low high less (inl a) (inl b) = is.ascend i j low high less a b
    up i j low high less (inl a) (inr b) = let h = behind i low a in omega (arith, h, b.1)
    up i j low high less (inr a) (inl b) =
        let h = slice_get_within xs j high b in absurd (omega (arith, h, less, a.0))
    up i j low high less (inr a) (inr b) = absurd (omega (arith, less, a.0, b.0))

    in_all : (i x : ℕ) → (slice_get xs i ≡ Some x) ⊎ ((i ≡ length xs) × (var ≡ x)) → x < n
    in_all i x (inl a) = is.within i x a
    in_all i x (inr b) = omega (arith, below, b.1)

-- no answer lies in a part
pub none_members : (s : Subject) (g : Parting) (count : ℕ) → g.members ≡ replicate count [] → count ≡ length g.parts.parts
    → g.ties ≡ replicate s.wanted.answers tie.Loose → AreMembers s g
none_members s g count members many ties = record {
  per_part = ap (λ (ms : List (List ℕ)). length ms) members ∙ length-replicate {A = List ℕ} count [] ∙ many;
  per_answer = ap (λ (ts : List Tie). length ts) ties ∙ length-replicate {A = Tie} s.wanted.answers tie.Loose;
  each = λ part var is_in. absurd (nothing part var (subst (λ (ms : List (List ℕ)). Contains (list_at ms part) var) members is_in));
  all = λ part answer var is at.
      absurd (not_in part answer (subst (λ (ts : List Tie). slice_get ts answer ≡ Some (tie.In part)) ties is));
}
  where
    nothing : (part var : ℕ) → Contains (list_at (replicate {A = List ℕ} count []) part) var → ⊥
    nothing part var is_in = by (cases_lt part count)
      where
        by : (part < count) ⊎ (count ≤ part) → ⊥
        by (inl low) =
            let none = subst (λ (xs : List ℕ). Contains xs var) (get_or-replicate {A = List ℕ} count part [] [] low) is_in in
            omega (arith, none.1)
        by (inr high) =
            let past = length-replicate {A = List ℕ} count [] in
            let none = subst (λ (xs : List ℕ). Contains xs var)
            (get_or_past (replicate {A = List ℕ} count []) part [] (omega (arith, past, high))) is_in in
            omega (arith, none.1)

    not_in : (part answer : ℕ) → slice_get (replicate s.wanted.answers tie.Loose) answer ≡ Some (tie.In part) → ⊥
    not_in part answer is =
        let within = slice_get_within (replicate s.wanted.answers tie.Loose) answer (tie.In part) is in
        let many_ties = length-replicate {A = Tie} s.wanted.answers tie.Loose in
        let loose = get_or-replicate {A = Tie} s.wanted.answers answer tie.Loose tie.Loose (omega (arith, within, many_ties)) in
        let told = get_or_from_slice_get (replicate s.wanted.answers tie.Loose) answer (tie.In part) tie.Loose is in
        let no : tie.Loose ≡ tie.In part = sym loose ∙ told in
        cc

-- ---- a part is made anew

pub same_scope : (old new : Parting) → HasSame old new → (part : ℕ) → scope_in new part ≡ scope_in old part
same_scope old new same part = rw (same.parts, same.members) refl

-- with another model
abbrev with_known : Parting → KnownModel → Parting
with_known g k = record { parts = g.parts; known = k; members = g.members; ties = g.ties }

same_is : (old new : Parting) → HasSame old new → new ≡ with_known old new.known
same_is old new same = rw (← same.parts, ← same.members, ← same.ties) refl

module _ (law : PartsAreDisjoint) (none : AnswersHaveNone) (s : Subject) (g : Parting) (are : AreParts s g.parts)
    (members : AreMembers s g) (part : ℕ) (given : List (Option Bool)) (k : KnownModel)
    (takes : Takes (scope_in g part) given g.known.truths k.truths) (done : k.done ≡ slice_set g.known.done part true) where
  -- what is of another scope stays
  outside : (other var : ℕ) → (other ≡ part → ⊥) → Contains (scope_in g other) var
      → slice_get k.truths var ≡ slice_get g.known.truths var
  outside other var differ is_in =
      takes.kept var (λ here. differ (scopes_apart law none s g are members other part var is_in here))

  stays_out : (answer var : ℕ) → IsAnswerVar s answer var → (Contains (list_at g.members part) var → ⊥)
      → slice_get k.truths var ≡ slice_get g.known.truths var
  stays_out answer var at out =
      takes.kept var (λ here.
      ⊎_elim (λ (h : Contains (list_at g.parts.parts part) var). of_none none s g are answer var part at h)
      (λ (h : Contains (list_at g.members part) var). out h)
      (Contains-append_cases (list_at g.parts.parts part) (list_at g.members part) var here))

  -- the literals of the clause of a match that lies in a part are of its scope
  home_scope : (home var : ℕ) (lits : List Lit) → Contains (list_at g.members home) var → LieIn g.parts home var lits → (lit : Lit)
      → Contains lits lit → Contains (scope_in g home) (var_of lit)
  home_scope home var lits member lie lit is_in = by (lie lit is_in)
    where
      by : (var_of lit ≡ var) ⊎ Contains (list_at g.parts.parts home) (var_of lit) → Contains (scope_in g home) (var_of lit)
      by (inl e) =
          Contains-append_right (list_at g.parts.parts home) (list_at g.members home) (var_of lit)
          (subst (λ (v : ℕ). Contains (list_at g.members home) v) (sym e) member)
      by (inr h) = Contains-append_left (list_at g.parts.parts home) (list_at g.members home) (var_of lit) h

  module _ (lits : List Lit)
      (all_true : ((lit : Lit) → Contains lits lit → Contains (scope_in g part) (var_of lit)) → IsClauseTrue k.truths lits)
      (is : IsTiedMatch s g lits) where
    abbrev v : ℕ
    v = var_of is.own

    abbrev Truth : Type 0
    Truth = (slice_get k.truths v ≡ Some true) ⊎ IsTrueAtHome (with_known g k) v lits

    truth_here : Contains (list_at g.members part) v → Truth
    truth_here member = inr (record {
      part = part;
      member = member;
      is_true = λ (_ : slice_get k.done part ≡ Some true).
          all_true (home_scope part v lits member (is.home part member));
    })

    truth_there : (Contains (list_at g.members part) v → ⊥)
        → (slice_get g.known.truths v ≡ Some true) ⊎ IsTrueAtHome g v lits → Truth
    truth_there out (inl set) = inl (stays_out is.answer v is.says out ∙ set)
    truth_there out (inr home) = inr (record {
      part = home.part;
      member = home.member;
      is_true = λ (now : slice_get k.done home.part ≡ Some true). kept now;
    })
      where
        differ : home.part ≡ part → ⊥
        differ e = out (subst (λ (p : ℕ). Contains (list_at g.members p) v) e home.member)

        kept : slice_get k.done home.part ≡ Some true → IsClauseTrue k.truths lits
        kept now =
            let before : slice_get g.known.done home.part ≡ Some true =
            sym (get_other g.known.done part home.part true differ) ∙ ap (λ (ds : List Bool). slice_get ds home.part) (sym done)
            ∙ now in
            let was = home.is_true before in
            record {
              lit = was.lit;
              is_in = was.is_in;
              is_true = outside home.part (var_of was.lit) differ
                  (home_scope home.part v lits home.member (is.home home.part home.member) was.lit was.is_in) ∙ was.is_true;
            }

    truth_by : (o : Option Tie) → slice_get g.ties is.answer ≡ o → Truth
    truth_by None at = truth_there (no_member s g members part is.answer v is.says None at (λ e. cc)) is.truth
    truth_by (Some tie.Loose) at =
        truth_there (no_member s g members part is.answer v is.says (Some tie.Loose) at (λ e. cc)) is.truth
    truth_by (Some tie.Across) at =
        truth_there (no_member s g members part is.answer v is.says (Some tie.Across) at (λ e. cc)) is.truth
    truth_by (Some (tie.In other)) at = in_other (cases_eq other part)
      where
        in_other : (other ≡ part) ⊎ (other ≡ part → ⊥) → Truth
        in_other (inl e) = truth_here (members.all part is.answer v (at ∙ ap (λ (p : ℕ). Some (tie.In p)) e) is.says)
        in_other (inr d) =
            truth_there (no_member s g members part is.answer v is.says (Some (tie.In other)) at (λ e. d cc)) is.truth

    match_kept : IsTiedMatch s (with_known g k) lits
    match_kept = record {
      answer = is.answer;
      own = is.own;
      own_in = is.own_in;
      says = is.says;
      positive = is.positive;
      is_tied = is.is_tied;
      home = is.home;
      truth = truth_by (slice_get g.ties is.answer) refl;
    }

  step_kept : (taken : Step)
      → (((lit : Lit) → Contains (clause_of taken) lit → Contains (scope_in g part) (var_of lit))
      → IsClauseTrue k.truths (clause_of taken)) → IsTiedStep s g taken → IsTiedStep s (with_known g k) taken
  step_kept (Axiom l lits) all_true (inl is) = inl is
  step_kept (Axiom l lits) all_true (inr is) = inr (match_kept lits all_true is)
  step_kept (OnDemand l lits) all_true is = match_kept lits all_true is
  step_kept (Learn lits hints counted) all_true is = is

-- the answers that lie in a part are of no part, and have values
pub all_beside : AnswersHaveNone → (s : Subject) (g : Parting) → AreParts s g.parts → AreMembers s g → (part : ℕ)
    (given : List (Option Bool)) → All (HasValue given) (list_at g.members part)
    → All (IsBeside (parted_of s g.parts) given) (list_at g.members part)
all_beside none s g are members part given values at d within =
    let var = get_or (list_at g.members part) at d in
    let m = members.each part var (Contains-get_or (list_at g.members part) at d within) in
    record { has_value = values at d within; of_none = λ other is_in. of_none none s g are m.answer var other m.says is_in }

-- truths that are taken one after another
pub takes_both : (vars beside : List ℕ) (given : List (Option Bool)) (old mid new : List Bool) → Takes vars given old mid
    → Takes beside given mid new → ((var : ℕ) → Contains vars var → Contains beside var → ⊥)
    → Takes (vars ++ beside) given old new
takes_both vars beside given old mid new one other apart = record {
  many = other.many ∙ one.many;
  taken = λ var value is_in is. by var value is (Contains-append_cases vars beside var is_in);
  kept = λ var out.
      other.kept var (λ has. out (Contains-append_right vars beside var has))
      ∙ one.kept var (λ has. out (Contains-append_left vars beside var has));
}
  where
    by : (var : ℕ) (value : Bool) → slice_get given var ≡ Some (Some value) → Contains vars var ⊎ Contains beside var
        → slice_get new var ≡ Some value
    by var value is (inl has) = other.kept var (λ both. apart var has both) ∙ one.taken var value has is
    by var value is (inr has) = other.taken var value has is

-- where the truths that were taken make each clause true that is of the scope
pub taken_tied : PartsAreDisjoint → AnswersHaveNone → (s : Subject) (g new : Parting) (part : ℕ) (given : List (Option Bool))
    (steps : List Step) → IsTied s g steps → HasTakenIn s part given g new
    → ((clause : List Lit) → Contains (clauses_of steps) clause
    → ((lit : Lit) → Contains clause lit → Contains (scope_in g part) (var_of lit)) → IsClauseTrue new.known.truths clause)
    → IsTied s new steps
taken_tied law none s g new part given steps tied taken all_true =
    subst (λ (x : Parting). IsTied s x steps) (sym (same_is g new taken.same)) (record {
      parting = record {
        parts = tied.parting.parts;
        few = tied.parting.few;
        known = subst (λ (p : Parted). IsKnown (parted_of s p) new.known) (taken.same).parts taken.known;
      };
      members = record {
        per_part = tied.members.per_part;
        per_answer = tied.members.per_answer;
        each = tied.members.each;
        all = tied.members.all;
      };
      are_tied = λ at d within.
          step_kept law none s g tied.parting.parts tied.members part given new.known taken.truths taken.done (get_or steps at d)
          (λ of. all_true (clause_of (get_or steps at d)) (clause_at at d within) of) (tied.are_tied at d within);
    })
  where
    clause_at : (at : ℕ) (d : Step) → at < length steps → Contains (clauses_of steps) (clause_of (get_or steps at d))
    clause_at at d within =
        contains_at (clauses_of steps) at (clause_of (get_or steps at d))
        (slice_get-map clause_of steps at ∙ ap (option_map clause_of) (slice_get-get_or steps at d within))

-- ---- a match is one more

module _ (none : AnswersHaveNone) (s : Subject) (old moved : Parting) (k : KnownModel) (are : AreParts s old.parts)
    (answer var : ℕ) (at : IsAnswerVar s answer var) (home : Option ℕ) (is : IsMoved s answer var home old moved)
    (many : length old.known.truths ≡ length (vars_of s))
    (truths : k.truths ≡ slice_set old.known.truths var true) (done : k.done ≡ old.known.done) where
  -- the answer is true
  set_here : slice_get k.truths var ≡ Some true
  set_here =
      ap (λ (ts : List Bool). slice_get ts var) truths
      ∙ get_same old.known.truths var true (let h = slice_get_within (vars_of s) var (says.Answer answer) at in omega (arith, h, many))

  set_other : (other : ℕ) → (other ≡ var → ⊥) → slice_get k.truths other ≡ slice_get old.known.truths other
  set_other other differ =
      ap (λ (ts : List Bool). slice_get ts other) truths ∙ get_other old.known.truths var other true differ

  abbrev now : Parting
  now = record { parts = old.parts; known = k; members = moved.members; ties = moved.ties }

  module _ (lits : List Lit) (was : IsTiedMatch s old lits) where
    abbrev own_var : ℕ
    own_var = var_of was.own

    home_now : (part : ℕ) → Contains (list_at moved.members part) own_var → LieIn old.parts part own_var lits
    home_now part member = by (cases_eq own_var var)
      where
        by_first : (e : own_var ≡ var) → slice_get old.ties answer ≡ Some tie.Loose
            ⊎ ((p : ℕ) → Contains (list_at moved.members p) var → Contains (list_at old.members p) var)
            → LieIn old.parts part own_var lits
        by_first e (inl loose) =
            let same = one_answer s was.answer answer var (subst (λ (w : ℕ). IsAnswerVar s was.answer w) e was.says) at in
            absurd (was.is_tied (ap (slice_get old.ties) same ∙ loose))
        by_first e (inr back) =
            was.home part (subst (λ (w : ℕ). Contains (list_at old.members part) w) (sym e)
            (back part (subst (λ (w : ℕ). Contains (list_at moved.members part) w) e member)))

        by : (own_var ≡ var) ⊎ (own_var ≡ var → ⊥) → LieIn old.parts part own_var lits
        by (inl e) = by_first e is.first
        by (inr differ) = was.home part ((is.others part own_var differ).1 member)

    truth_now : (own_var ≡ var) ⊎ (own_var ≡ var → ⊥) → (slice_get old.known.truths own_var ≡ Some true) ⊎ IsTrueAtHome old own_var lits
        → (slice_get k.truths own_var ≡ Some true) ⊎ IsTrueAtHome now own_var lits
    truth_now (inl e) truth = inl (ap (slice_get k.truths) e ∙ set_here)
    truth_now (inr differ) (inl set) = inl (set_other own_var differ ∙ set)
    truth_now (inr differ) (inr there) = inr (record {
      part = there.part;
      member = (is.others there.part own_var differ).0 there.member;
      is_true = λ (is_done : slice_get k.done there.part ≡ Some true). kept is_done;
    })
      where
        other_lit : (lit : Lit) → (var_of lit ≡ own_var) ⊎ Contains (list_at old.parts.parts there.part) (var_of lit) → var_of lit ≡ var → ⊥
        other_lit lit (inl same) e = differ (sym same ∙ e)
        other_lit lit (inr of) e =
            of_none none s old are answer var there.part at
            (subst (λ (w : ℕ). Contains (list_at old.parts.parts there.part) w) e of)

        kept : slice_get k.done there.part ≡ Some true → IsClauseTrue k.truths lits
        kept is_done =
            let stood = there.is_true (ap (λ (ds : List Bool). slice_get ds there.part) (sym done) ∙ is_done) in
            record {
              lit = stood.lit;
              is_in = stood.is_in;
              is_true = set_other (var_of stood.lit)
                  (other_lit stood.lit (was.home there.part there.member stood.lit stood.is_in)) ∙ stood.is_true;
            }

    match_now : IsTiedMatch s now lits
    match_now = record {
      answer = was.answer;
      own = was.own;
      own_in = was.own_in;
      says = was.says;
      positive = was.positive;
      is_tied = λ loose. was.is_tied (is.loose was.answer loose);
      home = home_now;
      truth = truth_now (cases_eq own_var var) was.truth;
    }

  step_now : (taken : Step) → IsTiedStep s old taken → IsTiedStep s now taken
  step_now (Axiom l lits) (inl is_axiom) = inl is_axiom
  step_now (Axiom l lits) (inr was) = inr (match_now lits was)
  step_now (OnDemand l lits) was = match_now lits was
  step_now (Learn lits hints counted) was = was

  -- the match that is one more
  match_new : (query_lits : List Lit) (own : Lit) → Contains query_lits own → SaysAnswer (vars_of s) answer own
      → IfSome home (λ part. LieIn old.parts part var query_lits) → IsTiedMatch s now query_lits
  match_new lits own own_in says_own lies = record {
    answer = answer;
    own = own;
    own_in = own_in;
    says = told.at;
    positive = told.sign;
    is_tied = is.no_more;
    home = λ part member.
        subst (λ (w : ℕ). LieIn old.parts part w lits) (sym same)
        (subst (λ (h : Option ℕ). IfSome h (λ p. LieIn old.parts p var lits))
        (is.own part (subst (λ (w : ℕ). Contains (list_at moved.members part) w) same member)) lies);
    truth = inl (ap (slice_get k.truths) same ∙ set_here);
  }
    where
      told : Tells (vars_of s) own (positive (says.Answer answer))
      told = answer_var s answer own says_own

      same : var_of own ≡ var
      same = one_var s answer (var_of own) var told.at at

new_step : (s : Subject) (g : Parting) (l : Label) (lits : List Lit) (counted : Bool) → IsTiedMatch s g lits
    → IsTiedStep s g (axiom_step l lits counted)
new_step s g l lits true is = is
new_step s g l lits false is = inr is

pub matched_tied : AnswersHaveNone → (s : Subject) (old new : Parting) (answer : ℕ) (home : Option ℕ) (c : Rankings) (m : Match)
    (counted : Bool) (steps more : List Step) → IsMatchFor s c m answer → IsTied s old steps
    → (matched : HasMatchedIn s old.parts home c m answer counted steps more) → IsTiedTo s answer matched.var home old new
    → IsTied s new more
matched_tied none s old new answer home c m counted steps more asked tied matched to =
    subst (λ (x : Parting). IsTied s x more) (sym new_is) (record {
      parting = record {
        parts = tied.parting.parts;
        few = tied.parting.few;
        known = subst (λ (p : Parted). IsKnown (parted_of s p) new.known) (to.parts ∙ (to.is_moved).same.parts) to.known;
      };
      members = record {
        per_part = (to.is_moved).members.per_part ∙ ap (λ (p : Parted). length p.parts) (to.is_moved).same.parts;
        per_answer = (to.is_moved).members.per_answer;
        each = (to.is_moved).members.each;
        all = (to.is_moved).members.all;
      };
      are_tied = subst (AreTied s next) (sym (matched.matched).steps)
          (All-append (IsTiedStep s next) steps (axiom_step (label.Match m.disjunct m.entities m.values) lits counted ∷ [])
          (λ at d within.
          step_now none s old to.moved new.known tied.parting.parts answer matched.var matched.says home to.is_moved many truths
          done (get_or steps at d) (tied.are_tied at d within))
          (All-cons (IsTiedStep s next) (axiom_step (label.Match m.disjunct m.entities m.values) lits counted) []
          (new_step s next (label.Match m.disjunct m.entities m.values) lits counted
          (match_new none s old to.moved new.known tied.parting.parts answer matched.var matched.says home to.is_moved many truths
          done lits its.has_answer.0 its.has_answer.1 its.has_answer.2 matched.home_is))
          (All-nil (IsTiedStep s next))));
    })
  where
    lits : List Lit
    lits = (matched.matched).lits

    its : AreMatchLits s.spec s.wanted asked.query c m answer lits
    its = (matched.matched).are_lits asked.query asked.is_query

    many : length old.known.truths ≡ length (vars_of s)
    many = tied.parting.known.per_variable

    truths : new.known.truths ≡ slice_set old.known.truths matched.var true
    truths = to.truths

    done : new.known.done ≡ old.known.done
    done = to.done

    next : Parting
    next = record { parts = old.parts; known = new.known; members = (to.moved).members; ties = (to.moved).ties }

    new_is : new ≡ next
    new_is = rw (← (to.is_moved).same.parts, ← to.parts, ← to.members, ← to.ties) refl
