-- What is kept under the goal's negation, and what the goal's level tells.
use Rattle.std.proofs.Common.{◌≡◌, ◌⊎◌, ◌<◌, ◌≤◌, ◌-◌, ◌∙◌, ℕ, zero, suc, Bool, true, false, cond, List, [], ◌∷◌, ◌++◌, Option, Some, None, Contains, length, map, take, nat_le, slice_get, slice_index_or, option_map, refl, sym, ap, subst, inl, inr, arith}
use Rattle.std.specs.Option.{IfSome}
use Rattle.std.specs.List.{count_by}
use Rattle.std.proofs.lemmas.Bool.{cases_lt, lt-leb, leb-true, leb-false}
use Rattle.std.proofs.lemmas.List.{length-map, length-take, map-append, take-map}
use Rattle.std.proofs.lemmas.List.Sums.{count_by-le-length, sum_by-cons}
use Rattle.std.proofs.lemmas.Option.{IfSome_then, same_Some, slice_get-get_or, slice_get-map, slice_get_within, get_or_from_slice_get}
use Rattle.currency_base.specs.Literals.{negation, var_of}
use Rattle.currency_base.specs.declared.lit.Lit.{Lit}
use Rattle.search_trail.specs.Trails.{AreEntries, Entry, IsFree, StandsAt, Trail, assumed, entries_up_to, implied, level_at, lits_of, undone}
use Rattle.conflict_analysis.specs.Analyses.{lits_below}
use Rattle.search_state.specs.States.{HasLearned, HasTrail, IsExtended, IsState, State, vars_of}
use Rattle.watch_propagate.proofs.KeptLists.{contains_at, get_left, same_get, stands_at}
use Rattle.watch_solver.specs.Underway.{IsFinal, IsGoalBelow, IsGoalFalse, IsOfGoal, IsUnder}
use Rattle.watch_solver.proofs.LitParts.{other_parts, same_negated}
use Rattle.watch_solver.proofs.TrueLits.{few_entries, not_free}

get_taken : {A : Type 0} (n i : ℕ) (xs : List A) (x : A) → i < n → slice_get xs i ≡ Some x → slice_get (take n xs) i ≡ Some x
get_taken zero i xs x h is = absurd (omega (arith, h))
get_taken (suc n) i [] x h is = absurd (cc)
get_taken (suc n) zero (y ∷ ys) x h is = is
get_taken (suc n) (suc i) (y ∷ ys) x h is = get_taken n i ys x (omega (arith, h)) is

past_end : (xs : List ℕ) (i d : ℕ) → length xs ≤ i → slice_index_or xs i d ≡ d
past_end [] i d h = refl
past_end (x ∷ xs) zero d h = absurd (omega (arith, h))
past_end (x ∷ xs) (suc i) d h = past_end xs i d (omega (arith, h))

-- ---- literals and entries

-- the literals of entries with more behind
lits_more : (old new : Trail) (added : List Entry) → new.entries ≡ old.entries ++ added → lits_of new ≡ lits_of old
    ++ map (λ (e : Entry). e.lit) added
lits_more old new added is = ap (map (λ (e : Entry). e.lit)) is ∙ map-append (λ (e : Entry). e.lit) old.entries added

lits_undone : (t : Trail) (level : ℕ) → lits_of (undone t level) ≡ take (entries_up_to t level) (lits_of t)
lits_undone t level = sym (take-map (λ (e : Entry). e.lit) (entries_up_to t level) t.entries)

as_many_lits : (t : Trail) → length (lits_of t) ≡ length t.entries
as_many_lits t = length-map t.entries (λ (e : Entry). e.lit)

-- a literal at a place is of the entry there
pub stands : (t : Trail) (place : ℕ) (lit : Lit) → slice_get (lits_of t) place ≡ Some lit → StandsAt t (var_of lit) place
stands t place lit is = go (slice_get t.entries place) refl
  where
    lits_at : slice_get (lits_of t) place ≡ option_map (λ (e : Entry). e.lit) (slice_get t.entries place)
    lits_at = slice_get-map (λ (e : Entry). e.lit) t.entries place

    go : (o : Option Entry) → slice_get t.entries place ≡ o → StandsAt t (var_of lit) place
    go (Some e) at =
        let same : e.lit ≡ lit = same_Some e.lit lit (sym (ap (option_map (λ (d : Entry). d.lit)) at) ∙ sym lits_at ∙ is) in
        record { entry = e; is_entry = at; is_of = ap var_of same }
    go None at =
        let none : slice_get (lits_of t) place ≡ None = lits_at ∙ ap (option_map (λ (d : Entry). d.lit)) at in
        absurd (cc)

-- ---- what is kept

-- entries that follow at the current level
pub goal_extended : (old new : Trail) (goal : Option Lit) (added : List Entry) → new.starts ≡ old.starts
    → new.entries ≡ old.entries ++ added
    → IsOfGoal old goal → IsOfGoal new goal
goal_extended old new goal added starts entries kept deep =
    IfSome_then goal (kept (subst (λ (ss : List ℕ). 0 < length ss) starts deep)) (λ g u. more g u)
  where
    more : (g : Lit) → IsUnder old g → IsUnder new g
    more g u = record {
      start = u.start;
      is_start = ap (λ (ss : List ℕ). slice_get ss 0) starts ∙ u.is_start;
      place = u.place;
      low = u.low;
      is_there = ap (λ (ls : List Lit). slice_get ls u.place) (lits_more old new added entries)
          ∙ get_left (lits_of old) (map (λ (e : Entry). e.lit) added) u.place (negation g) u.is_there;
    }

pub goal_implied : (t : Trail) (goal : Option Lit) (lit : Lit) (clause : ℕ) → IsOfGoal t goal
    → IsOfGoal (implied t lit clause) goal
goal_implied t goal lit clause kept = goal_extended t (implied t lit clause) goal
    (record { lit = lit; reason = Some clause } ∷ []) refl refl kept

-- a literal that is assumed where the goal is false
pub goal_assumed : (t : Trail) (goal : Option Lit) (lit : Lit) → IsOfGoal t goal → IsGoalFalse t goal
    → IsOfGoal (assumed t lit) goal
goal_assumed t goal lit kept is_false deep = go (cases_lt 0 (length t.starts))
  where
    behind : List Entry
    behind = record { lit = lit; reason = None } ∷ []

    there : (place : ℕ) (l : Lit) → slice_get (lits_of t) place ≡ Some l → slice_get (lits_of (assumed t lit)) place ≡ Some l
    there place l is =
        ap (λ (ls : List Lit). slice_get ls place) (lits_more t (assumed t lit) behind refl)
        ∙ get_left (lits_of t) (map (λ (e : Entry). e.lit) behind) place l is

    first : (ss : List ℕ) (n : ℕ) → length ss ≤ 0 → slice_get (ss ++ n ∷ []) 0 ≡ Some n
    first [] n h = refl
    first (s ∷ ss) n h = absurd (omega (arith, h))

    go : (0 < length t.starts) ⊎ (length t.starts ≤ 0) → IfSome goal (IsUnder (assumed t lit))
    go (inl open_one) = IfSome_then goal (kept open_one) (λ g u. record {
      start = u.start;
      is_start = get_left t.starts (length t.entries ∷ []) 0 u.start u.is_start;
      place = u.place;
      low = u.low;
      is_there = there u.place (negation g) u.is_there;
    })
    go (inr none) = IfSome_then goal is_false (λ g c.
        let at = stands_at (lits_of t) (negation g) c in
        let within = slice_get_within (lits_of t) at.0 (negation g) at.1 in
        record {
          start = length t.entries;
          is_start = first t.starts (length t.entries) none;
          place = at.0;
          low = omega (arith, within, as_many_lits t);
          is_there = there at.0 (negation g) at.1;
        })

-- the goal's negation, assumed where nothing is
pub goal_begun : (t : Trail) (g : Lit) → length t.starts ≤ 0 → IsOfGoal (assumed t (negation g)) (Some g)
goal_begun t g none deep = record {
  start = length t.entries;
  is_start = first t.starts (length t.entries) none;
  place = length t.entries;
  low = omega arith;
  is_there = last t.entries;
}
  where
    first : (ss : List ℕ) (n : ℕ) → length ss ≤ 0 → slice_get (ss ++ n ∷ []) 0 ≡ Some n
    first [] n h = refl
    first (s ∷ ss) n h = absurd (omega (arith, h))

    last : (es : List Entry) → slice_get
        (map (λ (e : Entry). e.lit) (es ++ record { lit = negation g; reason = None } ∷ [])) (length es) ≡ Some (negation g)
    last [] = refl
    last (e ∷ es) = last es

-- what stands at or before the first start stands before each later level
before_level : (t : Trail) (g : Lit) (u : IsUnder t g) (level : ℕ) → AreEntries t → 0 < level → u.place < entries_up_to t level
before_level t g u level are positive = go (cases_lt level (length t.starts))
  where
    go : (level < length t.starts) ⊎ (length t.starts ≤ level) → u.place < entries_up_to t level
    go (inl h) =
        let less = are.ascend 0 level u.start (entries_up_to t level) positive u.is_start
        (slice_get-get_or t.starts level (length t.entries) h) in
        omega (arith, less, u.low)
    go (inr h) =
        let whole : entries_up_to t level ≡ length t.entries = past_end t.starts level (length t.entries) h in
        let within = slice_get_within (lits_of t) u.place (negation g) u.is_there in
        omega (arith, whole, within, as_many_lits t)

-- levels that are taken away
pub goal_undone : (t : Trail) (goal : Option Lit) (level : ℕ) → AreEntries t → IsOfGoal t goal → IsOfGoal (undone t level) goal
goal_undone t goal level are kept deep =
    let some : 0 < length t.starts = omega (arith, deep, length-take level t.starts) in
    let positive : 0 < level = omega (arith, deep, length-take level t.starts) in
    IfSome_then goal (kept some) (λ g u. record {
      start = u.start;
      is_start = get_taken level 0 t.starts u.start positive u.is_start;
      place = u.place;
      low = u.low;
      is_there = ap (λ (ls : List Lit). slice_get ls u.place) (lits_undone t level)
          ∙ get_taken (entries_up_to t level) u.place (lits_of t) (negation g) (before_level t g u level are positive) u.is_there;
    })

-- where nothing is assumed
pub goal_ground : (t : Trail) (goal : Option Lit) → t.starts ≡ [] → IsOfGoal t goal
goal_ground t goal none deep = let few = ap length none in absurd (omega (arith, deep, few))

-- ---- the goal's level

none_up_to : (starts : List ℕ) (place : ℕ) → ((i start : ℕ) → slice_get starts i ≡ Some start → place < start)
    → count_by (λ start. nat_le start place) starts ≡ 0
none_up_to [] place above = refl
none_up_to (s ∷ ss) place above =
    let here : nat_le s place ≡ false = lt-leb s place (above 0 s refl) in
    let more : count_by (λ start. nat_le start place) ss ≡ 0 = none_up_to ss place (λ i start is. above (suc i) start is) in
    let one : ◌≡◌ {A = ℕ} (cond (nat_le s place) 1 0) 0 = rw here refl in
    omega (arith, sum_by-cons (λ r. cond (nat_le r place) 1 0) s ss, more, one)

-- what stands at or before the first start is of level 1 or 0
first_level : (starts : List ℕ) (s place : ℕ) → ((i j low high : ℕ) → i < j → slice_get starts i ≡ Some low
    → slice_get starts j ≡ Some high → low < high)
    → slice_get starts 0 ≡ Some s → place ≤ s → count_by (λ start. nat_le start place) starts ≡ cond (nat_le s place) 1 0
first_level [] s place ascend is low = absurd (cc)
first_level (r ∷ rs) s place ascend is low =
    let same : r ≡ s = same_Some r s is in
    let later : count_by (λ start. nat_le start place) rs ≡ 0 =
    none_up_to rs place (λ i start at. let less = ascend 0 (suc i) r start (omega arith) refl at in omega
    (arith, less, low, same)) in
    let here : ◌≡◌ {A = ℕ} (cond (nat_le r place) 1 0) (cond (nat_le s place) 1 0) =
    ap (λ (n : ℕ). cond {A = ℕ} (nat_le n place) 1 0) same in
    omega (arith, sum_by-cons (λ n. cond (nat_le n place) 1 0) r rs, later, here)

level_cases : (s place : ℕ) → place ≤ s → ((place ≡ s) × (◌≡◌ {A = ℕ} (cond (nat_le s place) 1 0) 1)) ⊎
    ((place < s) × (◌≡◌ {A = ℕ} (cond (nat_le s place) 1 0) 0))
level_cases s place low = go (nat_le s place) refl
  where
    go : (b : Bool) → nat_le s place ≡ b → ((place ≡ s) × (◌≡◌ {A = ℕ} (cond (nat_le s place) 1 0) 1)) ⊎
        ((place < s) × (◌≡◌ {A = ℕ} (cond (nat_le s place) 1 0) 0))
    go true e = let h = leb-true s place e in inl (omega (arith, h, low), rw e refl)
    go false e = let h = leb-false s place e in inr (omega (arith, h), rw e refl)

pub level_within : (t : Trail) (place : ℕ) → level_at t place ≤ length t.starts
level_within t place = count_by-le-length (λ start. nat_le start place) t.starts

-- at the goal's level nothing is assumed but its negation
pub level_final : (t : Trail) (g : Lit) (u : IsUnder t g) → AreEntries t → length t.starts ≤ level_at t u.place
    → IsFinal t (Some g)
level_final t g u are top lit a = go (level_cases u.start u.place u.low)
  where
    level : level_at t u.place ≡ cond (nat_le u.start u.place) 1 0
    level = first_level t.starts u.start u.place are.ascend u.is_start u.low

    within : a.level < length t.starts
    within = slice_get_within t.starts a.level a.start a.is_start

    go : ((u.place ≡ u.start) × (◌≡◌ {A = ℕ} (cond (nat_le u.start u.place) 1 0) 1)) ⊎
        ((u.place < u.start) × (◌≡◌ {A = ℕ} (cond (nat_le u.start u.place) 1 0) 0))
        → Some g ≡ Some lit
    go (inl h) =
        let lowest : a.level ≡ 0 = omega (arith, top, level, within, h.1) in
        let start : a.start ≡ u.start = same_get t.starts 0 a.start u.start
        (subst (λ (i : ℕ). slice_get t.starts i ≡ Some a.start) lowest a.is_start) u.is_start in
        let there : slice_get (lits_of t) u.place ≡ Some (negation lit) = ap (slice_get (lits_of t))
        (h.0 ∙ sym start) ∙ a.is_there in
        ap Some (same_negated g lit (same_get (lits_of t) u.place (negation g) (negation lit) u.is_there there))
    go (inr h) = absurd (omega (arith, top, level, within, h.1))

-- above it the goal is false below the current level
pub level_below : (t : Trail) (g : Lit) (u : IsUnder t g) → AreEntries t → level_at t u.place < length t.starts
    → Contains (lits_below t) (negation g)
level_below t g u are deep =
    contains_at (lits_below t) u.place (negation g) (get_taken (entries_up_to t (length t.starts - 1)) u.place
    (lits_of t) (negation g) before u.is_there)
  where
    level : level_at t u.place ≡ cond (nat_le u.start u.place) 1 0
    level = first_level t.starts u.start u.place are.ascend u.is_start u.low

    first : length t.starts ≤ 1 → (u.place < u.start) → u.place < entries_up_to t (length t.starts - 1)
    first one h =
        let within = slice_get_within t.starts 0 u.start u.is_start in
        let lowest : length t.starts - 1 ≡ 0 = omega (arith, one, within) in
        let there : slice_index_or t.starts 0 (length t.entries) ≡ u.start = get_or_from_slice_get t.starts 0 u.start
        (length t.entries) u.is_start in
        let same : entries_up_to t (length t.starts - 1) ≡ u.start = ap (entries_up_to t) lowest ∙ there in
        omega (arith, same, h)

    go : (1 < length t.starts) ⊎ (length t.starts ≤ 1)
        → ((u.place ≡ u.start) × (◌≡◌ {A = ℕ} (cond (nat_le u.start u.place) 1 0) 1)) ⊎
        ((u.place < u.start) × (◌≡◌ {A = ℕ} (cond (nat_le u.start u.place) 1 0) 0))
        → u.place < entries_up_to t (length t.starts - 1)
    go (inl more) either = before_level t g u (length t.starts - 1) are (omega (arith, more))
    go (inr one) (inl h) = absurd (omega (arith, one, deep, level, h.1))
    go (inr one) (inr h) = first one h.0

    before : u.place < entries_up_to t (length t.starts - 1)
    before = go (cases_lt 1 (length t.starts)) (level_cases u.start u.place u.low)

-- ---- the level that is answered

under : (t : Trail) (goal : Option Lit) (g : Lit) → goal ≡ Some g → IsOfGoal t goal → 0 < length t.starts → IsUnder t g
under t goal g is kept deep = subst (λ (o : Option Lit). IfSome o (IsUnder t)) is (kept deep)

goal_stands : (t : Trail) (g : Lit) (var : ℕ) (u : IsUnder t g) → var ≡ var_of g → StandsAt t var u.place
goal_stands t g var u is = subst (λ (v : ℕ). StandsAt t v u.place) ((other_parts g).var ∙ sym is)
    (stands t u.place (negation g) u.is_there)

-- the goal's variable has a value where something is assumed
pub goal_given : (t : Trail) (goal : Option Lit) (g : Lit) (var : ℕ) → goal ≡ Some g → IsOfGoal t goal
    → 0 < length t.starts → var ≡ var_of g → IsFree t var → ⊥
goal_given t goal g var is kept deep of free =
    let u = under t goal g is kept deep in
    not_free (lits_of t) u.place (negation g) u.is_there (subst (λ (v : ℕ). IsFree t v) (of ∙ sym (other_parts g).var) free)

-- an answer is the level at which a variable stands
abbrev pub IsLevelOf : Trail → ℕ → ℕ → Type 0
IsLevelOf t var level = (place : ℕ) → StandsAt t var place → level ≡ level_at t place

pub bound_of_level : (t : Trail) (goal : Option Lit) (g : Lit) (var level : ℕ) → goal ≡ Some g → IsOfGoal t goal
    → 0 < length t.starts → var ≡ var_of g
    → IsLevelOf t var level → level ≤ length t.starts
bound_of_level t goal g var level is kept deep of told =
    let u = under t goal g is kept deep in
    omega (arith, told u.place (goal_stands t g var u of), level_within t u.place)

pub last_of_level : (t : Trail) (goal : Option Lit) (g : Lit) (var level : ℕ) → goal ≡ Some g → IsOfGoal t goal
    → 0 < length t.starts → var ≡ var_of g
    → IsLevelOf t var level → AreEntries t → length t.starts ≤ level → IsFinal t goal
last_of_level t goal g var level is kept deep of told are top =
    let u = under t goal g is kept deep in
    subst (λ (o : Option Lit). IsFinal t o) (sym is)
    (level_final t g u are (omega (arith, told u.place (goal_stands t g var u of), top)))

pub below_of_level : (t : Trail) (goal : Option Lit) (g : Lit) (var level : ℕ) → goal ≡ Some g → IsOfGoal t goal
    → 0 < length t.starts → var ≡ var_of g
    → IsLevelOf t var level → AreEntries t → level < length t.starts → IsGoalBelow t goal
below_of_level t goal g var level is kept deep of told are less =
    let u = under t goal g is kept deep in
    subst (λ (o : Option Lit). IsGoalBelow t o) (sym is)
    (level_below t g u are (omega (arith, told u.place (goal_stands t g var u of), less)))

-- ---- states

pub goal_propagated : (old new : State) (goal : Option Lit) → IsExtended old new → IsOfGoal old.trail goal
    → IsOfGoal new.trail goal
goal_propagated old new goal e kept = goal_extended old.trail new.trail goal e.added e.starts e.entries kept

-- back at a level, with a literal that is implied there
pub goal_learned : (old new : State) (goal : Option Lit) → AreEntries old.trail → HasLearned old new
    → IsOfGoal old.trail goal → IsOfGoal new.trail goal
goal_learned old new goal are h kept =
    subst (λ (t : Trail). IsOfGoal t goal) (sym h.trail)
    (goal_implied (undone old.trail h.back) goal h.first (length old.steps) (goal_undone old.trail goal h.back are kept))

pub goal_back : (old new : State) (goal : Option Lit) (level : ℕ) → AreEntries old.trail → HasTrail old new
    (undone old.trail level) → IsOfGoal old.trail goal
    → IsOfGoal new.trail goal
goal_back old new goal level are h kept = subst (λ (t : Trail). IsOfGoal t goal) (sym h.trail)
    (goal_undone old.trail goal level are kept)

-- there are at most as many entries as variables
pub few_in_state : (s : State) (t : Trail) → t ≡ s.trail → AreEntries t → IsState s → length s.trail.entries ≤ vars_of s
few_in_state s t is are state =
    let few : length s.trail.entries ≤ s.trail.vars = subst (λ (u : Trail). length u.entries ≤ u.vars) is (few_entries t are) in
    omega (arith, few, state.trail_vars)
