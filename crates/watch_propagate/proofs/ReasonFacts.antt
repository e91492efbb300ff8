-- What keeps the reasons of entries.
use Rattle.std.proofs.Common.{◌≡◌, ◌⊎◌, ◌<◌, ◌≤◌, ◌∙◌, ℕ, zero, suc, List, [], ◌∷◌, ◌++◌, Some, None, Contains, length, map, option_map, take, slice_get, refl, sym, ap, subst, inl, inr, arith}
use Rattle.std.proofs.lemmas.Bool.{cases_eq, cases_lt, eq-eqb, ne_eqb}
use Rattle.std.proofs.lemmas.List.{take-map, take-take, take_at}
use Rattle.std.proofs.lemmas.Option.{same_Some, slice_get-map, slice_get_within}
use Rattle.currency_base.specs.Literals.{var_of}
use Rattle.currency_base.specs.declared.lit.Lit.{Lit}
use Rattle.clause_arena.specs.Arenas.{Arena}
use Rattle.search_trail.specs.Trails.{AreEntries, Entry, IsReason, Trail, assumed, entries_up_to, implied, lits_of, rebased, undone, with_reason}
use Rattle.watch_propagate.specs.WatchRule.{AreReasons, HasAdded, HasReason, IsImplied, IsRewatched, Implies, lits_before}
use Rattle.watch_propagate.proofs.KeptLists.{contains_at, get_front, get_left, get_push, get_take, stands_at}
use Rattle.watch_propagate.proofs.SameFacts.{has_reason_rewatched, lits_before_more}

-- an entry that is implied has its reason
reason_of_implied : (a : Arena) (entries : List Entry) (place : ℕ) (e : Entry) (clause : ℕ) → e.reason ≡ Some clause
    → IsImplied a entries place e
    → HasReason a (lits_before entries place) e.lit clause
reason_of_implied a entries place e clause by i =
    subst (HasReason a (lits_before entries place) e.lit) (same_Some i.clause clause (sym i.is_reason ∙ by)) i.by_clause

-- one entry more, which has its reason
reasons_push : (a : Arena) (entries : List Entry) (last : Entry) → AreReasons a entries
    → ((clause : ℕ) → last.reason ≡ Some clause → HasReason a (map (λ (e : Entry). e.lit) entries) last.lit clause)
    → AreReasons a (entries ++ last ∷ [])
reasons_push a entries last are its place e clause is by = go (get_push entries last place e is)
  where
    before : place ≤ length entries → HasReason a (lits_before entries place) e.lit clause → HasReason a
        (lits_before (entries ++ last ∷ []) place) e.lit clause
    before h r = subst (λ (ls : List Lit). HasReason a ls e.lit clause) (sym (lits_before_more entries (last ∷ []) place h)) r

    go : (slice_get entries place ≡ Some e) ⊎ ((place ≡ length entries) × (last ≡ e)) → HasReason a
        (lits_before (entries ++ last ∷ []) place) e.lit clause
    go (inl there) = before (omega (arith, slice_get_within entries place e there)) (are place e clause there by)
    go (inr h) =
        let all : lits_before (entries ++ last ∷ []) place ≡ map (λ (d : Entry). d.lit) entries =
        ap (map (λ (d : Entry). d.lit)) (take_at entries (last ∷ []) place (sym h.0)) in
        let r : HasReason a (map (λ (d : Entry). d.lit) entries) e.lit clause =
        subst (λ (d : Entry). HasReason a (map (λ (d : Entry). d.lit) entries) d.lit clause) h.1
        (its clause (ap (λ (d : Entry). d.reason) h.1 ∙ by)) in
        subst (λ (ls : List Lit). HasReason a ls e.lit clause) (sym all) r

pub reasons_assumed : (a : Arena) (t : Trail) (lit : Lit) → AreReasons a t.entries → AreReasons a (assumed t lit).entries
reasons_assumed a t lit are = reasons_push a t.entries (record { lit = lit; reason = None }) are
    (λ clause by. let no : ⊥ = cc in absurd no)

pub reasons_implied : (a : Arena) (t : Trail) (lit : Lit) (clause : ℕ) → HasReason a (lits_of t) lit clause
    → AreReasons a t.entries
    → AreReasons a (implied t lit clause).entries
reasons_implied a t lit clause r are =
    reasons_push a t.entries (record { lit = lit; reason = Some clause }) are
    (λ other by. subst (HasReason a (lits_of t) lit) (same_Some clause other by) r)

-- a front of the entries
pub reasons_front : (a : Arena) (entries : List Entry) (n : ℕ) → AreReasons a entries → AreReasons a (take n entries)
reasons_front a entries n are place e clause is by =
    let there = get_take n entries place e is in
    let same : lits_before (take n entries) place ≡ lits_before entries place =
    ap (map (λ (d : Entry). d.lit)) (take-take place n entries (omega (arith, there.0))) in
    subst (λ (ls : List Lit). HasReason a ls e.lit clause) (sym same) (are place e clause there.1 by)

pub reasons_undone : (a : Arena) (t : Trail) (level : ℕ) → AreReasons a t.entries → AreReasons a (undone t level).entries
reasons_undone a t level are = reasons_front a t.entries (entries_up_to t level) are

-- ---- another reason for a variable

-- the literals stay
lit_stays : (var clause : ℕ) (e : Entry) → (with_reason var clause e).lit ≡ e.lit
lit_stays var clause e = go (cases_eq (var_of e.lit) var)
  where
    go : (var_of e.lit ≡ var) ⊎ (var_of e.lit ≡ var → ⊥) → (with_reason var clause e).lit ≡ e.lit
    go (inl same) = rw (eq-eqb (var_of e.lit) var same) refl
    go (inr other) = rw (ne_eqb (var_of e.lit) var other) refl

pub lits_rebased : (var clause : ℕ) (entries : List Entry) → map (λ (e : Entry). e.lit) (map (with_reason var clause) entries) ≡
    map (λ (e : Entry). e.lit) entries
lits_rebased var clause [] = refl
lits_rebased var clause (e ∷ es) =
    ap (λ (l : Lit). l ∷ map (λ (d : Entry). d.lit) (map (with_reason var clause) es)) (lit_stays var clause e)
    ∙ ap (λ (ls : List Lit). e.lit ∷ ls) (lits_rebased var clause es)

-- the entry at a place is the one that stood there, with the reason if it is of the variable
entry_rebased : (var clause : ℕ) (entries : List Entry) (place : ℕ) (e : Entry)
    → slice_get (map (with_reason var clause) entries) place ≡ Some e
    → (d : Entry) × (slice_get entries place ≡ Some d) × (with_reason var clause d ≡ e)
entry_rebased var clause [] place e is = absurd (cc)
entry_rebased var clause (x ∷ xs) zero e is = (x, refl, same_Some (with_reason var clause x) e is)
entry_rebased var clause (x ∷ xs) (suc place) e is = entry_rebased var clause xs place e is

-- two literals of a trail that are of one variable are one
one_of_var : (t : Trail) → AreEntries t → (place : ℕ) (d : Entry) (lit : Lit) → slice_get t.entries place ≡ Some d
    → Contains (lits_of t) lit → var_of d.lit ≡ var_of lit → d.lit ≡ lit
one_of_var t are place d lit at c same =
    let there = stands_at (lits_of t) lit c in
    let other = entry_of_lit t.entries there.0 lit there.1 in
    let vars = map (λ (e : Entry). var_of e.lit) t.entries in
    let one : slice_get vars place ≡ Some (var_of lit) =
    slice_get-map (λ (e : Entry). var_of e.lit) t.entries place
    ∙ ap (option_map (λ (e : Entry). var_of e.lit)) at ∙ ap (λ (v : ℕ). Some v) same in
    let two : slice_get vars there.0 ≡ Some (var_of lit) =
    slice_get-map (λ (e : Entry). var_of e.lit) t.entries there.0
    ∙ ap (option_map (λ (e : Entry). var_of e.lit)) other.1 ∙ ap (λ (l : Lit). Some (var_of l)) other.2 in
    let places : place ≡ there.0 = are.once place there.0 (var_of lit) one two in
    let entries : d ≡ other.0 = same_Some d other.0 (sym at ∙ ap (slice_get t.entries) places ∙ other.1) in
    ap (λ (e : Entry). e.lit) entries ∙ other.2
  where
    entry_of_lit : (entries : List Entry) (k : ℕ) (l : Lit) → slice_get (map (λ (e : Entry). e.lit) entries) k ≡ Some l
        → (e : Entry) × (slice_get entries k ≡ Some e) × (e.lit ≡ l)
    entry_of_lit [] k l is = absurd (cc)
    entry_of_lit (x ∷ xs) zero l is = (x, refl, same_Some x.lit l is)
    entry_of_lit (x ∷ xs) (suc k) l is = entry_of_lit xs k l is

-- a clause of one literal, which is true, may be its reason
pub reasons_rebased : (a : Arena) (t : Trail) (lit : Lit) (clause : ℕ) → AreEntries t → Contains (lits_of t) lit
    → slice_get a.clauses clause ≡ Some (lit ∷ []) → AreReasons a t.entries
    → AreReasons a (rebased t (var_of lit) clause).entries
reasons_rebased a t lit clause are holds alone reasons place e number is by =
    go (cases_eq (var_of was.0.lit) (var_of lit))
  where
    was : (d : Entry) × (slice_get t.entries place ≡ Some d) × (with_reason (var_of lit) clause d ≡ e)
    was = entry_rebased (var_of lit) clause t.entries place e is

    before : lits_before (map (with_reason (var_of lit) clause) t.entries) place ≡ lits_before t.entries place
    before =
        ap (map (λ (d : Entry). d.lit)) (take-map (with_reason (var_of lit) clause) place t.entries)
        ∙ lits_rebased (var_of lit) clause (take place t.entries)

    others : (earlier : List Lit) → IsReason (lit ∷ []) earlier lit
    others earlier = record {
      is_in = contains_at (lit ∷ []) 0 lit refl;
      others = λ other c d. absurd (d (one other (stands_at (lit ∷ []) other c)));
    }
      where
        one : (other : Lit) → (k : ℕ) × (slice_get (lit ∷ []) k ≡ Some other) → other ≡ lit
        one other (zero, at) = sym (same_Some lit other at)
        one other (suc k, at) = let no : ⊥ = cc in absurd no

    go : (var_of was.0.lit ≡ var_of lit) ⊎ (var_of was.0.lit ≡ var_of lit → ⊥) → HasReason a
        (lits_before (map (with_reason (var_of lit) clause) t.entries) place) e.lit number
    go (inl same) =
        let now : with_reason (var_of lit) clause was.0 ≡ record { lit = was.0.lit; reason = Some clause } =
        rw (eq-eqb (var_of was.0.lit) (var_of lit) same) refl in
        let entry : e ≡ record { lit = was.0.lit; reason = Some clause } = sym was.2 ∙ now in
        let its : e.lit ≡ lit = ap (λ (d : Entry). d.lit) entry ∙ one_of_var t are place was.0 lit was.1 holds same in
        let numbers : clause ≡ number = same_Some clause number (sym (ap (λ (d : Entry). d.reason) entry) ∙ by) in
        subst (HasReason a (lits_before (map (with_reason (var_of lit) clause) t.entries) place) e.lit) numbers
        (subst (λ (l : Lit). HasReason a (lits_before (map (with_reason (var_of lit) clause) t.entries) place) l clause) (sym its)
        (record {
          lits = lit ∷ [];
          is_clause = alone;
          is_reason = others (lits_before
              (map (with_reason (var_of lit) clause) t.entries) place);
        }))
    go (inr other) =
        let now : with_reason (var_of lit) clause was.0 ≡ was.0 = rw (ne_eqb (var_of was.0.lit) (var_of lit) other) refl in
        let entry : e ≡ was.0 = sym was.2 ∙ now in
        subst (λ (ls : List Lit). HasReason a ls e.lit number) (sym before)
        (reasons place e number (was.1 ∙ ap (λ (d : Entry). Some d) (sym entry)) by)

-- where each clause of the one arena is that of its number in the other
pub reasons_by : (old new : Arena) (entries : List Entry) →
    ((clause : ℕ) (lits : List Lit) → slice_get old.clauses clause ≡ Some lits → slice_get new.clauses clause ≡ Some lits)
    → AreReasons old entries → AreReasons new entries
reasons_by old new entries keeps are place e clause is by =
    let r = are place e clause is by in
    record { lits = r.lits; is_clause = keeps clause r.lits r.is_clause; is_reason = r.is_reason }

pub reasons_added : (old new : Arena) (lits : List Lit) (entries : List Entry) → HasAdded old new lits
    → AreReasons old entries → AreReasons new entries
reasons_added old new lits entries added =
    reasons_by old new entries
    (λ clause ls is. ap (λ (cs : List (List Lit)). slice_get cs clause) added.clauses ∙ get_left old.clauses
    (lits ∷ []) clause ls is)

pub reasons_dropped : (old new : Arena) (entries : List Entry) → new.clauses ≡ old.clauses → AreReasons old entries
    → AreReasons new entries
reasons_dropped old new entries same =
    reasons_by old new entries (λ clause ls is. ap (λ (cs : List (List Lit)). slice_get cs clause) same ∙ is)

pub reasons_rewatched : (old new : Arena) (entries : List Entry) → IsRewatched old new → AreReasons old entries
    → AreReasons new entries
reasons_rewatched old new entries re are place e clause is by =
    has_reason_rewatched old new (lits_before entries place) e.lit clause re (are place e clause is by)

pub reasons_propagated : (old new : Arena) (was is : Trail) → IsRewatched old new → Implies new was is
    → AreReasons old was.entries → AreReasons new is.entries
reasons_propagated old new was is re i are place e clause at by = go (cases_lt place (length was.entries))
  where
    go : (place < length was.entries) ⊎ (length was.entries ≤ place) → HasReason new (lits_before is.entries place) e.lit clause
    go (inl below) =
        let there : slice_get was.entries place ≡ Some e =
        get_front was.entries i.added place e below (ap (λ (es : List Entry). slice_get es place) (sym i.entries) ∙ at) in
        let same : lits_before is.entries place ≡ lits_before was.entries place =
        ap (λ (es : List Entry). lits_before es place) i.entries ∙ lits_before_more was.entries i.added place
        (omega (arith, below)) in
        subst (λ (ls : List Lit). HasReason new ls e.lit clause) (sym same)
        (reasons_rewatched old new was.entries re are place e clause there by)
    go (inr above) = reason_of_implied new is.entries place e clause by (i.implied place e above at)
