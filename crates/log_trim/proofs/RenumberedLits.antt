-- Renumbering keeps literals apart, and a clause that follows still does.
use Rattle.std.proofs.Common.{◌≡◌, ◌≢◌, inl, inr, ◌∙◌, ℕ, ◌+◌, ◌*◌, ◌%◌, Bool, true, false, not, List, [], ◌∷◌, ◌++◌, map, sym, refl, ap, subst, arith, eq-eqb, Contains}
use Rattle.std.proofs.lemmas.Bool.{cases_Bool}
use Rattle.std.proofs.lemmas.Bool.Decides.{eqb_tells}
use Rattle.std.proofs.lemmas.List.{map_push}
use Rattle.std.proofs.lemmas.List.Elements.{Contains-push_cases, Contains-append_left}
use Rattle.currency_base.specs.Literals.{var_of, is_negative, literal, negation}
use Rattle.currency_base.specs.declared.lit.Lit.{Lit}
use Rattle.refutation_log.specs.Follows.{AreFalse, IsOnlyOpen, Falsifies, Follows}
use Rattle.log_trim.specs.Trimmed.{rank, renumbered_lit}
use Rattle.log_trim.proofs.Marking.{contains_first, contains_later}
use Rattle.log_trim.proofs.NewPlaces.{rank_same}
use Rattle.log_trim.proofs.Whole.{contains_map, contains_mapped}

-- ---- literals

same_lit : (a b : Lit) → a.0 ≡ b.0 → a ≡ b
same_lit a b same = let make : ℕ → Lit = λ (n : ℕ). record { 0 = n } in ap make same

parts : (lit : Lit) → literal (var_of lit) (is_negative lit) ≡ lit
parts lit =
    elim (eqb_tells (lit.0 % 2) 1) [
      | inl h ↦ rw h.0 (same_lit _ lit (let odd = h.1 in omega arith))
      | inr h ↦ rw h.0 (same_lit _ lit (let even : lit.0 % 2 ≡ 1 → ⊥ = h.1 in omega arith))
    ]

pub literal_var : (var : ℕ) (negative : Bool) → var_of (literal var negative) ≡ var
literal_var var true = omega arith
literal_var var false = omega arith

pub literal_negative : (var : ℕ) (negative : Bool) → is_negative (literal var negative) ≡ negative
literal_negative var true = eq-eqb ((2 * var + 1) % 2) 1 (omega arith)
literal_negative var false =
    elim (eqb_tells ((2 * var) % 2) 1) [ inl h ↦ absurd (let odd = h.1 in omega arith) | inr h ↦ h.0 ]

negation_is : (lit : Lit) → negation lit ≡ literal (var_of lit) (not (is_negative lit))
negation_is lit = elim (cases_Bool (is_negative lit)) [ inl e ↦ rw e refl | inr e ↦ rw e refl ]

negation_var : (lit : Lit) → var_of (negation lit) ≡ var_of lit
negation_var lit = ap (λ (l : Lit). var_of l) (negation_is lit) ∙ literal_var (var_of lit) (not (is_negative lit))

negation_negative : (lit : Lit) → is_negative (negation lit) ≡ not (is_negative lit)
negation_negative lit =
    ap (λ (l : Lit). is_negative l) (negation_is lit) ∙ literal_negative (var_of lit) (not (is_negative lit))

-- renumbering commutes with negation
pub renumbered_negation : (keep : ℕ → Bool) (lit : Lit)
    → renumbered_lit keep (negation lit) ≡ negation (renumbered_lit keep lit)
renumbered_negation keep lit =
    let new = renumbered_lit keep lit in
    let var : var_of new ≡ rank keep (var_of lit) = literal_var (rank keep (var_of lit)) (is_negative lit) in
    let negative : is_negative new ≡ is_negative lit = literal_negative (rank keep (var_of lit)) (is_negative lit) in
    let left : renumbered_lit keep (negation lit) ≡ literal (rank keep (var_of lit)) (not (is_negative lit)) =
    ap (λ (v : ℕ). literal (rank keep v) (is_negative (negation lit))) (negation_var lit)
    ∙ ap (λ (b : Bool). literal (rank keep (var_of lit)) b) (negation_negative lit) in
    let right : negation new ≡ literal (rank keep (var_of lit)) (not (is_negative lit)) =
    negation_is new ∙ ap (λ (v : ℕ). literal v (not (is_negative new))) var
    ∙ ap (λ (b : Bool). literal (rank keep (var_of lit)) (not b)) negative in
    left ∙ sym right

-- the variable of the literal is kept
abbrev pub IsKeptLit : (ℕ → Bool) → Lit → Type 0
IsKeptLit keep lit = keep (var_of lit) ≡ true

-- renumbering keeps apart literals of variables that are kept
pub renumbered_same : (keep : ℕ → Bool) (a b : Lit) → IsKeptLit keep a → IsKeptLit keep b
    → renumbered_lit keep a ≡ renumbered_lit keep b → a ≡ b
renumbered_same keep a b a_kept b_kept same =
    let ranks : rank keep (var_of a) ≡ rank keep (var_of b) =
    sym (literal_var (rank keep (var_of a)) (is_negative a)) ∙ ap (λ (l : Lit). var_of l) same
    ∙ literal_var (rank keep (var_of b)) (is_negative b) in
    let signs : is_negative a ≡ is_negative b =
    sym (literal_negative (rank keep (var_of a)) (is_negative a)) ∙ ap (λ (l : Lit). is_negative l) same
    ∙ literal_negative (rank keep (var_of b)) (is_negative b) in
    let vars : var_of a ≡ var_of b = rank_same keep (var_of a) (var_of b) a_kept b_kept ranks in
    sym (parts a) ∙ ap (λ (v : ℕ). literal v (is_negative a)) vars ∙ ap (λ (n : Bool). literal (var_of b) n) signs ∙ parts b

-- ---- clauses

abbrev pub AreKeptLits : (ℕ → Bool) → List Lit → Type 0
AreKeptLits keep lits = (lit : Lit) → Contains lits lit → IsKeptLit keep lit

pub renumbered_false : (keep : ℕ → Bool) (falses clause : List Lit) → AreFalse falses clause
    → AreFalse (map (renumbered_lit keep) falses) (map (renumbered_lit keep) clause)
renumbered_false keep falses clause are_false lit is_in =
    let one = contains_mapped (renumbered_lit keep) clause lit is_in in
    subst (λ (l : Lit). Contains (map (renumbered_lit keep) falses) l) one.2
    (contains_map (renumbered_lit keep) falses one.0 (are_false one.0 one.1))

renumbered_open : (keep : ℕ → Bool) (falses clause : List Lit) (lit : Lit) → AreKeptLits keep falses → AreKeptLits keep clause
    → IsOnlyOpen falses clause lit
    → IsOnlyOpen (map (renumbered_lit keep) falses) (map (renumbered_lit keep) clause) (renumbered_lit keep lit)
renumbered_open keep falses clause lit falses_kept clause_kept only =
    record {
      is_in = contains_map (renumbered_lit keep) clause lit only.is_in;
      is_open = λ closed.
          let one = contains_mapped (renumbered_lit keep) falses (renumbered_lit keep lit) closed in
          let same : one.0 ≡ lit = renumbered_same keep one.0 lit (falses_kept one.0 one.1)
          (clause_kept lit only.is_in) one.2 in
          only.is_open (subst (λ (l : Lit). Contains falses l) same one.1);
      others = λ other is_in differs.
          let one = contains_mapped (renumbered_lit keep) clause other is_in in
          let apart : one.0 ≢ lit = λ same. differs (sym one.2 ∙ ap (renumbered_lit keep) same) in
          subst (λ (l : Lit). Contains (map (renumbered_lit keep) falses) l) one.2
          (contains_map (renumbered_lit keep) falses one.0 (only.others one.0 one.1 apart));
    }

kept_more_lits : (keep : ℕ → Bool) (lits : List Lit) (lit : Lit) → AreKeptLits keep lits → IsKeptLit keep lit
    → AreKeptLits keep (lits ++ negation lit ∷ [])
kept_more_lits keep lits lit kept one other is_in =
    elim (Contains-push_cases lits (negation lit) other is_in) [
      | inl before ↦ kept other before
      | inr last ↦ ap (λ (l : Lit). keep (var_of l)) (sym last) ∙ ap keep (negation_var lit) ∙ one
    ]

pub renumbered_falsifies : (keep : ℕ → Bool) (falses : List Lit) (clauses : List (List Lit)) (all : List Lit)
    → AreKeptLits keep falses
    → ((clause : List Lit) → Contains clauses clause → AreKeptLits keep clause) → Falsifies falses clauses all
    → Falsifies (map (renumbered_lit keep) falses) (map (map (renumbered_lit keep)) clauses) (map (renumbered_lit keep) all)
renumbered_falsifies keep falses [] all falses_kept kept falsified = ap (map (renumbered_lit keep)) falsified
renumbered_falsifies keep falses (clause ∷ clauses) all falses_kept kept (inl now) =
    inl (
      renumbered_false keep falses clause now.0,
      renumbered_falsifies keep falses clauses all falses_kept
          (λ c is_in. kept c (contains_later clause clauses c is_in)) now.1,
    )
renumbered_falsifies keep falses (clause ∷ clauses) all falses_kept kept (inr now) =
    let lit = now.0 in
    let clause_kept = kept clause (contains_first clause clauses) in
    let new_falses = map (renumbered_lit keep) falses in
    let more : map (renumbered_lit keep) (falses ++ negation lit ∷ []) ≡ new_falses ++ negation (renumbered_lit keep lit) ∷ [] =
    map_push (renumbered_lit keep) falses (negation lit)
    ∙ ap (λ (l : Lit). map (renumbered_lit keep) falses ++ l ∷ []) (renumbered_negation keep lit) in
    let rest =
    renumbered_falsifies keep (falses ++ negation lit ∷ []) clauses all
    (kept_more_lits keep falses lit falses_kept (clause_kept lit now.1.is_in))
    (λ c is_in. kept c (contains_later clause clauses c is_in)) now.2 in
    inr (
      renumbered_lit keep lit,
      renumbered_open keep falses clause lit falses_kept clause_kept now.1,
      subst (λ (f : List Lit). Falsifies f (map (map (renumbered_lit keep)) clauses) (map (renumbered_lit keep) all)) more rest,
    )

pub renumbered_follows : (keep : ℕ → Bool) (clause : List Lit) (hints : List (List Lit)) → AreKeptLits keep clause
    → ((c : List Lit) → Contains hints c → AreKeptLits keep c) → Follows clause hints
    → Follows (map (renumbered_lit keep) clause) (map (map (renumbered_lit keep)) hints)
renumbered_follows keep clause hints clause_kept kept follows =
    record {
      front = map (map (renumbered_lit keep)) follows.front;
      last = map (renumbered_lit keep) follows.last;
      hints_are =
          ap (map (map (renumbered_lit keep))) follows.hints_are
          ∙ map_push (map (renumbered_lit keep)) follows.front follows.last;
      falses = map (renumbered_lit keep) follows.falses;
      falsified =
          renumbered_falsifies keep clause follows.front follows.falses clause_kept
          (λ c is_in. kept c (subst (λ (cs : List (List Lit)). Contains cs c) (sym follows.hints_are)
          (Contains-append_left follows.front (follows.last ∷ []) c is_in)))
          follows.falsified;
      conflict = renumbered_false keep follows.falses follows.last follows.conflict;
    }
