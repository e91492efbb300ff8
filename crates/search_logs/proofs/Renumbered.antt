-- Clauses that say something of rows say it when they are renumbered, and clauses of which each adds a literal still do.
use Rattle.std.proofs.Common.{◌≡◌, ◌∙◌, inl, inr, ◌<◌, ◌++◌, ℕ, Bool, List, [], ◌∷◌, Contains, length, map, take, refl, sym, ap, subst, arith, length-append}
use Rattle.std.proofs.lemmas.List.{get_or-take, length-map, map_push, same_from_push, take-map}
use Rattle.std.proofs.lemmas.List.Elements.{Contains-push_cases}
use Rattle.currency_base.specs.Literals.{var_of, negation}
use Rattle.currency_base.specs.declared.ids.EntId.{EntId}
use Rattle.currency_base.specs.declared.ids.RowId.{RowId}
use Rattle.currency_base.specs.declared.lit.Lit.{Lit}
use Rattle.spec_model.specs.declared.relation.Relation.{Relation}
use Rattle.lean_hints.specs.Lean.{EachAdds, IsAdding}
use Rattle.refutation_log.specs.Follows.{Falsifies, clause_at, clauses_at}
use Rattle.refutation_log.specs.Steps.{clause_of, clauses_of}
use Rattle.refutation_log.specs.declared.step.Step.{Step}
use Rattle.log_trim.specs.Trimmed.{lits_at, renumbered_lit}
use Rattle.log_trim.proofs.RenumberedLits.{AreKeptLits, IsKeptLit, renumbered_falsifies, renumbered_same}
use Rattle.order_literals.proofs.Items.{IsIn, contained, from_map, in_contained, in_map}
use Rattle.order_literals.proofs.Sayings.{negation_var}
use Rattle.search_logs.specs.Free.{AreOfRows}

-- ---- literals of rows

-- what literals say of rows, others say that are made of them
pub rows_stay : (relation : Relation) (ent : EntId) (old new : RowId → Lit → Type 0) (f : Lit → Lit) (lits : List Lit)
    → ((row : RowId) (lit : Lit) → Contains lits lit → old row lit → new row (f lit)) → AreOfRows relation ent old lits
    → AreOfRows relation ent new (map f lits)
rows_stay relation ent old new f lits stays told = record {
  each = λ lit is_in.
      let was = from_map f lits lit (in_contained (map f lits) lit is_in) in
      let there = contained lits was.0 was.1 in
      let one = told.each was.0 there in
      (one.0, one.1, subst (new one.0) was.2 (stays one.0 was.0 there one.2));
  all = λ row of_ent.
      let one = told.all row of_ent in
      let there = in_map f lits one.0 (in_contained lits one.0 one.1) in
      (f one.0, contained (map f lits) (f one.0) there, stays row one.0 one.1 one.2);
}

-- ---- clauses of which each adds a literal

module _ (keep : ℕ → Bool) where
  -- a literal that one clause adds
  record AddsOne (falses clause : List Lit) (more : List Lit) : Type 0 where
    pub lit : Lit
    pub adding : IsAdding falses clause lit
    pub are : more ≡ falses ++ negation lit ∷ []

  longer : (falses : List Lit) (lit : Lit) → map (renumbered_lit keep) falses ≡ map (renumbered_lit keep)
      (falses ++ negation lit ∷ []) → ⊥
  longer falses lit same =
      let lengths = ap (λ (lits : List Lit). length lits) same in
      let before = length-map falses (renumbered_lit keep) in
      let after = length-map (falses ++ negation lit ∷ []) (renumbered_lit keep) in
      let more = length-append falses (negation lit ∷ []) in
      omega (arith, lengths, before, after, more)

  -- one that is not there yet is not there when it is renumbered
  fresh_stays : (falses : List Lit) (lit : Lit) → AreKeptLits keep falses → IsKeptLit keep lit → (Contains falses lit → ⊥)
      → Contains (map (renumbered_lit keep) falses) (renumbered_lit keep lit) → ⊥
  fresh_stays falses lit falses_kept lit_kept fresh is_in =
      let new = renumbered_lit keep lit in
      let was = from_map (renumbered_lit keep) falses new (in_contained (map (renumbered_lit keep) falses) new is_in) in
      let there = contained falses was.0 was.1 in
      fresh (subst (λ (l : Lit). Contains falses l)
      (renumbered_same keep was.0 lit (falses_kept was.0 there) lit_kept was.2) there)

  -- the one open literal of a clause is, renumbered, that of the renumbered clause, and its negation is not there yet
  open_stays : (falses clause : List Lit) (lit : Lit) → AreKeptLits keep falses → AreKeptLits keep clause
      → IsAdding falses clause lit
      → AddsOne (map (renumbered_lit keep) falses) (map (renumbered_lit keep) clause)
      (map (renumbered_lit keep) (falses ++ negation lit ∷ []))
  open_stays falses clause lit falses_kept clause_kept adding =
      by (renumbered_falsifies keep falses (clause ∷ []) all falses_kept each (inr (lit, adding.only_open, refl)))
    where
      all : List Lit
      all = falses ++ negation lit ∷ []

      each : (c : List Lit) → Contains (clause ∷ []) c → AreKeptLits keep c
      each c is_in = elim (in_contained (clause ∷ []) c is_in) [
        | inl same ↦ subst (AreKeptLits keep) same clause_kept
        | inr none ↦ absurd none
      ]

      negation_kept : IsKeptLit keep (negation lit)
      negation_kept = ap keep (negation_var lit) ∙ clause_kept lit adding.only_open.is_in

      fresh : (new : Lit) → map (renumbered_lit keep) all ≡ map (renumbered_lit keep) falses ++ negation new ∷ []
          → Contains (map (renumbered_lit keep) falses) (negation new) → ⊥
      fresh new same is_in =
          let ends = same_from_push (map (renumbered_lit keep) falses) (map (renumbered_lit keep) falses)
          (renumbered_lit keep (negation lit)) (negation new)
          (sym (map_push (renumbered_lit keep) falses (negation lit)) ∙ same) in
          fresh_stays falses (negation lit) falses_kept negation_kept adding.fresh
          (subst (λ (l : Lit). Contains (map (renumbered_lit keep) falses) l) (sym ends.1) is_in)

      by : Falsifies (map (renumbered_lit keep) falses) (map (renumbered_lit keep) clause ∷ []) (map (renumbered_lit keep) all)
          → AddsOne (map (renumbered_lit keep) falses) (map (renumbered_lit keep) clause) (map (renumbered_lit keep) all)
      by (inl now) = absurd (longer falses lit now.1)
      by (inr now) = record {
        lit = now.0;
        adding = record { only_open = now.1; fresh = fresh now.0 (sym now.2) };
        are = sym now.2;
      }

  more_kept : (lits clause : List Lit) (lit : Lit) → AreKeptLits keep lits → AreKeptLits keep clause → Contains clause lit
      → AreKeptLits keep (lits ++ negation lit ∷ [])
  more_kept lits clause lit kept clause_kept there other is_in =
      elim (Contains-push_cases lits (negation lit) other is_in) [
        | inl before ↦ kept other before
        | inr last ↦ ap (λ (l : Lit). keep (var_of l)) (sym last) ∙ ap keep (negation_var lit) ∙ clause_kept lit there
      ]

  pub adds_stay : (falses : List Lit) (clauses : List (List Lit)) → AreKeptLits keep falses
      → ((clause : List Lit) → IsIn clauses clause → AreKeptLits keep clause) → EachAdds falses clauses
      → EachAdds (map (renumbered_lit keep) falses) (map (map (renumbered_lit keep)) clauses)
  adds_stay falses [] falses_kept kept adds = tt
  adds_stay falses (clause ∷ clauses) falses_kept kept adds =
      let lit = adds.0 in
      let clause_kept = kept clause (inl refl) in
      let now = open_stays falses clause lit falses_kept clause_kept adds.1 in
      let rest = adds_stay (falses ++ negation lit ∷ []) clauses
      (more_kept falses clause lit falses_kept clause_kept adds.1.only_open.is_in)
      (λ c is_in. kept c (inr is_in)) adds.2 in
      (now.lit, now.adding, subst (λ (f : List Lit). EachAdds f (map (map (renumbered_lit keep)) clauses)) now.are rest)

-- ---- lists that are made of others

-- a list without its last item
pub record HasFront {A B : Type 0} (f : A → B) (xs : List A) (front : List B) : Type 0 where
  pub old : List A
  pub last : A
  pub are : xs ≡ old ++ last ∷ []
  pub front_is : map f old ≡ front

pub front_of : {A B : Type 0} (f : A → B) (xs : List A) (front : List B) (last : B) → map f xs ≡ front ++ last ∷ []
    → HasFront f xs front
front_of f [] [] last same = absurd (cc)
front_of f [] (y ∷ front) last same = absurd (cc)
front_of f (x ∷ []) [] last same = record { old = []; last = x; are = refl; front_is = refl }
front_of f (x ∷ z ∷ xs) [] last same = absurd (cc)
front_of {A} {B} f (x ∷ xs) (y ∷ front) last same =
    let rest : map f xs ≡ front ++ last ∷ [] = cc in
    let first : f x ≡ y = cc in
    let more = front_of f xs front last rest in
    record {
      old = x ∷ more.old;
      last = more.last;
      are = ap (λ (zs : List A). x ∷ zs) more.are;
      front_is = ap (λ (z : B). z ∷ map f more.old) first ∙ ap (λ (zs : List B). y ∷ zs) more.front_is;
    }

-- the clause of an earlier step is that of the step
pub early_clause : (steps : List Step) (place hint : ℕ) → hint < place
    → clause_at (clauses_of (take place steps)) hint ≡ lits_at steps hint
early_clause steps place hint below =
    ap (λ (clauses : List (List Lit)). clause_at clauses hint) (sym (take-map clause_of place steps))
    ∙ get_or-take place (clauses_of steps) hint [] below

-- clauses at numbers that are made of others
pub mapped_clauses : (old new : List (List Lit)) (r : ℕ → ℕ) (f : Lit → Lit) (hints : List ℕ)
    → ((hint : ℕ) → IsIn hints hint → clause_at new (r hint) ≡ map f (clause_at old hint))
    → clauses_at new (map r hints) ≡ map (map f) (clauses_at old hints)
mapped_clauses old new r f [] same = refl
mapped_clauses old new r f (hint ∷ hints) same =
    let rest = mapped_clauses old new r f hints (λ h is_in. same h (inr is_in)) in
    ap (λ (c : List Lit). c ∷ clauses_at new (map r hints)) (same hint (inl refl))
    ∙ ap (λ (cs : List (List Lit)). map f (clause_at old hint) ∷ cs) rest
