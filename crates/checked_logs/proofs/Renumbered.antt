-- Literals of a trimmed log say what they said before, so an axiom is still one.
use Rattle.std.proofs.Common.{◌≡◌, inl, inr, ◌∙◌, ◌==◌, ◌&&◌, ◌<◌, ℕ, Bool, true, false, List, [], ◌∷◌, length, map, get_or, Option, Some, None, option_map, slice_get, sym, refl, ap, subst, arith, All, Contains}
use Rattle.std.specs.List.{list_all, list_any}
use Rattle.std.proofs.lemmas.Bool.{and_parts, eq-eqb, eqb-true, false≢true}
use Rattle.std.proofs.lemmas.List.Elements.{All-head, All-tail, All-contains, Contains-get_or}
use Rattle.std.proofs.lemmas.List.Folds.{list_all-map}
use Rattle.std.proofs.lemmas.List.Sums.{AllPass-from_list_all}
use Rattle.std.proofs.lemmas.Option.{none-some, same_Some, slice_get_cases}
use Rattle.currency_base.specs.Literals.{var_of, is_negative}
use Rattle.currency_base.specs.declared.lit.Lit.{Lit}
use Rattle.currency_base.specs.declared.value.Value.{Value}
use Rattle.query_model.specs.declared.query.Query.{Query}
use Rattle.spec_model.specs.Spec.{Spec}
use Rattle.spec_model.specs.declared.relation.Relation.{Relation}
use Rattle.refutation_log.specs.declared.log.Log.{Log}
use Rattle.refutation_log.specs.declared.statement.Statement.{Statement}
use Rattle.refutation_log.specs.declared.statement.Statement.TheVariants.{Before, Top, Last, Answer}
use Rattle.refutation_log.specs.declared.step.Label.{Label}
use Rattle.log_axioms.specs.Axioms.{answer, axiom_of, same_sign, says_same, is_said, lit_says, is_clause, is_axiom}
use Rattle.log_axioms.specs.Posed.{posed_by}
use Rattle.log_axioms.specs.Truth.{meaning}
use Rattle.log_axioms.specs.declared.signed.Signed.{Signed}
use Rattle.log_trim.specs.Trimmed.{AreInPlace, IsTrimmed, IsUsedVar, lits_at, rank, renumbered_lit, renumbered_statement}
use Rattle.log_trim.specs.declared.trimming.Trimmed.{Trimmed}
use Rattle.log_trim.proofs.NewPlaces.{rank_same, statements_keep}
use Rattle.log_trim.proofs.RenumberedLits.{literal_var, literal_negative}
use Rattle.axiom_laws.proofs.Sound.{found}
use Rattle.checked_logs.specs.Trimmed.{renumbered_signed}
use Rattle.checked_logs.proofs.FirstKept.{KeepsNames, label_still}

-- ---- tests on lists

same_all : {X : Type 0} (p q : X → Bool) (xs : List X) → All (λ x. p x ≡ q x) xs → list_all p xs ≡ list_all q xs
same_all p q [] same = refl
same_all p q (x ∷ xs) same =
    let first : p x ≡ q x = All-head (λ y. p y ≡ q y) x xs same in
    let rest = same_all p q xs (All-tail (λ y. p y ≡ q y) x xs same) in
    rw (first, rest) refl

same_any : {X Y : Type 0} (p : Y → Bool) (q : X → Bool) (f : X → Y) (xs : List X) → All (λ x. p (f x) ≡ q x) xs
    → list_any p (map f xs) ≡ list_any q xs
same_any p q f [] same = refl
same_any p q f (x ∷ xs) same =
    let first : p (f x) ≡ q x = All-head (λ y. p (f y) ≡ q y) x xs same in
    let rest = same_any p q f xs (All-tail (λ y. p (f y) ≡ q y) x xs same) in
    rw (first, rest) refl

-- ---- what a literal says

abbrev says : Statement → Bool → Signed
says statement negative = record { statement = statement; negative = negative }

meaning_is : (statements : List Statement) (lit : Lit) (var : ℕ) (negative : Bool) (s : Statement) → var_of lit ≡ var
    → is_negative lit ≡ negative → slice_get statements var ≡ Some s → meaning statements lit ≡ Some (says s negative)
meaning_is statements lit var negative s of_var sign there =
    let at : slice_get statements (var_of lit) ≡ Some s = ap (slice_get statements) of_var ∙ there in
    ap (λ (o : Option Statement). option_map (λ (t : Statement). says t (is_negative lit)) o) at
    ∙ ap (λ (n : Bool). Some (says s n)) sign

-- a variable that is used has a statement
used_within : (log : Log) (goals : List ℕ) (var : ℕ) → AreInPlace log goals → IsUsedVar log.steps goals var
    → var < length log.statements
used_within log goals var in_place used =
    let below : var_of used.lit < length log.statements =
    All-contains (λ lit. var_of lit < length log.statements) (lits_at log.steps used.place) used.lit
    (in_place.vars_in used.place) used.is_in in
    let same : var_of used.lit ≡ var = used.is_var in
    rw same at below

pub meaning_keeps : (log : Log) (goals : List ℕ) (trimmed : Trimmed) → AreInPlace log goals → (t : IsTrimmed log goals trimmed)
    → (lit : Lit) → IsUsedVar log.steps goals (var_of lit)
    → meaning trimmed.log.statements (renumbered_lit t.statement_kept lit)
    ≡ option_map (renumbered_signed t.answer_kept) (meaning log.statements lit)
meaning_keeps log goals trimmed in_place t lit used =
    let var = var_of lit in
    elim ((slice_get_cases log.statements var).1) [
      | inl one ↦
          let s = one.0 in
          let new = rank t.statement_kept var in
          let at : slice_get trimmed.log.statements new ≡ Some (renumbered_statement t.answer_kept s) =
          statements_keep log goals trimmed t var s used one.2 in
          let before : meaning log.statements lit ≡ Some (says s (is_negative lit)) =
          meaning_is log.statements lit var (is_negative lit) s refl refl one.2 in
          let after =
          meaning_is trimmed.log.statements (renumbered_lit t.statement_kept lit) new (is_negative lit)
          (renumbered_statement t.answer_kept s) (literal_var new (is_negative lit))
          (literal_negative new (is_negative lit)) at in
          after ∙ sym (ap (λ (o : Option Signed). option_map (renumbered_signed t.answer_kept) o) before)
      | inr past ↦ absurd (let within = used_within log goals var in_place used in let h = past.0 in omega arith)
    ]

-- ---- literals

-- an answer that is named by two that are kept has one new place in both
same_rank : (keep : ℕ → Bool) (a b : ℕ) → keep a ≡ true → keep b ≡ true → (rank keep a == rank keep b) ≡ (a == b)
same_rank keep a b kept kept' = by (a == b) refl (rank keep a == rank keep b) refl
  where
    by : (x : Bool) → (a == b) ≡ x → (y : Bool) → (rank keep a == rank keep b) ≡ y → (rank keep a == rank keep b) ≡ (a == b)
    by true e y f = eq-eqb (rank keep a) (rank keep b) (ap (rank keep) (eqb-true a b e)) ∙ sym e
    by false e false f = f ∙ sym e
    by false e true f =
        let same : a ≡ b = rank_same keep a b kept kept' (eqb-true (rank keep a) (rank keep b) f) in
        absurd (false≢true (sym e ∙ eq-eqb a b same))

-- two statements that name kept answers say the same after as before
says_still : (keep : ℕ → Bool) (relations : List Relation) (m s : Signed) → KeepsNames keep m → KeepsNames keep s
    → says_same relations (renumbered_signed keep m) (renumbered_signed keep s) ≡ says_same relations m s
says_still keep relations m s kept kept' = by m.statement s.statement m.negative s.negative kept kept'
  where
    by : (a b : Statement) (p q : Bool) → KeepsNames keep (says a p) → KeepsNames keep (says b q)
        → says_same relations (renumbered_signed keep (says a p)) (renumbered_signed keep (says b q)) ≡ says_same
        relations (says a p) (says b q)
    by (Answer a) (Answer b) p q kept kept' = ap (λ (t : Bool). t && same_sign p q) (same_rank keep a b kept kept')
    by (Answer a) (Before rel attr x y) p q kept kept' = refl
    by (Answer a) (Top rel attr x) p q kept kept' = refl
    by (Answer a) (Last rel attr x) p q kept kept' = refl
    by (Before rel attr x y) (Before rel' attr' x' y') p q kept kept' = refl
    by (Before rel attr x y) (Top rel' attr' x') p q kept kept' = refl
    by (Before rel attr x y) (Last rel' attr' x') p q kept kept' = refl
    by (Before rel attr x y) (Answer b) p q kept kept' = refl
    by (Top rel attr x) (Before rel' attr' x' y') p q kept kept' = refl
    by (Top rel attr x) (Top rel' attr' x') p q kept kept' = refl
    by (Top rel attr x) (Last rel' attr' x') p q kept kept' = refl
    by (Top rel attr x) (Answer b) p q kept kept' = refl
    by (Last rel attr x) (Before rel' attr' x' y') p q kept kept' = refl
    by (Last rel attr x) (Top rel' attr' x') p q kept kept' = refl
    by (Last rel attr x) (Last rel' attr' x') p q kept kept' = refl
    by (Last rel attr x) (Answer b) p q kept kept' = refl

said_still : (keep : ℕ → Bool) (relations : List Relation) (s : Signed) (o : Option Signed) →
    ((m : Signed) → o ≡ Some m → KeepsNames keep m)
    → KeepsNames keep s → is_said relations (renumbered_signed keep s) (option_map (renumbered_signed keep) o) ≡
    is_said relations s o
said_still keep relations s None kept kept' = refl
said_still keep relations s (Some m) kept kept' = says_still keep relations m s (kept m refl) kept'

-- ---- clauses

-- each of the literals says of each of the clause the same before and after
abbrev SayTheSame : List Relation → List Statement → List Statement → (Lit → Lit) → (Signed → Signed) → List Lit
    → List Signed → Type 0
SayTheSame relations before after new put lits clause =
    All (λ lit. All (λ s. lit_says relations after (put s) (new lit) ≡ lit_says relations before s lit) clause) lits

clause_keeps : (relations : List Relation) (before after : List Statement) (new : Lit → Lit) (put : Signed → Signed)
    (lits : List Lit)
    (clause : List Signed) → SayTheSame relations before after new put lits clause
    → is_clause relations after (map new lits) (map put clause) ≡ is_clause relations before lits clause
clause_keeps relations before after new put lits clause same =
    let each_lit : list_all (λ lit. list_any (λ s. lit_says relations after s lit) (map put clause)) (map new lits)
    ≡ list_all (λ lit. list_any (λ s. lit_says relations before s lit) clause) lits =
    list_all-map (λ lit. list_any (λ s. lit_says relations after s lit) (map put clause)) new lits
    ∙ same_all (λ lit. list_any (λ s. lit_says relations after s (new lit)) (map put clause))
    (λ lit. list_any (λ s. lit_says relations before s lit) clause) lits
    (λ k d below. same_any (λ s. lit_says relations after s (new (get_or lits k d)))
    (λ s. lit_says relations before s (get_or lits k d)) put clause
    (same k d below)) in
    let each_sign : list_all (λ s. list_any (lit_says relations after s) (map new lits)) (map put clause)
    ≡ list_all (λ s. list_any (lit_says relations before s) lits) clause =
    list_all-map (λ s. list_any (lit_says relations after s) (map new lits)) put clause
    ∙ same_all (λ s. list_any (lit_says relations after (put s)) (map new lits))
    (λ s. list_any (lit_says relations before s) lits) clause
    (λ k d below. same_any (lit_says relations after (put (get_or clause k d)))
    (lit_says relations before (get_or clause k d)) new lits
    (λ place one within. same place one within k d below)) in
    rw (each_lit, each_sign) refl

-- ---- axioms

-- what says the same as that a tuple is an answer names it
says_answer : (relations : List Relation) (m : Signed) (k : ℕ) → says_same relations m (answer k) ≡ true → m.statement ≡ Answer k
says_answer relations m k e = by m.statement m.negative e
  where
    by : (a : Statement) (n : Bool) → says_same relations (says a n) (answer k) ≡ true → a ≡ Answer k
    by (Before rel attr x y) n e = absurd (false≢true e)
    by (Top rel attr x) n e = absurd (false≢true e)
    by (Last rel attr x) n e = absurd (false≢true e)
    by (Answer j) n e = ap Answer (eqb-true j k (and_parts (j == k) (same_sign n false) e).0)

lit_names : (relations : List Relation) (statements : List Statement) (lit : Lit) (k : ℕ) → lit_says relations
    statements (answer k) lit ≡ true
    → slice_get statements (var_of lit) ≡ Some (Answer k)
lit_names relations statements lit k e = by (slice_get statements (var_of lit)) refl e
  where
    by : (o : Option Statement) → slice_get statements (var_of lit) ≡ o → lit_says relations statements (answer k) lit ≡ true
        → slice_get statements (var_of lit) ≡ Some (Answer k)
    by None at e = let none : false ≡ true = rw at at e in absurd (false≢true none)
    by (Some a) at e =
        let here : says_same relations (says a (is_negative lit)) (answer k) ≡ true = rw at at e in
        at ∙ ap Some (says_answer relations (says a (is_negative lit)) k here)

module _ (s : Spec) (query : Option Query) (log : Log) (goals : List ℕ) (trimmed : Trimmed) (in_place : AreInPlace log goals)
    (t : IsTrimmed log goals trimmed) (lits : List Lit) (kept : (lit : Lit) → Contains lits lit → t.statement_kept
    (var_of lit) ≡ true) where
  abbrev new : Lit → Lit
  new = renumbered_lit t.statement_kept

  -- an answer that a literal names is kept
  named : (lit : Lit) (k : ℕ) → Contains lits lit → slice_get log.statements (var_of lit) ≡ Some (Answer k)
      → t.answer_kept k ≡ true
  named lit k is_in names = (t.kept_answers k).1
      (record { var = var_of lit; used = (t.kept_statements (var_of lit)).0 (kept lit is_in); names = names })

  meaning_kept : (lit : Lit) → Contains lits lit → (m : Signed) → meaning log.statements lit ≡ Some m → KeepsNames t.answer_kept m
  meaning_kept lit is_in m e = by (slice_get log.statements (var_of lit)) refl e
    where
      names : (a : Statement) (n : Bool) → slice_get log.statements (var_of lit) ≡ Some a → KeepsNames t.answer_kept (says a n)
      names (Before rel attr x y) n at = tt
      names (Top rel attr x) n at = tt
      names (Last rel attr x) n at = tt
      names (Answer k) n at = named lit k is_in at

      by : (o : Option Statement) → slice_get log.statements (var_of lit) ≡ o → meaning log.statements lit ≡ Some m
          → KeepsNames t.answer_kept m
      by None at e = let none : None ≡ Some m = rw at at e in absurd (none-some m none)
      by (Some a) at e =
          let here : Some (says a (is_negative lit)) ≡ Some m = rw at at e in
          subst (KeepsNames t.answer_kept) (same_Some (says a (is_negative lit)) m here) (names a (is_negative lit) at)

  lit_still : (lit : Lit) → Contains lits lit → (said : Signed) → KeepsNames t.answer_kept said
      → lit_says s.relations trimmed.log.statements (renumbered_signed t.answer_kept said) (new lit) ≡ lit_says
      s.relations log.statements said lit
  lit_still lit is_in said names =
      ap (λ (o : Option Signed). is_said s.relations (renumbered_signed t.answer_kept said) o)
      (meaning_keeps log goals trimmed in_place t lit ((t.kept_statements (var_of lit)).0 (kept lit is_in)))
      ∙ said_still t.answer_kept s.relations said (meaning log.statements lit) (meaning_kept lit is_in) names

  abbrev says_it : Signed → Bool
  says_it said = list_any (lit_says s.relations log.statements said) lits

  -- an answer that the clause names is kept, since a literal names it
  clause_named : (clause : List Signed) → is_clause s.relations log.statements lits clause ≡ true → (k : ℕ)
      → Contains clause (answer k)
      → t.answer_kept k ≡ true
  clause_named clause e k is_in =
      let each_is_said = list_all (λ lit. list_any (λ one. lit_says s.relations log.statements one lit) clause) lits in
      let parts = and_parts each_is_said (list_all says_it clause) e in
      let lit = found (lit_says s.relations log.statements (answer k)) lits
      (All-contains (λ one. says_it one ≡ true) clause (answer k) (AllPass-from_list_all says_it clause parts.1) is_in) in
      named lit.0 k lit.1 (lit_names s.relations log.statements lit.0 k lit.2)

  pub axiom_stays : (l : Label) → is_axiom s (posed_by query log) log.statements l lits ≡ true
      → is_axiom s (posed_by query trimmed.log) trimmed.log.statements l (map (renumbered_lit t.statement_kept) lits) ≡ true
  axiom_stays l e = by (axiom_of s (posed_by query log) l) refl e
    where
      put : Signed → Signed
      put = renumbered_signed t.answer_kept

      by : (o : Option (List Signed)) → axiom_of s (posed_by query log) l ≡ o → is_axiom s (posed_by query log)
          log.statements l lits ≡ true
          → is_axiom s (posed_by query trimmed.log) trimmed.log.statements l (map (renumbered_lit t.statement_kept) lits) ≡ true
      by None is e = let none : false ≡ true = rw is at e in absurd (false≢true none)
      by (Some clause) is e =
          let here : is_clause s.relations log.statements lits clause ≡ true = rw is at e in
          let still = label_still t.answer_kept s query log.answers l clause is (clause_named clause here) in
          let same : axiom_of s (posed_by query trimmed.log) l ≡ Some (map put clause) =
          ap (λ (answers : List (List Value)). axiom_of s (record { query = query; answers = answers }) l) t.answers
          ∙ still.same in
          rw same
          (clause_keeps s.relations log.statements trimmed.log.statements (renumbered_lit t.statement_kept) put lits clause
          (λ k d below i one within. lit_still (get_or lits k d) (Contains-get_or lits k d below)
          (get_or clause i one) (still.kept i one within)) ∙ here)
