-- The clause of a label names only answers that are kept, and is the same in a trimmed log, but for their places.
use Rattle.std.proofs.Common.{◌≡◌, ◌==◌, ◌&&◌, ◌∙◌, ℕ, suc, Bool, true, false, cond, List, [], ◌∷◌, All, Contains, Option, Some, None, length, map, option_map, slice_get, refl, sym, ap, ap₂, subst}
use Rattle.std.proofs.lemmas.List.Elements.{All-cons, All-head, All-nil, All-tail}
use Rattle.std.proofs.lemmas.Option.{same_Some, none-some}
use Rattle.currency_base.specs.declared.ids.EntId.{EntId}
use Rattle.currency_base.specs.declared.value.Value.{Value}
use Rattle.match_premises.specs.Premises.{comparisons_are, tuple_from}
use Rattle.match_premises.specs.declared.premise.Premise.{Premise}
use Rattle.query_model.specs.declared.query.Disjunct.{Disjunct}
use Rattle.query_model.specs.declared.query.Query.{Query}
use Rattle.refutation_log.specs.declared.statement.Statement.{Statement}
use Rattle.refutation_log.specs.declared.statement.Statement.TheVariants.{Before, Top, Last, Answer}
use Rattle.refutation_log.specs.declared.step.Label.{Label}
use Rattle.refutation_log.specs.declared.step.Label.TheVariants as label
use Rattle.spec_model.specs.Spec.{Spec}
use Rattle.spec_model.specs.declared.relation.Relation.{Relation}
use Rattle.log_axioms.specs.Axioms.{answer, axiom_of, claimed_clause, match_clause, not_last, of_disjunct, of_query}
use Rattle.log_axioms.specs.Matches.{answer_place, first_place, is_tuple, match_claims}
use Rattle.log_axioms.specs.declared.signed.Signed.{Signed}
use Rattle.log_trim.specs.Trimmed.{kept_of, rank}
use Rattle.axiom_laws.proofs.Chosen.{first_in, given_if}
use Rattle.axiom_laws.proofs.MatchClauses.{claimed, claimed_parts}
use Rattle.checked_logs.specs.Trimmed.{renumbered_signed}
use Rattle.checked_logs.proofs.PlainClauses.{IsPlain, plain_label, plain_map}

-- ---- the first place of a tuple

-- among the answers that are kept it is the rank of the first place among all, if this is kept
first_kept : (keep : ℕ → Bool) (xs : List (List Value)) (tuple : List Value) (place : ℕ) → first_place xs tuple ≡
    Some place → keep place ≡ true
    → first_place (kept_of keep xs) tuple ≡ Some (rank keep place)
first_kept keep [] tuple place e kept = absurd (none-some place e)
first_kept keep (x ∷ xs) tuple place e kept = by (is_tuple x tuple) refl e (λ k. first_kept (λ n. keep (suc n)) xs tuple k)
  where
    Goal : ℕ → Type 0
    Goal n = first_place (kept_of keep (x ∷ xs)) tuple ≡ Some (rank keep n)

    Rest : Type 0
    Rest = (k : ℕ) → first_place xs tuple ≡ Some k → keep (suc k) ≡ true
        → first_place (kept_of (λ n. keep (suc n)) xs) tuple ≡ Some (rank (λ n. keep (suc n)) k)

    behind : (b : Bool) → keep 0 ≡ b → is_tuple x tuple ≡ false → (k : ℕ)
        → first_place (kept_of (λ n. keep (suc n)) xs) tuple ≡ Some (rank (λ n. keep (suc n)) k) → Goal (suc k)
    behind true first other k rest = rw (first, other) (ap (option_map suc) rest)
    behind false first other k rest = rw first rest

    later : is_tuple x tuple ≡ false → (o : Option ℕ) → first_place xs tuple ≡ o → option_map suc o ≡ Some place
        → Rest → Goal place
    later other None is e on = absurd (none-some place e)
    later other (Some k) is e on =
        let at : suc k ≡ place = same_Some (suc k) place e in
        subst Goal at (behind (keep 0) refl other k (on k is (ap keep at ∙ kept)))

    by : (t : Bool) → is_tuple x tuple ≡ t → cond t (Some 0) (option_map suc (first_place xs tuple)) ≡ Some place
        → Rest → Goal place
    by true is e on =
        let at : 0 ≡ place = same_Some 0 place e in
        let first : keep 0 ≡ true = ap keep at ∙ kept in
        let new : Goal 0 = rw (first, is) refl in
        subst Goal at new
    by false is e on = later is (first_place xs tuple) refl e on

place_kept : (keep : ℕ → Bool) (answers : List (List Value)) (values : List Value) (head : List ℕ) (place : ℕ)
    → answer_place answers values head ≡ Some place → keep place ≡ true → answer_place (kept_of keep answers) values
    head ≡ Some (rank keep place)
place_kept keep answers values head place e kept = by (tuple_from values (Some []) head) refl e
  where
    by : (o : Option (List Value)) → tuple_from values (Some []) head ≡ o → answer_place answers values head ≡ Some place
        → answer_place (kept_of keep answers) values head ≡ Some (rank keep place)
    by None is e = let none : None ≡ Some place = rw is at e in absurd (none-some place none)
    by (Some tuple) is e =
        let here : first_place answers tuple ≡ Some place = rw is at e in
        rw is (first_kept keep answers tuple place here kept)

-- ---- clauses

-- an answer that is named is kept
abbrev pub KeepsNames : (ℕ → Bool) → Signed → Type 0
KeepsNames keep s = by s.statement
  where
    by : Statement → Type 0
    by (Answer tuple) = keep tuple ≡ true
    by t = Unit {0}

plain_keeps : (keep : ℕ → Bool) (s : Signed) → IsPlain s → KeepsNames keep s
plain_keeps keep s plain = by s.statement s.negative plain
  where
    by : (a : Statement) (n : Bool) → IsPlain (record { statement = a; negative = n }) → KeepsNames keep
        (record { statement = a; negative = n })
    by (Before rel attr earlier later) n plain = tt
    by (Top rel attr row) n plain = tt
    by (Last rel attr row) n plain = tt
    by (Answer tuple) n plain = absurd plain

plain_same : (keep : ℕ → Bool) (s : Signed) → IsPlain s → renumbered_signed keep s ≡ s
plain_same keep s plain = by s.statement s.negative plain
  where
    by : (a : Statement) (n : Bool) → IsPlain (record { statement = a; negative = n })
        → renumbered_signed keep (record { statement = a; negative = n }) ≡ record { statement = a; negative = n }
    by (Before rel attr earlier later) n plain = refl
    by (Top rel attr row) n plain = refl
    by (Last rel attr row) n plain = refl
    by (Answer tuple) n plain = absurd plain

all_keep : (keep : ℕ → Bool) (clause : List Signed) → All IsPlain clause → All (KeepsNames keep) clause
all_keep keep [] plain = All-nil (KeepsNames keep)
all_keep keep (s ∷ clause) plain =
    All-cons (KeepsNames keep) s clause (plain_keeps keep s (All-head IsPlain s clause plain))
    (all_keep keep clause (All-tail IsPlain s clause plain))

all_same : (keep : ℕ → Bool) (clause : List Signed) → All IsPlain clause → map (renumbered_signed keep) clause ≡ clause
all_same keep [] plain = refl
all_same keep (s ∷ clause) plain =
    ap₂ (λ x xs. x ∷ xs) (plain_same keep s (All-head IsPlain s clause plain))
    (all_same keep clause (All-tail IsPlain s clause plain))

-- of a clause the answers that are named are kept, and these are the new clause, but for their places
pub record StandsStill (keep : ℕ → Bool) (clause : List Signed) (new : Option (List Signed)) : Type 0 where
  pub kept : All (KeepsNames keep) clause
  pub same : new ≡ Some (map (renumbered_signed keep) clause)

of_plain : (keep : ℕ → Bool) (clause : List Signed) (new : Option (List Signed)) → All IsPlain clause
    → new ≡ Some clause → StandsStill keep clause new
of_plain keep clause new plain e = record {
  kept = all_keep keep clause plain;
  same = e
      ∙ ap Some (sym (all_same keep clause plain));
}

module _ (keep : ℕ → Bool) (relations : List Relation) (answers : List (List Value)) (entities : List EntId)
    (values : List Value) (clause : List Signed)
    (named : (k : ℕ) → Contains clause (answer k) → keep k ≡ true) where
  match_still : (d : Disjunct) → match_clause relations answers entities values d ≡ Some clause
      → StandsStill keep clause (match_clause relations (kept_of keep answers) entities values d)
  match_still d e =
      let fits = (length values == d.vars) && (length entities == length d.atoms) && comparisons_are values d.tests in
      let claims = match_claims relations values d.atoms entities in
      let chosen = given_if fits (claimed_clause (answer_place answers values d.head) claims) clause e in
      let parts = claimed_parts (answer_place answers values d.head) claims clause chosen.1 in
      let place = parts.0 in
      let premises = parts.1 in
      let kept : keep place ≡ true =
      named place (subst (λ (xs : List Signed). Contains xs (answer place)) parts.4
      (first_in (answer place) (map (λ p. not_last p.rel p.attr p.row) premises))) in
      let plain = plain_map (λ (p : Premise). not_last p.rel p.attr p.row) (λ p. tt) premises in
      let front : match_clause relations (kept_of keep answers) entities values d ≡ claimed_clause
      (answer_place (kept_of keep answers) values d.head) claims =
      ap (λ (b : Bool). cond b (claimed_clause (answer_place (kept_of keep answers) values d.head) claims) None) chosen.0 in
      let new : claimed_clause (answer_place (kept_of keep answers) values d.head) claims ≡ Some
      (claimed (rank keep place) premises) =
      ap₂ claimed_clause (place_kept keep answers values d.head place parts.2 kept) parts.3 in
      let same : map (renumbered_signed keep) (claimed place premises) ≡ claimed (rank keep place) premises =
      ap (λ (xs : List Signed). answer (rank keep place) ∷ xs)
      (all_same keep (map (λ p. not_last p.rel p.attr p.row) premises) plain) in
      subst (λ (xs : List Signed). StandsStill keep xs (match_clause relations (kept_of keep answers) entities values d)) parts.4
      (record {
        kept = All-cons (KeepsNames keep) (answer place) (map (λ p. not_last p.rel p.attr p.row) premises) kept
            (all_keep keep (map (λ p. not_last p.rel p.attr p.row) premises) plain);
        same = front ∙ (new ∙ ap Some (sym same));
      })

  disjunct_still : (o : Option Disjunct) → of_disjunct relations answers entities values o ≡ Some clause
      → StandsStill keep clause (of_disjunct relations (kept_of keep answers) entities values o)
  disjunct_still None e = absurd (none-some clause e)
  disjunct_still (Some d) e = match_still d e

  query_still : (disjunct : ℕ) (o : Option Query) → of_query relations answers disjunct entities values o ≡ Some clause
      → StandsStill keep clause (of_query relations (kept_of keep answers) disjunct entities values o)
  query_still disjunct None e = absurd (none-some clause e)
  query_still disjunct (Some q) e = disjunct_still (slice_get q.disjuncts disjunct) e

-- where the answers that the clause of a label names are kept, it stands still
pub label_still : (keep : ℕ → Bool) (s : Spec) (query : Option Query) (answers : List (List Value)) (l : Label)
    (clause : List Signed)
    → axiom_of s (record { query = query; answers = answers }) l ≡ Some clause →
    ((k : ℕ) → Contains clause (answer k) → keep k ≡ true)
    → StandsStill keep clause (axiom_of s (record { query = query; answers = kept_of keep answers }) l)
label_still keep s query answers (label.Match disjunct entities values) clause e named =
    query_still keep s.relations answers entities values clause named disjunct query e
label_still keep s query answers (label.Given rel attr earlier later) clause e named =
    of_plain keep clause (axiom_of s (record { query = query; answers = kept_of keep answers })
    (label.Given rel attr earlier later))
    (plain_label s (record { query = query; answers = answers }) (label.Given rel attr earlier later) clause tt e) e
label_still keep s query answers (label.Transitive rel attr first second third) clause e named =
    of_plain keep clause (axiom_of s (record { query = query; answers = kept_of keep answers })
    (label.Transitive rel attr first second third))
    (plain_label s (record { query = query; answers = answers }) (label.Transitive rel attr first second third) clause tt e) e
label_still keep s query answers (label.Rule rule rows) clause e named =
    of_plain keep clause (axiom_of s (record { query = query; answers = kept_of keep answers }) (label.Rule rule rows))
    (plain_label s (record { query = query; answers = answers }) (label.Rule rule rows) clause tt e) e
label_still keep s query answers (label.Copy copy place first second) clause e named =
    of_plain keep clause (axiom_of s (record { query = query; answers = kept_of keep answers })
    (label.Copy copy place first second))
    (plain_label s (record { query = query; answers = answers }) (label.Copy copy place first second) clause tt e) e
label_still keep s query answers (label.Above rel attr row other) clause e named =
    of_plain keep clause (axiom_of s (record { query = query; answers = kept_of keep answers }) (label.Above rel attr row other))
    (plain_label s (record { query = query; answers = answers }) (label.Above rel attr row other) clause tt e) e
label_still keep s query answers (label.Top rel attr row) clause e named =
    of_plain keep clause (axiom_of s (record { query = query; answers = kept_of keep answers }) (label.Top rel attr row))
    (plain_label s (record { query = query; answers = answers }) (label.Top rel attr row) clause tt e) e
label_still keep s query answers (label.Last rel attr row) clause e named =
    of_plain keep clause (axiom_of s (record { query = query; answers = kept_of keep answers }) (label.Last rel attr row))
    (plain_label s (record { query = query; answers = answers }) (label.Last rel attr row) clause tt e) e
label_still keep s query answers (label.Value rel attr row) clause e named =
    of_plain keep clause (axiom_of s (record { query = query; answers = kept_of keep answers }) (label.Value rel attr row))
    (plain_label s (record { query = query; answers = answers }) (label.Value rel attr row) clause tt e) e
