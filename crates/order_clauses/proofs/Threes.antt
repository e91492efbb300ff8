-- The axioms on the order of three rows.
use Rattle.std.proofs.Common.{◌≡◌, ◌≢◌, ◌∙◌, ◌⊎◌, ◌<◌, ◌+◌, ℕ, Bool, true, false, not, List, [], ◌∷◌, Contains, Option, Some, None, length, slice_get, refl, sym, ap, subst, inl, inr, ⊎_elim, arith}
use Rattle.std.proofs.Common.{slice_index_or}
use Rattle.std.proofs.lemmas.Bool.{cases_order}
use Rattle.std.proofs.lemmas.List.Elements.{All-nil, All-cons, All-contains}
use Rattle.std.proofs.lemmas.Option.{same_Some, slice_get_within, slice_get-get_or}
use Rattle.currency_base.specs.Lists.{OnlyOnce}
use Rattle.currency_base.specs.declared.ids.AttrId.{AttrId}
use Rattle.currency_base.specs.declared.ids.RelId.{RelId}
use Rattle.currency_base.specs.declared.ids.RowId.{RowId}
use Rattle.currency_base.specs.declared.lit.Lit.{Lit}
use Rattle.currency_base.specs.declared.row.Row.{Row}
use Rattle.partial_orders.specs.Pairs.{entity_of}
use Rattle.spec_model.specs.declared.relation.Relation.{Relation}
use Rattle.refutation_log.specs.declared.statement.Statement.{Statement}
use Rattle.refutation_log.specs.declared.statement.Statement.TheVariants as says
use Rattle.refutation_log.specs.declared.step.Label.{Label}
use Rattle.refutation_log.specs.declared.step.Label.TheVariants as label
use Rattle.refutation_log.specs.declared.step.Step.{Step}
use Rattle.refutation_log.specs.declared.step.Step.TheVariants as step
use Rattle.order_literals.specs.Axioms.{AreTwo, IsAxiom}
use Rattle.order_literals.specs.Said.{Said, Says, turned, before, not_before}
use Rattle.order_literals.specs.Laws.{OneSaid}
use Rattle.order_clauses.specs.Added.{Adds, AreStepsOf, IsClauseOf, IsStepOf, below}
use Rattle.order_clauses.specs.Clauses.{SaysOneOf, IsSaidByOne, AreLits, IsAxiomStep, IsTransitiveStep, StandsAmong, AreTransitive}
use Rattle.order_clauses.specs.Listing.{members_of, three_label, first_labels, second_labels, third_labels, three_labels}
use Rattle.order_clauses.specs.Subject.{variables, AreThree, Attribute, IsAttribute}
use Rattle.order_clauses.proofs.LabelsAre.{same_row}
use Rattle.order_clauses.proofs.Listed.{at_of, in_below, below_in, in_none, once_both, once_none, once_one, once_below, in_one}
use Rattle.order_clauses.proofs.Members.{member_is, member_there, members_ascend, members_once}
use Rattle.order_clauses.proofs.Saying.{all_of, contains_at, in_cons, first_of, later_in}
use Rattle.order_clauses.proofs.WantedClauses.{turned_twice}
use Rattle.order_clauses.proofs.Whole.{step_at, label_at, label_of_step}

-- ---- in the code

pub two_at : (r : Relation) (ent i j : ℕ) (rows : List RowId) (a b : RowId) → rows ≡ members_of r ent → i < j
    → slice_get rows i ≡ Some a → slice_get rows j ≡ Some b → AreTwo r.rows a b
two_at r ent i j rows a b e below at_a at_b =
    let in_a = subst (λ (xs : List RowId). slice_get xs i ≡ Some a) e at_a in
    let in_b = subst (λ (xs : List RowId). slice_get xs j ≡ Some b) e at_b in
    let order = members_ascend r ent i j a b in_a in_b below in
    record {
      ent = ent;
      a_of = member_is r ent i a in_a;
      b_of = member_is r ent j b in_b;
      differ = λ q. let same : a.0 ≡ b.0 = ap (λ (row : RowId). row.0) q in absurd (omega arith);
    }

abbrev three_clause : RelId → AttrId → RowId → RowId → RowId → List Said
three_clause rel attr f s t = not_before rel attr f s ∷ not_before rel attr s t ∷ before rel attr f t ∷ []

-- the row at a place
abbrev pub row_at : List RowId → ℕ → RowId
row_at rows i = slice_index_or rows i (record { 0 = 0 })

pub row_there : (rows : List RowId) (i : ℕ) → i < length rows → slice_get rows i ≡ Some (row_at rows i)
row_there rows i within = slice_get-get_or rows i (record { 0 = 0 }) within

after : (i j k : ℕ) → i < j → j < k → i < k
after i j k ij jk = omega arith

-- rows of an entity at three places, one after another
pub three_at_places : (r : Relation) (ent : ℕ) (rows : List RowId) (i j k : ℕ) → rows ≡ members_of r ent → i < j → j < k
    → k < length rows → AreThree r.rows (row_at rows i) (row_at rows j) (row_at rows k)
three_at_places r ent rows i j k e ij jk within =
    let j_within = after j k (length rows) jk within in
    let at_i = row_there rows i (after i j (length rows) ij j_within) in
    let at_j = row_there rows j j_within in
    let at_k = row_there rows k within in
    record {
      first_two = two_at r ent i j rows (row_at rows i) (row_at rows j) e ij at_i at_j;
      last_two = two_at r ent j k rows (row_at rows j) (row_at rows k) e jk at_j at_k;
      outer_two = two_at r ent i k rows (row_at rows i) (row_at rows k) e (after i j k ij jk) at_i at_k;
    }

pub first_added : (p : Attribute) (rows : List RowId) (i j k : ℕ) (x y : List Step) → i < j → j < k → k < length rows
    → Adds p.subject (three_label p (Some (row_at rows i)) (Some (row_at rows j)) (Some (row_at rows k))) x y
    → Adds p.subject (first_labels p rows k j i) x y
unfolding first_labels
first_added p rows i j k x y ij jk within adds =
    let j_within = after j k (length rows) jk within in
    rw (row_there rows i (after i j (length rows) ij j_within), row_there rows j j_within, row_there rows k within) adds

two_back : (rows : List Row) (a b : RowId) → AreTwo rows a b → AreTwo rows b a
two_back rows a b two = record { ent = two.ent; a_of = two.b_of; b_of = two.a_of; differ = λ e. two.differ (sym e) }

-- three rows the other way round
pub three_back : (rows : List Row) (a b c : RowId) → AreThree rows a b c → AreThree rows c b a
three_back rows a b c three = record {
  first_two = two_back rows b c three.last_two;
  last_two = two_back rows a b three.first_two;
  outer_two = two_back rows a c three.outer_two;
}

-- the literals of their clause
pub three_is_clause : (p : Attribute) (f s t : RowId) (a b c : Lit) → IsAttribute p → AreThree p.relation.rows f s t
    → Says (variables p.subject) a (not_before p.rel p.attr f s) → Says (variables p.subject) b (not_before p.rel p.attr s t)
    → Says (variables p.subject) c (before p.rel p.attr f t)
    → IsClauseOf p.subject (label.Transitive p.rel p.attr f s t) (a ∷ b ∷ c ∷ [])
three_is_clause p f s t a b c is three x y z = record {
  clause = three_clause p.rel p.attr f s t;
  is_axiom = (p.relation, is.is_relation, (is.attr_within, three.first_two, three.last_two, three.outer_two, refl));
  say = (x, (y, (z, tt)));
}

-- ---- which labels are listed

in_two : (x y l : Label) → Contains (x ∷ y ∷ []) l → (l ≡ x) ⊎ (l ≡ y)
in_two x y l h = ⊎_elim (λ (e : x ≡ l). inl (sym e))
    (λ (r : Contains (y ∷ []) l). ⊎_elim (λ (e : y ≡ l). inr (sym e)) (λ (n : Contains [] l). absurd (in_none l n))
    (in_cons y [] l r))
    (in_cons x (y ∷ []) l h)

-- a label of three rows at these places
record IsThreeAt (p : Attribute) (rows : List RowId) (i j k : ℕ) (l : Label) : Type 0 where
  a : RowId
  b : RowId
  c : RowId
  at_a : slice_get rows i ≡ Some a
  at_b : slice_get rows j ≡ Some b
  at_c : slice_get rows k ≡ Some c
  is : (l ≡ label.Transitive p.rel p.attr a b c) ⊎ (l ≡ label.Transitive p.rel p.attr c b a)

three_at_of : (p : Attribute) (rows : List RowId) (i j k : ℕ) (x y z : Option RowId) (l : Label) → slice_get rows i ≡
    x → slice_get rows j ≡ y → slice_get rows k ≡ z
    → Contains (three_label p x y z) l → IsThreeAt p rows i j k l
three_at_of p rows i j k None y z l at_x at_y at_z h = absurd (in_none l h)
three_at_of p rows i j k (Some a) None z l at_x at_y at_z h = absurd (in_none l h)
three_at_of p rows i j k (Some a) (Some b) None l at_x at_y at_z h = absurd (in_none l h)
three_at_of p rows i j k (Some a) (Some b) (Some c) l at_x at_y at_z h = record {
  a = a;
  b = b;
  c = c;
  at_a = at_x;
  at_b = at_y;
  at_c = at_z;
  is = in_two (label.Transitive p.rel p.attr a b c) (label.Transitive p.rel p.attr c b a) l h;
}

three_at : (p : Attribute) (rows : List RowId) (i j k : ℕ) (l : Label) → Contains (first_labels p rows k j i) l
    → IsThreeAt p rows i j k l
unfolding first_labels
three_at p rows i j k l h = three_at_of p rows i j k (slice_get rows i) (slice_get rows j) (slice_get rows k) l refl refl refl h

-- a label of three rows
record IsThreeLabel (p : Attribute) (rows : List RowId) (l : Label) : Type 0 where
  i : ℕ
  j : ℕ
  k : ℕ
  lower : i < j
  upper : j < k
  at : IsThreeAt p rows i j k l

in_threes : (p : Attribute) (rows : List RowId) (l : Label) → Contains (three_labels p rows) l → IsThreeLabel p rows l
unfolding three_labels third_labels second_labels first_labels
in_threes p rows l h =
    let k = in_below (third_labels p rows) (length rows) l h in
    let j = in_below (second_labels p rows k.0) k.0 l k.2 in
    let i = in_below (first_labels p rows k.0 j.0) j.0 l j.2 in
    record { i = i.0; j = j.0; k = k.0; lower = i.1; upper = j.1; at = three_at p rows i.0 j.0 k.0 l i.2 }

threes_there : (p : Attribute) (rows : List RowId) (i j k : ℕ) (a b c : RowId) (l : Label) → i < j → j < k
    → slice_get rows i ≡ Some a → slice_get rows j ≡ Some b → slice_get rows k ≡ Some c
    → Contains (three_label p (Some a) (Some b) (Some c)) l → Contains (three_labels p rows) l
unfolding three_labels third_labels second_labels first_labels
threes_there p rows i j k a b c l ij jk at_a at_b at_c h =
    below_in (third_labels p rows) (length rows) k l (slice_get_within rows k c at_c)
    (below_in (second_labels p rows k) k j l jk
    (below_in (first_labels p rows k j) j i l ij (rw (at_a, at_b, at_c) h)))

-- ---- the clause of three rows that are turned round

says_turned : (statements : List Statement) (lit : Lit) (s : Said) → Says statements lit s → Says statements lit (turned s)
says_turned statements lit s (inl e) = inr (e ∙ ap Some (sym (turned_twice s)))
says_turned statements lit s (inr e) = inl e

in_three : (x y z s : Said) → Contains (x ∷ y ∷ z ∷ []) s → (x ≡ s) ⊎ ((y ≡ s) ⊎ (z ≡ s))
in_three x y z s h = ⊎_elim (λ (e : x ≡ s). inl e)
    (λ (r : Contains (y ∷ z ∷ []) s). inr (⊎_elim (λ (e : y ≡ s). inl e)
    (λ (q : Contains (z ∷ []) s). inr (⊎_elim (λ (e : z ≡ s). e) (λ (n : Contains [] s). absurd (omega (arith, n.1)))
    (in_cons z [] s q)))
    (in_cons y (z ∷ []) s r)))
    (in_cons x (y ∷ z ∷ []) s h)

rotated_lit : (statements : List Statement) (rel : RelId) (attr : AttrId) (a b c : RowId) (lit : Lit)
    → SaysOneOf statements (three_clause rel attr a b c) lit
    → SaysOneOf statements (three_clause rel attr c a b) lit
rotated_lit statements rel attr a b c lit one = go (in_three (not_before rel attr a b) (not_before rel attr b c)
    (before rel attr a c) one.said one.is_in)
  where
    go : (not_before rel attr a b ≡ one.said) ⊎
        ((not_before rel attr b c ≡ one.said) ⊎ (before rel attr a c ≡ one.said)) → SaysOneOf statements
        (three_clause rel attr c a b) lit
    go (inl e) = record {
      said = not_before rel attr a b;
      is_in = (1, omega arith, refl);
      says =
          subst (Says statements lit) (sym e) one.says;
    }
    go (inr (inl e)) = record {
      said = before rel attr c b;
      is_in = (2, omega arith, refl);
      says = says_turned statements lit (not_before rel attr b c) (subst (Says statements lit) (sym e) one.says);
    }
    go (inr (inr e)) = record {
      said = not_before rel attr c a;
      is_in = (0, omega arith, refl);
      says = says_turned statements lit (before rel attr a c) (subst (Says statements lit) (sym e) one.says);
    }

said_turned : (statements : List Statement) (lits : List Lit) (s : Said) → IsSaidByOne statements lits s
    → IsSaidByOne statements lits (turned s)
said_turned statements lits s one = record { lit = one.lit; is_in = one.is_in; says = says_turned statements one.lit s one.says }

rotated : (statements : List Statement) (rel : RelId) (attr : AttrId) (a b c : RowId) (lits : List Lit)
    → AreLits statements (three_clause rel attr a b c) lits
    → AreLits statements (three_clause rel attr c a b) lits
rotated statements rel attr a b c lits are =
    let by = IsSaidByOne statements lits in
    let one = All-contains by (three_clause rel attr a b c) (not_before rel attr a b) are.all (0, omega arith, refl) in
    let two = All-contains by (three_clause rel attr a b c) (not_before rel attr b c) are.all (1, omega arith, refl) in
    let three = All-contains by (three_clause rel attr a b c) (before rel attr a c) are.all (2, omega arith, refl) in
    record {
      each = all_of (SaysOneOf statements (three_clause rel attr c a b)) lits (λ lit h.
          rotated_lit statements rel attr a b c lit
          (All-contains (SaysOneOf statements (three_clause rel attr a b c)) lits lit are.each h));
      all = All-cons by (not_before rel attr c a) (not_before rel attr a b ∷ before rel attr c b ∷ [])
          (said_turned statements lits (before rel attr a c) three)
          (All-cons by (not_before rel attr a b) (before rel attr c b ∷ []) one
          (All-cons by (before rel attr c b) [] (said_turned statements lits (not_before rel attr b c) two) (All-nil by)));
      once = are.once;
    }

clause_of_three : (p : Attribute) (f s t : RowId) (clause : List Said) → IsAxiom p.subject.spec
    (label.Transitive p.rel p.attr f s t) clause → clause ≡ three_clause p.rel p.attr f s t
clause_of_three p f s t clause ax = ax.2.4

-- ---- each clause stands under a label

module _ (p : Attribute) (is : IsAttribute p) (ent : ℕ) (steps : List Step)
    (are : AreStepsOf p.subject (three_labels p (members_of p.relation ent)) steps) where
  stands : (f s t : RowId) (clause : List Said) → Contains (three_labels p (members_of p.relation ent))
      (label.Transitive p.rel p.attr f s t)
      → ((lits : List Lit) → AreLits (variables p.subject) (three_clause p.rel p.attr f s t) lits
      → AreLits (variables p.subject) clause lits) → StandsAmong (variables p.subject) steps clause
  stands f s t clause h gives =
      let l = label.Transitive p.rel p.attr f s t in
      let at = at_of (three_labels p (members_of p.relation ent)) l h in
      let m = label_at p.subject (three_labels p (members_of p.relation ent)) steps at.0 l are at.1 in
      let e = clause_of_three p f s t m.2.step.clause m.2.step.is_axiom in
      record {
        label = l;
        lits = m.2.lits;
        is_in = contains_at steps at.0 (step.Axiom l m.2.lits) (m.1 ∙ ap Some m.2.step.is_step);
        are_lits = gives m.2.lits (subst (λ (c : List Said). AreLits (variables p.subject) c m.2.lits) e m.2.step.are_lits);
      }

  forth : (i j k : ℕ) (a b c : RowId) → i < j → j < k → slice_get (members_of p.relation ent) i ≡ Some a
      → slice_get (members_of p.relation ent) j ≡ Some b
      → slice_get (members_of p.relation ent) k ≡ Some c → Contains (three_labels p (members_of p.relation ent))
      (label.Transitive p.rel p.attr a b c)
  forth i j k a b c ij jk at_a at_b at_c = threes_there p (members_of p.relation ent) i j k a b c
      (label.Transitive p.rel p.attr a b c) ij jk at_a at_b at_c
      (first_of (label.Transitive p.rel p.attr a b c) (label.Transitive p.rel p.attr c b a ∷ []))

  back : (i j k : ℕ) (a b c : RowId) → i < j → j < k → slice_get (members_of p.relation ent) i ≡ Some a
      → slice_get (members_of p.relation ent) j ≡ Some b
      → slice_get (members_of p.relation ent) k ≡ Some c → Contains (three_labels p (members_of p.relation ent))
      (label.Transitive p.rel p.attr c b a)
  back i j k a b c ij jk at_a at_b at_c = threes_there p (members_of p.relation ent) i j k a b c
      (label.Transitive p.rel p.attr c b a) ij jk at_a at_b at_c
      (later_in (label.Transitive p.rel p.attr a b c) (label.Transitive p.rel p.attr c b a ∷ [])
      (label.Transitive p.rel p.attr c b a) (first_of (label.Transitive p.rel p.attr c b a) []))

  turn : (a b c : RowId) (lits : List Lit) → AreLits (variables p.subject) (three_clause p.rel p.attr a b c) lits
      → AreLits (variables p.subject) (three_clause p.rel p.attr c a b) lits
  turn a b c lits = rotated (variables p.subject) p.rel p.attr a b c lits

  twice : (a b c : RowId) (lits : List Lit) → AreLits (variables p.subject) (three_clause p.rel p.attr a b c) lits
      → AreLits (variables p.subject) (three_clause p.rel p.attr b c a) lits
  twice a b c lits h = turn c a b lits (turn a b c lits h)

  among : (i j k : ℕ) (f s t : RowId) → slice_get (members_of p.relation ent) i ≡ Some f
      → slice_get (members_of p.relation ent) j ≡ Some s → slice_get (members_of p.relation ent) k ≡ Some t
      → (i ≡ j → ⊥) → (j ≡ k → ⊥) → (i ≡ k → ⊥) → StandsAmong (variables p.subject) steps (three_clause p.rel p.attr f s t)
  among i j k f s t at_f at_s at_t ij jk ik = go (cases_order i j) (cases_order j k) (cases_order i k)
    where
      clause : List Said
      clause = three_clause p.rel p.attr f s t

      go : (i ≡ j) ⊎ ((i < j) ⊎ (j < i)) → (j ≡ k) ⊎ ((j < k) ⊎ (k < j)) → (i ≡ k) ⊎ ((i < k) ⊎ (k < i))
          → StandsAmong (variables p.subject) steps (three_clause p.rel p.attr f s t)
      go (inl e) y z = absurd (ij e)
      go (inr x) (inl e) z = absurd (jk e)
      go (inr x) (inr y) (inl e) = absurd (ik e)
      go (inr (inl x)) (inr (inl y)) (inr z) = stands f s t clause (forth i j k f s t x y at_f at_s at_t) (λ lits h. h)
      go (inr (inl x)) (inr (inr y)) (inr (inl z)) = stands s t f clause (back i k j f t s z y at_f at_t at_s)
          (λ lits h. turn s t f lits h)
      go (inr (inl x)) (inr (inr y)) (inr (inr z)) = stands t f s clause (forth k i j t f s z x at_t at_f at_s)
          (λ lits h. twice t f s lits h)
      go (inr (inr x)) (inr (inl y)) (inr (inl z)) = stands t f s clause (back j i k s f t x z at_s at_f at_t)
          (λ lits h. twice t f s lits h)
      go (inr (inr x)) (inr (inl y)) (inr (inr z)) = stands s t f clause (forth j k i s t f y z at_s at_t at_f)
          (λ lits h. turn s t f lits h)
      go (inr (inr x)) (inr (inr y)) (inr z) = stands f s t clause (back k j i t s f y x at_t at_s at_f) (λ lits h. h)

-- ---- no two steps have one clause

abbrev bit : Bool → ℕ
bit true = 1
bit false = 0

-- two numbers and a sign, the same or the other way round
abbrev AreAlike : ℕ → ℕ → ℕ → ℕ → ℕ → ℕ → Type 0
AreAlike e l n e' l' n' = ((e' ≡ e) × (l' ≡ l) × (n' ≡ n)) ⊎ ((e' ≡ l) × (l' ≡ e) × (n + n' ≡ 1))

-- a member of the clause of three rows is alike
abbrev IsIn : ℕ → ℕ → ℕ → ℕ → ℕ → ℕ → Type 0
IsIn e l n f s t = AreAlike e l n f s 1 ⊎ (AreAlike e l n s t 1 ⊎ AreAlike e l n f t 0)

abbrev Alike : Said → Said → Type 0
Alike x y = (y ≡ x) ⊎ (y ≡ turned x)

bits : (b : Bool) → bit b + bit (not b) ≡ 1
bits true = refl
bits false = refl

alike_numbers : (rel : RelId) (attr : AttrId) (e l e' l' : RowId) (b b' : Bool)
    → Alike (record { statement = says.Before rel attr e l; negative = b })
    (record { statement = says.Before rel attr e' l'; negative = b' })
    → AreAlike e.0 l.0 (bit b) e'.0 l'.0 (bit b')
alike_numbers rel attr e l e' l' b b' (inl q) =
    let statements : says.Before rel attr e' l' ≡ says.Before rel attr e l = ap (λ (s : Said). s.statement) q in
    let signs : b' ≡ b = ap (λ (s : Said). s.negative) q in
    let es : e' ≡ e = cc in
    let ls : l' ≡ l = cc in
    inl (ap (λ (r : RowId). r.0) es, ap (λ (r : RowId). r.0) ls, ap bit signs)
alike_numbers rel attr e l e' l' b b' (inr q) =
    let statements : says.Before rel attr e' l' ≡ says.Before rel attr l e = ap (λ (s : Said). s.statement) q in
    let signs : b' ≡ not b = ap (λ (s : Said). s.negative) q in
    let es : e' ≡ l = cc in
    let ls : l' ≡ e = cc in
    let n : bit b' ≡ bit (not b) = ap bit signs in
    let sum = bits b in
    inr (ap (λ (r : RowId). r.0) es, ap (λ (r : RowId). r.0) ls, omega arith)

alike_after : (x y z : Said) → Alike x y → Alike y z → Alike x z
alike_after x y z (inl a) (inl b) = inl (b ∙ a)
alike_after x y z (inl a) (inr b) = inr (b ∙ ap turned a)
alike_after x y z (inr a) (inl b) = inr (b ∙ a)
alike_after x y z (inr a) (inr b) = inl (b ∙ (ap turned a ∙ turned_twice x))

-- what literals say of one clause, they say of the other
one_alike : OneSaid → (statements : List Statement) (clause other : List Said) (lits : List Lit) (x : Said)
    → AreLits statements clause lits → AreLits statements other lits → Contains clause x
    → (y : Said) × Contains other y × Alike x y
one_alike one_said statements clause other lits x are are' h =
    let by = All-contains (IsSaidByOne statements lits) clause x are.all h in
    let one = All-contains (SaysOneOf statements other) lits by.lit are'.each by.is_in in
    (one.said, one.is_in, one_said statements by.lit x one.said by.says one.says)

is_in : (rel : RelId) (attr : AttrId) (e l f s t : RowId) (b : Bool) (z : Said) → Contains (three_clause rel attr f s t) z
    → Alike (record { statement = says.Before rel attr e l; negative = b }) z → IsIn e.0 l.0 (bit b) f.0 s.0 t.0
is_in rel attr e l f s t b z h a = go (in_three (not_before rel attr f s) (not_before rel attr s t) (before rel attr f t) z h)
  where
    x : Said
    x = record { statement = says.Before rel attr e l; negative = b }

    go : (not_before rel attr f s ≡ z) ⊎ ((not_before rel attr s t ≡ z) ⊎ (before rel attr f t ≡ z)) → IsIn e.0 l.0
        (bit b) f.0 s.0 t.0
    go (inl q) = inl (alike_numbers rel attr e l f s b true (subst (Alike x) (sym q) a))
    go (inr (inl q)) = inr (inl (alike_numbers rel attr e l s t b true (subst (Alike x) (sym q) a)))
    go (inr (inr q)) = inr (inr (alike_numbers rel attr e l f t b false (subst (Alike x) (sym q) a)))

abbrev Monotone : ℕ → ℕ → ℕ → Type 0
Monotone f s t = ((f < s) × (s < t)) ⊎ ((t < s) × (s < f))

-- by the last members the first and last rows are the same, if both go one way
ends_up : (f s t f' s' t' : ℕ) → f < s → s < t → f' < s' → s' < t' → IsIn f t 0 f' s' t' → (f' ≡ f) × (t' ≡ t)
ends_up f s t f' s' t' a b a' b' (inl (inl h)) = absurd (omega arith)
ends_up f s t f' s' t' a b a' b' (inl (inr h)) = absurd (omega arith)
ends_up f s t f' s' t' a b a' b' (inr (inl (inl h))) = absurd (omega arith)
ends_up f s t f' s' t' a b a' b' (inr (inl (inr h))) = absurd (omega arith)
ends_up f s t f' s' t' a b a' b' (inr (inr (inl h))) = (h.0, h.1)
ends_up f s t f' s' t' a b a' b' (inr (inr (inr h))) = absurd (omega arith)

ends_down : (f s t f' s' t' : ℕ) → t < s → s < f → t' < s' → s' < f' → IsIn f t 0 f' s' t' → (f' ≡ f) × (t' ≡ t)
ends_down f s t f' s' t' a b a' b' (inl (inl h)) = absurd (omega arith)
ends_down f s t f' s' t' a b a' b' (inl (inr h)) = absurd (omega arith)
ends_down f s t f' s' t' a b a' b' (inr (inl (inl h))) = absurd (omega arith)
ends_down f s t f' s' t' a b a' b' (inr (inl (inr h))) = absurd (omega arith)
ends_down f s t f' s' t' a b a' b' (inr (inr (inl h))) = (h.0, h.1)
ends_down f s t f' s' t' a b a' b' (inr (inr (inr h))) = absurd (omega arith)

-- and then the middle ones are
middle_up : (f s t f' s' t' : ℕ) → f < s → s < t → f' < s' → s' < t' → f' ≡ f → t' ≡ t → IsIn f s 1 f' s' t' → s' ≡ s
middle_up f s t f' s' t' a b a' b' e e' (inl (inl h)) = h.1
middle_up f s t f' s' t' a b a' b' e e' (inl (inr h)) = absurd (omega arith)
middle_up f s t f' s' t' a b a' b' e e' (inr (inl (inl h))) = absurd (omega arith)
middle_up f s t f' s' t' a b a' b' e e' (inr (inl (inr h))) = absurd (omega arith)
middle_up f s t f' s' t' a b a' b' e e' (inr (inr (inl h))) = absurd (omega arith)
middle_up f s t f' s' t' a b a' b' e e' (inr (inr (inr h))) = absurd (omega arith)

middle_down : (f s t f' s' t' : ℕ) → t < s → s < f → t' < s' → s' < f' → f' ≡ f → t' ≡ t → IsIn f s 1 f' s' t' → s' ≡ s
middle_down f s t f' s' t' a b a' b' e e' (inl (inl h)) = h.1
middle_down f s t f' s' t' a b a' b' e e' (inl (inr h)) = absurd (omega arith)
middle_down f s t f' s' t' a b a' b' e e' (inr (inl (inl h))) = absurd (omega arith)
middle_down f s t f' s' t' a b a' b' e e' (inr (inl (inr h))) = absurd (omega arith)
middle_down f s t f' s' t' a b a' b' e e' (inr (inr (inl h))) = absurd (omega arith)
middle_down f s t f' s' t' a b a' b' e e' (inr (inr (inr h))) = absurd (omega arith)

-- a first member of one that goes up is the last of one that goes down, turned
turned_up : (f s f' s' t' : ℕ) → f < s → t' < s' → s' < f' → IsIn f s 1 f' s' t' → (f' ≡ s) × (t' ≡ f)
turned_up f s f' s' t' a a' b' (inl (inl h)) = absurd (omega arith)
turned_up f s f' s' t' a a' b' (inl (inr h)) = absurd (omega arith)
turned_up f s f' s' t' a a' b' (inr (inl (inl h))) = absurd (omega arith)
turned_up f s f' s' t' a a' b' (inr (inl (inr h))) = absurd (omega arith)
turned_up f s f' s' t' a a' b' (inr (inr (inl h))) = absurd (omega arith)
turned_up f s f' s' t' a a' b' (inr (inr (inr h))) = (h.0, h.1)

turned_down : (f s f' s' t' : ℕ) → s < f → f' < s' → s' < t' → IsIn f s 1 f' s' t' → (f' ≡ s) × (t' ≡ f)
turned_down f s f' s' t' a a' b' (inl (inl h)) = absurd (omega arith)
turned_down f s f' s' t' a a' b' (inl (inr h)) = absurd (omega arith)
turned_down f s f' s' t' a a' b' (inr (inl (inl h))) = absurd (omega arith)
turned_down f s f' s' t' a a' b' (inr (inl (inr h))) = absurd (omega arith)
turned_down f s f' s' t' a a' b' (inr (inr (inl h))) = absurd (omega arith)
turned_down f s f' s' t' a a' b' (inr (inr (inr h))) = (h.0, h.1)

same_numbers : (f s t f' s' t' : ℕ) → Monotone f s t → Monotone f' s' t' → IsIn f s 1 f' s' t' → IsIn s t 1 f' s' t'
    → IsIn f t 0 f' s' t'
    → (f' ≡ f) × (s' ≡ s) × (t' ≡ t)
same_numbers f s t f' s' t' (inl m) (inl m') one two three =
    let e = ends_up f s t f' s' t' m.0 m.1 m'.0 m'.1 three in (e.0, middle_up f s t f' s' t' m.0 m.1 m'.0 m'.1 e.0 e.1 one, e.1)
same_numbers f s t f' s' t' (inl m) (inr m') one two three =
    let e = turned_up f s f' s' t' m.0 m'.0 m'.1 one in let g = turned_up s t f' s' t' m.1 m'.0 m'.1 two in absurd
    (omega (arith, e.0, e.1, g.0, g.1))
same_numbers f s t f' s' t' (inr m) (inl m') one two three =
    let e = turned_down f s f' s' t' m.1 m'.0 m'.1 one in let g = turned_down s t f' s' t' m.0 m'.0 m'.1
    two in absurd (omega (arith, e.0, e.1, g.0, g.1))
same_numbers f s t f' s' t' (inr m) (inr m') one two three =
    let e = ends_down f s t f' s' t' m.0 m.1 m'.0 m'.1 three in (
      e.0,
      middle_down f s t f' s' t' m.0 m.1 m'.0 m'.1
          e.0 e.1 one,
      e.1,
    )

-- a label that is listed, with the order of its rows
record IsMonotone (p : Attribute) (l : Label) : Type 0 where
  f : RowId
  s : RowId
  t : RowId
  is : l ≡ label.Transitive p.rel p.attr f s t
  monotone : Monotone f.0 s.0 t.0

monotone_of : (p : Attribute) (ent : ℕ) (l : Label) → IsThreeLabel p (members_of p.relation ent) l → IsMonotone p l
monotone_of p ent l three =
    let ab = members_ascend p.relation ent three.i three.j three.at.a three.at.b three.at.at_a three.at.at_b three.lower in
    let bc = members_ascend p.relation ent three.j three.k three.at.b three.at.c three.at.at_b three.at.at_c three.upper in
    ⊎_elim
    (λ (e : l ≡ label.Transitive p.rel p.attr three.at.a three.at.b three.at.c). let r : IsMonotone p l =
    record { f = three.at.a; s = three.at.b; t = three.at.c; is = e; monotone = inl (ab, bc) } in r)
    (λ (e : l ≡ label.Transitive p.rel p.attr three.at.c three.at.b three.at.a). let r : IsMonotone p l =
    record { f = three.at.c; s = three.at.b; t = three.at.a; is = e; monotone = inr (ab, bc) } in r)
    three.at.is

module _ (one_said : OneSaid) (p : Attribute) (is : IsAttribute p) (ent : ℕ) (steps : List Step)
    (are : AreStepsOf p.subject (three_labels p (members_of p.relation ent)) steps) where
  -- the literals of a listed label are those of its rows' clause
  lits_of : (l : Label) (m : IsMonotone p l) (lits : List Lit) → IsStepOf p.subject l (step.Axiom l lits)
      → AreLits (variables p.subject) (three_clause p.rel p.attr m.f m.s m.t) lits
  lits_of l m lits of =
      let e : step.Axiom l lits ≡ step.Axiom l of.lits = of.step.is_step in
      let same : of.lits ≡ lits = cc in
      let ax = subst (λ (k : Label). IsAxiom p.subject.spec k of.step.clause) m.is of.step.is_axiom in
      let clause : of.step.clause ≡ three_clause p.rel p.attr m.f m.s m.t = clause_of_three p m.f m.s m.t of.step.clause ax in
      subst (λ (c : List Said). AreLits (variables p.subject) c lits) clause
      (subst (AreLits (variables p.subject) of.step.clause) same of.step.are_lits)

  same_label : (l k : Label) (m : IsMonotone p l) (n : IsMonotone p k) (lits other : List Lit) (clause : List Said)
      → AreLits (variables p.subject) (three_clause p.rel p.attr m.f m.s m.t) lits
      → AreLits (variables p.subject) (three_clause p.rel p.attr n.f n.s n.t) other → AreLits (variables p.subject) clause lits
      → AreLits (variables p.subject) clause other → l ≡ k
  same_label l k m n lits other clause are_l are_k are_c are_c' =
      let st = variables p.subject in
      let mine = three_clause p.rel p.attr m.f m.s m.t in
      let theirs = three_clause p.rel p.attr n.f n.s n.t in
      let in' : (e q : RowId) (b : Bool) → Contains mine
      (record { statement = says.Before p.rel p.attr e q; negative = b }) → IsIn e.0 q.0 (bit b) n.f.0 n.s.0 n.t.0
      = λ e q b h.
      let x : Said = record { statement = says.Before p.rel p.attr e q; negative = b } in
      let y = one_alike one_said st mine clause lits x are_l are_c h in
      let z = one_alike one_said st clause theirs other y.0 are_c' are_k y.1 in
      is_in p.rel p.attr e q n.f n.s n.t b z.0 z.1 (alike_after x y.0 z.0 y.2 z.2) in
      let same = same_numbers m.f.0 m.s.0 m.t.0 n.f.0 n.s.0 n.t.0 m.monotone n.monotone
      (in' m.f m.s true (0, omega arith, refl)) (in' m.s m.t true (1, omega arith, refl))
      (in' m.f m.t false (2, omega arith, refl)) in
      let fs = same_row n.f m.f same.0 in
      let ss = same_row n.s m.s same.1 in
      let ts = same_row n.t m.t same.2 in
      let labels : label.Transitive p.rel p.attr m.f m.s m.t ≡ label.Transitive p.rel p.attr n.f n.s n.t = rw (fs, ss, ts) refl in
      m.is ∙ (labels ∙ sym n.is)

-- ---- no label is listed twice

once_two : (x y : Label) → (x ≡ y → ⊥) → OnlyOnce (x ∷ y ∷ [])
once_two x y differ = once_both (x ∷ []) (y ∷ []) (once_one x) (once_one y) (λ l a b. differ (in_one x l a ∙ sym (in_one y l b)))

once_three_of : (p : Attribute) (x y z : Option RowId) → ((a c : RowId) → x ≡ Some a → z ≡ Some c → a ≡ c → ⊥)
    → OnlyOnce (three_label p x y z)
once_three_of p None y z differ = once_none
once_three_of p (Some a) None z differ = once_none
once_three_of p (Some a) (Some b) None differ = once_none
once_three_of p (Some a) (Some b) (Some c) differ = once_two (label.Transitive p.rel p.attr a b c)
    (label.Transitive p.rel p.attr c b a)
    (λ e. let same : a ≡ c = cc in differ a c refl refl same)

module _ (p : Attribute) (ent : ℕ) where
  ascend : (i j : ℕ) (a b : RowId) → slice_get (members_of p.relation ent) i ≡ Some a
      → slice_get (members_of p.relation ent) j ≡ Some b → i < j → a.0 < b.0
  ascend i j a b at_a at_b below = members_ascend p.relation ent i j a b at_a at_b below

  one_place : (i j : ℕ) (a b : RowId) → slice_get (members_of p.relation ent) i ≡ Some a
      → slice_get (members_of p.relation ent) j ≡ Some b → a ≡ b → i ≡ j
  one_place i j a b at_a at_b e = members_once p.relation ent i j b (at_a ∙ ap Some e) at_b

  same_places : (i j k i' j' k' : ℕ) (l : Label) → i < j → j < k → i' < j' → j' < k' → IsThreeAt p
      (members_of p.relation ent) i j k l
      → IsThreeAt p (members_of p.relation ent) i' j' k' l → (i ≡ i') × (j ≡ j') × (k ≡ k')
  same_places i j k i' j' k' l ij jk ij' jk' m n = go m.is n.is
    where
      ac : m.a.0 < m.c.0
      ac = let x = ascend i j m.a m.b m.at_a m.at_b ij in let y = ascend j k m.b m.c m.at_b m.at_c jk in omega arith

      ac' : n.a.0 < n.c.0
      ac' = let x = ascend i' j' n.a n.b n.at_a n.at_b ij' in let y = ascend j' k' n.b n.c n.at_b n.at_c jk' in omega arith

      places : m.a ≡ n.a → m.b ≡ n.b → m.c ≡ n.c → (i ≡ i') × (j ≡ j') × (k ≡ k')
      places a b c = (
        one_place i i' m.a n.a m.at_a n.at_a a,
        one_place j j' m.b n.b m.at_b n.at_b b,
        one_place k k' m.c n.c m.at_c n.at_c c,
      )

      crossed : m.a ≡ n.c → m.c ≡ n.a → ⊥
      crossed a c = let x : m.a.0 ≡ n.c.0 = ap (λ (r : RowId). r.0) a in let y : m.c.0 ≡ n.a.0 =
          ap (λ (r : RowId). r.0) c in let u = ac in let v = ac' in omega arith

      go : (l ≡ label.Transitive p.rel p.attr m.a m.b m.c) ⊎ (l ≡ label.Transitive p.rel p.attr m.c m.b m.a)
          → (l ≡ label.Transitive p.rel p.attr n.a n.b n.c) ⊎ (l ≡ label.Transitive p.rel p.attr n.c n.b n.a) →
          (i ≡ i') × (j ≡ j') × (k ≡ k')
      go (inl x) (inl y) = let e : label.Transitive p.rel p.attr m.a m.b m.c ≡ label.Transitive p.rel p.attr n.a n.b
          n.c = sym x ∙ y in
          let a : m.a ≡ n.a = cc in let b : m.b ≡ n.b = cc in let c : m.c ≡ n.c = cc in places a b c
      go (inl x) (inr y) = let e : label.Transitive p.rel p.attr m.a m.b m.c ≡ label.Transitive p.rel p.attr n.c n.b
          n.a = sym x ∙ y in
          let a : m.a ≡ n.c = cc in let c : m.c ≡ n.a = cc in absurd (crossed a c)
      go (inr x) (inl y) = let e : label.Transitive p.rel p.attr m.c m.b m.a ≡ label.Transitive p.rel p.attr n.a n.b
          n.c = sym x ∙ y in
          let c : m.c ≡ n.a = cc in let a : m.a ≡ n.c = cc in absurd (crossed a c)
      go (inr x) (inr y) = let e : label.Transitive p.rel p.attr m.c m.b m.a ≡ label.Transitive p.rel p.attr n.c n.b
          n.a = sym x ∙ y in
          let a : m.a ≡ n.a = cc in let b : m.b ≡ n.b = cc in let c : m.c ≡ n.c = cc in places a b c

  once_first : (i j k : ℕ) → i < j → j < k → OnlyOnce (first_labels p (members_of p.relation ent) k j i)
  unfolding first_labels
  once_first i j k ij jk = once_three_of p (slice_get (members_of p.relation ent) i)
      (slice_get (members_of p.relation ent) j) (slice_get (members_of p.relation ent) k)
      (λ a c at_a at_c e. let below = ascend i k a c at_a at_c (omega arith) in let same : a.0 ≡ c.0 =
      ap (λ (r : RowId). r.0) e in omega arith)

  once_second : (j k : ℕ) → j < k → OnlyOnce (second_labels p (members_of p.relation ent) k j)
  unfolding second_labels
  once_second j k jk = once_below (first_labels p (members_of p.relation ent) k j) j (λ i ij. once_first i j k ij jk)
      (λ i i' l ij ij' x y. (same_places i j k i' j k l ij jk ij' jk
      (three_at p (members_of p.relation ent) i j k l x) (three_at p (members_of p.relation ent) i' j k l y)).0)

  once_third : (k : ℕ) → OnlyOnce (third_labels p (members_of p.relation ent) k)
  unfolding third_labels second_labels
  once_third k = once_below (second_labels p (members_of p.relation ent) k) k (λ j jk. once_second j k jk)
      (λ j j' l jk jk' x y.
      let m = in_below (first_labels p (members_of p.relation ent) k j) j l x in
      let n = in_below (first_labels p (members_of p.relation ent) k j') j' l y in
      (same_places m.0 j k n.0 j' k l m.1 jk n.1 jk' (three_at p (members_of p.relation ent) m.0 j k l m.2)
      (three_at p (members_of p.relation ent) n.0 j' k l n.2)).1)

  once_threes : OnlyOnce (three_labels p (members_of p.relation ent))
  unfolding three_labels third_labels second_labels
  once_threes = once_below (third_labels p (members_of p.relation ent)) (length (members_of p.relation ent))
      (λ k within. once_third k)
      (λ k k' l within within' x y.
      let m = in_below (second_labels p (members_of p.relation ent) k) k l x in
      let n = in_below (second_labels p (members_of p.relation ent) k') k' l y in
      let m' = in_below (first_labels p (members_of p.relation ent) k m.0) m.0 l m.2 in
      let n' = in_below (first_labels p (members_of p.relation ent) k' n.0) n.0 l n.2 in
      (same_places m'.0 m.0 k n'.0 n.0 k' l m'.1 m.1 n'.1 n.1 (three_at p (members_of p.relation ent) m'.0 m.0 k l m'.2)
      (three_at p (members_of p.relation ent) n'.0 n.0 k' l n'.2)).2)

-- ---- all together

module _ (one_said : OneSaid) (p : Attribute) (is : IsAttribute p) (ent : ℕ) (steps : List Step)
    (are : AreStepsOf p.subject (three_labels p (members_of p.relation ent)) steps) where
  one_step : (t : Step) → Contains steps t → IsTransitiveStep p.subject.spec (variables p.subject) p.rel p.attr ent t
  one_step t h =
      let at = at_of steps t h in
      let m = step_at p.subject (three_labels p (members_of p.relation ent)) steps at.0 t are at.1 in
      let three = in_threes p (members_of p.relation ent) m.0
      (contains_at (three_labels p (members_of p.relation ent)) at.0 m.0 m.1) in
      ⊎_elim
      (λ (e : m.0 ≡ label.Transitive p.rel p.attr three.at.a three.at.b three.at.c).
      let r : IsTransitiveStep p.subject.spec (variables p.subject) p.rel p.attr ent t = record {
        first = three.at.a;
        second = three.at.b;
        third = three.at.c;
        lits = m.2.lits;
        step = subst (λ (l : Label). IsAxiomStep p.subject.spec (variables p.subject) l m.2.lits t) e m.2.step;
        relation = p.relation;
        is_relation = is.is_relation;
        of_entity = member_is p.relation ent three.i three.at.a three.at.at_a;
      } in r)
      (λ (e : m.0 ≡ label.Transitive p.rel p.attr three.at.c three.at.b three.at.a).
      let r : IsTransitiveStep p.subject.spec (variables p.subject) p.rel p.attr ent t = record {
        first = three.at.c;
        second = three.at.b;
        third = three.at.a;
        lits = m.2.lits;
        step = subst (λ (l : Label). IsAxiomStep p.subject.spec (variables p.subject) l m.2.lits t) e m.2.step;
        relation = p.relation;
        is_relation = is.is_relation;
        of_entity = member_is p.relation ent three.k three.at.c three.at.at_c;
      } in r)
      three.at.is

  other_place : (i j : ℕ) (a b : RowId) → slice_get (members_of p.relation ent) i ≡ Some a
      → slice_get (members_of p.relation ent) j ≡ Some b → a ≢ b → i ≡ j → ⊥
  other_place i j a b at_a at_b differ e =
      differ (same_Some a b (sym at_a ∙ (ap (slice_get (members_of p.relation ent)) e ∙ at_b)))

  one_clause : (r : Relation) → slice_get p.subject.spec.relations p.rel.0 ≡ Some r → (f s t : RowId)
      → entity_of r.rows f.0 ≡ Some ent
      → (clause : List Said) → IsAxiom p.subject.spec (label.Transitive p.rel p.attr f s t) clause → StandsAmong
      (variables p.subject) steps clause
  one_clause r at f s t of clause ax =
      let own : r ≡ p.relation = same_Some r p.relation (sym at ∙ is.is_relation) in
      let theirs : ax.0 ≡ p.relation = same_Some ax.0 p.relation (sym ax.1 ∙ is.is_relation) in
      let fs : AreTwo p.relation.rows f s = subst (λ (q : Relation). AreTwo q.rows f s) theirs ax.2.1 in
      let st : AreTwo p.relation.rows s t = subst (λ (q : Relation). AreTwo q.rows s t) theirs ax.2.2 in
      let ft : AreTwo p.relation.rows f t = subst (λ (q : Relation). AreTwo q.rows f t) theirs ax.2.3 in
      let of_f : entity_of p.relation.rows f.0 ≡ Some ent = subst (λ (q : Relation). entity_of q.rows f.0 ≡ Some ent) own of in
      let of_s : entity_of p.relation.rows s.0 ≡ Some ent = fs.b_of ∙ (sym fs.a_of ∙ of_f) in
      let of_t : entity_of p.relation.rows t.0 ≡ Some ent = ft.b_of ∙ (sym ft.a_of ∙ of_f) in
      let i = member_there p.relation ent f of_f in
      let j = member_there p.relation ent s of_s in
      let k = member_there p.relation ent t of_t in
      subst (StandsAmong (variables p.subject) steps) (sym (clause_of_three p f s t clause ax))
      (among p is ent steps are i.0 j.0 k.0 f s t i.1 j.1 k.1 (other_place i.0 j.0 f s i.1 j.1 fs.differ)
      (other_place j.0 k.0 s t j.1 k.1 st.differ)
      (other_place i.0 k.0 f t i.1 k.1 ft.differ))

  step_here : (i : ℕ) (l : Label) (lits : List Lit) → slice_get steps i ≡ Some (step.Axiom l lits)
      → IsStepOf p.subject l (step.Axiom l lits)
  step_here i l lits at =
      let m = step_at p.subject (three_labels p (members_of p.relation ent)) steps i (step.Axiom l lits) are at in
      let there = label_of_step p.subject (three_labels p (members_of p.relation ent)) steps i l lits are at in
      subst (λ (k : Label). IsStepOf p.subject k (step.Axiom l lits)) (same_Some m.0 l (sym m.1 ∙ there)) m.2

  one_of_each : (i j : ℕ) (l k : Label) (lits other : List Lit) (clause : List Said) → slice_get steps i ≡ Some
      (step.Axiom l lits) → slice_get steps j ≡ Some (step.Axiom k other)
      → AreLits (variables p.subject) clause lits → AreLits (variables p.subject) clause other → i ≡ j
  one_of_each i j l k lits other clause at_i at_j are_i are_j =
      let ls = three_labels p (members_of p.relation ent) in
      let in_i = label_of_step p.subject ls steps i l lits are at_i in
      let in_j = label_of_step p.subject ls steps j k other are at_j in
      let m = monotone_of p ent l (in_threes p (members_of p.relation ent) l (contains_at ls i l in_i)) in
      let n = monotone_of p ent k (in_threes p (members_of p.relation ent) k (contains_at ls j k in_j)) in
      let same = same_label one_said p is ent steps are l k m n lits other clause
      (lits_of one_said p is ent steps are l m lits (step_here i l lits at_i))
      (lits_of one_said p is ent steps are k n other (step_here j k other at_j)) are_i are_j in
      once_threes p ent i j k (in_i ∙ ap Some same) in_j

  whole_transitive : AreTransitive p.subject.spec (variables p.subject) p.rel p.attr ent steps
  whole_transitive = record {
    each = all_of (IsTransitiveStep p.subject.spec (variables p.subject) p.rel p.attr ent) steps
        one_step;
    all = one_clause;
    once = one_of_each;
  }

pub are_transitive : OneSaid → (p : Attribute) (ent : ℕ) (rows : List RowId) (steps : List Step) → IsAttribute p
    → rows ≡ members_of p.relation ent → Adds p.subject (three_labels p rows) [] steps
    → AreTransitive p.subject.spec (variables p.subject) p.rel p.attr ent steps
are_transitive one_said p ent rows steps is e adds =
    let of_rows : AreStepsOf p.subject (three_labels p rows) steps =
    subst (AreStepsOf p.subject (three_labels p rows)) (sym adds.is_added) adds.are_steps in
    whole_transitive one_said p is ent steps
    (subst (λ (xs : List RowId). AreStepsOf p.subject (three_labels p xs) steps) e of_rows)
