-- The axioms on current values.
use Rattle.std.proofs.Common.{◌≡◌, ◌∙◌, ◌⊎◌, ◌<◌, ◌≤◌, ◌+◌, ◌==◌, ℕ, zero, suc, Bool, true, false, not, cond, List, [], ◌∷◌, ◌++◌, Some, if◌then◌else◌, length, map, take, slice_get, refl, sym, ap, subst, append_assoc, inl, inr, ⊎_elim, arith}
use Rattle.std.specs.List.{filter, flat_map}
use Rattle.std.proofs.lemmas.Bool.{eq-eqb, ne_eqb, false≢true, true≢false}
use Rattle.std.proofs.lemmas.List.{take_more, take_all}
use Rattle.std.proofs.lemmas.Option.{same_Some, none-some, slice_get_within, get_or_from_slice_get}
use Rattle.currency_base.specs.Lists.{OnlyOnce}
use Rattle.currency_base.specs.declared.ids.RelId.{RelId}
use Rattle.currency_base.specs.declared.ids.RowId.{RowId}
use Rattle.currency_base.specs.declared.lit.Lit.{Lit}
use Rattle.entity_lists.specs.Lists.{entities_of, rows_of}
use Rattle.partial_orders.specs.Pairs.{entity_of}
use Rattle.spec_model.specs.Facts.{IsRelation}
use Rattle.spec_model.specs.declared.relation.Relation.{Relation}
use Rattle.value_names.specs.Names.{are_alike, name_of}
use Rattle.value_names.proofs.NameFacts as names
use Rattle.refutation_log.specs.declared.statement.Statement.{Statement}
use Rattle.refutation_log.specs.declared.statement.Statement.TheVariants as says
use Rattle.refutation_log.specs.declared.step.Label.TheVariants as label
use Rattle.refutation_log.specs.declared.step.Step.{Step}
use Rattle.order_literals.specs.Numbers.{is_wanted}
use Rattle.order_literals.specs.Axioms.{others, alike}
use Rattle.order_literals.specs.Said.{Said, Says, turned, not_before, top, not_top, last, not_last}
use Rattle.order_literals.specs.Laws.{OneSaid}
use Rattle.order_clauses.specs.Added.{Adds, Say, Tells, IsClauseOf}
use Rattle.order_clauses.specs.Listing.{members_of, other_said, top_clause, alike_said, value_clause, value_label, above_labels, top_label, last_label, row_labels, relation_labels, wanted_at}
use Rattle.order_clauses.specs.Subject.{Subject, variables, Attribute, IsAttribute, IsWantedRow}
use Rattle.order_clauses.proofs.Adding.{adds_none, adds_both, flat_map_push}
use Rattle.order_clauses.proofs.Saying.{say_both}
use Rattle.order_clauses.proofs.Members.{member_is, row_within}

-- ---- literals that are put

tells_both : (statements : List Statement) (p q : List Said) (a b c : List Lit) → Tells statements p a b
    → Tells statements q b c → Tells statements (p ++ q) a c
tells_both statements p q a b c x y = record {
  added = x.added ++ y.added;
  is_added = y.is_added ∙ ap (λ (l : List Lit). l ++ y.added) x.is_added ∙ append_assoc a x.added y.added;
  say = say_both statements x.added y.added p q x.say y.say;
}

pub tells_more : (statements : List Statement) (head : Said) (f : RowId → List Said) (xs : List RowId) (i : ℕ)
    (x : RowId) (a b c : List Lit) → slice_get xs i ≡ Some x
    → Tells statements (head ∷ flat_map f (take i xs)) a b → Tells statements (f x) b c → Tells statements
    (head ∷ flat_map f (take (i + 1) xs)) a c
tells_more statements head f xs i x a b c at p q =
    rw (take_more xs i x (slice_get_within xs i x at), get_or_from_slice_get xs i x x at, flat_map_push f (take i xs) x)
    (tells_both statements (head ∷ flat_map f (take i xs)) (f x) a b c p q)

pub tells_all : (statements : List Statement) (head : Said) (f : RowId → List Said) (xs ys : List RowId) (n : ℕ)
    (a b : List Lit) → length xs ≤ n → xs ≡ ys
    → Tells statements (head ∷ flat_map f (take n xs)) a b → Tells statements (head ∷ flat_map f ys) a b
tells_all statements head f xs ys n a b all e tells =
    subst (λ (zs : List RowId). Tells statements (head ∷ flat_map f zs) a b) (take_all n xs all ∙ e) tells

say_told : (statements : List Statement) (part : List Said) (lits : List Lit) → Tells statements part [] lits
    → Say statements lits part
say_told statements part lits tells = subst (λ (l : List Lit). Say statements l part) (sym tells.is_added) tells.say

-- ---- that a row is a member

pub member_of : (r : Relation) (ent i : ℕ) (d : RowId) (rows : List RowId) → rows ≡ members_of r ent
    → i < length rows → slice_get rows i ≡ Some d → entity_of r.rows d.0 ≡ Some ent
member_of r ent i d rows e within at = member_is r ent i d (subst (λ (xs : List RowId). slice_get xs i ≡ Some d) e at)

pub wanted_member : (p : Attribute) (ent i : ℕ) (d : RowId) (rows : List RowId) → is_wanted p.subject.wanted.currents
    p.rel.0 ≡ true → rows ≡ members_of p.relation ent
    → i < length rows → slice_get rows i ≡ Some d → IsWantedRow p d
wanted_member p ent i d rows wants e within at = record {
  wanted = wants;
  within = row_within p.relation.rows d.0 ent (member_of p.relation ent i d rows e within at);
}

-- ---- the clause of a row that stands last

flat_step : (b : Bool) (x : RowId) (said : RowId → Said) (l : List Said) (fs : List RowId) → l ≡ map said fs
    → (if b then [] else said x ∷ []) ++ l ≡ map said (cond (not b) (x ∷ fs) fs)
flat_step true x said l fs e = e
flat_step false x said l fs e = ap (λ (ys : List Said). said x ∷ ys) e

flat_others : (p : Attribute) (row : RowId) (xs : List RowId) → flat_map (other_said p row) xs ≡ map
    (λ other. not_before p.rel p.attr other row) (filter (λ other. not (other.0 == row.0)) xs)
flat_others p row [] = refl
flat_others p row (x ∷ xs) = flat_step (x.0 == row.0) x (λ other. not_before p.rel p.attr other row)
    (flat_map (other_said p row) xs)
    (filter (λ other. not (other.0 == row.0)) xs) (flat_others p row xs)

top_clause_is : (p : Attribute) (ent : ℕ) (row : RowId) → top_clause p ent row ≡ top p.rel p.attr row
    ∷ map (λ other. not_before p.rel p.attr other row) (others p.relation.rows ent row)
unfolding top_clause members_of
top_clause_is p ent row = ap (λ (l : List Said). top p.rel p.attr row ∷ l)
    (flat_others p row (rows_of (entities_of p.relation.rows) ent))

pub top_is_clause : (p : Attribute) (ent : ℕ) (row : RowId) (lits : List Lit) → IsAttribute p
    → entity_of p.relation.rows row.0 ≡ Some ent
    → Tells (variables p.subject) (top_clause p ent row) [] lits → IsClauseOf p.subject (label.Top p.rel p.attr row) lits
top_is_clause p ent row lits is of tells = record {
  clause = top_clause p ent row;
  is_axiom = (p.relation, is.is_relation, (is.attr_within, ent, of, top_clause_is p ent row));
  say = say_told (variables p.subject) (top_clause p ent row) lits tells;
}

member_is_rows : (r : Relation) (ent i : ℕ) (row : RowId) → slice_get (rows_of (entities_of r.rows) ent) i ≡ Some row
    → entity_of r.rows row.0 ≡ Some ent
unfolding members_of
member_is_rows r ent i row at = member_is r ent i row at

-- ---- the clause of a value

pub value_test_is : (p : Attribute) (row other : RowId) → IsRelation p.relation → p.attr.0 < length p.relation.attrs
    → row.0 < length p.relation.rows
    → other.0 < length p.relation.rows → name_of p.relation.rows p.attr.0 row ≡ row
    → ((name_of p.relation.rows p.attr.0 other).0 == row.0) ≡ are_alike p.relation.rows p.attr.0 row other
value_test_is p row other is within here there named = go (are_alike p.relation.rows p.attr.0 row other) refl
  where
    go : (b : Bool) → are_alike p.relation.rows p.attr.0 row other ≡ b → ((name_of p.relation.rows p.attr.0 other).0 == row.0) ≡ b
    go true e =
        let same = names.same_name p.relation p.attr.0 is within row other here e in
        eq-eqb (name_of p.relation.rows p.attr.0 other).0 row.0 (ap (λ (x : RowId). x.0) (sym same ∙ named))
    go false e = ne_eqb (name_of p.relation.rows p.attr.0 other).0 row.0
        (λ (q : (name_of p.relation.rows p.attr.0 other).0 ≡ row.0).
        let other_is : name_of p.relation.rows p.attr.0 other ≡ row = ap (λ (n : ℕ). let x : RowId = record { 0 = n } in x) q in
        let alike' = names.one_name p.relation p.attr.0 is within row other here there (named ∙ sym other_is) in
        false≢true (sym e ∙ alike'))

value_step : (b c : Bool) (x : RowId) (said : RowId → Said) (l : List Said) (fs : List RowId) → b ≡ c → l ≡ map said fs
    → (if b then said x ∷ [] else []) ++ l ≡ map said (cond c (x ∷ fs) fs)
value_step true c x said l fs t e = rw (← t) (ap (λ (ys : List Said). said x ∷ ys) e)
value_step false c x said l fs t e = rw (← t) e

flat_alike : (p : Attribute) (row : RowId) (xs : List RowId)
    → ((i : ℕ) (x : RowId) → slice_get xs i ≡ Some x → ((name_of p.relation.rows p.attr.0 x).0 == row.0) ≡ are_alike
    p.relation.rows p.attr.0 row x)
    → flat_map (alike_said p row) xs ≡ map (top p.rel p.attr) (filter (are_alike p.relation.rows p.attr.0 row) xs)
flat_alike p row [] tests = refl
flat_alike p row (x ∷ xs) tests = value_step ((name_of p.relation.rows p.attr.0 x).0 == row.0)
    (are_alike p.relation.rows p.attr.0 row x) x (top p.rel p.attr)
    (flat_map (alike_said p row) xs) (filter (are_alike p.relation.rows p.attr.0 row) xs) (tests 0 x refl)
    (flat_alike p row xs (λ i y at. tests (suc i) y at))

value_clause_is : (p : Attribute) (ent : ℕ) (row : RowId) → IsRelation p.relation
    → p.attr.0 < length p.relation.attrs → row.0 < length p.relation.rows
    → name_of p.relation.rows p.attr.0 row ≡ row
    → value_clause p ent row ≡ not_last p.rel p.attr (name_of p.relation.rows p.attr.0 row) ∷ map (top p.rel p.attr)
    (alike p.relation.rows p.attr.0 ent row)
unfolding value_clause members_of
value_clause_is p ent row is within here named =
    let rows = rows_of (entities_of p.relation.rows) ent in
    let same = flat_alike p row rows (λ i x at. value_test_is p row x is within here
    (row_within p.relation.rows x.0 ent (member_is_rows p.relation ent i x at)) named) in
    ap (λ (l : List Said). not_last p.rel p.attr row ∷ l) same
    ∙ ap (λ (x : RowId). not_last p.rel p.attr x ∷ map (top p.rel p.attr) (alike p.relation.rows p.attr.0 ent row)) (sym named)

pub value_is_clause : (p : Attribute) (ent : ℕ) (row : RowId) (lits : List Lit) → IsAttribute p
    → IsRelation p.relation → entity_of p.relation.rows row.0 ≡ Some ent
    → name_of p.relation.rows p.attr.0 row ≡ row
    → Tells (variables p.subject) (value_clause p ent row) [] lits → IsClauseOf p.subject (label.Value p.rel p.attr row) lits
value_is_clause p ent row lits is facts of named tells = record {
  clause = value_clause p ent row;
  is_axiom = (
    p.relation,
    is.is_relation,
    (
      is.attr_within,
      ent,
      of,
      value_clause_is p ent row facts is.attr_within
          (row_within p.relation.rows row.0 ent of) named,
    ),
  );
  say = say_told (variables p.subject) (value_clause p ent row) lits tells;
}

-- ---- the clause of the value of a row that stands last

pub name_within : (p : Attribute) (row name : RowId) → IsAttribute p → IsRelation p.relation → IsWantedRow p row
    → name ≡ name_of p.relation.rows p.attr.0 row → IsWantedRow p name
name_within p row name is facts here e =
    let n = names.named p.relation p.attr.0 facts is.attr_within row here.within in
    subst (IsWantedRow p) (sym e) (let r : IsWantedRow p (name_of p.relation.rows p.attr.0 row) = record {
      wanted = here.wanted;
      within = row_within p.relation.rows (name_of p.relation.rows p.attr.0 row).0 n.have_one.ent n.have_one.other_entity;
    } in r)

pub name_itself : (p : Attribute) (row name : RowId) → IsAttribute p → IsRelation p.relation → IsWantedRow p row
    → name ≡ name_of p.relation.rows p.attr.0 row
    → name_of p.relation.rows p.attr.0 name ≡ name
name_itself p row name is facts here e =
    let n = names.named p.relation p.attr.0 facts is.attr_within row here.within in
    subst (λ (x : RowId). name_of p.relation.rows p.attr.0 x ≡ x) (sym e) n.itself

pub last_is_clause : (p : Attribute) (row name : RowId) (a b : Lit) → IsAttribute p → IsWantedRow p row
    → name ≡ name_of p.relation.rows p.attr.0 row
    → Says (variables p.subject) a (not_top p.rel p.attr row) → Says (variables p.subject) b (last p.rel p.attr name)
    → IsClauseOf p.subject (label.Last p.rel p.attr row) (a ∷ b ∷ [])
last_is_clause p row name a b is here e says_a says_b = record {
  clause = not_top p.rel p.attr row ∷ last p.rel p.attr name ∷ [];
  is_axiom = (
    p.relation,
    is.is_relation,
    (is.attr_within, here.within, ap (λ (x : RowId). not_top p.rel p.attr row ∷ last p.rel p.attr x ∷ []) e),
  );
  say = (says_a, (says_b, tt));
}

-- ---- a clause whose literals say different things has none twice

turned_again : (s : Statement) (b : Bool) → turned (turned (record { statement = s; negative = b })) ≡
    record { statement = s; negative = b }
turned_again (says.Before rel attr earlier later) true = refl
turned_again (says.Before rel attr earlier later) false = refl
turned_again (says.Top rel attr row) b = refl
turned_again (says.Last rel attr row) b = refl
turned_again (says.Answer tuple) b = refl

pub turned_twice : (s : Said) → turned (turned s) ≡ s
turned_twice s = turned_again s.statement s.negative

pub say_at : (statements : List Statement) (lits : List Lit) (clause : List Said) (i : ℕ) (x : Lit)
    → Say statements lits clause → slice_get lits i ≡ Some x
    → (s : Said) × (slice_get clause i ≡ Some s) × Says statements x s
say_at statements [] clause i x say at = absurd (none-some x at)
say_at statements (l ∷ lits) [] i x say at = absurd say
say_at statements (l ∷ lits) (s ∷ clause) zero x say at =
    (s, refl, subst (λ (y : Lit). Says statements y s) (same_Some l x at) say.0)
say_at statements (l ∷ lits) (s ∷ clause) (suc i) x say at = say_at statements lits clause i x say.1 at

-- no two members are the same, in whatever words
abbrev Differ : List Said → Type 0
Differ clause = (i j : ℕ) (s t : Said) → slice_get clause i ≡ Some s → slice_get clause j ≡ Some t →
    (t ≡ s) ⊎ (t ≡ turned s) → i ≡ j

once_said : OneSaid → (statements : List Statement) (lits : List Lit) (clause : List Said) → Say statements lits
    clause → Differ clause → OnlyOnce lits
once_said one statements lits clause say differ i j x at_i at_j =
    let a = say_at statements lits clause i x say at_i in
    let b = say_at statements lits clause j x say at_j in
    differ i j a.0 b.0 a.1 b.1 (one statements x a.0 b.0 a.2 b.2)

turned_to : (a s b t : Said) → a ≡ s → b ≡ t → (t ≡ s) ⊎ (t ≡ turned s) → (b ≡ a) ⊎ (b ≡ turned a)
turned_to a s b t p q e = ⊎_elim (λ (h : t ≡ s). inl (q ∙ (h ∙ sym p)))
    (λ (h : t ≡ turned s). inr (q ∙ (h ∙ ap turned (sym p)))) e

mapped_at : (said : RowId → Said) (xs : List RowId) (i : ℕ) (s : Said) → slice_get (map said xs) i ≡ Some s →
    (x : RowId) × (slice_get xs i ≡ Some x) × (said x ≡ s)
mapped_at said [] i s at = absurd (none-some s at)
mapped_at said (x ∷ xs) zero s at = (x, refl, same_Some (said x) s at)
mapped_at said (x ∷ xs) (suc i) s at = mapped_at said xs i s at

-- a first member, and others that are made of different rows
differ_mapped : (head : Said) (said : RowId → Said) (xs : List RowId) → OnlyOnce xs
    → ((x : RowId) → (said x ≡ head) ⊎ (said x ≡ turned head) → ⊥) →
    ((x : RowId) → (head ≡ said x) ⊎ (head ≡ turned (said x)) → ⊥)
    → ((x y : RowId) → (said y ≡ said x) ⊎ (said y ≡ turned (said x)) → x ≡ y) → Differ (head ∷ map said xs)
differ_mapped head said xs once apart apart' same zero zero s t at_i at_j e = refl
differ_mapped head said xs once apart apart' same zero (suc j) s t at_i at_j e =
    let m = mapped_at said xs j t at_j in
    absurd (apart m.0 (turned_to head s (said m.0) t (same_Some head s at_i) m.2 e))
differ_mapped head said xs once apart apart' same (suc i) zero s t at_i at_j e =
    let m = mapped_at said xs i s at_i in
    absurd (apart' m.0 (turned_to (said m.0) s head t m.2 (same_Some head t at_j) e))
differ_mapped head said xs once apart apart' same (suc i) (suc j) s t at_i at_j e =
    let m = mapped_at said xs i s at_i in
    let n = mapped_at said xs j t at_j in
    let rows = same m.0 n.0 (turned_to (said m.0) s (said n.0) t m.2 n.2 e) in
    ap suc (once i j n.0 (m.1 ∙ ap Some rows) n.1)

one_or_none : {A : Type 0} (x : A) (xs : List A) → OnlyOnce (x ∷ xs) → OnlyOnce xs
one_or_none x xs once i j y at_i at_j = let e = once (suc i) (suc j) y at_i at_j in omega (arith, e)

in_filter : (test : RowId → Bool) (xs : List RowId) (x : RowId) (i : ℕ) → slice_get (filter test xs) i ≡ Some x →
    (j : ℕ) × (slice_get xs j ≡ Some x)
in_filter test [] x i at = absurd (none-some x at)
in_filter test (y ∷ xs) x i at = go (test y) i (λ k at'. in_filter test xs x k at') at
  where
    go : (b : Bool) (i : ℕ) → ((k : ℕ) → slice_get (filter test xs) k ≡ Some x → (j : ℕ) × (slice_get xs j ≡ Some x))
        → slice_get (cond b (y ∷ filter test xs) (filter test xs)) i ≡ Some x → (j : ℕ) × (slice_get (y ∷ xs) j ≡ Some x)
    go true zero more at = (0, at)
    go true (suc i) more at = let m = more i at in (suc m.0, m.1)
    go false i more at = let m = more i at in (suc m.0, m.1)

once_step : (b : Bool) (y : RowId) (kept : List RowId) → OnlyOnce kept → ((i : ℕ) → slice_get kept i ≡ Some y → ⊥)
    → OnlyOnce (cond b (y ∷ kept) kept)
once_step false y kept once new i j x at_i at_j = once i j x at_i at_j
once_step true y kept once new zero zero x at_i at_j = refl
once_step true y kept once new zero (suc j) x at_i at_j = absurd (new j (at_j ∙ sym at_i))
once_step true y kept once new (suc i) zero x at_i at_j = absurd (new i (at_i ∙ sym at_j))
once_step true y kept once new (suc i) (suc j) x at_i at_j = ap suc (once i j x at_i at_j)

pub once_filter : (test : RowId → Bool) (xs : List RowId) → OnlyOnce xs → OnlyOnce (filter test xs)
once_filter test [] once = once
once_filter test (y ∷ xs) once = once_step (test y) y (filter test xs) (once_filter test xs (one_or_none y xs once))
    (λ i at. let m = in_filter test xs y i at in let e = once 0 (suc m.0) y refl m.1 in absurd (omega (arith, e)))

before_apart : (p : Attribute) (row x : RowId) → (not_before p.rel p.attr x row ≡ top p.rel p.attr row) ⊎
    (not_before p.rel p.attr x row ≡ turned (top p.rel p.attr row)) → ⊥
before_apart p row x (inl e) = true≢false (ap (λ (s : Said). s.negative) e)
before_apart p row x (inr e) = true≢false (ap (λ (s : Said). s.negative) e)

apart_before : (p : Attribute) (row x : RowId) → (top p.rel p.attr row ≡ not_before p.rel p.attr x row) ⊎
    (top p.rel p.attr row ≡ turned (not_before p.rel p.attr x row)) → ⊥
apart_before p row x (inl e) = false≢true (ap (λ (s : Said). s.negative) e)
apart_before p row x (inr e) = let h : says.Top p.rel p.attr row ≡ says.Before p.rel p.attr row x =
    ap (λ (s : Said). s.statement) e in cc

same_before : (p : Attribute) (row x y : RowId) → (not_before p.rel p.attr y row ≡ not_before p.rel p.attr x row) ⊎
    (not_before p.rel p.attr y row ≡ turned (not_before p.rel p.attr x row)) → x ≡ y
same_before p row x y (inl e) = let h : says.Before p.rel p.attr y row ≡ says.Before p.rel p.attr x row =
    ap (λ (s : Said). s.statement) e in let r : x ≡ y = cc in r
same_before p row x y (inr e) = absurd (true≢false (ap (λ (s : Said). s.negative) e))

pub top_once : OneSaid → (p : Attribute) (ent : ℕ) (row : RowId) (lits : List Lit)
    → OnlyOnce (rows_of (entities_of p.relation.rows) ent)
    → Tells (variables p.subject) (top_clause p ent row) [] lits → OnlyOnce lits
top_once one p ent row lits once tells =
    let say = subst (Say (variables p.subject) lits) (top_clause_is p ent row)
    (say_told (variables p.subject) (top_clause p ent row) lits tells) in
    once_said one (variables p.subject) lits (top p.rel p.attr row ∷ map (λ other. not_before p.rel p.attr other row)
    (others p.relation.rows ent row)) say
    (differ_mapped (top p.rel p.attr row) (λ other. not_before p.rel p.attr other row) (others p.relation.rows ent row)
    (once_filter (λ other. not (other.0 == row.0)) (rows_of (entities_of p.relation.rows) ent) once)
    (before_apart p row) (apart_before p row) (same_before p row))

top_apart : (p : Attribute) (row x : RowId) → (top p.rel p.attr x ≡ not_last p.rel p.attr row) ⊎
    (top p.rel p.attr x ≡ turned (not_last p.rel p.attr row)) → ⊥
top_apart p row x (inl e) = false≢true (ap (λ (s : Said). s.negative) e)
top_apart p row x (inr e) = false≢true (ap (λ (s : Said). s.negative) e)

apart_top : (p : Attribute) (row x : RowId) → (not_last p.rel p.attr row ≡ top p.rel p.attr x) ⊎
    (not_last p.rel p.attr row ≡ turned (top p.rel p.attr x)) → ⊥
apart_top p row x (inl e) = true≢false (ap (λ (s : Said). s.negative) e)
apart_top p row x (inr e) = true≢false (ap (λ (s : Said). s.negative) e)

same_top : (p : Attribute) (x y : RowId) → (top p.rel p.attr y ≡ top p.rel p.attr x) ⊎
    (top p.rel p.attr y ≡ turned (top p.rel p.attr x)) → x ≡ y
same_top p x y (inl e) = let h : says.Top p.rel p.attr y ≡ says.Top p.rel p.attr x = ap (λ (s : Said). s.statement)
    e in let r : x ≡ y = cc in r
same_top p x y (inr e) = let h : says.Top p.rel p.attr y ≡ says.Top p.rel p.attr x = ap (λ (s : Said). s.statement)
    e in let r : x ≡ y = cc in r

pub value_once : OneSaid → (p : Attribute) (ent : ℕ) (row : RowId) (lits : List Lit)
    → OnlyOnce (rows_of (entities_of p.relation.rows) ent)
    → IsAttribute p → IsRelation p.relation → entity_of p.relation.rows row.0 ≡ Some ent → name_of p.relation.rows
    p.attr.0 row ≡ row
    → Tells (variables p.subject) (value_clause p ent row) [] lits → OnlyOnce lits
value_once one p ent row lits once is facts of named tells =
    let name = name_of p.relation.rows p.attr.0 row in
    let say = subst (Say (variables p.subject) lits) (value_clause_is p ent row facts is.attr_within
    (row_within p.relation.rows row.0 ent of) named)
    (say_told (variables p.subject) (value_clause p ent row) lits tells) in
    once_said one (variables p.subject) lits (not_last p.rel p.attr name ∷ map (top p.rel p.attr)
    (alike p.relation.rows p.attr.0 ent row)) say
    (differ_mapped (not_last p.rel p.attr name) (top p.rel p.attr) (alike p.relation.rows p.attr.0 ent row)
    (once_filter (are_alike p.relation.rows p.attr.0 row) (rows_of (entities_of p.relation.rows) ent) once)
    (top_apart p name) (apart_top p name) (same_top p))

-- ---- listing

pub row_all : (p : Attribute) (ent : ℕ) (row : RowId) (a b c d e : List Step) → Adds p.subject
    (above_labels p ent row) a b → Adds p.subject (top_label p row) b c
    → Adds p.subject (last_label p row) c d → Adds p.subject (value_label p row) d e → Adds p.subject (row_labels p ent row) a e
unfolding row_labels
row_all p ent row a b c d e one two three four =
    adds_both p.subject (above_labels p ent row) (top_label p row ++ (last_label p row ++ value_label p row)) a b e one
    (adds_both p.subject (top_label p row) (last_label p row ++ value_label p row) b c e two
    (adds_both p.subject (last_label p row) (value_label p row) c d e three four))

pub wanted_none : (s : Subject) (rel : RelId) (r : Relation) (a : List Step) → slice_get s.spec.relations rel.0 ≡
    Some r → is_wanted s.wanted.currents rel.0 ≡ false
    → Adds s (wanted_at s rel.0) a a
unfolding wanted_at
wanted_none s rel r a at e = rw (at, e) (adds_none s a)

pub wanted_some : (s : Subject) (rel : RelId) (r : Relation) (a b : List Step) → slice_get s.spec.relations rel.0 ≡
    Some r → is_wanted s.wanted.currents rel.0 ≡ true
    → Adds s (relation_labels s r rel) a b → Adds s (wanted_at s rel.0) a b
unfolding wanted_at
wanted_some s rel r a b at e adds = rw (at, e) adds
