-- A completion has at most one first flaw.
use Rattle.std.proofs.Common.{◌≡◌, ◌⊎◌, ◌<◌, ℕ, List, [], ◌∷◌, Some, length, slice_get, slice_index_or, take, refl, ap, sym, ◌∙◌, subst, inl, inr, ⊎_elim, arith}
use Rattle.std.proofs.lemmas.Bool.{cases_order}
use Rattle.std.proofs.lemmas.Option.{same_Some}
use Rattle.currency_base.specs.declared.ids.RelId.{RelId}
use Rattle.currency_base.specs.declared.ids.AttrId.{AttrId}
use Rattle.currency_base.specs.declared.ids.EntId.{EntId}
use Rattle.currency_base.specs.declared.ids.RowId.{RowId}
use Rattle.currency_base.specs.declared.ids.RuleId.{RuleId}
use Rattle.currency_base.specs.declared.pair.Pair.{Pair}
use Rattle.currency_base.specs.declared.row.Row.{Row}
use Rattle.denial_rules.specs.declared.rule.Rule.{Rule}
use Rattle.spec_model.specs.Spec.{Spec}
use Rattle.spec_model.specs.Satisfies.{Lists, IsSatisfiedBy, IsBrokenBy, AreRowsBefore}
use Rattle.spec_model.specs.Consistent.{KeepsGiven, SatisfiesRules, IsConsistent}
use Rattle.spec_model.specs.declared.relation.Relation.{Relation}
use Rattle.spec_model.specs.declared.flaw.Flaw.{Flaw}
use Rattle.spec_model.specs.declared.flaw.Flaw.TheVariants.{NotARanking, GivenBroken, RuleBroken, CopyBroken}
use Rattle.spec_model.specs.Completion.{Rankings, IsCompletion}
use Rattle.spec_model.specs.FirstFlaw.{IsPlaceBefore, IsFirstUnranked, IsFirstBroken, IsFirstRuleBroken, IsFirstFlaw}
use Rattle.completion_check.proofs.OneCopy.{no_copy_broken, one_copy_broken}
use Rattle.completion_check.proofs.Places.{get_in_take, contains_at}

-- of two places one stands before the other, or they are one
places_order : (rel attr ent rel' attr' ent' : ℕ)
    → ((rel ≡ rel') × (attr ≡ attr') × (ent ≡ ent')) ⊎ (IsPlaceBefore rel attr ent rel' attr' ent' ⊎ IsPlaceBefore
    rel' attr' ent' rel attr ent)
places_order rel attr ent rel' attr' ent' =
    ⊎_elim
    (λ (r : rel ≡ rel').
    ⊎_elim
    (λ (a : attr ≡ attr').
    ⊎_elim
    (λ (e : ent ≡ ent'). inl (r, a, e))
    (λ (d : (ent < ent') ⊎ (ent' < ent)).
    ⊎_elim
    (λ (b : ent < ent'). inr (inl (inr (r, inr (a, b)))))
    (λ (b : ent' < ent). inr (inr (inr (sym r, inr (sym a, b)))))
    d)
    (cases_order ent ent'))
    (λ (d : (attr < attr') ⊎ (attr' < attr)).
    ⊎_elim
    (λ (b : attr < attr'). inr (inl (inr (r, inl b))))
    (λ (b : attr' < attr). inr (inr (inr (sym r, inl b))))
    d)
    (cases_order attr attr'))
    (λ (d : (rel < rel') ⊎ (rel' < rel)).
    ⊎_elim
    (λ (b : rel < rel'). inr (inl (inl b)))
    (λ (b : rel' < rel). inr (inr (inl b)))
    d)
    (cases_order rel rel')

-- no list that is no ranking stands before the first
none_before : (rs : List Relation) (c : Rankings) (rel attr ent rel' attr' ent' : ℕ) → IsFirstUnranked rs c rel attr ent
    → IsFirstUnranked rs c rel' attr' ent' → IsPlaceBefore rel attr ent rel' attr' ent' → ⊥
none_before rs c rel attr ent rel' attr' ent' f g before =
    f.broken (g.earlier rel f.relation f.is_relation attr ent f.attr_within f.ent_within before)

one_unranked : (rs : List Relation) (c : Rankings) (rel rel' : RelId) (attr attr' : AttrId) (ent ent' : EntId)
    → IsFirstUnranked rs c rel.0 attr.0 ent.0 → IsFirstUnranked rs c rel'.0 attr'.0 ent'.0 → NotARanking rel attr
    ent ≡ NotARanking rel' attr' ent'
one_unranked rs c rel rel' attr attr' ent ent' f g =
    ⊎_elim
    (λ (same : (rel.0 ≡ rel'.0) × (attr.0 ≡ attr'.0) × (ent.0 ≡ ent'.0)).
    let r : rel ≡ rel' = ap (λ (n : ℕ). let x : RelId = record { 0 = n } in x) same.0 in
    let a : attr ≡ attr' = ap (λ (n : ℕ). let x : AttrId = record { 0 = n } in x) same.1 in
    let e : ent ≡ ent' = ap (λ (n : ℕ). let x : EntId = record { 0 = n } in x) same.2 in
    rw (r, a, e) refl)
    (λ (apart : IsPlaceBefore rel.0 attr.0 ent.0 rel'.0 attr'.0 ent'.0 ⊎ IsPlaceBefore rel'.0 attr'.0 ent'.0 rel.0 attr.0 ent.0).
    absurd
    (⊎_elim
    (λ (b : IsPlaceBefore rel.0 attr.0 ent.0 rel'.0 attr'.0 ent'.0). none_before rs c rel.0 attr.0 ent.0 rel'.0
    attr'.0 ent'.0 f g b)
    (λ (b : IsPlaceBefore rel'.0 attr'.0 ent'.0 rel.0 attr.0 ent.0). none_before rs c rel'.0 attr'.0 ent'.0 rel.0
    attr.0 ent.0 g f b)
    apart))
    (places_order rel.0 attr.0 ent.0 rel'.0 attr'.0 ent'.0)

-- no relation before the first broken pair's has one
no_earlier_relation : (rs : List Relation) (c : Rankings) (rel rel' : ℕ) (p q : Pair) → IsFirstBroken rs c rel p
    → IsFirstBroken rs c rel' q
    → rel < rel' → ⊥
no_earlier_relation rs c rel rel' p q f g below =
    f.broken
    (g.earlier_relations rel f.relation (get_in_take rs rel' rel f.relation f.is_relation below) p
    (contains_at f.relation.given f.place p f.is_pair))

-- nor a pair before it in its own
no_earlier_pair : (rs : List Relation) (c : Rankings) (rel : ℕ) (p q : Pair) (f : IsFirstBroken rs c rel p)
    (g : IsFirstBroken rs c rel q)
    → f.place < g.place → ⊥
no_earlier_pair rs c rel p q f g below =
    let same : f.relation ≡ g.relation = same_Some f.relation g.relation (sym f.is_relation ∙ g.is_relation) in
    let there : slice_get g.relation.given f.place ≡ Some p =
    subst (λ (r : Relation). slice_get r.given f.place ≡ Some p) same f.is_pair in
    f.broken (g.earlier_pairs p (contains_at (take g.place g.relation.given) f.place p
    (get_in_take g.relation.given g.place f.place p there below)))

same_pair : (rs : List Relation) (c : Rankings) (rel : ℕ) (p q : Pair) → IsFirstBroken rs c rel p
    → IsFirstBroken rs c rel q → p ≡ q
same_pair rs c rel p q f g =
    ⊎_elim
    (λ (is : f.place ≡ g.place).
    let same : f.relation ≡ g.relation = same_Some f.relation g.relation (sym f.is_relation ∙ g.is_relation) in
    let there : slice_get g.relation.given g.place ≡ Some p =
    subst (λ (k : ℕ). slice_get g.relation.given k ≡ Some p) is
    (subst (λ (r : Relation). slice_get r.given f.place ≡ Some p) same f.is_pair) in
    same_Some p q (sym there ∙ g.is_pair))
    (λ (apart : (f.place < g.place) ⊎ (g.place < f.place)).
    absurd
    (⊎_elim
    (λ (b : f.place < g.place). no_earlier_pair rs c rel p q f g b)
    (λ (b : g.place < f.place). no_earlier_pair rs c rel q p g f b)
    apart))
    (cases_order f.place g.place)

one_broken : (rs : List Relation) (c : Rankings) (rel rel' : RelId) (p q : Pair) → IsFirstBroken rs c rel.0 p
    → IsFirstBroken rs c rel'.0 q
    → GivenBroken rel p ≡ GivenBroken rel' q
one_broken rs c rel rel' p q f g =
    ⊎_elim
    (λ (is : rel.0 ≡ rel'.0).
    let r : rel ≡ rel' = ap (λ (n : ℕ). let x : RelId = record { 0 = n } in x) is in
    let f' : IsFirstBroken rs c rel'.0 p = subst (λ n. IsFirstBroken rs c n p) is f in
    rw (r, same_pair rs c rel'.0 p q f' g) refl)
    (λ (apart : (rel.0 < rel'.0) ⊎ (rel'.0 < rel.0)).
    absurd
    (⊎_elim
    (λ (b : rel.0 < rel'.0). no_earlier_relation rs c rel.0 rel'.0 p q f g b)
    (λ (b : rel'.0 < rel.0). no_earlier_relation rs c rel'.0 rel.0 q p g f b)
    apart))
    (cases_order rel.0 rel'.0)

-- a completion fails no ranking
no_unranked : (rs : List Relation) (c : Rankings) (rel attr ent : ℕ) → IsCompletion rs c → IsFirstUnranked rs c rel attr ent → ⊥
no_unranked rs c rel attr ent is f = f.broken (is.ranked rel f.relation f.is_relation attr ent f.attr_within f.ent_within)

-- of two lists of rows of one length, one stands before the other, or they are one
rows_order : (xs ys : List RowId) → length xs ≡ length ys → (xs ≡ ys) ⊎ (AreRowsBefore xs ys ⊎ AreRowsBefore ys xs)
rows_order [] [] same = inl refl
rows_order [] (y ∷ ys) same = absurd (omega arith)
rows_order (x ∷ xs) [] same = absurd (omega arith)
rows_order (x ∷ xs) (y ∷ ys) same =
    let rest = rows_order xs ys (omega arith) in
    ⊎_elim
    (λ (is : x.0 ≡ y.0).
    let e : x ≡ y = ap (λ (n : ℕ). let r : RowId = record { 0 = n } in r) is in
    ⊎_elim
    (λ (h : xs ≡ ys). inl (ap (λ (r : RowId). r ∷ xs) e ∙ ap (λ (l : List RowId). y ∷ l) h))
    (λ (h : AreRowsBefore xs ys ⊎ AreRowsBefore ys xs).
    ⊎_elim
    (λ (b : AreRowsBefore xs ys). inr (inl (inr (e, b))))
    (λ (b : AreRowsBefore ys xs). inr (inr (inr (sym e, b))))
    h)
    rest)
    (λ (apart : (x.0 < y.0) ⊎ (y.0 < x.0)).
    ⊎_elim
    (λ (b : x.0 < y.0). inr (inl (inl b)))
    (λ (b : y.0 < x.0). inr (inr (inl b)))
    apart)
    (cases_order x.0 y.0)

-- rows that break a rule do not satisfy it
not_both : (table : List Row) (lists : Lists) (rule : Rule) (rows : List RowId) → IsBrokenBy table lists rule rows
    → IsSatisfiedBy table lists rule rows → ⊥
not_both table lists rule rows broken satisfied = broken.conclusion (satisfied broken.predicates)

-- no rule before the first broken one is broken
no_earlier_rule : (s : Spec) (c : Rankings) (k k' : ℕ) (xs ys : List RowId) → IsFirstRuleBroken s c k xs
    → IsFirstRuleBroken s c k' ys → k < k' → ⊥
no_earlier_rule s c k k' xs ys f g below =
    not_both f.relation.rows (slice_index_or c f.rule.relation.0 []) f.rule xs f.broken
    (g.earlier_rules k f.rule (get_in_take s.rules k' k f.rule f.is_rule below) f.relation f.is_relation xs f.broken.choice)

-- nor rows before the first in its own
no_earlier_rows : (s : Spec) (c : Rankings) (k : ℕ) (xs ys : List RowId) → IsFirstRuleBroken s c k xs
    → IsFirstRuleBroken s c k ys → AreRowsBefore xs ys → ⊥
no_earlier_rows s c k xs ys f g before =
    let rule : f.rule ≡ g.rule = same_Some f.rule g.rule (sym f.is_rule ∙ g.is_rule) in
    let at : slice_get s.relations g.rule.relation.0 ≡ Some f.relation =
    subst (λ (q : Rule). slice_get s.relations q.relation.0 ≡ Some f.relation) rule f.is_relation in
    let relation : f.relation ≡ g.relation = same_Some f.relation g.relation (sym at ∙ g.is_relation) in
    let broken : IsBrokenBy g.relation.rows (slice_index_or c g.rule.relation.0 []) g.rule xs =
    subst (λ (r : Relation). IsBrokenBy r.rows (slice_index_or c g.rule.relation.0 []) g.rule xs) relation
    (subst (λ (q : Rule). IsBrokenBy f.relation.rows (slice_index_or c q.relation.0 []) q xs) rule f.broken) in
    not_both g.relation.rows (slice_index_or c g.rule.relation.0 []) g.rule xs broken (g.earlier_rows xs before broken.choice)

same_rows : (s : Spec) (c : Rankings) (k : ℕ) (xs ys : List RowId) → IsFirstRuleBroken s c k xs → IsFirstRuleBroken s
    c k ys → xs ≡ ys
same_rows s c k xs ys f g =
    let rule : f.rule ≡ g.rule = same_Some f.rule g.rule (sym f.is_rule ∙ g.is_rule) in
    let count : length xs ≡ length ys = f.broken.choice.one_each ∙ ap (λ (q : Rule). q.vars) rule
    ∙ sym g.broken.choice.one_each in
    ⊎_elim
    (λ (is : xs ≡ ys). is)
    (λ (apart : AreRowsBefore xs ys ⊎ AreRowsBefore ys xs).
    absurd
    (⊎_elim
    (λ (b : AreRowsBefore xs ys). no_earlier_rows s c k xs ys f g b)
    (λ (b : AreRowsBefore ys xs). no_earlier_rows s c k ys xs g f b)
    apart))
    (rows_order xs ys count)

one_rule_broken : (s : Spec) (c : Rankings) (k k' : RuleId) (xs ys : List RowId) → IsFirstRuleBroken s c k.0 xs
    → IsFirstRuleBroken s c k'.0 ys → RuleBroken k xs ≡ RuleBroken k' ys
one_rule_broken s c k k' xs ys f g =
    ⊎_elim
    (λ (is : k.0 ≡ k'.0).
    let r : k ≡ k' = ap (λ (n : ℕ). let x : RuleId = record { 0 = n } in x) is in
    let f' : IsFirstRuleBroken s c k'.0 xs = subst (λ n. IsFirstRuleBroken s c n xs) is f in
    rw (r, same_rows s c k'.0 xs ys f' g) refl)
    (λ (apart : (k.0 < k'.0) ⊎ (k'.0 < k.0)).
    absurd
    (⊎_elim
    (λ (b : k.0 < k'.0). no_earlier_rule s c k.0 k'.0 xs ys f g b)
    (λ (b : k'.0 < k.0). no_earlier_rule s c k'.0 k.0 ys xs g f b)
    apart))
    (cases_order k.0 k'.0)

-- given pairs that are kept are not broken
no_broken : (rs : List Relation) (c : Rankings) (rel : ℕ) (p : Pair) → KeepsGiven rs c → IsFirstBroken rs c rel p → ⊥
no_broken rs c rel p kept f = f.broken (kept rel f.relation f.is_relation p (contains_at f.relation.given f.place p f.is_pair))

-- rules that are satisfied are not broken
no_rule_broken : (s : Spec) (c : Rankings) (k : ℕ) (rows : List RowId) → SatisfiesRules s.relations s.rules c
    → IsFirstRuleBroken s c k rows → ⊥
no_rule_broken s c k rows is f =
    not_both f.relation.rows (slice_index_or c f.rule.relation.0 []) f.rule rows f.broken
    (is k f.rule f.is_rule f.relation f.is_relation rows f.broken.choice)

pub one_flaw : (s : Spec) (c : Rankings) (flaw other : Flaw) → IsFirstFlaw s c flaw → IsFirstFlaw s c other → flaw ≡ other
one_flaw s c (NotARanking rel attr ent) (NotARanking rel' attr' ent') f g = one_unranked s.relations c rel rel' attr
    attr' ent ent' f g
one_flaw s c (NotARanking rel attr ent) (GivenBroken rel' q) f g = absurd (no_unranked s.relations c rel.0 attr.0 ent.0 g.0 f)
one_flaw s c (NotARanking rel attr ent) (RuleBroken k rows) f g = absurd (no_unranked s.relations c rel.0 attr.0 ent.0 g.0 f)
one_flaw s c (NotARanking rel attr ent) (CopyBroken k at t u) f g = absurd (no_unranked s.relations c rel.0 attr.0 ent.0 g.0 f)
one_flaw s c (GivenBroken rel p) (NotARanking rel' attr' ent') f g =
    absurd (no_unranked s.relations c rel'.0 attr'.0 ent'.0 f.0 g)
one_flaw s c (GivenBroken rel p) (GivenBroken rel' q) f g = one_broken s.relations c rel rel' p q f.1 g.1
one_flaw s c (GivenBroken rel p) (RuleBroken k rows) f g = absurd (no_broken s.relations c rel.0 p g.1 f.1)
one_flaw s c (GivenBroken rel p) (CopyBroken k at t u) f g = absurd (no_broken s.relations c rel.0 p g.1 f.1)
one_flaw s c (RuleBroken k rows) (NotARanking rel' attr' ent') f g =
    absurd (no_unranked s.relations c rel'.0 attr'.0 ent'.0 f.0 g)
one_flaw s c (RuleBroken k rows) (GivenBroken rel' q) f g = absurd (no_broken s.relations c rel'.0 q f.1 g.1)
one_flaw s c (RuleBroken k xs) (RuleBroken k' ys) f g = one_rule_broken s c k k' xs ys f.2 g.2
one_flaw s c (RuleBroken k rows) (CopyBroken k' at t u) f g = absurd (no_rule_broken s c k.0 rows g.2 f.2)
one_flaw s c (CopyBroken k at t u) (NotARanking rel' attr' ent') f g =
    absurd (no_unranked s.relations c rel'.0 attr'.0 ent'.0 f.0 g)
one_flaw s c (CopyBroken k at t u) (GivenBroken rel' q) f g = absurd (no_broken s.relations c rel'.0 q f.1 g.1)
one_flaw s c (CopyBroken k at t u) (RuleBroken k' rows) f g = absurd (no_rule_broken s c k'.0 rows f.2 g.2)
one_flaw s c (CopyBroken k at t u) (CopyBroken k' at' t' u') f g = one_copy_broken s c k k' at at' t u t' u' f.3 g.3

-- no completion with a flaw is consistent
pub rules_out : (s : Spec) (c : Rankings) (flaw : Flaw) → IsFirstFlaw s c flaw → IsConsistent s c → ⊥
rules_out s c (NotARanking rel attr ent) flaw is = no_unranked s.relations c rel.0 attr.0 ent.0 is.completion flaw
rules_out s c (GivenBroken rel pair) flaw is = no_broken s.relations c rel.0 pair is.given flaw.1
rules_out s c (RuleBroken k rows) flaw is = no_rule_broken s c k.0 rows is.rules flaw.2
rules_out s c (CopyBroken k at t u) flaw is = no_copy_broken s c k.0 at t u is.copies flaw.3
