-- Clauses and facts that are put after others.
use Rattle.std.proofs.Common.{◌≡◌, ◌⊎◌, ◌+◌, ◌<◌, ◌∙◌, ℕ, zero, suc, List, [], ◌∷◌, ◌++◌, Some, Contains, length, take, slice_get, refl, sym, ap, subst, inl, inr, ⊎_elim, arith}
use Rattle.std.proofs.lemmas.List.{length_push, take_more}
use Rattle.std.proofs.lemmas.List.Elements.{Contains-push, Contains-push_cases, Contains-append_left}
use Rattle.std.proofs.lemmas.Option.{none-some, same_Some, slice_get-get_or, slice_get_within, get_or_from_slice_get}
use Rattle.currency_base.specs.declared.ids.CopyId.{CopyId}
use Rattle.currency_base.specs.declared.ids.RuleId.{RuleId}
use Rattle.currency_base.specs.declared.pair.Pair.{Pair}
use Rattle.copied_pairs.specs.declared.pairs.CopiedPair.{CopiedPair}
use Rattle.denial_rules.specs.declared.rule.Conclusion.{Conclusion}
use Rattle.denial_rules.specs.declared.rule.Conclusion.TheVariants as conclusion
use Rattle.denial_rules.specs.declared.rule.OrderAtom.{OrderAtom}
use Rattle.denial_rules.specs.declared.rule.Rule.{Rule}
use Rattle.order_squares.specs.Squares.{Layout, IsSlot}
use Rattle.order_squares.proofs.Places.{get_cases, get_only, get_old, item_at}
use Rattle.forced_closure.specs.Forced.{IsGiven}
use Rattle.forced_closure.specs.Clauses.{Subject, AreOfGiven, AreSlots, HasFact, HasSlot, IsCopyClause, IsSaid, HornClauses}
use Rattle.forced_closure.specs.Clauses.{with_clause, AreSaid, Adds, OfGrounds, OfRule, OfRules, OfPair, OfPairs, OfPlace}
use Rattle.forced_closure.specs.Clauses.{OfPlaces, OfCopy, OfCopies}
use Rattle.forced_closure.specs.declared.origin.Origin.{Origin}
use Rattle.forced_closure.specs.declared.origin.Origin.TheVariants as origin

-- ---- lists

pub stands : {A : Type 0} (xs : List A) (x : A) → Contains xs x → (i : ℕ) × (slice_get xs i ≡ Some x)
stands xs x c = (c.0, slice_get-get_or xs c.0 x c.1 ∙ ap Some c.2)

pub contains_at : {A : Type 0} (xs : List A) (i : ℕ) (x : A) → slice_get xs i ≡ Some x → Contains xs x
contains_at xs i x at = (i, slice_get_within xs i x at, get_or_from_slice_get xs i x x at)

pub not_in : {A : Type 0} (x : A) → Contains [] x → ⊥
not_in x c = absurd (omega (arith, c.1))

pub get_take : {A : Type 0} (n : ℕ) (xs : List A) (i : ℕ) (x : A) → slice_get (take n xs) i ≡ Some x →
    (i < n) × (slice_get xs i ≡ Some x)
get_take zero xs i x at = absurd (none-some x at)
get_take (suc n) [] i x at = absurd (none-some x at)
get_take (suc n) (y ∷ xs) zero x at = (omega arith, at)
get_take (suc n) (y ∷ xs) (suc i) x at = let more = get_take n xs i x at in (omega (arith, more.0), more.1)

pub take_get : {A : Type 0} (n : ℕ) (xs : List A) (i : ℕ) (x : A) → i < n → slice_get xs i ≡ Some x
    → slice_get (take n xs) i ≡ Some x
take_get zero xs i x below at = absurd (omega arith)
take_get (suc n) [] i x below at = at
take_get (suc n) (y ∷ xs) zero x below at = at
take_get (suc n) (y ∷ xs) (suc i) x below at = take_get n xs i x (omega arith) at

-- ---- slots of pairs

pub slots_none : (l : Layout) (rel : ℕ) → AreSlots l rel [] []
slots_none l rel = record { each = λ slot c. absurd (not_in slot c); all = λ pair c. absurd (not_in pair c) }

pub slots_more : (l : Layout) (rel : ℕ) (pairs : List Pair) (pair : Pair) (slots : List ℕ) (slot : ℕ) → AreSlots l rel pairs slots
    → IsSlot l rel pair.attr.0 pair.earlier pair.later slot → AreSlots l rel (pairs ++ pair ∷ []) (slots ++ slot ∷ [])
slots_more l rel pairs pair slots slot are is = record {
  each = λ s c.
      ⊎_elim
      (λ (old : Contains slots s). let o = are.each s old in
      record { pair = o.pair; is_in = Contains-append_left pairs (pair ∷ []) o.pair o.is_in; is_slot = o.is_slot })
      (λ (new : slot ≡ s). record {
        pair = pair;
        is_in = Contains-push pairs pair;
        is_slot =
            subst (IsSlot l rel pair.attr.0 pair.earlier pair.later) new is;
      })
      (Contains-push_cases slots slot s c);
  all = λ p c.
      ⊎_elim
      (λ (old : Contains pairs p). let o = are.all p old in
      record { slot = o.slot; is_in = Contains-append_left slots (slot ∷ []) o.slot o.is_in; is_slot = o.is_slot })
      (λ (new : pair ≡ p). subst (HasSlot l rel (slots ++ slot ∷ [])) new
      (record { slot = slot; is_in = Contains-push slots slot; is_slot = is }))
      (Contains-push_cases pairs pair p c);
}

pub slots_next : (l : Layout) (rel : ℕ) (pairs : List Pair) (i : ℕ) (pair : Pair) (slots new : List ℕ) (slot : ℕ)
    → slice_get pairs i ≡ Some pair
    → AreSlots l rel (take i pairs) slots → IsSlot l rel pair.attr.0 pair.earlier pair.later slot → new ≡ slots ++ slot ∷ []
    → AreSlots l rel (take (i + 1) pairs) new
slots_next l rel pairs i pair slots new slot at are is e =
    let more : take (i + 1) pairs ≡ take i pairs ++ pair ∷ [] =
    take_more pairs i pair (slice_get_within pairs i pair at) ∙ ap (λ p. take i pairs ++ p ∷ [])
    (get_or_from_slice_get pairs i pair pair at) in
    subst (λ ps. AreSlots l rel ps new) (sym more) (subst (AreSlots l rel (take i pairs ++ pair ∷ [])) (sym e)
    (slots_more l rel (take i pairs) pair slots slot are is))

-- ---- facts

pub given_more : (m : Subject) (facts : List ℕ) (slot rel : ℕ) (p : Pair) → AreOfGiven m facts → IsGiven m.spec rel p
    → IsSlot m.layout rel p.attr.0 p.earlier p.later slot → AreOfGiven m (facts ++ slot ∷ [])
given_more m facts slot rel p each given is s c =
    ⊎_elim (λ (old : Contains facts s). each s old)
    (λ (new : slot ≡ s). record {
      rel = rel;
      pair = p;
      is_given = given;
      is_slot =
          subst (IsSlot m.layout rel p.attr.0 p.earlier p.later) new is;
    })
    (Contains-push_cases facts slot s c)

pub fact_grows : (m : Subject) (old new : List ℕ) (rel : ℕ) (p : Pair) →
    ((slot : ℕ) → Contains old slot → Contains new slot) → HasFact m old rel p
    → HasFact m new rel p
fact_grows m old new rel p grows has = record { slot = has.slot; is_in = grows has.slot has.is_in; is_slot = has.is_slot }

-- ---- clauses

pub said_none : (m : Subject) → AreSaid m (record { premises = []; conclusions = []; origins = [] })
said_none m = record { premises = refl; conclusions = refl; each = λ k o ps c at at_ps at_c. absurd (none-some o at) }

pub said_more : (m : Subject) (t : HornClauses) (o : Origin) (ps : List ℕ) (c : ℕ) → IsSaid m o ps c → AreSaid m t
    → AreSaid m (with_clause t o ps c)
said_more m t o ps c is are = record {
  premises = length_push t.premises ps ∙ (ap (λ n. n + 1) are.premises ∙ sym (length_push t.origins o));
  conclusions = length_push t.conclusions c ∙ (ap (λ n. n + 1) are.conclusions ∙ sym (length_push t.origins o));
  each = λ k o' ps' c' at at_ps at_c. by k o' ps' c' (get_cases t.origins (o ∷ []) k o' at) at_ps at_c;
}
  where
    last : (k : ℕ) (o' : Origin) (ps' : List ℕ) (c' : ℕ) → o ≡ o' → k ≡ length t.origins
        → (slice_get t.premises k ≡ Some ps') ⊎ ((j : ℕ) × (k ≡ length t.premises + j) × (slice_get (ps ∷ []) j ≡ Some ps'))
        → (slice_get t.conclusions k ≡ Some c') ⊎ ((j : ℕ) × (k ≡ length t.conclusions + j) × (slice_get (c ∷ []) j ≡ Some c'))
        → IsSaid m o' ps' c'
    last k o' ps' c' same e (inl old) cs = absurd (omega (arith, e, are.premises, slice_get_within t.premises k ps' old))
    last k o' ps' c' same e (inr new) (inl old) =
        absurd (omega (arith, e, are.conclusions, slice_get_within t.conclusions k c' old))
    last k o' ps' c' same e (inr (i, e_i, at_i)) (inr (j, e_j, at_j)) =
        subst (λ x. IsSaid m x ps' c') same
        (subst (λ x. IsSaid m o x c') (get_only ps i ps' at_i).1 (subst (IsSaid m o ps) (get_only c j c' at_j).1 is))

    by : (k : ℕ) (o' : Origin) (ps' : List ℕ) (c' : ℕ)
        → (slice_get t.origins k ≡ Some o') ⊎ ((j : ℕ) × (k ≡ length t.origins + j) × (slice_get (o ∷ []) j ≡ Some o'))
        → slice_get (t.premises ++ ps ∷ []) k ≡ Some ps' → slice_get (t.conclusions ++ c ∷ []) k ≡ Some c' → IsSaid m o' ps' c'
    by k o' ps' c' (inl old) at_ps at_c =
        let below = slice_get_within t.origins k o' old in
        let here = item_at t.premises k (omega (arith, below, are.premises)) in
        let there = item_at t.conclusions k (omega (arith, below, are.conclusions)) in
        let same_ps = same_Some here.0 ps' (sym (get_old t.premises (ps ∷ []) k here.0 here.1) ∙ at_ps) in
        let same_c = same_Some there.0 c' (sym (get_old t.conclusions (c ∷ []) k there.0 there.1) ∙ at_c) in
        are.each k o' ps' c' old (here.1 ∙ ap Some same_ps) (there.1 ∙ ap Some same_c)
    by k o' ps' c' (inr (j, e, at)) at_ps at_c =
        let only = get_only o j o' at in
        last k o' ps' c' only.1 (omega (arith, e, only.0)) (get_cases t.premises (ps ∷ []) k ps' at_ps)
        (get_cases t.conclusions (c ∷ []) k c' at_c)

-- one clause more
pub adds_one : (m : Subject) (t : HornClauses) (o : Origin) (ps : List ℕ) (c : ℕ) → IsSaid m o ps c
    → Adds m t (with_clause t o ps c) (λ x. x ≡ o)
adds_one m t o ps c is = record {
  said = said_more m t o ps c is;
  grows = λ x old. Contains-append_left t.origins (o ∷ []) x old;
  all = λ x e. subst (Contains (t.origins ++ o ∷ [])) (sym e) (Contains-push t.origins o);
}

-- none more, where none is asked
pub adds_none : (m : Subject) (t : HornClauses) (asked : Origin → Type 0) → ((o : Origin) → asked o → ⊥) → Adds m t t asked
adds_none m t asked none = record { said = λ said. said; grows = λ o old. old; all = λ o is. absurd (none o is) }

-- some and then others
pub adds_then : (m : Subject) (a b c : HornClauses) (P Q R : Origin → Type 0) → Adds m a b P → Adds m b c Q →
    ((o : Origin) → R o → P o ⊎ Q o) → Adds m a c R
adds_then m a b c P Q R first second cases = record {
  said = λ said. second.said (first.said said);
  grows = λ o old. second.grows o (first.grows o old);
  all = λ o is. ⊎_elim (λ (p : P o). second.grows o (first.all o p)) (λ (q : Q o). second.all o q) (cases o is);
}

-- as much is asked
pub adds_as : (m : Subject) (a b : HornClauses) (P Q : Origin → Type 0) → Adds m a b P → ((o : Origin) → Q o → P o) → Adds m a b Q
adds_as m a b P Q adds same = record { said = adds.said; grows = adds.grows; all = λ o is. adds.all o (same o is) }

-- ---- what is asked, one after another

last_or : (i n : ℕ) → i < n + 1 → (i < n) ⊎ (i ≡ n)
last_or zero zero below = inr refl
last_or zero (suc n) below = inl (omega arith)
last_or (suc i) zero below = absurd (omega (arith, below))
last_or (suc i) (suc n) below =
    ⊎_elim (λ (h : i < n). inl (omega (arith, h))) (λ (h : i ≡ n). inr (ap suc h)) (last_or i n (omega (arith, below)))

pub grounds_cases : (rule : RuleId) (n : ℕ) (o : Origin) → OfGrounds rule (n + 1) o → OfGrounds rule n o ⊎
    (o ≡ origin.Rule rule n)
grounds_cases rule n o is = by (last_or is.ground n is.below)
  where
    by : (is.ground < n) ⊎ (is.ground ≡ n) → OfGrounds rule n o ⊎ (o ≡ origin.Rule rule n)
    by (inl below) = inl (record { ground = is.ground; below = below; is = is.is })
    by (inr same) = inr (is.is ∙ ap (origin.Rule rule) same)

pub rules_cases : (m : Subject) (n : ℕ) (k : RuleId) (o : Origin) → k.0 ≡ n → OfRules m (n + 1) o → OfRules m n o ⊎ OfRule m k o
rules_cases m n k o number is = by (last_or is.k.0 n is.below)
  where
    by : (is.k.0 < n) ⊎ (is.k.0 ≡ n) → OfRules m n o ⊎ OfRule m k o
    by (inl below) = inl (record { k = is.k; below = below; of = is.of })
    by (inr same) =
        let one : is.k ≡ k = ap (λ (i : ℕ). let r : RuleId = record { 0 = i } in r) (same ∙ sym number) in
        inr (subst (λ (r : RuleId). OfRule m r o) one is.of)

pub pairs_cases : (copy : CopyId) (place : ℕ) (pairs : List CopiedPair) (n : ℕ) (pair : CopiedPair) (o : Origin)
    → slice_get pairs n ≡ Some pair
    → OfPairs copy place pairs (n + 1) o → OfPairs copy place pairs n o ⊎ OfPair copy place pair o
pairs_cases copy place pairs n pair o at is = by (last_or is.i n is.below)
  where
    by : (is.i < n) ⊎ (is.i ≡ n) → OfPairs copy place pairs n o ⊎ OfPair copy place pair o
    by (inl below) = inl (record { i = is.i; below = below; pair = is.pair; is_pair = is.is_pair; of = is.of })
    by (inr same) =
        let one = same_Some is.pair pair (sym is.is_pair ∙ (ap (slice_get pairs) same ∙ at)) in
        inr (subst (λ (p : CopiedPair). OfPair copy place p o) one is.of)

pub places_cases : (m : Subject) (copy : CopyId) (n : ℕ) (o : Origin) → OfPlaces m copy (n + 1) o
    → OfPlaces m copy n o ⊎ OfPlace m copy n o
places_cases m copy n o is = by (last_or is.place n is.below)
  where
    by : (is.place < n) ⊎ (is.place ≡ n) → OfPlaces m copy n o ⊎ OfPlace m copy n o
    by (inl below) = inl (record { place = is.place; below = below; of = is.of })
    by (inr same) = inr (subst (λ (p : ℕ). OfPlace m copy p o) same is.of)

pub copies_cases : (m : Subject) (n : ℕ) (k : CopyId) (o : Origin) → k.0 ≡ n → OfCopies m (n + 1) o
    → OfCopies m n o ⊎ OfCopy m k o
copies_cases m n k o number is = by (last_or is.k.0 n is.below)
  where
    by : (is.k.0 < n) ⊎ (is.k.0 ≡ n) → OfCopies m n o ⊎ OfCopy m k o
    by (inl below) = inl (record { k = is.k; below = below; of = is.of })
    by (inr same) =
        let one : is.k ≡ k = ap (λ (i : ℕ). let r : CopyId = record { 0 = i } in r) (same ∙ sym number) in
        inr (subst (λ (r : CopyId). OfCopy m r o) one is.of)

-- both clauses of a pair
pub adds_both : (m : Subject) (a b c : HornClauses) (copy : CopyId) (place : ℕ) (p : CopiedPair) (from to : ℕ)
    → IsCopyClause m copy.0 place p.first p.second from to
    → b ≡ with_clause a (origin.Copy copy place p.first p.second) (from ∷ []) to → c ≡ with_clause b
    (origin.Back copy place p.first p.second) (to ∷ []) from
    → Adds m a c (OfPair copy place p)
adds_both m a b c copy place p from to is first second =
    let forward : Origin = origin.Copy copy place p.first p.second in
    let back : Origin = origin.Back copy place p.first p.second in
    adds_then m a b c (λ o. o ≡ forward) (λ o. o ≡ back) (OfPair copy place p)
    (subst (λ (t : HornClauses). Adds m a t (λ o. o ≡ forward)) (sym first) (adds_one m a forward (from ∷ []) to (from, refl, is)))
    (subst (λ (t : HornClauses). Adds m b t (λ o. o ≡ back)) (sym second) (adds_one m b back (to ∷ []) from (to, refl, is)))
    (λ o of. of)

-- ---- rules that conclude nothing

not_order : (atom : OrderAtom) → conclusion.Never ≡ conclusion.Order atom → ⊥
not_order atom e = subst is_never e tt
  where
    is_never : Conclusion → Type 0
    is_never conclusion.Never = Unit {0}
    is_never (conclusion.Order x) = ⊥

pub never_concludes : (m : Subject) (k : RuleId) (o : Origin) (rule : Rule) → OfRule m k o → slice_get m.spec.rules
    k.0 ≡ Some rule → rule.conclusion ≡ conclusion.Never → ⊥
never_concludes m k o rule of at never =
    let same = same_Some rule of.rule (sym at ∙ of.is_rule) in
    absurd (not_order of.atom (sym never ∙ (ap (λ (r : Rule). r.conclusion) same ∙ of.concludes)))

-- ---- facts, one after another

pub given_none : (m : Subject) (facts : List ℕ) → facts ≡ [] → AreOfGiven m facts
given_none m facts e slot c = absurd (not_in slot (subst (λ (xs : List ℕ). Contains xs slot) e c))

pub facts_next : (m : Subject) (old new : List ℕ) (rel : ℕ) → ((slot : ℕ) → Contains old slot → Contains new slot)
    → ((k : ℕ) (p : Pair) → k < rel → IsGiven m.spec k p → HasFact m old k p) →
    ((p : Pair) → IsGiven m.spec rel p → HasFact m new rel p)
    → (k : ℕ) (p : Pair) → k < rel + 1 → IsGiven m.spec k p → HasFact m new k p
facts_next m old new rel grows before now k p below g =
    ⊎_elim (λ (less : k < rel). fact_grows m old new k p grows (before k p less g))
    (λ (same : k ≡ rel). subst (λ (n : ℕ). HasFact m new n p) (sym same) (now p (subst (λ (n : ℕ). IsGiven m.spec n p) same g)))
    (last_or k rel below)

pub given_next : (m : Subject) (old new : List ℕ) (rel : ℕ) (pairs : List Pair) (pair : Pair) →
    ((slot : ℕ) → Contains old slot → Contains new slot)
    → ((p : Pair) → Contains pairs p → HasFact m old rel p) → HasFact m new rel pair → (p : Pair)
    → Contains (pairs ++ pair ∷ []) p → HasFact m new rel p
given_next m old new rel pairs pair grows before now p c =
    ⊎_elim (λ (h : Contains pairs p). fact_grows m old new rel p grows (before p h))
    (λ (same : pair ≡ p). subst (HasFact m new rel) same now)
    (Contains-push_cases pairs pair p c)
