-- The question for a fact asks whether it holds.
use Rattle.std.proofs.Common.{◌≡◌, ◌∙◌, ◌↔◌, ◌⊎◌, ℕ, suc, true, List, [], ◌∷◌, All, Some, map, slice_get, refl, sym, ap, subst, inl, inr}
use Rattle.std.proofs.lemmas.List.Elements.{All-nil, All-cons, All-head, All-tail}
use Rattle.std.proofs.lemmas.Option.{same_Some}
use Rattle.answer_laws.specs.Answered.{IsAnswerIn}
use Rattle.answer_laws.proofs.Instances.{some_instance}
use Rattle.currency_base.specs.Values.{value_test}
use Rattle.currency_base.specs.declared.value.Cmp.TheVariants as cmp
use Rattle.currency_base.specs.declared.value.Value.{Value}
use Rattle.match_premises.specs.declared.premise.Premise.{Premise}
use Rattle.query_model.specs.Answers.{AtomHolds, Fits, Meets, TestHolds, is_compared}
use Rattle.query_model.specs.declared.query.Disjunct.{Disjunct}
use Rattle.query_model.specs.declared.query.Term.TheVariants as term
use Rattle.report_verify.specs.Right.{PairHolds}
use Rattle.spec_model.specs.Completion.{Rankings, IsCompletion}
use Rattle.spec_model.specs.Current.{IsCurrentInstance}
use Rattle.spec_model.specs.Facts.{AreRelations}
use Rattle.spec_model.specs.Questions.{IsAskedPair}
use Rattle.spec_model.specs.declared.question.Asked.{Asked}
use Rattle.spec_model.specs.declared.relation.Relation.{Relation}
use Rattle.posed_facts.specs.Facts.{IsCurrent, IsPlaced}
use Rattle.posed_facts.specs.Laws.{FactsAreAsked}
use Rattle.posed_facts.specs.Questions.{claim_atom, claim_value, claimed_disjunct, other_disjunct, value_term}
use Rattle.posed_facts.specs.declared.fact.Fact.TheVariants as fact
use Rattle.posed_facts.proofs.Atoms.{HasFitting, atom_fits, fits_atom, some_current}
use Rattle.posed_facts.proofs.Lists.{all_made, all_one, each_has, is_in, item_has, mapped, one_item, stands_at, unmapped}
use Rattle.posed_facts.proofs.Posed.{claimed_posed, other_test, others_posed, tests_are}
use Rattle.posed_facts.proofs.Reading.{IsRead, claim_current, current_claim, current_of, is_read}
use Rattle.posed_facts.proofs.Values.{not_other, same_or_other}

-- ---- pairs

-- the question for a pair asks whether it holds
pair_asked : (c : Rankings) (p : Asked) → All (λ o. PairHolds o c) (p ∷ []) ↔ PairHolds p c
pair_asked c p = (
  λ all. All-head (λ o. PairHolds o c) p [] all,
  λ holds. All-cons (λ o. PairHolds o c) p [] holds (All-nil (λ o. PairHolds o c)),
)

-- ---- a claimed value

-- the value that is read fits a constant where it is the current one
claimed_fitting : (relations : List Relation) (p : Premise) → (read : IsRead relations p) → (c : Rankings) (values : List Value)
    → HasFitting relations p read c values (value_term (claim_value relations p)) → IsCurrent relations p c
claimed_fitting relations p read c values has =
    let same : read.value ≡ has.value = subst (λ t. Fits values t has.value) (ap value_term read.reads_value) has.fits in
    current_claim relations p read c (has.current ∙ ap (λ x. Some x) (sym same))

-- and the other way
fitting_claimed : (relations : List Relation) (p : Premise) → (read : IsRead relations p) → (c : Rankings) (values : List Value)
    → IsCurrent relations p c → HasFitting relations p read c values (value_term (claim_value relations p))
fitting_claimed relations p read c values is =
    record {
      value = read.value;
      current = claim_current relations p read c is;
      fits = subst (λ t. Fits values t read.value) (sym (ap value_term read.reads_value)) refl;
    }

-- the question for a claimed value asks whether it is the current one
claimed_asked : (relations : List Relation) → AreRelations relations → (p : Premise) → IsRead relations p → (c : Rankings)
    → IsCompletion relations c
    → IsAnswerIn relations (record { disjuncts = claimed_disjunct relations p ∷ [] }) [] c ↔ IsCurrent relations p c
claimed_asked relations are p read c completion = (to, from)
  where
    to : IsAnswerIn relations (record { disjuncts = claimed_disjunct relations p ∷ [] }) [] c → IsCurrent relations p c
    to answer =
        let own = answer.is_answer in
        let same : claimed_disjunct relations p ≡ own.disjunct =
        one_item (claimed_disjunct relations p) own.disjunct own.is_disjunct in
        let meets : Meets answer.instance (claimed_disjunct relations p) own.values =
        subst (λ (e : Disjunct). Meets answer.instance e own.values) (sym same) own.meets in
        claimed_fitting relations p read c own.values
        (atom_fits relations p read c answer.instance answer.is_current own.values (value_term (claim_value relations p))
        (All-head (AtomHolds answer.instance own.values) (claim_atom relations p (value_term (claim_value relations p))) []
        meets.atoms))

    from : IsCurrent relations p c → IsAnswerIn relations (record { disjuncts = claimed_disjunct relations p ∷ [] }) [] c
    from is =
        let instance = some_instance relations are.each c completion in
        record {
          instance = instance.0;
          is_current = instance.1;
          is_answer =
              record {
                disjunct = claimed_disjunct relations p;
                is_disjunct = is_in (claimed_disjunct relations p ∷ []) 0 (claimed_disjunct relations p) refl;
                values = [];
                meets =
                    record {
                      per_var = refl;
                      atoms = all_one (AtomHolds instance.0 []) (claim_atom relations p (value_term (claim_value relations p)))
                          (fits_atom relations p read c instance.0 instance.1 [] (value_term (claim_value relations p))
                          (fitting_claimed relations p read c [] is));
                      tests = All-nil (TestHolds []);
                    };
                is_head = refl;
              };
        }

-- ---- another value

-- another value than the claimed one is current
record HasOther (relations : List Relation) (p : Premise) (c : Rankings) : Type 0 where
  read : IsRead relations p
  value : Value
  current : current_of relations p read c value
  other : value_test cmp.Ne value read.value ≡ true

-- then the claimed one is not
not_current : (relations : List Relation) (p : Premise) (c : Rankings) → HasOther relations p c → IsCurrent relations p c → ⊥
not_current relations p c has is =
    not_other has.value has.read.value
    (same_Some has.value has.read.value (sym has.current ∙ claim_current relations p has.read c is)) has.other

-- one of both holds
current_or_other : (relations : List Relation) (p : Premise) → IsRead relations p → (c : Rankings)
    (instance : List (List (List Value))) → IsCurrentInstance relations c instance
    → IsCurrent relations p c ⊎ HasOther relations p c
current_or_other relations p read c instance current =
    let x = some_current relations p read c instance current in
    go x.0 x.1 (same_or_other x.0 read.value)
  where
    go : (x : Value) → current_of relations p read c x → (x ≡ read.value) ⊎ (value_test cmp.Ne x read.value ≡ true)
        → IsCurrent relations p c ⊎ HasOther relations p c
    go x is (inl same) = inl (current_claim relations p read c (is ∙ ap (λ y. Some y) same))
    go x is (inr other) = inr record { read = read; value = x; current = is; other = other }

-- of claims that do not all hold, one has another value
record OneHasOther (relations : List Relation) (list : List Premise) (c : Rankings) : Type 0 where
  at : ℕ
  claim : Premise
  is_claim : slice_get list at ≡ Some claim
  has : HasOther relations claim c

-- it is found by going over the list
one_has_other : (relations : List Relation) (c : Rankings) (instance : List (List (List Value)))
    → IsCurrentInstance relations c instance → (list : List Premise) → All (IsRead relations) list
    → (All (λ p. IsCurrent relations p c) list → ⊥) → OneHasOther relations list c
one_has_other relations c instance current [] reads never = absurd (never (All-nil (λ p. IsCurrent relations p c)))
one_has_other relations c instance current (p ∷ list) reads never =
    go (current_or_other relations p (All-head (IsRead relations) p list reads) c instance current)
    (one_has_other relations c instance current list (All-tail (IsRead relations) p list reads))
  where
    go : IsCurrent relations p c ⊎ HasOther relations p c
        → ((All (λ q. IsCurrent relations q c) list → ⊥) → OneHasOther relations list c) → OneHasOther relations (p ∷ list) c
    go (inl is) later =
        let rest = later (λ all. never (All-cons (λ q. IsCurrent relations q c) p list is all)) in
        record { at = suc rest.at; claim = rest.claim; is_claim = rest.is_claim; has = rest.has }
    go (inr other) later = record { at = 0; claim = p; is_claim = refl; has = other }

-- what meets a disjunct says that another value is current
other_met : (relations : List Relation) (p : Premise) → IsRead relations p → (c : Rankings) (instance : List (List (List Value)))
    → IsCurrentInstance relations c instance → (values : List Value) → Meets instance (other_disjunct relations p) values
    → HasOther relations p c
other_met relations p read c instance current values meets =
    let has = atom_fits relations p read c instance current values (term.Var 0)
    (All-head (AtomHolds instance values) (claim_atom relations p (term.Var 0)) [] meets.atoms) in
    let told : TestHolds values (other_test read.value) =
    All-head (TestHolds values) (other_test read.value) []
    (subst (All (TestHolds values)) (tests_are relations p read) meets.tests) in
    record {
      read = read;
      value = has.value;
      current = has.current;
      other = sym (ap (λ o. is_compared o cmp.Ne (Some read.value)) has.fits) ∙ told;
    }

-- and what does so where another value is current
meets_other : (relations : List Relation) (p : Premise) (c : Rankings) (instance : List (List (List Value)))
    → IsCurrentInstance relations c instance → (has : HasOther relations p c)
    → Meets instance (other_disjunct relations p) (has.value ∷ [])
meets_other relations p c instance current has =
    let values : List Value = has.value ∷ [] in
    record {
      per_var = refl;
      atoms = all_one (AtomHolds instance values) (claim_atom relations p (term.Var 0))
          (fits_atom relations p has.read c instance current values (term.Var 0)
          record { value = has.value; current = has.current; fits = refl });
      tests = subst (All (TestHolds values)) (sym (tests_are relations p has.read))
          (all_one (TestHolds values) (other_test has.read.value) has.other);
    }

-- the question for a list asks whether one of its claims fails
others_asked : (relations : List Relation) → AreRelations relations → (list : List Premise) → All (IsRead relations) list
    → (c : Rankings) → IsCompletion relations c
    → IsAnswerIn relations (record { disjuncts = map (other_disjunct relations) list }) [] c
    ↔ (All (λ p. IsCurrent relations p c) list → ⊥)
others_asked relations are list reads c completion = (to, from)
  where
    to : IsAnswerIn relations (record { disjuncts = map (other_disjunct relations) list }) [] c
        → All (λ p. IsCurrent relations p c) list → ⊥
    to answer all =
        let own = answer.is_answer in
        let at = stands_at (map (other_disjunct relations) list) own.disjunct own.is_disjunct in
        let u = unmapped (other_disjunct relations) list at.0 own.disjunct at.1 in
        let meets : Meets answer.instance (other_disjunct relations u.0) own.values =
        subst (λ (e : Disjunct). Meets answer.instance e own.values) (sym u.2) own.meets in
        let read = item_has (IsRead relations) list reads at.0 u.0 u.1 in
        not_current relations u.0 c (other_met relations u.0 read c answer.instance answer.is_current own.values meets)
        (item_has (λ p. IsCurrent relations p c) list all at.0 u.0 u.1)

    from : (All (λ p. IsCurrent relations p c) list → ⊥)
        → IsAnswerIn relations (record { disjuncts = map (other_disjunct relations) list }) [] c
    from never =
        let instance = some_instance relations are.each c completion in
        let one = one_has_other relations c instance.0 instance.1 list reads never in
        record {
          instance = instance.0;
          is_current = instance.1;
          is_answer =
              record {
                disjunct = other_disjunct relations one.claim;
                is_disjunct = is_in (map (other_disjunct relations) list) one.at (other_disjunct relations one.claim)
                    (mapped (other_disjunct relations) list one.at one.claim one.is_claim);
                values = one.has.value ∷ [];
                meets = meets_other relations one.claim c instance.0 instance.1 one.has;
                is_head = refl;
              };
        }

-- ---- the law

-- all is read of claims that can be made
all_read : (relations : List Relation) → AreRelations relations → (list : List Premise) → All (IsPlaced relations) list
    → All (IsRead relations) list
all_read relations are list placed =
    each_has (IsRead relations) list (λ k p at. is_read relations are p (item_has (IsPlaced relations) list placed k p at))

-- the law: by the three kinds of facts
pub facts_asked : FactsAreAsked
facts_asked relations (fact.Before p) are is =
    record {
      question = record { on = all_one (IsAskedPair relations) p is; of_fact = tt };
      asks = λ c completion. pair_asked c p;
    }
facts_asked relations (fact.Current p) are is =
    let read = is_read relations are p is in
    record {
      question =
          record {
            on = claimed_posed relations p read;
            of_fact = all_one (λ (d : Disjunct). d.head ≡ []) (claimed_disjunct relations p) refl;
          };
      asks = claimed_asked relations are p read;
    }
facts_asked relations (fact.Lacks list) are is =
    let reads = all_read relations are list is.1 in
    record {
      question =
          record {
            on = others_posed relations list is.0 reads;
            of_fact = all_made (other_disjunct relations) (IsRead relations) (λ (d : Disjunct). d.head ≡ []) list
                (λ p read. refl) reads;
          };
      asks = others_asked relations are list reads;
    }
