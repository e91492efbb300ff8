-- What clauses conclude.
use Rattle.std.proofs.Common.{◌≡◌, ◌⊎◌, ◌+◌, ◌<◌, ◌≤◌, ◌∙◌, ℕ, List, [], ◌∷◌, Contains, true, Option, Some, None, IfSome, is_some, take, slice_get, sym, ap, refl, subst, inl, inr, arith}
use Rattle.std.proofs.lemmas.Bool.{cases_lt}
use Rattle.std.proofs.lemmas.List.Elements.{Contains-push, Contains-push_cases, Contains-append_left}
use Rattle.std.proofs.lemmas.Option.{same_Some}
use Rattle.horn_closure.specs.Least.{Horn, IsAmong}
use Rattle.horn_closure.specs.Steps.{StandsAt, AreDerived, IsLonger, IsAdded, AreGiven, Concludes, IsLookedAt, AreLookedAt, AreUsesLookedAt, OnChain, here, further, IsUsed, AreUses}
use Rattle.horn_closure.specs.declared.derived.Derived.{Derived}
use Rattle.horn_closure.specs.declared.derived.Why.TheVariants.{Clause, Fact}
use Rattle.horn_closure.specs.declared.uses.Use.{Use}
use Rattle.horn_closure.proofs.Derivations.{longer_none, longer_twice, among_longer, stands_among, take_at}

-- ---- what is given

pub given_more : (facts : List ℕ) (i slot : ℕ) (old now new : List Derived) → slice_get facts i ≡ Some slot
    → AreGiven (take i facts) old now
    → IsAdded now slot Fact new → AreGiven (take (i + 1) facts) old new
given_more facts i slot old now new at so_far added = record {
  longer = longer_twice old now new so_far.longer added.longer;
  sound = λ h in_facts each. added.sound h
      (in_facts slot (subst (λ xs. Contains xs slot) (sym (take_at facts i slot at)) (Contains-push (take i facts) slot)))
      (so_far.sound h (λ s c. in_facts s (subst (λ xs. Contains xs s) (sym (take_at facts i slot at))
      (Contains-append_left (take i facts) (slot ∷ []) s c))) each);
  all = λ s c. by s (Contains-push_cases (take i facts) slot s (subst (λ xs. Contains xs s) (take_at facts i slot at) c));
}
  where
    by : (s : ℕ) → Contains (take i facts) s ⊎ (slot ≡ s) → IsAmong new s
    by s (inl c) = among_longer now new s added.longer (so_far.all s c)
    by s (inr e) = subst (IsAmong new) e added.among

-- ---- what clauses conclude, with more derived

pub concludes_later : (premises : List (List ℕ)) (conclusions : List ℕ) (k : ℕ) (before old new : List Derived) → IsLonger old new
    → Concludes premises conclusions k before old → Concludes premises conclusions k before new
concludes_later premises conclusions k before old new l c = record {
  concludes = λ ps slot is_ps is_slot all. among_longer old new slot l (c.concludes ps slot is_ps is_slot all);
}

pub concludes_before : (premises : List (List ℕ)) (conclusions : List ℕ) (k : ℕ) (before old new : List Derived)
    → IsLonger before old
    → Concludes premises conclusions k old new → Concludes premises conclusions k before new
concludes_before premises conclusions k before old new l c = record {
  concludes = λ ps slot is_ps is_slot all. c.concludes ps slot is_ps is_slot
      (λ premise in_ps. among_longer before old premise l (all premise in_ps));
}

-- ---- one clause

-- a premise that was not derived
pub looked_one : (premises : List (List ℕ)) (conclusions : List ℕ) (k : ℕ) (ps : List ℕ) (slot : ℕ)
    (old new : List Derived) → slice_get premises k ≡ Some ps
    → slice_get conclusions k ≡ Some slot → ((premise : ℕ) → Contains ps premise → IsAmong old premise)
    → IsAdded old slot (Clause k) new
    → IsLookedAt premises conclusions k old new
looked_one premises conclusions k ps slot old new at is_slot all added = record {
  longer = added.longer;
  sound = λ h ps_are concl_are each. added.sound h
      (record {
        premises = ps;
        is_clause = ap (λ (xs : List (List ℕ)). slice_get xs k) ps_are ∙ at;
        concludes = ap (λ (xs : List ℕ). slice_get xs k) concl_are ∙ is_slot;
        derived = all;
      })
      each;
  found = record {
    concludes = λ qs s is_qs is_s given. subst (IsAmong new) (same_Some slot s (sym is_slot ∙ is_s)) added.among;
  };
}

-- ---- the first so many clauses

pub all_more : (premises : List (List ℕ)) (conclusions : List ℕ) (upto : ℕ) (old now new : List Derived)
    → AreLookedAt premises conclusions upto old now
    → IsLookedAt premises conclusions upto now new → AreLookedAt premises conclusions (upto + 1) old new
all_more premises conclusions upto old now new so_far looked = record {
  longer = longer_twice old now new so_far.longer looked.longer;
  sound = λ h ps_are concl_are each. looked.sound h ps_are concl_are (so_far.sound h ps_are concl_are each);
  found = λ k less. by k (cases_lt k upto) (omega (arith, less));
}
  where
    by : (k : ℕ) → (k < upto) ⊎ (upto ≤ k) → k ≤ upto → Concludes premises conclusions k old new
    by k (inl less) h = concludes_later premises conclusions k old now new looked.longer (so_far.found k less)
    by k (inr past) h =
        let same : upto ≡ k = omega arith in
        subst (λ n. Concludes premises conclusions n old new) same
        (concludes_before premises conclusions upto old now new so_far.longer looked.found)

-- ---- the clauses on a chain

-- those that are not further on were looked at
pub record IsWalked (premises : List (List ℕ)) (conclusions : List ℕ) (uses : List Use) (last at : ℕ)
    (old now : List Derived) : Type 0 where
  pub longer : IsLonger old now
  pub sound : (h : Horn) → h.premises ≡ premises → h.conclusions ≡ conclusions → AreDerived h old → AreDerived h now
  pub found : (k : ℕ) → OnChain uses k last → Concludes premises conclusions k old now ⊎ OnChain uses k at

pub walked_none : (premises : List (List ℕ)) (conclusions : List ℕ) (uses : List Use) (last : ℕ) (old : List Derived)
    → IsWalked premises conclusions uses last last old old
walked_none premises conclusions uses last old = record {
  longer = longer_none old;
  sound =
      λ h ps_are concl_are each. each;
  found = λ k on. inr on;
}

pub walked_more : (premises : List (List ℕ)) (conclusions : List ℕ) (uses : List Use) (last at place : ℕ) (one : Use)
    (old now new : List Derived)
    → at ≡ place + 1 → slice_get uses place ≡ Some one → IsWalked premises conclusions uses last at old now
    → IsLookedAt premises conclusions one.clause now new → IsWalked premises conclusions uses last one.before old new
walked_more premises conclusions uses last at place one old now new at_is there so_far looked = record {
  longer = longer_twice old now new so_far.longer looked.longer;
  sound = λ h ps_are concl_are each. looked.sound h ps_are concl_are (so_far.sound h ps_are concl_are each);
  found = λ k on. by k (so_far.found k on);
}
  where
    same_use : (n : ℕ) (u : Use) → at ≡ n + 1 → slice_get uses n ≡ Some u → one ≡ u
    same_use n u is get =
        let same : place ≡ n = omega (arith, is, at_is) in
        same_Some one u (sym there ∙ ap (slice_get uses) same ∙ get)

    on_chain : (k n : ℕ) → n ≡ at → OnChain uses k n → Concludes premises conclusions k old new ⊎ OnChain uses k one.before
    on_chain k n e (here a m u is get by_k) =
        let clause_is : one.clause ≡ k = ap (λ (v : Use). v.clause) (same_use m u (sym e ∙ is) get) ∙ by_k in
        inl (subst (λ j. Concludes premises conclusions j old new) clause_is
        (concludes_before premises conclusions one.clause old now new so_far.longer looked.found))
    on_chain k n e (further a m u is get on) =
        inr (subst (OnChain uses k) (sym (ap (λ (v : Use). v.before) (same_use m u (sym e ∙ is) get))) on)

    by : (k : ℕ) → Concludes premises conclusions k old now ⊎ OnChain uses k at → Concludes premises conclusions k
        old new ⊎ OnChain uses k one.before
    by k (inl c) = inl (concludes_later premises conclusions k old now new looked.longer c)
    by k (inr on) = on_chain k at refl on

no_chain : (uses : List Use) (k at : ℕ) → at ≡ 0 → OnChain uses k at → ⊥
no_chain uses k at none (here n place u is get by_k) = omega (arith, is, none)
no_chain uses k at none (further n place u is get on) = omega (arith, is, none)

pub walked_all : (premises : List (List ℕ)) (conclusions : List ℕ) (lasts : List ℕ) (uses : List Use)
    (slot last at : ℕ) (old now : List Derived)
    → AreUses premises lasts uses → slice_get lasts slot ≡ Some last → at ≡ 0 → IsWalked premises conclusions uses last at old now
    → AreUsesLookedAt premises conclusions slot old now
walked_all premises conclusions lasts uses slot last at old now are is_last none walked = record {
  longer = walked.longer;
  sound = walked.sound;
  found = λ k ps is c. by k (walked.found k (on_last k (are.each k ps slot is c)));
}
  where
    on_last : (k : ℕ) → IsUsed lasts uses slot k → OnChain uses k last
    on_last k u = subst (OnChain uses k) (same_Some u.last last (sym u.is_last ∙ is_last)) u.on

    by : (k : ℕ) → Concludes premises conclusions k old now ⊎ OnChain uses k at → Concludes premises conclusions k old now
    by k (inl c) = c
    by k (inr on) = absurd (no_chain uses k at none on)

-- ---- whether all premises were derived

-- ---- whether all premises were derived

pub all_known_more : (slots : List ℕ) (i s : ℕ) (place : Option ℕ) (old : List Derived) → slice_get slots i ≡ Some s
    → ((slot : ℕ) → Contains (take i slots) slot → IsAmong old slot) → is_some place ≡ true → IfSome place
    (λ p. StandsAt old p s) → (slot : ℕ)
    → Contains (take (i + 1) slots) slot → IsAmong old slot
all_known_more slots i s None old at so_far some stands slot c = absurd (cc)
all_known_more slots i s (Some p) old at so_far some stands slot c =
    by (Contains-push_cases (take i slots) s slot (subst (λ xs. Contains xs slot) (take_at slots i s at) c))
  where
    by : Contains (take i slots) slot ⊎ (s ≡ slot) → IsAmong old slot
    by (inl b) = so_far slot b
    by (inr e) = subst (IsAmong old) e (stands_among old p s stands)
