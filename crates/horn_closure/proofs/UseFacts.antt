-- The uses of cells by clauses.
use Rattle.std.proofs.Common.{◌≡◌, ◌⊎◌, ◌+◌, ◌-◌, ◌<◌, ◌≤◌, ◌∙◌, ℕ, List, [], ◌∷◌, ◌++◌, Contains, Some, length, get_or, take, slice_get, slice_set, sym, ap, refl, subst, inl, inr, arith, length-append}
use Rattle.std.proofs.lemmas.Bool.{cases_eq, cases_lt}
use Rattle.std.proofs.lemmas.List.Elements.{Contains-push_cases}
use Rattle.std.proofs.lemmas.Option.{same_Some, slice_get_read, slice_get_within}
use Rattle.horn_closure.specs.Steps.{OnChain, here, further, IsUsed, AreLinked, AreUsesUpTo, AreUses, IsUseAdded, IsUseOfEach}
use Rattle.horn_closure.specs.declared.uses.Use.{Use}
use Rattle.horn_closure.proofs.Derivations.{get_front, get_last, get_push, take_at}
use Rattle.horn_closure.proofs.KnownFacts.{get_set, get_set_same, get_set_other}

chain_longer : (uses : List Use) (one : Use) (k at : ℕ) → OnChain uses k at → OnChain (uses ++ one ∷ []) k at
chain_longer uses one k at (here n place u is there by_k) = here n place u is (get_front uses (one ∷ []) place u there) by_k
chain_longer uses one k at (further n place u is there on) =
    further n place u is (get_front uses (one ∷ []) place u there) (chain_longer uses one k u.before on)

-- the use at which a walk stands
pub use_there : (uses : List Use) (at : ℕ) (one : Use) → 0 < at → at ≤ length uses → one ≡ get_or uses (at - 1) one → slice_get uses (at - 1) ≡ Some one
use_there uses at one some within read = slice_get_read uses (length uses) (at - 1) one refl (omega arith) read

-- one use more of a cell, whose last use was known
pub use_added : (clause slot before : ℕ) (lasts : List ℕ) (uses : List Use) → slice_get lasts slot ≡ Some before → length uses < 4294967295
    → IsUseAdded clause slot lasts uses (slice_set lasts slot (length uses + 1))
    (uses ++ record { clause = clause; before = before } ∷ [])
use_added clause slot before lasts uses was room = record { linked = linked; kept = kept; added = added }
  where
    one : Use
    one = record { clause = clause; before = before }

    lasts' : List ℕ
    lasts' = slice_set lasts slot (length uses + 1)

    uses' : List Use
    uses' = uses ++ one ∷ []

    within : slot < length lasts
    within = slice_get_within lasts slot before was

    longer : length uses' ≡ length uses + 1
    longer = length-append uses (one ∷ [])

    linked : (n : ℕ) → clause < n → AreLinked lasts uses n → AreLinked lasts' uses' n
    linked n less are = record {
      few = omega (arith, longer);
      lasts_in = λ s last at. in_last last (get_set lasts slot s (length uses + 1) last at);
      befores = λ place u at. in_before place u (get_push uses one place u at);
      by_clauses = λ place u at. in_clauses place u (get_push uses one place u at);
    }
      where
        in_last : {s : ℕ} (last : ℕ) → ((slot ≡ s) × (length uses + 1 ≡ last)) ⊎
            ((slot ≡ s → ⊥) × (slice_get lasts s ≡ Some last)) → last ≤ length uses'
        in_last last (inl new) = omega (arith, longer, new.1)
        in_last {s} last (inr old) = omega (arith, longer, are.lasts_in s last old.1)

        in_before : (place : ℕ) (u : Use) → (slice_get uses place ≡ Some u) ⊎ ((place ≡ length uses) × (one ≡ u))
            → u.before ≤ place
        in_before place u (inl old) = are.befores place u old
        in_before place u (inr new) = omega (arith, new.0, ap (λ (v : Use). v.before) new.1, are.lasts_in slot before was)

        in_clauses : (place : ℕ) (u : Use) → (slice_get uses place ≡ Some u) ⊎ ((place ≡ length uses) × (one ≡ u)) → u.clause < n
        in_clauses place u (inl old) = are.by_clauses place u old
        in_clauses place u (inr new) = omega (arith, less, ap (λ (v : Use). v.clause) new.1)

    kept : (s k : ℕ) → IsUsed lasts uses s k → IsUsed lasts' uses' s k
    kept s k u = by (cases_eq slot s)
      where
        by : (slot ≡ s) ⊎ (slot ≡ s → ⊥) → IsUsed lasts' uses' s k
        by (inl same) =
            let last_is : u.last ≡ before = same_Some u.last before (sym u.is_last ∙ ap (slice_get lasts) (sym same) ∙ was) in
            let on : OnChain uses' k before = chain_longer uses one k before (subst (OnChain uses k) last_is u.on) in
            record {
              last = length uses + 1;
              is_last = subst (λ i. slice_get lasts' i ≡ Some (length uses + 1)) same
                  (get_set_same lasts slot (length uses + 1) within);
              on = further (length uses + 1) (length uses) one refl (get_last uses one) on;
            }
        by (inr other) = record {
          last = u.last;
          is_last = get_set_other lasts slot s (length uses + 1) u.last other u.is_last;
          on = chain_longer uses one k u.last u.on;
        }

    added : IsUsed lasts' uses' slot clause
    added = record {
      last = length uses + 1;
      is_last = get_set_same lasts slot (length uses + 1) within;
      on = here (length uses + 1) (length uses) one refl (get_last uses one) refl;
    }

-- ---- one use more of each of some cells

pub each_more : (clause i slot : ℕ) (slots lasts lasts' lasts'' : List ℕ) (uses uses' uses'' : List Use)
    → slice_get slots i ≡ Some slot
    → IsUseOfEach clause (take i slots) lasts uses lasts' uses' → IsUseAdded clause slot lasts' uses' lasts'' uses''
    → IsUseOfEach clause (take (i + 1) slots) lasts uses lasts'' uses''
each_more clause i slot slots lasts lasts' lasts'' uses uses' uses'' at so_far more = record {
  linked = λ n less are. more.linked n less (so_far.linked n less are);
  kept = λ s k u. more.kept s k (so_far.kept s k u);
  added = λ s c. by s (Contains-push_cases (take i slots) slot s (subst (λ xs. Contains xs s) (take_at slots i slot at) c));
}
  where
    by : (s : ℕ) → Contains (take i slots) s ⊎ (slot ≡ s) → IsUsed lasts'' uses'' s clause
    by s (inl c) = more.kept s clause (so_far.added s c)
    by s (inr e) = subst (λ v. IsUsed lasts'' uses'' v clause) e more.added

-- ---- the uses of the first so many clauses

pub uses_more : (premises : List (List ℕ)) (k : ℕ) (ps lasts lasts' : List ℕ) (uses uses' : List Use) → slice_get premises k ≡ Some ps
    → AreUsesUpTo premises k lasts uses → IsUseOfEach k ps lasts uses lasts' uses' → AreUsesUpTo premises (k + 1) lasts' uses'
uses_more premises k ps lasts lasts' uses uses' at so_far more = record {
  linked = more.linked (length premises) (slice_get_within premises k ps at) so_far.linked;
  each = λ j qs slot less is c. by j qs slot is c (cases_lt j k) (omega (arith, less));
}
  where
    by : (j : ℕ) (qs : List ℕ) (slot : ℕ) → slice_get premises j ≡ Some qs → Contains qs slot → (j < k) ⊎ (k ≤ j)
        → j ≤ k → IsUsed lasts' uses' slot j
    by j qs slot is c (inl less) h = more.kept slot j (so_far.each j qs slot less is c)
    by j qs slot is c (inr past) h =
        let same : k ≡ j = omega arith in
        let lists : qs ≡ ps = same_Some qs ps (sym is ∙ ap (slice_get premises) (sym same) ∙ at) in
        subst (λ n. IsUsed lasts' uses' slot n) same (more.added slot (subst (λ xs. Contains xs slot) lists c))

pub uses_all : (premises : List (List ℕ)) (n : ℕ) (lasts : List ℕ) (uses : List Use) → length premises ≤ n → AreUsesUpTo premises n lasts uses
    → AreUses premises lasts uses
uses_all premises n lasts uses h are = record {
  linked = are.linked;
  each = λ k ps slot is c. are.each k ps slot (omega (arith, slice_get_within premises k ps is)) is c;
}
