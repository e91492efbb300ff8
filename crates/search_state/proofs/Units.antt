-- An open literal's variable is free, and a clause whose others are false is its reason.
use Rattle.std.proofs.Common.{◌≡◌, ◌⊎◌, ◌<◌, ◌*◌, ◌∙◌, ℕ, Bool, true, false, not, List, [], ◌∷◌, Contains, Option, Some, None, All, IfSome, length, slice_get, slice_index_or, refl, sym, ap, subst, inl, inr, arith}
use Rattle.std.proofs.lemmas.List.Elements.{All-contains}
use Rattle.std.proofs.lemmas.Option.{get_or_from_slice_get, same_Some, slice_get-get_or}
use Rattle.currency_base.specs.Literals.{is_negative, var_of}
use Rattle.currency_base.specs.declared.lit.Lit.{Lit}
use Rattle.clause_arena.specs.Arenas.{Arena, AreWithin}
use Rattle.search_trail.specs.Trails.{IsReason, Trail, IsFree, lits_of, value_in}
use Rattle.refutation_log.specs.Counted.{IsOpen}
use Rattle.watch_propagate.specs.WatchRule.{AreSameLits, HasAdded}
use Rattle.watch_propagate.proofs.KeptLists.{contains_at, get_end}
use Rattle.watch_propagate.proofs.WalkLits.{place_within, value_false, value_true}
use Rattle.search_state.specs.Held.{BeginsOpen, BeginsTrue, BeginsUnit}

pub free_of_open : (t : Trail) (lit : Lit) → IsOpen (lits_of t) lit → IsFree t (var_of lit)
free_of_open t lit is_open = go (value_in (lits_of t) (var_of lit)) refl
  where
    some : (negative b : Bool) → is_negative lit ≡ negative → value_in (lits_of t) (var_of lit) ≡ Some b → ⊥
    some true true sign is = is_open.not_false (value_false (lits_of t) lit true is sign)
    some true false sign is = is_open.not_true (value_true (lits_of t) lit false is (ap not sign))
    some false true sign is = is_open.not_true (value_true (lits_of t) lit true is (ap not sign))
    some false false sign is = is_open.not_false (value_false (lits_of t) lit false is sign)

    go : (o : Option Bool) → value_in (lits_of t) (var_of lit) ≡ o → value_in (lits_of t) (var_of lit) ≡ None
    go None is = is
    go (Some b) is = absurd (some (is_negative lit) b refl is)

-- the first literal, as it is read
pub first_read : (truths lits : List Lit) (begins : BeginsUnit truths lits) (x d : Lit) → x ≡ slice_index_or lits 0 d
    → begins.first ≡ x
first_read truths lits begins x d is = sym (get_or_from_slice_get lits 0 begins.first d begins.is_first) ∙ sym is

-- a clause that was put in stands there under its number
pub put_there : (old new : Arena) (lits : List Lit) (number : ℕ) → HasAdded old new lits → number ≡ length old.clauses
    → slice_get new.clauses number ≡ Some lits
put_there old new lits number added is =
    ap (slice_get new.clauses) is ∙ ap (λ (cs : List (List Lit)). slice_get cs (length old.clauses)) added.clauses
    ∙ get_end old.clauses lits

-- where the first literal is true or the first two are open, and there is one alone, that one is true
pub one_true : (truths lits : List Lit) (x d : Lit) → length lits ≡ 1 → x ≡ slice_index_or lits 0 d
    → BeginsTrue truths lits ⊎ BeginsOpen truths lits → Contains truths x × (lits ≡ x ∷ [])
one_true truths [] x d one is begins = absurd (omega (arith, one))
one_true truths (y ∷ []) x d one is (inl t) = (
  subst (Contains truths) (sym (same_Some y t.first t.is_first) ∙ sym is) t.is_true,
  ap (λ (z : Lit). z ∷ []) (sym is),
)
one_true truths (y ∷ []) x d one is (inr o) = let no : ⊥ = cc in absurd no
one_true truths (y ∷ z ∷ rest) x d one is begins = absurd (omega (arith, one))

pub reason_read : (old new : Arena) (truths lits : List Lit) (begins : BeginsUnit truths lits) (x : Lit) (number : ℕ)
    → begins.first ≡ x → HasAdded old new lits
    → number ≡ length old.clauses → IfSome (slice_get new.clauses number) (λ ls. IsReason ls truths x)
reason_read old new truths lits begins x number same added is =
    subst (λ (o : Option (List Lit)). IfSome o (λ ls. IsReason ls truths x)) (sym there)
    (subst (IsReason lits truths) same (record { is_in = begins.unit.is_in; others = begins.unit.others }))
  where
    there : slice_get new.clauses number ≡ Some lits
    there = put_there old new lits number added is

-- literals of the variables have their places in the arena
pub within_by_vars : (a : Arena) (vars : ℕ) (lits : List Lit) → length a.watchers ≡ 2 * vars
    → All (λ lit. var_of lit < vars) lits → AreWithin a lits
within_by_vars a vars lits fits all k d h = let below = place_within (slice_index_or lits k d) vars
    (all k d h) in omega (arith, below, fits)

-- so have those of the same literals
pub all_same : (P : Lit → Type 0) (xs ys : List Lit) → AreSameLits xs ys → All P xs → All P ys
all_same P xs ys same all k d h =
    All-contains P xs (slice_index_or ys k d) all
    (same.none_new (slice_index_or ys k d) (contains_at ys k (slice_index_or ys k d) (slice_get-get_or ys k d h)))
