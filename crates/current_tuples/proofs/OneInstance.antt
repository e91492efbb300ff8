-- A completion has one current instance.
use Rattle.std.proofs.Common.{◌≡◌, ◌<◌, ℕ, zero, suc, List, [], ◌∷◌, Some, length, slice_get, slice_index_or, refl, sym, ap₂, ◌∙◌, arith}
use Rattle.std.proofs.lemmas.Option.{same_Some, get_or_from_slice_get, slice_get_within}
use Rattle.currency_base.specs.declared.value.Value.{Value}
use Rattle.currency_base.specs.declared.value.Value.TheVariants.{Text}
use Rattle.spec_model.specs.Completion.{Rankings}
use Rattle.spec_model.specs.Current.{IsCurrentTuple, AreCurrentTuples, IsCurrentInstance}
use Rattle.spec_model.specs.declared.relation.Relation.{Relation}

-- lists of one length with the same items are equal
same_lists : {A : Type 0} (xs ys : List A) → length xs ≡ length ys
    → ((i : ℕ) (x y : A) → slice_get xs i ≡ Some x → slice_get ys i ≡ Some y → x ≡ y) → xs ≡ ys
same_lists [] [] count same = refl
same_lists [] (y ∷ ys) count same = absurd (omega (arith, count))
same_lists (x ∷ xs) [] count same = absurd (omega (arith, count))
same_lists (x ∷ xs) (y ∷ ys) count same =
    ap₂ (λ z zs. z ∷ zs) (same zero x y refl refl) (same_lists xs ys (omega arith) (λ i. same (suc i)))

-- an entity has one current tuple
one_tuple : (c : Rankings) (rel : ℕ) (r : Relation) (ent : ℕ) (one other : List Value)
    → IsCurrentTuple c rel r ent one → IsCurrentTuple c rel r ent other → one ≡ other
one_tuple c rel r ent one other first second =
    let name : first.name ≡ second.name = same_Some first.name second.name (sym first.is_name ∙ second.is_name) in
    let values : first.values ≡ second.values =
    same_lists first.values second.values (first.per_attr ∙ sym second.per_attr)
    (λ i x y at at'.
    let below : i < length r.attrs = omega (arith, slice_get_within first.values i x at, first.per_attr) in
    same_Some x y (sym at ∙ first.current i below ∙ sym (second.current i below) ∙ at')) in
    first.tuple_is ∙ ap₂ (λ n vs. Text n ∷ vs) name values ∙ sym second.tuple_is

-- a relation has one list of current tuples
one_table : (c : Rankings) (rel : ℕ) (r : Relation) (one other : List (List Value))
    → AreCurrentTuples c rel r one → AreCurrentTuples c rel r other → one ≡ other
one_table c rel r one other first second =
    same_lists one other (first.per_entity ∙ sym second.per_entity)
    (λ ent t u at at'. one_tuple c rel r ent t u (first.each ent t at) (second.each ent u at'))

-- the item at a place of a list
item_at : {A : Type 0} (xs : List A) (i : ℕ) → i < length xs → (x : A) × (slice_get xs i ≡ Some x)
item_at [] i below = absurd (omega arith)
item_at (x ∷ xs) zero below = (x, refl)
item_at (x ∷ xs) (suc i) below = item_at xs i (omega arith)

pub one_instance : (relations : List Relation) (c : Rankings) (one other : List (List (List Value)))
    → IsCurrentInstance relations c one → IsCurrentInstance relations c other → one ≡ other
one_instance relations c one other first second =
    same_lists one other (first.per_relation ∙ sym second.per_relation)
    (λ rel t u at at'.
    let below : rel < length relations = omega (arith, slice_get_within one rel t at, first.per_relation) in
    let r = item_at relations rel below in
    let tables : slice_index_or one rel [] ≡ slice_index_or other rel [] =
    one_table c rel r.0 _ _ (first.each rel r.0 r.1) (second.each rel r.0 r.1) in
    sym (get_or_from_slice_get one rel t [] at) ∙ tables ∙ get_or_from_slice_get other rel u [] at')
