-- One text lists the forced pairs of a specification.
use Rattle.std.proofs.Common.{◌≡◌, ◌⊎◌, ◌∙◌, ◌↔◌, ℕ, zero, suc, Bool, true, false, List, [], ◌∷◌, Contains, Result, Ok, inl, inr, ap, refl, subst, sym, arith}
use Rattle.std.specs.List.Sorted.{IsStrictlySortedBy}
use Rattle.std.specs.declared.cmp.Ordering.{Ordering}
use Rattle.std.specs.declared.cmp.Ordering.TheVariants.{Less, Greater}
use Rattle.std.specs.Ordering.{ordering_reverse}
use Rattle.std.proofs.lemmas.Cmp.{nat_list_cmp_total}
use Rattle.std.proofs.lemmas.Map.Keys.{Less-from_sorted, sorted_tail}
use Rattle.command_stages.proofs.OneRead.{IsOne, then_one}
use Rattle.command_stages.specs.Endings.{printed_text}
use Rattle.command_stages.specs.Stages.{IsSpecRead}
use Rattle.command_stages.specs.declared.done.Done.{Done}
use Rattle.command_stages.specs.declared.trouble.Trouble.{Trouble}
use Rattle.forced_closure.specs.Forced.{HasLoop}
use Rattle.forced_command.specs.Forced.{IsForcedDue, IsForcedPrinted}
use Rattle.forced_write.specs.ForcedText.{IsForcedText, forced_pieces, pair_cmp}
use Rattle.spec_model.specs.Spec.{Spec}
use Rattle.spec_model.specs.declared.question.Asked.{Asked}
use Rattle.text_write.specs.Pieces.{text_of}

-- ---- lists in order with the same members

front : {A : Type 0} (x : A) (xs : List A) → Contains (x ∷ xs) x
front x xs = (0, omega arith, refl)

later : {A : Type 0} (x y : A) (xs : List A) → Contains xs y → Contains (x ∷ xs) y
later x y xs at = (suc at.0, omega (arith, at.1), at.2)

front_or_later : {A : Type 0} (x y : A) (xs : List A) → Contains (x ∷ xs) y → (x ≡ y) ⊎ Contains xs y
front_or_later x y xs (zero, below, e) = inl e
front_or_later x y xs (suc i, below, e) = inr (i, omega (arith, below), e)

never : {A : Type 0} (y : A) → Contains [] y → ⊥
never y at = omega (arith, at.1)

module _ {K : Type 0} (cmp : K → K → Ordering) (flip : (x y : K) → cmp x y ≡ ordering_reverse (cmp y x)) where
  not_both : (x y : K) → cmp x y ≡ Less → cmp y x ≡ Less → ⊥
  not_both x y one other = let turned : Less ≡ Greater = sym one ∙ flip x y ∙ ap ordering_reverse other in cc

  less_later : (x y : K) (xs : List K) → IsStrictlySortedBy cmp (x ∷ xs) → Contains xs y → cmp x y ≡ Less
  less_later x y xs sorted at =
      subst (λ (z : K). cmp x z ≡ Less) at.2
      (Less-from_sorted cmp (x ∷ xs) 0 (suc at.0) y sorted (omega arith) (omega (arith, at.1)))

  same_front : (x y : K) (xs ys : List K) → IsStrictlySortedBy cmp (x ∷ xs) → IsStrictlySortedBy cmp (y ∷ ys)
      → (y ≡ x) ⊎ Contains ys x → (x ≡ y) ⊎ Contains xs y → x ≡ y
  same_front x y xs ys left right (inl e) h = sym e
  same_front x y xs ys left right (inr at) (inl e) = e
  same_front x y xs ys left right (inr at) (inr back) =
      absurd (not_both y x (less_later y x ys right at) (less_later x y xs left back))

  -- what stands after the first of one list stands after the first of the other, which is the same
  stays : (x y z : K) (xs ys : List K) → IsStrictlySortedBy cmp (x ∷ xs) → x ≡ y → Contains xs z
      → (y ≡ z) ⊎ Contains ys z → Contains ys z
  stays x y z xs ys sorted same at (inr there) = there
  stays x y z xs ys sorted same at (inl e) =
      let below : cmp x z ≡ Less = less_later x z xs sorted at in
      let is : x ≡ z = same ∙ e in
      let itself : cmp x x ≡ Less = subst (λ (w : K). cmp x w ≡ Less) (sym is) below in
      absurd (not_both x x itself itself)

  same_lists : (xs ys : List K) → IsStrictlySortedBy cmp xs → IsStrictlySortedBy cmp ys
      → ((z : K) → Contains xs z → Contains ys z) → ((z : K) → Contains ys z → Contains xs z) → xs ≡ ys
  same_lists [] [] left right to back = refl
  same_lists [] (y ∷ ys) left right to back = absurd (never y (back y (front y ys)))
  same_lists (x ∷ xs) [] left right to back = absurd (never x (to x (front x xs)))
  same_lists (x ∷ xs) (y ∷ ys) left right to back =
      let same : x ≡ y = same_front x y xs ys left right (front_or_later y x ys (to x (front x xs)))
      (front_or_later x y xs (back y (front y ys))) in
      let rest : xs ≡ ys = same_lists xs ys (sorted_tail cmp x xs left) (sorted_tail cmp y ys right)
      (λ z at. stays x y z xs ys left same at (front_or_later y z ys (to z (later x z xs at))))
      (λ z at. stays y x z ys xs right (sym same) at (front_or_later x z xs (back z (later y z ys at)))) in
      ap (λ (k : K). k ∷ xs) same ∙ ap (λ (ks : List K). y ∷ ks) rest

-- ---- the text

same_bools : (a b : Bool) {P : Type 0} → (a ≡ true) ↔ P → (b ≡ true) ↔ P → a ≡ b
same_bools true true h k = refl
same_bools false false h k = refl
same_bools true false h k = sym (k.1 (h.0 refl))
same_bools false true h k = h.1 (k.0 refl)

pairs_flip : (a b : Asked) → pair_cmp a b ≡ ordering_reverse (pair_cmp b a)
pairs_flip a b =
    nat_list_cmp_total.antisymm (a.rel.0 ∷ a.pair.attr.0 ∷ a.pair.earlier.0 ∷ a.pair.later.0 ∷ [])
    (b.rel.0 ∷ b.pair.attr.0 ∷ b.pair.earlier.0 ∷ b.pair.later.0 ∷ [])

one_text : (s : Spec) (a b : List ℕ) → IsForcedText s a → IsForcedText s b → a ≡ b
one_text s a b h k =
    let pairs : h.pairs ≡ k.pairs = same_lists pair_cmp pairs_flip h.pairs k.pairs h.ascend k.ascend
    (λ z at. (k.exact z).1 ((h.exact z).0 at)) (λ z at. (h.exact z).1 ((k.exact z).0 at)) in
    let loops : h.loops ≡ k.loops = same_bools h.loops k.loops h.loops_are k.loops_are in
    h.text_is ∙ ap (λ (ps : List Asked). text_of (forced_pieces s.relations h.loops ps)) pairs
    ∙ ap (λ (l : Bool). text_of (forced_pieces s.relations l k.pairs)) loops ∙ sym k.text_is

printed_one : (s : Spec) → IsOne (IsForcedPrinted s)
printed_one s a b h k =
    h.2 ∙ ap (λ (text : List ℕ). Ok (printed_text text)) (one_text s h.0 k.0 h.1 k.1) ∙ sym k.2

-- what is due for the forced pairs of a told document is one outcome
pub forced_one : ((told : List (List ℕ × List ℕ)) (name : List ℕ) → IsOne (IsSpecRead told name))
    → (told : List (List ℕ × List ℕ)) (name : List ℕ) → IsOne (IsForcedDue told name)
forced_one one_spec told name = then_one (IsSpecRead told name) IsForcedPrinted (one_spec told name) printed_one
