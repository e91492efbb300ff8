-- A completion has at most one first break of a copy function.
use Rattle.std.proofs.Common.{◌≡◌, ◌⊎◌, ◌<◌, ℕ, Some, slice_get, refl, ap, sym, ◌∙◌, subst, inl, inr, ⊎_elim}
use Rattle.std.proofs.lemmas.Bool.{cases_order}
use Rattle.std.proofs.lemmas.Option.{same_Some}
use Rattle.currency_base.specs.declared.ids.CopyId.{CopyId}
use Rattle.currency_base.specs.declared.ids.RowId.{RowId}
use Rattle.copy_functions.specs.Copies.{CopyFunction}
use Rattle.copy_functions.specs.declared.place.Place.{Place}
use Rattle.spec_model.specs.Spec.{Spec}
use Rattle.spec_model.specs.Compatible.{Copying, KeepsSourceOrder, BreaksSourceOrder, IsRowPairBefore}
use Rattle.spec_model.specs.Completion.{Rankings}
use Rattle.spec_model.specs.Consistent.{IsCompatibleWith, copying}
use Rattle.spec_model.specs.FirstFlaw.{IsFirstCopyBroken}
use Rattle.spec_model.specs.declared.flaw.Flaw.TheVariants.{CopyBroken}
use Rattle.spec_model.specs.declared.relation.Relation.{Relation}
use Rattle.completion_check.proofs.Places.{get_in_take, same_row}

-- rows that break the order of their sources do not keep it
not_both : (c : Copying) (place : Place) (first second : RowId) → BreaksSourceOrder c place first second
    → KeepsSourceOrder c place first second → ⊥
not_both c place first second broken keeps = broken.targets (keeps broken.rows broken.sources)

-- a completion that is compatible with all copy functions breaks none
pub no_copy_broken : (s : Spec) (c : Rankings) (k at : ℕ) (first second : RowId) → IsCompatibleWith s.relations
    s.copies c → IsFirstCopyBroken s c k at first second → ⊥
no_copy_broken s c k at first second is f =
    not_both (copying f.copy f.target f.source c) f.place first second f.broken
    (is k f.copy f.is_copy f.target f.source f.is_target f.is_source at f.place f.is_place first second)

-- no copy function before the first broken one is broken
no_earlier_copy : (s : Spec) (c : Rankings) (k k' at at' : ℕ) (t u t' u' : RowId) → IsFirstCopyBroken s c k at t u
    → IsFirstCopyBroken s c k' at' t' u' → k < k' → ⊥
no_earlier_copy s c k k' at at' t u t' u' f g below =
    not_both (copying f.copy f.target f.source c) f.place t u f.broken
    (g.earlier_copies k f.copy (get_in_take s.copies k' k f.copy f.is_copy below) f.target f.source f.is_target
    f.is_source at f.place f.is_place t u)

-- the first broken copy function and its relations are one
one_copying : (s : Spec) (c : Rankings) (k at at' : ℕ) (t u t' u' : RowId) (f : IsFirstCopyBroken s c k at t u)
    (g : IsFirstCopyBroken s c k at' t' u')
    → copying f.copy f.target f.source c ≡ copying g.copy g.target g.source c
one_copying s c k at at' t u t' u' f g =
    let copy : f.copy ≡ g.copy = same_Some f.copy g.copy (sym f.is_copy ∙ g.is_copy) in
    let target : f.target ≡ g.target =
    same_Some f.target g.target (sym f.is_target ∙ (ap (λ (q : CopyFunction). slice_get s.relations q.target.0) copy
    ∙ g.is_target)) in
    let source : f.source ≡ g.source =
    same_Some f.source g.source (sym f.is_source ∙ (ap (λ (q : CopyFunction). slice_get s.relations q.source.0) copy
    ∙ g.is_source)) in
    ap (λ (q : CopyFunction). copying q f.target f.source c) copy
    ∙ (ap (λ (r : Relation). copying g.copy r f.source c) target ∙ ap (λ (r : Relation). copying g.copy g.target r c) source)

-- two rows that break a place of a copy function
record BreaksAt (c : Copying) (at : ℕ) (first second : RowId) : Type 0 where
  place : Place
  is_place : slice_get c.copy.places at ≡ Some place
  broken : BreaksSourceOrder c place first second

broken_at : (s : Spec) (c : Rankings) (k at at' : ℕ) (t u t' u' : RowId) → IsFirstCopyBroken s c k at t u →
    (g : IsFirstCopyBroken s c k at' t' u')
    → BreaksAt (copying g.copy g.target g.source c) at t u
broken_at s c k at at' t u t' u' f g =
    let here : BreaksAt (copying f.copy f.target f.source c) at t u =
    record { place = f.place; is_place = f.is_place; broken = f.broken } in
    subst (λ (x : Copying). BreaksAt x at t u) (one_copying s c k at at' t u t' u' f g) here

-- no place before the first broken one is broken
no_earlier_place : (s : Spec) (c : Rankings) (k at at' : ℕ) (t u t' u' : RowId) → IsFirstCopyBroken s c k at t u
    → IsFirstCopyBroken s c k at' t' u' → at < at' → ⊥
no_earlier_place s c k at at' t u t' u' f g below =
    let there = broken_at s c k at at' t u t' u' f g in
    not_both (copying g.copy g.target g.source c) there.place t u there.broken
    (g.earlier_places at there.place below there.is_place t u)

-- nor rows before the first in its own
no_earlier_pair : (s : Spec) (c : Rankings) (k at : ℕ) (t u t' u' : RowId) → IsFirstCopyBroken s c k at t u
    → IsFirstCopyBroken s c k at t' u' → IsRowPairBefore t u t' u' → ⊥
no_earlier_pair s c k at t u t' u' f g before =
    let there = broken_at s c k at at t u t' u' f g in
    let same : there.place ≡ g.place = same_Some there.place g.place (sym there.is_place ∙ g.is_place) in
    let broken : BreaksSourceOrder (copying g.copy g.target g.source c) g.place t u =
    subst (λ (p : Place). BreaksSourceOrder (copying g.copy g.target g.source c) p t u) same there.broken in
    not_both (copying g.copy g.target g.source c) g.place t u broken (g.earlier_rows t u before)

-- of two pairs of rows one stands before the other, or they are one
pairs_order : (t u t' u' : RowId) → ((t ≡ t') × (u ≡ u')) ⊎ (IsRowPairBefore t u t' u' ⊎ IsRowPairBefore t' u' t u)
pairs_order t u t' u' =
    ⊎_elim
    (λ (is : t.0 ≡ t'.0).
    let one = same_row t t' is in
    ⊎_elim
    (λ (e : u.0 ≡ u'.0). inl (one, same_row u u' e))
    (λ (d : (u.0 < u'.0) ⊎ (u'.0 < u.0)).
    ⊎_elim
    (λ (b : u.0 < u'.0). inr (inl (inr (one, b))))
    (λ (b : u'.0 < u.0). inr (inr (inr (sym one, b))))
    d)
    (cases_order u.0 u'.0))
    (λ (d : (t.0 < t'.0) ⊎ (t'.0 < t.0)).
    ⊎_elim
    (λ (b : t.0 < t'.0). inr (inl (inl b)))
    (λ (b : t'.0 < t.0). inr (inr (inl b)))
    d)
    (cases_order t.0 t'.0)

-- the first broken copy function, its first broken place and the first rows are one
same_copy : (s : Spec) (c : Rankings) (k k' at at' : ℕ) (t u t' u' : RowId) → IsFirstCopyBroken s c k at t u
    → IsFirstCopyBroken s c k' at' t' u' → k ≡ k'
same_copy s c k k' at at' t u t' u' f g =
    ⊎_elim
    (λ (is : k ≡ k'). is)
    (λ (apart : (k < k') ⊎ (k' < k)).
    absurd
    (⊎_elim
    (λ (b : k < k'). no_earlier_copy s c k k' at at' t u t' u' f g b)
    (λ (b : k' < k). no_earlier_copy s c k' k at' at t' u' t u g f b)
    apart))
    (cases_order k k')

same_place : (s : Spec) (c : Rankings) (k at at' : ℕ) (t u t' u' : RowId) → IsFirstCopyBroken s c k at t u
    → IsFirstCopyBroken s c k at' t' u' → at ≡ at'
same_place s c k at at' t u t' u' f g =
    ⊎_elim
    (λ (is : at ≡ at'). is)
    (λ (apart : (at < at') ⊎ (at' < at)).
    absurd
    (⊎_elim
    (λ (b : at < at'). no_earlier_place s c k at at' t u t' u' f g b)
    (λ (b : at' < at). no_earlier_place s c k at' at t' u' t u g f b)
    apart))
    (cases_order at at')

same_pair : (s : Spec) (c : Rankings) (k at : ℕ) (t u t' u' : RowId) → IsFirstCopyBroken s c k at t u
    → IsFirstCopyBroken s c k at t' u' → (t ≡ t') × (u ≡ u')
same_pair s c k at t u t' u' f g =
    ⊎_elim
    (λ (is : (t ≡ t') × (u ≡ u')). is)
    (λ (apart : IsRowPairBefore t u t' u' ⊎ IsRowPairBefore t' u' t u).
    absurd
    (⊎_elim
    (λ (b : IsRowPairBefore t u t' u'). no_earlier_pair s c k at t u t' u' f g b)
    (λ (b : IsRowPairBefore t' u' t u). no_earlier_pair s c k at t' u' t u g f b)
    apart))
    (pairs_order t u t' u')

pub one_copy_broken : (s : Spec) (c : Rankings) (k k' : CopyId) (at at' : ℕ) (t u t' u' : RowId)
    → IsFirstCopyBroken s c k.0 at t u → IsFirstCopyBroken s c k'.0 at' t' u'
    → CopyBroken k at t u ≡ CopyBroken k' at' t' u'
one_copy_broken s c k k' at at' t u t' u' f g =
    let copy = same_copy s c k.0 k'.0 at at' t u t' u' f g in
    let f' : IsFirstCopyBroken s c k'.0 at t u = subst (λ (n : ℕ). IsFirstCopyBroken s c n at t u) copy f in
    let place = same_place s c k'.0 at at' t u t' u' f' g in
    let f'' : IsFirstCopyBroken s c k'.0 at' t u = subst (λ (n : ℕ). IsFirstCopyBroken s c k'.0 n t u) place f' in
    let rows = same_pair s c k'.0 at' t u t' u' f'' g in
    let one : k ≡ k' = ap (λ (n : ℕ). let x : CopyId = record { 0 = n } in x) copy in
    rw (one, place, rows.0, rows.1) refl
