-- The copy functions of a specification stay between its relations when these grow or change their given pairs.
use Rattle.std.proofs.Common.{◌≡◌, ℕ, List, ◌++◌, slice_get, slice_set, Some, refl, sym, subst, ap, ◌∙◌, ⊎_elim}
use Rattle.std.proofs.lemmas.Bool.{cases_eq}
use Rattle.std.proofs.lemmas.List.Elements.{All-weaker}
use Rattle.std.proofs.lemmas.Option.{same_Some}
use Rattle.currency_base.specs.declared.pair.Pair.{Pair}
use Rattle.copy_functions.specs.Copies.{CopyFunction, IsCopied}
use Rattle.copy_functions.specs.declared.place.Place.{Place}
use Rattle.spec_model.specs.declared.relation.Relation.{Relation}
use Rattle.spec_model.specs.Facts.{IsPlaceBetween, IsCopyAmong, AreCopies, kinds_of}
use Rattle.spec_model.proofs.AddedRules.{get_left, get_set_same, get_set_other}

copy_beside : (rs more : List Relation) (copy : CopyFunction) → IsCopyAmong rs copy → IsCopyAmong (rs ++ more) copy
copy_beside rs more copy h =
    record {
      target = h.target;
      source = h.source;
      is_target = get_left rs more copy.target.0 h.target h.is_target;
      is_source = get_left rs more copy.source.0 h.source h.is_source;
      places = h.places;
      copied = h.copied;
    }

-- more relations
pub copies_beside : (rs more : List Relation) (copies : List CopyFunction) → AreCopies rs copies → AreCopies (rs ++ more) copies
copies_beside rs more copies h =
    record {
      few = h.few;
      each = All-weaker (IsCopyAmong rs) (IsCopyAmong (rs ++ more)) (copy_beside rs more) copies
          h.each;
      names = h.names;
    }

-- a relation with the same attributes and rows
record IsAlike (r other : Relation) : Type 0 where
  pub attrs : kinds_of other ≡ kinds_of r
  pub rows : other.rows ≡ r.rows

-- what stands at a place after other given pairs at one relation: a relation that is alike
record IsFoundAlike (rs : List Relation) (at : ℕ) (r : Relation) : Type 0 where
  pub other : Relation
  pub is_other : slice_get rs at ≡ Some other
  pub alike : IsAlike r other

found_alike : (rs : List Relation) (i at : ℕ) (r q : Relation) (given : List Pair) → slice_get rs i ≡ Some r
    → slice_get rs at ≡ Some q
    → IsFoundAlike (slice_set rs i (record r { given = given })) at q
found_alike rs i at r q given at_r at_q =
    ⊎_elim
    (λ (is : at ≡ i).
    let same : r ≡ q = same_Some r q (sym at_r ∙ (sym (ap (slice_get rs) is) ∙ at_q)) in
    record {
      other = record r { given = given };
      is_other = ap (slice_get (slice_set rs i (record r { given = given }))) is ∙ get_set_same rs i r
          (record r { given = given }) at_r;
      alike = record { attrs = ap (λ (x : Relation). kinds_of x) same; rows = ap (λ (x : Relation). x.rows) same };
    })
    (λ (apart : at ≡ i → ⊥).
    record {
      other = q;
      is_other = get_set_other rs i at (record r { given = given }) apart ∙ at_q;
      alike = record { attrs = refl; rows = refl };
    })
    (cases_eq at i)

place_alike : (target source target' source' : Relation) → IsAlike target target' → IsAlike source source'
    → (place : Place) → IsPlaceBetween target source place → IsPlaceBetween target' source' place
place_alike target source target' source' t s place h =
    record {
      kind = h.kind;
      in_target = ap (λ kinds. slice_get kinds place.target.0) t.attrs ∙ h.in_target;
      in_source = ap (λ kinds. slice_get kinds place.source.0) s.attrs ∙ h.in_source;
    }

copy_given : (rs : List Relation) (i : ℕ) (r : Relation) (given : List Pair) → slice_get rs i ≡ Some r
    → (copy : CopyFunction) → IsCopyAmong rs copy → IsCopyAmong (slice_set rs i (record r { given = given })) copy
copy_given rs i r given at copy h =
    let t = found_alike rs i copy.target.0 r h.target given at h.is_target in
    let s = found_alike rs i copy.source.0 r h.source given at h.is_source in
    record {
      target = t.other;
      source = s.other;
      is_target = t.is_other;
      is_source = s.is_other;
      places = All-weaker (IsPlaceBetween h.target h.source) (IsPlaceBetween t.other s.other)
          (place_alike h.target h.source t.other s.other t.alike s.alike) copy.places h.places;
      copied = subst (λ rows. IsCopied copy rows s.other.rows) (sym t.alike.rows)
          (subst (λ rows. IsCopied copy h.target.rows rows) (sym s.alike.rows) h.copied);
    }

-- other given pairs at one relation
pub copies_given : (rs : List Relation) (i : ℕ) (r : Relation) (given : List Pair) (copies : List CopyFunction)
    → slice_get rs i ≡ Some r
    → AreCopies rs copies → AreCopies (slice_set rs i (record r { given = given })) copies
copies_given rs i r given copies at h =
    record {
      few = h.few;
      each = All-weaker (IsCopyAmong rs) (IsCopyAmong (slice_set rs i (record r { given = given })))
          (copy_given rs i r given at) copies h.each;
      names = h.names;
    }
