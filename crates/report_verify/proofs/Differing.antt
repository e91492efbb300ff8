-- Where completions differ, and where they agree.
use Rattle.std.proofs.Common.{◌≡◌, ◌<◌, ◌≤◌, true, false, List, [], All, Contains, Some, None, length, slice_get, slice_index_or, sym, ap, ◌∙◌, ⊎_elim, arith}
use Rattle.std.proofs.lemmas.Bool.{cases_lt, false≢true}
use Rattle.std.proofs.lemmas.List.{get_or_past}
use Rattle.std.proofs.lemmas.List.Elements.{All-contains}
use Rattle.std.proofs.lemmas.Option.{same_Some}
use Rattle.axiom_laws.proofs.Decisions.{one_value, value_itself}
use Rattle.current_tuples.specs.Places.{IsPlaceOf}
use Rattle.currency_base.specs.Values.{value_test}
use Rattle.currency_base.specs.declared.ids.AttrId.{AttrId}
use Rattle.currency_base.specs.declared.ids.EntId.{EntId}
use Rattle.currency_base.specs.declared.ids.RelId.{RelId}
use Rattle.currency_base.specs.declared.value.Cmp.TheVariants.{Eq}
use Rattle.currency_base.specs.declared.value.Value.{Value}
use Rattle.denial_rules.specs.Instances.{field_value}
use Rattle.report_verify.specs.Listed.{AgreesAt, OneDiffers}
use Rattle.report_verify.specs.Right.{DifferAt}
use Rattle.report_verify.specs.Supported.{TwoDiffer}
use Rattle.spec_model.specs.Completion.{HasShape, IsCompletion, Rankings, lists_of, ranking_of}
use Rattle.spec_model.specs.Current.{current_value, last_row}
use Rattle.spec_model.specs.declared.relation.Relation.{Relation}

module _ (relations : List Relation) (rel : RelId) (attr : AttrId) (ent : EntId) where
  -- a completion's current value at the place
  abbrev IsValue : Rankings → Value → Type 0
  IsValue c v = (r : Relation) → slice_get relations rel.0 ≡ Some r → current_value c rel.0 r.rows attr.0 ent.0 ≡ Some v

  -- ---- values that are read

  pub agrees : (c d : Rankings) (v w : Value) → IsValue c v → IsValue d w → value_test Eq v w ≡ true
      → AgreesAt relations rel attr ent c d
  agrees c d v w first second e r at = first r at ∙ ap Some (one_value v w e) ∙ sym (second r at)

  pub differs : (c d : Rankings) (v w : Value) → IsPlaceOf relations rel.0 attr.0 ent.0 → IsValue c v → IsValue d w
      → value_test Eq v w ≡ false → DifferAt relations rel attr ent c d
  differs c d v w place first second e = record {
    relation = place.relation;
    is_relation = place.is_relation;
    differ = λ same.
        let one : v ≡ w =
        same_Some v w (sym (first place.relation place.is_relation) ∙ same ∙ second place.relation place.is_relation) in
        false≢true (sym e ∙ ap (λ u. value_test Eq u w) one ∙ value_itself w);
  }

  -- ---- listed completions

  -- two differ where one differs from a listed one
  pub two_of_one : (cs : List Rankings) (first : Rankings) → Contains cs first → OneDiffers relations rel attr ent first cs
      → TwoDiffer relations rel attr ent cs
  two_of_one cs first listed one =
      record { one = first; other = one.other; one_listed = listed; other_listed = one.listed; differ = one.differ }

  -- none differ where all agree with one
  pub none_differ : (cs : List Rankings) (first : Rankings) → All (AgreesAt relations rel attr ent first) cs
      → TwoDiffer relations rel attr ent cs → ⊥
  none_differ cs first all two =
      let r = two.differ.relation in
      let at = two.differ.is_relation in
      two.differ.differ
      (sym (All-contains (AgreesAt relations rel attr ent first) cs two.one all two.one_listed r at)
      ∙ All-contains (AgreesAt relations rel attr ent first) cs two.other all two.other_listed r at)

  -- none differ where none is listed
  pub none_listed : (cs : List Rankings) → length cs ≡ 0 → TwoDiffer relations rel attr ent cs → ⊥
  none_listed cs none two = let below = two.one_listed.1 in absurd (omega arith)

  -- ---- a place that is not there

  pub no_list : (c : Rankings) (r : Relation) → HasShape relations c → slice_get relations rel.0 ≡ Some r
      → (IsPlaceOf relations rel.0 attr.0 ent.0 → ⊥) → ranking_of c rel.0 attr.0 ent.0 ≡ []
  no_list c r shape at missing =
      ⊎_elim
      (λ (attr_in : attr.0 < length r.attrs).
      ⊎_elim
      (λ (ent_in : ent.0 < length r.entities).
      absurd (missing record { relation = r; is_relation = at; attr_within = attr_in; ent_within = ent_in }))
      (λ (past : length r.entities ≤ ent.0).
      let count = shape.per_entity rel.0 r at attr.0 attr_in in
      get_or_past (lists_of c rel.0 attr.0) ent.0 [] (omega arith))
      (cases_lt ent.0 (length r.entities)))
      (λ (past : length r.attrs ≤ attr.0).
      let count = shape.per_attr rel.0 r at in
      ap (λ ls. slice_index_or ls ent.0 []) (get_or_past (slice_index_or c rel.0 []) attr.0 [] (omega arith)))
      (cases_lt attr.0 (length r.attrs))

  pub no_value : (c : Rankings) (r : Relation) → HasShape relations c → slice_get relations rel.0 ≡ Some r
      → (IsPlaceOf relations rel.0 attr.0 ent.0 → ⊥) → current_value c rel.0 r.rows attr.0 ent.0 ≡ None
  no_value c r shape at missing = ap (λ list. field_value r.rows (last_row list) attr.0) (no_list c r shape at missing)

  pub no_place : (cs : List Rankings) → All (IsCompletion relations) cs → (IsPlaceOf relations rel.0 attr.0 ent.0 → ⊥)
      → TwoDiffer relations rel attr ent cs → ⊥
  no_place cs all missing two =
      let r = two.differ.relation in
      let at = two.differ.is_relation in
      let one = All-contains (IsCompletion relations) cs two.one all two.one_listed in
      let other = All-contains (IsCompletion relations) cs two.other all two.other_listed in
      two.differ.differ (no_value two.one r one.shape at missing ∙ sym (no_value two.other r other.shape at missing))
