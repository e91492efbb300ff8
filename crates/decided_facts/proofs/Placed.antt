-- Claims on current values of one place.
use Rattle.std.proofs.Common.{◌≡◌, ◌∙◌, ◌∷◌, List, [], All, Some, slice_get, length, ap, subst, sym, arith}
use Rattle.std.proofs.lemmas.List.Elements.{All-head, All-cons, All-nil}
use Rattle.std.proofs.lemmas.Option.{none-some, same_Some}
use Rattle.currency_base.specs.declared.ids.AttrId.{AttrId}
use Rattle.currency_base.specs.declared.ids.EntId.{EntId}
use Rattle.currency_base.specs.declared.ids.RelId.{RelId}
use Rattle.currency_base.specs.declared.row.Row.{Row}
use Rattle.currency_base.specs.declared.value.Value.{Value}
use Rattle.match_premises.specs.declared.premise.Premise.{Premise}
use Rattle.posed_facts.specs.Facts.{FactIn, IsCurrent}
use Rattle.posed_facts.specs.declared.fact.Fact.{Fact}
use Rattle.posed_facts.specs.declared.fact.Fact.TheVariants as fact
use Rattle.report_verify.specs.Right.{EachConsistent}
use Rattle.spec_model.specs.Completion.{Rankings}
use Rattle.spec_model.specs.Consistent.{IsConsistent}
use Rattle.spec_model.specs.Current.{current_value}
use Rattle.spec_model.specs.Spec.{Spec}
use Rattle.spec_model.specs.declared.relation.Relation.{Relation}
use Rattle.decided_facts.specs.Claims.{AreOfOnePlace, IsOfEntity}

-- what a claim says of a completion, read by its relation and its entity
record Reads (relations : List Relation) (p : Premise) (ent : EntId) (c : Rankings) : Type 0 where
  relation : Relation
  is_relation : slice_get relations p.rel.0 ≡ Some relation
  row : Row
  is_row : slice_get relation.rows p.row.0 ≡ Some row
  entity : row.entity ≡ ent
  value : Value
  is_value : slice_get row.values p.attr.0 ≡ Some value
  current : current_value c p.rel.0 relation.rows p.attr.0 ent.0 ≡ Some value

reads : (relations : List Relation) (p : Premise) (ent : EntId) (c : Rankings) → IsOfEntity relations p ent
    → IsCurrent relations p c → Reads relations p ent c
reads relations p ent c of now =
    let same : of.relation ≡ now.relation = same_Some of.relation now.relation (sym of.is_relation ∙ now.is_relation) in
    let is_row : slice_get now.relation.rows p.row.0 ≡ Some of.row =
    subst (λ (one : Relation). slice_get one.rows p.row.0 ≡ Some of.row) same of.is_row in
    let same_row : of.row ≡ now.row = same_Some of.row now.row (sym is_row ∙ now.is_row) in
    let entity : now.row.entity ≡ ent = subst (λ (one : Row). one.entity ≡ ent) same_row of.entity in
    record {
      relation = now.relation;
      is_relation = now.is_relation;
      row = now.row;
      is_row = now.is_row;
      entity = entity;
      value = now.value;
      is_value = now.is_value;
      current = subst (λ (e : EntId). current_value c p.rel.0 now.relation.rows p.attr.0 e.0 ≡ Some now.value) entity now.current;
    }

-- the current value of a place does not hang on which claim it is read by
one_value : (relations : List Relation) (p q : Premise) (ent : EntId) (c : Rankings) (r other : Relation) → p.rel ≡ q.rel
    → p.attr ≡ q.attr → slice_get relations p.rel.0 ≡ Some r → slice_get relations q.rel.0 ≡ Some other
    → current_value c p.rel.0 r.rows p.attr.0 ent.0 ≡ current_value c q.rel.0 other.rows q.attr.0 ent.0
one_value relations p q ent c r other rel attr is_r is_other =
    let at : slice_get relations p.rel.0 ≡ Some other =
    subst (λ (one : RelId). slice_get relations one.0 ≡ Some other) (sym rel) is_other in
    let same : r ≡ other = same_Some r other (sym is_r ∙ at) in
    subst (λ (one : Relation). current_value c p.rel.0 r.rows p.attr.0 ent.0
    ≡ current_value c q.rel.0 one.rows q.attr.0 ent.0) same
    (subst (λ (a : AttrId). current_value c p.rel.0 r.rows p.attr.0 ent.0 ≡ current_value c q.rel.0 r.rows a.0 ent.0) attr
    (ap (λ (one : RelId). current_value c one.0 r.rows p.attr.0 ent.0) rel))

-- two claims of one place that hold in one completion hold in the same ones
pub same_place : (relations : List Relation) (p q : Premise) (c d : Rankings) → AreOfOnePlace relations p q
    → IsCurrent relations p c → IsCurrent relations q c → IsCurrent relations q d → IsCurrent relations p d
same_place relations p q c d place now other later =
    let p_now = reads relations p place.ent c place.one now in
    let q_now = reads relations q place.ent c place.other other in
    let q_later = reads relations q place.ent d place.other later in
    let value : p_now.value ≡ q_now.value = same_Some p_now.value q_now.value (sym p_now.current
    ∙ (one_value relations p q place.ent c p_now.relation q_now.relation place.rel place.attr p_now.is_relation
    q_now.is_relation ∙ q_now.current)) in
    let kept : q_now.value ≡ q_later.value = one_claim relations q q_now q_later in
    record {
      relation = p_now.relation;
      is_relation = p_now.is_relation;
      row = p_now.row;
      is_row = p_now.is_row;
      value = p_now.value;
      is_value = p_now.is_value;
      current = subst (λ (e : EntId). current_value d p.rel.0 p_now.relation.rows p.attr.0 e.0 ≡ Some p_now.value)
          (sym p_now.entity)
          (one_value relations p q place.ent d p_now.relation q_later.relation place.rel place.attr p_now.is_relation
          q_later.is_relation ∙ (q_later.current ∙ sym (ap Some (value ∙ kept))));
    }
  where
    one_claim : (relations : List Relation) (q : Premise) → {ent : EntId} → {c d : Rankings} → (one : Reads relations q ent c)
        → (two : Reads relations q ent d) → one.value ≡ two.value
    one_claim relations q one two =
        let same : one.relation ≡ two.relation = same_Some one.relation two.relation (sym one.is_relation ∙ two.is_relation) in
        let at : slice_get two.relation.rows q.row.0 ≡ Some one.row =
        subst (λ (r : Relation). slice_get r.rows q.row.0 ≡ Some one.row) same one.is_row in
        let row : one.row ≡ two.row = same_Some one.row two.row (sym at ∙ two.is_row) in
        same_Some one.value two.value
        (sym (subst (λ (r : Row). slice_get r.values q.attr.0 ≡ Some one.value) row one.is_value) ∙ two.is_value)

-- a fact that denies a claim of a place holds in every consistent completion, where it holds in one, and another claim of the
-- place is certain
pub follows : (s : Spec) (f : Fact) (p q : Premise) (first : Rankings) → f ≡ fact.Lacks (p ∷ []) → AreOfOnePlace s.relations p q
    → EachConsistent s (IsCurrent s.relations q) → IsConsistent s first → FactIn s.relations f first
    → EachConsistent s (FactIn s.relations f)
follows s f p q first is place certain consistent holds c in_whole =
    let lacks = subst (λ (one : Fact). FactIn s.relations one first) is holds in
    subst (λ (one : Fact). FactIn s.relations one c) (sym is)
    (λ (now : All (λ o. IsCurrent s.relations o c) (p ∷ [])).
    lacks (All-cons (λ o. IsCurrent s.relations o first) p []
    (same_place s.relations p q c first place (All-head (λ o. IsCurrent s.relations o c) p [] now) (certain c in_whole)
    (certain first consistent)) (All-nil (λ o. IsCurrent s.relations o first))))

-- the only item of a list
pub only : {A : Type 0} (list : List A) (x : A) → length list ≡ 1 → slice_get list 0 ≡ Some x → list ≡ x ∷ []
only [] x one at = absurd (none-some x at)
only (y ∷ []) x one at = ap (λ z. z ∷ []) (same_Some y x at)
only (y ∷ z ∷ list) x one at = absurd (omega (arith, one))
