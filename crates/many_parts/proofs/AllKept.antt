-- What is joined from consistent completions of all parts is a consistent completion of the whole.
use Rattle.std.proofs.Common.{◌≡◌, ℕ, true, Some, slice_get, arith}
use Rattle.std.proofs.lemmas.List.Elements.{All-contains}
use Rattle.currency_base.specs.declared.ids.RowId.{RowId}
use Rattle.part_join.specs.Fits.{CompletionsFit}
use Rattle.part_laws.proofs.Fitting.{rule_fits}
use Rattle.part_laws.proofs.FromPart.{ranked_from_part, kept_from_part}
use Rattle.part_laws.proofs.Rows.{all_at, there, entity_of_row, entity_below}
use Rattle.part_laws.proofs.Scoped.{IsKeptIn}
use Rattle.partial_orders.specs.Pairs.{entity_of}
use Rattle.spec_model.specs.Completion.{IsCompletion}
use Rattle.spec_model.specs.Consistent.{KeepsGiven, SatisfiesRules, IsCompatibleWith, IsConsistent}
use Rattle.spec_model.specs.Facts.{IsRelation, IsGivenPair}
use Rattle.spec_model.specs.declared.relation.Relation.{Relation}
use Rattle.many_parts.specs.ManyParts.{Part}
use Rattle.many_parts.proofs.AllJoined.{Pieces, ArePieces, all_joined, shape_joined, parted_at, is_parted}

module _ (fit : CompletionsFit) (b : Pieces) (is : ArePieces b) where
  facts_at : (rel : ℕ) (r : Relation) → slice_get b.s.relations rel ≡ Some r → IsRelation r
  facts_at rel r at = all_at IsRelation b.s.relations rel r is.whole_is.relations.each at

  completion_joined : IsCompletion b.s.relations (all_joined b)
  completion_joined = record {
    shape = shape_joined b;
    ranked = λ rel r at attr ent inside below.
        let found = is.are.all rel r at ent below in
        let p = found.1.part in
        ranked_from_part (parted_at b found.0 p) (is_parted fit b found.0 p is found.1.is_part)
        (is.chosen found.0 p found.1.is_part).completion rel r at attr ent inside below found.1.is_in;
  }

  -- the part that has an entity of some row keeps all that speaks of it
  record IsHeld (rel ent : ℕ) : Type 0 where
    part : Part
    is_in : part.scope rel ent ≡ true
    kept : IsKeptIn b.s part.scope (all_joined b)

  kept_of : (rel : ℕ) (r : Relation) (row : RowId) (ent : ℕ) → slice_get b.s.relations rel ≡ Some r
      → entity_of r.rows row.0 ≡ Some ent → IsHeld rel ent
  kept_of rel r row ent at of =
      let found = is.are.all rel r at ent (entity_below r row.0 ent (facts_at rel r at) of) in
      let p = found.1.part in
      record {
        part = p;
        is_in = found.1.is_in;
        kept = kept_from_part (parted_at b found.0 p) (is_parted fit b found.0 p is found.1.is_part) completion_joined
            (is.chosen found.0 p found.1.is_part);
      }

  given_joined : KeepsGiven b.s.relations (all_joined b)
  given_joined rel r at pair among =
      let fits = All-contains (IsGivenPair r) r.given pair (facts_at rel r at).given among in
      let one = there r.rows pair.earlier.0 fits.earlier in
      let of = entity_of_row r.rows pair.earlier.0 one.0 one.1 in
      let held = kept_of rel r pair.earlier one.0.entity.0 at of in
      held.kept.given rel r at pair among one.0.entity.0 of held.is_in

  -- a rule has a variable, so a choice has a row
  rules_joined : SatisfiesRules b.s.relations b.s.rules (all_joined b)
  rules_joined at rule is_rule r at_r rows choice =
      let some = (rule_fits b.s at rule r is.whole_is is_rule at_r).some_var in
      let one = there rows 0 (omega (arith, some, choice.one_each)) in
      let of = all_at (λ (x : RowId). entity_of r.rows x.0 ≡ Some choice.ent) rows 0 one.0 choice.of_entity one.1 in
      let held = kept_of rule.relation.0 r one.0 choice.ent at_r of in
      held.kept.rules at rule is_rule r at_r rows choice held.is_in

  copies_joined : IsCompatibleWith b.s.relations b.s.copies (all_joined b)
  copies_joined at copy is_copy t u is_t is_u place_at place is_place first second rows =
      let held = kept_of copy.target.0 t first rows.ent is_t rows.first_of in
      held.kept.copies at copy is_copy t u is_t is_u place_at place is_place first second rows held.is_in

  pub consistent_joined : IsConsistent b.s (all_joined b)
  consistent_joined = record {
    completion = completion_joined;
    given = given_joined;
    rules = rules_joined;
    copies = copies_joined;
  }
