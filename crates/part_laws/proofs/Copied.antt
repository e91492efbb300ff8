-- Mapped rows of a part, and of the whole; and the order that they keep.
use Rattle.std.proofs.Common.{◌≡◌, ◌<◌, ◌∙◌, ℕ, true, [], Some, length, slice_get, slice_index_or, sym, ap}
use Rattle.currency_base.specs.declared.ids.RowId.{RowId}
use Rattle.copy_functions.specs.Copies.{CopyFunction}
use Rattle.partial_orders.specs.Pairs.{entity_of}
use Rattle.spec_model.specs.Compatible.{AreCopiedTogether}
use Rattle.spec_model.specs.Completion.{Before}
use Rattle.part_laws.specs.Parts.{IsCopyPart}
use Rattle.part_laws.proofs.Rows.{Cut, IsCut, row_cut, old_there, of_part, of_whole, same_number}
use Rattle.part_laws.proofs.Listed.{before_whole, before_part}
use Rattle.part_laws.proofs.Choices.{AreAllListed}

-- a copy function, its part, and the target and the source relation
pub record Copied : Type 0 where
  pub copy : CopyFunction
  pub part : CopyFunction
  pub target : Cut
  pub source : Cut

pub record IsCopied (d : Copied) : Type 0 where
  pub of : IsCopyPart d.copy d.target.rows d.source.rows d.part
  pub target : IsCut d.target
  pub source : IsCut d.source
  pub target_listed : AreAllListed d.target
  pub source_listed : AreAllListed d.source

-- mapped rows of the part, and of the whole
abbrev pub InPart : Copied → RowId → RowId → Type 0
InPart d first second = AreCopiedTogether d.part d.target.part.rows d.source.part.rows first second

abbrev pub InWhole : Copied → RowId → RowId → Type 0
InWhole d first second = AreCopiedTogether d.copy d.target.whole.rows d.source.whole.rows first second

-- both are the same rows
pub record AreMatched (d : Copied) (first second old_first old_second : RowId) (part : InPart d first second)
    (whole : InWhole d old_first old_second) : Type 0 where
  pub first_at : slice_get d.target.rows first.0 ≡ Some old_first
  pub second_at : slice_get d.target.rows second.0 ≡ Some old_second
  pub first_from : slice_get d.source.rows part.first_source.0 ≡ Some whole.first_source
  pub second_from : slice_get d.source.rows part.second_source.0 ≡ Some whole.second_source

-- two rows of the part that are of one entity are of one entity of the whole
together : (k : Cut) (a b old_a old_b : RowId) (ent : ℕ) → IsCut k → slice_get k.rows a.0 ≡ Some old_a
    → slice_get k.rows b.0 ≡ Some old_b
    → entity_of k.part.rows a.0 ≡ Some ent → entity_of k.part.rows b.0 ≡ Some ent
    → (old : ℕ) × (entity_of k.whole.rows old_a.0 ≡ Some old) × (entity_of k.whole.rows old_b.0 ≡ Some old)
together k a b old_a old_b ent is at_a at_b of_a of_b =
    let cut = row_cut k a old_a is at_a in
    let same : cut.ent ≡ ent = same_number k.part.rows a.0 cut.ent ent cut.of_part of_a in
    (cut.old_ent.0, cut.of_whole, of_whole k b old_b cut.ent cut.old_ent is at_b cut.is_ent (of_b ∙ ap Some (sym same)))

-- and the other way round
together_part : (k : Cut) (a b old_a old_b : RowId) (old : ℕ) → IsCut k → slice_get k.rows a.0 ≡ Some old_a
    → slice_get k.rows b.0 ≡ Some old_b
    → entity_of k.whole.rows old_a.0 ≡ Some old → entity_of k.whole.rows old_b.0 ≡ Some old
    → (ent : ℕ) × (entity_of k.part.rows a.0 ≡ Some ent) × (entity_of k.part.rows b.0 ≡ Some ent)
together_part k a b old_a old_b old is at_a at_b of_a of_b =
    let cut = row_cut k a old_a is at_a in
    let same : cut.old_ent.0 ≡ old = same_number k.whole.rows old_a.0 cut.old_ent.0 old cut.of_whole of_a in
    (cut.ent, cut.of_part, of_part k b old_b cut.ent cut.old_ent is at_b cut.is_ent (of_b ∙ ap Some (sym same)))

-- mapped rows of the part are mapped rows of the whole
pub matched_whole : (d : Copied) (first second : RowId) → IsCopied d → (part : InPart d first second)
    → (old_first : RowId) × (old_second : RowId) × (whole : InWhole d old_first old_second)
    × AreMatched d first second old_first old_second part whole
matched_whole d first second is part =
    let a = is.of.mapped_are first part.first_source part.first_is in
    let b = is.of.mapped_are second part.second_source part.second_is in
    let targets = together d.target first second a.0 b.0 part.ent is.target a.2 b.2 part.first_of part.second_of in
    let sources = together d.source part.first_source part.second_source a.1 b.1 part.source_ent is.source a.3 b.3
    part.first_source_of
    part.second_source_of in (
      a.0,
      b.0,
      record {
        first_source = a.1;
        second_source = b.1;
        first_is = a.4;
        second_is = b.4;
        ent = targets.0;
        first_of = targets.1;
        second_of = targets.2;
        source_ent = sources.0;
        first_source_of = sources.1;
        second_source_of = sources.2;
      },
      record { first_at = a.2; second_at = b.2; first_from = a.3; second_from = b.3 },
    )

-- and those of the whole whose entities are in the scope are mapped rows of the part
pub matched_part : (d : Copied) (old_first old_second : RowId) → IsCopied d → (whole : InWhole d old_first old_second)
    → d.target.scope d.target.rel whole.ent ≡ true → d.source.scope d.source.rel whole.source_ent ≡ true
    → (first : RowId) × (second : RowId) × (part : InPart d first second) × AreMatched d first second old_first
    old_second part whole
matched_part d old_first old_second is whole inside source_inside =
    let a = old_there d.target old_first whole.ent is.target whole.first_of inside in
    let b = old_there d.target old_second whole.ent is.target whole.second_of inside in
    let from_a = old_there d.source whole.first_source whole.source_ent is.source whole.first_source_of source_inside in
    let from_b = old_there d.source whole.second_source whole.source_ent is.source whole.second_source_of source_inside in
    let targets = together_part d.target a.0 b.0 old_first old_second whole.ent is.target a.1 b.1 whole.first_of
    whole.second_of in
    let sources = together_part d.source from_a.0 from_b.0 whole.first_source whole.second_source whole.source_ent
    is.source from_a.1
    from_b.1
    whole.first_source_of whole.second_source_of in (
      a.0,
      b.0,
      record {
        first_source = from_a.0;
        second_source = from_b.0;
        first_is = is.of.mapped_all a.0 from_a.0 old_first whole.first_source a.1 from_a.1 whole.first_is;
        second_is = is.of.mapped_all b.0 from_b.0 old_second whole.second_source b.1 from_b.1 whole.second_is;
        ent = targets.0;
        first_of = targets.1;
        second_of = targets.2;
        source_ent = sources.0;
        first_source_of = sources.1;
        second_source_of = sources.2;
      },
      record { first_at = a.1; second_at = b.1; first_from = from_a.1; second_from = from_b.1 },
    )

-- ---- orders

-- where the same rows of the whole keep the order of their sources, these of the part do
pub keeps_part : (d : Copied) (attr from : ℕ) (first second old_first old_second : RowId)
    → (part : InPart d first second) (whole : InWhole d old_first old_second)
    → IsCopied d → attr < length d.target.whole.attrs → from < length d.source.whole.attrs
    → AreMatched d first second old_first old_second part whole
    → (Before (slice_index_or d.source.lists from []) whole.first_source whole.second_source
    → Before (slice_index_or d.target.lists attr []) old_first old_second)
    → Before (slice_index_or d.source.part_lists from []) part.first_source part.second_source
    → Before (slice_index_or d.target.part_lists attr []) first second
keeps_part d attr from first second old_first old_second part whole is inside from_inside are keeps before =
    before_part d.target attr first second old_first old_second is.target inside (is.target_listed attr inside)
    are.first_at are.second_at
    (keeps (before_whole d.source from part.first_source part.second_source whole.first_source whole.second_source
    is.source from_inside
    are.first_from are.second_from before))

-- and the other way round
pub keeps_whole : (d : Copied) (attr from : ℕ) (first second old_first old_second : RowId)
    → (part : InPart d first second) (whole : InWhole d old_first old_second)
    → IsCopied d → attr < length d.target.whole.attrs → from < length d.source.whole.attrs
    → AreMatched d first second old_first old_second part whole
    → (Before (slice_index_or d.source.part_lists from []) part.first_source part.second_source
    → Before (slice_index_or d.target.part_lists attr []) first second)
    → Before (slice_index_or d.source.lists from []) whole.first_source whole.second_source
    → Before (slice_index_or d.target.lists attr []) old_first old_second
keeps_whole d attr from first second old_first old_second part whole is inside from_inside are keeps before =
    before_whole d.target attr first second old_first old_second is.target inside are.first_at are.second_at
    (keeps (before_part d.source from part.first_source part.second_source whole.first_source whole.second_source
    is.source from_inside
    (is.source_listed from from_inside) are.first_from are.second_from before))
