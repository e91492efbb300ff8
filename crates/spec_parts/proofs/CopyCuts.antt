-- What can be cut out of copy functions, and that it is copied.
use Rattle.std.proofs.Common.{◌≡◌, ◌⊎◌, ◌+◌, ◌<◌, ◌∙◌, ℕ, true, List, [], ◌∷◌, ◌++◌, All, Some, Result, Ok, Err, IfOk, OnOk, length, map, slice_get, is_ok, refl, sym, ap, subst, inl, inr, arith}
use Rattle.std.proofs.lemmas.Bool.{false≢true}
use Rattle.std.proofs.lemmas.List.{length_push}
use Rattle.std.proofs.lemmas.List.Elements.{All-weaker}
use Rattle.std.proofs.lemmas.Option.{none-some, same_Some, slice_get_within}
use Rattle.currency_base.specs.Lists.{OnlyOnce}
use Rattle.currency_base.specs.declared.ids.EntId.{EntId}
use Rattle.currency_base.specs.declared.ids.RowId.{RowId}
use Rattle.currency_base.specs.declared.value.Value.{Value}
use Rattle.copy_functions.specs.Copies.{CopyFunction, source_at, values_in, values_of, AreEqualAt, IsCopied}
use Rattle.copy_functions.specs.declared.place.Place.{Place}
use Rattle.spec_model.specs.Facts.{IsCopyAmong, IsPlaceBetween, AreCopies, kinds_of}
use Rattle.spec_model.specs.declared.relation.Relation.{Relation}
use Rattle.part_laws.specs.Parts.{Places, IsRowPart, IsCopyPart, rows_in, entities_in}
use Rattle.spec_parts.specs.Steps.{AreCuttable, IsPartSoFar, ArePartsSoFar, AreClosedCopies, AreCopiesSoFar, IsCopyCutOf, IsCopiedIn}
use Rattle.spec_parts.proofs.Pairing.{item_at, item_has, each_has, partner, at_push, unmapped, mapped}
use Rattle.spec_parts.proofs.PartLists.{part_at}

-- a row of the part has the values of the row that it is
values_same : (r new : Relation) (rows : List RowId) (entities : List EntId) (row old : RowId) → IsPartSoFar r rows entities new
    → slice_get rows row.0 ≡ Some old → values_of new.rows row ≡ values_of r.rows old
values_same r new rows entities row old part at =
    let one = partner (IsRowPart r.rows entities) rows new.rows row.0 old part.rows at in
    ap values_in one.1 ∙ (one.2.values ∙ ap values_in (sym one.2.is_old))

pub kinds_same : (r new : Relation) (rows : List RowId) (entities : List EntId) → IsPartSoFar r rows entities new
    → kinds_of new ≡ kinds_of r
kinds_same r new rows entities part = ap (λ attrs. map (λ a. a.kind) attrs) part.attrs

module _ (relations : List Relation) (copies : List CopyFunction) (n : Places) (part : List Relation)
    (cut : AreCuttable relations n)
    (are : ArePartsSoFar relations n (length relations) part) (facts : AreCopies relations copies) where
  -- a copy function, and the relations of the part that it is between
  record Between (copy : CopyFunction) : Type 0 where
    pub among : IsCopyAmong relations copy
    pub target : Relation
    pub source : Relation
    pub is_target : slice_get part copy.target.0 ≡ Some target
    pub is_source : slice_get part copy.source.0 ≡ Some source
    pub target_part : IsPartSoFar among.target (rows_in n copy.target.0) (entities_in n copy.target.0) target
    pub source_part : IsPartSoFar among.source (rows_in n copy.source.0) (entities_in n copy.source.0) source

  between : (k : ℕ) (copy : CopyFunction) → slice_get copies k ≡ Some copy → Between copy
  between k copy at =
      let among = item_has (IsCopyAmong relations) copies facts.each k copy at in
      let t = part_at relations n (length relations) part are copy.target.0 among.target
      (slice_get_within relations copy.target.0 among.target among.is_target) among.is_target in
      let s = part_at relations n (length relations) part are copy.source.0 among.source
      (slice_get_within relations copy.source.0 among.source among.is_source) among.is_source in
      record {
        among = among;
        target = t.0;
        source = s.0;
        is_target = t.1;
        is_source = s.1;
        target_part = t.2;
        source_part = s.2;
      }

  pub copy_cut_of : AreClosedCopies copies n → (k : ℕ) (copy : CopyFunction) → slice_get copies k ≡ Some copy
      → IsCopyCutOf n part copy
  copy_cut_of closed k copy at = record {
    target = b.target;
    source = b.source;
    is_target = b.is_target;
    is_source = b.is_source;
    target_within = omega (
      arith,
      slice_get_within relations copy.target.0 b.among.target b.among.is_target,
      cut.rows_per_relation,
    );
    source_within = omega (
      arith,
      slice_get_within relations copy.source.0 b.among.source b.among.is_source,
      cut.rows_per_relation,
    );
    cut = record {
      targets_ascend = (cut.each copy.target.0 b.among.target b.among.is_target).rows_ascend;
      sources_ascend = (cut.each copy.source.0 b.among.source b.among.is_source).rows_ascend;
      few_targets = (cut.each copy.target.0 b.among.target b.among.is_target).few_rows;
      few_sources = (cut.each copy.source.0 b.among.source b.among.is_source).few_rows;
      per_target = b.target_part.rows.many;
      per_source = b.source_part.rows.many;
      closed = closed k copy at;
      in_target = in_target;
      in_source = in_source;
    };
  }
    where
      b : Between copy
      b = between k copy at

      in_target : (row old from : RowId) → slice_get (rows_in n copy.target.0) row.0 ≡ Some old → source_at copy old ≡ Some from
          → All (λ p. p.target.0 < length (values_of b.target.rows row)) copy.places
      in_target row old from at_row maps =
          let equal = (b.among.copied old from maps).equal in
          let same = values_same b.among.target b.target (rows_in n copy.target.0) (entities_in n copy.target.0) row
          old b.target_part
          at_row in
          each_has (λ (p : Place). p.target.0 < length (values_of b.target.rows row)) copy.places (λ i p at_p.
          let one = item_has (AreEqualAt (values_of b.among.target.rows old) (values_of b.among.source.rows from))
          copy.places equal i p
          at_p in
          subst (λ (vs : List Value). p.target.0 < length vs) (sym same)
          (slice_get_within (values_of b.among.target.rows old) p.target.0 one.value one.in_target))

      in_source : (row old from : RowId) → slice_get (rows_in n copy.source.0) row.0 ≡ Some from → source_at copy old ≡ Some from
          → All (λ p. p.source.0 < length (values_of b.source.rows row)) copy.places
      in_source row old from at_row maps =
          let equal = (b.among.copied old from maps).equal in
          let same = values_same b.among.source b.source (rows_in n copy.source.0) (entities_in n copy.source.0) row
          from b.source_part
          at_row in
          each_has (λ (p : Place). p.source.0 < length (values_of b.source.rows row)) copy.places (λ i p at_p.
          let one = item_has (AreEqualAt (values_of b.among.target.rows old) (values_of b.among.source.rows from))
          copy.places equal i p
          at_p in
          subst (λ (vs : List Value). p.source.0 < length vs) (sym same)
          (slice_get_within (values_of b.among.source.rows from) p.source.0 one.value one.in_source))

  -- a copy function of the part is one among its relations
  copy_among : (k : ℕ) (copy new : CopyFunction) → slice_get copies k ≡ Some copy
      → IsCopyPart copy (rows_in n copy.target.0) (rows_in n copy.source.0) new → IsCopiedIn part new → IsCopyAmong part new
  copy_among k copy new at is copied = record {
    target = b.target;
    source = b.source;
    is_target = target_at;
    is_source = source_at_part;
    places = subst (λ ps. All (IsPlaceBetween b.target b.source) ps) (sym is.places)
        (All-weaker (IsPlaceBetween b.among.target b.among.source) (IsPlaceBetween b.target b.source) place
        copy.places b.among.places);
    copied = copied b.target b.source target_at source_at_part;
  }
    where
      b : Between copy
      b = between k copy at

      target_at : slice_get part new.target.0 ≡ Some b.target
      target_at = ap (λ t. slice_get part t.0) is.target ∙ b.is_target

      source_at_part : slice_get part new.source.0 ≡ Some b.source
      source_at_part = ap (λ t. slice_get part t.0) is.source ∙ b.is_source

      place : (p : Place) → IsPlaceBetween b.among.target b.among.source p → IsPlaceBetween b.target b.source p
      place p h = record {
        kind = h.kind;
        in_target = ap (λ ks. slice_get ks p.target.0)
            (kinds_same b.among.target b.target (rows_in n copy.target.0) (entities_in n copy.target.0)
            b.target_part) ∙ h.in_target;
        in_source = ap (λ ks. slice_get ks p.source.0)
            (kinds_same b.among.source b.source (rows_in n copy.source.0) (entities_in n copy.source.0)
            b.source_part) ∙ h.in_source;
      }

  module _ (k : ℕ) (copy new : CopyFunction) (done : List CopyFunction) (at : slice_get copies k ≡ Some copy)
      (so_far : AreCopiesSoFar n copies k done)
      (is : IsCopyPart copy (rows_in n copy.target.0) (rows_in n copy.source.0) new) where
    pub copies_next : AreCopiesSoFar n copies (k + 1) (done ++ new ∷ [])
    copies_next = record { many = omega (arith, length_push done new, so_far.many); each = each }
      where
        each : (i : ℕ) (c one : CopyFunction) → slice_get copies i ≡ Some c → slice_get (done ++ new ∷ []) i ≡ Some one
            → IsCopyPart c (rows_in n c.target.0) (rows_in n c.source.0) one
        each i c one at_c at_one = by (at_push done new i one at_one)
          where
            by : (slice_get done i ≡ Some one) ⊎ ((i ≡ length done) × (new ≡ one))
                → IsCopyPart c (rows_in n c.target.0) (rows_in n c.source.0) one
            by (inl old) = so_far.each i c one at_c old
            by (inr last) =
                let same : k ≡ i = omega (arith, last.0, so_far.many) in
                let whole : copy ≡ c = same_Some copy c (sym at ∙ ap (slice_get copies) same ∙ at_c) in
                subst (λ x. IsCopyPart x (rows_in n x.target.0) (rows_in n x.source.0) one) whole
                (subst (IsCopyPart copy (rows_in n copy.target.0) (rows_in n copy.source.0)) last.1 is)

    pub copy_fits : AreCopies part done → IsCopiedIn part new → AreCopies part (done ++ new ∷ [])
    copy_fits were copied = record {
      few = omega (arith, copies_next.many, slice_get_within copies k copy at, facts.few);
      each = each_has (IsCopyAmong part) (done ++ new ∷ []) each;
      names = once;
    }
      where
        each : (i : ℕ) (one : CopyFunction) → slice_get (done ++ new ∷ []) i ≡ Some one → IsCopyAmong part one
        each i one at_one = by (at_push done new i one at_one)
          where
            by : (slice_get done i ≡ Some one) ⊎ ((i ≡ length done) × (new ≡ one)) → IsCopyAmong part one
            by (inl old) = item_has (IsCopyAmong part) done were.each i one old
            by (inr last) = subst (IsCopyAmong part) last.1 (copy_among k copy new at is copied)

        whole : (i : ℕ) (one : CopyFunction) → slice_get (done ++ new ∷ []) i ≡ Some one
            → (c : CopyFunction) × (slice_get copies i ≡ Some c) × (one.name ≡ c.name)
        whole i one at_one =
            let below = slice_get_within (done ++ new ∷ []) i one at_one in
            let c = item_at copies i (omega (arith, below, copies_next.many, slice_get_within copies k copy at)) in
            (c.0, c.1, (copies_next.each i c.0 one c.1 at_one).name)

        once : OnlyOnce (map (λ (c : CopyFunction). c.name) (done ++ new ∷ []))
        once i j x at_i at_j =
            let a = unmapped (λ (c : CopyFunction). c.name) (done ++ new ∷ []) i x at_i in
            let b = unmapped (λ (c : CopyFunction). c.name) (done ++ new ∷ []) j x at_j in
            let p = whole i a.0 a.1 in
            let q = whole j b.0 b.1 in
            facts.names i j x (mapped (λ (c : CopyFunction). c.name) copies i p.0 p.1 ∙ ap Some (sym p.2 ∙ a.2))
            (mapped (λ (c : CopyFunction). c.name) copies j q.0 q.1 ∙ ap Some (sym q.2 ∙ b.2))

pub copies_none : (n : Places) (copies : List CopyFunction) → AreCopiesSoFar n copies 0 []
copies_none n copies = record { many = refl; each = λ k copy one at at_one. absurd (none-some one at_one) }

-- what is copied between the rows of the part's relations
pub copied_in : {E : Type 0} (relations : List Relation) (copy : CopyFunction) (targets sources : List RowId)
    (target source : Relation)
    → slice_get relations copy.target.0 ≡ Some target → slice_get relations copy.source.0 ≡ Some source →
    (result : Result CopyFunction E)
    → IfOk result (IsCopyPart copy targets sources) → IfOk result (λ new. IsCopied new target.rows source.rows)
    → IfOk result (IsCopiedIn relations)
copied_in relations copy targets sources target source at_target at_source (Err e) is copied = tt
copied_in relations copy targets sources target source at_target at_source (Ok new) is copied = λ t s at_t at_s.
    let t_is : target ≡ t = same_Some target t (sym at_target ∙ ap (λ i. slice_get relations i.0) (sym is.target) ∙ at_t) in
    let s_is : source ≡ s = same_Some source s (sym at_source ∙ ap (λ i. slice_get relations i.0) (sym is.source) ∙ at_s) in
    subst (λ (x : Relation). IsCopied new x.rows s.rows) t_is
    (subst (λ (x : Relation). IsCopied new target.rows x.rows) s_is copied)

-- what a call told, where its answer is handed on as want of memory
pub handed_on : {A E F : Type 0} (P : Type 0) (outcome : Result A E) (result : Result A F) → OnOk result (is_ok outcome ≡ true)
    → OnOk outcome P → OnOk result P
handed_on P outcome (Err e) ok holds = tt
handed_on P (Ok x) (Ok y) ok holds = holds
handed_on P (Err e) (Ok y) ok holds = absurd (false≢true ok)
