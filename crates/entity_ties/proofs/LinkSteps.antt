-- The links of mapped rows, row by row and copy function by copy function.
use Rattle.std.proofs.Common.{◌≡◌, ◌<◌, ◌≤◌, ◌⊎◌, ◌∙◌, ◌+◌, ◌++◌, ℕ, zero, suc, List, [], ◌∷◌, All, Contains, None, Some, length, slice_get, slice_index, refl, sym, ap, subst, inl, inr, ⊎_elim, arith}
use Rattle.std.proofs.lemmas.Bool.{cases_lt}
use Rattle.std.proofs.lemmas.List.Elements.{Contains-push_cases, Contains-append_left, Contains-push}
use Rattle.std.proofs.lemmas.Option.{same_Some, none-some, slice_get_within}
use Rattle.currency_base.specs.declared.ids.RowId.{RowId}
use Rattle.currency_base.specs.declared.row.Row.{Row}
use Rattle.copy_functions.specs.Copies.{CopyFunction, source_at}
use Rattle.partial_orders.specs.Pairs.{entity_of}
use Rattle.spec_model.specs.Facts.{AreRelations, IsRelation}
use Rattle.spec_model.specs.Spec.{Spec}
use Rattle.spec_model.specs.declared.relation.Relation.{Relation}
use Rattle.part_laws.proofs.Rows.{all_at}
use Rattle.entity_ties.specs.declared.links.Link.{Link}
use Rattle.entity_ties.specs.declared.cells.Member.{Member}
use Rattle.entity_ties.specs.Classes.{HasLink}
use Rattle.entity_ties.specs.Links.{number, IsLinkOf, IsLinkBelow, AddsLinks, AddsLinksOf, IsLinkBetween, AreLinksBelow, AreLinksOf}
use Rattle.entity_ties.specs.Numbers.{AreNumbered}
use Rattle.entity_ties.specs.Tied.{Cell, IsCopiedFrom}

-- ---- rows

same_row : (a b : RowId) → a.0 ≡ b.0 → a ≡ b
same_row a b e = ap (λ (n : ℕ). let x : RowId = record { 0 = n } in x) e

-- a row that stands for an entity is there
row_there : (rows : List Row) (n ent : ℕ) → entity_of rows n ≡ Some ent → n < length rows
row_there [] n ent of = absurd (none-some ent of)
row_there (r ∷ rows) zero ent of = omega arith
row_there (r ∷ rows) (suc n) ent of = (let below = row_there rows n ent of in omega (arith, below))

module _ (copy : CopyFunction) (targets sources : List Row) (first first_source : ℕ) where
  pub adds_none : (links : List Link) → AddsLinks copy targets sources first first_source 0 links links
  adds_none links = record {
    kept = λ link c. c;
    only = λ link c. inl c;
    all = λ row link below is. absurd (omega arith);
  }

  -- a row has one link
  one_link : (row : RowId) (a b : Link) → IsLinkOf copy targets sources first first_source row a
      → IsLinkOf copy targets sources first first_source row b → a ≡ b
  one_link row a b is is' =
      let from : is.from ≡ is'.from = same_Some is.from is'.from (sym is.mapped ∙ is'.mapped) in
      let ent : is.ent ≡ is'.ent = same_Some is.ent is'.ent (sym is.row_of ∙ is'.row_of) in
      let source : is.source_ent ≡ is'.source_ent = same_Some is.source_ent is'.source_ent
      (sym is.from_of ∙ (ap (λ (r : RowId). entity_of sources r.0) from ∙ is'.from_of)) in
      same_link a b (omega (arith, is.is_one, is'.is_one, ent)) (omega (arith, is.is_other, is'.is_other, source))
    where
      same_link : (a b : Link) → a.one ≡ b.one → a.other ≡ b.other → a ≡ b
      same_link a b e f =
          ap (λ (n : ℕ). let l : Link = record { one = n; other = a.other } in l) e
          ∙ ap (λ (n : ℕ). let l : Link = record { one = b.one; other = n } in l) f

  wider : (bound : ℕ) (link : Link) → IsLinkBelow copy targets sources first first_source bound link
      → IsLinkBelow copy targets sources first first_source (bound + 1) link
  wider bound link is = record { row = is.row; below = omega (arith, is.below); is_link = is.is_link }

  -- a row that is not mapped has none
  pub adds_skip : (bound : ℕ) (row : RowId) (old new : List Link) → row.0 ≡ bound → source_at copy row ≡ None
      → AddsLinks copy targets sources first first_source bound old new → AddsLinks copy targets sources first
      first_source (bound + 1) old new
  adds_skip bound row old new at none adds = record {
    kept = adds.kept;
    only = λ link c. ⊎_elim (λ o. inl o) (λ is. inr (wider bound link is)) (adds.only link c);
    all = λ r link below is. all r link below is (cases_lt r.0 bound);
  }
    where
      all : (r : RowId) (link : Link) → r.0 < bound + 1 → IsLinkOf copy targets sources first first_source r link
          → (r.0 < bound) ⊎ (bound ≤ r.0) → Contains new link
      all r link below is (inl low) = adds.all r link low is
      all r link below is (inr high) =
          let same : row ≡ r = same_row row r (omega (arith, at)) in
          absurd (none-some is.from (sym none ∙ (ap (source_at copy) same ∙ is.mapped)))

  -- the link of one row more
  pub adds_more : (bound : ℕ) (row : RowId) (link : Link) (old new : List Link) → row.0 ≡ bound
      → IsLinkOf copy targets sources first first_source row link
      → AddsLinks copy targets sources first first_source bound old new
      → AddsLinks copy targets sources first first_source (bound + 1) old (new ++ link ∷ [])
  adds_more bound row link old new at is adds = record {
    kept = λ l c. Contains-append_left new (link ∷ []) l (adds.kept l c);
    only = λ l c. only l (Contains-push_cases new link l c);
    all = λ r l below is_l. all r l below is_l (cases_lt r.0 bound);
  }
    where
      only : (l : Link) → Contains new l ⊎ (link ≡ l) → Contains old l ⊎ IsLinkBelow copy targets sources first
          first_source (bound + 1) l
      only l (inl c) = ⊎_elim (λ o. inl o) (λ b. inr (wider bound l b)) (adds.only l c)
      only l (inr e) =
          inr (record {
            row = row;
            below = omega (arith, at);
            is_link =
                subst (IsLinkOf copy targets sources first first_source row) e is;
          })

      all : (r : RowId) (l : Link) → r.0 < bound + 1 → IsLinkOf copy targets sources first first_source r l
          → (r.0 < bound) ⊎ (bound ≤ r.0) → Contains (new ++ link ∷ []) l
      all r l below is_l (inl low) = Contains-append_left new (link ∷ []) l (adds.all r l low is_l)
      all r l below is_l (inr high) =
          let same : row ≡ r = same_row row r (omega (arith, at)) in
          let one : link ≡ l = one_link r link l
          (subst (λ q. IsLinkOf copy targets sources first first_source q link) same is) is_l in
          subst (Contains (new ++ link ∷ [])) one (Contains-push new link)

-- ---- numbers of a relation's entities are small

pub fits : (relations : List Relation) (firsts : List ℕ) (members : List Member) (rel : ℕ) (r : Relation) → AreRelations relations
    → AreNumbered relations (length relations) firsts members → slice_get relations rel ≡ Some r
    → All (λ (row : Row). slice_index firsts rel + row.entity.0 < length members) r.rows
fits relations firsts members rel r facts are is_r k d below =
    let is = all_at IsRelation relations rel r facts.each is_r in
    omega (arith, is.entities k d below, are.fit rel r (slice_get_within relations rel r is_r) is_r)

-- ---- copy functions

-- the link of a mapped row is one between the two entities
between : (s : Spec) (firsts : List ℕ) (k : ℕ) (copy : CopyFunction) (target source : Relation) (row : RowId) (link : Link)
    → slice_get s.copies k ≡ Some copy → slice_get s.relations copy.target.0 ≡ Some target → slice_get s.relations
    copy.source.0 ≡ Some source
    → IsLinkOf copy target.rows source.rows (slice_index firsts copy.target.0) (slice_index firsts copy.source.0) row link
    → IsLinkBetween s firsts link
between s firsts k copy target source row link at is_target is_source is = record {
  target = record { rel = copy.target.0; ent = is.ent };
  source = record { rel = copy.source.0; ent = is.source_ent };
  copied = record {
    k = k;
    copy = copy;
    is_copy = at;
    target_relation = target;
    source_relation = source;
    is_target = is_target;
    is_source = is_source;
    of_target = refl;
    of_source = refl;
    row = row;
    from = is.from;
    mapped = is.mapped;
    row_of = is.row_of;
    from_of = is.from_of;
  };
  is_one = is.is_one;
  is_other = is.is_other;
}

pub below_none : (s : Spec) (firsts : List ℕ) → AreLinksBelow s firsts 0 []
below_none s firsts = record {
  only = λ link c. absurd (omega (arith, c.1));
  all = λ a b copied below. absurd (omega arith);
}

pub below_more : (s : Spec) (firsts : List ℕ) (k : ℕ) (copy : CopyFunction) (old new : List Link)
    → slice_get s.copies k ≡ Some copy
    → AreLinksBelow s firsts k old → AddsLinksOf s.relations firsts copy old new → AreLinksBelow s firsts (k + 1) new
below_more s firsts k copy old new at are adds = record {
  only = λ link c. ⊎_elim (λ o. are.only link o)
      (λ (b : IsLinkBelow copy adds.target.rows adds.source.rows (slice_index firsts copy.target.0)
      (slice_index firsts copy.source.0) (length adds.target.rows) link).
      between s firsts k copy adds.target adds.source b.row link at adds.is_target adds.is_source b.is_link)
      (adds.adds.only link c);
  all = λ a b copied below. all a b copied below (cases_lt copied.k k);
}
  where
    all : (a b : Cell) (copied : IsCopiedFrom s a b) → copied.k < k + 1 → (copied.k < k) ⊎ (k ≤ copied.k)
        → HasLink new (number firsts a) (number firsts b)
    all a b copied below (inl low) = adds.adds.kept (record { one = number firsts a; other = number firsts b })
        (are.all a b copied low)
    all a b copied below (inr high) =
        let same : copied.k ≡ k = omega arith in
        let one : copied.copy ≡ copy = same_Some copied.copy copy (sym copied.is_copy ∙ (ap (slice_get s.copies) same ∙ at)) in
        let target : copied.target_relation ≡ adds.target = same_Some copied.target_relation adds.target
        (sym copied.is_target ∙ (ap (λ (c : CopyFunction). slice_get s.relations c.target.0) one ∙ adds.is_target)) in
        let source : copied.source_relation ≡ adds.source = same_Some copied.source_relation adds.source
        (sym copied.is_source ∙ (ap (λ (c : CopyFunction). slice_get s.relations c.source.0) one ∙ adds.is_source)) in
        let row_of : entity_of adds.target.rows copied.row.0 ≡ Some a.ent =
        ap (λ (r : Relation). entity_of r.rows copied.row.0) (sym target) ∙ copied.row_of in
        let from_of : entity_of adds.source.rows copied.from.0 ≡ Some b.ent =
        ap (λ (r : Relation). entity_of r.rows copied.from.0) (sym source) ∙ copied.from_of in
        adds.adds.all copied.row (record { one = number firsts a; other = number firsts b })
        (row_there adds.target.rows copied.row.0 a.ent row_of)
        (record {
          from = copied.from;
          ent = a.ent;
          source_ent = b.ent;
          mapped = ap (λ (c : CopyFunction). source_at c copied.row) (sym one) ∙ copied.mapped;
          row_of = row_of;
          from_of = from_of;
          is_one = ap (λ n. slice_index firsts n + a.ent) (copied.of_target ∙ ap (λ (c : CopyFunction). c.target.0) one);
          is_other = ap (λ n. slice_index firsts n + b.ent) (copied.of_source ∙ ap (λ (c : CopyFunction). c.source.0) one);
        })

pub below_all : (s : Spec) (firsts : List ℕ) (bound : ℕ) (links : List Link) → length s.copies ≤ bound
    → AreLinksBelow s firsts bound links
    → AreLinksOf s firsts links
below_all s firsts bound links whole are = record {
  only = are.only;
  all = λ a b copied. are.all a b copied (omega (arith, slice_get_within s.copies copied.k copied.copy copied.is_copy));
}
