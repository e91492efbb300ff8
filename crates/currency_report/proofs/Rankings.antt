-- What a ranking gives at its place, and what it leaves where it is refused.
use Rattle.std.proofs.Common.{◌≡◌, ◌<◌, ◌==◌, ℕ, Bool, true, false, not, List, [], ◌∷◌, length, get_or, drop, Some, None, Ok, Err, subst, refl, sym, arith}
use Rattle.std.proofs.lemmas.Bool.{eqb-true}
use Rattle.std.proofs.lemmas.Option.{slice_get_within}
use Rattle.currency_base.specs.declared.error_code.ErrorCode.TheVariants.{DuplicateName, UnknownRow}
use Rattle.currency_base.specs.declared.ids.RowId.{RowId}
use Rattle.spec_model.specs.Completion.{Rankings, HasShape, lists_of, ranking_of, with_ranking}
use Rattle.spec_model.specs.declared.relation.Relation.{Relation}
use Rattle.report_syntax.specs.declared.tree.RankingTree.{RankingTree}
use Rattle.text_grammar.specs.declared.named.Named.{Named}
use Rattle.currency_report.proofs.Outcomes.{next_left}
use Rattle.currency_report.specs.Completed.{is_ranked, refused_at, ranked_with, ranked_by}
use Rattle.currency_report.specs.Ids.{IsPlaceOf}
use Rattle.currency_report.specs.Outcomes.{Steps}
use Rattle.currency_report.specs.Places.{rows_named}
use Rattle.currency_report.specs.declared.place.PlaceIds.{PlaceIds}
use Rattle.currency_report.specs.declared.report.ReportFault.{ReportFault}
use Rattle.currency_report.specs.declared.report.ReportFault.TheVariants.{Refused, NoMemory}

-- a list has a row where it is not empty
ranked_is : (listed : List RowId) (b : Bool) → b ≡ (length listed == 0) → is_ranked listed ≡ not b
ranked_is [] b e = rw e refl
ranked_is (row ∷ rows) false e = refl
ranked_is (row ∷ rows) true e = absurd (omega (arith, eqb-true (length (row ∷ rows)) 0 (sym e)))

-- whether a place is ranked already, from the test of its list
pub ranked_at : (c : Rankings) (p : PlaceIds) (listed : List RowId) (b : Bool) → listed ≡ ranking_of c p.rel.0 p.attr.0 p.ent.0
    → b ≡ (length listed == 0) → is_ranked (ranking_of c p.rel.0 p.attr.0 p.ent.0) ≡ not b
ranked_at c p listed b same e = rw (← same) (ranked_is listed b e)

-- the place of a ranking is one of the completion's
module _ (relations : List Relation) (c : Rankings) (relation attr entity : Named) (p : PlaceIds) (h : HasShape relations c)
    (is : IsPlaceOf relations relation attr entity p) where
  pub rel_within : p.rel.0 < length c
  rel_within = subst (λ n. p.rel.0 < n) (sym h.per_relation) (slice_get_within relations p.rel.0 is.of is.found)

  pub attr_within : p.attr.0 < length (get_or c p.rel.0 [])
  attr_within = subst (λ n. p.attr.0 < n) (sym (h.per_attr p.rel.0 is.of is.found)) is.attr_within

  pub ent_within : p.ent.0 < length (lists_of c p.rel.0 p.attr.0)
  ent_within = subst (λ n. p.ent.0 < n) (sym (h.per_entity p.rel.0 is.of is.found p.attr.0 is.attr_within)) is.ent_within

-- the outcomes at a place
module _ (relations : List Relation) (c : Rankings) (t : RankingTree) (p : PlaceIds)
    (h : IsPlaceOf relations t.relation t.attr t.entity p) where
  pub is_taken : is_ranked (ranking_of c p.rel.0 p.attr.0 p.ent.0) ≡ true → ranked_with relations c t ≡ Err
      (refused_at DuplicateName t)
  is_taken taken = rw (h.is_named, taken) refl

  pub lacks_row : is_ranked (ranking_of c p.rel.0 p.attr.0 p.ent.0) ≡ false → rows_named h.of t.rows ≡ None
      → ranked_with relations c t ≡ Err (refused_at UnknownRow t)
  lacks_row free found = rw (h.is_named, free, found) refl

  pub is_ranked_with : (rows : List RowId) → is_ranked (ranking_of c p.rel.0 p.attr.0 p.ent.0) ≡ false
      → rows_named h.of t.rows ≡ Some rows
      → ranked_with relations c t ≡ Ok (with_ranking c p.rel.0 p.attr.0 p.ent.0 rows)
  is_ranked_with rows free found = rw (h.is_named, free, found) refl

-- a ranking that is refused ends them all
pub ends_rankings : (relations : List Relation) (ts : List RankingTree) (i : ℕ) (t : RankingTree)
    (first c new : Rankings) (fault : ReportFault)
    → i < length ts → t ≡ get_or ts i t → ranked_by relations (drop i ts) c ≡ ranked_by relations ts first
    → Steps new (ranked_with relations c t) (Err fault) → Steps new (ranked_by relations ts first) (Err fault)
ends_rankings relations ts i t first c new (Refused code line) below is so_far due =
    rw (← so_far, next_left ts i t below is, due) refl
ends_rankings relations ts i t first c new NoMemory below is so_far due = tt
