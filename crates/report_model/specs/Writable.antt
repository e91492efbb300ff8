-- Which verdicts and completions can be written.
use Rattle.std.specs.Prelude.{◌≡◌, ◌≢◌, ◌≤◌, ◌<◌, ◌+◌, ◌^◌, ℕ, List, [], ◌∷◌, length, All, Some, slice_get}
use Rattle.currency_base.specs.declared.ids.RowId.{RowId}
use Rattle.refutation_log.specs.Writable.{AreFew}
use Rattle.spec_model.specs.Completion.{Rankings, HasShape, ranking_of}
use Rattle.spec_model.specs.declared.question.Asked.{Asked}
use Rattle.spec_model.specs.declared.relation.Relation.{Relation}
use Rattle.currency_base.specs.Values.{IsValue}
use Rattle.report_model.specs.declared.verdict.Current.{Current}
use Rattle.report_model.specs.declared.verdict.Verdict.{Verdict}
use Rattle.report_model.specs.declared.verdict.Verdict.TheVariants.{NotCertain, Same, NotSame, Answers, Undecided}

-- ---- verdicts

-- the pair is of an attribute and of rows that are there
pub record IsPairOf (relations : List Relation) (p : Asked) : Type 0 where
  pub relation : Relation
  pub is_relation : slice_get relations p.rel.0 ≡ Some relation
  pub attr : p.pair.attr.0 < length relation.attrs
  pub earlier : p.pair.earlier.0 < length relation.rows
  pub later : p.pair.later.0 < length relation.rows

-- the item is of an entity that is there
pub record IsItemOf (relations : List Relation) (item : Current) : Type 0 where
  pub relation : Relation
  pub is_relation : slice_get relations item.rel.0 ≡ Some relation
  pub ent : item.ent.0 < length relation.entities
  pub values : AreFew IsValue item.values

-- the place is there
pub record IsPlaceOf (relations : List Relation) (rel attr ent : ℕ) : Type 0 where
  pub relation : Relation
  pub is_relation : slice_get relations rel ≡ Some relation
  pub in_attrs : attr < length relation.attrs
  pub in_entities : ent < length relation.entities

-- a verdict whose ids are there, and whose numbers and lists are such as the program has
abbrev pub IsWritableVerdict : List Relation → Verdict → Type 0
IsWritableVerdict relations (NotCertain p) = IsPairOf relations p
IsWritableVerdict relations (Same items) = AreFew (IsItemOf relations) items
IsWritableVerdict relations (NotSame rel attr ent) = IsPlaceOf relations rel.0 attr.0 ent.0
IsWritableVerdict relations (Answers tuples) = AreFew (AreFew IsValue) tuples
IsWritableVerdict relations (Undecided counted) = counted < 2 ^ 64
IsWritableVerdict relations v = Unit {0}

-- ---- completions

-- how many of these lists have a row
abbrev pub ranked_lists : List (List RowId) → ℕ
ranked_lists [] = 0
ranked_lists ([] ∷ lists) = ranked_lists lists
ranked_lists ((row ∷ rows) ∷ lists) = ranked_lists lists + 1

abbrev pub ranked_attrs : List (List (List RowId)) → ℕ
ranked_attrs [] = 0
ranked_attrs (lists ∷ more) = ranked_lists lists + ranked_attrs more

-- how many places of a completion have a row
abbrev pub ranked_places : Rankings → ℕ
ranked_places [] = 0
ranked_places (lists ∷ more) = ranked_attrs lists + ranked_places more

-- a completion with a list of rows of the relation for each relation, attribute and entity
pub record IsWritableCompletion (relations : List Relation) (c : Rankings) : Type 0 where
  pub shape : HasShape relations c
  pub few : ranked_places c ≤ 4294967294
  pub rows : (rel attr ent : ℕ) (r : Relation) → slice_get relations rel ≡ Some r
      → AreFew (λ row. row.0 < length r.rows) (ranking_of c rel attr ent)

-- a later completion has a row wherever the first one has
abbrev pub Covers : Rankings → Rankings → Type 0
Covers first c = (rel attr ent : ℕ) → ranking_of first rel attr ent ≢ [] → ranking_of c rel attr ent ≢ []

-- each completion after the first has a row wherever the first one has
abbrev pub AllCover : List Rankings → Type 0
AllCover [] = Unit {0}
AllCover (first ∷ more) = All (Covers first) more
