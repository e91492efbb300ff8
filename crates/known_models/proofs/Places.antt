-- Ranked lists that are put at their places.
use Rattle.std.proofs.Common.{◌≡◌, ◌∙◌, ◌⊎◌, ℕ, List, [], ◌∷◌, ◌++◌, Contains, get_or, set, refl, sym, ap, inl, inr, arith}
use Rattle.std.proofs.lemmas.Bool.{cases_eq}
use Rattle.std.proofs.lemmas.List.{get_or-set_other, get_or-set_same}
use Rattle.std.proofs.lemmas.List.Elements.{All-cons, All-contains, All-head, All-nil, Contains-append_left, Contains-push, Contains-push_cases}
use Rattle.currency_base.specs.declared.ids.RowId.{RowId}
use Rattle.spec_model.specs.Completion.{Rankings, HasShape, lists_of, ranking_of, with_ranking}
use Rattle.spec_model.specs.declared.relation.Relation.{Relation}
use Rattle.completion_build.proofs.Building.{IsPlace, is_place, read_put}
use Rattle.known_models.specs.declared.draft.RankedList.{RankedList}
use Rattle.known_models.specs.Ranked.{ArePut, HasRows, HaveRoom, IsAmong, IsPlaceIn}

-- a place is that of a ranked list
record IsAt (l : RankedList) (rel attr ent : ℕ) : Type 0 where
  rel_is : l.rel.0 ≡ rel
  attr_is : l.attr.0 ≡ attr
  ent_is : l.ent.0 ≡ ent

at_or : (l : RankedList) (rel attr ent : ℕ) → IsAt l rel attr ent ⊎ (IsAt l rel attr ent → ⊥)
at_or l rel attr ent = by (cases_eq l.rel.0 rel) (cases_eq l.attr.0 attr) (cases_eq l.ent.0 ent)
  where
    by : (l.rel.0 ≡ rel) ⊎ (l.rel.0 ≡ rel → ⊥) → (l.attr.0 ≡ attr) ⊎ (l.attr.0 ≡ attr → ⊥)
        → (l.ent.0 ≡ ent) ⊎ (l.ent.0 ≡ ent → ⊥) → IsAt l rel attr ent ⊎ (IsAt l rel attr ent → ⊥)
    by (inl e) (inl f) (inl g) = inl (record { rel_is = e; attr_is = f; ent_is = g })
    by (inr d) f g = inr (λ is. d is.rel_is)
    by (inl e) (inr d) g = inr (λ is. d is.attr_is)
    by (inl e) (inl f) (inr d) = inr (λ is. d is.ent_is)

-- a list that is put at another place changes nothing here
read_other : (c : Rankings) (to_rel to_attr to_ent rel attr ent : ℕ) (list : List RowId) → IsPlace c to_rel to_attr to_ent
    → ((to_rel ≡ rel) → (to_attr ≡ attr) → (to_ent ≡ ent) → ⊥)
    → ranking_of (with_ranking c to_rel to_attr to_ent list) rel attr ent ≡ ranking_of c rel attr ent
read_other c to_rel to_attr to_ent rel attr ent list is differ =
    by (cases_eq to_rel rel) (cases_eq to_attr attr)
  where
    lists : List (List RowId)
    lists = set (lists_of c to_rel to_attr) to_ent list

    attrs : List (List (List RowId))
    attrs = set (get_or c to_rel []) to_attr lists

    in_attr : (to_rel ≡ rel) → (to_attr ≡ attr)
        → ranking_of (with_ranking c to_rel to_attr to_ent list) rel attr ent ≡ ranking_of c rel attr ent
    in_attr e f =
        rw (← e, ← f)
        (ap (λ (x : List (List (List RowId))). get_or (get_or x to_attr []) ent []) (get_or-set_same c to_rel attrs [] is.in_all)
        ∙ ap (λ (x : List (List RowId)). get_or x ent []) (get_or-set_same (get_or c to_rel []) to_attr lists [] is.in_relation)
        ∙ get_or-set_other (lists_of c to_rel to_attr) to_ent ent list [] (λ (g : ent ≡ to_ent). differ e f (sym g)))

    by : (to_rel ≡ rel) ⊎ (to_rel ≡ rel → ⊥) → (to_attr ≡ attr) ⊎ (to_attr ≡ attr → ⊥)
        → ranking_of (with_ranking c to_rel to_attr to_ent list) rel attr ent ≡ ranking_of c rel attr ent
    by (inr d) f =
        ap (λ (x : List (List (List RowId))). get_or (get_or x attr []) ent [])
        (get_or-set_other c to_rel rel attrs [] (λ (e : rel ≡ to_rel). d (sym e)))
    by (inl e) (inr d) =
        rw (← e)
        (ap (λ (x : List (List (List RowId))). get_or (get_or x attr []) ent []) (get_or-set_same c to_rel attrs [] is.in_all)
        ∙ ap (λ (x : List (List RowId)). get_or x ent []) (get_or-set_other (get_or c to_rel []) to_attr attr lists []
        (λ (f : attr ≡ to_attr). d (sym f))))
    by (inl e) (inl f) = in_attr e f

-- ---- one list after another

pub put_none : (c : Rankings) → ArePut [] c c
put_none c = record {
  shape = λ relations shape. shape;
  put = λ rel attr ent is. absurd (omega (arith, is.is_in.1));
  kept = λ rel attr ent out. refl;
}

-- the place of one of the lists is there
pub place_there : (relations : List Relation) (c : Rankings) (l : RankedList) → HasShape relations c → IsPlaceIn relations l
    → IsPlace c l.rel.0 l.attr.0 l.ent.0
place_there relations c l shape is =
    is_place relations c l.rel.0 l.attr.0 l.ent.0 is.relation shape is.is_relation is.attr_within is.ent_within

-- room for a list that is next
pub room_for : (lists : List RankedList) (old now : Rankings) (front : List RankedList) (l : RankedList) → HaveRoom old lists
    → ArePut front old now → Contains lists l → HaveRoom now (l ∷ [])
room_for lists old now front l room put has = record {
  relations = room.relations;
  shape = put.shape room.relations room.shape;
  places = All-cons (IsPlaceIn room.relations) l []
      (All-contains (IsPlaceIn room.relations) lists l room.places has)
      (All-nil (IsPlaceIn room.relations));
}

module _ (keeps : (relations : List Relation) (c : Rankings) (rel attr ent : ℕ) (list : List RowId) → HasShape relations c
    → HasShape relations (with_ranking c rel attr ent list))
    (front : List RankedList) (old now : Rankings) (l : RankedList) (room : HaveRoom now (l ∷ [])) (put :
    ArePut front old now) where
  abbrev next : Rankings
  next = with_ranking now l.rel.0 l.attr.0 l.ent.0 l.rows

  place : IsPlace now l.rel.0 l.attr.0 l.ent.0
  place = place_there room.relations now l room.shape (All-head (IsPlaceIn room.relations) l [] room.places)

  -- here its rows are read
  here : (rel attr ent : ℕ) → IsAt l rel attr ent → ranking_of next rel attr ent ≡ l.rows
  here rel attr ent at =
      rw (← at.rel_is, ← at.attr_is, ← at.ent_is) (read_put now l.rel.0 l.attr.0 l.ent.0 l.rows place)

  elsewhere : (rel attr ent : ℕ) → (IsAt l rel attr ent → ⊥) → ranking_of next rel attr ent ≡ ranking_of now rel attr ent
  elsewhere rel attr ent out =
      read_other now l.rel.0 l.attr.0 l.ent.0 rel attr ent l.rows place
      (λ e f g. out (record { rel_is = e; attr_is = f; ent_is = g }))

  has_own : (rel attr ent : ℕ) → IsAt l rel attr ent → HasRows (front ++ l ∷ []) rel attr ent (ranking_of next rel attr ent)
  has_own rel attr ent at = record {
    list = l;
    is_in = Contains-push front l;
    rel_is = at.rel_is;
    attr_is = at.attr_is;
    ent_is = at.ent_is;
    rows_are = here rel attr ent at;
  }

  before : (rel attr ent : ℕ) → (IsAt l rel attr ent → ⊥) → IsAmong front rel attr ent
      → HasRows (front ++ l ∷ []) rel attr ent (ranking_of next rel attr ent)
  before rel attr ent out is =
      let has = put.put rel attr ent is in
      record {
        list = has.list;
        is_in = Contains-append_left front (l ∷ []) has.list has.is_in;
        rel_is = has.rel_is;
        attr_is = has.attr_is;
        ent_is = has.ent_is;
        rows_are = elsewhere rel attr ent out ∙ has.rows_are;
      }

  found : (rel attr ent : ℕ) (is : IsAmong (front ++ l ∷ []) rel attr ent) → IsAt l rel attr ent ⊎ (IsAt l rel attr ent → ⊥)
      → Contains front is.list ⊎ (l ≡ is.list) → HasRows (front ++ l ∷ []) rel attr ent (ranking_of next rel attr ent)
  found rel attr ent is (inl at) which = has_own rel attr ent at
  found rel attr ent is (inr out) (inl in_front) =
      before rel attr ent out
      (record { list = is.list; is_in = in_front; rel_is = is.rel_is; attr_is = is.attr_is; ent_is = is.ent_is })
  found rel attr ent is (inr out) (inr same) =
      absurd (out (record {
        rel_is = ap (λ (x : RankedList). x.rel.0) same ∙ is.rel_is;
        attr_is = ap (λ (x : RankedList). x.attr.0) same ∙ is.attr_is;
        ent_is = ap (λ (x : RankedList). x.ent.0) same ∙ is.ent_is;
      }))

  among_more : (rel attr ent : ℕ) → IsAmong front rel attr ent → IsAmong (front ++ l ∷ []) rel attr ent
  among_more rel attr ent is = record {
    list = is.list;
    is_in = Contains-append_left front (l ∷ []) is.list is.is_in;
    rel_is = is.rel_is;
    attr_is = is.attr_is;
    ent_is = is.ent_is;
  }

  among_last : (rel attr ent : ℕ) → IsAt l rel attr ent → IsAmong (front ++ l ∷ []) rel attr ent
  among_last rel attr ent at = record {
    list = l;
    is_in = Contains-push front l;
    rel_is = at.rel_is;
    attr_is = at.attr_is;
    ent_is = at.ent_is;
  }

  pub put_more : ArePut (front ++ l ∷ []) old (with_ranking now l.rel.0 l.attr.0 l.ent.0 l.rows)
  put_more = record {
    shape = λ relations shape. keeps relations now l.rel.0 l.attr.0 l.ent.0 l.rows (put.shape relations shape);
    put = λ rel attr ent is.
        found rel attr ent is (at_or l rel attr ent) (Contains-push_cases front l is.list is.is_in);
    kept = λ rel attr ent out.
        elsewhere rel attr ent (λ at. out (among_last rel attr ent at))
        ∙ put.kept rel attr ent (λ is. out (among_more rel attr ent is));
  }
