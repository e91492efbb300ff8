-- The kinds of current values and of answers.
use Rattle.std.proofs.Common.{◌≡◌, ◌∙◌, ◌<◌, ◌≤◌, ℕ, zero, suc, List, [], ◌∷◌, Option, Some, None, length, map, slice_get, slice_index_or, refl, sym, ap, ap₂, ⊎_elim, arith}
use Rattle.std.proofs.lemmas.Bool.{cases_lt}
use Rattle.std.proofs.lemmas.List.{get_or_past, length-map}
use Rattle.std.proofs.lemmas.Option.{same_Some, none-some, slice_get_within}
use Rattle.answer_laws.specs.Answered.{IsAnswerIn}
use Rattle.currency_base.specs.Values.{kind_of}
use Rattle.currency_base.specs.declared.ids.RowId.{RowId}
use Rattle.currency_base.specs.declared.row.Row.{Row}
use Rattle.currency_base.specs.declared.value.ValueKind.{ValueKind}
use Rattle.currency_base.specs.declared.value.Value.{Value}
use Rattle.currency_base.specs.declared.value.Value.TheVariants.{Text}
use Rattle.denial_rules.specs.Instances.{field_value, value_in}
use Rattle.query_model.specs.Answers.{AtomHolds, IsHead, Meets}
use Rattle.query_model.specs.Fitting.{IsDisjunct}
use Rattle.query_model.specs.declared.query.Disjunct.{Disjunct}
use Rattle.query_model.specs.declared.query.Query.{Query}
use Rattle.query_model.specs.declared.query.Term.TheVariants as term
use Rattle.spec_model.specs.Completion.{Rankings, IsCompletion, lists_of, ranking_of}
use Rattle.spec_model.specs.Current.{IsCurrentInstance, IsCurrentTuple, current_value, last_row}
use Rattle.spec_model.specs.Facts.{AreRelations, IsRelation, kinds_of}
use Rattle.spec_model.specs.Queries.{IsAtomOn, IsDisjunctOn, IsQueryOn, place_kinds}
use Rattle.spec_model.specs.declared.relation.Relation.{Relation}
use Rattle.unit_questions.proofs.Lists.{item_has, stands_at, item_at, mapped}
use Rattle.unit_questions.proofs.Heads.{first_same, rest_same, none_more}

-- ---- current values

-- the value stands in a row
record IsRead (rows : List Row) (o : Option RowId) (attr : ℕ) (v : Value) : Type 0 where
  id : RowId
  is_id : o ≡ Some id
  row : Row
  is_row : slice_get rows id.0 ≡ Some row
  is_value : slice_get row.values attr ≡ Some v

is_read : (rows : List Row) (o : Option RowId) (attr : ℕ) (v : Value) → field_value rows o attr ≡ Some v → IsRead rows o attr v
is_read rows None attr v is = absurd (none-some v is)
is_read rows (Some id) attr v is = go (slice_get rows id.0) refl is
  where
    go : (p : Option Row) → slice_get rows id.0 ≡ p → value_in p attr ≡ Some v → IsRead rows (Some id) attr v
    go None at is = absurd (none-some v is)
    go (Some row) at is = record { id = id; is_id = refl; row = row; is_row = at; is_value = is }

-- a current value has the kind of its attribute
pub current_kind : (c : Rankings) (rel : ℕ) (r : Relation) → IsRelation r → (attr ent : ℕ) (v : Value)
    → current_value c rel r.rows attr ent ≡ Some v → slice_get (kinds_of r) attr ≡ Some (kind_of v)
current_kind c rel r is attr ent v current =
    let read = is_read r.rows (last_row (ranking_of c rel attr ent)) attr v current in
    let kinds = item_has (λ (q : Row). map kind_of q.values ≡ kinds_of r) r.rows is.values read.id.0 read.row read.is_row in
    ap (λ l. slice_get l attr) (sym kinds) ∙ mapped kind_of read.row.values attr v read.is_value

pub current_attr : (c : Rankings) (rel : ℕ) (r : Relation) → IsRelation r → (attr ent : ℕ) (v : Value)
    → current_value c rel r.rows attr ent ≡ Some v → attr < length r.attrs
current_attr c rel r is attr ent v current =
    omega (
      arith,
      slice_get_within (kinds_of r) attr (kind_of v) (current_kind c rel r is attr ent v current),
      length-map r.attrs (λ a. a.kind),
    )

-- and its entity is there
pub current_ent : (relations : List Relation) (c : Rankings) → IsCompletion relations c → (rel : ℕ) (r : Relation)
    → slice_get relations rel ≡ Some r → IsRelation r → (attr ent : ℕ) (v : Value)
    → current_value c rel r.rows attr ent ≡ Some v → ent < length r.entities
current_ent relations c completion rel r at is attr ent v current = ⊎_elim
    (λ (below : ent < length r.entities). below)
    (λ (past : length r.entities ≤ ent).
    let many = completion.shape.per_entity rel r at attr (current_attr c rel r is attr ent v current) in
    let read = is_read r.rows (last_row (ranking_of c rel attr ent)) attr v current in
    let none : ranking_of c rel attr ent ≡ [] = get_or_past (lists_of c rel attr) ent [] (omega (arith, past, many)) in
    absurd (none-some read.id (ap (λ l. last_row l) (sym none) ∙ read.is_id)))
    (cases_lt ent (length r.entities))

-- ---- the values of current tuples

tuple_kinds : (c : Rankings) (rel : ℕ) (r : Relation) → IsRelation r → (ent : ℕ) (tuple : List Value)
    → IsCurrentTuple c rel r ent tuple → (k : ℕ) (x : Value) → slice_get tuple k ≡ Some x
    → slice_get (place_kinds r) k ≡ Some (kind_of x)
tuple_kinds c rel r is ent tuple current k x at = go k (ap (λ l. slice_get l k) (sym current.tuple_is) ∙ at)
  where
    go : (k : ℕ) → slice_get (Text current.name ∷ current.values) k ≡ Some x → slice_get (place_kinds r) k ≡ Some (kind_of x)
    go zero at = ap (λ y. Some (kind_of y)) (same_Some (Text current.name) x at)
    go (suc attr) at =
        let below : attr < length r.attrs = omega (arith, slice_get_within current.values attr x at, current.per_attr) in
        current_kind c rel r is attr ent x (sym (current.current attr below) ∙ at)

-- ---- the values of a disjunct's variables

-- a value of a variable has the variable's kind: the variable stands in an atom
value_kind : (relations : List Relation) → AreRelations relations → (c : Rankings) (instance : List (List (List Value)))
    → IsCurrentInstance relations c instance → (heads : List ValueKind) (d : Disjunct) → IsDisjunct d
    → (on : IsDisjunctOn relations heads d) → (values : List Value) → Meets instance d values → (v : ℕ) (x : Value) → v < d.vars
    → slice_get values v ≡ Some x
    → slice_get on.kinds v ≡ Some (kind_of x)
value_kind relations are c instance current heads d is on values meets v x below value =
    let stands = is.each_stands v below in
    let atom = stands.atom in
    let place = stands_at d.atoms atom stands.is_atom in
    let holds : AtomHolds instance values atom = item_has (AtomHolds instance values) d.atoms meets.atoms place.0 atom place.1 in
    let atom_on : IsAtomOn relations on.kinds atom =
    item_has (IsAtomOn relations on.kinds) d.atoms on.atoms place.0 atom place.1 in
    let r = atom_on.relation in
    let is_r = item_has IsRelation relations are.each atom.relation.0 r atom_on.is_relation in
    let here = stands_at atom.terms (term.Var v) stands.stands in
    let y = item_at holds.tuple here.0
    (omega (arith, slice_get_within atom.terms here.0 (term.Var v) here.1, holds.fits.as_many)) in
    let same : x ≡ y.0 = same_Some x y.0 (sym value ∙ holds.fits.each here.0 (term.Var v) y.0 here.1 y.1) in
    let ent = stands_at (slice_index_or instance atom.relation.0 []) holds.tuple holds.is_there in
    let tuple = (current.each atom.relation.0 r atom_on.is_relation).each ent.0 holds.tuple ent.1 in
    atom_on.terms here.0 (term.Var v) here.1
    ∙ tuple_kinds c atom.relation.0 r is_r ent.0 holds.tuple tuple here.0 y.0 y.1
    ∙ ap (λ z. Some (kind_of z)) (sym same)

heads_from : (values : List Value) (kinds : List ValueKind) (n : ℕ)
    → ((v : ℕ) (x : Value) → v < n → slice_get values v ≡ Some x → slice_get kinds v ≡ Some (kind_of x))
    → (head : List ℕ) (tuple : List Value) (heads : List ValueKind) → ((k v : ℕ) → slice_get head k ≡ Some v → v < n)
    → IsHead values head tuple → map (slice_get kinds) head ≡ map (λ kind. Some kind) heads → heads ≡ map kind_of tuple
heads_from values kinds n each [] [] [] within is on = refl
heads_from values kinds n each [] [] (h ∷ heads) within is on = absurd (none_more (Some h) (map (λ kind. Some kind) heads) on)
heads_from values kinds n each [] (x ∷ tuple) heads within is on = absurd (none_more (Some x) (map (λ z. Some z) tuple) is)
heads_from values kinds n each (v ∷ head) [] heads within is on =
    absurd (none_more (slice_get values v) (map (λ u. slice_get values u) head) (sym is))
heads_from values kinds n each (v ∷ head) (x ∷ tuple) [] within is on =
    absurd (none_more (slice_get kinds v) (map (slice_get kinds) head) (sym on))
heads_from values kinds n each (v ∷ head) (x ∷ tuple) (h ∷ heads) within is on =
    let value = first_same _ _ (map (λ u. slice_get values u) head) (map (λ z. Some z) tuple) is in
    let own = first_same _ _ (map (slice_get kinds) head) (map (λ kind. Some kind) heads) on in
    ap₂ (λ y ys. y ∷ ys) (same_Some h (kind_of x) (sym own ∙ each v x (within 0 v refl) value))
    (heads_from values kinds n each head tuple heads (λ k. within (suc k))
    (rest_same _ _ (map (λ u. slice_get values u) head) (map (λ z. Some z) tuple) is)
    (rest_same _ _ (map (slice_get kinds) head) (map (λ kind. Some kind) heads) on))

-- an answer has values of the kinds of the heads
pub answer_kinds : (relations : List Relation) → AreRelations relations → (c : Rankings) (query : Query)
    → (on : IsQueryOn relations query) → (tuple : List Value) → IsAnswerIn relations query tuple c → on.heads ≡ map kind_of tuple
answer_kinds relations are c query on tuple answer =
    let own = answer.is_answer in
    let d = own.disjunct in
    let at = stands_at query.disjuncts d own.is_disjunct in
    let is = item_has IsDisjunct query.disjuncts on.is_query at.0 d at.1 in
    let d_on : IsDisjunctOn relations on.heads d =
    item_has (IsDisjunctOn relations on.heads) query.disjuncts on.disjuncts at.0 d at.1 in
    heads_from own.values d_on.kinds d.vars
    (value_kind relations are c answer.instance answer.is_current on.heads d is d_on own.values own.meets)
    d.head tuple on.heads (λ k v. item_has (λ (u : ℕ). u < d.vars) d.head is.head k v) own.is_head d_on.head
