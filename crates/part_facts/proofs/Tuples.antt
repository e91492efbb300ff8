-- The current tuples of a part are among those of the whole.
use Rattle.std.proofs.Common.{◌≡◌, ◌<◌, ◌∙◌, ℕ, List, [], ◌∷◌, Contains, Some, length, get_or, slice_get, slice_index_or, sym, ap₂, subst, arith}
use Rattle.std.proofs.lemmas.List.{same_lists}
use Rattle.std.proofs.lemmas.Option.{same_Some, slice_get-get_or, slice_get_within}
use Rattle.currency_base.specs.declared.ids.EntId.{EntId}
use Rattle.currency_base.specs.declared.value.Value.{Value}
use Rattle.currency_base.specs.declared.value.Value.TheVariants.{Text}
use Rattle.spec_model.specs.Completion.{Rankings}
use Rattle.spec_model.specs.Current.{IsCurrentTuple, AreCurrentTuples, IsCurrentInstance}
use Rattle.spec_model.specs.declared.relation.Relation.{Relation}
use Rattle.part_laws.specs.Parts.{entities_in}
use Rattle.part_laws.proofs.Rows.{at_place, place_of, there}
use Rattle.part_laws.proofs.Listed.{list_below}
use Rattle.part_laws.proofs.Cuts.{Parted, IsParted, as_many_attrs, part_there}
use Rattle.part_laws.proofs.FactsKept.{values_are_kept}

-- an entity of a part has in it the current tuple that it has in the whole
tuple_whole : (p : Parted) (rel : ℕ) (r new : Relation) → IsParted p → slice_get p.s.relations rel ≡ Some r
    → slice_get p.part.relations rel ≡ Some new
    → (k : ℕ) (ent : EntId) → slice_get (entities_in p.n rel) k ≡ Some ent
    → (tuple : List Value) → IsCurrentTuple p.narrow rel new k tuple → IsCurrentTuple p.c rel r ent.0 tuple
tuple_whole p rel r new is at at_new k ent at_ent tuple of =
    let part = is.of.relations rel r new at at_new in
    let attrs : length new.attrs ≡ length r.attrs = as_many_attrs p rel r new is at at_new in
    record {
      name = of.name;
      values = of.values;
      is_name = sym (part.each_entity k ent at_ent) ∙ of.is_name;
      tuple_is = of.tuple_is;
      per_attr = of.per_attr ∙ attrs;
      current = λ attr below.
          of.current attr (omega (arith, below, attrs))
          ∙ values_are_kept p.s p.scope p.n p.part p.c p.narrow is.whole_is is.of is.shape is.narrowed rel r new at at_new attr
          below k ent at_ent;
    }

-- an entity has one current tuple
one_tuple : (c : Rankings) (rel : ℕ) (r : Relation) (ent : ℕ) (one other : List Value)
    → IsCurrentTuple c rel r ent one → IsCurrentTuple c rel r ent other → one ≡ other
one_tuple c rel r ent one other first second =
    let name : first.name ≡ second.name = same_Some first.name second.name (sym first.is_name ∙ second.is_name) in
    let values : first.values ≡ second.values =
    same_lists first.values second.values (first.per_attr ∙ sym second.per_attr)
    (λ k d inside.
    let below : k < length r.attrs = omega (arith, inside, first.per_attr) in
    let inside' : k < length second.values = omega (arith, below, second.per_attr) in
    same_Some (get_or first.values k d) (get_or second.values k d)
    (sym (slice_get-get_or first.values k d inside) ∙ first.current k below ∙ sym (second.current k below)
    ∙ slice_get-get_or second.values k d inside')) in
    first.tuple_is ∙ ap₂ (λ n vs. Text n ∷ vs) name values ∙ sym second.tuple_is

-- and it is among those of its relation
tuple_among : (c : Rankings) (rel : ℕ) (r : Relation) (ent : ℕ) (tuple : List Value) (tuples : List (List Value))
    → IsCurrentTuple c rel r ent tuple → AreCurrentTuples c rel r tuples → Contains tuples tuple
tuple_among c rel r ent tuple tuples is are =
    let below = slice_get_within r.entities ent is.name is.is_name in
    let one = there tuples ent (omega (arith, below, are.per_entity)) in
    subst (Contains tuples) (one_tuple c rel r ent one.0 tuple (are.each ent one.0 one.1) is) (at_place tuples ent one.0 one.1)

-- each current tuple of a relation's part is one of the relation
tuple_there : (p : Parted) (rel : ℕ) (r new : Relation) → IsParted p → slice_get p.s.relations rel ≡ Some r
    → slice_get p.part.relations rel ≡ Some new
    → (tuples olds : List (List Value)) → AreCurrentTuples p.narrow rel new tuples → AreCurrentTuples p.c rel r olds
    → (tuple : List Value) → Contains tuples tuple → Contains olds tuple
tuple_there p rel r new is at at_new tuples olds are olds_are tuple among =
    let place = place_of tuples tuple among in
    let inside = slice_get_within tuples place.0 tuple place.1 in
    let part = is.of.relations rel r new at at_new in
    let ent = there (entities_in p.n rel) place.0 (omega (arith, inside, are.per_entity, part.per_entity)) in
    tuple_among p.c rel r ent.0.0 tuple olds
    (tuple_whole p rel r new is at at_new place.0 ent.0 ent.1 tuple (are.each place.0 tuple place.1)) olds_are

-- each tuple of a part's current instance is one of the whole's
pub instance_wider : (p : Parted) → IsParted p → (instance whole : List (List (List Value)))
    → IsCurrentInstance p.part.relations p.narrow instance → IsCurrentInstance p.s.relations p.c whole
    → (rel : ℕ) (tuple : List Value) → Contains (slice_index_or instance rel []) tuple
    → Contains (slice_index_or whole rel []) tuple
instance_wider p is instance whole current whole_is rel tuple among =
    let place = place_of (slice_index_or instance rel []) tuple among in
    let inside = list_below instance rel place.0 tuple place.1 in
    let r = there p.s.relations rel (omega (arith, inside, current.per_relation, is.of.per_relation)) in
    let new = part_there p rel r.0 is r.1 in
    tuple_there p rel r.0 new.0 is r.1 new.1 (slice_index_or instance rel []) (slice_index_or whole rel [])
    (current.each rel new.0 new.1) (whole_is.each rel r.0 r.1) tuple among
