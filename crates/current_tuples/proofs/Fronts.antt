-- The front of a current tuple, one value after another.
use Rattle.std.proofs.Common.{◌≡◌, ◌+◌, ◌<◌, ℕ, List, [], ◌∷◌, ◌++◌, Some, length, slice_get, ap, ◌∙◌, arith}
use Rattle.std.proofs.lemmas.List.{length_push}
use Rattle.currency_base.specs.declared.value.Value.{Value}
use Rattle.currency_base.specs.declared.value.Value.TheVariants.{Text}
use Rattle.spec_model.specs.Completion.{Rankings}
use Rattle.spec_model.specs.Current.{current_value, IsCurrentTuple}
use Rattle.spec_model.specs.declared.relation.Relation.{Relation}
use Rattle.current_tuples.proofs.Pushed.{same_pushed}

-- the entity's name, and then the current values of so many attributes
pub record IsFront (c : Rankings) (rel : ℕ) (r : Relation) (ent count : ℕ) (tuple : List Value) : Type 0 where
  pub name : List ℕ
  pub values : List Value
  pub is_name : slice_get r.entities ent ≡ Some name
  pub tuple_is : tuple ≡ Text name ∷ values
  pub per_attr : length values ≡ count
  pub current : (attr : ℕ) → attr < count → slice_get values attr ≡ current_value c rel r.rows attr ent

-- the current value of one more attribute
pub front_more : (c : Rankings) (rel : ℕ) (r : Relation) (ent count : ℕ) (tuple : List Value) (value : Value)
    → current_value c rel r.rows count ent ≡ Some value → IsFront c rel r ent count tuple
    → IsFront c rel r ent (count + 1) (tuple ++ value ∷ [])
front_more c rel r ent count tuple value is_value front =
    record {
      name = front.name;
      values = front.values ++ value ∷ [];
      is_name = front.is_name;
      tuple_is = ap (λ (t : List Value). t ++ value ∷ []) front.tuple_is;
      per_attr = length_push front.values value ∙ ap (λ n. n + 1) front.per_attr;
      current =
          same_pushed (λ attr. current_value c rel r.rows attr ent) front.values count value front.per_attr is_value
          front.current;
    }

-- the values of all attributes
pub front_all : (c : Rankings) (rel : ℕ) (r : Relation) (ent count : ℕ) (tuple : List Value)
    → count ≡ length r.attrs → IsFront c rel r ent count tuple → IsCurrentTuple c rel r ent tuple
front_all c rel r ent count tuple all front =
    record {
      name = front.name;
      values = front.values;
      is_name = front.is_name;
      tuple_is = front.tuple_is;
      per_attr = front.per_attr ∙ all;
      current = λ attr below. front.current attr (omega (arith, all));
    }
