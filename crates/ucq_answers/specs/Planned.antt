-- What is searched.
use Rattle.std.specs.Prelude.{List}
use Rattle.currency_base.specs.declared.value.Value.{Value}
use Rattle.query_model.specs.declared.query.Query.{Query}

-- a query, and for each relation its tuples
pub record IndexedQuery : Type 0 where
  pub query : Query
  pub instance : List (List (List Value))
