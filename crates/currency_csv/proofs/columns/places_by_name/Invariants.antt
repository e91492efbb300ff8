use Rattle.std.proofs.Common.{◌≡◌, ℕ, List, take}
use Rattle.csv.specs.Records.{fields_of}
use Rattle.indexmap.specs.IndexMap.{get}
use Rattle.std.specs.Str.{bytes_eq}
use Rattle.currency_csv.specs.Sources.{seen_of}
use Rattle.currency_csv.specs.Table.{places_in}
use Rattle.currency_csv.proofs.columns.places_by_name.Given as goal

abbrev pub invariant-loop-place : goal.invariant-loop-place
invariant-loop-place l = (name : List ℕ) → get bytes_eq l.places name ≡ seen_of
    (places_in (take l.place (fields_of l.header)) name)
