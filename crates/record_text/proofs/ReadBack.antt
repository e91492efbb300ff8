-- The text of records, read as a table is read.
use Rattle.std.proofs.Common.{[], ℕ, List, ◌∷◌, map, refl}
use Rattle.csv.specs.Machine.{next_record}
use Rattle.csv.specs.Reading.{Reached, default_config}
use Rattle.csv.specs.Writing.{read_back}
use Rattle.csv.specs.declared.parser.State.TheVariants as st
use Rattle.csv.proofs.RoundTrip.{read-write}
use Rattle.record_text.specs.Laws.{RecordsReadBack}
use Rattle.record_text.specs.Text.{records_text}
use Rattle.record_text.proofs.Marks.{kept_text, plain_text}

-- the records that a reader gives, one after the other
pub reached : (records : List (List (List ℕ)))
    → Reached default_config st.StartRecord (records_text records) (map read_back records) st.StartRecord []
unfolding Reached
reached [] = (refl, refl)
reached (fields ∷ more) =
    ((read_back fields, st.StartRecord, records_text more), read-write fields (records_text more), refl, reached more)

-- the text of records has them as its records
pub read_again : RecordsReadBack
unfolding next_record
read_again records plain =
    let whole = kept_text (records_text records) (plain_text records plain) in
    rw whole (st.StartRecord, [], reached records, refl)
