-- What contracts see of shelves and sinks, in place of their fields.
use Rattle.std.specs.Prelude.{ℕ, ◌-◌, List, Option, Bool, false, None, Some, length, min, nat_eq, nat_le, not, ◌||◌, if◌then◌else◌}
use Rattle.currency_edge.specs.Fault.{one_more}
use Rattle.currency_edge.specs.Shelf.{has_name}

-- a shelf in memory: its documents, how many reads were made, which read is to fail, and the count of faults
pub record ShelfState : Type 0 where
  pub documents : List (List ℕ × List ℕ)
  pub reads : ℕ
  pub failing : Option ℕ
  pub faults : ℕ

-- is this the read that is to fail?
abbrev pub is_failing : Option ℕ → ℕ → Bool
is_failing None read = false
is_failing (Some failing) read = nat_eq failing read

-- does the next read fail, since it is the one that is to fail or since no document has the name?
abbrev pub fails_next : ShelfState → List ℕ → Bool
fails_next shelf name = is_failing shelf.failing (one_more shelf.reads) || not (has_name shelf.documents name)

-- the shelf after the next read: the read is counted, and its fault where it fails
abbrev pub after_read : ShelfState → List ℕ → ShelfState
after_read shelf name = record shelf {
  reads = one_more shelf.reads;
  faults = (if fails_next shelf name then one_more shelf.faults else shelf.faults);
}

-- a sink in memory: its bytes, how many it takes in all where that is limited, and the count of faults
pub record SinkState : Type 0 where
  pub written : List ℕ
  pub limit : Option ℕ
  pub faults : ℕ

-- has the sink taken as many bytes as it takes in all?
abbrev pub is_full_at : Option ℕ → ℕ → Bool
is_full_at None held = false
is_full_at (Some limit) held = nat_le limit held

abbrev pub is_full : SinkState → Bool
is_full sink = is_full_at sink.limit (length sink.written)

-- how many of so many bytes still fit
abbrev pub fitting_at : Option ℕ → ℕ → ℕ → ℕ
fitting_at None held count = count
fitting_at (Some limit) held count = min count (limit - held)

abbrev pub fitting : SinkState → ℕ → ℕ
fitting sink count = fitting_at sink.limit (length sink.written) count

-- a sink over a writer: the bytes that the writer holds, where it tells them, and the count of faults
pub record WriterState : Type 0 where
  pub written : Option (List ℕ)
  pub faults : ℕ
