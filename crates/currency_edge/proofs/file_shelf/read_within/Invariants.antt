-- What was read so far is within the bound and the front of what the reader had.
use Rattle.std.proofs.Common.{◌≡◌, ◌≤◌, length, vec_len}
use Rattle.std.specs.Io.KnownBytes.{Consumes}
use Rattle.currency_edge.proofs.file_shelf.read_within.Given as goal

abbrev pub invariant-loop : goal.invariant-loop
invariant-loop g l = record {
  room : length l.piece ≡ length l.initial.piece;
  within : vec_len l.into ≤ l.at_most;
  so_far : Consumes (g.R.Read.remaining l.initial.reader) (g.R.Read.remaining l.reader) l.into.items;
}
