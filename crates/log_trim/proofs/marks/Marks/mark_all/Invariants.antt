-- What is marked so far, with the places that are left, is what is to be marked.
use Rattle.std.proofs.Common.{◌≡◌, length, drop}
use Rattle.log_trim.specs.Marked.{with_all}
use Rattle.log_trim.proofs.marks.Marks.mark_all.Given as goal

abbrev pub invariant-loop-place : goal.invariant-loop-place
invariant-loop-place l = record {
  count : length l.self ≡ length l.initial.self;
  all : with_all l.self (drop l.place-index l.places) ≡ with_all l.initial.self l.places;
}
