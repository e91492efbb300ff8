-- What is marked so far, with the variables that are left, is what is to be marked.
use Rattle.std.proofs.Common.{◌≡◌, length, drop, map}
use Rattle.currency_base.specs.Literals.{var_of}
use Rattle.log_trim.specs.Marked.{with_all}
use Rattle.log_trim.proofs.needs.mark_vars.Given as goal

abbrev pub invariant-loop-lit : goal.invariant-loop-lit
invariant-loop-lit l = record {
  count : length l.marks ≡ length l.initial.marks;
  all : with_all l.marks (map var_of (drop l.lit-index l.lits)) ≡ with_all l.initial.marks (map var_of l.lits);
}
