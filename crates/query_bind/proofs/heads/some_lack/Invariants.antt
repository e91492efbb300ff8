-- None so far lacks the name.
use Rattle.std.proofs.Common.{◌≡◌, not, drop}
use Rattle.std.specs.Prelude.{is_some}
use Rattle.std.specs.List.{list_any}
use Rattle.spec_names.specs.Names.{place_of}
use Rattle.query_bind.proofs.heads.some_lack.Given as goal

abbrev pub invariant-loop-vars : goal.invariant-loop-vars
invariant-loop-vars l =
    list_any (λ vars. not (is_some (place_of vars l.name))) (drop l.vars-index l.each) ≡ list_any
    (λ vars. not (is_some (place_of vars l.name))) l.each
