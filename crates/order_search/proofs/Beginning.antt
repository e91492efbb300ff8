-- The start of a search.
use Rattle.std.proofs.Common.{◌≡◌, ◌∙◌, false, [], length, replicate, refl, sym, arith}
use Rattle.std.proofs.lemmas.List.{append-nil, length-map, length-replicate}
use Rattle.std.proofs.lemmas.List.FromFn.{length-range_with_len}
use Rattle.std.specs.List.{range_with_len}
use Rattle.order_clauses.specs.Clauses.{AreAxioms}
use Rattle.search_trail.specs.Trails.{Trail, lits_of, value_in, values_of}
use Rattle.watch_solver.specs.Decided.{Solver}
use Rattle.search_logs.specs.SearchLogs.{IsPosed, IsWithin}
use Rattle.order_search.specs.Kept.{IsHeld, posed_of, vars_of}
use Rattle.order_search.specs.Searches.{Subject}
use Rattle.order_search.proofs.Growing.{asked_axioms, axioms_next}
use Rattle.order_search.proofs.Marking.{none_marked}

pub held_begun : (s : Subject) (solver : Solver) → IsWithin s.spec → IsPosed (posed_of s solver.frame)
    → s.wanted.answers ≡ length solver.frame.answers
    → solver.frame.statements ≡ vars_of s
    → AreAxioms s.spec s.wanted.currents (vars_of s) solver.steps
    → IsHeld s solver (replicate (length (vars_of s)) false)
held_begun s solver within is_posed many statements are =
    let next = axioms_next s (posed_of s solver.frame) [] solver.steps solver.steps refl (asked_axioms s solver.steps are) in
    record {
      search = record {
        within = within;
        log = record {
          is_posed = is_posed;
          as_many = many;
          answers = refl;
          statements = statements;
          steps = λ place taken at. (next.each place taken (omega arith) at).0;
        };
        begins = record { axioms = solver.steps; later = []; steps_are = sym (append-nil solver.steps); are_axioms = are };
        counted_new = λ place taken at counted. (next.each place taken (omega arith) at).1 counted;
      };
      lists = record {
        per_variable = length-replicate (length (vars_of s)) false;
        marked = λ var mark. absurd (none_marked (length (vars_of s)) var mark);
      };
    }

-- each variable has a value or none
pub as_many_values : (t : Trail) → length (values_of t).given ≡ t.vars
as_many_values t = length-map (range_with_len 0 t.vars) (value_in (lits_of t)) ∙ length-range_with_len 0 t.vars
