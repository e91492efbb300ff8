use Rattle.std.proofs.Common.{List, Contains, sym, subst}
use Rattle.currency_base.specs.declared.lit.Lit.{Lit}
use Rattle.watch_propagate.proofs.KeptLists.{same_get}
use Rattle.search_state.proofs.Dropping.{held_without, part_stays}
use Rattle.search_state.proofs.leaving.drop_superset.Goals as goal
use Rattle.search_state.proofs.leaving.drop_superset.Goals.{After-leave}

-- the literals of the part are among the clause's
among : (c : After-leave) → (lit : Lit) → Contains c.requires.lits lit → Contains c.lits-lits.result.now lit
among c lit h =
    c.is_part.ensures c.if-is_part.true lit
    (subst (λ (ls : List Lit). Contains ls lit)
    (same_get c.args.arena.now.clauses c.args.part.0 c.requires.lits c.lits.result.now c.requires.is_clause c.lits.ensures) h)

pub returns-then-is_part-clause-held : goal.returns-then-is_part-clause-held
returns-then-is_part-clause-held c =
    held_without c.args.arena.now c.leave.new.self c.args.part.0 c.args.clause c.lits-lits.result.now c.requires
    (λ e. c.if-clause-part.false (sym e)) c.lits-lits.ensures (among c) c.leave.ensures.clauses c.leave.ensures.watchers

pub returns-then-is_part-clause-watched : goal.returns-then-is_part-clause-watched
returns-then-is_part-clause-watched c =
    part_stays c.args.arena.now c.leave.new.self c.args.part.0 c.args.clause c.lits-lits.result.now c.requires
    (λ e. c.if-clause-part.false (sym e)) c.lits-lits.ensures (among c) c.leave.ensures.clauses c.leave.ensures.watchers
