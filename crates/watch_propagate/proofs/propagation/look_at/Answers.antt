use Rattle.std.proofs.Common.{◌≡◌, ◌∙◌, Some, refl, sym, subst}
use Rattle.std.proofs.lemmas.Option.{same_Some}
use Rattle.std.specs.Prelude.{option_map}
use Rattle.watch_links.specs.Links.{coming_after}
use Rattle.watch_links.proofs.SlotLists.{coming_in}
use Rattle.clause_arena.specs.Arenas.{watchers_of}
use Rattle.search_trail.specs.Trails.{implied}
use Rattle.watch_propagate.proofs.WalkGoes.{goes_same, implied_rule, implies_more, implies_same, rewatched_same, seen_grows, implied_grows, implied_has}
use Rattle.watch_propagate.proofs.WalkLits.{never_both}
use Rattle.watch_propagate.proofs.WalkLooks.{looked_within, clause_vars, looked_true, looked_reason}
use Rattle.watch_propagate.proofs.WalkLooks.{looked_conflict, looked_moved, truth_tested}
use Rattle.watch_propagate.proofs.WalkMoves.{facing, moved_rewatched, moved_rule, moved_others, moved_watchers}
use Rattle.watch_propagate.proofs.propagation.look_at.Goals as goal

pub side-from-requires : goal.side-from-requires
side-from-requires c = coming_in _ _ _ c.requires.comes

pub watched-other-requires-clause-watched : goal.watched-other-requires-clause-watched
watched-other-requires-clause-watched c = c.are_watchers.ensures.watched _ _ (coming_in _ _ _ c.requires.comes)

pub truth-known-requires : goal.truth-known-requires
truth-known-requires c =
    let w = c.are_watchers.ensures.watched _ _ (coming_in _ _ _ c.requires.comes) in
    clause_vars _ _ _ w.lits c.are_watchers.ensures c.requires.fits w.is_clause _ _ (c.watched-other.ensures _ w.is_clause)

pub lits-requires : goal.lits-requires
lits-requires c = looked_within _ _ _ c.are_watchers.ensures (coming_in _ _ _ c.requires.comes)

pub not_false-requires : goal.not_false-requires
not_false-requires c = clause_vars _ _ _ _ c.are_watchers.ensures c.requires.fits c.lits.ensures

-- the other watched literal is true
pub returns-then-eq-clause-goes : goal.returns-then-eq-clause-goes
returns-then-eq-clause-goes c = goes_same _ _ c.requires.rule

pub returns-then-eq-clause-stays : goal.returns-then-eq-clause-stays
returns-then-eq-clause-stays c =
    let stands = coming_in _ _ _ c.requires.comes in
    let w = c.are_watchers.ensures.watched _ _ stands in
    let f = facing _ _ w.lits _ _ _ c.are_watchers.ensures stands w.is_clause c.side-from.ensures.low
    (c.side-from.ensures.here _ w.is_clause) (c.watched-other.ensures _ w.is_clause) in
    λ e. (
      refl,
      looked_true _ c.args.trail.now _ _ _ _ _ f
          (c.truth-known.ensures.holds (truth_tested _ _ (sym c.eq.ensures ∙ c.if-eq.true))),
    )

-- the watch moves
pub move_watch-requires-clause-watched : goal.move_watch-requires-clause-watched
move_watch-requires-clause-watched c = c.are_watchers.ensures.watched _ _ (coming_in _ _ _ c.requires.comes)

pub move_watch-requires-clause-before : goal.move_watch-requires-clause-before
move_watch-requires-clause-before c lits left is at =
    let same = same_Some c.args.lit left (sym (c.side-from.ensures.here lits is) ∙ at) in
    subst (λ l. coming_after (option_map (λ n. n.0) c.args.before) (watchers_of c.args.arena.now l) ≡ Some c.args.clause.0) same
    c.requires.comes

pub returns-in-Some-clause-goes : goal.returns-in-Some-clause-goes
returns-in-Some-clause-goes c =
    let stands = coming_in _ _ _ c.requires.comes in
    let f = facing _ _ _ _ _ _ c.are_watchers.ensures stands c.lits.ensures c.side-from.ensures.low
    (c.side-from.ensures.here _ c.lits.ensures) (c.watched-other.ensures _ c.lits.ensures) in
    let m = looked_moved _ _ _ _ _ _ _ _ f c.in-Some.ensures.later c.move_watch.ensures.moved
    c.move_watch.ensures.clauses_left c.move_watch.ensures.lits_left in
    record {
      rewatched = moved_rewatched _ _ _ _ _ _ _ _ _ f m;
      implies = implies_same _ _;
      gone = refl;
      rule =
          moved_rule _ _ _ _ _ _ _ _ _ f m c.args.trail.now c.requires.rule
          (λ is. never_both c.args.trail.now c.are_entries.ensures c.args.lit is c.requires.is_false)
          (c.in-Some.ensures.found _ m.is_taken);
    }

pub returns-in-Some-clause-others : goal.returns-in-Some-clause-others
returns-in-Some-clause-others c =
    let stands = coming_in _ _ _ c.requires.comes in
    let f = facing _ _ _ _ _ _ c.are_watchers.ensures stands c.lits.ensures c.side-from.ensures.low
    (c.side-from.ensures.here _ c.lits.ensures) (c.watched-other.ensures _ c.lits.ensures) in
    let m = looked_moved _ _ _ _ _ _ _ _ f c.in-Some.ensures.later c.move_watch.ensures.moved
    c.move_watch.ensures.clauses_left c.move_watch.ensures.lits_left in
    λ other d s. moved_others _ _ _ _ _ _ _ _ _ f m c.args.trail.now c.args.lit other d s

pub returns-in-Some-clause-leaves : goal.returns-in-Some-clause-leaves
returns-in-Some-clause-leaves c =
    let stands = coming_in _ _ _ c.requires.comes in
    let f = facing _ _ _ _ _ _ c.are_watchers.ensures stands c.lits.ensures c.side-from.ensures.low
    (c.side-from.ensures.here _ c.lits.ensures) (c.watched-other.ensures _ c.lits.ensures) in
    let m = looked_moved _ _ _ _ _ _ _ _ f c.in-Some.ensures.later c.move_watch.ensures.moved
    c.move_watch.ensures.clauses_left c.move_watch.ensures.lits_left in
    λ e. moved_watchers _ _ _ _ _ _ _ _ _ f m

-- all literals are false
pub returns-then-eq-2-clause-goes : goal.returns-then-eq-2-clause-goes
returns-then-eq-2-clause-goes c = goes_same _ _ c.requires.rule

pub returns-then-eq-2-clause-fails : goal.returns-then-eq-2-clause-fails
returns-then-eq-2-clause-fails c =
    let stands = coming_in _ _ _ c.requires.comes in
    let f = facing _ _ _ _ _ _ c.are_watchers.ensures stands c.lits.ensures c.side-from.ensures.low
    (c.side-from.ensures.here _ c.lits.ensures) (c.watched-other.ensures _ c.lits.ensures) in
    λ e. looked_conflict _ c.args.trail.now _ _ _ _ _ f c.requires.is_false c.in_default.ensures.none
    (c.truth-known.ensures.fails (truth_tested _ _ (sym c.eq-2.ensures ∙ c.if-eq-2.true)))

-- the other watched literal is implied
pub imply-requires-clause-within : goal.imply-requires-clause-within
imply-requires-clause-within c =
    clause_vars _ _ _ _ c.are_watchers.ensures c.requires.fits c.lits.ensures _ _ (c.watched-other.ensures _ c.lits.ensures)

pub imply-requires-clause-reason : goal.imply-requires-clause-reason
imply-requires-clause-reason c =
    let stands = coming_in _ _ _ c.requires.comes in
    let f = facing _ _ _ _ _ _ c.are_watchers.ensures stands c.lits.ensures c.side-from.ensures.low
    (c.side-from.ensures.here _ c.lits.ensures) (c.watched-other.ensures _ c.lits.ensures) in
    rw c.lits.ensures (looked_reason _ c.args.trail.now _ _ _ _ _ f c.requires.is_false c.in_default.ensures.none)

pub imply-requires-clause-there : goal.imply-requires-clause-there
imply-requires-clause-there c = looked_within _ _ _ c.are_watchers.ensures (coming_in _ _ _ c.requires.comes)

pub returns-clause-goes : goal.returns-clause-goes
returns-clause-goes c =
    let stands = coming_in _ _ _ c.requires.comes in
    let f = facing _ _ _ _ _ _ c.are_watchers.ensures stands c.lits.ensures c.side-from.ensures.low
    (c.side-from.ensures.here _ c.lits.ensures) (c.watched-other.ensures _ c.lits.ensures) in
    let reason = looked_reason _ c.args.trail.now _ _ _ _ _ f c.requires.is_false c.in_default.ensures.none in
    rw c.imply.ensures
    (record {
      rewatched = rewatched_same _;
      implies = implies_more c.args.arena.now c.args.trail.now c.watched-other.result c.args.clause.0 _ c.lits.ensures reason;
      gone = refl;
      rule = implied_rule c.args.arena.now c.args.trail.now c.watched-other.result c.args.clause.0 c.are_entries.ensures
          c.requires.rule;
    })

pub returns-clause-others : goal.returns-clause-others
returns-clause-others c =
    λ other d s.
    rw c.imply.ensures
    (seen_grows c.args.arena.now c.args.trail.now _ c.args.lit other (implied_grows c.args.arena.now c.args.trail.now
    c.watched-other.result c.args.clause.0) s)

pub returns-clause-stays : goal.returns-clause-stays
returns-clause-stays c =
    let stands = coming_in _ _ _ c.requires.comes in
    let f = facing _ _ _ _ _ _ c.are_watchers.ensures stands c.lits.ensures c.side-from.ensures.low
    (c.side-from.ensures.here _ c.lits.ensures) (c.watched-other.ensures _ c.lits.ensures) in
    λ e.
    rw c.imply.ensures (
      refl,
      looked_true c.args.arena.now (implied c.args.trail.now c.watched-other.result c.args.clause.0) _ _
          _ _ _ f (implied_has c.args.trail.now c.watched-other.result c.args.clause.0),
    )
