use Rattle.std.proofs.Common.{◌≡◌, ◌<◌, ◌+◌, ◌∷◌, ◌∙◌, length, get_or, slice_set, rules, ap, arith}
use Rattle.flat_lists.specs.Flat.{cut_from}
use Rattle.clause_arena.specs.Slots.{Clauses}
use Rattle.clause_arena.proofs.Written.{is_place}
use Rattle.clause_arena.proofs.clause_lits.ClauseLits.set.Goals as goal

pub start_of-start-requires : goal.start_of-start-requires
start_of-start-requires c =
    let p = is_place _ _ _ _ c.args.place c.self.invariant (ap (λ (v : Clauses). v.lists) c.self.view_is)
    c.requires.clause c.requires.place in
    omega (arith, p.known, ap length c.deref.ensures.value)

pub overflow_add-start : goal.overflow_add-start
overflow_add-start c =
    let p = is_place _ _ _ _ c.args.place c.self.invariant (ap (λ (v : Clauses). v.lists) c.self.view_is)
    c.requires.clause c.requires.place in
    let start : c.start_of-start.result ≡ get_or (0 ∷ c.self.inside.ends.items) c.args.clause 0 =
    c.start_of-start.ensures ∙ ap (λ ends. get_or (0 ∷ ends) c.args.clause 0) c.deref.ensures.value in
    let few : c.start_of-start.result + c.args.place < 4294967296 = omega (arith, start, p.inside, c.self.invariant.few) in
    search (rules, few)

pub index_mut-requires : goal.index_mut-requires
index_mut-requires c =
    let p = is_place _ _ _ _ c.args.place c.self.invariant (ap (λ (v : Clauses). v.lists) c.self.view_is)
    c.requires.clause c.requires.place in
    let start : c.start_of-start.result ≡ get_or (0 ∷ c.self.inside.ends.items) c.args.clause 0 =
    c.start_of-start.ensures ∙ ap (λ ends. get_or (0 ∷ ends) c.args.clause 0) c.deref.ensures.value in
    omega (arith, start, p.inside, c.self.inside.lits.ok.0)

pub returns-clause-lists : goal.returns-clause-lists
returns-clause-lists c lits is_clause =
    let p = is_place _ _ _ _ c.args.place c.self.invariant (ap (λ (v : Clauses). v.lists) c.self.view_is)
    c.requires.clause c.requires.place in
    let start : c.start_of-start.result ≡ get_or (0 ∷ c.self.inside.ends.items) c.args.clause 0 =
    c.start_of-start.ensures ∙ ap (λ ends. get_or (0 ∷ ends) c.args.clause 0) c.deref.ensures.value in
    ap (λ start. cut_from 0 c.self.inside.ends.items (slice_set c.self.inside.lits.items (start + c.args.place) c.args.lit)) start
    ∙ p.written lits c.args.lit is_clause
