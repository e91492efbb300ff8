use Rattle.std.proofs.Common.{◌≡◌, ◌+◌, ◌-◌, ◌∙◌, ap, length, slice_get, Some, subst, sym, arith}
use Rattle.std.proofs.lemmas.List.Elements.{All-contains}
use Rattle.std.proofs.lemmas.Option.{slice_get_within}
use Rattle.std.proofs.lemmas.Result.{IfOk-weaker}
use Rattle.match_candidates.specs.Found.{Adds}
use Rattle.match_candidates.specs.Meant.{IsLast, Left, next_left, steps_of}
use Rattle.match_candidates.specs.Ways.{AllStand, AreWays, IsWay}
use Rattle.match_candidates.proofs.Branches.{all_known, fewer_atoms, fewer_places, past_end, stands_first, stands_next}
use Rattle.match_candidates.proofs.Collecting.{adds_none, adds_same, by_all, by_more, by_none, by_stop}
use Rattle.match_candidates.proofs.Meanings.{Going, MeantAt, MeantBy, MeantOf, by_ent, by_way, meant_by, none_meant, of_ent, of_last, of_way, to_last}
use Rattle.match_candidates.proofs.search.+search.Goals as goal

pub returns-then-not-passes : goal.returns-then-not-passes
returns-then-not-passes t c =
    let g : Going = record {
      relations = c.args.source.tables.now;
      tests = c.args.source.tests.now;
      number = c.args.source.number;
      ents = c.args.ents.now;
    } in
    let left = c.args.rest.now in
    let b = c.args.values.now in
    adds_none (MeantAt g left b) c.args.found.now (λ m is. none_meant g left b m c.if-not-passes.ensures is)

pub next-next-requires : goal.next-next-requires
next-next-requires t c = slice_get_within c.args.rest.now.terms c.args.rest.now.at.place c.in-Some.term.now
    (sym c.in-Some.ensures)

pub loop-way-init : goal.loop-way-init
loop-way-init t c =
    let g : Going = record {
      relations = c.args.source.tables.now;
      tests = c.args.source.tests.now;
      number = c.args.source.number;
      ents = c.args.ents.now;
    } in
    let left = c.args.rest.now in
    let b = c.args.values.now in
    by_none (MeantAt g (next_left left)) c.deref-way-items.result.now c.args.found.now

pub search-requires : goal.search-requires
search-requires t c =
    let g : Going = record {
      relations = c.args.source.tables.now;
      tests = c.args.source.tests.now;
      number = c.args.source.number;
      ents = c.args.ents.now;
    } in
    let left = c.args.rest.now in
    let b = c.args.values.now in
    let items = c.deref-way-items.result.now in
    let i = c.loop-way.way-index in
    let t = c.in-Some.term.now in
    let here : slice_get left.terms left.at.place ≡ Some t = sym c.in-Some.ensures in
    let are : AreWays g.relations left.at b t items =
    subst (λ a. AreWays g.relations a b t items) c.at.ensures
    (subst (AreWays g.relations c.at.result b t) (sym c.deref-way-items.ensures.value) c.in_ok-ways.ensures) in
    let fewer = fewer_places left.terms left.atoms left.at.place t here in
    let way = All-contains (IsWay g.relations left.at b t) items c.way-item.result are.each
    (c.loop-way.way-index, c.loop-way-test.true, sym c.way-item.is) in
    let stand = stands_next g.relations left.at left.terms left.atoms b c.way-item.result t here way c.requires in
    let same = c.next-next.ensures in
    let size = ap (λ (l : Left). (length l.terms - l.at.place) + steps_of l.atoms) same in (
      omega (arith, fewer, size, c.decreases),
      subst (λ (l : Left). AllStand l.at.place l.terms l.atoms c.way-item.result) (sym same) stand,
    )

pub returns-then-branch : goal.returns-then-branch
returns-then-branch t c =
    let g : Going = record {
      relations = c.args.source.tables.now;
      tests = c.args.source.tests.now;
      number = c.args.source.number;
      ents = c.args.ents.now;
    } in
    let left = c.args.rest.now in
    let b = c.args.values.now in
    let items = c.deref-way-items.result.now in
    let i = c.loop-way.way-index in
    let t = c.in-Some.term.now in
    let here : slice_get left.terms left.at.place ≡ Some t = sym c.in-Some.ensures in
    let are : AreWays g.relations left.at b t items =
    subst (λ a. AreWays g.relations a b t items) c.at.ensures
    (subst (AreWays g.relations c.at.result b t) (sym c.deref-way-items.ensures.value) c.in_ok-ways.ensures) in
    by_stop (MeantAt g (next_left left)) items c.args.found.now
    (MeantAt g left b) i c.way-item.result c.loop-way.found c.search.new.found
    c.in_ok-search.field-0 c.if-branch.true c.loop-way-test.true c.way-item.is c.loop-way.invariant
    (subst (λ l. Adds (MeantAt g l c.way-item.result) c.loop-way.found c.search.new.found c.in_ok-search.field-0)
    c.next-next.ensures
    c.in_ok-search.ensures)
    (λ m is. of_way g left b t here items are m is)

pub loop-way-preserved : goal.loop-way-preserved
loop-way-preserved t c =
    let g : Going = record {
      relations = c.args.source.tables.now;
      tests = c.args.source.tests.now;
      number = c.args.source.number;
      ents = c.args.ents.now;
    } in
    let left = c.args.rest.now in
    let b = c.args.values.now in
    let items = c.deref-way-items.result.now in
    let i = c.loop-way.way-index in
    by_more (MeantAt g (next_left left)) items c.args.found.now i c.way-item.result c.loop-way.found c.search.new.found
    c.loop-way-test.true c.way-item.is c.loop-way.invariant
    (subst (Adds (MeantAt g (next_left left) c.way-item.result) c.loop-way.found c.search.new.found) c.if-branch.false
    (subst (λ l. Adds (MeantAt g l c.way-item.result) c.loop-way.found c.search.new.found c.in_ok-search.field-0)
    c.next-next.ensures
    c.in_ok-search.ensures))

pub returns-in-Some : goal.returns-in-Some
returns-in-Some t c =
    let g : Going = record {
      relations = c.args.source.tables.now;
      tests = c.args.source.tests.now;
      number = c.args.source.number;
      ents = c.args.ents.now;
    } in
    let left = c.args.rest.now in
    let b = c.args.values.now in
    let items = c.deref-way-items.result.now in
    let i = c.loop-way.way-index in
    let t = c.in-Some.term.now in
    let here : slice_get left.terms left.at.place ≡ Some t = sym c.in-Some.ensures in
    let are : AreWays g.relations left.at b t items =
    subst (λ a. AreWays g.relations a b t items) c.at.ensures
    (subst (AreWays g.relations c.at.result b t) (sym c.deref-way-items.ensures.value) c.in_ok-ways.ensures) in
    by_all (MeantAt g (next_left left)) items c.args.found.now
    (MeantAt g left b) i c.loop-way.found c.loop-way-test.false c.loop-way.invariant
    (λ m is. of_way g left b t here items are m is) (λ m is. by_way g left b t here items are m is)

pub returns-in_default-atom : goal.returns-in_default-atom
returns-in_default-atom t c =
    let g : Going = record {
      relations = c.args.source.tables.now;
      tests = c.args.source.tests.now;
      number = c.args.source.number;
      ents = c.args.ents.now;
    } in
    let left = c.args.rest.now in
    let b = c.args.values.now in
    let past = past_end left.terms left.at.place c.in_default.ensures in
    let none = c.in_default-atom.ensures.none in
    let full = all_known left.at.place left.terms left.atoms b past none c.requires in
    IfOk-weaker c.add_match.result _ _
    (λ is_full adds. adds_same (IsLast g.tests g.number g.ents b)
    (MeantAt g left b) c.args.found.now c.add_match.new.found is_full adds
    (λ m is. of_last g left b past none full m is) (λ m is. to_last g left b past none full m is)) c.add_match.ensures

pub loop-entry-init : goal.loop-entry-init
loop-entry-init t c =
    let g : Going = record {
      relations = c.args.source.tables.now;
      tests = c.args.source.tests.now;
      number = c.args.source.number;
      ents = c.args.ents.now;
    } in
    let left = c.args.rest.now in
    let b = c.args.values.now in
    by_none (MeantOf g c.in-Some-atom.atom.now c.in-Some-atom.atoms.now b) c.candidates-entry-items.result.now c.args.found.now

pub search-requires-in-loop-entry : goal.search-requires-in-loop-entry
search-requires-in-loop-entry t c =
    let g : Going = record {
      relations = c.args.source.tables.now;
      tests = c.args.source.tests.now;
      number = c.args.source.number;
      ents = c.args.ents.now;
    } in
    let left = c.args.rest.now in
    let b = c.args.values.now in
    let atom = c.in-Some-atom.atom.now in
    let rest = c.in-Some-atom.atoms.now in
    let items = c.candidates-entry-items.result.now in
    let i = c.loop-entry.entry-index in
    let past = past_end left.terms left.at.place c.in_default.ensures in
    let fewer = fewer_atoms left.terms left.atoms rest atom left.at.place c.in-Some-atom.ensures.some in
    let stand = stands_first left.at.place left.terms left.atoms rest atom b past c.in-Some-atom.ensures.some c.requires in
    let same = c.of_atom-first.ensures in
    let size = ap (λ (l : Left). (length l.terms - l.at.place) + steps_of l.atoms) same in (
      omega (arith, fewer, size, c.decreases),
      subst (λ (l : Left). AllStand l.at.place l.terms l.atoms b) (sym same) stand,
    )

pub returns-then-branch-2 : goal.returns-then-branch-2
returns-then-branch-2 t c =
    let g : Going = record {
      relations = c.args.source.tables.now;
      tests = c.args.source.tests.now;
      number = c.args.source.number;
      ents = c.args.ents.now;
    } in
    let left = c.args.rest.now in
    let b = c.args.values.now in
    let atom = c.in-Some-atom.atom.now in
    let rest = c.in-Some-atom.atoms.now in
    let items = c.candidates-entry-items.result.now in
    let i = c.loop-entry.entry-index in
    let past = past_end left.terms left.at.place c.in_default.ensures in
    by_stop (MeantOf g atom rest b) items c.args.found.now (MeantAt g left b) i c.entry-item.result c.loop-entry.found
    c.search-in-loop-entry.new.found c.in_ok-search-2.field-0 c.if-branch-2.true c.loop-entry-test.true c.entry-item.is
    c.loop-entry.invariant
    (meant_by g atom rest b c.entry-item.result.ent c.of_atom-first.result c.deref.result.now c.loop-entry.found
    c.search-in-loop-entry.new.found c.in_ok-search-2.field-0 c.of_atom-first.ensures (c.deref.ensures.value
    ∙ c.in_ok-more.ensures)
    c.in_ok-search-2.ensures)
    (λ m is. of_ent g left b atom rest past c.in-Some-atom.ensures.some items c.candidates-entry-items.ensures m is)

pub loop-entry-preserved : goal.loop-entry-preserved
loop-entry-preserved t c =
    let g : Going = record {
      relations = c.args.source.tables.now;
      tests = c.args.source.tests.now;
      number = c.args.source.number;
      ents = c.args.ents.now;
    } in
    let left = c.args.rest.now in
    let b = c.args.values.now in
    let atom = c.in-Some-atom.atom.now in
    let rest = c.in-Some-atom.atoms.now in
    let items = c.candidates-entry-items.result.now in
    let i = c.loop-entry.entry-index in
    by_more (MeantOf g atom rest b) items c.args.found.now i c.entry-item.result c.loop-entry.found
    c.search-in-loop-entry.new.found
    c.loop-entry-test.true c.entry-item.is c.loop-entry.invariant
    (subst (Adds (MeantBy g atom rest b c.entry-item.result.ent) c.loop-entry.found c.search-in-loop-entry.new.found)
    c.if-branch-2.false
    (meant_by g atom rest b c.entry-item.result.ent c.of_atom-first.result c.deref.result.now c.loop-entry.found
    c.search-in-loop-entry.new.found c.in_ok-search-2.field-0 c.of_atom-first.ensures (c.deref.ensures.value
    ∙ c.in_ok-more.ensures)
    c.in_ok-search-2.ensures))

pub returns : goal.returns
returns t c =
    let g : Going = record {
      relations = c.args.source.tables.now;
      tests = c.args.source.tests.now;
      number = c.args.source.number;
      ents = c.args.ents.now;
    } in
    let left = c.args.rest.now in
    let b = c.args.values.now in
    let atom = c.in-Some-atom.atom.now in
    let rest = c.in-Some-atom.atoms.now in
    let items = c.candidates-entry-items.result.now in
    let i = c.loop-entry.entry-index in
    let past = past_end left.terms left.at.place c.in_default.ensures in
    by_all (MeantOf g atom rest b) items c.args.found.now
    (MeantAt g left b) i c.loop-entry.found c.loop-entry-test.false c.loop-entry.invariant
    (λ m is. of_ent g left b atom rest past c.in-Some-atom.ensures.some items c.candidates-entry-items.ensures m is)
    (λ m is. by_ent g left b atom rest past c.in-Some-atom.ensures.some items c.candidates-entry-items.ensures m is)
