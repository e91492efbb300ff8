-- Cells of the least set, told as forced pairs, are all of them, each derived from pairs that stand before it.
use Rattle.std.proofs.Common.{◌≡◌, ◌↔◌, ◌<◌, ◌∙◌, ℕ, Bool, true, List, [], ◌∷◌, Some, All, Contains, length, take, get_or, slice_get, refl, sym, ap, subst, arith}
use Rattle.std.proofs.lemmas.Option.{same_Some, slice_get_within, slice_get-get_or}
use Rattle.currency_base.specs.declared.ids.CopyId.{CopyId}
use Rattle.currency_base.specs.declared.ids.RelId.{RelId}
use Rattle.currency_base.specs.declared.ids.RowId.{RowId}
use Rattle.currency_base.specs.declared.ids.RuleId.{RuleId}
use Rattle.currency_base.specs.declared.pair.Pair.{Pair}
use Rattle.horn_closure.specs.Least.{Horn, IsLeast, AreLeast, cells_of}
use Rattle.horn_closure.specs.Least as cells
use Rattle.horn_closure.specs.declared.derived.Derived.{Derived}
use Rattle.horn_closure.specs.declared.derived.Why as cell
use Rattle.horn_closure.specs.declared.derived.Why.TheVariants.{Fact, Joined, Clause}
use Rattle.order_squares.specs.Squares.{IsSlot}
use Rattle.order_squares.proofs.Places.{item_at}
use Rattle.order_squares.proofs.Slots.{slot_in, one_slot, IsOnePair, one_pair, parts}
use Rattle.forced_closure.specs.Forced.{IsForced, IsGiven, IsInstance, HasLoop}
use Rattle.forced_closure.specs.Clauses.{Subject, IsRuleClause, IsCopyClause, IsSaid, HornClauses}
use Rattle.forced_closure.specs.Derived.{IsPair, IsAmong, IsJoined, IsRuled, IsCopied, IsCopiedBack, IsDerived, AreForced}
use Rattle.forced_closure.specs.Kept.{AreTellable, IsTellable, IsThere, IsPairOfCell, ArePairsOfCells, IsWhy, IsWhyOf, IsTable}
use Rattle.forced_closure.specs.Kept.{HasLoopIn, IsClosure}
use Rattle.forced_closure.specs.declared.forced.Forced.{Forced}
use Rattle.forced_closure.specs.declared.forced.Why.{Why}
use Rattle.forced_closure.specs.declared.forced.Why.TheVariants as why
use Rattle.forced_closure.specs.declared.origin.Origin.{Origin}
use Rattle.forced_closure.specs.declared.origin.Origin.TheVariants as origin
use Rattle.forced_closure.proofs.Adding.{stands, contains_at, get_take, take_get}
use Rattle.forced_closure.proofs.Agree.{horn_of, IsCase, move_slot, the_one, made, least_forced, forced_least}

-- ---- cells and pairs

pub pair_of_cell : (m : Subject) (origins : List Origin) (derived : List Derived) (pairs : List Forced)
    → ArePairsOfCells m origins derived pairs (length derived) → (i : ℕ) (d : Derived)
    → slice_get derived i ≡ Some d → (f : Forced) × (slice_get pairs i ≡ Some f) × IsPairOfCell m origins d f
pair_of_cell m origins derived pairs are i d at =
    let f = item_at pairs i (omega (arith, are.many, slice_get_within derived i d at)) in
    (f.0, f.1, are.each i d f.0 at f.1)

-- a pair whose slot is that of a pair that was told is this one
is_pair : (m : Subject) (origins : List Origin) (d : Derived) (f : Forced) (rel attr : ℕ) (a b : RowId) (slot : ℕ)
    → IsPairOfCell m origins d f → d.slot ≡ slot
    → IsSlot m.layout rel attr a b slot → IsPair f rel attr a b
is_pair m origins d f rel attr a b slot told same at =
    let one = one_pair m.layout f.rel.0 f.pair.attr.0 f.pair.earlier f.pair.later rel attr a b slot
    (subst (IsSlot m.layout f.rel.0 f.pair.attr.0 f.pair.earlier f.pair.later) same told.is_slot) at in
    record { rel_is = one.rels; attr_is = one.attrs; earlier_is = one.earliers; later_is = one.laters }

-- pairs of slots that stand before were told before
among_before : (m : Subject) (origins : List Origin) (derived : List Derived) (pairs : List Forced)
    → ArePairsOfCells m origins derived pairs (length derived)
    → (n : ℕ) (rel attr : ℕ) (a b : RowId) (slot : ℕ) → cells.IsAmong (take n derived) slot → IsSlot m.layout rel attr a b slot
    → IsAmong (take n pairs) rel attr a b
among_before m origins derived pairs are n rel attr a b slot among at =
    let st = stands (take n derived) among.one among.is_in in
    let full = get_take n derived st.0 among.one st.1 in
    let f = pair_of_cell m origins derived pairs are st.0 among.one full.1 in
    record {
      forced = f.0;
      is_in = contains_at (take n pairs) st.0 f.0 (take_get n pairs st.0 f.0 full.0 f.1);
      is_pair = is_pair m origins among.one f.0 rel attr a b slot f.2 among.slot_is at;
    }

among_all : (m : Subject) (origins : List Origin) (derived : List Derived) (pairs : List Forced)
    → ArePairsOfCells m origins derived pairs (length derived)
    → (rel attr : ℕ) (a b : RowId) (slot : ℕ) → cells.IsAmong derived slot → IsSlot m.layout rel attr a b slot
    → IsAmong pairs rel attr a b
among_all m origins derived pairs are rel attr a b slot among at =
    let st = stands derived among.one among.is_in in
    let f = pair_of_cell m origins derived pairs are st.0 among.one st.1 in
    record {
      forced = f.0;
      is_in = contains_at pairs st.0 f.0 f.1;
      is_pair = is_pair m origins among.one f.0 rel attr
          a b slot f.2 among.slot_is at;
    }

-- ---- derivations

same_pair : (p q : Pair) → p.attr.0 ≡ q.attr.0 → p.earlier ≡ q.earlier → p.later ≡ q.later → p ≡ q
same_pair p q attrs earliers laters =
    ap (λ (n : ℕ). let x : Pair = record { attr = record { 0 = n }; earlier = p.earlier; later = p.later } in x) attrs
    ∙ (ap (λ (r : RowId). let x : Pair = record { attr = q.attr; earlier = r; later = p.later } in x) earliers
    ∙ ap (λ (r : RowId). let x : Pair = record { attr = q.attr; earlier = q.earlier; later = r } in x) laters)

-- the first so many of what was derived, and as they were told
module _ (m : Subject) (facts : List ℕ) (t : HornClauses) (is : IsCase m facts t) (derived : List Derived) (pairs : List Forced)
    (are : ArePairsOfCells m t.origins derived pairs (length derived)) (n : ℕ) where
  fact_derived : (rel : RelId) (pair : Pair) (slot : ℕ) → Contains facts slot → IsSlot m.layout rel.0 pair.attr.0
      pair.earlier pair.later slot → IsGiven m.spec rel.0 pair
  fact_derived rel pair slot c at =
      let g = is.facts_are.each slot c in
      let one = one_pair m.layout g.rel g.pair.attr.0 g.pair.earlier g.pair.later rel.0 pair.attr.0 pair.earlier
      pair.later slot g.is_slot at in
      subst (λ r. IsGiven m.spec r pair) one.rels
      (subst (IsGiven m.spec g.rel) (same_pair g.pair pair one.attrs one.earliers one.laters) g.is_given)

  joined_derived : (f : Forced) (slot first second : ℕ) → cells.IsJoined (horn_of m facts t) (take n derived) slot first second
      → IsSlot m.layout f.rel.0 f.pair.attr.0 f.pair.earlier f.pair.later slot → IsJoined (take n pairs) f first second
  joined_derived f slot first second j at =
      let p = parts m.layout is.subject.layout f.rel.0 f.pair.attr.0 f.pair.earlier f.pair.later j.one.slot
      j.other.slot slot at j.meet in
      let one_at = get_take n derived first j.one j.is_one in
      let other_at = get_take n derived second j.other j.is_other in
      let one = pair_of_cell m t.origins derived pairs are first j.one one_at.1 in
      let other = pair_of_cell m t.origins derived pairs are second j.other other_at.1 in
      record {
        middle = p.middle;
        one = one.0;
        other = other.0;
        is_one = take_get n pairs first one.0 one_at.0 one.1;
        is_other = take_get n pairs second other.0 other_at.0 other.1;
        one_is = is_pair m t.origins j.one one.0 f.rel.0 f.pair.attr.0 f.pair.earlier p.middle j.one.slot one.2 refl p.first_is;
        other_is = is_pair m t.origins j.other other.0 f.rel.0 f.pair.attr.0 p.middle f.pair.later j.other.slot
            other.2 refl p.second_is;
      }

  ruled_derived : (f : Forced) (slot : ℕ) (rule : RuleId) (ground : ℕ) (rows : List RowId)
      (grounds : List (List RowId)) (premises : List ℕ)
      → IsRuleClause m rule.0 ground premises slot → slice_get m.rules rule.0 ≡ Some grounds
      → slice_get grounds ground ≡ Some rows
      → ((premise : ℕ) → Contains premises premise → cells.IsAmong (take n derived) premise)
      → IsSlot m.layout f.rel.0 f.pair.attr.0 f.pair.earlier f.pair.later slot → IsRuled m.spec (take n pairs) f rule.0 rows
  ruled_derived f slot rule ground rows grounds premises r at_grounds at_rows before at =
      let one = one_pair m.layout r.rule.relation.0 r.atom.attr.0 r.earlier r.later f.rel.0 f.pair.attr.0
      f.pair.earlier f.pair.later slot r.conclusion_is at in
      let lists : r.grounds ≡ grounds = same_Some r.grounds grounds (sym r.are_grounds ∙ at_grounds) in
      let same_rows : r.rows ≡ rows = same_Some r.rows rows
      (sym r.are_rows ∙ (ap (λ (g : List (List RowId)). slice_get g ground) lists ∙ at_rows)) in
      let taken : (x : IsInstance m.spec r.rule r.taken r.atom r.earlier r.later) × (x.number ≡ rule.0) ×
      (x.rows ≡ rows) = (r.is_instance, r.of_rule, r.of_rows ∙ same_rows) in
      let moved : (x : IsInstance m.spec r.rule r.taken r.atom f.pair.earlier f.pair.later) × (x.number ≡ rule.0) ×
      (x.rows ≡ rows) =
      subst (λ (e : RowId). (x : IsInstance m.spec r.rule r.taken r.atom e f.pair.later) × (x.number ≡ rule.0) ×
      (x.rows ≡ rows)) one.earliers
      (subst (λ (e : RowId). (x : IsInstance m.spec r.rule r.taken r.atom r.earlier e) × (x.number ≡ rule.0) ×
      (x.rows ≡ rows)) one.laters taken) in
      record {
        rule = r.rule;
        taken = r.taken;
        atom = r.atom;
        is_instance = moved.0;
        of_rule = moved.1;
        of_rows = moved.2;
        is_pair = record { rel_is = sym one.rels; attr_is = sym one.attrs; earlier_is = refl; later_is = refl };
        premises = λ p c.
            let q = r.premises_are.all p c in
            among_before m t.origins derived pairs are n r.rule.relation.0 p.attr.0 p.earlier p.later q.slot
            (before q.slot q.is_in) q.is_slot;
      }

  copied_derived : (f : Forced) (slot : ℕ) (copy : CopyId) (place : ℕ) (first second : RowId) (premises : List ℕ)
      (from : ℕ) → premises ≡ from ∷ []
      → IsCopyClause m copy.0 place first second from slot →
      ((premise : ℕ) → Contains premises premise → cells.IsAmong (take n derived) premise)
      → IsSlot m.layout f.rel.0 f.pair.attr.0 f.pair.earlier f.pair.later slot → IsCopied m.spec (take n pairs) f
      copy.0 place first second
  copied_derived f slot copy place first second premises from e q before at =
      let one = one_pair m.layout f.rel.0 f.pair.attr.0 f.pair.earlier f.pair.later q.are.copy.target.0
      q.are.place.target.0 first second slot at q.target in
      record {
        are = q.are;
        is_pair = record { rel_is = one.rels; attr_is = one.attrs; earlier_is = one.earliers; later_is = one.laters };
        source = among_before m t.origins derived pairs are n q.are.copy.source.0 q.are.place.source.0
            q.are.are_at.rows.first_source q.are.are_at.rows.second_source from
            (before from (the_one from premises e)) q.source;
      }

  back_derived : (f : Forced) (slot : ℕ) (copy : CopyId) (place : ℕ) (first second : RowId) (premises : List ℕ)
      (to : ℕ) → premises ≡ to ∷ []
      → IsCopyClause m copy.0 place first second slot to → ((premise : ℕ) → Contains premises premise → cells.IsAmong
      (take n derived) premise)
      → IsSlot m.layout f.rel.0 f.pair.attr.0 f.pair.earlier f.pair.later slot → IsCopiedBack m.spec (take n pairs) f
      copy.0 place first second
  back_derived f slot copy place first second premises to e q before at =
      let one = one_pair m.layout f.rel.0 f.pair.attr.0 f.pair.earlier f.pair.later q.are.copy.source.0
      q.are.place.source.0 q.are.are_at.rows.first_source q.are.are_at.rows.second_source slot at q.source in
      record {
        are = q.are;
        is_pair = record { rel_is = one.rels; attr_is = one.attrs; earlier_is = one.earliers; later_is = one.laters };
        target = among_before m t.origins derived pairs are n q.are.copy.target.0 q.are.place.target.0 first second
            to (before to (the_one to premises e)) q.target;
      }

  clause_derived : (from : Origin) (rel : RelId) (pair : Pair) (w : Why) (slot : ℕ) (premises : List ℕ)
      → IsSaid m from premises slot → IsWhyOf m.rules from w
      → ((premise : ℕ) → Contains premises premise → cells.IsAmong (take n derived) premise)
      → IsSlot m.layout rel.0 pair.attr.0 pair.earlier pair.later slot → IsDerived m.spec (take n pairs)
      (record { rel = rel; pair = pair; why = w })
  clause_derived (origin.Rule rule ground) rel pair w slot premises r (rows, e, tells) before at =
      let f : Forced = record { rel = rel; pair = pair; why = why.Rule rule rows } in
      subst (λ (x : Why). IsDerived m.spec (take n pairs) (record { rel = rel; pair = pair; why = x })) (sym e)
      (ruled_derived f slot rule ground rows tells.grounds premises r tells.are_grounds tells.are_rows before at)
  clause_derived (origin.Copy copy place first second) rel pair w slot premises (from, one, q) e before at =
      let f : Forced = record { rel = rel; pair = pair; why = why.Copy copy place first second } in
      subst (λ (x : Why). IsDerived m.spec (take n pairs) (record { rel = rel; pair = pair; why = x })) (sym e)
      (copied_derived f slot copy place first second premises from one q before at)
  clause_derived (origin.Back copy place first second) rel pair w slot premises (to, one, q) e before at =
      let f : Forced = record { rel = rel; pair = pair; why = why.Back copy place first second } in
      subst (λ (x : Why). IsDerived m.spec (take n pairs) (record { rel = rel; pair = pair; why = x })) (sym e)
      (back_derived f slot copy place first second premises to one q before at)

  one_derived : (how : cell.Why) (rel : RelId) (pair : Pair) (w : Why) (slot : ℕ) → cells.IsDerived
      (horn_of m facts t) (take n derived) (record { slot = slot; why = how })
      → IsWhy m.rules t.origins how w → IsSlot m.layout rel.0 pair.attr.0 pair.earlier pair.later slot
      → IsDerived m.spec (take n pairs) (record { rel = rel; pair = pair; why = w })
  one_derived Fact rel pair w slot d e at =
      subst (λ (x : Why). IsDerived m.spec (take n pairs) (record { rel = rel; pair = pair; why = x })) (sym e)
      (fact_derived rel pair slot d at)
  one_derived (Joined first second) rel pair w slot d e at =
      let f : Forced = record { rel = rel; pair = pair; why = why.Transitive first second } in
      subst (λ (x : Why). IsDerived m.spec (take n pairs) (record { rel = rel; pair = pair; why = x })) (sym e)
      (joined_derived f slot first second d at)
  one_derived (Clause k) rel pair w slot d e at =
      let o = made m t k d.premises slot is.clauses.said d.is_clause d.concludes in
      let same : o.from ≡ e.from = same_Some o.from e.from (sym o.is_from ∙ e.is_from) in
      clause_derived e.from rel pair w slot d.premises (subst (λ (x : Origin). IsSaid m x d.premises slot) same
      o.said) e.tells d.derived at

-- ---- all of them

-- what was derived, told as forced pairs
pub record IsDone (m : Subject) (facts : List ℕ) (t : HornClauses) (derived : List Derived) (pairs : List Forced) : Type 0 where
  pub is : IsCase m facts t
  pub least : AreLeast (horn_of m facts t) derived
  pub sound : (slot : ℕ) → cells.IsAmong derived slot → IsLeast (horn_of m facts t) slot
  pub pairs_are : ArePairsOfCells m t.origins derived pairs (length derived)

cell_at : (derived : List Derived) (pairs : List Forced) (i : ℕ) (f : Forced) → length pairs ≡ length derived
    → slice_get pairs i ≡ Some f
    → (d : Derived) × (slice_get derived i ≡ Some d)
cell_at derived pairs i f many at = item_at derived i (omega (arith, many, slice_get_within pairs i f at))

pub are_forced : (m : Subject) (facts : List ℕ) (t : HornClauses) (derived : List Derived) (pairs : List Forced)
    → IsDone m facts t derived pairs
    → AreForced (record { spec = m.spec; pairs = pairs })
are_forced m facts t derived pairs done = record {
  each = λ place f at.
      let d = cell_at derived pairs place f done.pairs_are.many at in
      let told = done.pairs_are.each place d.0 f d.1 at in
      one_derived m facts t done.is derived pairs done.pairs_are place d.0.why f.rel f.pair f.why d.0.slot
      (done.least.each place d.0 d.1) told.why_is told.is_slot;
  all = λ rel attr earlier later forced.
      let h = forced_least m facts t done.is rel attr earlier later forced in
      among_all m t.origins derived pairs done.pairs_are rel attr earlier later h.slot (done.least.all h.slot h.is_least) h.is_slot;
  once = λ i j f g at_i at_j rels same.
      let d = cell_at derived pairs i f done.pairs_are.many at_i in
      let e = cell_at derived pairs j g done.pairs_are.many at_j in
      let first = (done.pairs_are.each i d.0 f d.1 at_i).is_slot in
      let second = (done.pairs_are.each j e.0 g e.1 at_j).is_slot in
      let one : IsOnePair f.rel.0 f.pair.attr.0 f.pair.earlier f.pair.later g.rel.0 g.pair.attr.0 g.pair.earlier
      g.pair.later = record {
        rels = ap (λ (r : RelId). r.0) rels;
        attrs = ap (λ (p : Pair). p.attr.0) same;
        earliers = ap (λ (p : Pair). p.earlier) same;
        laters = ap (λ (p : Pair). p.later) same;
      } in
      let moved = move_slot m.layout f.rel.0 f.pair.attr.0 f.pair.earlier f.pair.later g.rel.0 g.pair.attr.0
      g.pair.earlier g.pair.later d.0.slot one first in
      done.least.once i j d.0 e.0 d.1 e.1 (one_slot m.layout done.is.subject.layout g.rel.0 g.pair.attr.0
      g.pair.earlier g.pair.later d.0.slot e.0.slot moved second);
}

-- each pair that was told is forced
told_forced : (m : Subject) (facts : List ℕ) (t : HornClauses) (derived : List Derived) (pairs : List Forced)
    → IsDone m facts t derived pairs → (i : ℕ) (f : Forced)
    → slice_get pairs i ≡ Some f → IsForced m.spec f.rel.0 f.pair.attr.0 f.pair.earlier f.pair.later
told_forced m facts t derived pairs done i f at =
    let d = cell_at derived pairs i f done.pairs_are.many at in
    let among : cells.IsAmong derived d.0.slot = record { one = d.0; is_in = contains_at derived i d.0 d.1; slot_is = refl } in
    least_forced m facts t done.is d.0.slot (done.sound d.0.slot among) f.rel.0 f.pair.attr.0 f.pair.earlier
    f.pair.later (done.pairs_are.each i d.0 f d.1 at).is_slot

loop_there : (m : Subject) (facts : List ℕ) (t : HornClauses) (derived : List Derived) (pairs : List Forced)
    → IsDone m facts t derived pairs → HasLoopIn pairs → HasLoop m.spec
loop_there m facts t derived pairs done loop =
    let f = loop.pair in
    let forced = told_forced m facts t derived pairs done loop.place f loop.is_pair in
    record {
      rel = f.rel.0;
      attr = f.pair.attr.0;
      row = f.pair.earlier;
      forced = subst (IsForced m.spec f.rel.0 f.pair.attr.0 f.pair.earlier) (sym loop.same) forced;
    }

loop_told : (m : Subject) (facts : List ℕ) (t : HornClauses) (derived : List Derived) (pairs : List Forced)
    → IsDone m facts t derived pairs → HasLoop m.spec → HasLoopIn pairs
loop_told m facts t derived pairs done loop =
    let among = (are_forced m facts t derived pairs done).all loop.rel loop.attr loop.row loop.row loop.forced in
    let st = stands pairs among.forced among.is_in in
    record { place = st.0; pair = among.forced; is_pair = st.1; same = among.is_pair.earlier_is ∙ sym among.is_pair.later_is }

pub is_closure : (m : Subject) (facts : List ℕ) (t : HornClauses) (derived : List Derived) (pairs : List Forced)
    (table : List Bool) (loops : Bool)
    → IsDone m facts t derived pairs → IsTable (cells_of m.layout.sizes) derived table → ((loops ≡ true) ↔ HasLoopIn pairs)
    → IsClosure (record { spec = m.spec; pairs = pairs }) m.layout table loops
is_closure m facts t derived pairs table loops done tabled looped = record {
  forced = are_forced m facts t derived pairs done;
  relations = done.is.subject.relations;
  within = λ rel attr earlier later slot at. omega (arith, tabled.many, slot_in m.layout rel attr earlier later slot at);
  marked = λ rel attr earlier later slot at.
      let below = slot_in m.layout rel attr earlier later slot at in (
        (λ yes_is. least_forced m facts t done.is slot (done.sound slot ((tabled.each slot below).0 yes_is)) rel attr
            earlier later at),
        (λ forced.
            let h = forced_least m facts t done.is rel attr earlier later forced in
            let same = one_slot m.layout done.is.subject.layout rel attr earlier later h.slot slot h.is_slot at in
            (tabled.each slot below).1 (done.least.all slot (subst (IsLeast (horn_of m facts t)) same h.is_least))),
      );
  placed = λ rel attr earlier later forced. let h = forced_least m facts t done.is rel attr earlier later
      forced in record { slot = h.slot; is_slot = h.is_slot };
  loops_are = (
    (λ is. loop_there m facts t derived pairs done (looped.0 is)),
    (λ loop. looped.1 (loop_told m facts t derived pairs done loop)),
  );
}

-- what was derived can be told
pub tellable : (m : Subject) (facts : List ℕ) (t : HornClauses) (derived : List Derived) → IsCase m facts t
    → AreLeast (horn_of m facts t) derived
    → ((slot : ℕ) → cells.IsAmong derived slot → IsLeast (horn_of m facts t) slot)
    → ((slot : ℕ) → IsLeast (horn_of m facts t) slot → slot < cells_of m.layout.sizes) → AreTellable m t.origins derived
tellable m facts t derived is least sound within = record {
  slots = λ i d at.
      let among : cells.IsAmong derived d.slot = record { one = d; is_in = contains_at derived i d at; slot_is = refl } in
      within d.slot (sound d.slot among);
  whys = λ i d at. by (take i derived) d.slot d.why (least.each i d at);
}
  where
    there : (from : Origin) (premises : List ℕ) (slot : ℕ) → IsSaid m from premises slot → IsThere m.rules from
    there (origin.Rule rule ground) premises slot r =
        record { grounds = r.grounds; are_grounds = r.are_grounds; rows = r.rows; are_rows = r.are_rows; few_rows = r.few_rows }
    there (origin.Copy copy place first second) premises slot q = tt
    there (origin.Back copy place first second) premises slot q = tt

    by : (before : List Derived) (slot : ℕ) (how : cell.Why) → cells.IsDerived (horn_of m facts t) before
        (record { slot = slot; why = how }) → IsTellable m.rules t.origins how
    by before slot Fact d = tt
    by before slot (Joined first second) d = tt
    by before slot (Clause k) d =
        let o = made m t k d.premises slot is.clauses.said d.is_clause d.concludes in
        record { from = o.from; is_from = o.is_from; is_there = there o.from d.premises slot o.said }

-- the slots of what was derived are below the number of cells
pub slots_below : (m : Subject) (origins : List Origin) (derived items : List Derived) (count : ℕ)
    → AreTellable m origins derived → items ≡ derived → count ≡ cells_of m.layout.sizes
    → All (λ d. d.slot < count) items
slots_below m origins derived items count told same counted =
    subst (λ (n : ℕ). All (λ d. d.slot < n) items) (sym counted)
    (subst (λ (ds : List Derived). All (λ d. d.slot < cells_of m.layout.sizes) ds) (sym same)
    (λ k d below. told.slots k (get_or derived k d) (slice_get-get_or derived k d below)))
