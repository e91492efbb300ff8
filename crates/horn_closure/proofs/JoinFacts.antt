-- What is joined to a cell.
use Rattle.std.proofs.Common.{◌≡◌, ◌⊎◌, ◌+◌, ◌<◌, ◌≤◌, ℕ, List, sym, subst, inl, inr, arith}
use Rattle.std.proofs.lemmas.Bool.{cases_lt}
use Rattle.horn_closure.specs.Least.{Horn, Meet, IsAmong}
use Rattle.horn_closure.specs.Steps.{StandsAt, IsLonger, IsAdded, IsCellAt, IsJoinedAhead, IsJoinedBehind, AreJoined, slot_of}
use Rattle.horn_closure.specs.declared.derived.Derived.{Derived}
use Rattle.horn_closure.specs.declared.derived.Why.TheVariants.{Joined}
use Rattle.horn_closure.specs.declared.squares.Cell.{Cell}
use Rattle.horn_closure.proofs.Derivations.{longer_twice, stands_longer, among_longer}
use Rattle.horn_closure.proofs.CellFacts.{meet_ahead, meet_behind}

-- ---- one cell

pub one_ahead : (cell : Cell) (place other second : ℕ) (old new : List Derived) → other < cell.size
    → StandsAt old second (slot_of cell cell.column other)
    → IsAdded old (slot_of cell cell.row other) (Joined place second) new → IsJoinedAhead cell place other old new
one_ahead cell place other second old new less at added = record {
  longer = added.longer;
  sound = λ h slot is stands each. added.sound h
      (record {
        one = stands.one;
        other = at.one;
        is_one = stands.is_one;
        is_other = at.is_one;
        meet = met h slot is stands;
      })
      each;
  ahead = λ a. added.among;
}
  where
    met : (h : Horn) (slot : ℕ) → IsCellAt h.sizes cell slot → (stands : StandsAt old place slot)
        → Meet h.sizes stands.one.slot at.one.slot (slot_of cell cell.row other)
    met h slot is stands =
        subst (λ s. Meet h.sizes s at.one.slot (slot_of cell cell.row other)) (sym stands.slot_is)
        (subst (λ s. Meet h.sizes slot s (slot_of cell cell.row other)) (sym at.slot_is)
        (meet_ahead h.sizes cell slot is other less))

pub one_behind : (cell : Cell) (place other first : ℕ) (old new : List Derived) → other < cell.size
    → StandsAt old first (slot_of cell other cell.row)
    → IsAdded old (slot_of cell other cell.column) (Joined first place) new → IsJoinedBehind cell place other old new
one_behind cell place other first old new less at added = record {
  longer = added.longer;
  sound = λ h slot is stands each. added.sound h
      (record {
        one = at.one;
        other = stands.one;
        is_one = at.is_one;
        is_other = stands.is_one;
        meet = met h slot is stands;
      })
      each;
  behind = λ a. added.among;
}
  where
    met : (h : Horn) (slot : ℕ) → IsCellAt h.sizes cell slot → (stands : StandsAt old place slot)
        → Meet h.sizes at.one.slot stands.one.slot (slot_of cell other cell.column)
    met h slot is stands =
        subst (λ s. Meet h.sizes at.one.slot s (slot_of cell other cell.column)) (sym stands.slot_is)
        (subst (λ s. Meet h.sizes s slot (slot_of cell other cell.column)) (sym at.slot_is)
        (meet_behind h.sizes cell slot is other less))

-- ---- all of them

pub joined_more : (cell : Cell) (place upto : ℕ) (old now mid new : List Derived) → AreJoined cell place upto old now
    → IsJoinedAhead cell place upto now mid → IsJoinedBehind cell place upto mid new → AreJoined cell place (upto + 1) old new
joined_more cell place upto old now mid new so_far a b = record {
  longer = longer_twice old now new so_far.longer later;
  sound = λ h slot is stands each.
      b.sound h slot is (stands_longer old mid place slot (longer_twice old now mid so_far.longer a.longer) stands)
      (a.sound h slot is (stands_longer old now place slot so_far.longer stands) (so_far.sound h slot is stands each));
  ahead = λ other less among. go_ahead other among (cases_lt other upto) (omega (arith, less));
  behind = λ other less among. go_behind other among (cases_lt other upto) (omega (arith, less));
}
  where
    later : IsLonger now new
    later = longer_twice now mid new a.longer b.longer

    go_ahead : (other : ℕ) → IsAmong old (slot_of cell cell.column other) → (other < upto) ⊎ (upto ≤ other) → other ≤ upto
        → IsAmong new (slot_of cell cell.row other)
    go_ahead other among (inl less) h = among_longer now new _ later (so_far.ahead other less among)
    go_ahead other among (inr past) h =
        let same : upto ≡ other = omega arith in
        subst (λ n. IsAmong new (slot_of cell cell.row n)) same
        (among_longer mid new _ b.longer (a.ahead (subst (λ n. IsAmong now (slot_of cell cell.column n)) (sym same)
        (among_longer old now _ so_far.longer among))))

    go_behind : (other : ℕ) → IsAmong old (slot_of cell other cell.row) → (other < upto) ⊎ (upto ≤ other) → other ≤ upto
        → IsAmong new (slot_of cell other cell.column)
    go_behind other among (inl less) h = among_longer now new _ later (so_far.behind other less among)
    go_behind other among (inr past) h =
        let same : upto ≡ other = omega arith in
        subst (λ n. IsAmong new (slot_of cell n cell.column)) same
        (b.behind (subst (λ n. IsAmong mid (slot_of cell n cell.row)) (sym same)
        (among_longer old mid _ (longer_twice old now mid so_far.longer a.longer) among)))
