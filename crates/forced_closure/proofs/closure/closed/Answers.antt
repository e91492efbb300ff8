use Rattle.std.proofs.Common.{◌≡◌, ◌↔◌, ◌∙◌, ℕ, List, true, length, sym, ap, subst}
use Rattle.spec_model.specs.Spec.{Spec}
use Rattle.horn_closure.specs.Least.{Horn, IsHorn, AreLeast, cells_of}
use Rattle.horn_closure.specs.declared.derived.Derived.{Derived}
use Rattle.order_squares.specs.Squares.{Layout}
use Rattle.forced_closure.specs.Kept.{AreTellable, ArePairsOfCells, IsTable, HasLoopIn, IsClosure}
use Rattle.forced_closure.specs.declared.forced.Forced.{Forced}
use Rattle.forced_closure.specs.declared.origin.Origin.{Origin}
use Rattle.forced_closure.proofs.Agree.{horn_of, IsCase}
use Rattle.forced_closure.proofs.Horns.{horn_same, is_horn, least_within}
use Rattle.forced_closure.proofs.Whole.{IsDone, is_closure, slots_below, tellable}
use Rattle.forced_closure.proofs.closure.closed.Goals as goal

pub least-requires : goal.least-requires
least-requires c =
    let m = c.args.subject in
    let t = c.args.gathered.now in
    let facts = c.args.facts.now in
    let is : IsCase m facts t = record {
      subject = c.spec.ensures.facts;
      facts_are = c.requires.facts;
      clauses =
          c.requires.clauses;
    } in
    let same = horn_same m facts t c.sizes.result.now c.clauses.result.now.premises c.clauses.result.now.conclusions.items
    (c.sizes.ensures.value ∙ ap (λ (l : Layout). l.sizes) c.squares.ensures) c.clauses.ensures.premises
    c.clauses.ensures.conclusions in
    subst IsHorn same (is_horn m facts t is)

pub tell-requires : goal.tell-requires
tell-requires c =
    let m = c.args.subject in
    let t = c.args.gathered.now in
    let facts = c.args.facts.now in
    let is : IsCase m facts t = record {
      subject = c.spec.ensures.facts;
      facts_are = c.requires.facts;
      clauses =
          c.requires.clauses;
    } in
    let same = horn_same m facts t c.sizes.result.now c.clauses.result.now.premises c.clauses.result.now.conclusions.items
    (c.sizes.ensures.value ∙ ap (λ (l : Layout). l.sizes) c.squares.ensures) c.clauses.ensures.premises
    c.clauses.ensures.conclusions in
    let derived = c.in_ok-derived.derived.items in
    let least = subst (λ (h : Horn). AreLeast h derived) (sym same) c.in_ok-derived.ensures in
    let sound = c.derived_are_least.ensures (horn_of m facts t) derived least in
    let told = tellable m facts t derived is least sound (least_within (horn_of m facts t) (is_horn m facts t is)) in
    subst (λ (os : List Origin). AreTellable m os c.deref.result.now) (sym c.origins.ensures)
    (subst (λ (ds : List Derived). AreTellable m t.origins ds) (sym c.deref.ensures.value) told)

pub table_of-requires : goal.table_of-requires
table_of-requires c =
    let m = c.args.subject in
    let t = c.args.gathered.now in
    let facts = c.args.facts.now in
    let is : IsCase m facts t = record {
      subject = c.spec.ensures.facts;
      facts_are = c.requires.facts;
      clauses =
          c.requires.clauses;
    } in
    let same = horn_same m facts t c.sizes.result.now c.clauses.result.now.premises c.clauses.result.now.conclusions.items
    (c.sizes.ensures.value ∙ ap (λ (l : Layout). l.sizes) c.squares.ensures) c.clauses.ensures.premises
    c.clauses.ensures.conclusions in
    let derived = c.in_ok-derived.derived.items in
    let least = subst (λ (h : Horn). AreLeast h derived) (sym same) c.in_ok-derived.ensures in
    let sound = c.derived_are_least.ensures (horn_of m facts t) derived least in
    let told = tellable m facts t derived is least sound (least_within (horn_of m facts t) (is_horn m facts t is)) in
    let cells : c.cells.result ≡ cells_of m.layout.sizes = c.cells.ensures ∙ ap (λ (l : Layout). cells_of l.sizes)
    c.squares-2.ensures in
    slots_below m t.origins derived c.deref-2.result.now c.cells.result told c.deref-2.ensures.value cells

pub invariant_of-result : goal.invariant_of-result
invariant_of-result c =
    let m = c.args.subject in
    let t = c.args.gathered.now in
    let facts = c.args.facts.now in
    let is : IsCase m facts t = record {
      subject = c.spec.ensures.facts;
      facts_are = c.requires.facts;
      clauses =
          c.requires.clauses;
    } in
    let same = horn_same m facts t c.sizes.result.now c.clauses.result.now.premises c.clauses.result.now.conclusions.items
    (c.sizes.ensures.value ∙ ap (λ (l : Layout). l.sizes) c.squares.ensures) c.clauses.ensures.premises
    c.clauses.ensures.conclusions in
    let derived = c.in_ok-derived.derived.items in
    let least = subst (λ (h : Horn). AreLeast h derived) (sym same) c.in_ok-derived.ensures in
    let sound = c.derived_are_least.ensures (horn_of m facts t) derived least in
    let told = tellable m facts t derived is least sound (least_within (horn_of m facts t) (is_horn m facts t is)) in
    let cells : c.cells.result ≡ cells_of m.layout.sizes = c.cells.ensures ∙ ap (λ (l : Layout). cells_of l.sizes)
    c.squares-2.ensures in
    let pairs = c.in_ok-pairs.pairs.items in
    let table = c.in_ok-table.table.items in
    let loops = c.has_loop-loops.result in
    let are_told : ArePairsOfCells m t.origins derived pairs (length derived) =
    subst (λ (ds : List Derived). ArePairsOfCells m t.origins ds pairs (length ds)) c.deref.ensures.value
    (subst (λ (os : List Origin). ArePairsOfCells m os c.deref.result.now pairs (length c.deref.result.now))
    c.origins.ensures c.in_ok-pairs.ensures) in
    let tabled : IsTable (cells_of m.layout.sizes) derived table =
    subst (λ (n : ℕ). IsTable n derived table) cells (subst (λ (ds : List Derived). IsTable c.cells.result ds table)
    c.deref-2.ensures.value c.in_ok-table.ensures) in
    let looped : (loops ≡ true) ↔ HasLoopIn pairs = subst (λ (fs : List Forced). (loops ≡ true) ↔ HasLoopIn fs)
    c.deref-3.ensures.value c.has_loop-loops.ensures in
    let done : IsDone m facts t derived pairs = record { is = is; least = least; sound = sound; pairs_are = are_told } in
    let closure = is_closure m facts t derived pairs table loops done tabled looped in
    subst (λ (s : Spec). IsClosure (record { spec = s; pairs = pairs }) c.into_squares.result table loops) c.requires.spec
    (subst (λ (l : Layout). IsClosure (record { spec = m.spec; pairs = pairs }) l table loops)
    (sym c.into_squares.ensures) closure)
