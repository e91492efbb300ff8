use Rattle.std.proofs.Common.{◌∙◌, ◌<◌, ℕ, List, [], sym, arith}
use Rattle.std.specs.List.{IsDistinct}
use Rattle.std.specs.Str.{bytes_eq}
use Rattle.std.proofs.lemmas.Slice.Eq.{bytes_eq-Decides}
use Rattle.std.proofs.lemmas.Map.Made.{AllPairs-from_IsDistinct}
use Rattle.std.proofs.lemmas.Option.{get_or_from_slice_get, slice_get_within}
use Rattle.currency_base.specs.Lists.{OnlyOnce}
use Rattle.name_index.proofs.NameIndex.names.Goals as goal

-- a list with no two equal names has each at one place
only_once : (names : List (List ℕ)) → IsDistinct bytes_eq names → OnlyOnce names
only_once names distinct i j x at_i at_j =
    let apart = AllPairs-from_IsDistinct bytes_eq-Decides names distinct in
    let same = get_or_from_slice_get names i x [] at_i ∙ sym (get_or_from_slice_get names j x [] at_j) in
    let not_below : i < j → ⊥ = λ below. apart i j [] below (slice_get_within names j x at_j) same in
    let not_above : j < i → ⊥ = λ above. apart j i [] above (slice_get_within names i x at_i) (sym same) in
    omega arith

pub returns-clause-distinct : goal.returns-clause-distinct
returns-clause-distinct c = only_once c.args.self.now (rw c.self.view_is at c.as_slice.ensures.unique)
