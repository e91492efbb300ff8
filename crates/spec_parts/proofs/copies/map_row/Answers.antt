use Rattle.std.proofs.Common.{◌≡◌, ◌+◌, Some, get_or, slice_get, sym}
use Rattle.std.proofs.lemmas.Option.{slice_get-get_or}
use Rattle.std.proofs.lemmas.Result.{on_ok_weaker}
use Rattle.currency_base.specs.declared.ids.RowId.{RowId}
use Rattle.spec_parts.specs.Steps.{IsCopySoFar}
use Rattle.spec_parts.proofs.CopyCuts.{handed_on}
use Rattle.spec_parts.proofs.CopySteps.{copy_map}
use Rattle.spec_parts.proofs.copies.map_row.Goals as goal

none : RowId
none = record { 0 = 0 }

pub returns-clause-so_far : goal.returns-clause-so_far
unfolding none
returns-clause-so_far c =
    let copy = c.args.copy.now in
    let targets = c.args.targets.now in
    let sources = c.args.sources.now in
    let target = get_or targets c.args.row.0 none in
    let at : slice_get targets c.args.row.0 ≡ Some target = slice_get-get_or targets c.args.row.0 none c.requires.within in
    handed_on (IsCopySoFar copy targets sources (c.args.row.0 + 1) c.add.new.self) c.add.result c.or_no_memory.result
    c.or_no_memory.ensures
    (on_ok_weaker c.add.result
    (λ maps. copy_map copy targets sources c.args.row target at c.args.new.now c.add.new.self
    c.place_of_row-source.result c.in-Some.from
    c.requires.cut.sources_ascend
    c.requires.so_far (sym c.in-Some.ensures) c.place_of_row-source.ensures maps) c.add.ensures.ok)

pub returns-clause-copied : goal.returns-clause-copied
returns-clause-copied c = λ were. handed_on _ c.add.result c.or_no_memory.result c.or_no_memory.ensures
    (c.add.ensures.copied were)
