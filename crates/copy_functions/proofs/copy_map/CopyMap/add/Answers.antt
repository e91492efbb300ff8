use Rattle.std.proofs.Common.{◌≡◌, ap, sym, subst}
use Rattle.copy_functions.specs.Copies.{CopyFunction, with_source, IsCopyOf, IsCopied}
use Rattle.copy_functions.specs.contracts.copy_map.CopyMap.{the_view}
use Rattle.copy_functions.proofs.Mapped.{copied_more}
use Rattle.copy_functions.proofs.PutSources.{put_is}
use Rattle.copy_functions.proofs.copy_map.CopyMap.add.Goals as goal

pub returns-clause-copied : goal.returns-clause-copied
returns-clause-copied c = λ were.
    let target_rows = c.args.target_rows.now in
    let source_rows = c.args.source_rows.now in
    let inside_were : IsCopied (the_view c.self.inside) target_rows source_rows =
    subst (λ (copy : CopyFunction). IsCopied copy target_rows source_rows) (sym c.self.view_is) were in
    let one : IsCopyOf c.self.inside.places target_rows source_rows c.args.target c.args.source =
    subst (λ (copy : CopyFunction). IsCopyOf copy.places target_rows source_rows c.args.target c.args.source)
    (sym c.self.view_is) c.in_ok-check.ensures.equal in
    copied_more c.self.inside.places target_rows source_rows c.self.inside.sources.items c.put.new.sources.items
    c.args.target c.args.source
    c.in_ok-put.ensures.ok one inside_were

pub returns-clause-value : goal.returns-clause-value
returns-clause-value c =
    let put = put_is c.self.inside.sources.items c.put.new.sources.items c.args.target c.args.source
    c.in_ok-put.ensures.ok c.in_ok-put.ensures.room in
    rw put (ap (λ (copy : CopyFunction). with_source copy c.args.target c.args.source) c.self.view_is)
