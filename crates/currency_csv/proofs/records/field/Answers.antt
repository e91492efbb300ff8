use Rattle.std.proofs.Common.{◌∙◌, ap, refl}
use Rattle.csv.specs.Records.{fields_of}
use Rattle.currency_csv.proofs.Fields.{field_or_none}
use Rattle.currency_csv.proofs.records.field.Goals as goal

pub returns : goal.returns
returns c = ap (λ f. f.now) c.unwrap_or.ensures ∙ field_or_none (fields_of c.args.row.now) c.args.place c.get.result
    _ c.get.ensures.value refl
