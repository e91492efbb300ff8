use Rattle.std.proofs.Common.{Contains, Bool, sym, ◌∙◌, subst}
use Rattle.currency_base.specs.Literals.{is_negative}
use Rattle.log_units.specs.Said.{Adds, Tuples, has_row, pair_of, row_of, tuple_of}
use Rattle.log_units.proofs.Noting.{noted_more, noted_no_more, three_ok}
use Rattle.log_units.proofs.index.Index.note_unit.Goals as goal

pub returns-then-not-has_unit : goal.returns-then-not-has_unit
returns-then-not-has_unit c = λ log same shown at noted.
    noted_no_more c.args.relations.now log c.args.lit c.args.self.now (sym (shown.unit c.args.lit) ∙
    (sym c.has_unit.ensures ∙ c.if-not-has_unit.true)) noted

pub returns : goal.returns
returns c =
    three_ok c.note.result _ _ _ _ c.note.ensures.pairs c.note.ensures.rows c.note.ensures.answers
    (λ pairs rows answers log same shown at noted.
    noted_more c.args.relations.now log c.args.lit c.args.self.now c.note.new.self c.args.statement
    (sym (shown.unit c.args.lit) ∙ (sym c.has_unit.ensures ∙ c.if-not-has_unit.false)) at
    (subst (λ (n : Bool). Adds (Contains c.args.self.now.pairs) (Contains c.note.new.self.pairs)
    (pair_of record { statement = c.args.statement; negative = n }))
    c.negative-negative.ensures pairs)
    (subst (λ (n : Bool). Adds (has_row c.args.self.now.rows) (has_row c.note.new.self.rows)
    (row_of c.args.relations.now record { statement = c.args.statement; negative = n }))
    c.negative-negative.ensures rows)
    (subst (λ (ts : Tuples). Adds (Contains c.args.self.now.answers) (Contains c.note.new.self.answers)
    (tuple_of ts record { statement = c.args.statement; negative = is_negative c.args.lit }))
    (sym same)
    (subst (λ (n : Bool). Adds (Contains c.args.self.now.answers) (Contains c.note.new.self.answers)
    (tuple_of c.args.tuples.now record { statement = c.args.statement; negative = n }))
    c.negative-negative.ensures answers)) noted)
