use Rattle.std.proofs.Common.{◌≡◌, ◌∙◌, ◌+◌, ◌<◌, ◌^◌, [], length, map, ap, sym, subst, arith}
use Rattle.std.proofs.lemmas.List.{length-map}
use Rattle.currency_base.specs.Lists.{OnlyOnce}
use Rattle.spec_model.specs.Facts.{IsRelation}
use Rattle.spec_names.specs.Names.{names_of}
use Rattle.relation_bind.specs.Relations.{attr_of, relation_of}
use Rattle.relation_bind.specs.Steps.{names_of_attrs}
use Rattle.relation_bind.proofs.Declared.{declared_relation, declared_names}
use Rattle.relation_bind.proofs.relation.named_relation.Goals as goal

pub new-requires-clause-facts : goal.new-requires-clause-facts
new-requires-clause-facts c =
    let d = c.args.declaration.now in
    let t = c.args.table in
    let is_declared : c.in_ok-relation.relation ≡ relation_of d t =
    c.in_ok-relation.ensures
    ∙ ap (λ es. record { name = d.name.name; attrs = map attr_of d.attrs; rows = t.rows; entities = es; given = [] })
    c.names-2.ensures.value in
    let once : OnlyOnce (names_of_attrs d.attrs) = subst OnlyOnce c.requires.attrs c.names.ensures.distinct in
    let as_many : length c.names.result.now ≡ length d.attrs =
    ap length (c.names.ensures.value ∙ c.requires.attrs) ∙ length-map d.attrs (λ a. a.name.name) in
    let few : length d.attrs + 1 < 2 ^ 32 = omega (arith, as_many, c.if-names-gt-LAST_ID.false) in
    subst IsRelation (sym is_declared) (declared_relation d t c.requires.rows c.requires.values once few)

pub new-requires-clause-names : goal.new-requires-clause-names
new-requires-clause-names c =
    let d = c.args.declaration.now in
    let t = c.args.table in
    let is_declared : c.in_ok-relation.relation ≡ relation_of d t =
    c.in_ok-relation.ensures
    ∙ ap (λ es. record { name = d.name.name; attrs = map attr_of d.attrs; rows = t.rows; entities = es; given = [] })
    c.names-2.ensures.value in
    declared_names d t c.args.attrs c.requires.rows c.requires.attrs ∙ ap names_of (sym is_declared)
