-- The relation that is declared, and the names of its parts.
use Rattle.std.proofs.Common.{◌≡◌, ◌+◌, ◌<◌, ◌^◌, ℕ, List, [], ◌∷◌, length, map, ap, refl}
use Rattle.std.proofs.lemmas.List.{length-map}
use Rattle.std.proofs.lemmas.List.Elements.{All-nil}
use Rattle.currency_base.specs.Lists.{OnlyOnce}
use Rattle.table_rows.specs.Rows.{AreRows}
use Rattle.table_rows.specs.declared.rows.TableRows.{TableRows}
use Rattle.spec_model.specs.Facts.{IsRelation, IsGivenPair}
use Rattle.spec_names.specs.Names.{names_of}
use Rattle.spec_names.specs.declared.names.RelationNames.{RelationNames}
use Rattle.spec_syntax.specs.declared.trees.AttrTree.{AttrTree}
use Rattle.relation_bind.specs.Declarations.{Declared}
use Rattle.relation_bind.specs.Relations.{attr_of, kinds_declared, relation_of}
use Rattle.relation_bind.specs.Steps.{names_of_attrs, RowsHaveKinds}

-- the names of declared attributes
names_declared : (attrs : List AttrTree) → map (λ a. a.name) (map attr_of attrs) ≡ names_of_attrs attrs
names_declared [] = refl
names_declared (a ∷ attrs) = ap (λ ns. a.name.name ∷ ns) (names_declared attrs)

-- the kinds of declared attributes
kinds_made : (attrs : List AttrTree) → map (λ a. a.kind) (map attr_of attrs) ≡ map (λ a. a.kind) attrs
kinds_made [] = refl
kinds_made (a ∷ attrs) = ap (λ ks. a.kind ∷ ks) (kinds_made attrs)

-- a declared relation is one
pub declared_relation : (d : Declared) (t : TableRows) → AreRows t → RowsHaveKinds (kinds_declared d) t.rows
    → OnlyOnce (names_of_attrs d.attrs) → length d.attrs + 1 < 2 ^ 32 → IsRelation (relation_of d t)
declared_relation d t are values once few = record {
  few_attrs = rw length-map few;
  few_rows = are.few_rows;
  few_entities = are.few_entities;
  entities = are.entities;
  inhabited = are.inhabited;
  values = rw (kinds_made d.attrs) values;
  attr_names = rw (names_declared d.attrs) once;
  row_names = rw are.names are.row_names;
  entity_names = are.entity_names;
  given = All-nil (IsGivenPair (relation_of d t));
}

-- the names of its parts
pub declared_names : (d : Declared) (t : TableRows) (attrs : List (List ℕ)) → AreRows t → attrs ≡ names_of_attrs d.attrs
    → ◌≡◌ {A = RelationNames} (record { attrs = attrs; rows = t.names; entities = t.entities }) (names_of (relation_of d t))
declared_names d t attrs are of_attrs = cc (of_attrs, names_declared d.attrs, are.names)
