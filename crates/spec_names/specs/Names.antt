-- The names of a specification's parts, each list in the order of the ids.
use Rattle.std.specs.Prelude.{ℕ, List, map, Option, position}
use Rattle.std.specs.Str.{bytes_eq}
use Rattle.spec_model.specs.Spec.{Spec}
use Rattle.spec_model.specs.declared.relation.Relation.{Relation}
use Rattle.spec_names.specs.NameLists.{NameLists}
use Rattle.spec_names.specs.declared.names.RelationNames.{RelationNames}

-- the names of a relation's attributes, rows and entities
abbrev pub names_of : Relation → RelationNames
names_of r = record { attrs = map (λ a. a.name) r.attrs; rows = map (λ row. row.name) r.rows; entities = r.entities }

-- the names of a specification's relations, of their parts, of its rules and of its copy functions
abbrev pub all_names_of : Spec → NameLists
all_names_of s = record {
  relations = map (λ r. r.name) s.relations;
  each = map names_of s.relations;
  rules = map (λ rule. rule.name) s.rules;
  copies = map (λ copy. copy.name) s.copies;
}

-- the place of a name in a list of names
abbrev pub place_of : List (List ℕ) → List ℕ → Option ℕ
place_of names name = position (bytes_eq name) names
