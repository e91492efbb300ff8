-- The grammar of copies.
use Rattle.std.specs.Prelude.{List, codes}
use Rattle.text_grammar.specs.Grammar.{Language, ◌⋅◌, IsWord, IsSymbol, SpellsName, SpellsString, Listed}
use Rattle.text_grammar.specs.declared.named.Named.{Named}
use Rattle.text_grammar.specs.declared.named.NamedPair.{NamedPair}
use Rattle.copy_syntax.specs.declared.trees.CopyTree.{CopyTree}
use Rattle.copy_syntax.specs.declared.trees.Mappings.{Mappings}
use Rattle.copy_syntax.specs.declared.trees.Mappings.TheVariants.{Inline, Table}

-- names = "(" name { "," name } ")"
abbrev pub SpellsNames : List Named → Language
SpellsNames names = IsSymbol (codes "(") ⋅ Listed (IsSymbol (codes ",")) SpellsName names ⋅ IsSymbol (codes ")")

-- mapping = name "from" name
abbrev pub SpellsMapping : NamedPair → Language
SpellsMapping m = SpellsName m.first ⋅ IsWord (codes "from") ⋅ SpellsName m.second

-- mappings = ":" mapping { "," mapping } | "using" string
abbrev pub SpellsMappings : Mappings → Language
SpellsMappings (Inline pairs) = IsSymbol (codes ":") ⋅ Listed (IsSymbol (codes ",")) SpellsMapping pairs
SpellsMappings (Table document) = IsWord (codes "using") ⋅ SpellsString document

-- copy = "copy" name "into" name names "from" name names mappings
abbrev pub SpellsCopy : CopyTree → Language
SpellsCopy c =
    IsWord (codes "copy") ⋅ SpellsName c.name
    ⋅ IsWord (codes "into") ⋅ SpellsName c.target ⋅ SpellsNames c.target_attrs
    ⋅ IsWord (codes "from") ⋅ SpellsName c.source ⋅ SpellsNames c.source_attrs
    ⋅ SpellsMappings c.mappings
