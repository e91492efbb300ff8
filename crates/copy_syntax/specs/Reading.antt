-- How the rules of the grammar are read.
use Rattle.std.specs.Prelude.{List, codes}
use Rattle.text_grammar.specs.Words.{is_word, is_symbol, named, quoted}
use Rattle.text_grammar.specs.Reading.{Parser, one, both, after, before, mapped, choose, listed}
use Rattle.text_grammar.specs.declared.named.Named.{Named}
use Rattle.text_grammar.specs.declared.named.NamedPair.{NamedPair}
use Rattle.copy_syntax.specs.declared.trees.CopyTree.{CopyTree}
use Rattle.copy_syntax.specs.declared.trees.Mappings.{Mappings}
use Rattle.copy_syntax.specs.declared.trees.Mappings.TheVariants.{Inline, Table}

-- names in parentheses, with these
unfoldable pub names_at : Parser (List Named)
names_at = after (is_symbol (codes "(")) (before (listed (is_symbol (codes ",")) (one named)) (is_symbol (codes ")")))

-- a row of the target, and the row of the source that it is copied from
unfoldable pub mapping_at : Parser NamedPair
mapping_at = mapped (λ x. record { first = x.0; second = x.1 }) (both (one named) (after (is_word (codes "from")) (one named)))

-- the rows that are copied, from the colon on
unfoldable pub inline_at : Parser Mappings
inline_at = mapped (λ pairs. Inline pairs) (after (is_symbol (codes ":")) (listed (is_symbol (codes ",")) mapping_at))

-- the document that lists the rows, from the word `using` on
unfoldable pub table_at : Parser Mappings
table_at = mapped (λ document. Table document) (after (is_word (codes "using")) (one quoted))

-- which rows are copied: a colon goes on with the rows themselves
unfoldable pub mappings_at : Parser Mappings
mappings_at = choose (is_symbol (codes ":")) inline_at table_at

-- a copy, from its word on
unfoldable pub copy_at : Parser CopyTree
copy_at =
    mapped (λ x. record {
      name = x.0;
      target = x.1.0;
      target_attrs = x.1.1.0;
      source = x.1.1.1.0;
      source_attrs =
          x.1.1.1.1.0;
      mappings = x.1.1.1.1.1;
    })
    (after (is_word (codes "copy")) (both (one named)
    (after (is_word (codes "into")) (both (one named) (both names_at
    (after (is_word (codes "from")) (both (one named) (both names_at mappings_at))))))))
