-- Copies are read as they are spelled.
use Rattle.std.proofs.Common.{◌≡◌, Bool, true, false, not, List, inl, inr, refl, ap, subst, codes}
use Rattle.text_tokens.specs.Lexeme.{Lexeme}
use Rattle.text_tokens.specs.declared.token.TokenKind.TheVariants.{Word, Symbol}
use Rattle.text_grammar.specs.Words.{is_word, is_symbol}
use Rattle.text_grammar.specs.Grammar.{Language, ◌⋅◌, IsWord, IsSymbol, SpellsName, SpellsString, Listed}
use Rattle.text_grammar.specs.Laws.{IsReader}
use Rattle.text_grammar.specs.declared.named.Named.{Named}
use Rattle.text_grammar.specs.declared.named.NamedPair.{NamedPair}
use Rattle.text_grammar.proofs.Readers.{always, Begins, Ended, Image, begins_image, reads_made, reads_mapped, reads_same, reads_two}
use Rattle.text_grammar.proofs.Choices.{Either, reads_choose}
use Rattle.text_grammar.proofs.FixedTokens.{apart, reads_name, reads_string, after_word, after_symbol, before_symbol, listed_symbol, begins_fixed}
use Rattle.copy_syntax.specs.declared.trees.CopyTree.{CopyTree}
use Rattle.copy_syntax.specs.declared.trees.Mappings.{Mappings}
use Rattle.copy_syntax.specs.declared.trees.Mappings.TheVariants.{Inline, Table}
use Rattle.copy_syntax.specs.Grammar.{SpellsNames, SpellsMapping, SpellsMappings, SpellsCopy}
use Rattle.copy_syntax.specs.Reading.{names_at, mapping_at, inline_at, table_at, mappings_at, copy_at}

-- ---- names

pub reads_names : IsReader SpellsNames always names_at
unfolding names_at
reads_names = after_symbol (codes "(") (before_symbol (codes ")") (listed_symbol (codes ",") reads_name)
    (λ a t e. ap not (apart Symbol (codes ")") Symbol (codes ",") refl t e)))

-- ---- which rows are copied

pub reads_mapping : IsReader SpellsMapping always mapping_at
unfolding mapping_at
reads_mapping =
    reads_made (reads_two reads_name (after_word (codes "from") reads_name)) (λ x. record { first = x.0; second = x.1 }) always
    (λ a t. refl) (λ x tokens h. h) (λ m tokens h. record { tree = (m.first, m.second); is = refl; spelled = h })

-- what ends the rows: any token, but a comma goes on with a further one
abbrev pub ends_mappings : Mappings → Lexeme → Bool
ends_mappings (Inline pairs) t = not (is_symbol (codes ",") t)
ends_mappings (Table document) t = true

abbrev InlineRows : Mappings → Language
InlineRows = Image (λ (pairs : List NamedPair). Inline pairs)
    (λ pairs. IsSymbol (codes ":") ⋅ Listed (IsSymbol (codes ",")) SpellsMapping pairs)

abbrev TableRows : Mappings → Language
TableRows = Image (λ (document : Named). Table document) (λ document. IsWord (codes "using") ⋅ SpellsString document)

reads_inline : IsReader InlineRows ends_mappings inline_at
unfolding inline_at
reads_inline = reads_mapped (after_symbol (codes ":") (listed_symbol (codes ",") reads_mapping))
    (λ (pairs : List NamedPair). Inline pairs) ends_mappings (λ pairs t. refl)

reads_table : IsReader TableRows ends_mappings table_at
unfolding table_at
reads_table = reads_mapped (after_word (codes "using") reads_string) (λ (document : Named). Table document)
    ends_mappings (λ document t. refl)

begins_inline : Begins (is_symbol (codes ":")) true InlineRows
begins_inline = begins_image (λ (pairs : List NamedPair). Inline pairs)
    (λ pairs. IsSymbol (codes ":") ⋅ Listed (IsSymbol (codes ",")) SpellsMapping pairs)
    (is_symbol (codes ":")) true
    (begins_fixed (λ (pairs : List NamedPair). Listed (IsSymbol (codes ",")) SpellsMapping pairs) Symbol (codes ":")
    (is_symbol (codes ":")) true (λ t e. e))

begins_table : Begins (is_symbol (codes ":")) false TableRows
begins_table = begins_image (λ (document : Named). Table document) (λ document. IsWord (codes "using") ⋅ SpellsString document)
    (is_symbol (codes ":")) false
    (begins_fixed SpellsString Word (codes "using") (is_symbol (codes ":")) false
    (apart Word (codes "using") Symbol (codes ":") refl))

mappings_spelled : (m : Mappings) (tokens : List Lexeme) → Either InlineRows TableRows m tokens → SpellsMappings m tokens
mappings_spelled m tokens (inl h) = subst (λ (m : Mappings). SpellsMappings m tokens) h.is h.spelled
mappings_spelled m tokens (inr h) = subst (λ (m : Mappings). SpellsMappings m tokens) h.is h.spelled

spelled_mappings : (m : Mappings) (tokens : List Lexeme) → SpellsMappings m tokens → Either InlineRows TableRows m tokens
spelled_mappings (Inline pairs) tokens h = inl (record { tree = pairs; is = refl; spelled = h })
spelled_mappings (Table document) tokens h = inr (record { tree = document; is = refl; spelled = h })

pub reads_mappings : IsReader SpellsMappings ends_mappings mappings_at
unfolding mappings_at
reads_mappings = reads_same (reads_choose reads_inline reads_table (is_symbol (codes ":")) begins_inline
    begins_table) mappings_spelled spelled_mappings

-- ---- copies

-- the parts of a copy: name, target, its attributes, source, its attributes, rows
abbrev CopyParts : Type 0
CopyParts = Named × (Named × (List Named × (Named × (List Named × Mappings))))

abbrev copy_of : CopyParts → CopyTree
copy_of x = record {
  name = x.0;
  target = x.1.0;
  target_attrs = x.1.1.0;
  source = x.1.1.1.0;
  source_attrs =
      x.1.1.1.1.0;
  mappings = x.1.1.1.1.1;
}

-- what ends a copy: what ends its rows
abbrev pub ends_copy : CopyTree → Lexeme → Bool
ends_copy c t = ends_mappings c.mappings t

pub reads_copy : IsReader SpellsCopy ends_copy copy_at
unfolding copy_at
reads_copy =
    reads_made
    (after_word (codes "copy") (reads_two reads_name
    (after_word (codes "into") (reads_two reads_name (reads_two reads_names
    (after_word (codes "from") (reads_two reads_name (reads_two reads_names reads_mappings))))))))
    copy_of ends_copy (λ a t. refl) (λ x tokens h. h)
    (λ c tokens h. record {
      tree = (c.name, (c.target, (c.target_attrs, (c.source, (c.source_attrs, c.mappings)))));
      is = refl;
      spelled = h;
    })

-- a copy begins with the word `copy`
pub begins_copy : (test : Lexeme → Bool) (b : Bool) → ((t : Lexeme) → is_word (codes "copy") t ≡ true → test t ≡ b)
    → Begins test b SpellsCopy
begins_copy test b goes = begins_fixed
    (λ (c : CopyTree). SpellsName c.name ⋅ IsWord (codes "into") ⋅ SpellsName c.target ⋅ SpellsNames c.target_attrs
    ⋅ IsWord (codes "from") ⋅ SpellsName c.source ⋅ SpellsNames c.source_attrs ⋅ SpellsMappings c.mappings)
    Word (codes "copy") test b goes

-- a semicolon ends a copy
pub copy_ends : Ended ends_copy (is_symbol (codes ";"))
copy_ends c t e = by_mappings c.mappings
  where
    by_mappings : (m : Mappings) → ends_mappings m t ≡ true
    by_mappings (Inline pairs) = ap not (apart Symbol (codes ";") Symbol (codes ",") refl t e)
    by_mappings (Table document) = refl
