-- The names of what a report tells of are text, and are written as they are read.
use Rattle.std.proofs.Common.{◌≡◌, ℕ, ◌<◌, true, zero, suc, List, [], ◌∷◌, length, map, refl, arith, codes, IsUtf8}
use Rattle.std.specs.Prelude.{All, slice_get, slice_index_or}
use Rattle.std.specs.List.{list_all}
use Rattle.std.proofs.lemmas.List.Elements.{All-head, All-tail}
use Rattle.std.proofs.lemmas.Str.{IsUtf8-nil}
use Rattle.currency_base.specs.declared.ids.RowId.{RowId}
use Rattle.spec_model.specs.declared.relation.Relation.{Relation}
use Rattle.text_tokens.specs.Tokens.{is_word_byte}
use Rattle.text_grammar.specs.Grammar.{IsSymbol, SpellsName}
use Rattle.text_grammar.specs.Words.{on_line}
use Rattle.text_grammar.specs.declared.named.Named.{Named}
use Rattle.text_write.specs.Spelling.{name_piece}
use Rattle.text_write.proofs.Readings.{name_is_whole, name_read}
use Rattle.log_syntax.specs.Grammar.{IsWordOn}
use Rattle.log_write.specs.Pieces.{symbol, word}
use Rattle.log_write.proofs.Texts.{IsText, text_one, text_symbol, text_wider, text_word_on}
use Rattle.report_syntax.specs.Spells.{SpellsAttribute}
use Rattle.report_write.specs.Pieces.{attr_names, attribute_pieces, entity_names, entity_pieces, name, relation_pieces, row_names, row_pieces}
use Rattle.report_write.specs.Writable.{HasTextNames}
use Rattle.report_reread.specs.Trees.{attr_tree, entity_tree, name_tree, relation_tree, row_tree, unlined_name}
use Rattle.report_reread.proofs.Likenesses.{IsLike, like_after, like_both}

-- ---- what is text

-- a name at a place is text, and so is what stands for a name that is not there
within : (names : List (List ℕ)) (i : ℕ) → All IsUtf8 names → IsUtf8 (slice_index_or names i [])
within [] i h = IsUtf8-nil
within (bytes ∷ names) zero h = All-head IsUtf8 bytes names h
within (bytes ∷ names) (suc i) h = within names i (All-tail IsUtf8 bytes names h)

relation_text : (relations : List Relation) (rel : ℕ) → All HasTextNames relations
    → IsUtf8 (slice_index_or (map (λ r. r.name) relations) rel [])
relation_text [] rel h = IsUtf8-nil
relation_text (r ∷ relations) zero h = (All-head HasTextNames r relations h).relation
relation_text (r ∷ relations) (suc rel) h = relation_text relations rel (All-tail HasTextNames r relations h)

attr_text : (relations : List Relation) (rel attr : ℕ) → All HasTextNames relations
    → IsUtf8 (slice_index_or (attr_names (slice_get relations rel)) attr [])
attr_text [] rel attr h = IsUtf8-nil
attr_text (r ∷ relations) zero attr h = within (map (λ a. a.name) r.attrs) attr (All-head HasTextNames r relations h).attrs
attr_text (r ∷ relations) (suc rel) attr h = attr_text relations rel attr (All-tail HasTextNames r relations h)

entity_text : (relations : List Relation) (rel ent : ℕ) → All HasTextNames relations
    → IsUtf8 (slice_index_or (entity_names (slice_get relations rel)) ent [])
entity_text [] rel ent h = IsUtf8-nil
entity_text (r ∷ relations) zero ent h = within r.entities ent (All-head HasTextNames r relations h).entities
entity_text (r ∷ relations) (suc rel) ent h = entity_text relations rel ent (All-tail HasTextNames r relations h)

row_text : (relations : List Relation) (rel row : ℕ) → All HasTextNames relations
    → IsUtf8 (slice_index_or (row_names (slice_get relations rel)) row [])
row_text [] rel row h = IsUtf8-nil
row_text (r ∷ relations) zero row h = within (map (λ row. row.name) r.rows) row (All-head HasTextNames r relations h).rows
row_text (r ∷ relations) (suc rel) row h = row_text relations rel row (All-tail HasTextNames r relations h)

-- ---- single tokens

pub colon : IsText (IsSymbol (codes ":")) (symbol (codes ":"))
colon = text_symbol (codes ":") (2, omega arith, refl)

pub point : IsText (IsSymbol (codes ".")) (symbol (codes "."))
point = text_symbol (codes ".") (5, omega arith, refl)

pub less : IsText (IsSymbol (codes "<")) (symbol (codes "<"))
less = text_symbol (codes "<") (9, omega arith, refl)

-- a line that is not told
abbrev pub no_line : ℕ → ℕ
no_line line = 0

-- a word that begins a clause
pub like_word : (text : List ℕ) → 0 < length text → list_all is_word_byte text ≡ true
    → IsText (IsLike (IsWordOn text) no_line 0) (word text)
like_word text some each =
    text_wider (text_word_on text some each) (λ tokens h. record { tree = h.0; spelled = h.1; same = refl })

-- the bytes are a name that is read as itself, its line aside
abbrev IsNamed : List ℕ → Type 0
IsNamed bytes = IsText (IsLike SpellsName unlined_name (name_tree bytes)) (name bytes)

like_name : (bytes : List ℕ) → IsUtf8 bytes → IsNamed bytes
like_name bytes h = text_one (name_piece bytes) (IsLike SpellsName unlined_name (name_tree bytes)) (name_is_whole bytes h)
    (λ t e. record {
      tree = on_line t.line bytes;
      spelled = record {
        token = t;
        alone = refl;
        said = name_read bytes
            h t e;
      };
      same = refl;
    })

-- ---- the names of a report

pub like_relation : (relations : List Relation) (rel : ℕ) → All HasTextNames relations
    → IsText (IsLike SpellsName unlined_name (relation_tree relations rel)) (relation_pieces relations rel)
like_relation relations rel h = like_name (slice_index_or (map (λ r. r.name) relations) rel []) (relation_text relations rel h)

pub like_entity : (relations : List Relation) (rel ent : ℕ) → All HasTextNames relations
    → IsText (IsLike SpellsName unlined_name (entity_tree relations rel ent)) (entity_pieces relations rel ent)
like_entity relations rel ent h = like_name (slice_index_or (entity_names (slice_get relations rel)) ent [])
    (entity_text relations rel ent h)

pub like_row : (relations : List Relation) (rel : ℕ) (row : RowId) → All HasTextNames relations
    → IsText (IsLike SpellsName unlined_name (row_tree relations rel row)) (row_pieces relations rel row)
like_row relations rel row h = like_name (slice_index_or (row_names (slice_get relations rel)) row.0 [])
    (row_text relations rel row.0 h)

-- the names of a relation and of an attribute of it, without their lines
abbrev pub unlined_pair : Named × Named → Named × Named
unlined_pair x = (unlined_name x.0, unlined_name x.1)

pub like_attribute : (relations : List Relation) (rel attr : ℕ) → All HasTextNames relations
    → IsText (IsLike (λ (x : Named × Named). SpellsAttribute x.0 x.1) unlined_pair
    (relation_tree relations rel, attr_tree relations rel attr)) (attribute_pieces relations rel attr)
like_attribute relations rel attr h =
    like_both (like_relation relations rel h)
    (like_after point (like_name (slice_index_or (attr_names (slice_get relations rel)) attr [])
    (attr_text relations rel attr h)))
