use Rattle.std.proofs.Common.{◌≡◌, List, ℕ}
use Rattle.text_write.specs.Pieces.{text_of}
use Rattle.text_write.specs.Written.{HasTokens}
use Rattle.spec_syntax.specs.Grammar.{SpellsSpec}
use Rattle.spec_syntax.specs.Texts.{ReadsSpec}
use Rattle.spec_syntax.specs.declared.trees.SpecTree.{SpecTree}
use Rattle.spec_write.specs.Pieces.{spec_pieces}
use Rattle.spec_write.specs.Unlined.{unlined_spec}
use Rattle.spec_write.proofs.Rewritten.{IsRewritten, Respelled}
use Rattle.spec_write.proofs.Rules.{rewritten_spec}
use Rattle.spec_write.proofs.SingleTokens.{Laws}
use Rattle.spec_write.proofs.Words.{tokens_of_text}
use Rattle.spec_write.proofs.laws.written_is_read.Goals as goal

read_again : Laws → (source : List ℕ) (tree : SpecTree) → ReadsSpec source tree
    → (read : SpecTree) × ReadsSpec (text_of (spec_pieces tree)) read × (unlined_spec read ≡ unlined_spec tree)
read_again laws source tree h =
    let r : IsRewritten SpellsSpec spec_pieces unlined_spec = rewritten_spec laws in
    let t : HasTokens (spec_pieces tree) = laws.tokens (spec_pieces tree)
    (r.whole tree h.lexemes (tokens_of_text source h.lexemes h.tokens) h.spelled) in
    let s : Respelled SpellsSpec unlined_spec tree t.lexemes = r.again tree h.lexemes t.lexemes h.spelled t.same in
    (s.tree, record { utf8 = t.utf8; lexemes = t.lexemes; tokens = t.tokens; spelled = s.spelled }, s.same)

pub returns : goal.returns
returns c = read_again (record {
  tokens = c.pieces_are_tokens.ensures;
  name_read = c.name_is_read.ensures;
  string_read = c.string_is_read.ensures;
  value_read = c.value_is_read.ensures;
  name_whole = c.name_is_piece.ensures;
  string_whole = c.string_is_piece.ensures;
  value_whole = c.value_is_piece.ensures;
})
