-- What texts are read as scripts, and where they are refused.
use Rattle.std.specs.Prelude.{ℕ, List}
use Rattle.text_tokens.specs.declared.token.TextFault.{TextFault}
use Rattle.text_grammar.specs.Texts.{ReadsText, RefusesText}
use Rattle.script_syntax.specs.declared.trees.Entry.{Entry}
use Rattle.script_syntax.specs.Grammar.{SpellsScript}

-- a text is read as a script of these entries: it is UTF-8, and its tokens spell them
abbrev pub ReadsScript : List ℕ → List Entry → Type 0
ReadsScript source entries = ReadsText SpellsScript source entries

-- a text is refused as a script with this fault
abbrev pub RefusesScript : List ℕ → TextFault → Type 0
RefusesScript source e = RefusesText SpellsScript source e
