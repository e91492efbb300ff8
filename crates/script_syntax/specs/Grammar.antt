-- The grammar of scripts.
use Rattle.std.specs.Prelude.{ℕ, Bool, true, false, List, codes}
use Rattle.text_grammar.specs.Grammar.{Language, ◌⋅◌, Says, IsWord, IsSymbol, SpellsName, Many}
use Rattle.text_grammar.specs.declared.named.Named.{Named}
use Rattle.text_grammar.specs.declared.named.NamedPair.{NamedPair}
use Rattle.rule_syntax.specs.Grammar.{SpellsRule}
use Rattle.copy_syntax.specs.Grammar.{SpellsMapping}
use Rattle.spec_syntax.specs.Grammar.{SpellsPair}
use Rattle.question_syntax.specs.Grammar.{SpellsQuestion, word_line}
use Rattle.script_syntax.specs.declared.trees.Entry.{Entry}
use Rattle.script_syntax.specs.declared.trees.EntryTree.{EntryTree}
use Rattle.script_syntax.specs.declared.trees.EntryTree.TheVariants.{Order, AddRule, WithdrawRule, Copy, Ask}

-- the word of an edit
abbrev pub verb : Bool → List ℕ
verb true = codes "add"
verb false = codes "withdraw"

-- given = "order" name "." name ":" pair
abbrev pub SpellsGiven : Named → Named → NamedPair → Language
SpellsGiven relation attr pair =
    IsWord (codes "order") ⋅ SpellsName relation ⋅ IsSymbol (codes ".") ⋅ SpellsName attr ⋅ IsSymbol (codes ":") ⋅ SpellsPair pair

-- copied = "copy" name ":" mapping
abbrev pub SpellsCopied : Named → NamedPair → Language
SpellsCopied name mapping = IsWord (codes "copy") ⋅ SpellsName name ⋅ IsSymbol (codes ":") ⋅ SpellsMapping mapping

-- entry = ( "add" | "withdraw" ) given ";"
--       | "add" rule ";"
--       | "withdraw" "rule" name ";"
--       | ( "add" | "withdraw" ) copied ";"
--       | "ask" question
-- on the line of its first word
abbrev pub SpellsOn : ℕ → EntryTree → Language
SpellsOn line (Order add relation attr pair) =
    Says (word_line (verb add)) line ⋅ SpellsGiven relation attr pair ⋅ IsSymbol (codes ";")
SpellsOn line (AddRule rule) = Says (word_line (codes "add")) line ⋅ SpellsRule rule ⋅ IsSymbol (codes ";")
SpellsOn line (WithdrawRule name) =
    Says (word_line (codes "withdraw")) line ⋅ (IsWord (codes "rule") ⋅ SpellsName name) ⋅ IsSymbol (codes ";")
SpellsOn line (Copy add name mapping) = Says (word_line (verb add)) line ⋅ SpellsCopied name mapping ⋅ IsSymbol (codes ";")
SpellsOn line (Ask question) = Says (word_line (codes "ask")) line ⋅ SpellsQuestion question

-- an entry
abbrev pub SpellsEntry : Entry → Language
SpellsEntry e = SpellsOn e.line e.tree

-- script = { entry }
abbrev pub SpellsScript : List Entry → Language
SpellsScript entries = Many SpellsEntry entries
