-- The texts of a session.
use Rattle.std.specs.Prelude.{ℕ, List, [], ◌∷◌, ◌++◌, codes, decimal}
use Rattle.command_stages.specs.Stages.{bind_trouble}
use Rattle.command_stages.specs.declared.trouble.Trouble.{Trouble}
use Rattle.command_stages.specs.declared.trouble.Trouble.TheVariants as trouble
use Rattle.currency_base.specs.ErrorCode.{code_text}
use Rattle.currency_base.specs.declared.error_code.ErrorCode.TheVariants as code
use Rattle.session_entries.specs.declared.fault.EntryFault.{EntryFault}
use Rattle.session_entries.specs.declared.fault.EntryFault.TheVariants.{Bind, NotThere}
use Rattle.text_write.specs.Spelling.{value_text}

-- the first line, and the last
abbrev pub header_text : List ℕ
header_text = codes "currency session 1;\n"

abbrev pub end_text : List ℕ
end_text = codes "end;\n"

-- the line of an edit that was done, whose entry stands at this line
abbrev pub accepted_text : ℕ → List ℕ
accepted_text line = codes "edit " ++ decimal line ++ codes " accepted;\n"

-- the line before a reply
abbrev pub reply_text : ℕ → List ℕ
reply_text line = codes "reply " ++ decimal line ++ codes ";\n"

-- ---- refusals

-- the code of what is to be withdrawn and is not there, which comes in sessions alone
abbrev pub not_there_text : List ℕ
not_there_text = codes "E17"

-- the code of a fault, the document and the line in it
abbrev pub refused_front : List ℕ → List ℕ → ℕ → List ℕ
refused_front coded document line = codes "refused " ++ coded ++ 32 ∷ document ++ 32 ∷ decimal line

-- the same as a line
abbrev pub refused_line : List ℕ → List ℕ → ℕ → List ℕ
refused_line coded document line = refused_front coded document line ++ codes ";\n"

-- the line of a limit, with the line of the entry's first word
abbrev pub limit_line : ℕ → ℕ → List ℕ
limit_line k line = codes "refused limit " ++ decimal k ++ 32 ∷ decimal line ++ codes ";\n"

-- the line of a refusal of an entry that stands at this line; what the entry does not determine has none
abbrev pub trouble_line : ℕ → Trouble → List ℕ
trouble_line entry (trouble.Refused c document line) = refused_line (code_text c) document line
trouble_line entry (trouble.CopyDiffers document line target source) =
    refused_front (code_text code.CopyDiffers) document line ++ 32 ∷ value_text target ++ 32 ∷ value_text source ++ codes ";\n"
trouble_line entry (trouble.Limit k) = limit_line k entry
trouble_line entry other = []

-- the line of a refused edit of the script of this name, whose entry stands at this line
abbrev pub fault_line : List ℕ → ℕ → EntryFault → List ℕ
fault_line script entry (Bind fault) = trouble_line entry (bind_trouble script fault)
fault_line script entry NotThere = refused_line not_there_text script entry
