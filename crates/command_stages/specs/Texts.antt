-- What is written for each outcome, and the status that goes with it.
use Rattle.std.specs.Prelude.{ℕ, List, [], ◌∷◌, ◌++◌, codes}
use Rattle.std.specs.Fmt.{decimal}
use Rattle.currency_base.specs.ErrorCode.{code_text}
use Rattle.currency_base.specs.declared.error_code.ErrorCode.{ErrorCode}
use Rattle.currency_base.specs.declared.error_code.ErrorCode.TheVariants as code
use Rattle.currency_base.specs.declared.value.Value.{Value}
use Rattle.text_write.specs.Spelling.{value_text}
use Rattle.command_stages.specs.declared.trouble.Check.{Check}
use Rattle.command_stages.specs.declared.trouble.Check.TheVariants.{V1, V2, V3}
use Rattle.command_stages.specs.declared.trouble.Trouble.{Trouble}
use Rattle.command_stages.specs.declared.trouble.Trouble.TheVariants.{Words, Unshown, Refused, CopyDiffers, Limit, ReadFault, NoMemory}

-- which check a report fails
abbrev pub check_text : Check → List ℕ
check_text V1 = codes "refused V1"
check_text V2 = codes "refused V2"
check_text V3 = codes "refused V3"

-- which fault a document has
abbrev pub error_text : ErrorCode → List ℕ
error_text code = codes "error " ++ code_text code

-- what is said of a document, its name and a line in it, with blanks between
abbrev pub document_front : List ℕ → List ℕ → ℕ → List ℕ
document_front said name line = said ++ 32 ∷ [] ++ name ++ (32 ∷ decimal line)

-- the same as a line
abbrev pub document_text : List ℕ → List ℕ → ℕ → List ℕ
document_text said name line = document_front said name line ++ 10 ∷ []

-- the same of a row that differs from the one that it is copied from, with the two values, as constants are spelled
abbrev pub difference_text : List ℕ → ℕ → Value → Value → List ℕ
difference_text name line target source =
    document_front (error_text code.CopyDiffers) name line ++ 32 ∷ [] ++ value_text target ++ 32 ∷ []
    ++ value_text source ++ 10 ∷ []

-- the line of a refusal; for want of memory nothing is written
abbrev pub trouble_text : Trouble → List ℕ
trouble_text Words = codes "words refused\n"
trouble_text (Unshown check document line) = document_text (check_text check) document line
trouble_text (Refused code document line) = document_text (error_text code) document line
trouble_text (CopyDiffers document line target source) = difference_text document line target source
trouble_text (Limit k) = codes "limit " ++ decimal k ++ 10 ∷ []
trouble_text (ReadFault document) = codes "read fault " ++ document ++ 10 ∷ []
trouble_text NoMemory = []

-- the status that a refusal ends with
abbrev pub trouble_status : Trouble → ℕ
trouble_status Words = 2
trouble_status (Unshown check document line) = 4
trouble_status (Refused code document line) = 5
trouble_status (CopyDiffers document line target source) = 5
trouble_status (Limit k) = 6
trouble_status (ReadFault document) = 7
trouble_status NoMemory = 9
