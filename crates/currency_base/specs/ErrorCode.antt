-- The codes of refusals, as they are printed.
use Rattle.std.specs.Prelude.{ℕ, List, codes}
use Rattle.currency_base.specs.declared.error_code.ErrorCode.{ErrorCode}
use Rattle.currency_base.specs.declared.error_code.ErrorCode.TheVariants.{NotUtf8, Syntax, UnknownName, DuplicateName, Mismatch, Ragged, MissingColumn, BadInt, DuplicateRow, UnknownRow, NotOneEntity, CopyTwice, CopyDiffers, UnsafeVariable}

-- an `E` and two digits
abbrev pub code_text : ErrorCode → List ℕ
code_text NotUtf8 = codes "E01"
code_text Syntax = codes "E02"
code_text UnknownName = codes "E03"
code_text DuplicateName = codes "E04"
code_text Mismatch = codes "E05"
code_text Ragged = codes "E06"
code_text MissingColumn = codes "E07"
code_text BadInt = codes "E08"
code_text DuplicateRow = codes "E09"
code_text UnknownRow = codes "E10"
code_text NotOneEntity = codes "E11"
code_text CopyTwice = codes "E12"
code_text CopyDiffers = codes "E13"
code_text UnsafeVariable = codes "E15"
