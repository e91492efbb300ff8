-- The kinds of verdicts, and the items that a verdict lists.
use Rattle.std.specs.Prelude.{ℕ, Bool, true, false, List, length, codes}
use Rattle.report_model.specs.declared.verdict.VerdictKind.{VerdictKind}
use Rattle.report_model.specs.declared.verdict.VerdictKind.TheVariants as kind
use Rattle.report_model.specs.declared.verdict.Verdict.{Verdict}
use Rattle.report_model.specs.declared.verdict.Verdict.TheVariants.{Inconsistent, Consistent, Certain, NotCertain, Same, NotSame, Answers, Undecided}

-- the kind of a verdict
abbrev pub kind_of : Verdict → VerdictKind
kind_of Inconsistent = kind.Inconsistent
kind_of Consistent = kind.Consistent
kind_of Certain = kind.Certain
kind_of (NotCertain p) = kind.NotCertain
kind_of (Same items) = kind.Same
kind_of (NotSame rel attr ent) = kind.NotSame
kind_of (Answers tuples) = kind.Answers
kind_of (Undecided counted) = kind.Undecided

-- the words of a kind
abbrev pub kind_text : VerdictKind → List ℕ
kind_text kind.Inconsistent = codes "inconsistent"
kind_text kind.Consistent = codes "consistent"
kind_text kind.Certain = codes "certain"
kind_text kind.NotCertain = codes "not certain"
kind_text kind.Same = codes "same"
kind_text kind.NotSame = codes "not same"
kind_text kind.Answers = codes "answers"
kind_text kind.Undecided = codes "undecided"

-- something is claimed: all verdicts but `undecided`
abbrev pub is_decided : VerdictKind → Bool
is_decided kind.Undecided = false
is_decided other = true

-- how many items a verdict lists: current tuples or answers
abbrev pub item_count : Verdict → ℕ
item_count (Same items) = length items
item_count (Answers tuples) = length tuples
item_count other = 0
