-- The commands that words say, where so many guides are handed in.
use Rattle.std.specs.Prelude.{◌≤◌, ◌&&◌, ℕ, Bool, true, List, Option, Some, None, nat_le, option_and_then, if◌then◌else◌}
use Rattle.program_words.specs.Words.{AskFor, CertainTableFor, CommandSaid, ConflictsIn, ExplainFor, ForcedOf, GoldenIn}
use Rattle.program_words.specs.Words.{PossibleFor, PossibleTableFor, SessionOver, TrialOf, VerifyOf, command_of}

-- the guide that is to be kept, if one is, is among so many, counted from 1
abbrev pub is_guide : ℕ → Option ℕ → Bool
is_guide count None = true
is_guide count (Some k) = nat_le 1 k && nat_le k count

-- the command, if the guide that it keeps is there
abbrev pub with_guides : ℕ → CommandSaid → Option CommandSaid
with_guides count (AskFor a) = if is_guide count a.guide then Some (AskFor a) else None
with_guides count (VerifyOf v) = Some (VerifyOf v)
with_guides count (ForcedOf name) = Some (ForcedOf name)
with_guides count (TrialOf size) = Some (TrialOf size)
with_guides count (ExplainFor e) = if is_guide count e.guide then Some (ExplainFor e) else None
with_guides count (ConflictsIn c) = if is_guide count c.guide then Some (ConflictsIn c) else None
with_guides count (GoldenIn g) = if is_guide count g.guide then Some (GoldenIn g) else None
with_guides count (PossibleFor p) = if is_guide count p.guide then Some (PossibleFor p) else None
with_guides count (CertainTableFor t) = if is_guide count t.guide then Some (CertainTableFor t) else None
with_guides count (PossibleTableFor t) = if is_guide count t.guide then Some (PossibleTableFor t) else None
with_guides count (SessionOver a) = if is_guide count a.guide then Some (SessionOver a) else None

-- the numbers of a command are in their ranges
abbrev pub IsInRange : CommandSaid → Type 0
IsInRange (AskFor a) = a.budget ≤ 10000000
IsInRange (TrialOf size) = (1 ≤ size) × (size ≤ 1000)
IsInRange (ExplainFor e) = (1 ≤ e.unit) × (e.budget ≤ 10000000)
IsInRange (ConflictsIn c) = c.budget ≤ 10000000
IsInRange (GoldenIn g) = g.budget ≤ 10000000
IsInRange (PossibleFor p) = p.budget ≤ 10000000
IsInRange (CertainTableFor t) = t.budget ≤ 10000000
IsInRange (PossibleTableFor t) = t.budget ≤ 10000000
IsInRange (SessionOver a) = a.budget ≤ 10000000
IsInRange other = Unit {0}

-- the command that words say where so many guides are handed in; none where they are refused
abbrev pub command_for : ℕ → List (List ℕ) → Option CommandSaid
command_for count words = option_and_then (with_guides count) (command_of words)
