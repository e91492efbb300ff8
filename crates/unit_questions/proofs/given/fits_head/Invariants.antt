-- What is left of the tuple fits what is left of the head where the whole fits.
use Rattle.std.proofs.Common.{◌≡◌, drop}
use Rattle.unit_questions.specs.Substituted.{fits_head, given_value}
use Rattle.unit_questions.proofs.given.fits_head.Given as goal

abbrev pub invariant-loop-place : goal.invariant-loop-place
invariant-loop-place l =
    fits_head (given_value l.head l.tuple) (drop l.place l.head) (drop l.place l.tuple)
    ≡ fits_head (given_value l.head l.tuple) l.head l.tuple
