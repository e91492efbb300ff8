-- What was read so far, where the reader's bytes are known.
use Rattle.std.proofs.Common.{◌≡◌, ℕ, List, Option, None, Some, length, take, IfSome, sym}
use Rattle.std.specs.Io.KnownBytes.{Consumes, IsAtEnd}
use Rattle.std.proofs.Math.Seq.{take-append_seam}
use Rattle.std.proofs.lemmas.List.{append-nil}

-- at the end, all the bytes were read
pub filled_whole : (old new : Option (List ℕ)) (bs : List ℕ) → Consumes old new bs → IsAtEnd new → IfSome old (λ xs. bs ≡ xs)
filled_whole None new bs read end = tt
filled_whole (Some xs) None bs read end = absurd read
filled_whole (Some xs) (Some ys) bs read end = cc (append-nil bs)

-- what was read is the front of all the bytes
pub filled_front : (old new : Option (List ℕ)) (bs : List ℕ) (n : ℕ) → n ≡ length bs → Consumes old new bs
    → IfSome old (λ xs. bs ≡ take n xs)
filled_front None new bs n count read = tt
filled_front (Some xs) None bs n count read = absurd read
filled_front (Some xs) (Some ys) bs n count read = sym (rw (count, read) (take-append_seam bs ys))
