-- Pieces of a text, written one after another.
use Rattle.std.proofs.Common.{◌≡◌, ◌≤◌, ◌+◌, ◌-◌, ℕ, List, Option, ◌++◌, length, take, drop, sym, subst, arith}
use Rattle.std.specs.Io.KnownBytes.{Appends, Keeps}
use Rattle.std.proofs.KnownBytes.{Appends-trans, Appends-kept}
use Rattle.std.proofs.lemmas.List.{take-append-drop, take_rest, length-take}
use Rattle.std.proofs.Math.Seq.{take-append-add}
use Rattle.currency_edge.specs.Sink.{AppendsPrefix}

-- a longer front is a front and then a front of what follows
take_add : (at n : ℕ) (xs : List ℕ) → at ≤ length xs → take at xs ++ take n (drop at xs) ≡ take (at + n) xs
take_add at n xs within =
    let whole : take at xs ++ drop at xs ≡ xs = take-append-drop at xs in
    let count : length (take at xs) ≡ at = omega (arith, length-take at xs) in
    let joined : take (length (take at xs) + n) (take at xs ++ drop at xs) ≡ take at xs ++ take n (drop at xs) =
    take-append-add (take at xs) (drop at xs) n in
    sym (rw (count, whole) at joined)

-- a front was appended, and then a front of the bytes that follow it
pub appended_more : (old mid new : Option (List ℕ)) (at n : ℕ) (xs : List ℕ) → at ≤ length xs → Appends old mid
    (take at xs) → Appends mid new (take n (take (length xs - at) (drop at xs))) → Appends old new (take (at + n) xs)
appended_more old mid new at n xs within before here =
    let after : Appends mid new (take n (drop at xs)) = subst (λ (ys : List ℕ). Appends mid new (take n ys))
    (take_rest xs at) here in
    subst (Appends old new) (take_add at n xs within) (Appends-trans old mid new (take at xs) (take n (drop at xs)) before after)

-- a front was appended, and then nothing
pub appended_part : (old mid new : Option (List ℕ)) (at : ℕ) (xs : List ℕ) → Appends old mid (take at xs)
    → Keeps mid new → AppendsPrefix old new xs
appended_part old mid new at xs before kept =
    (take at xs, drop at xs, sym (take-append-drop at xs), Appends-kept old mid new (take at xs) before kept)
