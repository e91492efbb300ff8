-- A text has one list of records.
use Rattle.std.proofs.Common.{◌≡◌, ℕ, List, [], ◌∷◌, None, refl, subst}
use Rattle.csv.specs.Machine.{Read, next_record}
use Rattle.csv.specs.Reading.{AreRecords, Reached, default_config, strip_bom}
use Rattle.csv.specs.declared.parser.Config.{Config}
use Rattle.csv.specs.declared.parser.State.{State}
use Rattle.csv.specs.declared.parser.State.TheVariants as st
use Rattle.currency_csv.specs.Table.{AreRecordsOf}

one_list : (cfg : Config) (s : State) (xs : List ℕ) (a b : List (List (List ℕ))) → AreRecords cfg s xs a
    → AreRecords cfg s xs b → a ≡ b
unfolding Reached
one_list cfg s xs [] [] h k = refl
one_list cfg s xs [] (r ∷ rs) (s2, ys, h, none) (s3, zs, k, last) =
    let e : next_record cfg s [] [] xs ≡ None = rw (h.0, h.1) none in
    cc (e, k.1)
one_list cfg s xs (r ∷ rs) [] (s2, ys, h, none) (s3, zs, k, last) =
    let e : next_record cfg s [] [] xs ≡ None = rw (k.0, k.1) last in
    cc (e, h.1)
one_list cfg s xs (r ∷ rs) (q ∷ qs) (s2, ys, h, none) (s3, zs, k, last) =
    let same : k.0 ≡ h.0 = cc (h.1, k.1) in
    let below = one_list cfg h.0.1 h.0.2 rs qs (s2, ys, h.3, none)
    (s3, zs, subst (λ (p : Read). Reached cfg p.1 p.2 qs s3 zs) same k.3, last) in
    let first : r ≡ q = cc (same, h.2, k.2) in
    cc (first, below)

pub one_list_of_bytes : (bytes : List ℕ) (a b : List (List (List ℕ))) → AreRecordsOf bytes a → AreRecordsOf bytes b → a ≡ b
one_list_of_bytes bytes a b h k = one_list default_config st.StartRecord (strip_bom bytes) a b h k
