-- Marks, atom by atom.
use Rattle.std.proofs.Common.{◌≡◌, ◌+◌, ◌<◌, ◌≤◌, ◌⊎◌, inl, inr, ℕ, zero, suc, Bool, true, false, cond, List, [], ◌∷◌, ◌++◌, length, take, get_or, Option, None, Some, slice_get, slice_index_or, slice_set, refl, sym, ap, subst, ◌∙◌, arith}
use Rattle.std.specs.List.{AllZip, Contains}
use Rattle.std.specs.Cmp.Lexicographic.{slice_cmp}
use Rattle.std.specs.Option.{option_cmp}
use Rattle.std.specs.Ordering.{is_eq, ordering_reverse}
use Rattle.std.specs.declared.cmp.Ordering.{Ordering}
use Rattle.std.specs.declared.cmp.Ordering.TheVariants.{Less, Equal, Greater}
use Rattle.std.proofs.lemmas.List.{take_more}
use Rattle.std.proofs.lemmas.List.Elements.{All-contains}
use Rattle.std.proofs.lemmas.Option.{get_or_from_slice_get, none-some, same_Some, slice_get-get_or, slice_get_within}
use Rattle.std.proofs.lemmas.Slice.Zip.{AllZip-long}
use Rattle.currency_base.specs.Values.{value_cmp}
use Rattle.currency_base.specs.declared.value.Value.{Value}
use Rattle.query_model.specs.Answers.{AtomHolds}
use Rattle.query_model.specs.declared.query.Atom.{Atom}
use Rattle.query_model.specs.declared.query.Test.{Test}
use Rattle.semi_joins.specs.KeyOrder.{key_total}
use Rattle.semi_joins.specs.Kept.{AreKept, AreLinks, AreNoted, CanFit, IsJoined, IsMatched, Keeps, KeepsAll, StayKept, StaysAll, is_kept, is_key, key_at}
use Rattle.semi_joins.proofs.Marking.{before_or_next, get_none}

-- ---- keys

abbrev key_cmp : List (Option Value) → List (Option Value) → Ordering
key_cmp a b = slice_cmp (option_cmp value_cmp) a b

own : (o : Ordering) → o ≡ ordering_reverse o → is_eq o ≡ true
own Less e = cc
own Equal e = refl
own Greater e = cc

itself : (key : List (Option Value)) → is_eq (key_cmp key key) ≡ true
itself key = own (key_cmp key key) (key_total.antisymm key key)

-- one more is noted
pub noted_kept : (old new : List (List (Option Value))) (key other : List (Option Value)) → is_key new other ≡ cond
    (is_eq (key_cmp key other)) true (is_key old other) → is_key old other ≡ true → is_key new other ≡ true
noted_kept old new key other is was = is ∙ by (is_eq (key_cmp key other))
  where
    by : (b : Bool) → cond b true (is_key old other) ≡ true
    by true = refl
    by false = was

pub noted_there : (old new : List (List (Option Value))) (key : List (Option Value)) → is_key new key ≡ cond
    (is_eq (key_cmp key key)) true (is_key old key) → is_key new key ≡ true
noted_there old new key is = is ∙ ap (λ b. cond b true (is_key old key)) (itself key)

-- ---- what stands in a list

found : {A : Type 0} (xs : List A) (x : A) → Contains xs x → (k : ℕ) × (slice_get xs k ≡ Some x)
found xs x there = (there.0, slice_get-get_or xs there.0 x there.1 ∙ ap (λ u. Some u) there.2)

contains_at : {A : Type 0} (xs : List A) (k : ℕ) (x : A) → slice_get xs k ≡ Some x → Contains xs x
contains_at xs k x at = (k, slice_get_within xs k x at, get_or_from_slice_get xs k x x at)

-- ---- the order of keys

pub greater_first : (ones others : List ℕ) (one other : List Value) → 0 < length ones → length others < 1
    → Greater ≡ slice_cmp (option_cmp value_cmp) (key_at ones one) (key_at others other)
greater_first [] others one other some none = absurd (omega (arith, some))
greater_first (p ∷ ps) [] one other some none = refl
greater_first (p ∷ ps) (q ∷ qs) one other some none = absurd (omega (arith, none))

-- ---- lists that go together

zip_push : {A B : Type 0} (R : A → B → Type 0) (xs : List A) (ys : List B) (x : A) (y : B) → AllZip R xs ys → R x y
    → AllZip R (xs ++ x ∷ []) (ys ++ y ∷ [])
zip_push R [] [] x y all one = (one, tt)
zip_push R [] (z ∷ ys) x y all one = absurd all
zip_push R (z ∷ xs) [] x y all one = absurd all
zip_push R (z ∷ xs) (w ∷ ys) x y all one = (all.0, zip_push R xs ys x y all.1 one)

zip_set : {A B : Type 0} (R : A → B → Type 0) (xs : List A) (ys : List B) (k : ℕ) (x : A) (y : B) → AllZip R xs ys
    → slice_get xs k ≡ Some x → R x y → AllZip R xs (slice_set ys k y)
zip_set R [] ys k x y all at one = absurd (none-some x at)
zip_set R (z ∷ xs) [] k x y all at one = absurd all
zip_set R (z ∷ xs) (w ∷ ys) zero x y all at one = (subst (λ u. R u y) (sym (same_Some z x at)) one, all.1)
zip_set R (z ∷ xs) (w ∷ ys) (suc k) x y all at one = (all.0, zip_set R xs ys k x y all.1 at one)

zip_both : {A B : Type 0} (R : A → B → Type 0) (xs : List A) (ys : List B) (k : ℕ) (x : A) (y : B)
    → AllZip R xs ys → slice_get xs k ≡ Some x → slice_get ys k ≡ Some y → R x y
zip_both R [] ys k x y all at there = absurd (none-some x at)
zip_both R (z ∷ xs) [] k x y all at there = absurd all
zip_both R (z ∷ xs) (w ∷ ys) zero x y all at there = rw (sym (same_Some z x at), sym (same_Some w y there)) all.0
zip_both R (z ∷ xs) (w ∷ ys) (suc k) x y all at there = zip_both R xs ys k x y all.1 at there

-- ---- marks

-- rows that fit alone
pub alone_is : (instance : List (List (List Value))) (atoms : List Atom) (tests : List Test) (atom : Atom)
    (rows : List (List Value)) (marks : List Bool) → rows ≡ slice_index_or instance atom.relation.0 []
    → Keeps (λ place row. CanFit tests atom.terms row) rows marks → KeepsAll instance atoms tests atom marks
alone_is instance atoms tests atom rows marks is so = λ values place row matched at fits.
    so place row (subst (λ l. slice_get l place ≡ Some row) (sym is) at) record {
      values = values;
      pass = matched.pass;
      fits = fits;
    }

-- marks of one more atom
pub kept_more : (instance : List (List (List Value))) (all : List Atom) (tests : List Test) (i : ℕ) (step atom : Atom)
    (rows : List (List Value)) (old now : List (List Bool)) (marks : List Bool) → i < length all → step ≡ get_or all i step
    → atom ≡ step → rows ≡ slice_index_or instance atom.relation.0 []
    → Keeps (λ place row. CanFit tests atom.terms row) rows marks → now ≡ old ++ marks ∷ []
    → AllZip (KeepsAll instance all tests) (take i all) old → AllZip (KeepsAll instance all tests) (take (i + 1) all) now
kept_more instance all tests i step atom rows old now marks below is same rows_is so after are =
    let next : take (i + 1) all ≡ take i all ++ step ∷ [] =
    take_more all i step below ∙ ap (λ z. take i all ++ z ∷ []) (sym is) in
    let R = KeepsAll instance all tests in
    let one : R step marks = subst (λ a. R a marks) same (alone_is instance all tests atom rows marks rows_is so) in
    let pushed = zip_push R (take i all) old step marks are one in
    subst (λ l. AllZip R l now) (sym next) (subst (AllZip R (take i all ++ step ∷ [])) (sym after) pushed)

-- rows with a partner
pub stays_all : (instance : List (List (List Value))) (tests : List Test) (one other : Atom) (old theirs new : List Bool)
    (rows others : List (List Value)) (here there : List ℕ) → rows ≡ slice_index_or instance one.relation.0 []
    → others ≡ slice_index_or instance other.relation.0 [] → AreLinks tests one.terms other.terms here there
    → Keeps (IsJoined old others theirs here there) rows new → StaysAll instance tests one other old theirs new
stays_all instance tests one other old theirs new rows others here there rows_is others_is links so =
    λ atoms among mine_are theirs_are values place row matched at fits.
    let held : AtomHolds instance values other = All-contains (AtomHolds instance values) atoms other matched.hold among in
    let there_at = found (slice_index_or instance other.relation.0 []) held.tuple held.is_there in
    so place row (subst (λ l. slice_get l place ≡ Some row) (sym rows_is) at) record {
      kept = mine_are values place row matched at fits;
      partner = record {
        place = there_at.0;
        other = held.tuple;
        at = subst (λ l. slice_get l there_at.0 ≡ Some held.tuple) (sym others_is) there_at.1;
        kept = theirs_are values there_at.0 held.tuple matched there_at.1 held.fits;
        same = links values row held.tuple matched.pass fits held.fits;
      };
    }

pub joined : (instance : List (List (List Value))) (atoms : List Atom) (tests : List Test) (at by : ℕ) (one other : Atom)
    (old now : List (List Bool)) (mine theirs new : List Bool) → slice_get atoms at ≡ Some one → slice_get atoms by ≡ Some other
    → slice_get old at ≡ Some mine → slice_get old by ≡ Some theirs → StaysAll instance tests one other mine theirs new
    → now ≡ slice_set old at new → StayKept instance atoms tests old now
joined instance atoms tests at by one other old now mine theirs new is_one is_other is_mine is_theirs stays after are =
    let R = KeepsAll instance atoms tests in
    let mine_are = zip_both R atoms old at one mine are is_one is_mine in
    let theirs_are = zip_both R atoms old by other theirs are is_other is_theirs in
    let among : Contains atoms other = contains_at atoms by other is_other in
    subst (AllZip R atoms) (sym after) (zip_set R atoms old at one new are is_one (stays atoms among mine_are theirs_are))

-- ---- keys of more and more rows

-- of the rows that were gone through
abbrev pub NotedBelow : List (List Value) → List Bool → List ℕ → ℕ → List (List (Option Value)) → Type 0
NotedBelow rows marks places n keys = (place : ℕ) (row : List Value) → place < n → slice_get rows place ≡ Some row
    → is_kept marks place ≡ true → is_key keys (key_at places row) ≡ true

pub noted_more : (rows : List (List Value)) (marks : List Bool) (places : List ℕ) (keys now : List (List (Option Value))) (n : ℕ)
    (row : List Value) → n < length rows → row ≡ get_or rows n row
    → ((key : List (Option Value)) → is_key keys key ≡ true → is_key now key ≡ true)
    → (is_kept marks n ≡ true → is_key now (key_at places row) ≡ true) → NotedBelow rows marks places n keys
    → NotedBelow rows marks places (n + 1) now
noted_more rows marks places keys now n row inside is kept noted before = λ place r below at marked.
    from place r at marked (before_or_next place n below)
  where
    from : (place : ℕ) (r : List Value) → slice_get rows place ≡ Some r → is_kept marks place ≡ true → (place < n) ⊎ (place ≡ n)
        → is_key now (key_at places r) ≡ true
    from place r at marked (inl earlier) = kept (key_at places r) (before place r earlier at marked)
    from place r at marked (inr same) =
        let there : slice_get rows n ≡ Some r = subst (λ k. slice_get rows k ≡ Some r) same at in
        let equal : row ≡ r = is ∙ get_or_from_slice_get rows n r row there in
        subst (λ l. is_key now (key_at places l) ≡ true) equal (noted (subst (λ k. is_kept marks k ≡ true) same marked))

pub noted_all : (rows : List (List Value)) (marks : List Bool) (places : List ℕ) (keys : List (List (Option Value))) (n : ℕ)
    → length rows ≤ n → NotedBelow rows marks places n keys → AreNoted rows marks places keys
noted_all rows marks places keys n past noted = λ place row at marked.
    let within = slice_get_within rows place row at in
    noted place row (omega (arith, within, past)) at marked

-- a row whose values are noted has a partner: what is joined is marked
pub marked : (keys : List (List (Option Value))) (old theirs : List Bool) (others : List (List Value)) (here there : List ℕ)
    (place : ℕ) (row : List Value) → AreNoted others theirs there keys → IsJoined old others theirs here there place row
    → is_key keys (key_at here row) ≡ true
marked keys old theirs others here there place row noted joins =
    ap (is_key keys) joins.partner.same ∙ noted joins.partner.place joins.partner.other joins.partner.at joins.partner.kept

-- ---- no row

pub none_never : (kept : List (List Bool)) (k : ℕ) (marks : List Bool) → slice_get kept k ≡ Some marks
    → ((place : ℕ) → is_kept marks place ≡ true → ⊥) → (instance : List (List (List Value))) (atoms : List Atom)
    (tests : List Test) → AreKept instance atoms tests kept → (values : List Value) → IsMatched instance atoms tests values → ⊥
none_never kept k marks there none instance atoms tests are values matched = by (slice_get atoms k) refl
  where
    by : (o : Option Atom) → slice_get atoms k ≡ o → ⊥
    by None at =
        let many = AllZip-long (KeepsAll instance atoms tests) atoms kept are in
        let inside = slice_get_within kept k marks there in
        get_none atoms k (omega (arith, many, inside)) (sym at)
    by (Some atom) at =
        let keeps = zip_both (KeepsAll instance atoms tests) atoms kept k atom marks are at there in
        let among : Contains atoms atom = contains_at atoms k atom at in
        let held : AtomHolds instance values atom = All-contains (AtomHolds instance values) atoms atom matched.hold among in
        let there_at = found (slice_index_or instance atom.relation.0 []) held.tuple held.is_there in
        none there_at.0 (keeps values there_at.0 held.tuple matched there_at.1 held.fits)
