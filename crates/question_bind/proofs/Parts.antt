-- Parts with their heads and what is made of each so far.
use Rattle.std.proofs.Common.{◌≡◌, ◌∙◌, ◌+◌, ◌<◌, ◌≤◌, ℕ, zero, suc, List, [], ◌∷◌, ◌++◌, length, get_or, Result, Ok, Err, All, refl, sym, ap, subst, arith}
use Rattle.std.proofs.Math.Seq.{get_or-append_seam}
use Rattle.std.proofs.lemmas.List.{length-append}
use Rattle.std.proofs.lemmas.List.Elements.{All-nil, All-cons, All-head, All-tail, All-same}
use Rattle.bind_faults.specs.Faults.{all_of}
use Rattle.bind_faults.specs.declared.fault.BindFault.{BindFault}
use Rattle.order_bind.proofs.OrderLemmas.{Resolves, resolves_all, resolves_err, resolves_more}
use Rattle.order_bind.proofs.OrderPairs.{all_of-length, first_ok}
use Rattle.question_syntax.specs.declared.trees.AskedTree.{AskedTree}
use Rattle.question_bind.specs.declared.heads.Head.{Head}
use Rattle.question_bind.specs.Steps.{parts_with}

-- there are as many
pub parts_length : {A : Type 0} (heads : List Head) (trees : List AskedTree) (xs : List A) → length trees ≡ length
    heads → length xs ≡ length heads
    → length (parts_with heads trees xs) ≡ length heads
parts_length [] trees xs as_trees as_xs = refl
parts_length (h ∷ heads) [] xs as_trees as_xs = absurd (omega arith)
parts_length (h ∷ heads) (t ∷ trees) [] as_trees as_xs = absurd (omega arith)
parts_length (h ∷ heads) (t ∷ trees) (x ∷ xs) as_trees as_xs = ap suc (parts_length heads trees xs (omega arith) (omega arith))

-- the part at a place
part_at : {A : Type 0} (heads : List Head) (trees : List AskedTree) (xs : List A) (i : ℕ) (dh : Head) (t : AskedTree)
    (x : A) (d : Head × AskedTree × A)
    → i < length heads → i < length trees → i < length xs → t ≡ get_or trees i t → x ≡ get_or xs i x
    → get_or (parts_with heads trees xs) i d ≡ (get_or heads i dh, t, x)
part_at [] trees xs i dh t x d in_heads in_trees in_xs is_t is_x = absurd (omega arith)
part_at (h ∷ heads) [] xs i dh t x d in_heads in_trees in_xs is_t is_x = absurd (omega arith)
part_at (h ∷ heads) (t' ∷ trees) [] i dh t x d in_heads in_trees in_xs is_t is_x = absurd (omega arith)
part_at (h ∷ heads) (t' ∷ trees) (x' ∷ xs) zero dh t x d in_heads in_trees in_xs is_t is_x = cc
part_at (h ∷ heads) (t' ∷ trees) (x' ∷ xs) (suc i) dh t x d in_heads in_trees in_xs is_t is_x =
    part_at heads trees xs i dh t x d (omega arith) (omega arith) (omega arith) is_t is_x

-- ---- loops over parts

-- lists that are as long, so that parts stand at places below that
pub record AreParts {A : Type 0} (heads : List Head) (trees : List AskedTree) (xs : List A) : Type 0 where
  pub trees_many : length trees ≡ length heads
  pub xs_many : length xs ≡ length heads

pub part_more : {A B : Type 0} (f : Head × AskedTree × A → Result B BindFault) (heads : List Head)
    (trees : List AskedTree) (xs : List A) (i : ℕ) (list : List B)
    (dh : Head) (t : AskedTree) (x : A) (y : B) → AreParts heads trees xs → i < length heads → t ≡ get_or trees i t
    → x ≡ get_or xs i x
    → Resolves f (parts_with heads trees xs) i list → f (get_or heads i dh, t, x) ≡ Ok y → Resolves f
    (parts_with heads trees xs) (i + 1) (list ++ y ∷ [])
part_more {A} {B} f heads trees xs i list dh t x y are lt is_t is_x so is =
    let d : Head × AskedTree × A = (dh, t, x) in
    let many : length (parts_with heads trees xs) ≡ length heads = parts_length heads trees xs are.trees_many are.xs_many in
    let at : get_or (parts_with heads trees xs) i d ≡ (get_or heads i dh, t, x) =
    part_at heads trees xs i dh t x d lt (omega (arith, are.trees_many)) (omega (arith, are.xs_many)) is_t is_x in
    resolves_more f (parts_with heads trees xs) i list d y so (omega (arith, many)) (ap f at ∙ is)

pub part_err : {A B : Type 0} (f : Head × AskedTree × A → Result B BindFault) (heads : List Head)
    (trees : List AskedTree) (xs : List A) (i : ℕ) (list : List B)
    (dh : Head) (t : AskedTree) (x : A) (e : BindFault) → AreParts heads trees xs → i < length heads
    → t ≡ get_or trees i t → x ≡ get_or xs i x
    → Resolves f (parts_with heads trees xs) i list → f (get_or heads i dh, t, x) ≡ Err e
    → all_of f (parts_with heads trees xs) ≡ Err e
part_err {A} {B} f heads trees xs i list dh t x e are lt is_t is_x so is =
    let d : Head × AskedTree × A = (dh, t, x) in
    let many : length (parts_with heads trees xs) ≡ length heads = parts_length heads trees xs are.trees_many are.xs_many in
    let at : get_or (parts_with heads trees xs) i d ≡ (get_or heads i dh, t, x) =
    part_at heads trees xs i dh t x d lt (omega (arith, are.trees_many)) (omega (arith, are.xs_many)) is_t is_x in
    resolves_err f (parts_with heads trees xs) i list d e so (omega (arith, many)) (ap f at ∙ is)

pub part_all : {A B : Type 0} (f : Head × AskedTree × A → Result B BindFault) (heads : List Head)
    (trees : List AskedTree) (xs : List A) (i : ℕ) (list : List B)
    → AreParts heads trees xs → length heads ≤ i → Resolves f (parts_with heads trees xs) i list
    → all_of f (parts_with heads trees xs) ≡ Ok list
part_all f heads trees xs i list are le so =
    let many : length (parts_with heads trees xs) ≡ length heads = parts_length heads trees xs are.trees_many are.xs_many in
    resolves_all f (parts_with heads trees xs) i list so (omega (arith, many))

-- the next of a list whose items so far were taken out of it
pub record IsNext {A : Type 0} (heads : List Head) (xs done : List A) (x : A) (place : ℕ) : Type 0 where
  pub rest : List A
  pub whole : done ++ (x ∷ rest) ≡ xs
  pub place_is : place ≡ length done

next_below : {A : Type 0} (heads : List Head) (trees : List AskedTree) (xs done : List A) (x : A) (place : ℕ)
    → AreParts heads trees xs → IsNext heads xs done x place
    → (length done < length heads) × (x ≡ get_or xs (length done) x)
next_below heads trees xs done x place are next = (
  omega (arith, are.xs_many, ap length next.whole, length-append done (x ∷ next.rest)),
  sym (get_or-append_seam done x next.rest x) ∙ ap (λ ys. get_or ys (length done) x) next.whole,
)

pub place_below : {A : Type 0} (heads : List Head) (trees : List AskedTree) (xs done : List A) (x : A) (place : ℕ)
    → AreParts heads trees xs → IsNext heads xs done x place
    → place < length heads
place_below heads trees xs done x place are next =
    omega (arith, next.place_is, (next_below heads trees xs done x place are next).0)

pub next_more : {A B : Type 0} (f : Head × AskedTree × A → Result B BindFault) (heads : List Head)
    (trees : List AskedTree) (xs done : List A) (list : List B)
    (dh : Head) (t : AskedTree) (x : A) (y : B) (place : ℕ) → AreParts heads trees xs → IsNext heads xs done x place
    → t ≡ get_or trees place t
    → Resolves f (parts_with heads trees xs) (length done) list → f (get_or heads place dh, t, x) ≡ Ok y
    → Resolves f (parts_with heads trees xs) (length (done ++ x ∷ [])) (list ++ y ∷ [])
next_more f heads trees xs done list dh t x y place are next is_t so is =
    let below = next_below heads trees xs done x place are next in
    rw (length-append done (x ∷ [])) (part_more f heads trees xs (length done) list dh t x y are below.0
    (is_t ∙ ap (λ i. get_or trees i t) next.place_is) below.1 so
    (ap (λ i. f (get_or heads i dh, t, x)) (sym next.place_is) ∙ is))

pub next_err : {A B : Type 0} (f : Head × AskedTree × A → Result B BindFault) (heads : List Head)
    (trees : List AskedTree) (xs done : List A) (list : List B)
    (dh : Head) (t : AskedTree) (x : A) (e : BindFault) (place : ℕ) → AreParts heads trees xs → IsNext heads xs done
    x place → t ≡ get_or trees place t
    → Resolves f (parts_with heads trees xs) (length done) list → f (get_or heads place dh, t, x) ≡ Err e
    → all_of f (parts_with heads trees xs) ≡ Err e
next_err f heads trees xs done list dh t x e place are next is_t so is =
    let below = next_below heads trees xs done x place are next in
    part_err f heads trees xs (length done) list dh t x e are below.0 (is_t ∙ ap (λ i. get_or trees i t) next.place_is) below.1 so
    (ap (λ i. f (get_or heads i dh, t, x)) (sym next.place_is) ∙ is)

pub next_all : {A B : Type 0} (f : Head × AskedTree × A → Result B BindFault) (heads : List Head)
    (trees : List AskedTree) (xs done rest : List A) (list : List B)
    → AreParts heads trees xs → done ++ rest ≡ xs → length rest ≡ 0 → Resolves f (parts_with heads trees xs)
    (length done) list → all_of f (parts_with heads trees xs) ≡ Ok list
next_all f heads trees xs done rest list are whole none so =
    part_all f heads trees xs (length done) list are
    (omega (arith, are.xs_many, ap length whole, length-append done rest, none)) so

-- what holds of each part holds of the next
pub next_holds : {A : Type 0} (P : Head × AskedTree × A → Type 0) (heads : List Head) (trees : List AskedTree)
    (xs done : List A) (dh : Head) (t : AskedTree) (x : A) (place : ℕ)
    → AreParts heads trees xs → IsNext heads xs done x place → t ≡ get_or trees place t
    → All P (parts_with heads trees xs) → P (get_or heads place dh, t, x)
next_holds {A} P heads trees xs done dh t x place are next is_t all =
    let d : Head × AskedTree × A = (dh, t, x) in
    let below = next_below heads trees xs done x place are next in
    let many : length (parts_with heads trees xs) ≡ length heads = parts_length heads trees xs are.trees_many are.xs_many in
    let at : get_or (parts_with heads trees xs) (length done) d ≡ (get_or heads (length done) dh, t, x) =
    part_at heads trees xs (length done) dh t x d below.0 (omega (arith, below.0, are.trees_many))
    (omega (arith, below.0, are.xs_many)) (is_t ∙ ap (λ i. get_or trees i t) next.place_is) below.1 in
    let here : P (get_or heads (length done) dh, t, x) = subst P at (all (length done) d (omega (arith, below.0, many))) in
    subst (λ i. P (get_or heads i dh, t, x)) (sym next.place_is) here

-- a fact of each answer, from one of each part
pub each_part : {A B : Type 0} (P : Head × AskedTree × A → Type 0) (Q : Head × AskedTree × B → Type 0)
    (f : Head × AskedTree × A → Result B BindFault)
    → ((h : Head) (t : AskedTree) (x : A) (y : B) → P (h, t, x) → f (h, t, x) ≡ Ok y → Q (h, t, y))
    → (heads : List Head) (trees : List AskedTree) (xs : List A) (ys : List B) → All P (parts_with heads trees xs)
    → all_of f (parts_with heads trees xs) ≡ Ok ys → All Q (parts_with heads trees ys)
each_part P Q f each [] trees xs ys all is = All-nil Q
each_part P Q f each (h ∷ heads) [] xs ys all is = All-nil Q
each_part P Q f each (h ∷ heads) (t ∷ trees) [] ys all is =
    let none : ys ≡ [] = cc in All-same Q _ _ (ap (parts_with (h ∷ heads) (t ∷ trees)) none) (All-nil Q)
each_part P Q f each (h ∷ heads) (t ∷ trees) (x ∷ xs) ys all is =
    let found = first_ok f (h, t, x) (parts_with heads trees xs) ys is in
    All-same Q _ _ (ap (parts_with (h ∷ heads) (t ∷ trees)) found.4)
    (All-cons Q (h, t, found.0) (parts_with heads trees found.1) (each h t x found.0 (All-head P _ _ all) found.2)
    (each_part P Q f each heads trees xs found.1 (All-tail P _ _ all) found.3))

-- there are as many answers as parts
pub answers_length : {A B : Type 0} (f : Head × AskedTree × A → Result B BindFault) (heads : List Head)
    (trees : List AskedTree) (xs : List A) (ys : List B)
    → length trees ≡ length heads → length xs ≡ length heads → all_of f (parts_with heads trees xs) ≡ Ok ys
    → length ys ≡ length heads
answers_length f heads trees xs ys as_trees as_xs is = all_of-length f (parts_with heads trees xs) ys is
    ∙ parts_length heads trees xs as_trees as_xs
