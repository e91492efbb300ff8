-- How the pairs of an `order` statement are resolved and added one after another.
use Rattle.std.proofs.Common.{◌≡◌, ℕ, zero, suc, ◌+◌, ◌<◌, ◌≤◌, List, [], ◌∷◌, ◌++◌, length, get_or, take, drop, set, map, Some, Result, Ok, Err, refl, sym, ap, ◌∙◌, append_assoc, arith, All, IfSome, slice_get}
use Rattle.std.specs.BTreeSet.{insert_key}
use Rattle.std.proofs.lemmas.List.{append-nil, at_drop_more, at_drop_all, set-set, set-get_or, length-set, get_or-set_same, take_all}
use Rattle.std.proofs.lemmas.List.Elements.{All-get_or}
use Rattle.std.proofs.lemmas.List.Sums.{fold_more}
use Rattle.std.proofs.lemmas.Option.{slice_get_within, get_or_from_slice_get, slice_get-get_or, MatchOption-at_some}
use Rattle.std.proofs.Math.Seq.{map-set_same}
use Rattle.currency_base.specs.declared.pair.Pair.{Pair}
use Rattle.bind_faults.specs.Faults.{all_of, and_then}
use Rattle.bind_faults.specs.declared.fault.BindFault.{BindFault}
use Rattle.partial_orders.specs.Pairs.{pair_cmp}
use Rattle.denial_rules.specs.declared.rule.Rule.{Rule}
use Rattle.spec_model.specs.Spec.{Spec}
use Rattle.spec_model.specs.declared.relation.Relation.{Relation}
use Rattle.spec_model.specs.Facts.{IsGivenPair, AddsGiven, with_given}
use Rattle.spec_names.specs.Names.{names_of, all_names_of}
use Rattle.order_bind.specs.Orders.{AddsAllGiven, with_all_given}

-- items in front of what a list gives
abbrev pub with_front : {A : Type 0} → List A → Result (List A) BindFault → Result (List A) BindFault
with_front xs r = and_then r (λ ys. Ok (xs ++ ys))

-- an item in front of what a list gives
abbrev pub with_one : {A : Type 0} → A → Result (List A) BindFault → Result (List A) BindFault
with_one x r = and_then r (λ ys. Ok (x ∷ ys))

with_front-one : {A : Type 0} (xs : List A) (x : A) (r : Result (List A) BindFault) → with_front xs (with_one x r) ≡
    with_front (xs ++ x ∷ []) r
with_front-one xs x (Ok ys) = ap Ok (sym (append_assoc xs (x ∷ []) ys))
with_front-one xs x (Err e) = refl

pub all_of-at_ok : {X A : Type 0} (f : X → Result A BindFault) (n : X) (x : A) (rest : List X) → f n ≡ Ok x
    → all_of f (n ∷ rest) ≡ with_one x (all_of f rest)
all_of-at_ok f n x rest is = ap (λ s. and_then s (λ y. with_one y (all_of f rest))) is

pub all_of-at_err : {X A : Type 0} (f : X → Result A BindFault) (n : X) (e : BindFault) (rest : List X) → f n ≡ Err e
    → all_of f (n ∷ rest) ≡ Err e
all_of-at_err f n e rest is = ap (λ s. and_then s (λ y. with_one y (all_of f rest))) is

-- what a loop that reads the answers of a list one after another keeps
pub record Resolves {X A : Type 0} (f : X → Result A BindFault) (xs : List X) (i : ℕ) (list : List A) : Type 0 where
  pub rest : with_front list (all_of f (drop i xs)) ≡ all_of f xs

pub with_front-none : {A : Type 0} (r : Result (List A) BindFault) → with_front [] r ≡ r
with_front-none (Ok ys) = refl
with_front-none (Err e) = refl

pub resolves_none : {X A : Type 0} (f : X → Result A BindFault) (xs : List X) → Resolves f xs 0 []
resolves_none f xs = record { rest = with_front-none (all_of f xs) }

pub resolves_more : {X A : Type 0} (f : X → Result A BindFault) (xs : List X) (i : ℕ) (list : List A) (d : X) (x : A)
    → Resolves f xs i list → i < length xs → f (get_or xs i d) ≡ Ok x → Resolves f xs (i + 1) (list ++ x ∷ [])
resolves_more f xs i list d x so lt is = record {
  rest =
      sym (with_front-one list x (all_of f (drop (i + 1) xs)))
      ∙ sym (ap (with_front list) (all_of-at_ok f (get_or xs i d) x (drop (i + 1) xs) is))
      ∙ sym (at_drop_more (λ ys. with_front list (all_of f ys)) xs i d lt)
      ∙ so.rest;
}

pub resolves_all : {X A : Type 0} (f : X → Result A BindFault) (xs : List X) (i : ℕ) (list : List A)
    → Resolves f xs i list → length xs ≤ i → all_of f xs ≡ Ok list
resolves_all f xs i list so le =
    sym so.rest ∙ at_drop_all (λ ys. with_front list (all_of f ys)) xs i le ∙ ap Ok (append-nil list)

pub resolves_err : {X A : Type 0} (f : X → Result A BindFault) (xs : List X) (i : ℕ) (list : List A) (d : X) (e : BindFault)
    → Resolves f xs i list → i < length xs → f (get_or xs i d) ≡ Err e → all_of f xs ≡ Err e
resolves_err f xs i list d e so lt is =
    sym so.rest
    ∙ at_drop_more (λ ys. with_front list (all_of f ys)) xs i d lt
    ∙ ap (with_front list) (all_of-at_err f (get_or xs i d) e (drop (i + 1) xs) is)

-- no pair is added
pub adds_none : (old : List Relation) (rel : ℕ) (pairs : List Pair) → AddsAllGiven old old rel (take 0 pairs)
adds_none old rel pairs r is =
    sym (set-get_or old rel r) ∙ ap (set old rel) (get_or_from_slice_get old rel r r is)

-- the relation to which some were added
added_there : (old new : List Relation) (rel : ℕ) (pairs : List Pair) (r : Relation) → AddsAllGiven old new rel pairs
    → slice_get old rel ≡ Some r → slice_get new rel ≡ Some (with_all_given r pairs)
added_there old new rel pairs r adds is =
    let lt : rel < length old = slice_get_within old rel r is in
    let lt_set : rel < length (set old rel (with_all_given r pairs)) =
    omega (arith, length-set old rel (with_all_given r pairs)) in
    ap (λ rs. slice_get rs rel) (adds r is)
    ∙ slice_get-get_or (set old rel (with_all_given r pairs)) rel r lt_set
    ∙ ap Some (get_or-set_same old rel (with_all_given r pairs) r lt)

-- one more pair is added
pub adds_more : (old mid new : List Relation) (rel : ℕ) (pairs : List Pair) (i : ℕ) (d : Pair)
    → AddsAllGiven old mid rel (take i pairs) → AddsGiven mid new rel (get_or pairs i d) → i < length pairs
    → AddsAllGiven old new rel (take (i + 1) pairs)
adds_more old mid new rel pairs i d so adds lt r is =
    let before : Relation = with_all_given r (take i pairs) in
    let more = fold_more (insert_key pair_cmp) r.given pairs i d lt in
    adds before (added_there old mid rel (take i pairs) r so is)
    ∙ ap (λ rs. set rs rel (with_given before (get_or pairs i d))) (so r is)
    ∙ set-set old rel before (with_given before (get_or pairs i d))
    ∙ ap (λ (given : List Pair). let s : Relation = record r { given = given } in set old rel s) (sym more)

-- all pairs are added
pub adds_all : (old new : List Relation) (rel : ℕ) (pairs : List Pair) (i : ℕ) → AddsAllGiven old new rel (take i pairs)
    → length pairs ≤ i → AddsAllGiven old new rel pairs
adds_all old new rel pairs i adds le r is = adds r is ∙ ap (λ ps. set old rel (with_all_given r ps)) (take_all i pairs le)

-- an item that is there, of a place within a list
pub item_at : {X : Type 0} (xs : List X) (i : ℕ) → i < length xs → (x : X) × (slice_get xs i ≡ Some x)
item_at [] i lt = absurd (omega arith)
item_at (x ∷ xs) zero lt = (x, refl)
item_at (x ∷ xs) (suc i) lt = item_at xs i (omega arith)

-- how many relations there are stays
pub adds_length : (old new : List Relation) (rel : ℕ) (pairs : List Pair) → AddsAllGiven old new rel pairs
    → rel < length old → length new ≡ length old
adds_length old new rel pairs adds lt =
    let at = item_at old rel lt in
    ap length (adds at.0 at.1) ∙ length-set old rel (with_all_given at.0 pairs)

-- the names stay
pub adds_names : (old new : Spec) (rel : ℕ) (pairs : List Pair) → AddsAllGiven old.relations new.relations rel pairs
    → new.rules ≡ old.rules
    → new.copies ≡ old.copies → rel < length old.relations → all_names_of new ≡ all_names_of old
adds_names old new rel pairs adds rules copies lt =
    let at = item_at old.relations rel lt in
    let r = at.0 in
    let here : get_or old.relations rel r ≡ r = get_or_from_slice_get old.relations rel r r at.1 in
    let of_relations : map (λ (s : Relation). s.name) new.relations ≡ map (λ (s : Relation). s.name) old.relations =
    ap (map (λ (s : Relation). s.name)) (adds r at.1)
    ∙ map-set_same (λ (s : Relation). s.name) old.relations rel (with_all_given r pairs) r
    (ap (λ (s : Relation). s.name) (sym here)) in
    let of_parts : map names_of new.relations ≡ map names_of old.relations =
    ap (map names_of) (adds r at.1) ∙ map-set_same names_of old.relations rel (with_all_given r pairs) r
    (ap names_of (sym here)) in
    let of_rules : map (λ (rule : Rule). rule.name) new.rules ≡ map (λ (rule : Rule). rule.name) old.rules =
    ap (map (λ (rule : Rule). rule.name)) rules in
    let of_copies : map (λ copy. copy.name) new.copies ≡ map (λ copy. copy.name) old.copies = rw copies refl in
    cc (of_relations, of_parts, of_rules, of_copies)

-- a pair that fits the relation fits it with more given pairs
given_still : (r : Relation) (given : List Pair) (p : Pair) → IsGivenPair r p → IsGivenPair (record r { given = given }) p
given_still r given p fits =
    record { attr = fits.attr; earlier = fits.earlier; later = fits.later; one_entity = fits.one_entity }

-- the next pair may be added
pub next_fits : (old mid : List Relation) (rel : ℕ) (pairs : List Pair) (i : ℕ) (d : Pair)
    → AddsAllGiven old mid rel (take i pairs) → rel < length old
    → IfSome (slice_get old rel) (λ r. All (IsGivenPair r) pairs) → i < length pairs
    → IfSome (slice_get mid rel) (λ r. IsGivenPair r (get_or pairs i d))
next_fits old mid rel pairs i d so lt fit within =
    let at = item_at old rel lt in
    let r = at.0 in
    let all : All (IsGivenPair r) pairs = MatchOption-at_some _ (λ s. All (IsGivenPair s) pairs) r at.1 fit in
    let one : IsGivenPair r (get_or pairs i d) = All-get_or (IsGivenPair r) pairs i d within all in
    rw (added_there old mid rel (take i pairs) r so at.1) (given_still r _ (get_or pairs i d) one)
