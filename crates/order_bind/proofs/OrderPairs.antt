-- What the pairs that an `order` statement says are: of rows of the relation, and of one entity each.
use Rattle.std.proofs.Common.{◌≡◌, ℕ, set, zero, suc, ◌<◌, ◌≤◌, Bool, true, false, not, List, [], ◌∷◌, length, get_or, map, Option, Some, None, Result, Ok, Err, refl, sym, ap, ◌∙◌, arith, All, position, slice_get, ◌⊎◌, inl, inr, IfOk, IfSome, option_map}
use Rattle.std.specs.List.{position_or_len}
use Rattle.std.proofs.lemmas.Bool.{and_parts, not-true, not-false, eq-eqb, eqb-true, false≢true, lt-ltb, cases_lt, cond-true}
use Rattle.std.proofs.lemmas.Option.{none-some, same_Some, slice_get-map, slice_get_read}
use Rattle.std.proofs.lemmas.List.{length-map}
use Rattle.std.proofs.lemmas.List.Quantifiers.{position-Some}
use Rattle.std.proofs.lemmas.List.Sums.{fails_before_first}
use Rattle.currency_base.specs.declared.error_code.ErrorCode.TheVariants.{UnknownName, UnknownRow}
use Rattle.currency_base.specs.declared.pair.Pair.{Pair}
use Rattle.currency_base.specs.declared.row.Row.{Row}
use Rattle.bind_faults.specs.Faults.{IsDue, all_of, and_then, found_or, refused_at}
use Rattle.bind_faults.proofs.Outcomes.{due_same, due_through}
use Rattle.partial_orders.specs.Pairs.{AreOfOneEntity}
use Rattle.spec_model.specs.Spec.{Spec}
use Rattle.spec_model.specs.declared.relation.Relation.{Relation}
use Rattle.spec_model.specs.Facts.{IsGivenPair}
use Rattle.spec_names.specs.NameLists.{NameLists}
use Rattle.spec_names.specs.Names.{place_of, names_of, all_names_of}
use Rattle.spec_names.specs.declared.names.RelationNames.{RelationNames}
use Rattle.spec_model.specs.declared.relation.Attr.{Attr}
use Rattle.spec_syntax.specs.declared.trees.OrderingTree.{OrderingTree}
use Rattle.text_grammar.specs.declared.named.Named.{Named}
use Rattle.text_grammar.specs.declared.named.NamedPair.{NamedPair}
use Rattle.order_bind.specs.Orders.{pair_of, pair_named, is_one, is_of_one_entity, checked_pairs, unless_wrong, ordered_pairs, ordered, ordered_at, giving_pairs, with_all_given, Steps}
use Rattle.bind_faults.specs.declared.fault.BindFault.{BindFault}
use Rattle.bind_faults.specs.declared.fault.BindFault.TheVariants.{Refused, CopyDiffers, Limit, ReadFault, NoMemory}
use Rattle.order_bind.proofs.OrderLemmas.{with_one}

-- a name that is found stands at that place
pub found_place : (p : Option ℕ) (fault : BindFault) (place : ℕ) → found_or p fault Ok ≡ Ok place → p ≡ Some place
found_place None fault place is = cc
found_place (Some q) fault place is = cc

-- the refusal of a name that is not found, whatever comes next
pub found_fault : {A : Type 0} (p : Option ℕ) (fault e : BindFault) (next : ℕ → Result A BindFault)
    → ◌≡◌ {A = Result ℕ BindFault} (found_or p fault Ok) (Err e)
    → found_or p fault next ≡ Err e
found_fault None fault e next is = cc
found_fault (Some q) fault e next is = cc

-- the place of a name lies within the names
pub place_within : (names : List (List ℕ)) (name : List ℕ) (place : ℕ) → place_of names name ≡ Some place → place < length names
place_within names name place is = (position-Some _ names place [] is).0

-- a list with one more answer in front
pub with_one-ok : {A : Type 0} (x : A) (r : Result (List A) BindFault) (xs : List A) → with_one x r ≡ Ok xs
    → (ys : List A) × (r ≡ Ok ys) × (xs ≡ x ∷ ys)
with_one-ok x (Ok ys) xs is = (ys, refl, cc)
with_one-ok x (Err e) xs is = cc

-- the first answer and the others of a list that has only such
pub first_ok : {X A : Type 0} (f : X → Result A BindFault) (n : X) (ns : List X) (xs : List A) → all_of f (n ∷ ns) ≡ Ok xs
    → (x : A) × (ys : List A) × (f n ≡ Ok x) × (all_of f ns ≡ Ok ys) × (xs ≡ x ∷ ys)
first_ok {X} {A} f n ns xs is = by (f n) refl is
  where
    by : (r : Result A BindFault) → f n ≡ r → and_then r (λ y. with_one y (all_of f ns)) ≡ Ok xs
        → (x : A) × (ys : List A) × (f n ≡ Ok x) × (all_of f ns ≡ Ok ys) × (xs ≡ x ∷ ys)
    by (Err e) at now = absurd (cc)
    by (Ok x) at now = let parts = with_one-ok x (all_of f ns) xs now in (x, parts.0, at, parts.1, parts.2)

-- a fact of each of its answers
pub each_ok : {X A : Type 0} (P : A → Type 0) (f : X → Result A BindFault) → ((n : X) (x : A) → f n ≡ Ok x → P x)
    → (ns : List X) (xs : List A) → all_of f ns ≡ Ok xs → (k : ℕ) (d : A) → k < length xs → P (get_or xs k d)
each_ok P f each [] xs is k d lt = let same : [] ≡ xs = cc in absurd (omega (arith, ap length same))
each_ok {X} {A} P f each (n ∷ ns) xs is k d lt =
    let parts = first_ok f n ns xs is in
    let there : k < length (parts.0 ∷ parts.1) = omega (arith, lt, ap length parts.4) in
    rw parts.4 (here (λ ys rest j lt'. each_ok P f each ns ys rest j d lt') parts.0 parts.1 (each n parts.0 parts.2)
    parts.3 k there)
  where
    here : ((ys : List A) → all_of f ns ≡ Ok ys → (j : ℕ) → j < length ys → P (get_or ys j d))
        → (x : A) (ys : List A) → P x → all_of f ns ≡ Ok ys → (j : ℕ) → j < length (x ∷ ys) → P (get_or (x ∷ ys) j d)
    here more x ys px rest zero lt' = px
    here more x ys px rest (suc j) lt' = more ys rest j (omega arith)

-- there are as many answers
pub all_of-length : {X A : Type 0} (f : X → Result A BindFault) (ns : List X) (xs : List A) → all_of f ns ≡ Ok xs
    → length xs ≡ length ns
all_of-length f [] xs is = ap length (let same : xs ≡ [] = cc in same)
all_of-length f (n ∷ ns) xs is =
    let parts = first_ok f n ns xs is in
    ap length parts.4 ∙ ap suc (all_of-length f ns parts.1 parts.3)

-- a pair of one attribute, of rows of some count
pub record IsWithin (attr count : ℕ) (p : Pair) : Type 0 where
  pub attr_is : p.attr.0 ≡ attr
  pub earlier : p.earlier.0 < count
  pub later : p.later.0 < count

pair_of-within : (rows : List (List ℕ)) (attr : ℕ) (first second : Named) (a b : Option ℕ) (p : Pair)
    → place_of rows first.name ≡ a → place_of rows second.name ≡ b
    → pair_of attr (found_or a (refused_at UnknownRow first) Ok) (found_or b (refused_at UnknownRow second) Ok) ≡ Ok p
    → IsWithin attr (length rows) p
pair_of-within rows attr first second None b p at_a at_b is = absurd (cc)
pair_of-within rows attr first second (Some a) None p at_a at_b is = absurd (cc)
pair_of-within rows attr first second (Some a) (Some b) p at_a at_b is =
    let made : Pair = record { attr = record { 0 = attr }; earlier = record { 0 = a }; later = record { 0 = b } } in
    let same : made ≡ p = cc in
    let low : a < length rows = place_within rows first.name a at_a in
    let high : b < length rows = place_within rows second.name b at_b in
    let it : IsWithin attr (length rows) made = record { attr_is = refl; earlier = low; later = high } in
    rw (sym same) it

pub pair_named-within : (rows : List (List ℕ)) (attr : ℕ) (n : NamedPair) (p : Pair) → pair_named rows attr n ≡ Ok p
    → IsWithin attr (length rows) p
pair_named-within rows attr n p is = pair_of-within rows attr n.first n.second _ _ p refl refl is

-- no item passes a test that has no place
pub position_none : {X : Type 0} (p : X → Bool) (xs : List X) → position p xs ≡ None → (k : ℕ) (d : X) → k < length xs
    → p (get_or xs k d) ≡ false
position_none p xs none k d lt = fails_before_first p xs k d (past (cases_lt (position_or_len p xs) (length xs)))
  where
    past : (position_or_len p xs < length xs) ⊎ (length xs ≤ position_or_len p xs) → k < position_or_len p xs
    past (inl below) = absurd (none-some _ (sym none ∙ cond-true _ _ _ (lt-ltb _ _ below)))
    past (inr above) = omega arith

is_one-same : (a b : Option ℕ) → is_one a b ≡ true → a ≡ b
is_one-same None b is = absurd (false≢true is)
is_one-same (Some a) None is = absurd (false≢true is)
is_one-same (Some a) (Some b) is = ap Some (eqb-true a b is)

-- what the test of a pair means
pub one_entity : (rows : List Row) (p : Pair) → is_of_one_entity rows p ≡ true → AreOfOneEntity rows p
one_entity rows p is =
    let parts = and_parts _ _ is in
    (λ same. absurd (false≢true (sym (not-true _ parts.0) ∙ eq-eqb _ _ (ap (λ r. r.0) same))), is_one-same _ _ parts.1)

-- the pairs of rows that have names, once each is checked, may be given
pub all_given : (r : Relation) (named : List NamedPair) (attr : ℕ) (pairs : List Pair) → attr < length r.attrs
    → all_of (pair_named (map (λ row. row.name) r.rows) attr) named ≡ Ok pairs
    → position (λ p. not (is_of_one_entity r.rows p)) pairs ≡ None → All (IsGivenPair r) pairs
all_given r named attr pairs lt is none k d within =
    let rows : List (List ℕ) = map (λ (row : Row). row.name) r.rows in
    let it : IsWithin attr (length rows) (get_or pairs k d) =
    each_ok (IsWithin attr (length rows)) (pair_named rows attr) (pair_named-within rows attr) named pairs is k d within in
    let count : length rows ≡ length r.rows = length-map r.rows (λ (row : Row). row.name) in
    let right = one_entity r.rows (get_or pairs k d) (not-false _ (position_none _ pairs none k d within)) in
    record {
      attr = omega (arith, it.attr_is);
      earlier = omega (arith, it.earlier);
      later = omega (arith, it.later);
      one_entity = right;
    }

-- what is left of a step whose fault is handed on
pub steps_through : {A : Type 0} (new : List Relation) (first : Result A BindFault)
    (due : Result (List Relation) BindFault) (e : BindFault)
    → IsDue first (Err e) → (first ≡ Err e → due ≡ Err e) → Steps new due (Err e)
steps_through new first due (Refused refusal) is on = on is
steps_through new first due (CopyDiffers document line target source) is on = on is
steps_through new first due (Limit k) is on = on is
steps_through new first due (ReadFault name) is on = on is
steps_through new first due NoMemory is on = tt

-- an unknown attribute
pub attr_fault : (names : RelationNames) (r : Relation) (o : OrderingTree) (e : BindFault) → names ≡ names_of r
    → ◌≡◌ {A = Result ℕ BindFault} (Err e) (found_or (place_of names.attrs o.attr.name) (refused_at UnknownName o.attr) Ok)
    → ordered_pairs r o ≡ Err e
unfolding ordered_pairs
attr_fault names r o e same is =
    found_fault (place_of (map (λ (a : Attr). a.name) r.attrs) o.attr.name) (refused_at UnknownName o.attr) e _
    (sym (rw same at is))

-- what is due once the attribute is found
pub attr_found : (names : RelationNames) (r : Relation) (o : OrderingTree) (attr : ℕ) → names ≡ names_of r
    → ◌≡◌ {A = Result ℕ BindFault} (Ok attr) (found_or (place_of names.attrs o.attr.name) (refused_at UnknownName o.attr) Ok)
    → ordered_pairs r o ≡ checked_pairs r.rows o.pairs (all_of (pair_named names.rows attr) o.pairs)
unfolding ordered_pairs
attr_found names r o attr same is =
    let at : place_of (map (λ (a : Attr). a.name) r.attrs) o.attr.name ≡ Some attr =
    found_place _ (refused_at UnknownName o.attr) attr (sym (rw same at is)) in
    ap (λ p. found_or p (refused_at UnknownName o.attr)
    (λ k. checked_pairs r.rows o.pairs (all_of (pair_named (map (λ (row : Row). row.name) r.rows) k) o.pairs))) at
    ∙ ap (λ n. checked_pairs r.rows o.pairs (all_of (pair_named n attr) o.pairs)) (ap (λ (n : RelationNames). n.rows) (sym same))

-- a name of a row that is not found, or want of memory
pub row_fault : (names : RelationNames) (r : Relation) (o : OrderingTree) (attr : ℕ) (named : List NamedPair) (e : BindFault)
    → names ≡ names_of r → named ≡ o.pairs
    → ◌≡◌ {A = Result ℕ BindFault} (Ok attr) (found_or (place_of names.attrs o.attr.name) (refused_at UnknownName o.attr) Ok)
    → IsDue (all_of (pair_named names.rows attr) named) (Err e) → IsDue (ordered_pairs r o) (Err e)
row_fault names r o attr named e same is_named at due =
    due_through (all_of (pair_named names.rows attr) named) (ordered_pairs r o) e due
    (λ is. attr_found names r o attr same at
    ∙ ap (λ n. checked_pairs r.rows o.pairs (all_of (pair_named names.rows attr) n)) (sym is_named)
    ∙ ap (checked_pairs r.rows o.pairs) is)

-- the pairs that are read of an ordering are those that are due, and may be given
pub record IsRead (r : Relation) (o : OrderingTree) (result : Result (List Pair) BindFault) : Type 0 where
  pub due : IsDue (ordered_pairs r o) result
  pub given : IfOk result (All (IsGivenPair r))

given_unless : (r : Relation) (named : List NamedPair) (attr : ℕ) (pairs : List Pair) (wrong : Option ℕ) → attr < length r.attrs
    → all_of (pair_named (map (λ row. row.name) r.rows) attr) named ≡ Ok pairs
    → position (λ p. not (is_of_one_entity r.rows p)) pairs ≡ wrong → IfOk (unless_wrong named pairs wrong) (All (IsGivenPair r))
given_unless r named attr pairs None lt is none = all_given r named attr pairs lt is none
given_unless r named attr pairs (Some wrong) lt is found = tt

pub pairs_read : (names : RelationNames) (r : Relation) (o : OrderingTree) (attr : ℕ) (named : List NamedPair) (rows : List Row)
    (pairs : List Pair) (result : Result (List Pair) BindFault) → names ≡ names_of r → named ≡ o.pairs → rows ≡ r.rows
    → ◌≡◌ {A = Result ℕ BindFault} (Ok attr) (found_or (place_of names.attrs o.attr.name) (refused_at UnknownName o.attr) Ok)
    → attr < length names.attrs → all_of (pair_named names.rows attr) named ≡ Ok pairs
    → result ≡ checked_pairs rows named (Ok pairs) → IsRead r o result
pairs_read names r o attr named rows pairs result same is_named is_rows at lt is res =
    let is' : all_of (pair_named names.rows attr) o.pairs ≡ Ok pairs = rw (sym is_named) is in
    let res' : result ≡ checked_pairs r.rows o.pairs (Ok pairs) = res ∙ ap (λ n. checked_pairs rows n (Ok pairs))
    is_named ∙ ap (λ w. checked_pairs w o.pairs (Ok pairs)) is_rows in
    let few : attr < length r.attrs = omega (
      arith,
      lt,
      ap (λ (n : RelationNames). length n.attrs) same,
      length-map r.attrs (λ (a : Attr). a.name),
    ) in
    let here : all_of (pair_named (map (λ (row : Row). row.name) r.rows) attr) o.pairs ≡ Ok pairs =
    ap (λ (n : RelationNames). all_of (pair_named n.rows attr) o.pairs) (sym same) ∙ is' in
    record {
      due = due_same (ordered_pairs r o) result (attr_found names r o attr same at
          ∙ ap (checked_pairs r.rows o.pairs) is' ∙ sym res');
      given = rw res' (given_unless r o.pairs attr pairs _ few here refl);
    }

-- an unknown relation
pub relation_fault : (names : NameLists) (list : List (List ℕ)) (done : Spec) (o : OrderingTree) (e : BindFault)
    → names ≡ all_names_of done → list ≡ names.relations
    → ◌≡◌ {A = Result ℕ BindFault} (Err e) (found_or (place_of list o.relation.name) (refused_at UnknownName o.relation) Ok)
    → ordered done.relations o ≡ Err e
unfolding ordered
relation_fault names list done o e same listed is =
    let known : list ≡ map (λ (r : Relation). r.name) done.relations = listed ∙ ap (λ (n : NameLists). n.relations) same in
    found_fault (place_of (map (λ (r : Relation). r.name) done.relations) o.relation.name)
    (refused_at UnknownName o.relation) e _ (sym (rw known at is))

-- what is due once the relation is found
pub relation_found : (names : NameLists) (list : List (List ℕ)) (done : Spec) (o : OrderingTree) (rel : ℕ) (r : Relation)
    → names ≡ all_names_of done → list ≡ names.relations
    → ◌≡◌ {A = Result ℕ BindFault} (Ok rel) (found_or (place_of list o.relation.name) (refused_at UnknownName o.relation) Ok)
    → slice_get done.relations rel ≡ Some r → ordered done.relations o ≡ giving_pairs done.relations rel r (ordered_pairs r o)
unfolding ordered
relation_found names list done o rel r same listed is here =
    let known : list ≡ map (λ (s : Relation). s.name) done.relations = listed ∙ ap (λ (n : NameLists). n.relations) same in
    let at : place_of (map (λ (s : Relation). s.name) done.relations) o.relation.name ≡ Some rel =
    found_place _ (refused_at UnknownName o.relation) rel (sym (rw known at is)) in
    ap (λ p. found_or p (refused_at UnknownName o.relation) (λ k. ordered_at done.relations o k (slice_get done.relations k))) at
    ∙ ap (ordered_at done.relations o rel) here

-- the names of the parts of a relation
pub parts_of : (names : NameLists) (done : Spec) (rel : ℕ) (r : Relation) (parts : RelationNames) → names ≡ all_names_of done
    → slice_get names.each rel ≡ Some parts → slice_get done.relations rel ≡ Some r → parts ≡ names_of r
parts_of names done rel r parts same is here =
    same_Some _ _ (sym is ∙ ap (λ (n : NameLists). slice_get n.each rel) same ∙ slice_get-map names_of done.relations
    rel ∙ ap (option_map names_of) here)

-- what an ordering leaves where it is refused
pub steps_same : (new : List Relation) (due : Result (List Relation) BindFault) (e : BindFault) → due ≡ Err e
    → Steps new due (Err e)
steps_same new due e is = steps_through new due due e (due_same due (Err e) is) (λ same. same)

-- pairs that may be given to a relation, at its place
pub fits_there : (done : List Relation) (rel : ℕ) (r : Relation) (given pairs : List Pair) → slice_get done rel ≡
    Some r → given ≡ pairs
    → All (IsGivenPair r) pairs → IfSome (slice_get done rel) (λ s. All (IsGivenPair s) given)
fits_there done rel r given pairs here same all = rw (here, same) all

-- the relation that stands at the place of a name
pub relation_there : (names : NameLists) (list : List (List ℕ)) (done : Spec) (rel : ℕ) (relations : List Relation) (r : Relation)
    → names ≡ all_names_of done → list ≡ names.relations → rel < length list → relations ≡ done.relations
    → r ≡ get_or relations rel r
    → slice_get done.relations rel ≡ Some r
relation_there names list done rel relations r same listed within are is =
    let known : list ≡ map (λ (s : Relation). s.name) done.relations = listed ∙ ap (λ (n : NameLists). n.relations) same in
    let lt : rel < length done.relations = omega (
      arith,
      ap length known,
      length-map done.relations
          (λ (s : Relation). s.name),
      within,
    ) in
    slice_get_read done.relations (length done.relations) rel r refl lt (is ∙ ap (λ s. get_or s rel r) are)

-- what is due where all pairs are added
pub given_all : (done new : List Relation) (rel : ℕ) (r : Relation) (due : Result (List Pair) BindFault) (pairs given : List Pair)
    → due ≡ Ok pairs → given ≡ pairs → new ≡ set done rel (with_all_given r given) → giving_pairs done rel r due ≡ Ok new
given_all done new rel r due pairs given is same added =
    ap (giving_pairs done rel r) is ∙ ap (λ ps. Ok (set done rel (with_all_given r ps))) (sym same) ∙ ap Ok (sym added)
