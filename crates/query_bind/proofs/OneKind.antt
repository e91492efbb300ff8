-- The one kind of each variable, where nothing is of two kinds.
use Rattle.std.proofs.Common.{◌≡◌, ◌∙◌, ◌+◌, ℕ, Bool, true, false, List, length, Option, Some, None, slice_get, inl, inr, refl, sym, ap, ap₂, arith}
use Rattle.std.specs.Prelude.{if◌then◌else◌, ◌==◌}
use Rattle.std.proofs.lemmas.Bool.{eqb-true}
use Rattle.std.proofs.lemmas.List.{length-map}
use Rattle.std.proofs.lemmas.Option.{none-some, slice_get_cases, slice_get_within}
use Rattle.std.specs.Str.{bytes_eq}
use Rattle.currency_base.specs.declared.error_code.ErrorCode.TheVariants.{Mismatch}
use Rattle.currency_base.specs.declared.value.ValueKind.{ValueKind}
use Rattle.currency_base.specs.declared.value.ValueKind.TheVariants.{Text, Int}
use Rattle.text_grammar.specs.declared.named.Named.{Named}
use Rattle.query_syntax.specs.declared.trees.DisjunctTree.{DisjunctTree}
use Rattle.query_syntax.specs.declared.trees.AtomTree.{AtomTree}
use Rattle.query_syntax.specs.declared.trees.PartTree.{PartTree}
use Rattle.query_syntax.specs.declared.trees.PartTree.TheVariants as part
use Rattle.query_syntax.specs.declared.trees.PlaceTree.{PlaceTree}
use Rattle.query_syntax.specs.declared.trees.PlaceTree.TheVariants as place
use Rattle.bind_faults.specs.Faults.{first_of, refused_at}
use Rattle.bind_faults.specs.declared.fault.BindFault.TheVariants.{Refused}
use Rattle.spec_model.specs.declared.relation.Attr.{Attr}
use Rattle.spec_model.specs.declared.relation.Relation.{Relation}
use Rattle.spec_model.specs.Queries.{place_kinds}
use Rattle.query_bind.specs.Queried.{all_parts, atom_mismatch, clash, differ, first_at, first_some, kind_by, kind_in, kind_in_part, kind_in_places, part_mismatch, place_mismatch, relation_of}
use Rattle.query_bind.proofs.Lists.{IsIn, if_none, neither, none_from, none_of, none_some, some_from, some_in}
use Rattle.query_bind.proofs.Names.{own_bytes, same_bytes}

-- ---- where a kind comes from

-- a place of an atom of a relation gives a variable of this name the kind
pub record GivesKind (names : List (List ℕ)) (relations : List Relation) (parts : List PartTree) (name : List ℕ)
    (kind : ValueKind) : Type 0 where
  pub atom : AtomTree
  pub among : IsIn (part.Atom atom) parts
  pub relation : Relation
  pub is_relation : relation_of names relations atom.relation ≡ Some relation
  pub at : ℕ
  pub named : Named
  pub is_place : slice_get atom.places at ≡ Some (place.Var named)
  pub is_name : named.name ≡ name
  pub has : slice_get (place_kinds relation) at ≡ Some kind

by_var : (r : Relation) (name : List ℕ) (k : ℕ) (p : PlaceTree) (kind : ValueKind) → kind_by r name k p ≡ Some kind
    → (named : Named) × (p ≡ place.Var named) × (named.name ≡ name) × (slice_get (place_kinds r) k ≡ Some kind)
by_var r name k (place.Var named) kind is = by (bytes_eq name named.name) refl is
  where
    by : (b : Bool) → bytes_eq name named.name ≡ b → (if b then slice_get (place_kinds r) k else None) ≡ Some kind
        → (n : Named) × (place.Var named ≡ place.Var n) × (n.name ≡ name) × (slice_get (place_kinds r) k ≡ Some kind)
    by true same has = (named, refl, sym (same_bytes name named.name same), has)
    by false same has = absurd (cc)
by_var r name k (place.Any line) kind is = absurd (cc)
by_var r name k (place.Constant constant) kind is = absurd (cc)

pub kind_found : (names : List (List ℕ)) (relations : List Relation) (parts : List PartTree) (name : List ℕ) (kind : ValueKind)
    → first_some (kind_in_part names relations name) parts ≡ Some kind → GivesKind names relations parts name kind
kind_found names relations parts name kind is =
    let found = some_in (kind_in_part names relations name) parts kind is in of found.0 found.1 found.2
  where
    in_relation : (atom : AtomTree) (o : Option Relation) → IsIn (part.Atom atom) parts → relation_of names relations
        atom.relation ≡ o
        → kind_in_places o name atom.places ≡ Some kind → GivesKind names relations parts name kind
    in_relation atom None among of_it here = absurd (cc)
    in_relation atom (Some r) among of_it here =
        let at = some_from (kind_by r name) atom.places kind here in
        let var = by_var r name at.0 at.1 kind at.3 in
        record {
          atom = atom;
          among = among;
          relation = r;
          is_relation = of_it;
          at = at.0;
          named = var.0;
          is_place = at.2 ∙ ap Some var.1;
          is_name = var.2;
          has = var.3;
        }

    of : (p : PartTree) → IsIn p parts → kind_in_part names relations name p ≡ Some kind → GivesKind names relations
        parts name kind
    of (part.Atom atom) among here = in_relation atom (relation_of names relations atom.relation) among refl here
    of (part.Test test) among here = absurd (cc)

-- a place with a kind gives its variable one
pub kind_there : (names : List (List ℕ)) (relations : List Relation) (parts : List PartTree) (name : List ℕ) (kind : ValueKind)
    → GivesKind names relations parts name kind
    → (k : ValueKind) × (first_some (kind_in_part names relations name) parts ≡ Some k)
kind_there names relations parts name kind g = by (first_some (kind_in_part names relations name) parts) refl
  where
    by : (o : Option ValueKind) → first_some (kind_in_part names relations name) parts ≡ o →
        (k : ValueKind) × (first_some (kind_in_part names relations name) parts ≡ Some k)
    by (Some k) is = (k, is)
    by None is =
        let in_part = none_some (kind_in_part names relations name) parts (part.Atom g.atom) is g.among in
        let in_places : first_at (kind_by g.relation name) 0 g.atom.places ≡ None =
        sym (ap (λ r. kind_in_places r name g.atom.places) g.is_relation) ∙ in_part in
        let here : kind_by g.relation name g.at (place.Var g.named) ≡ None = none_from (kind_by g.relation name)
        g.atom.places g.at (place.Var g.named) in_places g.is_place in
        let gives : kind_by g.relation name g.at (place.Var g.named) ≡ slice_get (place_kinds g.relation) g.at =
        ap (λ b. if b then slice_get (place_kinds g.relation) g.at else None) (own_bytes name g.named.name (sym g.is_name)) in
        absurd (none-some _ (sym here ∙ gives ∙ g.has))

-- ---- what is not of two kinds

one_kind : (a b : ValueKind) → differ (Some a) (Some b) ≡ false → a ≡ b
one_kind Text Text is = refl
one_kind Text Int is = absurd (cc)
one_kind Int Text is = absurd (cc)
one_kind Int Int is = refl

-- kinds that do not clash are one
pub no_clash : (line : ℕ) (a b : Option ValueKind) (k l : ValueKind) → clash line a b ≡ None → a ≡ Some k → b ≡ Some l → k ≡ l
no_clash line a b k l none is_a is_b =
    one_kind k l (sym (ap₂ differ is_a is_b) ∙ if_none (differ a b)
    (Refused record { code = Mismatch; document = None; line = line }) none)

-- no part of a disjunct is of two kinds
pub record IsAgreed (names : List (List ℕ)) (relations : List Relation) (d : DisjunctTree)
    (before : List ℕ → Option ValueKind) : Type 0 where
  pub none : first_of (part_mismatch names relations (kind_in names relations d) before) (all_parts d) ≡ None

-- an atom that is as long as its relation wants
pub record IsAgreedAtom (own before : List ℕ → Option ValueKind) (r : Relation) (atom : AtomTree) : Type 0 where
  pub as_many : length atom.places ≡ length r.attrs + 1
  pub places : (k : ℕ) (p : PlaceTree) → slice_get atom.places k ≡ Some p → place_mismatch own before r k p ≡ None

atom_agreed : (own before : List ℕ → Option ValueKind) (r : Relation) (atom : AtomTree) → atom_mismatch own before
    (Some r) atom ≡ None → IsAgreedAtom own before r atom
atom_agreed own before r atom is = by (length atom.places == length r.attrs + 1) refl is
  where
    by : (b : Bool) → (length atom.places == length r.attrs + 1) ≡ b
        → (if b then first_at (place_mismatch own before r) 0 atom.places else Some
        (refused_at Mismatch atom.relation)) ≡ None → IsAgreedAtom own before r atom
    by true same none = record {
      as_many = eqb-true (length atom.places) (length r.attrs + 1) same;
      places = λ k p at. none_from (place_mismatch own before r) atom.places k p none at;
    }
    by false same none = absurd (cc)

pub agreed_atom : (names : List (List ℕ)) (relations : List Relation) (d : DisjunctTree)
    (before : List ℕ → Option ValueKind) (atom : AtomTree) (r : Relation)
    → IsAgreed names relations d before → IsIn (part.Atom atom) (all_parts d) → relation_of names relations atom.relation ≡ Some r
    → IsAgreedAtom (kind_in names relations d) before r atom
agreed_atom names relations d before atom r agreed among is =
    atom_agreed (kind_in names relations d) before r atom
    (sym (ap (λ o. atom_mismatch (kind_in names relations d) before o atom) is)
    ∙ none_of (part_mismatch names relations (kind_in names relations d) before) (all_parts d) (part.Atom atom) agreed.none among)

-- each place has a kind
pub place_kind : (own before : List ℕ → Option ValueKind) (r : Relation) (atom : AtomTree) (k : ℕ) (p : PlaceTree)
    → IsAgreedAtom own before r atom
    → slice_get atom.places k ≡ Some p → (kind : ValueKind) × (slice_get (place_kinds r) k ≡ Some kind)
place_kind own before r atom k p agreed at = elim (slice_get_cases (place_kinds r) k).1 [
  | inl there ↦ (there.0, there.2)
  | inr past ↦ absurd (omega (
    arith,
    past,
    slice_get_within atom.places k p at,
    agreed.as_many,
    length-map r.attrs
        (λ (a : Attr). a.kind),
  ))
]

-- a variable at a place has the kind of the place in its disjunct, and in those before if it has one there
pub record HasKind (own before : List ℕ → Option ValueKind) (r : Relation) (k : ℕ) (name : List ℕ) : Type 0 where
  pub kind : ValueKind
  pub has : slice_get (place_kinds r) k ≡ Some kind
  pub is_own : own name ≡ Some kind
  pub is_before : (other : ValueKind) → before name ≡ Some other → other ≡ kind

pub var_kind : (names : List (List ℕ)) (relations : List Relation) (d : DisjunctTree) (before : List ℕ → Option ValueKind)
    (atom : AtomTree) (r : Relation) (k : ℕ) (named : Named)
    → IsAgreed names relations d before → IsIn (part.Atom atom) (all_parts d) → relation_of names relations atom.relation ≡ Some r
    → slice_get atom.places k ≡ Some (place.Var named) → HasKind (kind_in names relations d) before r k named.name
var_kind names relations d before atom r k named agreed among is at =
    let own = kind_in names relations d in
    let whole = agreed_atom names relations d before atom r agreed among is in
    let has = place_kind own before r atom k (place.Var named) whole at in
    let there = kind_there names relations (all_parts d) named.name has.0
    (record {
      atom = atom;
      among = among;
      relation = r;
      is_relation = is;
      at = k;
      named = named;
      is_place =
          at;
      is_name = refl;
      has = has.1;
    }) in
    let both = neither (clash named.line (own named.name) (slice_get (place_kinds r) k))
    (clash named.line (before named.name) (slice_get (place_kinds r) k))
    (whole.places k (place.Var named) at) in
    let same : there.0 ≡ has.0 = no_clash named.line (own named.name) (slice_get (place_kinds r) k) there.0 has.0
    both.0 there.1 has.1 in
    record {
      kind = has.0;
      has = has.1;
      is_own = there.1 ∙ ap Some same;
      is_before = λ other other_is. no_clash named.line (before named.name) (slice_get (place_kinds r) k) other has.0
          both.1 other_is has.1;
    }
