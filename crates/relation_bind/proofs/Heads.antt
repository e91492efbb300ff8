-- Names that a declaration takes.
use Rattle.std.proofs.Common.{◌≡◌, ◌∙◌, ◌+◌, ◌<◌, ◌++◌, ℕ, List, [], ◌∷◌, length, drop, get_or, Option, Some, None, Contains, sym, ap, true, false, append_assoc, Result, Ok, Err, inl, inr, Bool, is_some, subst}
use Rattle.std.specs.List.{list_any}
use Rattle.std.specs.Str.{bytes_eq}
use Rattle.spec_syntax.specs.declared.trees.AttrTree.{AttrTree}
use Rattle.currency_base.specs.declared.error_code.ErrorCode.TheVariants.{DuplicateName}
use Rattle.spec_model.specs.declared.relation.Relation.{Relation}
use Rattle.spec_names.specs.Names.{place_of}
use Rattle.text_grammar.specs.declared.named.Named.{Named}
use Rattle.bind_faults.specs.Faults.{IsReadFault, refused_at}
use Rattle.relation_bind.specs.Declarations.{Declared}
use Rattle.relation_bind.specs.Relations.{repeated_attr, head_fault, taken_name}
use Rattle.relation_bind.specs.Steps.{names_of_attrs, NamesAttrs, ChecksHead}
use Rattle.bind_faults.specs.declared.fault.BindFault.{BindFault}
use Rattle.relation_bind.proofs.Places.{drop_at, is_found, is_missing}

-- an attribute whose name stands before is the first repeated one
repeated_here : (seen : List (List ℕ)) (a : AttrTree) (attrs : List AttrTree) → list_any (bytes_eq a.name.name)
    seen ≡ true → repeated_attr seen (a ∷ attrs) ≡ Some a.name
repeated_here seen a attrs found = rw found

-- an attribute whose name does not stand before is passed over
repeated_later : (seen : List (List ℕ)) (a : AttrTree) (attrs : List AttrTree) → list_any (bytes_eq a.name.name)
    seen ≡ false → repeated_attr seen (a ∷ attrs) ≡ repeated_attr (seen ++ a.name.name ∷ []) attrs
repeated_later seen a attrs missing = rw missing

-- the first repeated attribute, where all names before it were new
pub repeated_at : (attrs : List AttrTree) (i : ℕ) (seen : List (List ℕ)) (a : AttrTree) → i < length attrs → a ≡ get_or attrs i a
    → Contains seen a.name.name → repeated_attr seen (drop i attrs) ≡ repeated_attr [] attrs
    → repeated_attr [] attrs ≡ Some a.name
repeated_at attrs i seen a within is there so_far =
    sym so_far ∙ ap (repeated_attr seen) (drop_at attrs i a within is)
    ∙ repeated_here seen a (drop (i + 1) attrs) (is_found seen a.name.name there)

-- a new name is passed over
pub new_at : (attrs : List AttrTree) (i : ℕ) (seen : List (List ℕ)) (a : AttrTree) → i < length attrs → a ≡ get_or attrs i a
    → (Contains seen a.name.name → ⊥) → repeated_attr (seen ++ a.name.name ∷ []) (drop (i + 1) attrs) ≡ repeated_attr
    seen (drop i attrs)
new_at attrs i seen a within is missing =
    sym (ap (repeated_attr seen) (drop_at attrs i a within is)
    ∙ repeated_later seen a (drop (i + 1) attrs) (is_missing seen a.name.name missing))

-- its name follows those before
pub names_at : (attrs : List AttrTree) (i : ℕ) (seen : List (List ℕ)) (a : AttrTree) → i < length attrs → a ≡ get_or attrs i a
    → (seen ++ a.name.name ∷ []) ++ names_of_attrs (drop (i + 1) attrs) ≡ seen ++ names_of_attrs (drop i attrs)
names_at attrs i seen a within is = rw (drop_at attrs i a within is)
    (append_assoc seen (a.name.name ∷ []) (names_of_attrs (drop (i + 1) attrs)))

-- a relation's name that is taken is the first fault
pub taken_fault : (taken : List (List ℕ)) (d : Declared) (place : ℕ) → place_of taken d.name.name ≡ Some place
    → head_fault taken d ≡ Some (refused_at DuplicateName d.name)
unfolding head_fault
taken_fault taken d place at = rw at

-- where the relation's name is new, the attributes decide
pub free_head : (taken : List (List ℕ)) (d : Declared) (result : Result (List (List ℕ)) BindFault)
    → place_of taken d.name.name ≡ None
    → (Contains taken d.name.name → ⊥) → NamesAttrs d.attrs result → ChecksHead taken d result
unfolding head_fault
free_head taken d (Ok names) free missing (none, are) = (rw (free, none), are, missing)
free_head taken d (Err fault) free missing (inl memory) = inl memory
free_head taken d (Err fault) free missing (inr (named, repeated, is)) = inr (rw (free, repeated, is))

-- a declaration whose names are refused reads nothing
taken_reads : (d : Declared) (taken : Bool) (repeated : Option Named) (fault : BindFault) → taken_name d taken
    repeated ≡ Some fault → IsReadFault {A = Relation} (Err fault) → ⊥
taken_reads d true repeated fault e h = let is : fault ≡ refused_at DuplicateName d.name = cc in subst
    (λ (f : BindFault). IsReadFault {A = Relation} (Err f)) is h
taken_reads d false (Some named) fault e h = let is : fault ≡ refused_at DuplicateName named = cc in subst
    (λ (f : BindFault). IsReadFault {A = Relation} (Err f)) is h
taken_reads d false None fault e h = cc

pub head_reads : (taken : List (List ℕ)) (d : Declared) (fault : BindFault) → ChecksHead taken d (Err fault)
    → IsReadFault {A = Relation} (Err fault) → ⊥
unfolding head_fault
head_reads taken d fault (inl memory) h = subst (λ (f : BindFault). IsReadFault {A = Relation} (Err f)) memory h
head_reads taken d fault (inr head) h = taken_reads d (is_some (place_of taken d.name.name))
    (repeated_attr [] d.attrs) fault head h
