-- What is due of a head, check by check.
use Rattle.std.proofs.Common.{◌≡◌, ◌∙◌, ℕ, List, Option, Some, None, Result, Ok, Err, refl, ap, map, sym}
use Rattle.copy_functions.specs.declared.place.Place.{Place}
use Rattle.text_grammar.specs.declared.named.Named.{Named}
use Rattle.copy_syntax.specs.declared.trees.CopyTree.{CopyTree}
use Rattle.bind_faults.specs.Faults.{IsDue, unless}
use Rattle.bind_faults.specs.declared.fault.BindFault.{BindFault}
use Rattle.bind_faults.specs.declared.fault.BindFault.TheVariants.{Refused, CopyDiffers, Limit, ReadFault, NoMemory}
use Rattle.spec_model.specs.Spec.{Spec}
use Rattle.spec_names.specs.NameLists.{NameLists}
use Rattle.spec_names.specs.Names.{all_names_of}
use Rattle.copy_bind.specs.Heads.{head_of, matched, names_refused, side_of}
use Rattle.copy_bind.specs.Sides.{Side}

-- an answer that is the one that is due
pub due_same : {A : Type 0} (due r : Result A BindFault) → due ≡ r → IsDue due r
due_same due (Ok x) is = is
due_same due (Err (Refused refusal)) is = is
due_same due (Err (CopyDiffers document line target source)) is = is
due_same due (Err (Limit k)) is = is
due_same due (Err (ReadFault name)) is = is
due_same due (Err NoMemory) is = tt

-- a fault that is due in one place is due where it is handed on
pub due_through : {A B : Type 0} (first : Result A BindFault) (due : Result B BindFault) (e : BindFault) → IsDue first (Err e)
    → (first ≡ Err e → due ≡ Err e) → IsDue due (Err e)
due_through first due (Refused refusal) is on = on is
due_through first due (CopyDiffers document line target source) is on = on is
due_through first due (Limit k) is on = on is
due_through first due (ReadFault name) is on = on is
due_through first due NoMemory is on = tt

-- a check that refuses, and one that does not
pub is_refused : (refused : Option BindFault) (e : BindFault) → ◌≡◌ {A = Result (Unit {0}) BindFault}
    (unless refused (Ok tt)) (Err e) → refused ≡ Some e
is_refused None e is = absurd (cc)
is_refused (Some fault) e is = cc

pub is_free : (refused : Option BindFault) (u : Unit {0}) → ◌≡◌ {A = Result (Unit {0}) BindFault}
    (unless refused (Ok tt)) (Ok u) → refused ≡ None
is_free None u is = refl
is_free (Some fault) u is = absurd (cc)

-- ---- the steps of a head

-- the names of the copies so far
abbrev pub copies_of : Spec → List (List ℕ)
copies_of s = map (λ c. c.name) s.copies

pub target_refused : (s : Spec) (tree : CopyTree) (e : BindFault) → side_of s.relations tree.target
    tree.target_attrs ≡ Err e → head_of s tree ≡ Err e
unfolding head_of
target_refused s tree e is = rw is refl

pub source_refused : (s : Spec) (tree : CopyTree) (target : Side) (e : BindFault) → side_of s.relations tree.target
    tree.target_attrs ≡ Ok target
    → side_of s.relations tree.source tree.source_attrs ≡ Err e → head_of s tree ≡ Err e
unfolding head_of
source_refused s tree target e first is = rw (first, is) refl

-- the sides that a tree says
pub record AreSides (s : Spec) (tree : CopyTree) (target source : Side) : Type 0 where
  pub is_target : side_of s.relations tree.target tree.target_attrs ≡ Ok target
  pub is_source : side_of s.relations tree.source tree.source_attrs ≡ Ok source

-- the same, where the attributes are listed elsewhere
pub are_sides : (s : Spec) (tree : CopyTree) (targets sources : List Named) (target source : Side) → targets ≡ tree.target_attrs
    → sources ≡ tree.source_attrs → side_of s.relations tree.target targets ≡ Ok target → side_of s.relations
    tree.source sources ≡ Ok source
    → AreSides s tree target source
are_sides s tree targets sources target source same_targets same_sources is_target is_source = record {
  is_target = ap (side_of s.relations tree.target) (sym same_targets) ∙ is_target;
  is_source = ap (side_of s.relations tree.source) (sym same_sources) ∙ is_source;
}

-- what the names of copies are refused for, where these are listed elsewhere
pub of_copies : (names : NameLists) (s : Spec) (copies : List (List ℕ)) (tree : CopyTree)
    (refused : Option BindFault) → names ≡ all_names_of s
    → copies ≡ names.copies → names_refused copies tree ≡ refused → names_refused (copies_of s) tree ≡ refused
of_copies names s copies tree refused all listed is =
    ap (λ ns. names_refused ns tree) (sym (listed ∙ ap (λ (n : NameLists). n.copies) all)) ∙ is

pub name_refused : (s : Spec) (tree : CopyTree) (target source : Side) (e : BindFault) → AreSides s tree target source
    → names_refused (copies_of s) tree ≡ Some e → head_of s tree ≡ Err e
unfolding head_of
name_refused s tree target source e sides is = rw (sides.is_target, sides.is_source, is) refl

pub match_refused : (s : Spec) (tree : CopyTree) (target source : Side) (e : BindFault) → AreSides s tree target source
    → names_refused (copies_of s) tree ≡ None → matched tree.name target source ≡ Err e → head_of s tree ≡ Err e
unfolding head_of
match_refused s tree target source e sides free is = rw (sides.is_target, sides.is_source, free, is) refl

pub head_there : (s : Spec) (tree : CopyTree) (target source : Side) (places : List Place) → AreSides s tree target source
    → names_refused (copies_of s) tree ≡ None → matched tree.name target source ≡ Ok places
    → head_of s tree ≡ Ok (record { target = target; source = source; places = places })
unfolding head_of
head_there s tree target source places sides free is = rw (sides.is_target, sides.is_source, free, is) refl
