-- Kinds that are noted disjunct by disjunct are those that the disjuncts before give.
use Rattle.std.proofs.Common.{◌≡◌, ◌∙◌, ◌+◌, ◌<◌, ◌++◌, ◌∷◌, [], ℕ, Bool, List, length, drop, get_or, Option, Some, None, refl, sym, ap, ap₂}
use Rattle.std.specs.Prelude.{if◌then◌else◌}
use Rattle.std.specs.List.{list_any}
use Rattle.std.specs.Str.{bytes_eq}
use Rattle.std.proofs.Math.Path.{fun_ext}
use Rattle.std.proofs.lemmas.List.{at_drop_more}
use Rattle.currency_base.specs.declared.value.ValueKind.{ValueKind}
use Rattle.text_grammar.specs.declared.named.Named.{Named}
use Rattle.query_syntax.specs.declared.trees.DisjunctTree.{DisjunctTree}
use Rattle.bind_faults.specs.Faults.{or_else}
use Rattle.bind_faults.specs.declared.fault.BindFault.{BindFault}
use Rattle.spec_model.specs.declared.relation.Relation.{Relation}
use Rattle.query_bind.specs.Queried.{first_some, kind_before, kind_in, mismatch_after, mismatch_by, or_first}
use Rattle.query_bind.specs.Steps.{kind_for, mismatch_from, Notes}

nested : {A : Type 0} (a b c : Option A) → or_first (or_first a b) c ≡ or_first a (or_first b c)
nested None b c = refl
nested (Some a) b c = refl

or_none : {A : Type 0} (a : Option A) → or_first a None ≡ a
or_none None = refl
or_none (Some a) = refl

some_push : {A B : Type 0} (f : A → Option B) (xs : List A) (x : A) → first_some f (xs ++ x ∷ []) ≡ or_first
    (first_some f xs) (f x)
some_push f [] x = or_none (f x)
some_push f (y ∷ ys) x = ap (or_first (f y)) (some_push f ys x) ∙ sym (nested (f y) (first_some f ys) (f x))

-- from what stands in the head and what earlier disjuncts give, the same is refused
pub from_after : (names : List (List ℕ)) (relations : List Relation) (head : List Named) (in_head : List ℕ → Bool)
    (before : List ℕ → Option ValueKind) (front ds : List DisjunctTree)
    → ((name : List ℕ) → in_head name ≡ list_any (λ h. bytes_eq name h.name) head)
    → ((name : List ℕ) → before name ≡ first_some (λ d. kind_in names relations d name) front)
    → mismatch_from names relations in_head before ds ≡ mismatch_after names relations head front ds
from_after names relations head in_head before front [] is_head is_before = refl
from_after names relations head in_head before front (d ∷ ds) is_head is_before =
    ap₂ or_else
    (ap (λ was. mismatch_by names relations (kind_in names relations d) was d) (fun_ext same))
    (from_after names relations head in_head (λ name. or_first (before name) (kind_in names relations d name))
    (front ++ d ∷ []) ds is_head later)
  where
    same : (name : List ℕ) → (if in_head name then before name else None) ≡ kind_before names relations head front name
    same name = ap₂ (λ b o. if b then o else None) (is_head name) (is_before name)

    later : (name : List ℕ) → or_first (before name) (kind_in names relations d name) ≡ first_some
        (λ e. kind_in names relations e name) (front ++ d ∷ [])
    later name = ap (λ o. or_first o (kind_in names relations d name)) (is_before name)
        ∙ sym (some_push (λ e. kind_in names relations e name) front d)

-- one disjunct that is not refused
pub from_more : (names : List (List ℕ)) (relations : List Relation) (in_head : List ℕ → Bool)
    (old new : List (List ℕ × ValueKind)) (ds : List DisjunctTree) (i : ℕ) (d : DisjunctTree)
    (whole : Option BindFault) → i < length ds → d ≡ get_or ds i d
    → None ≡ mismatch_by names relations (kind_in names relations d) (λ name. if in_head name then kind_for old name else None) d
    → Notes old new (kind_in names relations d) → mismatch_from names relations in_head (kind_for old) (drop i ds) ≡ whole
    → mismatch_from names relations in_head (kind_for new) (drop (i + 1) ds) ≡ whole
from_more names relations in_head old new ds i d whole lt item none notes so =
    let rest = drop (i + 1) ds in
    ap (λ before. mismatch_from names relations in_head before rest) (fun_ext notes)
    ∙ ap (λ fault. or_else fault (mismatch_from names relations in_head
    (λ name. or_first (kind_for old name) (kind_in names relations d name)) rest)) none
    ∙ sym (at_drop_more (mismatch_from names relations in_head (kind_for old)) ds i d lt
    ∙ ap (λ (e : DisjunctTree). mismatch_from names relations in_head (kind_for old) (e ∷ rest)) (sym item)) ∙ so

-- one that is refused
pub from_fault : (names : List (List ℕ)) (relations : List Relation) (in_head : List ℕ → Bool)
    (old : List (List ℕ × ValueKind)) (ds : List DisjunctTree) (i : ℕ) (d : DisjunctTree)
    (fault : BindFault) (whole : Option BindFault) → i < length ds → d ≡ get_or ds i d
    → Some fault ≡ mismatch_by names relations (kind_in names relations d)
    (λ name. if in_head name then kind_for old name else None) d
    → mismatch_from names relations in_head (kind_for old) (drop i ds) ≡ whole → Some fault ≡ whole
from_fault names relations in_head old ds i d fault whole lt item is so =
    let rest = drop (i + 1) ds in
    ap (λ f. or_else f (mismatch_from names relations in_head
    (λ name. or_first (kind_for old name) (kind_in names relations d name)) rest)) is
    ∙ sym (at_drop_more (mismatch_from names relations in_head (kind_for old)) ds i d lt
    ∙ ap (λ (e : DisjunctTree). mismatch_from names relations in_head (kind_for old) (e ∷ rest)) (sym item)) ∙ so
