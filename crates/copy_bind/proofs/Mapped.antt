-- Mappings that are found and added one by one.
use Rattle.std.proofs.Common.{◌≡◌, ◌∙◌, ◌+◌, ◌<◌, ◌∷◌, ℕ, List, length, drop, get_or, Option, Result, Ok, Err, ap, sym}
use Rattle.std.proofs.lemmas.List.{at_drop_more}
use Rattle.currency_base.specs.declared.ids.RowId.{RowId}
use Rattle.currency_base.specs.declared.row.Row.{Row}
use Rattle.bind_faults.specs.Faults.{IsDue, all_of, and_then, unless}
use Rattle.bind_faults.specs.declared.fault.BindFault.{BindFault}
use Rattle.copy_functions.specs.Copies.{CopyFunction, with_source}
use Rattle.copy_bind.proofs.Due.{due_through, is_free, is_refused}
use Rattle.copy_bind.proofs.Places.{drop_at}
use Rattle.copy_bind.proofs.Walk.{with_front}
use Rattle.copy_bind.specs.Copied.{fault_of, with_mappings}
use Rattle.copy_bind.specs.Steps.{KeepsHead}
use Rattle.copy_bind.specs.declared.mapping.Mapping.{Mapping}

-- an item that is refused, after others that are not
pub item_refused : {A B : Type 0} (f : A → Result B BindFault) (xs : List A) (i : ℕ) (x : A) (list : List B)
    (e : BindFault) → i < length xs
    → x ≡ get_or xs i x → with_front list (all_of f (drop i xs)) ≡ all_of f xs → IsDue (f x) (Err e) → IsDue (all_of f xs) (Err e)
item_refused f xs i x list e within is rest due =
    due_through (f x) (all_of f xs) e due
    (λ at. sym rest ∙ ap (λ ys. with_front list (all_of f ys)) (drop_at xs i x within is)
    ∙ ap (λ r. with_front list (and_then r (λ y. and_then (all_of f (drop (i + 1) xs)) (λ ys. Ok (y ∷ ys))))) at)

-- a mapping that is refused, after others that are added
pub mapping_refused : (document : Option (List ℕ)) (targets sources : List Row) (first copy : CopyFunction)
    (ms : List Mapping) (i : ℕ) (d : Mapping)
    (e : BindFault) → i < length ms
    → with_mappings document targets sources copy (drop i ms) ≡ with_mappings document targets sources first ms
    → IsDue {A = Unit {0}} (unless (fault_of document targets sources copy (get_or ms i d)) (Ok tt)) (Err e)
    → IsDue (with_mappings document targets sources first ms) (Err e)
mapping_refused document targets sources first copy ms i d e within rest due =
    let m = get_or ms i d in
    due_through {A = Unit {0}} (unless (fault_of document targets sources copy m) (Ok tt))
    (with_mappings document targets sources first ms) e due
    (λ at. sym rest ∙ at_drop_more (with_mappings document targets sources copy) ms i d within
    ∙ ap (λ f. unless f (with_mappings document targets sources (with_source copy m.target m.source) (drop (i + 1) ms)))
    (is_refused (fault_of document targets sources copy m) e at))

-- a mapping that is added
pub mapping_added : (document : Option (List ℕ)) (targets sources : List Row) (first copy new : CopyFunction)
    (ms : List Mapping) (i : ℕ) (d : Mapping)
    (u : Unit {0}) → i < length ms
    → with_mappings document targets sources copy (drop i ms) ≡ with_mappings document targets sources first ms
    → ◌≡◌ {A = Result (Unit {0}) BindFault} (unless (fault_of document targets sources copy (get_or ms i d)) (Ok tt)) (Ok u)
    → new ≡ with_source copy (get_or ms i d).target (get_or ms i d).source
    → with_mappings document targets sources new (drop (i + 1) ms) ≡ with_mappings document targets sources first ms
mapping_added document targets sources first copy new ms i d u within rest at is =
    let m = get_or ms i d in
    ap (λ c. with_mappings document targets sources c (drop (i + 1) ms)) is
    ∙ sym (at_drop_more (with_mappings document targets sources copy) ms i d within
    ∙ ap (λ f. unless f (with_mappings document targets sources (with_source copy m.target m.source) (drop (i + 1) ms)))
    (is_free (fault_of document targets sources copy m) u at))
    ∙ rest

pub keeps_more : (first copy new : CopyFunction) (sources : List (Option RowId)) → KeepsHead first copy
    → new ≡ record copy { sources = sources }
    → KeepsHead first new
keeps_more first copy new sources keeps is = record {
  name = ap (λ (c : CopyFunction). c.name) is ∙ keeps.name;
  target = ap (λ (c : CopyFunction). c.target) is ∙ keeps.target;
  source = ap (λ (c : CopyFunction). c.source) is ∙ keeps.source;
  places = ap (λ (c : CopyFunction). c.places) is ∙ keeps.places;
}
