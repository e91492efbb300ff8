-- What the names of a specification say is what its relations say.
use Rattle.std.proofs.Common.{◌≡◌, ◌∙◌, ◌<◌, ◌^◌, ℕ, List, length, get_or, map, Option, Some, None, Result, Ok, Err, IfOk, slice_get, refl, sym, ap, subst, arith}
use Rattle.std.specs.Option.{option_map}
use Rattle.std.proofs.lemmas.List.{length-map}
use Rattle.std.proofs.lemmas.List.Elements.{All-map, All-weaker}
use Rattle.std.proofs.lemmas.Option.{slice_get-map, slice_get_read}
use Rattle.currency_base.specs.declared.row.Row.{Row}
use Rattle.bind_faults.specs.Faults.{all_of, and_then}
use Rattle.spec_model.specs.Spec.{Spec}
use Rattle.spec_model.specs.Facts.{AreRelations, IsRelation}
use Rattle.spec_model.specs.declared.relation.Attr.{Attr}
use Rattle.spec_model.specs.declared.relation.Relation.{Relation}
use Rattle.spec_names.specs.NameLists.{NameLists}
use Rattle.spec_names.specs.Names.{all_names_of, names_of}
use Rattle.spec_names.specs.declared.names.RelationNames.{RelationNames}
use Rattle.question_syntax.specs.declared.trees.AskedTree.{AskedTree}
use Rattle.question_syntax.specs.declared.trees.AskedTree.TheVariants.{Ordering, Table}
use Rattle.question_bind.specs.Asked.{attrs_of, head_of, rows_of}
use Rattle.question_bind.specs.Steps.{AreNamesOf, AreNumbered, attrs_known, head_named, named_in, rows_known}
use Rattle.question_bind.proofs.Lists.{all_of_same, then_same}

-- so few names
pub few_names : (names : NameLists) (s : Spec) → names ≡ all_names_of s → AreRelations s.relations → AreNamesOf names s
few_names names s are known = record {
  are = are;
  numbered = subst AreNumbered (sym are) (record {
    each = length-map s.relations names_of ∙ sym (length-map s.relations (λ (r : Relation). r.name));
    few = omega (arith, known.few, length-map s.relations (λ (r : Relation). r.name));
    attrs = All-map (λ (n : RelationNames). length n.attrs < 2 ^ 32) names_of s.relations
        (All-weaker IsRelation (λ (r : Relation). length (names_of r).attrs < 2 ^ 32)
        (λ r is. omega (arith, is.few_attrs, length-map r.attrs (λ (a : Attr). a.name))) s.relations known.each);
    rows = All-map (λ (n : RelationNames). length n.rows < 2 ^ 32) names_of s.relations
        (All-weaker IsRelation (λ (r : Relation). length (names_of r).rows < 2 ^ 32)
        (λ r is. omega (arith, is.few_rows, length-map r.rows (λ (row : Row). row.name))) s.relations known.each);
  });
}

-- ---- the names of parts

attrs_map : (r : Option Relation) → attrs_known (option_map names_of r) ≡ attrs_of r
attrs_map None = refl
attrs_map (Some r) = refl

rows_map : (r : Option Relation) → rows_known (option_map names_of r) ≡ map (λ (row : Row). row.name) (rows_of r)
rows_map None = refl
rows_map (Some r) = refl

pub same_attrs : (s : Spec) (rel : ℕ) → attrs_known (slice_get (all_names_of s).each rel) ≡ attrs_of (slice_get s.relations rel)
same_attrs s rel = ap attrs_known (slice_get-map names_of s.relations rel) ∙ attrs_map (slice_get s.relations rel)

pub same_rows : (s : Spec) (rel : ℕ) → rows_known (slice_get (all_names_of s).each rel) ≡ map
    (λ (row : Row). row.name) (rows_of (slice_get s.relations rel))
same_rows s rel = ap rows_known (slice_get-map names_of s.relations rel) ∙ rows_map (slice_get s.relations rel)

-- the rows of a relation that is read at its place
pub rows_read : (relations read : List Relation) (rel : ℕ) (r : Relation) (rows : List Row) → read ≡ relations
    → rel < length relations → r ≡ get_or read rel r
    → rows ≡ (get_or read rel r).rows → rows ≡ rows_of (slice_get relations rel)
rows_read relations read rel r rows are lt is are_rows =
    let there : slice_get relations rel ≡ Some r = slice_get_read relations (length relations) rel r refl lt
    (is ∙ ap (λ rs. get_or rs rel r) are) in
    are_rows ∙ ap (λ (s : Relation). s.rows) (sym is) ∙ ap rows_of (sym there)

-- ---- heads

head_same : (s : Spec) (t : AskedTree) → head_named (all_names_of s) t ≡ head_of s.relations t
head_same s (Ordering o) =
    then_same (named_in (all_names_of s).relations o.relation)
    (λ rel. and_then (named_in (attrs_known (slice_get (all_names_of s).each rel)) o.attr)
    (λ attr. Ok record { rel = rel; attr = Some attr }))
    (λ rel. and_then (named_in (attrs_of (slice_get s.relations rel)) o.attr) (λ attr. Ok record { rel = rel; attr = Some attr }))
    (λ rel. ap (λ (names : List (List ℕ)). and_then (named_in names o.attr)
    (λ attr. Ok record { rel = rel; attr = Some attr })) (same_attrs s rel))
head_same s (Table relation document) = refl

pub heads_same : (names : NameLists) (s : Spec) (trees : List AskedTree) → AreNamesOf names s
    → all_of (head_named names) trees ≡ all_of (head_of s.relations) trees
heads_same names s trees known =
    ap (λ (n : NameLists). all_of (head_named n) trees) known.are ∙ all_of_same (head_named (all_names_of s))
    (head_of s.relations) (head_same s) trees

-- the names that are read are so
pub named_few : {E : Type 0} (result : Result NameLists E) (s : Spec) → IfOk result (λ names. names ≡ all_names_of s)
    → AreRelations s.relations
    → IfOk result (λ names. AreNamesOf names s)
named_few (Err e) s are known = tt
named_few (Ok names) s are known = few_names names s are known
