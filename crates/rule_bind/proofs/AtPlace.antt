-- What is due of a rule at the place of its relation.
use Rattle.std.proofs.Common.{◌≡◌, ◌∙◌, ◌<◌, ◌≤◌, ℕ, List, length, map, Contains, get_or, Some, Result, Ok, Err, refl, ap, sym, subst, arith, slice_get}
use Rattle.std.specs.Prelude.{IfOk, option_map}
use Rattle.std.proofs.lemmas.List.{length-map}
use Rattle.std.proofs.lemmas.List.Elements.{All-get_or}
use Rattle.std.proofs.lemmas.Option.{slice_get_read, slice_get-map}
use Rattle.currency_base.specs.declared.ids.RelId.{RelId}
use Rattle.currency_base.specs.declared.error_code.ErrorCode.TheVariants.{UnknownName}
use Rattle.rule_syntax.specs.declared.trees.RuleTree.{RuleTree}
use Rattle.bind_faults.specs.Faults.{and_then, found_or, refused_at}
use Rattle.bind_faults.specs.declared.fault.BindFault.{BindFault}
use Rattle.denial_rules.specs.Rules.{IsRuleOn}
use Rattle.denial_rules.specs.declared.rule.Rule.{Rule}
use Rattle.spec_model.specs.Spec.{Spec}
use Rattle.spec_model.specs.Facts.{AreRelations, IsRelation, IsRuleOf, kinds_of}
use Rattle.spec_model.specs.declared.relation.Attr.{Attr}
use Rattle.spec_model.specs.declared.relation.Relation.{Relation}
use Rattle.spec_names.specs.NameLists.{NameLists}
use Rattle.spec_names.specs.Names.{all_names_of, names_of, place_of}
use Rattle.spec_names.specs.declared.names.RelationNames.{RelationNames}
use Rattle.rule_bind.specs.Ruled.{named_in, names_of_attrs, ruled, ruled_at, ruled_on}

-- the names of a specification, its relations as they are listed, and one of these at its place with its names
pub record IsPlace (names : NameLists) (s : Spec) (list : List (List ℕ)) (rel : ℕ) (relations : List Relation)
    (r : Relation) (parts : RelationNames) : Type 0 where
  pub all : names ≡ all_names_of s
  pub listed : list ≡ names.relations
  pub within : rel < length list
  pub are : relations ≡ s.relations
  pub is : r ≡ get_or relations rel r
  pub has_names : slice_get names.each rel ≡ Some parts

pub listed_names : (names : NameLists) (s : Spec) (list : List (List ℕ)) → names ≡ all_names_of s → list ≡ names.relations
    → list ≡ map (λ r. r.name) s.relations
listed_names names s list all listed = listed ∙ ap (λ (n : NameLists). n.relations) all

-- the place is one of the relations
pub place_within : (names : NameLists) (s : Spec) (list : List (List ℕ)) (rel : ℕ) → names ≡ all_names_of s
    → list ≡ names.relations
    → rel < length list → rel < length s.relations
place_within names s list rel all listed within =
    omega (arith, ap length (listed_names names s list all listed), length-map s.relations (λ (r : Relation). r.name), within)

pub relation_at : (names : NameLists) (s : Spec) (list : List (List ℕ)) (rel : ℕ) (relations : List Relation)
    (r : Relation) (parts : RelationNames)
    → IsPlace names s list rel relations r parts → slice_get s.relations rel ≡ Some r
relation_at names s list rel relations r parts p =
    slice_get_read s.relations (length s.relations) rel r refl
    (place_within names s list rel p.all p.listed p.within) (p.is ∙ ap (λ rs. get_or rs rel r) p.are)

same_Some : {A : Type 0} (a b : A) → Some a ≡ Some b → a ≡ b
same_Some a b is = cc

-- the names of its attributes
pub attrs_at : (names : NameLists) (s : Spec) (list : List (List ℕ)) (rel : ℕ) (relations : List Relation)
    (r : Relation) (parts : RelationNames)
    → IsPlace names s list rel relations r parts → parts.attrs ≡ names_of_attrs r
attrs_at names s list rel relations r parts p =
    ap (λ (n : RelationNames). n.attrs)
    (same_Some parts (names_of r) (sym p.has_names ∙ ap (λ (n : NameLists). slice_get n.each rel) p.all
    ∙ slice_get-map names_of s.relations rel ∙ ap (option_map names_of) (relation_at names s list rel relations r parts p)))

-- which are few
pub few_attrs : (names : NameLists) (s : Spec) (list : List (List ℕ)) (rel : ℕ) (relations : List Relation)
    (r : Relation) (parts : RelationNames)
    → IsPlace names s list rel relations r parts → AreRelations s.relations → length parts.attrs < 4294967296
few_attrs names s list rel relations r parts p facts =
    let here : IsRelation r = subst IsRelation (sym (p.is ∙ ap (λ rs. get_or rs rel r) p.are))
    (All-get_or IsRelation s.relations rel r (place_within names s list rel p.all p.listed p.within) facts.each) in
    let few = here.few_attrs in
    omega (arith, few, ap length (attrs_at names s list rel relations r parts p), length-map r.attrs (λ (a : Attr). a.name))

-- a place is a number of 32 bits
pub place_fits : (names : NameLists) (s : Spec) (list : List (List ℕ)) (rel : ℕ) → names ≡ all_names_of s → list ≡ names.relations
    → rel < length list → AreRelations s.relations → rel < 4294967296
place_fits names s list rel all listed within facts = let few = facts.few in omega
    (arith, place_within names s list rel all listed within)

-- an unknown relation is due
pub unknown_relation : (names : NameLists) (s : Spec) (list : List (List ℕ)) (tree : RuleTree) (e : BindFault)
    → names ≡ all_names_of s
    → list ≡ names.relations
    → ◌≡◌ {A = Result ℕ BindFault} (Err e) (found_or (place_of list tree.relation.name) (refused_at UnknownName tree.relation) Ok)
    → ruled s tree ≡ Err e
unfolding ruled
unknown_relation names s list tree e all listed is =
    ap (λ first. and_then first (λ rel. ruled_at (map (λ (rule : Rule). rule.name) s.rules) rel (slice_get s.relations rel) tree))
    (ap (λ ns. named_in ns tree.relation) (sym (listed_names names s list all listed)) ∙ sym is)

-- what is due of the relation that is found is due of the rule
pub due_at : (names : NameLists) (s : Spec) (list : List (List ℕ)) (rel : ℕ) (relations : List Relation)
    (r : Relation) (parts : RelationNames)
    (tree : RuleTree) (rules : List (List ℕ)) → IsPlace names s list rel relations r parts
    → ◌≡◌ {A = Result ℕ BindFault} (Ok rel) (found_or (place_of list tree.relation.name)
    (refused_at UnknownName tree.relation) Ok)
    → rules ≡ names.rules → ruled s tree ≡ ruled_on rules rel r tree
unfolding ruled
due_at names s list rel relations r parts tree rules p is named =
    ap (λ first. and_then first (λ k. ruled_at (map (λ (rule : Rule). rule.name) s.rules) k (slice_get s.relations k) tree))
    (ap (λ ns. named_in ns tree.relation) (sym (listed_names names s list p.all p.listed)) ∙ sym is)
    ∙ ap (λ o. ruled_at (map (λ (rule : Rule). rule.name) s.rules) rel o tree) (relation_at names s list rel relations r parts p)
    ∙ ap (λ ns. ruled_on ns rel r tree) (sym (named ∙ ap (λ (n : NameLists). n.rules) p.all))

-- a rule that fits the relation at its place is a rule of the specification
pub fits_at : (s : Spec) (rel : ℕ) (r : Relation) (result : Result Rule BindFault) → slice_get s.relations rel ≡ Some r
    → IfOk result (λ rule. rule.relation ≡ record { 0 = rel })
    → IfOk result (λ rule. rule.vars ≤ 4 → length rule.predicates ≤ 16 → IsRuleOn (kinds_of r) rule)
    → IfOk result (λ rule. rule.vars ≤ 4 → length rule.predicates ≤ 16 → IsRuleOf s.relations rule)
fits_at s rel r (Err e) here of fits = tt
fits_at s rel r (Ok rule) here of fits = λ few_vars few_predicates.
    record {
      relation = r;
      is_relation = ap (λ (k : RelId). slice_get s.relations k.0) of ∙ here;
      fits =
          fits few_vars few_predicates;
    }

-- a name that no earlier rule has
pub fresh_at : (names : NameLists) (s : Spec) (rules : List (List ℕ)) (result : Result Rule BindFault) → names ≡ all_names_of s
    → rules ≡ names.rules → IfOk result (λ rule. Contains rules rule.name → ⊥)
    → IfOk result (λ rule. Contains (map (λ q. q.name) s.rules) rule.name → ⊥)
fresh_at names s rules result all named fresh =
    subst (λ (ns : List (List ℕ)). IfOk result (λ rule. Contains ns rule.name → ⊥))
    (named ∙ ap (λ (n : NameLists). n.rules) all) fresh
