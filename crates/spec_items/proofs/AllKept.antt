-- With all its items a specification has the consistent completions that it has.
use Rattle.std.proofs.Common.{◌≡◌, ◌∙◌, ℕ, suc, true, List, [], ◌∷◌, Option, refl, sym, ap, ap₂, subst}
use Rattle.currency_base.specs.declared.ids.RowId.{RowId}
use Rattle.currency_base.specs.declared.pair.Pair.{Pair}
use Rattle.copy_functions.specs.Copies.{CopyFunction}
use Rattle.denial_rules.specs.declared.rule.Rule.{Rule}
use Rattle.spec_model.specs.Spec.{Spec}
use Rattle.spec_model.specs.Consistent.{IsConsistent}
use Rattle.spec_model.specs.declared.relation.Relation.{Relation}
use Rattle.spec_items.specs.Kept.{Keeps, kept_pairs, kept_relations, kept_rules, kept_sources, kept_copies, kept}
use Rattle.spec_items.specs.Laws.{AllItems}
use Rattle.spec_items.proofs.Fewer.{consistent_of_fewer}

-- all is kept
abbrev all : Keeps
all i = true

-- ---- where all is kept, the parts are as they were

same_pairs : (rel : ℕ) (ps : List Pair) → kept_pairs all rel ps ≡ ps
same_pairs rel [] = refl
same_pairs rel (p ∷ ps) = ap (λ (qs : List Pair). p ∷ qs) (same_pairs rel ps)

same_relations : (rel : ℕ) (rs : List Relation) → kept_relations all rel rs ≡ rs
same_relations rel [] = refl
same_relations rel (r ∷ rs) =
    ap₂ (λ (given : List Pair) (qs : List Relation). record r { given = given } ∷ qs) (same_pairs rel r.given)
    (same_relations (suc rel) rs)

same_rules : (k : ℕ) (rules : List Rule) → kept_rules all k rules ≡ rules
same_rules k [] = refl
same_rules k (rule ∷ rules) = ap (λ (qs : List Rule). rule ∷ qs) (same_rules (suc k) rules)

same_sources : (k row : ℕ) (sources : List (Option RowId)) → kept_sources all k row sources ≡ sources
same_sources k row [] = refl
same_sources k row (source ∷ sources) = ap (λ (qs : List (Option RowId)). source ∷ qs) (same_sources k (suc row) sources)

same_copies : (k : ℕ) (copies : List CopyFunction) → kept_copies all k copies ≡ copies
same_copies k [] = refl
same_copies k (copy ∷ copies) =
    ap₂ (λ (sources : List (Option RowId)) (qs : List CopyFunction). record copy { sources = sources } ∷ qs)
    (same_sources k 0 copy.sources)
    (same_copies (suc k) copies)

spec_of : List Relation → List Rule → List CopyFunction → Spec
spec_of relations rules copies = record { relations = relations; rules = rules; copies = copies }

same_spec : (s : Spec) → kept all s ≡ s
unfolding spec_of
same_spec s =
    ap (λ rs. spec_of rs (kept_rules all 0 s.rules) (kept_copies all 0 s.copies)) (same_relations 0 s.relations)
    ∙ ap (λ rules. spec_of s.relations rules (kept_copies all 0 s.copies)) (same_rules 0 s.rules)
    ∙ ap (λ copies. spec_of s.relations s.rules copies) (same_copies 0 s.copies)

-- ---- both ways

pub consistent_of_all : AllItems
consistent_of_all s keeps each c = (
  λ is. subst (λ (q : Spec). IsConsistent q c) (same_spec s) (consistent_of_fewer s all keeps (λ i at _. each i at) c is),
  λ is. consistent_of_fewer s keeps all (λ i at _. refl) c (subst (λ (q : Spec). IsConsistent q c) (sym (same_spec s)) is),
)
