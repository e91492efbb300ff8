-- The names of variables of which none is listed twice are the listed ones.
use Rattle.std.proofs.Common.{◌≡◌, ◌∙◌, ◌++◌, ◌∷◌, [], ℕ, List, map, None, refl, ap, sym, append_assoc}
use Rattle.std.proofs.lemmas.List.{append-nil}
use Rattle.text_grammar.specs.declared.named.Named.{Named}
use Rattle.spec_names.specs.Names.{place_of}
use Rattle.rule_bind.specs.Ruled.{names_of_vars, repeated, taken, with_name}
use Rattle.rule_bind.proofs.Fitting.{neither, none_mapped}

with_untaken : (names : List (List ℕ)) (named : Named) → taken names named ≡ None → with_name names named.name ≡
    names ++ named.name ∷ []
with_untaken names named is = rw (none_mapped _ (place_of names named.name) is) refl

listed_after : (before : List (List ℕ)) (vars : List Named) → repeated before vars ≡ None
    → names_of_vars before vars ≡ before ++ map (λ v. v.name) vars
listed_after before [] is = sym (append-nil before)
listed_after before (v ∷ vars) is =
    let both = neither (taken before v) (repeated (with_name before v.name) vars) is in
    listed_after (with_name before v.name) vars both.1
    ∙ ap (λ names. names ++ map (λ (w : Named). w.name) vars) (with_untaken before v both.0)
    ∙ append_assoc before (v.name ∷ []) (map (λ (w : Named). w.name) vars)

pub listed : (vars : List Named) → repeated [] vars ≡ None → names_of_vars [] vars ≡ map (λ v. v.name) vars
listed vars is = listed_after [] vars is
