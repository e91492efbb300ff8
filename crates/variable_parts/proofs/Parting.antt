-- The places of the parts of statements are the variables of the parts.
use Rattle.std.proofs.Common.{◌≡◌, ◌∙◌, ◌+◌, ◌<◌, ℕ, zero, suc, List, [], ◌∷◌, All, Option, None, Some, map, option_map, slice_get, refl, sym, ap, subst, arith}
use Rattle.std.specs.Option.{unwrap_or}
use Rattle.std.proofs.lemmas.List.Elements.{All-map}
use Rattle.std.proofs.lemmas.Option.{same_Some, none-some, slice_get-map, slice_get_within}
use Rattle.refutation_log.specs.declared.statement.Statement.{Statement}
use Rattle.order_literals.specs.Numbers.{Numbers}
use Rattle.order_literals.specs.Statements.{statements_of}
use Rattle.entity_ties.specs.Labels.{AreTies}
use Rattle.variable_parts.specs.Parts.{AreVariableParts, AreVarsOf, IsVarOf, part_of}
use Rattle.variable_parts.specs.Sorted.{AreListed, places_of}
use Rattle.variable_parts.specs.Told.{Divided, key_of, keys_of, numbers_in}
use Rattle.variable_parts.proofs.Cells.{about_part}
use Rattle.variable_parts.proofs.KeyPlaces.{contained, places_ascend}

-- what stands in a mapped list is made of what stands there
from_mapped : {A B : Type 0} (f : A → B) (xs : List A) (k : ℕ) (y : B) → slice_get (map f xs) k ≡ Some y →
    (x : A) × (slice_get xs k ≡ Some x) × (f x ≡ y)
from_mapped f [] k y e = absurd (none-some y e)
from_mapped f (x ∷ xs) zero y e = (x, refl, same_Some (f x) y e)
from_mapped f (x ∷ xs) (suc k) y e = from_mapped f xs k y e

module _ (d : Divided) (ties : AreTies d.spec d.ties) where
  part_below : (statement : Statement) (part : ℕ) → part_of d.ties d.spec.relations statement ≡ Some part → part < d.ties.count
  part_below statement part e =
      let about = about_part d.ties d.spec.relations statement part e in
      ties.below about.about part about.has

  key_below : (statement : Statement) → key_of d statement < d.ties.count + 1
  key_below statement = by (part_of d.ties d.spec.relations statement) refl
    where
      by : (o : Option ℕ) → part_of d.ties d.spec.relations statement ≡ o → unwrap_or o d.ties.count < d.ties.count + 1
      by None e = omega arith
      by (Some part) e = omega (arith, part_below statement part e)

  -- each is a part, or how many there are
  pub keys_below : All (λ key. key < d.ties.count + 1) (keys_of d)
  keys_below = All-map (λ key. key < d.ties.count + 1) (key_of d) (statements_of (numbers_in d))
      (λ k x within. key_below _)

  -- a part is that of the statement
  is_part : (statement : Statement) (part : ℕ) → part < d.ties.count → key_of d statement ≡ part
      → part_of d.ties d.spec.relations statement ≡ Some part
  is_part statement part below e = by (part_of d.ties d.spec.relations statement) refl e
    where
      by : (o : Option ℕ) → part_of d.ties d.spec.relations statement ≡ o → unwrap_or o d.ties.count ≡ part
          → part_of d.ties d.spec.relations statement ≡ Some part
      by None is e = absurd (omega (arith, e))
      by (Some other) is e = is ∙ ap Some e

  var_of : (part var : ℕ) → part < d.ties.count → slice_get (keys_of d) var ≡ Some part
      → IsVarOf d.spec (statements_of (numbers_in d)) d.ties part var
  var_of part var below e =
      let from = from_mapped (key_of d) (statements_of (numbers_in d)) var part e in
      record { statement = from.0; is_statement = from.1; of_part = is_part from.0 part below from.2 }

  of_var : (part var : ℕ) → IsVarOf d.spec (statements_of (numbers_in d)) d.ties part var → slice_get (keys_of d) var ≡ Some part
  of_var part var is =
      slice_get-map (key_of d) (statements_of (numbers_in d)) var
      ∙ ap (option_map (key_of d)) is.is_statement ∙ ap (λ o. Some (unwrap_or o d.ties.count)) is.of_part

  pub vars_of : (part : ℕ) → part < d.ties.count → AreVarsOf d.spec (statements_of (numbers_in d)) d.ties part
      (places_of (keys_of d) part)
  vars_of part below = record {
    ascend = places_ascend (keys_of d) part;
    are = λ var. (
      λ at. var_of part var below ((contained (keys_of d) part var).0 at),
      λ is. (contained (keys_of d) part var).1 (of_var part var is),
    );
  }

  pub parts_are : (n : Numbers) (keys : List ℕ) (count : ℕ) (lists : List (List ℕ)) → n ≡ numbers_in d → keys ≡ keys_of d
      → count ≡ d.ties.count → AreListed keys count lists → AreVariableParts d.spec (statements_of n) d.ties lists
  parts_are n keys count lists numbers keys_are count_is listed =
      subst (λ (m : Numbers). AreVariableParts d.spec (statements_of m) d.ties lists) (sym numbers) (record {
        many = listed.many ∙ count_is;
        each = λ part vars at.
            let below : part < d.ties.count = omega (arith, slice_get_within lists part vars at, listed.many, count_is) in
            let these = same_Some vars (places_of keys part) (sym at ∙ listed.each part (omega (arith, count_is, below))) in
            subst (AreVarsOf d.spec (statements_of (numbers_in d)) d.ties part)
            (sym (these ∙ ap (λ ks. places_of ks part) keys_are)) (vars_of part below);
      })
