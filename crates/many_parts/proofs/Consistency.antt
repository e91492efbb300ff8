-- A specification has a consistent completion exactly where each part has one, and each one of a part extends to the whole.
use Rattle.std.proofs.Common.{ℕ, List, All, Contains, subst}
use Rattle.std.proofs.lemmas.List.Elements.{All-contains, All-contains_itself, All-weaker}
use Rattle.part_join.specs.Fits.{CompletionsFit}
use Rattle.part_laws.specs.Laws.{PartsNarrow}
use Rattle.part_laws.specs.Parts.{IsPartOf, IsNarrowed}
use Rattle.part_laws.proofs.Rows.{place_of}
use Rattle.part_narrow.specs.Laws.{NarrowsExist, Narrowed}
use Rattle.spec_model.specs.Completion.{Rankings}
use Rattle.spec_model.specs.Consistent.{IsConsistent, IsSatisfiable}
use Rattle.spec_model.specs.Facts.{IsSpecification}
use Rattle.spec_model.specs.Spec.{Spec}
use Rattle.many_parts.specs.ManyParts.{Part, ArePartsOf, PartsAreConsistent, PartsAreInconsistent, PartsExtend}
use Rattle.many_parts.proofs.AllJoined.{Pieces, ArePieces, all_joined, narrowed_joined}
use Rattle.many_parts.proofs.AllKept.{consistent_joined}
use Rattle.many_parts.proofs.Chosen.{AreChosen, chosen_of, are_chosen, with_chosen, with_chosen_at, are_chosen_with}

-- ---- from the whole to a part

-- a consistent completion of a part that says of its rows what one of the whole says
pub record IsNarrowedTo (s : Spec) (p : Part) (c : Rankings) : Type 0 where
  pub made : Narrowed s p.places p.spec c
  pub consistent : IsConsistent p.spec made.narrow

pub narrowed_to : PartsNarrow → NarrowsExist → (s : Spec) (p : Part) (c : Rankings) → IsSpecification s
    → IsPartOf s p.scope p.places p.spec → IsConsistent s c → IsNarrowedTo s p c
narrowed_to narrowing exist s p c whole_is of consistent =
    let made = exist s p.scope p.places p.spec c of consistent.completion in
    record {
      made = made;
      consistent = narrowing s p.scope p.places p.spec c made.narrow whole_is of made.shape made.narrowed consistent;
    }

part_at : (s : Spec) (parts : List Part) (p : Part) → ArePartsOf s parts → Contains parts p
    → IsPartOf s p.scope p.places p.spec
part_at s parts p are among = All-contains (λ (q : Part). IsPartOf s q.scope q.places q.spec) parts p are.each among

each_consistent : PartsNarrow → NarrowsExist → (s : Spec) (parts : List Part) → IsSpecification s → ArePartsOf s parts
    → IsSatisfiable s → All (λ p. IsSatisfiable p.spec) parts
each_consistent narrowing exist s parts whole_is are satisfiable =
    All-weaker (Contains parts) (λ (p : Part). IsSatisfiable p.spec)
    (λ p among.
    let to = narrowed_to narrowing exist s p satisfiable.0 whole_is (part_at s parts p are among) satisfiable.1 in
    (to.made.narrow, to.consistent))
    parts (All-contains_itself parts)

-- ---- from the parts to the whole

-- a specification with these parts, and consistent completions of them
abbrev pieces : Spec → List Part → (ℕ → Rankings) → Pieces
pieces s parts chosen = record { s = s; parts = parts; chosen = chosen }

are_pieces : (s : Spec) (parts : List Part) (chosen : ℕ → Rankings) → IsSpecification s → ArePartsOf s parts
    → AreChosen parts chosen → ArePieces (pieces s parts chosen)
are_pieces s parts chosen whole_is are chosen_are = record { whole_is = whole_is; are = are; chosen = chosen_are }

whole_consistent : CompletionsFit → (s : Spec) (parts : List Part) → IsSpecification s → ArePartsOf s parts
    → All (λ p. IsSatisfiable p.spec) parts → IsSatisfiable s
whole_consistent fit s parts whole_is are consistent =
    let chosen = chosen_of parts consistent in
    let b = pieces s parts chosen in
    (all_joined b, consistent_joined fit b (are_pieces s parts chosen whole_is are (are_chosen parts consistent)))

pub parts_extend : CompletionsFit → PartsExtend
parts_extend fit s parts p is narrow in_part =
    let at = place_of parts p is.among in
    let chosen = with_chosen (chosen_of parts is.consistent) at.0 narrow in
    let b = pieces s parts chosen in
    let are = are_pieces s parts chosen is.whole_is is.are
    (are_chosen_with parts (chosen_of parts is.consistent) at.0 p narrow (are_chosen parts is.consistent) at.1 in_part) in (
      all_joined b,
      consistent_joined fit b are,
      subst (λ (c : Rankings). IsNarrowed s.relations p.places (all_joined b) c)
          (with_chosen_at (chosen_of parts is.consistent) at.0 narrow)
          (narrowed_joined fit b at.0 p are at.1),
    )

-- ---- the laws

pub parts_are_consistent : PartsNarrow → NarrowsExist → CompletionsFit → PartsAreConsistent
parts_are_consistent narrowing exist fit s parts whole_is are =
    (each_consistent narrowing exist s parts whole_is are, whole_consistent fit s parts whole_is are)

pub parts_are_inconsistent : PartsNarrow → NarrowsExist → PartsAreInconsistent
parts_are_inconsistent narrowing exist s parts p whole_is are among not_part = (
  no_completion,
  λ rel pair c consistent. absurd (no_completion (c, consistent)),
  λ rel attr ent value c consistent. absurd (no_completion (c, consistent)),
)
  where
    no_completion : IsSatisfiable s → ⊥
    no_completion satisfiable =
        let to = narrowed_to narrowing exist s p satisfiable.0 whole_is (part_at s parts p are among) satisfiable.1 in
        not_part (to.made.narrow, to.consistent)
