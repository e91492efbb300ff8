-- The part of closed places, and its completions.
use Rattle.std.proofs.Common.{IfOk, IfSome, Option, Result}
use Rattle.std.proofs.lemmas.Option.{IfSome_then}
use Rattle.std.proofs.lemmas.Result.{IfOk-weaker}
use Rattle.part_join.specs.Fits.{CompletionsFit, FitsPart}
use Rattle.part_laws.specs.Parts.{Places}
use Rattle.part_limits.specs.Laws.{PartsAreWithin}
use Rattle.search_logs.specs.SearchLogs.{IsWithin}
use Rattle.spec_model.specs.Completion.{Rankings}
use Rattle.spec_model.specs.Consistent.{IsConsistent}
use Rattle.spec_model.specs.Facts.{IsSpecification}
use Rattle.spec_model.specs.Spec.{Spec}
use Rattle.spec_parts.specs.Built.{AreClosedPlaces, IsBuilt}

-- it is within the limits
pub part_within : PartsAreWithin → (s : Spec) (n : Places) (part : Spec) → IsWithin s → AreClosedPlaces s n → IsBuilt s n part
    → IsSpecification part → IsWithin part
part_within law s n part whole closed built specification =
    let none = law s closed.0 n part whole.specification (built closed.0 closed.1 closed.2)
    (record { parts = whole.parts; variables_few = whole.variables_few; instances_few = whole.instances_few }) in
    record {
      specification = specification;
      parts = none.parts;
      variables_few = none.variables_few;
      instances_few = none.instances_few;
    }

-- its consistent completions can be joined with one of the whole
pub found_fits : {E : Type 0} → CompletionsFit → (s : Spec) (n : Places) (part : Spec) (result : Result (Option Rankings) E)
    → AreClosedPlaces s n → IsBuilt s n part → IfOk result (λ found. IfSome found (IsConsistent part))
    → IfOk result (λ found. IfSome found (FitsPart s.relations n))
found_fits law s n part result closed built is =
    IfOk-weaker result (λ found. IfSome found (IsConsistent part)) (λ found. IfSome found (FitsPart s.relations n))
    (λ found each.
    IfSome_then found each
    (λ c consistent. law s closed.0 n part c (built closed.0 closed.1 closed.2) consistent.completion))
    is
