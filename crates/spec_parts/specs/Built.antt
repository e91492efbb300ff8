-- A part as it is built.
use Rattle.part_laws.specs.Parts.{Scope, Places, ArePlacesOf, IsClosed, IsPartOf}
use Rattle.spec_model.specs.Spec.{Spec}

-- these are the places of a closed scope
abbrev pub AreClosedPlaces : Spec → Places → Type 0
AreClosedPlaces s n = (scope : Scope) × ArePlacesOf s.relations scope n × IsClosed s scope

-- it is the part of these places, of whichever scope they are those
abbrev pub IsBuilt : Spec → Places → Spec → Type 0
IsBuilt s n part = (scope : Scope) → ArePlacesOf s.relations scope n → IsClosed s scope → IsPartOf s scope n part
