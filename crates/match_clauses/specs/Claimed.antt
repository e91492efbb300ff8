-- What a match says of a completion: of each place of its atoms at which a value is asked for, that the current value of the
-- atom's entity is that. A value is said by the row that names the value of the row that stands last.
use Rattle.std.specs.Prelude.{◌+◌, ℕ, Bool, true, false, if◌then◌else◌, List, [], ◌∷◌, ◌++◌, Option, Some, None, drop, slice_get}
use Rattle.currency_base.specs.declared.ids.AttrId.{AttrId}
use Rattle.currency_base.specs.declared.ids.EntId.{EntId}
use Rattle.currency_base.specs.declared.ids.RelId.{RelId}
use Rattle.currency_base.specs.declared.ids.RowId.{RowId}
use Rattle.query_model.specs.declared.query.Atom.{Atom}
use Rattle.query_model.specs.declared.query.Term.{Term}
use Rattle.query_model.specs.declared.query.Term.TheVariants as term
use Rattle.log_axioms.specs.Truth.{rows_in}
use Rattle.refutation_log.specs.declared.statement.Statement.TheVariants as says
use Rattle.spec_model.specs.Completion.{Rankings, ranking_of}
use Rattle.spec_model.specs.Current.{last_row}
use Rattle.spec_model.specs.declared.relation.Relation.{Relation}
use Rattle.order_literals.specs.Said.{Said, not_last, positive}
use Rattle.value_names.specs.Names.{name_of}

-- the row, or any where there is none
abbrev pub row_or_any : Option RowId → RowId
row_or_any None = record { 0 = 0 }
row_or_any (Some row) = row

-- that the value of the row which stands last is not current
abbrev pub not_current : List Relation → Rankings → RelId → AttrId → EntId → Said
not_current relations c rel attr ent =
    not_last rel attr (name_of (rows_in (slice_get relations rel.0)) attr.0
    (row_or_any (last_row (ranking_of c rel.0 attr.0 ent.0))))

-- a value is asked for
abbrev pub is_asked : Term → Bool
is_asked (term.Var v) = true
is_asked term.Any = false
is_asked (term.Constant x) = true

-- what is denied of an attribute, if its term asks for a value
abbrev pub term_said : List Relation → Rankings → RelId → EntId → AttrId → Term → List Said
term_said relations c rel ent attr t = if is_asked t then not_current relations c rel attr ent ∷ [] else []

-- of terms of the attributes from one on
abbrev pub terms_said : List Relation → Rankings → RelId → EntId → ℕ → List Term → List Said
terms_said relations c rel ent attr [] = []
terms_said relations c rel ent attr (t ∷ terms) =
    term_said relations c rel ent (record { 0 = attr }) t ++ terms_said relations c rel ent (attr + 1) terms

-- of an atom, whose first term is for the entity's name
abbrev pub atom_said : List Relation → Rankings → Atom → EntId → List Said
atom_said relations c atom ent = terms_said relations c atom.relation ent 0 (drop 1 atom.terms)

-- of atoms, each of an entity
abbrev pub atoms_said : List Relation → Rankings → List Atom → List EntId → List Said
atoms_said relations c [] entities = []
atoms_said relations c (atom ∷ atoms) [] = []
atoms_said relations c (atom ∷ atoms) (ent ∷ entities) = atom_said relations c atom ent ++ atoms_said relations c atoms entities

-- of a match: that the tuple at a place is an answer, or one of these
abbrev pub match_said : List Relation → Rankings → ℕ → List Atom → List EntId → List Said
match_said relations c answer atoms entities = positive (says.Answer answer) ∷ atoms_said relations c atoms entities
