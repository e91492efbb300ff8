use Rattle.std.proofs.Common.{◌≡◌, ◌∙◌, ℕ, List, [], Option, Some, None, slice_get, IfSome, IfNone, Contains, sym, ap, rules}
use Rattle.std.specs.Cmp.Rules.{comparing}
use Rattle.std.specs.List.{list_any, position}
use Rattle.std.specs.Option.{is_some}
use Rattle.std.specs.Str.{bytes_eq}
use Rattle.std.proofs.lemmas.Slice.Eq.{bytes_eq-Decides}
use Rattle.std.proofs.lemmas.Bool.{false≢true}
use Rattle.std.proofs.lemmas.List.Quantifiers.{position-Some}
use Rattle.std.proofs.lemmas.Map.Views.{list_any-from_Contains}
use Rattle.std.proofs.lemmas.Option.{slice_get-get_or}
use Rattle.name_index.proofs.NameIndex.find.Goals as goal

-- the place of the first name that is equal has that name
found : (names : List (List ℕ)) (name : List ℕ) (r : Option ℕ) → r ≡ position (bytes_eq name) names
    → IfSome r (λ place. slice_get names place ≡ Some name)
found names name None e = tt
found names name (Some i) e =
    let h = position-Some (bytes_eq name) names i [] (sym e) in
    slice_get-get_or names i [] h.0 ∙ sym (ap Some ((bytes_eq-Decides name _).0 h.1))

-- where no name passes the test, the name is not there
missing : (names : List (List ℕ)) (name : List ℕ) (r : Option ℕ) → is_some r ≡ list_any (bytes_eq name) names
    → IfNone r (Contains names name → ⊥)
missing names name None e = λ there. absurd
    (false≢true (e ∙ list_any-from_Contains {eq = bytes_eq} (search (comparing, rules)) name names there))
missing names name (Some i) e = tt

pub returns-clause-found : goal.returns-clause-found
returns-clause-found c = found c.args.self.now c.args.name.now c.get_index_of.result
    (rw c.self.view_is at c.get_index_of.ensures.index)

pub returns-clause-missing : goal.returns-clause-missing
returns-clause-missing c = missing c.args.self.now c.args.name.now c.get_index_of.result
    (rw c.self.view_is at c.get_index_of.ensures.found)
