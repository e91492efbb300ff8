use Rattle.std.proofs.Common.{◌≡◌, List, [], ◌∷◌, length, refl}
use Rattle.currency_base.specs.declared.value.Value.{Value}
use Rattle.currency_ask.proofs.Completions.{none_reported}
use Rattle.currency_ask.proofs.answers.unanswered.Goals as goal

none_is : (tuples : List (List Value)) → length tuples ≡ 0 → tuples ≡ []
none_is [] e = refl
none_is (tuple ∷ tuples) e = let no : ⊥ = cc in absurd no

pub returns : goal.returns
returns c = λ s query budget within are.
    none_reported c.completions_are_writable.ensures s within query c.args.candidates are
    (none_is c.args.candidates.tuples c.requires.none) c.requires.few
    c.new.result c.new.ensures c.into_completions-completions.result c.into_completions-completions.ensures
    c.listed.result c.listed.ensures budget
