use Rattle.std.proofs.Common.{rules, ◌≡◌, ◌++◌, ◌∷◌, [], ℕ, List, Contains, sym, subst}
use Rattle.std.proofs.lemmas.List.Elements.{Contains-push}
use Rattle.forced_closure.specs.Clauses.{AreOfGiven}
use Rattle.forced_closure.proofs.Adding.{given_more}
use Rattle.forced_closure.proofs.Standing.{given_stands}
use Rattle.forced_closure.proofs.given.push_given.Goals as goal

pub slot-requires : goal.slot-requires
slot-requires c = given_stands c.args.subject.now c.args.rel.0 c.args.pair c.spec.ensures.facts c.requires.given

pub returns-clause-each : goal.returns-clause-each
returns-clause-each c =
    let pushed : c.push.new.self.items ≡ c.args.facts.now.items ++ c.slot.result ∷ [] = search rules in
    subst (AreOfGiven c.args.subject.now) (sym pushed)
    (given_more c.args.subject.now c.args.facts.now.items c.slot.result c.args.rel.0 c.args.pair c.requires.each
    c.requires.given c.slot.ensures)

pub returns-clause-is_in : goal.returns-clause-is_in
returns-clause-is_in c =
    let pushed : c.push.new.self.items ≡ c.args.facts.now.items ++ c.slot.result ∷ [] = search rules in
    record {
      slot = c.slot.result;
      is_in = subst (λ (xs : List ℕ). Contains xs c.slot.result) (sym pushed)
          (Contains-push c.args.facts.now.items c.slot.result);
      is_slot = c.slot.ensures;
    }
