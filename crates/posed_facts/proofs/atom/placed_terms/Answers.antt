use Rattle.std.proofs.Common.{Some}
use Rattle.posed_facts.specs.Questions.{name_term}
use Rattle.posed_facts.proofs.Places.{all_put}
use Rattle.posed_facts.proofs.atom.placed_terms.Goals as goal

pub returns : goal.returns
returns c =
    all_put (name_term (Some c.args.name.now)) c.args.term c.args.attrs c.args.attr c.requires c.in_ok-terms.terms
    c.put_any.new.terms c.push.new.self c.put_any-2.new.terms c.in_ok-terms.ensures c.in_ok-put_any.ensures
    c.in_ok-push.ensures.ok c.in_ok-put_any-2.ensures
