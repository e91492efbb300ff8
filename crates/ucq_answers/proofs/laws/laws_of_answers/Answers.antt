use Rattle.std.proofs.lemmas.Option.{get_or_from_slice_get, slice_get_within}
use Rattle.ucq_answers.proofs.Determined.{one_list}
use Rattle.ucq_answers.proofs.laws.laws_of_answers.Goals as goal

pub returns-clause-determined : goal.returns-clause-determined
returns-clause-determined c = one_list

pub returns-clause-matched : goal.returns-clause-matched
returns-clause-matched c = λ q instance tuple m is.
    let inside = slice_get_within q.disjuncts m.disjunct is.disjunct is.is_disjunct in
    let there = get_or_from_slice_get q.disjuncts m.disjunct is.disjunct is.disjunct is.is_disjunct in
    record {
      disjunct = is.disjunct;
      is_disjunct = (m.disjunct, inside, there);
      values = m.values;
      meets =
          is.meets;
      is_head = is.is_head;
    }
