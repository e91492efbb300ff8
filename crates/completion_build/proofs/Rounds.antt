-- Three places of which each beats the next, and the third the first, are a cycle.
use Rattle.std.proofs.Common.{◌≡◌, ℕ, List, get_or}
use Rattle.std.proofs.lemmas.List.Elements.{Contains-get_or}
use Rattle.std.proofs.lemmas.Option.{get_or_from_slice_get, slice_get_within}
use Rattle.currency_base.specs.declared.ids.RowId.{RowId}
use Rattle.completion_build.specs.declared.built.Cycle.{Cycle}
use Rattle.completion_build.specs.Contests.{Contest, Puts, Beats}
use Rattle.completion_build.specs.Judged.{IsRound}

-- the rows that are read at two places
read_put : (c : Contest) (i j : ℕ) (d : RowId) → Beats c i j → Puts c (get_or c.rows i d) (get_or c.rows j d)
read_put c i j d b =
    rw (get_or_from_slice_get c.rows i b.first d b.is_first, get_or_from_slice_get c.rows j b.second d b.is_second) b.put

pub is_round : (c : Contest) (rows : List RowId) (ent i j k : ℕ) (d : RowId) (cycle : Cycle) → rows ≡ c.rows
    → Beats c i j → Beats c j k → Beats c k i
    → cycle.rel ≡ c.rel → cycle.attr ≡ c.attr → cycle.ent.0 ≡ ent → cycle.first ≡ get_or rows i d
    → cycle.second ≡ get_or rows j d → cycle.third ≡ get_or rows k d
    → IsRound c ent cycle
is_round c rows ent i j k d cycle same a b e rel_is attr_is ent_is first second third =
    let first_is : cycle.first ≡ get_or c.rows i d = rw (← same) first in
    let second_is : cycle.second ≡ get_or c.rows j d = rw (← same) second in
    let third_is : cycle.third ≡ get_or c.rows k d = rw (← same) third in
    record {
      rel_is = rel_is;
      attr_is = attr_is;
      ent_is = ent_is;
      has_first = rw first_is (Contains-get_or c.rows i d (slice_get_within c.rows i a.first a.is_first));
      has_second = rw second_is (Contains-get_or c.rows j d (slice_get_within c.rows j b.first b.is_first));
      has_third = rw third_is (Contains-get_or c.rows k d (slice_get_within c.rows k e.first e.is_first));
      first_second = rw (first_is, second_is) (read_put c i j d a);
      second_third = rw (second_is, third_is) (read_put c j k d b);
      third_first = rw (third_is, first_is) (read_put c k i d e);
    }
