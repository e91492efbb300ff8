use Rattle.currency_ask.proofs.Earlier.{pairs_hold}
use Rattle.currency_ask.proofs.pairs.proved_pairs_hold.Goals as goal

pub returns : goal.returns
returns c = λ pairs steps on proved.
    pairs_hold c.search_logs_are_accepted.ensures.accepted c.literals_agree.ensures.orders c.shown_is_right.ensures
    c.args.search.now c.is_search.ensures
    c.requires pairs on steps proved
