use Rattle.order_search.proofs.matching.is_settled.Goals as goal

pub answer-own-requires : goal.answer-own-requires
answer-own-requires c = c.requires.answer_within
