use Rattle.command_stages.proofs.OneRead.{question_read_one, question_tree_one, spec_read_one}
use Rattle.command_stages.proofs.laws.one_read.Goals as goal

pub returns-clause-specs : goal.returns-clause-specs
returns-clause-specs c = spec_read_one record {
  spec_tree = c.one_specification.ensures.one_tree;
  spec_refusal = c.one_specification.ensures.one_refusal;
  spec_not_both = c.one_specification.ensures.not_both;
  question_tree = c.one_question.ensures.one_tree;
  question_refusal = c.one_question.ensures.one_refusal;
  question_not_both = c.one_question.ensures.not_both;
  binding = c.one_outcome.ensures;
  question_binding = c.one_bound_question.ensures;
}

pub returns-clause-questions : goal.returns-clause-questions
returns-clause-questions c = question_read_one record {
  spec_tree = c.one_specification.ensures.one_tree;
  spec_refusal = c.one_specification.ensures.one_refusal;
  spec_not_both = c.one_specification.ensures.not_both;
  question_tree = c.one_question.ensures.one_tree;
  question_refusal = c.one_question.ensures.one_refusal;
  question_not_both = c.one_question.ensures.not_both;
  binding = c.one_outcome.ensures;
  question_binding = c.one_bound_question.ensures;
}

pub returns-clause-trees : goal.returns-clause-trees
returns-clause-trees c = question_tree_one record {
  spec_tree = c.one_specification.ensures.one_tree;
  spec_refusal = c.one_specification.ensures.one_refusal;
  spec_not_both = c.one_specification.ensures.not_both;
  question_tree = c.one_question.ensures.one_tree;
  question_refusal = c.one_question.ensures.one_refusal;
  question_not_both = c.one_question.ensures.not_both;
  binding = c.one_outcome.ensures;
  question_binding = c.one_bound_question.ensures;
}
