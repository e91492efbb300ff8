use Rattle.std.proofs.Common.{◌≡◌, ◌++◌}
use Rattle.known_models.specs.Ranked.{ArePut, HaveRoom}
use Rattle.known_models.proofs.placing.put_lists.Given as goal

abbrev pub invariant-loop-list : goal.invariant-loop-list
invariant-loop-list l = record {
  all : l.yielded ++ l.list-iterator.rest.items ≡ l.fn.lists;
  room : HaveRoom l.initial.completion l.fn.lists;
  put : ArePut l.yielded l.initial.completion l.completion;
}
