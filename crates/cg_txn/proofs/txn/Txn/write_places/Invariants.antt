-- The places of the items so far stand behind what was there, and there is room for the others.
use Rattle.std.proofs.Common.{◌≡◌, ◌≤◌, ◌+◌, ◌-◌, ◌++◌, length, take, vec_len}
use Rattle.std.specs.Vec.{vec_capacity}
use Rattle.cg_txn.proofs.Places.{placed}
use Rattle.cg_txn.proofs.txn.Txn.write_places.Given as goal

abbrev pub invariant-loop-index : goal.invariant-loop-index
invariant-loop-index l = record {
  items : l.numbers.items ≡ l.fn.numbers.items ++ placed (take l.index l.items.items);
  capacity : vec_capacity l.numbers ≡ vec_capacity l.fn.numbers;
  room : vec_len l.numbers + (length l.items.items - l.index) ≤ vec_capacity l.numbers;
}
