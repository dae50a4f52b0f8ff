-- The place of each item is written in its turn, where it is a command.
use Rattle.std.proofs.Common.{rules, ◌≡◌, ◌+◌, ◌++◌, length, vec_len, sym, ap, ◌∙◌, arith}
use Rattle.std.proofs.lemmas.List.{append-nil}
use Rattle.std.specs.Option.{option_to_list}
use Rattle.std.specs.Vec.{vec_capacity}
use Rattle.cg_txn.specs.Places.{places_on}
use Rattle.cg_txn.proofs.Places.{at_last, one_more}
use Rattle.cg_txn.proofs.Taking.{same_length}
use Rattle.cg_txn.proofs.txn.Txn.write_places.Goals.{in-Some, in_default}
use Rattle.cg_txn.proofs.txn.Txn.write_places.Goals as goal

pub loop-index-init : goal.loop-index-init
loop-index-init c =
    let as_many : length c.self.inside.items.items ≡ length c.args.self.now.items = same_length c.self.inside.items.items ∙ ap (λ s. length s.items) c.self.view_is in
    record { items = sym (append-nil c.args.numbers.now.items); capacity = search rules; room = omega (arith, as_many, c.requires) }

pub loop-index-preserved : goal.loop-index-preserved
loop-index-preserved c =
    let xs = c.self.inside.items.items in
    let i = c.loop-index.index in
    let before = c.loop-index.invariant in
    elim c.match-place.branch [
      | in-Some w ↦
          let len : vec_len c.match-place.numbers ≡ vec_len c.loop-index.numbers + 1 = ap vec_len w.numbers-is ∙ w.push_reserved.ensures.len in
          let capacity : vec_capacity c.match-place.numbers ≡ vec_capacity c.loop-index.numbers = ap vec_capacity w.numbers-is ∙ w.push_reserved.ensures.capacity in
          record {
            items =
                one_more xs i c.index.result.now c.place.result (omega arith) c.index.ensures c.place.ensures _ _ _ before.items
                (ap (λ v. v.items) w.numbers-is ∙ w.push_reserved.ensures.items ∙ ap (λ r. c.loop-index.numbers.items ++ option_to_list r) (sym w.in-Some.is));
            capacity = capacity ∙ before.capacity;
            room = omega (arith, before.room, len, capacity);
          }
      | in_default w ↦
          let len : vec_len c.match-place.numbers ≡ vec_len c.loop-index.numbers = ap vec_len w.numbers-is in
          let capacity : vec_capacity c.match-place.numbers ≡ vec_capacity c.loop-index.numbers = ap vec_capacity w.numbers-is in
          record {
            items =
                one_more xs i c.index.result.now c.place.result (omega arith) c.index.ensures c.place.ensures _ _ _ before.items
                (ap (λ v. v.items) w.numbers-is ∙ sym (append-nil c.loop-index.numbers.items) ∙ ap (λ r. c.loop-index.numbers.items ++ option_to_list r) (sym w.in_default.is));
            capacity = capacity ∙ before.capacity;
            room = omega (arith, before.room, len, capacity);
          }
    ]

pub returns-clause-items : goal.returns-clause-items
returns-clause-items c =
    at_last c.self.inside.items.items c.loop-index.index c.args.numbers.now.items c.loop-index.numbers.items (omega arith) c.loop-index.invariant.items
    ∙ ap (λ s. c.args.numbers.now.items ++ places_on s.items) c.self.view_is
