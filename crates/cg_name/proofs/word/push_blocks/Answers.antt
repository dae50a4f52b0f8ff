use Rattle.std.proofs.Common.{length, ap, ◌∙◌, arith, length-drop}
use Rattle.std.proofs.lemmas.List.{take_rest}
use Rattle.cg_name.proofs.Backslashes.{behind_front}
use Rattle.cg_name.proofs.word.push_blocks.Goals as goal

pub loop-block-preserved : goal.loop-block-preserved
loop-block-preserved g c =
    let rest = c.loop-block.rest.now in
    let first = c.in-Some.ensures.cases in
    record {
      items = behind_front rest c.in-Some.block.now c.loop-block.out.items c.push_block.new.out.items _ g.row.N c.push_block.result first.same c.push_block.ensures.within c.push_block.ensures.items c.loop-block.invariant.items;
      room = omega (arith, ap length (take_rest rest c.push_block.result), length-drop c.push_block.result rest, first.enough, c.push_block.ensures.within, c.push_block.ensures.room, c.loop-block.invariant.room);
      capacity = c.push_block.ensures.capacity ∙ c.loop-block.invariant.capacity;
    }
