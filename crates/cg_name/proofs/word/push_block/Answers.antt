use Rattle.std.proofs.Common.{◌≡◌, ◌++◌, take, sym, ap, ◌∙◌, arith, take_all}
use Rattle.std.specs.List.{flat_map}
use Rattle.cg_name.specs.Word.{quoted_byte}
use Rattle.cg_name.proofs.Backslashes.{as_they_are, first_backslash, taken_back}
use Rattle.cg_name.proofs.word.push_block.Goals as goal

pub returns-then-backslashes-eq0-clause-items : goal.returns-then-backslashes-eq0-clause-items
returns-then-backslashes-eq0-clause-items g c =
    let block = c.args.block.now in
    let whole : take g.row.N block ≡ block = take_all g.row.N block (omega arith) in
    c.push_all.ensures.items ∙ ap (λ bs. c.args.out.now.items ++ bs) (sym (ap (flat_map quoted_byte) whole ∙ as_they_are block (sym c.backslashes_in-backslashes.ensures ∙ c.if-backslashes-eq0.true)))

pub bounds-block-plain : goal.bounds-block-plain
bounds-block-plain g c = let t = c.told-block in omega (arith, (first_backslash c.args.block.now c.backslashes_in-backslashes.result (omega arith) c.backslashes_in-backslashes.ensures c.if-backslashes-eq0.false).within)

pub push_behind_backslash-requires-clause-special : goal.push_behind_backslash-requires-clause-special
push_behind_backslash-requires-clause-special g c = (first_backslash c.args.block.now c.backslashes_in-backslashes.result (omega arith) c.backslashes_in-backslashes.ensures c.if-backslashes-eq0.false).takes

pub push_behind_backslash-requires-clause-room : goal.push_behind_backslash-requires-clause-room
push_behind_backslash-requires-clause-room g c =
    let first = first_backslash c.args.block.now c.backslashes_in-backslashes.result (omega arith) c.backslashes_in-backslashes.ensures c.if-backslashes-eq0.false in
    let t = c.told-block in
    omega (arith, first.within, c.truncate.ensures.len, c.truncate.ensures.capacity, c.push_all.ensures.len, c.push_all.ensures.capacity, c.requires.room, c.len-start.ensures)

pub returns-clause-items : goal.returns-clause-items
returns-clause-items g c =
    let out = c.args.out.now in
    let first = first_backslash c.args.block.now c.backslashes_in-backslashes.result (omega arith) c.backslashes_in-backslashes.ensures c.if-backslashes-eq0.false in
    taken_back out.items c.args.block.now c.push_all.new.out.items c.truncate.new.self.items _ c.len-start.result _ first (c.len-start.ensures ∙ out.ok.0) c.push_all.ensures.items c.truncate.ensures.items c.push_behind_backslash.ensures.items
