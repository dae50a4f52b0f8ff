-- One byte more is tested and written; a byte that may not stand in a name is in no name.
use Rattle.std.proofs.Common.{◌≡◌, ◌<◌, ◌+◌, ◌-◌, ◌++◌, length, take, get_or, replicate, subst, sym, ap, ◌∙◌, arith, length-take}
use Rattle.std.specs.List.{AllByRecursion}
use Rattle.std.proofs.lemmas.List.{take_more}
use Rattle.cg_name.specs.SaveName.{IsSaveNameByte}
use Rattle.cg_name.proofs.Filling.{filled_more, all_push}
use Rattle.cg_name.proofs.save_name.filled.Goals as goal

pub loop-i-preserved : goal.loop-i-preserved
loop-i-preserved c =
    let name = c.args.name.now in
    let i = c.loop-i.i in
    let more = take_more name i 0 c.loop-i-test.true in
    let long : length (take c.loop-i.i c.args.name.now) ≡ c.loop-i.i = omega (arith, length-take c.loop-i.i c.args.name.now, c.loop-i-test.true) in
    let room : c.loop-i.i < 16 = omega (arith, c.requires, c.loop-i-test.true) in
    record {
      tested = subst (AllByRecursion IsSaveNameByte) (sym more) (all_push IsSaveNameByte (take i name) (get_or name i 0) c.loop-i.invariant.tested (c.is_save_name_byte.ensures.0 c.if-not-is_save_name_byte.false));
      bytes = filled_more (take i name) c.loop-i.bytes 16 i (get_or name i 0) long room c.loop-i.invariant.bytes ∙ ap (λ z. z ++ replicate (16 - (c.loop-i.i + 1)) 0) (sym more);
    }
