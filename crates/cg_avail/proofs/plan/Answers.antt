use Rattle.std.proofs.Common.{refl, sym, ◌∙◌}
use Rattle.cg_text.proofs.Sets.{tells_none}
use Rattle.cg_avail.proofs.Refusing.{for_missing, for_used, past_both}
use Rattle.cg_avail.proofs.plan.Goals.{else-not-is_root-via-else-not-is_root, else-not-is_root-via-then-not-is_root+else-has_processes, else-not-is_root-via-then-not-is_root+then-has_processes+else-not-is_empty}
use Rattle.cg_avail.proofs.plan.Goals as goal

pub returns-in-Some : goal.returns-in-Some
returns-in-Some c =
    sym (for_missing c.args.available c.args.current c.args.ops c.args.children_use c.args.has_processes c.args.is_root c.in-Some.controller (sym c.in-Some.ensures))

pub returns-in-Some-first_in_use : goal.returns-in-Some-first_in_use
returns-in-Some-first_in_use c =
    sym (for_used c.args.available c.args.current c.args.ops c.args.children_use c.args.has_processes c.args.is_root
    (sym c.first_unavailable.ensures ∙ c.in_default.is) c.in-Some-first_in_use.controller (sym c.in-Some-first_in_use.ensures))

pub returns-then-not-is_empty : goal.returns-then-not-is_empty
returns-then-not-is_empty c =
    sym (past_both c.args.available c.args.current c.args.ops c.args.children_use c.args.has_processes c.args.is_root
    (sym c.first_unavailable.ensures ∙ c.in_default.is) (sym c.first_in_use.ensures ∙ c.in_default-first_in_use.is)
    c.union.result c.difference-planned.result c.union.ensures c.difference-planned.ensures c.is_empty.result (tells_none _ _ c.is_empty.ensures)
    ∙ (rw (c.if-not-is_root.true, c.if-has_processes.true, c.if-not-is_empty.true)))

pub returns : goal.returns
returns c =
    let decided = past_both c.args.available c.args.current c.args.ops c.args.children_use c.args.has_processes c.args.is_root
    (sym c.first_unavailable.ensures ∙ c.in_default.is) (sym c.first_in_use.ensures ∙ c.in_default-first_in_use.is)
    c.union.result c.difference-planned.result c.union.ensures c.difference-planned.ensures in
    elim c.else-not-is_root.branch [
      | else-not-is_root-via-then-not-is_root+then-has_processes+else-not-is_empty w ↦
          sym (decided w.is_empty.result (tells_none _ _ w.is_empty.ensures) ∙ (rw (w.if-not-is_root.true, w.if-has_processes.true, w.if-not-is_empty.false)))
      | else-not-is_root-via-then-not-is_root+else-has_processes w ↦ sym (decided _ refl ∙ (rw (w.if-not-is_root.true, w.if-has_processes.false)))
      | else-not-is_root-via-else-not-is_root w ↦ sym (decided _ refl ∙ (rw w.if-not-is_root.false))
    ]
