use Rattle.std.proofs.Common.{[], ◌∷◌, ◌++◌, refl, sym, ap, subst, ◌∙◌, append_assoc}
use Rattle.std.specs.List.{flat_map}
use Rattle.cg_core.specs.State.{CoreState}
use Rattle.cg_replay.specs.Replay.{Replay, ending_text, tree_now}
use Rattle.cg_world_text.specs.World.{world_text}
use Rattle.cg_json_program.specs.Steps.{Aborts, HasNoneOpen, told_end}
use Rattle.cg_json_program.specs.Report.{Report, plain_line, told_line}
use Rattle.cg_json_world.specs.WorldValue.{world_line}
use Rattle.cg_json_program.proofs.Once.{aborts_more}
use Rattle.cg_json_program.proofs.Plain.{one_more}
use Rattle.cg_json_program.proofs.reporter.ending.Goals as goal

pub ends-preserved : goal.ends-preserved
ends-preserved c =
    let so_far = c.ends.invariant.told in
    let more = c.in_ok-append_abort.ensures.aborted c.if-branch.true in
    let x : Report = told_end c.ends.player more.0 in
    record {
      told = (
        so_far.0 ++ x ∷ [],
        subst (Aborts c.args.player.now (so_far.0 ++ x ∷ [])) (sym more.2) (aborts_more so_far.0 c.args.player.now c.ends.player more.0 so_far.1 more.1),
        more.3 ∙ ap (λ l. l ++ told_line x) so_far.2 ∙ one_more told_line so_far.0 x,
        so_far.3
            ∙ ap (λ l. flat_map plain_line so_far.0 ++ l) more.4
            ∙ sym (append_assoc (flat_map plain_line so_far.0) (plain_line x) (ending_text c.append_abort.new.player.core))
            ∙ ap (λ l. l ++ ending_text c.append_abort.new.player.core) (one_more plain_line so_far.0 x),
      );
    }

pub returns : goal.returns
returns c =
    let so_far = c.ends.invariant.told in
    let last = c.in_ok-append_abort.ensures.ended c.if-branch.false in
    let m : Replay = c.append_abort.new.player in (
      record {
        ends = so_far.0;
        last = m;
        aborted = subst (Aborts c.args.player.now so_far.0) (sym last.1) so_far.1;
        closed = subst HasNoneOpen (sym last.1) last.0;
        told = c.in_ok-write_world.ensures ∙ ap (λ l. l ++ world_line c.tree.result.now.tree) (last.2 ∙ so_far.2) ∙ ap (λ T. flat_map told_line so_far.0 ++ world_line T) (c.tree.ensures.value ∙ ap (λ (d : CoreState). tree_now d) c.core.ensures);
        answered = so_far.3 ∙ ap (λ l. flat_map plain_line so_far.0 ++ l) (last.3 ∙ ap (λ (s : Replay). world_text (tree_now s.core)) (sym last.1));
      },
      refl,
    )
