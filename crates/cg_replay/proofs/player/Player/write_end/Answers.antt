use Rattle.std.proofs.Common.{◌≡◌, ◌++◌, ap, subst, sym, ◌∙◌, OnErr, OnOk}
use Rattle.std.specs.Io.KnownBytes.{Appends}
use Rattle.cg_lines.specs.Device.{AppendsFront}
use Rattle.cg_world_text.specs.World.{world_text}
use Rattle.cg_replay.specs.Replay.{Replay, ending_text, tree_now}
use Rattle.cg_replay.proofs.Gathered.{front_with_rest, with_rest}
use Rattle.cg_replay.proofs.player.Player.write_end.Goals as goal
use Rattle.cg_replay.proofs.player.Player.write_end.Goals.{in-Ok, in-Err}

pub returns-clause-whole : goal.returns-clause-whole
returns-clause-whole g c =
    let before = g.K.Sink.taken c.args.sink.now in
    let whole = c.args.waiting.now.items ++ ending_text c.args.self.now.core in
    elim c.match-append_aborts.branch [
      | in-Ok w ↦
          let aborted = w.in-Ok.ensures.aborted in
          let same : c.append_aborts.new.out.items ++ world_text w.tree.result.now.tree ≡ whole =
          ap (λ T. c.append_aborts.new.out.items ++ world_text T) (w.tree.ensures.value ∙ ap (λ (r : Replay). tree_now r.core) c.self.view_is)
          ∙ with_rest c.args.waiting.now.items aborted.0 (world_text (tree_now c.append_aborts.new.self.core)) (ending_text c.args.self.now.core) c.append_aborts.new.out.items aborted.1 aborted.2 in
          let written = subst (λ l. OnOk w.write_tree.result (Appends before (g.K.Sink.taken w.write_tree.new.sink) l)) same w.write_tree.ensures.whole in
          let there = subst (λ k. OnOk w.write_tree.result (Appends before (g.K.Sink.taken k) whole)) (sym w.sink-is) written in
          subst (λ r. OnOk r (Appends before (g.K.Sink.taken c.match-append_aborts.sink) whole)) (sym w.result-is) there
      | in-Err w ↦ subst (λ r. OnOk r (Appends before (g.K.Sink.taken c.match-append_aborts.sink) whole)) (sym w.result-is) tt
    ]

pub returns-clause-front : goal.returns-clause-front
returns-clause-front g c =
    let before = g.K.Sink.taken c.args.sink.now in
    let whole = c.args.waiting.now.items ++ ending_text c.args.self.now.core in
    elim c.match-append_aborts.branch [
      | in-Ok w ↦
          let aborted = w.in-Ok.ensures.aborted in
          let same : c.append_aborts.new.out.items ++ world_text w.tree.result.now.tree ≡ whole =
          ap (λ T. c.append_aborts.new.out.items ++ world_text T) (w.tree.ensures.value ∙ ap (λ (r : Replay). tree_now r.core) c.self.view_is)
          ∙ with_rest c.args.waiting.now.items aborted.0 (world_text (tree_now c.append_aborts.new.self.core)) (ending_text c.args.self.now.core) c.append_aborts.new.out.items aborted.1 aborted.2 in
          let written = subst (λ l. OnErr w.write_tree.result (AppendsFront before (g.K.Sink.taken w.write_tree.new.sink) l)) same w.write_tree.ensures.front in
          let there = subst (λ k. OnErr w.write_tree.result (AppendsFront before (g.K.Sink.taken k) whole)) (sym w.sink-is) written in
          subst (λ r. OnErr r (AppendsFront before (g.K.Sink.taken c.match-append_aborts.sink) whole)) (sym w.result-is) there
      | in-Err w ↦
          let first = w.in-Err.ensures.first in
          let sent = front_with_rest before (g.K.Sink.taken w.send_last.new.sink) c.args.waiting.now.items first.0 first.1 (ending_text c.args.self.now.core) c.append_aborts.new.out.items first.2 first.3 w.send_last.ensures.front in
          let there = subst (λ k. AppendsFront before (g.K.Sink.taken k) whole) (sym w.sink-is) sent in
          subst (λ r. OnErr r (AppendsFront before (g.K.Sink.taken c.match-append_aborts.sink) whole)) (sym w.result-is) there
    ]
