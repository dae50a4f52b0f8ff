use Rattle.std.proofs.Common.{◌++◌, ◌∙◌}
use Rattle.cg_name.proofs.Growing.{first, more}
use Rattle.cg_diff.specs.Difference.{control_change, cpus_change, depth_change, descendants_change, freeze_change}
use Rattle.std.proofs.lemmas.Result.{on_ok_weaker}
use Rattle.cg_diff.proofs.lines.append_settings.Goals as goal

pub returns : goal.returns
returns c =
    let old = c.args.out.now.items in
    let p = c.args.path.now in
    let s = c.args.before.now in
    let t = c.args.after.now in
    let control = control_change p s.control t.control in
    let freeze = freeze_change p s.freeze t.freeze in
    let cpus = cpus_change p s.cpus t.cpus in
    let descendants = descendants_change p s.max_descendants t.max_descendants in
    let depth = depth_change p s.max_depth t.max_depth in
    let two = more freeze (first old control (c.in_ok-append_setting.ensures ∙ (λ i. old ++ control_change p (c.control.ensures i) (c.control-2.ensures i))))
    (c.in_ok-append_setting-2.ensures ∙ (λ i. c.append_setting.new.out.items ++ freeze_change p (c.freeze.ensures i) (c.freeze-2.ensures i))) in
    let three = more cpus two (c.in_ok-append_setting-3.ensures ∙ (λ i. c.append_setting-2.new.out.items ++ cpus_change p ((c.get.ensures ∙ c.cpus.ensures) i) ((c.get-2.ensures ∙ c.cpus-2.ensures) i))) in
    let four = more descendants three (c.in_ok-append_setting-4.ensures ∙ (λ i. c.append_setting-3.new.out.items ++ descendants_change p (c.max_descendants.ensures i) (c.max_descendants-2.ensures i))) in
    on_ok_weaker c.append_setting-5.result (λ e. (more depth four (e ∙ (λ i. c.append_setting-4.new.out.items ++ depth_change p (c.max_depth.ensures i) (c.max_depth-2.ensures i)))).is) c.append_setting-5.ensures
