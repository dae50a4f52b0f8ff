use Rattle.std.proofs.Common.{ap, codes, false, ◌∙◌, ◌++◌}
use Rattle.std.proofs.lemmas.Result.{on_ok_weaker}
use Rattle.cg_json.specs.Text.{json_text, name_text}
use Rattle.cg_json_world.specs.Values.{controllers_value}
use Rattle.cg_json_world.proofs.Pieces.{object_of_pieces}
use Rattle.cg_json_world.proofs.world.append_tree.Goals as goal

pub returns : goal.returns
returns c =
    let all = json_text (controllers_value c.args.tree.now.tree.controllers) in
    let value = c.in_ok-write_controllers.ensures ∙ ap (λ s. c.write_name.new.out.items ++ json_text (controllers_value s)) c.controllers.ensures in
    on_ok_weaker c.append_online.result
    (object_of_pieces c.args.out.now.items c.push.new.self.items c.write_name.new.out.items c.write_controllers.new.out.items c.append_online.new.out.items (name_text false (codes "controllers")) all _ c.in_ok-push.ensures.items c.in_ok-write_name.ensures value)
    c.append_online.ensures
