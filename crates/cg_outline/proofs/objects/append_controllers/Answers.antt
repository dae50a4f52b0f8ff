use Rattle.std.proofs.Common.{◌≡◌, ℕ, List, ◌++◌, ap, ◌∙◌, append_assoc, codes, true}
use Rattle.std.proofs.lemmas.Result.{on_ok_weaker}
use Rattle.cg_json.specs.Text.{json_text, name_text}
use Rattle.cg_json_world.specs.Values.{controllers_value}
use Rattle.cg_outline.specs.GroupValue.{controllers_of}
use Rattle.cg_outline.proofs.objects.append_controllers.Goals as goal

-- a name, a value and the rest
field_of_pieces : (x p q t name a b : List ℕ) → p ≡ x ++ name → q ≡ p ++ a → t ≡ q ++ b → t ≡ x ++ (name ++ (a ++ b))
field_of_pieces x p q t name a b h i j = j ∙ ap (λ l. l ++ b) (i ∙ ap (λ l. l ++ a) h) ∙ append_assoc (x ++ name) a b ∙ append_assoc x name (a ++ b)

pub returns : goal.returns
returns c =
    on_ok_weaker c.append_control.result
    (field_of_pieces c.args.out.now.items c.write_name.new.out.items c.append_available.new.out.items c.append_control.new.out.items (name_text true (codes "controllers")) (json_text (controllers_value (controllers_of c.args.tree.now.tree c.args.path.now))) _ c.in_ok-write_name.ensures c.in_ok-append_available.ensures)
    c.append_control.ensures
