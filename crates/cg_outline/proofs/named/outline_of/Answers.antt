use Rattle.std.proofs.Common.{◌≡◌, ◌∙◌, ℕ, List, ap, subst}
use Rattle.std.specs.Prelude.{Option, IfSome}
use Rattle.std.proofs.lemmas.Option.{IfSome_then}
use Rattle.cg_json.specs.declared.form.Form.{Form}
use Rattle.cg_lines.specs.Lines.{pending}
use Rattle.cg_model.specs.Tree.{Tree}
use Rattle.cg_outline.specs.Outline.{outline_text}
use Rattle.cg_outline.specs.OutlineOf.{IsOutlineOf}
use Rattle.cg_script.specs.WorldPart.{ReadsWorld}
use Rattle.cg_outline.proofs.named.outline_of.Goals as goal

-- the outline of a tree that equals the one that was read
outlined : (world left rest : Option (List ℕ)) (T U : Tree) (form : Form) (depth : ℕ) (text : List ℕ) → left ≡ world → IfSome left (λ bytes. ReadsWorld bytes T rest) → U ≡ T → text ≡ outline_text form depth U → IsOutlineOf world form depth text
outlined world left rest T U form depth text is reads e q =
    subst (λ w. IsOutlineOf w form depth text) is (IfSome_then left reads (λ bytes h. (T, rest, h, q ∙ ap (outline_text form depth) e)))

pub returns-clause-value : goal.returns-clause-value
returns-clause-value g c =
    outlined _ (pending c.in_ok-reader.reader) (pending c.read_world.new.reader) c.in_ok-world.world c.in_ok-tree.tree.tree c.args.form c.args.depth c.in_ok-outline.field-0.items
    c.in_ok-reader.ensures.pending c.in_ok-world.ensures.value c.in_ok-tree.ensures.tree c.in_ok-outline.ensures
