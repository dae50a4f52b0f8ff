use Rattle.std.proofs.Common.{ap, subst, ◌↔◌, IsTrue, option_map}
use Rattle.std.specs.String.{string_bytes}
use Rattle.cg_text.specs.Controllers.{has}
use Rattle.cg_import.specs.Values.{NamesController}
use Rattle.cg_import.proofs.Said.{names_in, there}
use Rattle.cg_import.proofs.Taken.{nothing_taken, none_left_out}
use Rattle.cg_import.proofs.tree.read_tree.Goals as goal

pub take_all-requires : goal.take_all-requires
take_all-requires g c =
    record {
      read =
          nothing_taken (g.P.Inputs.file c.args.inputs.now) (g.P.Inputs.is_missing c.args.inputs.now) c.args.root.now c.new.result (ap (λ t. t.groups) c.new.ensures) (ap (λ t. t.places) c.new.ensures)
          (there _ _ _ _ (string_bytes c.in-Some.text) c.in_ok-text.ensures (ap (option_map string_bytes) c.in-Some.is))
          (names_in _ _ _ _ (string_bytes c.in-Some.text) c.in_ok-text.ensures (ap (option_map string_bytes) c.in-Some.is) c.new.result.controllers c.controllers_in-are_known.result.0 (ap (λ t. t.controllers) c.new.ensures)
          (λ d. subst (λ t. IsTrue (has c.controllers_in-are_known.result.0 d) ↔ NamesController t d) c.as_str.ensures.value (c.controllers_in-are_known.ensures d)));
      whole = λ _. none_left_out (g.P.Inputs.file c.args.inputs.now) (g.P.Inputs.is_missing c.args.inputs.now) c.args.root.now c.new.result (ap (λ t. t.groups) c.new.ensures);
    }
