use Rattle.std.proofs.Common.{◌≡◌, ◌<◌, ◌-◌, ◌+◌, Some, length, take, drop, sym, ap, ◌∙◌, arith, take_all, length-drop}
use Rattle.std.specs.List.{slice_get}
use Rattle.cg_name.specs.Packed.{first_name}
use Rattle.cg_name.proofs.Packing.{name_here}
use Rattle.cg_name.proofs.path_ref.PathRef.name_bytes_at.Goals as goal

pub returns-clause-value : goal.returns-clause-value
returns-clause-value c =
    let bytes = c.self.inside.bytes.now in
    let start = c.start_of-start.result in
    let low : c.start_of-start.result < length c.self.inside.bytes.now = omega arith in
    let here = name_here bytes start c.args.index low c.start_of-start.ensures.start c.start_of-start.ensures.names in
    let rest : take (length c.self.inside.bytes.now - (c.start_of-start.result + 1)) (drop (c.start_of-start.result + 1) c.self.inside.bytes.now) ≡ drop (c.start_of-start.result + 1) c.self.inside.bytes.now =
    take_all _ _ (omega (arith, length-drop (c.start_of-start.result + 1) c.self.inside.bytes.now)) in
    ap Some (c.first_name.ensures.value ∙ ap first_name rest) ∙ sym here ∙ ap (λ p. slice_get p c.args.index) c.self.view_is
