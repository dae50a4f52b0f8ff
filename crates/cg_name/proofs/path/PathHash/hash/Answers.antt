-- The text is what is hashed.
use Rattle.std.proofs.Common.{sym, ap, ◌∙◌}
use Rattle.std.specs.List.{fold}
use Rattle.std.specs.Hash as fed
use Rattle.cg_name.specs.Packed.{packed_text}
use Rattle.cg_name.proofs.Packing.{packed_text-names_in}
use Rattle.cg_name.proofs.path.PathHash.hash.Goals as goal

pub returns : goal.returns
returns g c =
    c.write_u8.ensures
    ∙ ap (λ s. fold g.H.Hasher.write s (fed.u8 255)) c.write.ensures
    ∙ ap (λ l. fold g.H.Hasher.write c.args.state.now (fed.str l)) (c.as_slice.ensures ∙ sym (packed_text-names_in c.self.inside.text c.self.invariant.start) ∙ ap packed_text c.self.view_is)
