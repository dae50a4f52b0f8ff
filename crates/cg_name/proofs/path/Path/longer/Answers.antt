-- A zero byte and the name's bytes are one name more, and there is room for it.
use Rattle.std.proofs.Common.{◌≡◌, ◌<◌, ◌++◌, ◌∷◌, [], length, sym, ap, subst, ◌∙◌, arith}
use Rattle.cg_name.specs.Packed.{names_in, IsPacked}
use Rattle.cg_name.proofs.Packing.{packed-push, names_in-push}
use Rattle.cg_name.proofs.path.Path.longer.Goals as goal
use Rattle.cg_name.proofs.path.Path.longer.Goals.{In_ok-with_name}

whole : (c : In_ok-with_name) → c.in_ok-with_name.field-0 ≡ c.self.inside.text ++ 0 ∷ c.args.name.now
whole c = c.in_ok-with_name.ensures ∙ ap (λ n. c.self.inside.text ++ 0 ∷ n) c.as_bytes.ensures.value

pub invariant_of-result : goal.invariant_of-result
invariant_of-result c =
    let low : length (names_in c.self.inside.text) < 64 = omega (arith, ap length c.self.view_is, c.requires.room) in
    subst IsPacked (sym (whole c)) (packed-push c.self.inside.text c.args.name.now c.self.invariant low c.requires.valid)

pub returns : goal.returns
returns c =
    ap names_in (whole c) ∙ names_in-push c.self.inside.text c.args.name.now c.requires.valid ∙ ap (λ p. p ++ c.args.name.now ∷ []) c.self.view_is
