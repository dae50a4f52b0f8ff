-- The path's text is appended, and each zero byte of it is then a slash.
use Rattle.std.proofs.Common.{rules, ◌≡◌, ◌++◌, ℕ, List, length, map, ap, ◌∙◌}
use Rattle.std.proofs.Math.ListN.{length-map}
use Rattle.cg_name.specs.Packed.{packed_text, slashed}
use Rattle.cg_name.proofs.Slashes.{rest_written, rest_is, slashed_names}
use Rattle.cg_name.proofs.path_ref.write_names.Goals as goal

pub returns-clause-ok : goal.returns-clause-ok
returns-clause-ok c =
    let old : List ℕ = c.args.out.now.items in
    let text : List ℕ = packed_text c.args.path.now in
    let all : c.deref_mut.result.now ≡ old ++ text = c.deref_mut.ensures.value ∙ c.in_ok-extend_from_slice.ensures.items ∙ ap (λ z. old ++ z) c.as_bytes.ensures.value in
    let start : c.len-start.result ≡ length old = search rules in
    let long : c.extend_from_slice.new.self.len ≡ length c.deref_mut.result.now = search rules in
    let new : c.put_slashes.new.bytes ≡ map slashed text = c.put_slashes.ensures ∙ ap (map slashed) (rest_is old text c.deref_mut.result.now c.len-start.result all start) in
    rest_written old text c.put_slashes.new.bytes _ _ c.deref_mut.result.now c.len-start.result _ all start long (ap length new ∙ length-map text slashed)
    ∙ ap (λ z. old ++ z) (new ∙ slashed_names c.args.path.now c.as_bytes.ensures.valid.names)
