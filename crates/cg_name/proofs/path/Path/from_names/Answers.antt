-- The text with zero bytes in the place of its slashes is that of the path.
use Rattle.std.proofs.Common.{sym, ap, subst, ◌∙◌}
use Rattle.cg_name.specs.Packed.{names_in, IsPacked}
use Rattle.cg_name.proofs.Slashes.{kept_packed}
use Rattle.cg_name.proofs.path.Path.from_names.Goals as goal

pub invariant_of-result : goal.invariant_of-result
invariant_of-result c = subst IsPacked (sym c.in_ok-from_names.ensures) (kept_packed c.args.text.now c.requires).0

pub returns : goal.returns
returns c = ap names_in c.in_ok-from_names.ensures ∙ (kept_packed c.args.text.now c.requires).1
