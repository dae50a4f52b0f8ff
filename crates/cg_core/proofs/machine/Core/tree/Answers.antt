use Rattle.std.proofs.Common.{◌≡◌, sym, subst}
use Rattle.cg_name.specs.Path.{Path}
use Rattle.cg_model.specs.Sound.{Sound}
use Rattle.cg_tree.specs.Room.{has_entry}
use Rattle.cg_core.specs.Held.{keeps_entry}
use Rattle.cg_core.specs.State.{CoreState}
use Rattle.cg_core.proofs.AtHistory.{serial_at}
use Rattle.cg_core.proofs.TheLaws.{serial_law}
use Rattle.cg_core.proofs.machine.Core.tree.Goals as goal

pub returns-clause-sound : goal.returns-clause-sound
returns-clause-sound c = subst Sound (sym c.self.invariant.holds.tree) (serial_at _ _ _ c.self.invariant.sound c.self.invariant.reached serial_law).sound

pub returns-clause-entries : goal.returns-clause-entries
returns-clause-entries c = subst (λ (v : CoreState). (p : Path) → has_entry c.self.inside.tree p ≡ keeps_entry v p) c.self.view_is c.self.invariant.holds.entries
