use Rattle.std.proofs.Common.{◌≤◌, subst}
use Rattle.cg_model.specs.Cgroups.{cgroups}
use Rattle.cg_model.specs.Reply.{slots}
use Rattle.cg_model.specs.Run.{tree_of}
use Rattle.cg_model.specs.Sound.{Sound}
use Rattle.cg_core_laws.specs.CommittedCommands.{AreCommits}
use Rattle.cg_core_laws.specs.MachineOf.{Reached}
use Rattle.cg_core_laws.specs.Room.{RoomKept}
use Rattle.cg_core_laws.specs.Laws.{GoBack, IsBusyExactly}
use Rattle.cg_core_laws.specs.Serial.{IsFaithful, IsSerial, OthersStay}
use Rattle.cg_core.specs.State.{CoreState, machine}
use Rattle.cg_core.proofs.AtHistory.{at_history, serial_at, within}
use Rattle.cg_core.proofs.TheLaws.{busy_law, commits_law, faithful_law, going_law, others_law, room_law, serial_law}
use Rattle.cg_core.proofs.machine.Core.laws.Goals as goal

pub returns-clause-opening : goal.returns-clause-opening
returns-clause-opening c = subst (λ (v : CoreState). Sound v.opening) c.self.view_is c.self.invariant.sound

pub returns-clause-low : goal.returns-clause-low
returns-clause-low c = subst (λ (v : CoreState). 2 ≤ v.bound) c.self.view_is c.self.invariant.low

pub returns-clause-high : goal.returns-clause-high
returns-clause-high c = subst (λ (v : CoreState). v.bound ≤ 1048576) c.self.view_is c.self.invariant.high

pub returns-clause-within_bound : goal.returns-clause-within_bound
returns-clause-within_bound c = subst (λ (v : CoreState). slots v.history ≤ v.bound) c.self.view_is (within _ _ _ c.self.invariant.sound c.self.invariant.reached faithful_law c.self.invariant.low)

pub returns-clause-sound : goal.returns-clause-sound
returns-clause-sound c = subst (λ (v : CoreState). Sound (tree_of cgroups v.opening v.history)) c.self.view_is (serial_at _ _ _ c.self.invariant.sound c.self.invariant.reached serial_law).sound

pub returns-clause-reached : goal.returns-clause-reached
returns-clause-reached c = subst (λ (v : CoreState). Reached v.opening v.bound v.history) c.self.view_is c.self.invariant.reached

pub returns-clause-serial : goal.returns-clause-serial
returns-clause-serial c = subst (λ (v : CoreState). IsSerial cgroups v.opening (machine v)) c.self.view_is (serial_at _ _ _ c.self.invariant.sound c.self.invariant.reached serial_law)

pub returns-clause-room : goal.returns-clause-room
returns-clause-room c = subst (λ (v : CoreState). RoomKept v.opening (machine v)) c.self.view_is (at_history RoomKept room_law _ _ _ c.self.invariant.sound c.self.invariant.reached)

pub returns-clause-faithful : goal.returns-clause-faithful
returns-clause-faithful c = subst (λ (v : CoreState). IsFaithful cgroups v.opening (machine v)) c.self.view_is (at_history (λ O m. IsFaithful cgroups O m) faithful_law _ _ _ c.self.invariant.sound c.self.invariant.reached)

pub returns-clause-going_back : goal.returns-clause-going_back
returns-clause-going_back c = subst (λ (v : CoreState). GoBack (machine v)) c.self.view_is (at_history (λ O m. GoBack m) going_law _ _ _ c.self.invariant.sound c.self.invariant.reached)

pub returns-clause-others : goal.returns-clause-others
returns-clause-others c = subst (λ (v : CoreState). OthersStay cgroups (machine v)) c.self.view_is (at_history (λ O m. OthersStay cgroups m) others_law _ _ _ c.self.invariant.sound c.self.invariant.reached)

pub returns-clause-busy : goal.returns-clause-busy
returns-clause-busy c = subst (λ (v : CoreState). IsBusyExactly v.opening (machine v)) c.self.view_is (at_history IsBusyExactly busy_law _ _ _ c.self.invariant.sound c.self.invariant.reached)

pub returns-clause-commits : goal.returns-clause-commits
returns-clause-commits c = subst (λ (v : CoreState). AreCommits cgroups v.opening v.history) c.self.view_is (at_history (λ O m. AreCommits cgroups O m.history) commits_law _ _ _ c.self.invariant.sound c.self.invariant.reached)
