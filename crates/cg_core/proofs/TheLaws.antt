-- The laws of what any steps lead to, as the definitions have them.
use Rattle.cg_model.specs.Cgroups.{cgroups}
use Rattle.cg_model.specs.Machine.{opened, steps}
use Rattle.cg_core_laws.specs.CommittedCommands.{CommitsByCommands}
use Rattle.cg_core_laws.specs.Laws as laws
use Rattle.cg_core_laws.specs.Laws.{LiveKeysApart}
use Rattle.cg_core_laws.specs.MachineOf.{StepsByHistory}
use Rattle.cg_core_laws.proofs.ControlGroups.LawsOfGroups as groups
use Rattle.cg_core_laws.proofs.ControlGroups.BusyExactly.{busy_exactly}
use Rattle.cg_core_laws.proofs.ControlGroups.LettingGo.{newest_lets_go, oldest_lets_go}
use Rattle.cg_core_laws.proofs.ControlGroups.LiveKeysApart.{keys_of_others_apart}
use Rattle.cg_core_laws.proofs.ControlGroups.RoomForGoingBack.{room_kept}
use Rattle.cg_core_laws.proofs.ControlGroups.SteppingOn as stepping
use Rattle.cg_core_laws.proofs.Interleaving.AbortsAtTheEnd.{ends_all}
use Rattle.cg_core_laws.proofs.Interleaving.CommitsByCommands.{are_commits}
use Rattle.cg_core_laws.proofs.Interleaving.Theorem.{by_log, serial, faithful, going_back, others_untouched}

pub serial_law : laws.Serial
serial_law opening bound requests sound proper = serial cgroups groups.laws opening sound bound requests proper

pub faithful_law : laws.Faithful
faithful_law opening bound requests sound proper = faithful cgroups groups.laws opening sound bound requests proper

pub going_law : laws.GoingBack
going_law opening bound requests sound proper = going_back cgroups groups.laws opening sound bound requests proper

pub others_law : laws.OthersUntouched
others_law opening bound requests sound proper = others_untouched cgroups groups.laws opening sound bound requests proper

pub busy_law : laws.BusyExactly
busy_law opening bound requests sound proper s t is_open room command u =
    busy_exactly opening (steps cgroups (opened cgroups opening bound) requests)
    (serial cgroups groups.laws opening sound bound requests proper) (faithful cgroups groups.laws opening sound bound requests proper) s t is_open room command u

pub end_law : laws.SchedulesEnd
end_law opening bound requests sound proper = ends_all cgroups groups.laws opening sound bound requests proper

pub steps_law : StepsByHistory
steps_law = stepping.steps_by_history

pub newest_law : laws.LettingGo
newest_law opening bound requests sound proper =
    newest_lets_go opening _ (serial cgroups groups.laws opening sound bound requests proper)
    (by_log cgroups groups.laws opening sound bound requests proper (LiveKeysApart opening) (λ c i. keys_of_others_apart opening groups.laws c i.kept i.tied))

pub oldest_law : laws.Draining
oldest_law opening bound requests sound proper =
    oldest_lets_go opening _ (serial cgroups groups.laws opening sound bound requests proper)
    (by_log cgroups groups.laws opening sound bound requests proper (LiveKeysApart opening) (λ c i. keys_of_others_apart opening groups.laws c i.kept i.tied))

pub room_law : laws.Roomy
room_law opening bound requests sound proper = room_kept opening _ (serial cgroups groups.laws opening sound bound requests proper)

pub commits_law : CommitsByCommands
commits_law opening bound requests sound proper =
    are_commits cgroups opening _ _ (faithful cgroups groups.laws opening sound bound requests proper).legal (serial cgroups groups.laws opening sound bound requests proper).commits
