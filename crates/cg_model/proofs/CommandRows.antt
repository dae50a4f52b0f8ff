-- The worked runs of commands compute.
use Rattle.std.proofs.Common.{refl}
use Rattle.cg_model.specs.Rows.{play}
use Rattle.cg_model.specs.CommandRows as rows

pub enabling : rows.Enabling
unfolding play
enabling = refl

pub effective_cpus : rows.EffectiveCpus
unfolding play
effective_cpus = refl

pub freeze_and_populated : rows.FreezeAndPopulated
unfolding play
freeze_and_populated = refl

pub migrate_and_remove : rows.MigrateAndRemove
unfolding play
migrate_and_remove = refl

pub limits : rows.Limits
unfolding play
limits = refl

pub own_refusals : rows.OwnRefusals
unfolding play
own_refusals = refl

pub hotplug : rows.Hotplug
unfolding play
hotplug = refl
