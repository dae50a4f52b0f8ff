-- A core that was opened.
use Rattle.std.proofs.Common.{◌≡◌, ℕ, ◌≤◌, ◌||◌, Bool, true, false, [], Option, Some, None, option_map, is_some, refl, ap, ◌∙◌}
use Rattle.cg_maps.proofs.Maps.{get-domain}
use Rattle.cg_maps.specs.FiniteMap.{domain, get}
use Rattle.cg_locks.specs.Holdings.{Holdings, holdings}
use Rattle.cg_model.specs.Footprint.{Mark}
use Rattle.cg_model.specs.Sound.{Sound}
use Rattle.cg_model.specs.Tree.{Tree, group}
use Rattle.cg_tree.specs.Room.{TreeWithRoom}
use Rattle.cg_core.specs.Parts.{IsCoreOf}

or_nothing : (b : Bool) → b ≡ b || false
or_nothing true = refl
or_nothing false = refl

there : {A : Type 0} (o : Option A) → is_some (option_map {U = Unit {0}} (λ x. tt) o) ≡ is_some o
there None = refl
there (Some x) = refl

-- nothing is open and nothing is held; the groups are the paths that have an entry
pub opened_core : (O : Tree) (b : ℕ) (R : TreeWithRoom) (H : Holdings) → 2 ≤ b → b ≤ 1048576 → Sound O → R.tree ≡ O → R.entries ≡ domain O.groups → ((u : ℕ) (m : Mark) → holdings H u m ≡ 0) → IsCoreOf O b [] 0 R H []
opened_core O b R H low high sound tree entries free = record {
  low = low;
  high = high;
  sound = sound;
  reached = record { requests = []; proper = tt; leads = refl };
  holds = record {
    tree = tree;
    entries = λ p. ap (λ E. is_some (get E p)) entries ∙ ap is_some (get-domain O.groups p) ∙ there (get O.groups p) ∙ or_nothing (is_some (group O p));
    held = free;
  };
  transactions = refl;
  once = tt;
  reserved = refl;
}
