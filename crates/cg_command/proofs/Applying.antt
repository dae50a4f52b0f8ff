-- What holds of a tree after an accepted command.
use Rattle.std.proofs.Common.{◌≡◌, List, Result, Ok, Err, IfOk, OnErr, sym, ap, subst, ◌∙◌}
use Rattle.cg_model.specs.Change.{Change, undone, Fits}
use Rattle.cg_model.specs.Command.{Command, IsProper}
use Rattle.cg_model.specs.Sound.{Sound}
use Rattle.cg_model.specs.System.{Outcome}
use Rattle.cg_model_laws.proofs.AcceptedCommands.{identity}
use Rattle.cg_model_laws.proofs.SoundCommands.{sound_kept}
use Rattle.cg_tree.specs.Room.{TreeWithRoom}
use Rattle.cg_command.specs.Applied.{Applied}

module _ (c : Command) (t u : TreeWithRoom) (o : Outcome) (cs : List Change) (a : Applied c t o cs u) where
  pub fits_after : Fits cs u.tree
  fits_after = subst (Fits cs) (sym a.tree) (identity c t.tree o cs a.effect).0

  pub undone_after : undone cs u.tree ≡ t.tree
  undone_after = ap (undone cs) a.tree ∙ (identity c t.tree o cs a.effect).1

  pub sound_after : IsProper c → Sound t.tree → Sound u.tree
  sound_after p s = subst Sound (sym a.tree) (sound_kept c t.tree o cs p s a.effect)

pub sound_kept_by : {X E : Type 0} (c : Command) (t u : TreeWithRoom) (outcome : X → Outcome) (changes : X → List Change) (r : Result X E) → IfOk r (λ x. Applied c t (outcome x) (changes x) u) → OnErr r (u ≡ t)
    → IsProper c → Sound t.tree → Sound u.tree
sound_kept_by c t u outcome changes (Ok x) a e p s = sound_after c t u (outcome x) (changes x) a p s
sound_kept_by c t u outcome changes (Err x) a e p s = subst (λ v. Sound v.tree) (sym e) s
