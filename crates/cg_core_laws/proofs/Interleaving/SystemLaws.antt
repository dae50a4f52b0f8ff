-- What the theory of interleaving asks of a system: the laws of one command and of two.
use Rattle.std.specs.Prelude.{◌≡◌, false}
use Rattle.cg_model.specs.System.{System, Outcome, Accept}

-- a command is answered alike, changes alike and has the same footprint in both states
abbrev pub Alike : (y : System) → y.Command → y.State → y.State → Type 0
Alike y c s t = (y.effect c s ≡ y.effect c t) × (y.footprint c s ≡ y.footprint c t)

pub record SystemLaws (y : System) : Type 0 where
  pub clash_sym : (f g : y.Footprint) → y.clashes f g ≡ y.clashes g f
  pub sound_kept : (s : y.State) (c : y.Command) (a : Outcome) (d : y.Change) → y.Proper c → y.Sound s → y.effect c s ≡ Accept a d → y.Sound (y.done d s)
  pub fits : (s : y.State) (c : y.Command) (a : Outcome) (d : y.Change) → y.effect c s ≡ Accept a d → y.Fits d (y.done d s)
  pub goes_back : (s : y.State) (c : y.Command) (a : Outcome) (d : y.Change) → y.effect c s ≡ Accept a d → y.undone d (y.done d s) ≡ s
  -- a command whose footprint, taken after c or before it, doesn't clash with c's, is answered alike after c and before it
  pub same_after : (s : y.State) (c : y.Command) (a : Outcome) (d : y.Change) (b : y.Command) → y.effect c s ≡ Accept a d → y.clashes (y.footprint c s) (y.footprint b (y.done d s)) ≡ false → Alike y b (y.done d s) s
  pub same_before : (s : y.State) (c : y.Command) (a : Outcome) (d : y.Change) (b : y.Command) → y.effect c s ≡ Accept a d → y.clashes (y.footprint c s) (y.footprint b s) ≡ false → Alike y b (y.done d s) s
  -- changes of commands that don't clash commute
  pub commute : (s : y.State) (c : y.Command) (a : Outcome) (d : y.Change) (b : y.Command) (q : Outcome) (e : y.Change) → y.effect c s ≡ Accept a d → y.effect b s ≡ Accept q e → y.clashes (y.footprint c s) (y.footprint b s) ≡ false → y.done e (y.done d s) ≡ y.done d (y.done e s)
