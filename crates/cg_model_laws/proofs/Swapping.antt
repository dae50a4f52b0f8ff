-- Two commands that don't clash: each does the same whether the other ran before or not, and they can be swapped.
use Rattle.std.proofs.Common.{◌≡◌, false, List, sym, ap, ◌∙◌}
use Rattle.cg_model.specs.Tree.{Tree}
use Rattle.cg_model.specs.Change.{Change, done}
use Rattle.cg_model.specs.System.{Outcome, Accept}
use Rattle.cg_model.specs.Command.{Command}
use Rattle.cg_model.specs.Effect.{effect}
use Rattle.cg_model.specs.Footprint.{clashes, footprint}
use Rattle.cg_model_laws.specs.Laws.{Locality, Swap}
use Rattle.cg_model_laws.proofs.Marks.{clashes-swapped, apart_from_test}
use Rattle.cg_model_laws.proofs.Agreement.{agree_on_back}
use Rattle.cg_model_laws.proofs.Locality.{effect_same, footprint_same}
use Rattle.cg_model_laws.proofs.Commuting.{done-done}
use Rattle.cg_model_laws.proofs.AcceptedCommands.{lawful_of, same_machine, frame_before, frame_after}

pub locality : Locality
locality T U m c h = (effect_same T U m c h, footprint_same T U c h)

-- two trees are alike to a command: same answer, same changes, same footprint
abbrev pub AlikeTo : Command → Tree → Tree → Type 0
AlikeTo d T U = (effect d T ≡ effect d U) × (footprint d T ≡ footprint d U)

module _ (c d : Command) (T : Tree) (o : Outcome) (cs : List Change) (e : effect c T ≡ Accept o cs) where
  -- where d doesn't clash as it is before c
  pub alike_before : clashes (footprint c T) (footprint d T) ≡ false → AlikeTo d T (done cs T)
  alike_before a = locality T (done cs T) (sym (same_machine cs T)) d (frame_before c d T o cs e a)

  -- where d doesn't clash as it is after c
  pub alike_after : clashes (footprint c T) (footprint d (done cs T)) ≡ false → AlikeTo d T (done cs T)
  alike_after a =
      let U : Tree = done cs T in
      let back : AlikeTo d U T = locality U T (same_machine cs T) d (agree_on_back (footprint d U) T U (frame_after c d T o cs e a)) in
      (sym back.0, sym back.1)

-- what two commands do to one tree may be done in either order
pub trees_commute : (c d : Command) (T : Tree) (o q : Outcome) (cs ds : List Change) → effect c T ≡ Accept o cs → effect d T ≡ Accept q ds
    → clashes (footprint c T) (footprint d T) ≡ false → done ds (done cs T) ≡ done cs (done ds T)
trees_commute c d T o q cs ds e f a =
    done-done (footprint c T) (footprint d T) cs ds T T T (lawful_of c T o cs e) (lawful_of d T q ds f) (apart_from_test (footprint c T) (footprint d T) a)

pub swap : Swap
swap c d T o q cs ds e f a =
    let alike : AlikeTo d T (done cs T) = alike_after c d T o cs e a in
    let first : effect d T ≡ Accept q ds = alike.0 ∙ f in
    let apart : clashes (footprint c T) (footprint d T) ≡ false = ap (clashes (footprint c T)) alike.1 ∙ a in
    let other : AlikeTo c T (done ds T) = alike_before d c T q ds first (clashes-swapped (footprint d T) (footprint c T) ∙ apart) in
    record {
      second_first = first;
      second_marks = alike.1;
      first_second = sym other.0 ∙ e;
      first_marks = sym other.1;
      tree = sym (trees_commute c d T o q cs ds e first apart);
    }
