-- A command that gives a text makes no entry.
use Rattle.std.proofs.Common.{◌≡◌, Bool, true, false, List, [], ◌∷◌, Option, Some, None, refl, sym, ap, ◌∙◌, true≢false}
use Rattle.cg_maps.specs.FiniteMap.{FiniteMap}
use Rattle.cg_name.specs.Path.{Path, path_cmp}
use Rattle.cg_text.specs.declared.settings.Settings.{Settings}
use Rattle.cg_command.specs.Applied.{entries_after}
use Rattle.cg_core.specs.Doing.{is_text}
use Rattle.cg_model.specs.Change.{Change}
use Rattle.cg_model.specs.Command.{Command, Effect, Create, Remove, Migrate, Subtree, Freeze, Cpus, Show, Online, MaxDescendants, MaxDepth}
use Rattle.cg_model.specs.Effect.{effect}
use Rattle.cg_model.specs.Groups.{create_effect}
use Rattle.cg_model.specs.System.{Outcome, Refuse, Accept}
use Rattle.cg_model.specs.Tree.{Tree}

abbrev gives_text : Effect → Bool
gives_text (Refuse r) = false
gives_text (Accept o d) = is_text o

create_gives_none : (p : Path) (parent own : Option Settings) (many deep : Bool) → gives_text (create_effect p parent own many deep) ≡ false
create_gives_none [] parent own many deep = refl
create_gives_none (n ∷ p) None own many deep = refl
create_gives_none (n ∷ p) (Some u) (Some s) many deep = refl
create_gives_none (n ∷ p) (Some u) None true deep = refl
create_gives_none (n ∷ p) (Some u) None false true = refl
create_gives_none (n ∷ p) (Some u) None false false = refl

pub makes_no_entry : (c : Command) (T : Tree) (o : Outcome) (d : List Change) (E : FiniteMap path_cmp (Unit {0})) → effect c T ≡ Accept o d → is_text o ≡ true → entries_after c E ≡ E
unfolding effect
makes_no_entry (Create p) T o d E e t = absurd (true≢false (sym t ∙ sym (ap gives_text e) ∙ create_gives_none p _ _ _ _))
makes_no_entry (Remove p) T o d E e t = refl
makes_no_entry (Migrate k p) T o d E e t = refl
makes_no_entry (Subtree p ops) T o d E e t = refl
makes_no_entry (Freeze p v) T o d E e t = refl
makes_no_entry (Cpus p v) T o d E e t = refl
makes_no_entry (Show p f) T o d E e t = refl
makes_no_entry (Online v) T o d E e t = refl
makes_no_entry (MaxDescendants p v) T o d E e t = refl
makes_no_entry (MaxDepth p v) T o d E e t = refl
