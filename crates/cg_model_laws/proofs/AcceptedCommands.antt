-- The laws of one accepted command: it is undone, its keys are apart, and it changes only what it marks.
use Rattle.std.proofs.Common.{◌≡◌, true, false, cond, List, [], ◌∷◌, refl, sym, ap, subst, ◌∙◌, Option, Some, None}
use Rattle.std.specs.List.{AllByRecursion}
use Rattle.cg_name.specs.Path.{Path}
use Rattle.cg_text.specs.declared.settings.Settings.{Settings}
use Rattle.cg_model.specs.Tree.{Tree, group, place_of}
use Rattle.cg_model.specs.Key.{Key, Group, Place, Part, Online, ValueOf, put}
use Rattle.cg_model.specs.Change.{Change, done}
use Rattle.cg_model.specs.System.{Outcome, Accept}
use Rattle.cg_model.specs.Command.{Command, Create, Remove, Migrate}
use Rattle.cg_model.specs.Effect.{effect}
use Rattle.cg_model.specs.Footprint.{Mark, X, Count, is_limited, count_of, counts, old_place, clashes, footprint}
use Rattle.cg_model_laws.specs.Covers.{SameAround, AgreeOn, IsCounted}
use Rattle.cg_model_laws.specs.Laws.{Identity, KeysApart, ChangesAreMarked, KeysOfBothApart, Frame, FrameOfCommands}
use Rattle.cg_model_laws.proofs.Marks.{Apart, AllApart, apart_from_test, all_along-from}
use Rattle.cg_model_laws.proofs.Seen.{group_above}
use Rattle.cg_model_laws.proofs.Lawful.{IsLawful, undone-done, Fits-done, none_touch, all_marked, keys_apart_from, frame_mark, frame_marks}
use Rattle.cg_model_laws.proofs.IfAccepted.{IfAccepted}
use Rattle.cg_model_laws.proofs.CommandChanges.{command_lawful}

pub lawful_of : (c : Command) (T : Tree) (o : Outcome) (cs : List Change) → effect c T ≡ Accept o cs → IsLawful (footprint c T) T cs
lawful_of c T o cs e = subst (λ x. IfAccepted x (IsLawful (footprint c T) T)) e (command_lawful T c)

pub identity : Identity
identity c T o cs e = let h : IsLawful (footprint c T) T cs = lawful_of c T o cs e in (Fits-done _ cs T h, undone-done _ cs T h)

pub keys_apart : KeysApart
keys_apart c T o cs e = none_touch (footprint c T) cs T (lawful_of c T o cs e)

pub changes_marked : ChangesAreMarked
changes_marked c T o cs e = all_marked (footprint c T) cs T (lawful_of c T o cs e)

pub keys_of_both_apart : KeysOfBothApart
keys_of_both_apart c d T U o q cs ds e f a =
    keys_apart_from (footprint c T) (footprint d U) cs ds T U (lawful_of c T o cs e) (lawful_of d U q ds f) (apart_from_test (footprint c T) (footprint d U) a)

pub frame : Frame
frame c T o cs e g a n = frame_marks (footprint c T) cs T g (lawful_of c T o cs e) (apart_from_test (footprint c T) g a) n

pub same_machine : (cs : List Change) (T : Tree) → (done cs T).controllers ≡ T.controllers
same_machine [] T = refl
same_machine (c ∷ cs) T = same_machine cs (put c.key c.left T) ∙ one c.key c.left
  where
    one : (k : Key) (v : Option (ValueOf k)) → (put k v T).controllers ≡ T.controllers
    one (Group p) v = refl
    one (Place k) v = refl
    one (Part p f) v = refl
    one Online v = refl

-- ---- the marks of a command on numbers of descendants are of limited groups

count_limited : (T : Tree) (a : Path) (s : Option Settings) → s ≡ group T a → AllByRecursion (IsCounted T) (count_of a s)
count_limited T a s e = elim (is_limited s) as (λ b. is_limited s ≡ b → AllByRecursion (IsCounted T) (cond b (Count a ∷ []) [])) [ true ↦ λ l. (ap is_limited (sym e) ∙ l, tt) | false ↦ λ l. tt ] refl

module _ (f : List Mark) (cs : List Change) (T : Tree) (h : IsLawful f T cs) where
  counts_counted : (p : Path) → Apart f (X p) → AllByRecursion (IsCounted T) (counts (done cs T) p)
  counts_counted p a =
      let same : SameAround p T (done cs T) = frame_mark f cs T (X p) h a tt in
      all_along-from (IsCounted T) _ p (λ q e. count_limited T q (group (done cs T) q) (sym (group_above same q e)))

  place_counted : (o : Option Path) → AllByRecursion (IsCounted T) (old_place o)
  place_counted None = tt
  place_counted (Some q) = (tt, tt)

  -- in the later tree they are of groups that are limited in the earlier one
  footprint_counted : (c : Command) → AllApart f (footprint c (done cs T)) → AllByRecursion (IsCounted T) (footprint c (done cs T))
  unfolding footprint
  footprint_counted (Create p) a = (tt, counts_counted p a.0)
  footprint_counted (Remove p) a = (tt, counts_counted p a.0)
  footprint_counted (Migrate k p) a = (tt, (tt, place_counted (place_of (done cs T) k)))
  footprint_counted c a = (tt, tt)

own_counted : (c : Command) (T : Tree) → AllByRecursion (IsCounted T) (footprint c T)
own_counted c T = footprint_counted [] [] T tt c (nothing (footprint c T))
  where
    nothing : (g : List Mark) → AllApart [] g
    nothing [] = tt
    nothing (m ∷ g) = (tt, nothing g)

-- ---- what an accepted command leaves of what another marks

module _ (c d : Command) (T : Tree) (o : Outcome) (cs : List Change) (e : effect c T ≡ Accept o cs) where
  pub frame_before : clashes (footprint c T) (footprint d T) ≡ false → AgreeOn (footprint d T) T (done cs T)
  frame_before a = frame c T o cs e (footprint d T) a (own_counted d T)

  pub frame_after : clashes (footprint c T) (footprint d (done cs T)) ≡ false → AgreeOn (footprint d (done cs T)) T (done cs T)
  frame_after a =
      let g : List Mark = footprint d (done cs T) in
      frame c T o cs e g a (footprint_counted (footprint c T) cs T (lawful_of c T o cs e) d (apart_from_test (footprint c T) g a))

pub frame_of_commands : FrameOfCommands
frame_of_commands c d T o cs e = (frame_before c d T o cs e, frame_after c d T o cs e)
