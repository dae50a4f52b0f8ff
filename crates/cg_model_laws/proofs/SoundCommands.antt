-- An accepted command keeps a tree sound: the ten commands, one by one.
use Rattle.std.proofs.Common.{◌≡◌, ℕ, Bool, true, false, [], ◌∷◌, refl, sym, ap, subst, ◌∙◌, Some, None}
use Rattle.std.proofs.lemmas.Option.{none-some, same_Some}
use Rattle.cg_maps.specs.FiniteMap.{is_nonempty}
use Rattle.cg_maps.specs.FiniteSet.{FiniteSet, is_empty_set}
use Rattle.cg_name.specs.Name.{Name}
use Rattle.cg_name.specs.Path.{Path, is_root}
use Rattle.cg_text.specs.Settings.{fresh}
use Rattle.cg_text.specs.declared.settings.Settings.{Settings}
use Rattle.cg_model.specs.Tree.{Tree, group, place_of, parent_group}
use Rattle.cg_model.specs.Derived.{children, processes, available, with_cpuset}
use Rattle.cg_model.specs.Sound.{IsChildOf, admits, Sound}
use Rattle.cg_model.specs.Key.{Field, Setting, with_setting, Group, Place, Part, put, replaced}
use Rattle.cg_model.specs.Key as keys
use Rattle.cg_model.specs.Change.{done}
use Rattle.cg_model.specs.Command.{Command, IsProper, Effect}
use Rattle.cg_model_laws.specs.Laws.{SoundKept}
use Rattle.cg_model_laws.proofs.Paths.{never}
use Rattle.cg_model_laws.proofs.Parents.{last_is_parent, no_child, no_process, available_below}
use Rattle.cg_model_laws.proofs.ControllerSets.{has-such_that}
use Rattle.cg_model_laws.proofs.IfAccepted.{IfAccepted}
use Rattle.cg_model_laws.proofs.SoundPuts.{no_members_is_empty, same_root, put_group, put_place, own_root, put_part, same_control, same_control_and_cpus}
use Rattle.cg_model_laws.proofs.SoundControl.{unrefused_sound}
use Rattle.cg_model_laws.proofs.EachCommand.{EachCommand, of_each}

not_root : {n : Name} {p : Path} {A : Type 0} → (n ∷ p) ≡ [] → A
not_root e = never (ap is_root e)

module _ (T : Tree) (sound : Sound T) where
  abbrev AfterIsSound : Command → Effect → Type 0
  AfterIsSound c e = IsProper c → IfAccepted e (λ cs. Sound (done cs T))

  group_made : (n : Name) (p : Path) (u : Settings) → group T (n ∷ p) ≡ None → parent_group T (n ∷ p) ≡ Some u → Sound (put (Group (n ∷ p)) (Some fresh) T)
  group_made n p u e g =
      let asks_nothing : IsChildOf u fresh = record { control = λ c h. never (sym (has-such_that (λ _. false) c) ∙ h); cpus = λ h. never (sym h ∙ no_members_is_empty) } in
      put_group T sound (n ∷ p) (Some fresh) (record {
        root = λ is. not_root is;
        parent = λ q s a v. (u, sym (last_is_parent (group T) q (n ∷ p) a) ∙ g, subst (IsChildOf u) (same_Some fresh s v) asks_nothing);
        children = λ q s a h. absurd (none-some _ (sym e ∙ (sound.child (n ∷ p) q s a h).1));
        processes = λ k h. absurd (none-some _ (sym e ∙ (sound.process k (n ∷ p) h).1));
      })

  group_removed : (n : Name) (p : Path) → is_nonempty (children T (n ∷ p)) ≡ false → is_nonempty (processes T (n ∷ p)) ≡ false → Sound (put (Group (n ∷ p)) None T)
  group_removed n p x y = put_group T sound (n ∷ p) None (record {
    root = λ is. not_root is;
    parent = λ q t a v. absurd (none-some t v);
    children = λ q t a g. absurd (no_child T (n ∷ p) q t x a g);
    processes = λ k h. absurd (no_process T (n ∷ p) k y h);
  })

  place_put : (k : ℕ) (p q : Path) (s : Settings) → place_of T k ≡ Some q → group T p ≡ Some s → admits p s ≡ true → Sound (put (Place k) (Some p) T)
  place_put k p q s e g a = put_place T sound k (replaced (place_of T k) (Some p)) (λ d h.
      let is : p ≡ d = same_Some p d (ap (λ o. replaced o (Some p)) (sym e) ∙ h) in
      (s, ap (group T) (sym is) ∙ g, subst (λ x. admits x s ≡ true) is a))

  freeze_put : (n : Name) (p : Path) (v : Bool) (s : Settings) → group T (n ∷ p) ≡ Some s → Sound (put (Part (n ∷ p) keys.Freeze) (Some v) T)
  freeze_put n p v s e =
      put_part T sound (n ∷ p) s e keys.Freeze v (same_control_and_cpus T sound (n ∷ p) s e (with_setting keys.Freeze v s) refl refl (λ is. not_root is))

  -- the parent passes on cpuset, since that is available
  cpus_put : (n : Name) (p : Path) (v : FiniteSet) (s : Settings) → group T (n ∷ p) ≡ Some s → with_cpuset (available T (n ∷ p)) ≡ true → Sound (put (Part (n ∷ p) keys.Cpus) (Some v) T)
  cpus_put n p v s e has_cpuset =
      put_part T sound (n ∷ p) s e keys.Cpus v (same_control T sound (n ∷ p) s e (with_setting keys.Cpus v s) refl
      (λ q u a g _. ap with_cpuset (sym (available_below T (n ∷ p) q s u e a g)) ∙ has_cpuset) (λ is. not_root is))

  -- a limit is no part of what makes a tree sound
  limit_put : (p : Path) (f : Field) (v : Setting f) (s : Settings) → group T p ≡ Some s
      → ((with_setting f v s).control ≡ s.control) × ((with_setting f v s).cpus ≡ s.cpus) × ((with_setting f v s).freeze ≡ s.freeze)
      → Sound (put (Part p f) (Some v) T)
  limit_put p f v s e (control, cpus, freeze) =
      put_part T sound p s e f v (same_control_and_cpus T sound p s e (with_setting f v s) control cpus (λ is. freeze ∙ (own_root T sound p s e is).freeze))

  online_put : (v : FiniteSet) → is_empty_set v ≡ false → Sound (put keys.Online (Some v) T)
  online_put v h = record { root = let (s, e, r) = sound.root in (s, e, same_root T _ s refl r); child = sound.child; process = sound.process; online = h }

  each_sound : EachCommand T AfterIsSound
  each_sound = record {
    refused = λ c r own proper. tt;
    created = λ n p u e g proper. group_made n p u e g;
    removed = λ n p s e x y proper. group_removed n p x y;
    moved = λ k p q s e g a proper. place_put k p q s e g a;
    controls = λ p ops s a e g x y z proper. unrefused_sound T sound p ops s a e g x y z;
    freezes = λ n p v s e proper. freeze_put n p v s e;
    asks = λ n p v s e g proper. cpus_put n p v s e g;
    shows = λ p f text proper. sound;
    goes_online = λ v proper. online_put v proper;
    limits_descendants = λ p v s e proper. limit_put p keys.MaxDescendants v s e (refl, refl, refl);
    limits_depth = λ p v s e proper. limit_put p keys.MaxDepth v s e (refl, refl, refl);
  }

pub sound_kept : SoundKept
sound_kept c T o cs proper sound e = subst (λ f. IfAccepted f (λ ds. Sound (done ds T))) e (of_each T (AfterIsSound T sound) (each_sound T sound) c proper)
