-- Which groups a list of changes makes or takes away: what the changes of an accepted command tell of the trees before and
-- after it, and what undoing them leaves.
use Rattle.std.proofs.Common.{◌≡◌, ℕ, Bool, true, false, cond, ◌||◌, List, [], ◌∷◌, inl, inr, refl, sym, ap, subst, ◌∙◌, Option, Some, None}
use Rattle.std.specs.Option.{is_some}
use Rattle.std.specs.List.{AllByRecursion}
use Rattle.std.proofs.lemmas.Bool.{cond_both, or_parts, or_cases, or_left, or_right}
use Rattle.cg_maps.specs.FiniteMap.{empty}
use Rattle.cg_maps.specs.FiniteSet.{is_empty_set}
use Rattle.cg_name.specs.Path.{Path}
use Rattle.cg_text.specs.declared.controllers.Controllers.{Controllers}
use Rattle.cg_text.specs.declared.settings.Settings.{Settings}
use Rattle.cg_model.specs.Tree.{Tree, group, place_of}
use Rattle.cg_model.specs.Derived.{children}
use Rattle.cg_model.specs.Key.{Field, Setting, Key, Group, Place, Part, ValueOf, value_at, part_replaced, put}
use Rattle.cg_model.specs.Key as keys
use Rattle.cg_model.specs.Change.{Change, change, undone, Fits}
use Rattle.cg_model.specs.Command.{Command, Effect}
use Rattle.cg_model.specs.Control.{planned, emptied, loses_cpuset, control_change}
use Rattle.cg_model.specs.Effect.{effect}
use Rattle.cg_model.specs.Room.{is_group_key, changes_group, changes_of, room_for, RoomFor}
use Rattle.cg_model_laws.proofs.Paths.{same_path-is, same_path-itself, paths_differ, path_cases}
use Rattle.cg_model_laws.proofs.Keys.{group_here, group_apart}
use Rattle.cg_model_laws.proofs.EachCommand.{EachCommand, of_each}

-- ---- what undoing leaves

there_replaced : (f : Field) (v : Option (Setting f)) (s : Option Settings) → is_some (part_replaced f v s) ≡ is_some s
there_replaced f v None = refl
there_replaced f None (Some s) = refl
there_replaced f (Some v) (Some s) = refl

-- a put of any other key leaves whether a group is there
pub there_put : (p : Path) (k : Key) (v : Option (ValueOf k)) (T : Tree) → is_group_key p k ≡ false → is_some (group (put k v T) p) ≡ is_some (group T p)
there_put p (Group q) v T e = ap is_some (group_apart T q v p (paths_differ p q e))
there_put p (Place k) v T e = refl
there_put p (Part q f) v T e = elim (path_cases p q) [
  | inl is ↦ subst (λ x. is_some (group (put (Part q f) v T) x) ≡ is_some (group T x)) (sym is) (ap is_some (group_here T q _) ∙ there_replaced f v (group T q))
  | inr ne ↦ ap is_some (group_apart T q _ p ne)
]
there_put p keys.Online v T e = refl

-- so does undoing changes of other keys
pub there_undone : (p : Path) (cs : List Change) (T : Tree) → changes_group p cs ≡ false → is_some (group (undone cs T) p) ≡ is_some (group T p)
there_undone p [] T e = refl
there_undone p (c ∷ cs) T e = there_put p c.key c.before (undone cs T) (or_parts _ _ e).0 ∙ there_undone p cs T (or_parts _ _ e).1

-- ---- what the changes of an accepted command tell

-- of the tree before it: a group that changes is there before or after, and a process that moves was where it is put back
abbrev Tells : Tree → (k : Key) → Option (ValueOf k) → Option (ValueOf k) → Type 0
Tells T (Group p) b l = (is_some (group T p) || is_some l) ≡ true
Tells T (Place k) b l = place_of T k ≡ b
Tells T _ b l = Unit {0}

abbrev pub AllTell : Tree → List Change → Type 0
AllTell T cs = AllByRecursion (λ c. Tells T c.key c.before c.left) cs

module _ (T : Tree) where
  abbrev TellsOfCommand : Command → Effect → Type 0
  TellsOfCommand c e = AllTell T (changes_of e)

  all_emptied : (p : Path) (s t : Controllers) (es : List (Path × Settings)) → AllTell T (emptied es (control_change p s t))
  all_emptied p s t [] = (tt, tt)
  all_emptied p s t (e ∷ es) = cond_both (is_empty_set e.1.cpus) _ (change (Part e.0 keys.Cpus) (Some e.1.cpus) (Some empty) ∷ emptied es (control_change p s t)) (AllTell T) (λ _. all_emptied p s t es) (λ _. (tt, all_emptied p s t es))

  each_tells : EachCommand T TellsOfCommand
  each_tells = record {
    refused = λ c r own. tt;
    created = λ n p u e g. (or_right _ _ refl, tt);
    removed = λ n p s e x y. (or_left _ _ (ap is_some e), tt);
    moved = λ k p q s e g a. (e, tt);
    controls = λ p ops s a e g x y z. let t = planned s.control ops in all_emptied p s.control t (cond (loses_cpuset s.control t) (children T p) []);
    freezes = λ n p v s e. (tt, tt);
    asks = λ n p v s e g. (tt, tt);
    shows = λ p f text. tt;
    goes_online = λ v. (tt, tt);
    limits_descendants = λ p v s e. (tt, tt);
    limits_depth = λ p v s e. (tt, tt);
  }

  -- the changes of a command tell it, where it is accepted
  pub tells : (c : Command) → AllTell T (changes_of (effect c T))
  tells c = of_each T TellsOfCommand each_tells c

-- ---- what follows

there_at : (q : Path) (T U : Tree) (k : Key) (b l : Option (ValueOf k)) → Tells T k b l → value_at U k ≡ l → is_group_key q k ≡ true → (is_some (group T q) || is_some (group U q)) ≡ true
there_at q T U (Group p) b l t f e =
    let there : (is_some (group T p) || is_some (group U p)) ≡ true = subst (λ o. (is_some (group T p) || is_some o) ≡ true) (sym f) t in
    subst (λ x. (is_some (group T x) || is_some (group U x)) ≡ true) (sym (same_path-is q p e)) there
there_at q T U (Place k) b l t f e = absurd (cc e)
there_at q T U (Part p g) b l t f e = absurd (cc e)
there_at q T U keys.Online b l t f e = absurd (cc e)

-- a group that changes is there in the tree before or in the one after
pub there_before_or_after : (q : Path) (T U : Tree) (cs : List Change) → AllTell T cs → Fits cs U → changes_group q cs ≡ true → (is_some (group T q) || is_some (group U q)) ≡ true
there_before_or_after q T U [] t f e = absurd (cc e)
there_before_or_after q T U (c ∷ cs) t f e = elim (or_cases _ _ e) [
  | inl here ↦ there_at q T U c.key c.before c.left t.0 f.0 here
  | inr later ↦ there_before_or_after q T U cs t.1 f.1 later
]

module _ (E : Path → Bool) (T : Tree) (places : (k : ℕ) (q : Path) → place_of T k ≡ Some q → E q ≡ true) where
  room_at : (k : Key) (b l : Option (ValueOf k)) → Tells T k b l → ((p : Path) → is_group_key p k ≡ true → E p ≡ true) → room_for E k b
  room_at (Group p) (Some s) l t own = own p (same_path-itself p)
  room_at (Place k) (Some q) l t own = places k q t
  room_at k b l t own = tt

  -- there is room where the groups that change have entries, and the groups of processes
  pub room_from : (cs : List Change) → AllTell T cs → ((p : Path) → changes_group p cs ≡ true → E p ≡ true) → RoomFor E cs
  room_from [] t own = tt
  room_from (c ∷ cs) t own = (room_at c.key c.before c.left t.0 (λ p e. own p (or_left _ _ e)), room_from cs t.1 (λ p e. own p (or_right _ _ e)))
