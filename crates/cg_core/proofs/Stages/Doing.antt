-- A command is done, and stands on the stack of its transaction.
use Rattle.std.proofs.Common.{◌≡◌, ℕ, ◌+◌, ◌==◌, ◌&&◌, ◌||◌, Bool, true, false, cond, inl, inr, List, [], ◌∷◌, Some, None, refl, sym, ap, ◌∙◌, subst, arith, add-zero}
use Rattle.std.specs.Option.{is_some}
use Rattle.std.proofs.lemmas.Bool.{eqb-true, or_parts, or_left, or_right}
use Rattle.cg_maps.specs.FiniteMap.{FiniteMap, get, set_at}
use Rattle.cg_maps.proofs.Maps.{get_here, get_apart}
use Rattle.cg_name.specs.Path.{Path, path_cmp}
use Rattle.cg_name.specs.Order.{path_cmp_total, path_cmp_exact}
use Rattle.cg_text.specs.Settings.{fresh}
use Rattle.cg_text.specs.declared.settings.Settings.{Settings}
use Rattle.cg_model.specs.System.{Outcome, Accept}
use Rattle.cg_model.specs.Tree.{Tree, group}
use Rattle.cg_model.specs.Derived.{children}
use Rattle.cg_model.specs.Key as keys
use Rattle.cg_model.specs.Key.{Group, Place, put}
use Rattle.cg_model.specs.Change.{Change, change, done}
use Rattle.cg_model.specs.Command.{Command, Effect, IsAccepted}
use Rattle.cg_model.specs.Control.{planned, loses_cpuset, controlled}
use Rattle.cg_model.specs.Effect.{effect}
use Rattle.cg_model.specs.Footprint.{Mark, footprint}
use Rattle.cg_model.specs.Cgroups.{cgroups}
use Rattle.cg_model.specs.History.{History}
use Rattle.cg_model.specs.Live.{Item, Ran, Items}
use Rattle.cg_model.specs.Opens.{among}
use Rattle.cg_model.specs.Run.{tree_of}
use Rattle.cg_model.specs.Room as room
use Rattle.cg_model.specs.Room.{changes_group, changes_of, inverse, needs_group, is_needed}
use Rattle.cg_model.specs.Writes.{written}
use Rattle.cg_model_laws.proofs.Paths.{same_path-from, same_path-apart, path_cases}
use Rattle.cg_model_laws.proofs.EachCommand.{EachCommand, of_each}
use Rattle.cg_core_laws.specs.Unwind.{with_items}
use Rattle.cg_core_laws.proofs.ControlGroups.GroupChanges.{there_put}
use Rattle.cg_core_laws.proofs.ControlGroups.MarkedGroups.{none_emptied}
use Rattle.cg_command.specs.Applied.{entries_after}
use Rattle.cg_locks.specs.Holdings.{Holdings, holdings}
use Rattle.cg_locks.specs.Marks.{times}
use Rattle.cg_tree.specs.Room.{TreeWithRoom, has_entry}
use Rattle.cg_core.specs.Held.{times_on}
use Rattle.cg_core.specs.Stage.{Holds}
use Rattle.cg_core.proofs.Stages.LiveStacks.{compared_either_way}

-- ---- entries

-- changes of other keys leave whether a group is there
there_done : (p : Path) (cs : List Change) (T : Tree) → changes_group p cs ≡ false → is_some (group (done cs T) p) ≡ is_some (group T p)
there_done p [] T e = refl
there_done p (c ∷ cs) T e = there_done p cs (put c.key c.left T) (or_parts _ _ e).1 ∙ there_put p c.key c.left T (or_parts _ _ e).0

-- the entry of p, where there was one exactly if p was a group or needed
module _ (T : Tree) (E : FiniteMap path_cmp (Unit {0})) (p : Path) (needed : Bool) (had : is_some (get E p) ≡ (is_some (group T p) || needed)) where
  abbrev HasEntryAfter : FiniteMap path_cmp (Unit {0}) → List Change → Type 0
  HasEntryAfter F cs = is_some (get F p) ≡ (is_some (group (done cs T) p) || (changes_group p cs || needed))

  abbrev HasEntryIfAccepted : Command → Effect → Type 0
  HasEntryIfAccepted c e = IsAccepted e → HasEntryAfter (entries_after c E) (changes_of e)

  stays : (F : FiniteMap path_cmp (Unit {0})) (cs : List Change) → is_some (get F p) ≡ is_some (get E p) → changes_group p cs ≡ false → HasEntryAfter F cs
  stays F cs same none = same ∙ had ∙ (λ i. sym (there_done p cs T none) i || (sym none i || needed))

  changes : (F : FiniteMap path_cmp (Unit {0})) (cs : List Change) → is_some (get F p) ≡ true → changes_group p cs ≡ true → HasEntryAfter F cs
  changes F cs there own = there ∙ sym (or_right _ _ (or_left _ _ own))

  made : (q : Path) → HasEntryAfter (set_at E q (Some tt)) (change (Group q) None (Some fresh) ∷ [])
  made q = elim (path_cases p q) [
    | inl is ↦ changes (set_at E q (Some tt)) (change (Group q) None (Some fresh) ∷ [])
        (ap (λ r. is_some (get (set_at E r (Some tt)) p)) (sym is) ∙ ap is_some (get_here path_cmp_total path_cmp_exact E p (Some tt))) (or_left _ _ (same_path-from p q is))
    | inr ne ↦ stays (set_at E q (Some tt)) (change (Group q) None (Some fresh) ∷ [])
        (ap is_some (get_apart path_cmp_total path_cmp_exact E q (Some tt) p ne)) (ap (λ b. b || false) (same_path-apart p q ne))
  ]

  taken_away : (q : Path) (s : Settings) → group T q ≡ Some s → HasEntryAfter E (change (Group q) (Some s) None ∷ [])
  taken_away q s e = elim (path_cases p q) [
    | inl is ↦ changes E (change (Group q) (Some s) None ∷ []) (had ∙ or_left _ _ (ap (λ r. is_some (group T r)) is ∙ ap is_some e)) (or_left _ _ (same_path-from p q is))
    | inr ne ↦ stays E (change (Group q) (Some s) None ∷ []) refl (ap (λ b. b || false) (same_path-apart p q ne))
  ]

  each_has : EachCommand T HasEntryIfAccepted
  each_has = record {
    refused = λ c r own accepted. absurd accepted;
    created = λ n q u e g accepted. made (n ∷ q);
    removed = λ n q s e x y accepted. taken_away (n ∷ q) s e;
    moved = λ k q r s e g a accepted. stays E (change (Place k) (Some r) (Some q) ∷ []) refl refl;
    controls = λ q ops s a e g x y z accepted. let t = planned s.control ops in stays E (controlled q s.control t (children T q)) refl (none_emptied T p q s.control t (cond (loses_cpuset s.control t) (children T q) []));
    freezes = λ n q v s e accepted. stays E (changes_of (written (n ∷ q) keys.Freeze v s)) refl refl;
    asks = λ n q v s e g accepted. stays E (changes_of (written (n ∷ q) keys.Cpus v s)) refl refl;
    shows = λ q f text accepted. stays E [] refl refl;
    goes_online = λ v accepted. stays E (change keys.Online (Some T.online) (Some v) ∷ []) refl refl;
    limits_descendants = λ q v s e accepted. stays E (changes_of (written q keys.MaxDescendants v s)) refl refl;
    limits_depth = λ q v s e accepted. stays E (changes_of (written q keys.MaxDepth v s)) refl refl;
  }

  entry_after : (c : Command) (a : Outcome) (d : List Change) → effect c T ≡ Accept a d → HasEntryAfter (entries_after c E) d
  entry_after c a d e =
      let told : HasEntryIfAccepted c (Accept a d) = subst (HasEntryIfAccepted c) e (of_each T HasEntryIfAccepted each_has c) in
      told tt

-- ---- what is needed

one_needs : (c m n r : Bool) → ((c || n) || ((m && c) || r)) ≡ (c || (n || r))
one_needs true m n r = refl
one_needs false true n r = refl
one_needs false false n r = refl

other_needs : (x n r : Bool) → (n || (x || r)) ≡ (x || (n || r))
other_needs true true r = refl
other_needs false true r = refl
other_needs x false r = refl

module _ (O : Tree) (p : Path) (t : ℕ) (x : Item cgroups) (stacks : ℕ → Items cgroups) where
  abbrev changed : Bool
  changed = changes_group p (inverse O x)

  -- with one item more on t's stack, its groups are needed too
  needed_more : (ts : List ℕ) → is_needed O (with_items t (x ∷ stacks t) stacks) ts p ≡ ((among t ts && changed) || is_needed O stacks ts p)
  needed_more [] = refl
  needed_more (u ∷ us) = at (u == t) refl (needed_more us)
    where
      at : (b : Bool) → (u == t) ≡ b → is_needed O (with_items t (x ∷ stacks t) stacks) us p ≡ ((among t us && changed) || is_needed O stacks us p)
          → (needs_group O p (cond b (x ∷ stacks t) (stacks u)) || is_needed O (with_items t (x ∷ stacks t) stacks) us p) ≡ ((((t == u) || among t us) && changed) || (needs_group O p (stacks u) || is_needed O stacks us p))
      at true k rest =
          (λ i. (changed || needs_group O p (stacks (sym (eqb-true u t k) i))) || rest i)
          ∙ one_needs changed (among t us) (needs_group O p (stacks u)) (is_needed O stacks us p)
          ∙ (λ i. ((sym (compared_either_way t u ∙ k) i || among t us) && changed) || (needs_group O p (stacks u) || is_needed O stacks us p))
      at false k rest =
          (λ i. needs_group O p (stacks u) || rest i)
          ∙ other_needs (among t us && changed) (needs_group O p (stacks u)) (is_needed O stacks us p)
          ∙ (λ i. ((sym (compared_either_way t u ∙ k) i || among t us) && changed) || (needs_group O p (stacks u) || is_needed O stacks us p))

-- ---- the command is done

-- what a command c of t, accepted in the tree T of the records h, leaves: its changes are made, there is an entry of a group that it
-- makes, and t holds its marks
pub record IsDone (O : Tree) (t : ℕ) (h : History cgroups) (c : Command) (a : Outcome) (d : List Change) (T : Tree) (R : TreeWithRoom) (H : Holdings) (R' : TreeWithRoom) (H' : Holdings) : Type 0 where
  pub recorded : T ≡ tree_of cgroups O h
  pub effect : effect c T ≡ Accept a d
  pub tree : R'.tree ≡ done d R.tree
  pub entries : R'.entries ≡ entries_after c R.entries
  pub held : (u : ℕ) (m : Mark) → holdings H' u m ≡ holdings H u m + cond (u == t) (times m (footprint c T)) 0

module _ {O : Tree} {ts : List ℕ} {stacks : ℕ → Items cgroups} {T : Tree} {R : TreeWithRoom} {H : Holdings} (t v : ℕ) (c : Command) (h : History cgroups) (a : Outcome) (d : List Change) (R' : TreeWithRoom) (H' : Holdings)
    (holds : Holds O ts stacks T R H) (is_open : among t ts ≡ true) (is_done : IsDone O t h c a d T R H R' H') where
  abbrev stacks_after : ℕ → Items cgroups
  stacks_after = with_items t (Ran v h c a ∷ stacks t) stacks

  inverse_is : inverse O (Ran v h c a) ≡ d
  inverse_is = ap (λ U. changes_of (effect c U)) (sym is_done.recorded) ∙ ap changes_of is_done.effect

  needed_is : (p : Path) → is_needed O stacks_after ts p ≡ (changes_group p d || is_needed O stacks ts p)
  needed_is p = needed_more O p t (Ran v h c a) stacks ts ∙ (λ i. (is_open i && changes_group p (inverse_is i)) || is_needed O stacks ts p)

  entry_is : (p : Path) → has_entry R' p ≡ room.has_entry O stacks_after ts (done d T) p
  entry_is p =
      ap (λ E. is_some (get E p)) is_done.entries
      ∙ entry_after T R.entries p (is_needed O stacks ts p) (holds.entries p) c a d is_done.effect
      ∙ ap (λ b. is_some (group (done d T) p) || b) (sym (needed_is p))

  held_is : (u : ℕ) (m : Mark) → holdings H' u m ≡ cond (among u ts) (times_on O m (stacks_after u)) 0
  held_is u m = at (u == t) refl
    where
      at : (b : Bool) → (u == t) ≡ b → holdings H' u m ≡ cond (among u ts) (times_on O m (cond b (Ran v h c a ∷ stacks t) (stacks u))) 0
      at true k =
          let is : u ≡ t = eqb-true u t k in
          let opened : among u ts ≡ true = ap (λ w. among w ts) is ∙ is_open in
          let more : holdings H' u m ≡ holdings H u m + times m (footprint c T) = is_done.held u m ∙ ap (λ b. holdings H u m + cond b (times m (footprint c T)) 0) k in
          let was : holdings H u m ≡ times_on O m (stacks t) = holds.held u m ∙ ap (λ b. cond b (times_on O m (stacks u)) 0) opened ∙ ap (λ w. times_on O m (stacks w)) is in
          let marks : times m (footprint c T) ≡ times m (footprint c (tree_of cgroups O h)) = ap (λ U. times m (footprint c U)) is_done.recorded in
          let sum : holdings H' u m ≡ times m (footprint c (tree_of cgroups O h)) + times_on O m (stacks t) = omega (arith, more, was, marks) in
          sum ∙ ap (λ b. cond b (times_on O m (Ran v h c a ∷ stacks t)) 0) (sym opened)
      at false k =
          let same : holdings H' u m ≡ holdings H u m + 0 = is_done.held u m ∙ ap (λ b. holdings H u m + cond b (times m (footprint c T)) 0) k in
          same ∙ add-zero (holdings H u m) ∙ holds.held u m

  -- and the stack with it is held
  pub held_after_doing : Holds O ts stacks_after (done d T) R' H'
  held_after_doing = record {
    tree = is_done.tree ∙ ap (done d) holds.tree;
    entries = entry_is;
    held = held_is;
  }
