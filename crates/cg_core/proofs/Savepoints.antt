-- A savepoint is set: the core after it is that of the history with its record.
use Rattle.std.proofs.Common.{◌≡◌, ℕ, ◌+◌, Bool, true, false, cond, List, ◌∷◌, map, Some, refl, sym, ap, subst, ◌∙◌, arith}
use Rattle.cg_name.specs.Name.{Name}
use Rattle.cg_name.specs.declared.refusal.Refusal.TheVariants.{Full, NameTaken}
use Rattle.cg_model.specs.Cgroups.{cgroups}
use Rattle.cg_model.specs.History.{Save, Saved, Refused, Answer, History}
use Rattle.cg_model.specs.Live.{AtSavepoint, Items, live}
use Rattle.cg_model.specs.Machine.{Machine, StackEntry, step_in}
use Rattle.cg_model.specs.Machine as machine
use Rattle.cg_model.specs.Opens.{numbers, opens}
use Rattle.cg_model.specs.Reply as replies
use Rattle.cg_model.specs.Reply.{reply, is_full}
use Rattle.cg_model.specs.Run.{tree_of}
use Rattle.cg_model.specs.Tree.{Tree}
use Rattle.cg_core_laws.specs.MachineOf.{entry_of, machine_of, history_after}
use Rattle.cg_core_laws.specs.Unwind.{with_items}
use Rattle.cg_history.specs.SessionMap.{found, with_value}
use Rattle.cg_locks.specs.Holdings.{Holdings}
use Rattle.cg_tree.specs.Room.{TreeWithRoom}
use Rattle.cg_txn.specs.Stack.{Stack, Savepoint, has_savepoint}
use Rattle.cg_core.specs.Parts.{IsCoreOf}
use Rattle.cg_core.specs.Stage.{Holds}
use Rattle.cg_core.proofs.ReturningParts.{items_are, replied, history_is, tree_after, stays_core}
use Rattle.cg_core.proofs.Stages.Alike.{save}
use Rattle.cg_core.proofs.Stages.StackItems.{same_savepoints}
use Rattle.cg_core.proofs.Stepping.{unrecorded}
use Rattle.cg_core.proofs.TheLaws.{steps_law}

abbrev machine_or : Bool → Machine cgroups × Answer → Machine cgroups × Answer → Machine cgroups × Answer
machine_or b p q = cond b p q

-- whatever a save is answered, the tree stays
saves_tree : (a b : Bool) (m l : Machine cgroups) (x y z : Answer) → m.tree ≡ l.tree → (machine_or a (m, x) (machine_or b (m, y) (l, z))).0.tree ≡ m.tree
saves_tree true b m l x y z e = refl
saves_tree false true m l x y z e = refl
saves_tree false false m l x y z e = sym e

module _ {O : Tree} {b : ℕ} {h : History cgroups} {n : ℕ} {R : TreeWithRoom} {H : Holdings} {xs : List (ℕ × Stack)} (core : IsCoreOf O b h n R H xs) (s : ℕ) (x : Stack) (is : found s xs ≡ Some x) (name : Name) where
  abbrev ours : Items cgroups
  ours = live x.number h

  has_is : has_savepoint name x.items ≡ replies.has_savepoint name ours
  has_is = ap (has_savepoint name) (items_are core s x is) ∙ same_savepoints O name ours

  abbrev answer_by : Bool → Bool → Answer
  answer_by taken full = cond taken (Refused NameTaken) (cond full (Refused Full) Saved)

  save_reply : (taken : Bool) → has_savepoint name x.items ≡ taken → reply cgroups O b h s (Save name) ≡ answer_by taken (is_full b h)
  save_reply taken e = replied core s x is (Save name) ∙ ap (λ k. answer_by k (is_full b h)) (sym has_is ∙ e)

  -- the name is taken
  pub save_taken : has_savepoint name x.items ≡ true → reply cgroups O b h s (Save name) ≡ Refused NameTaken
  save_taken e = save_reply true e

  pub history_taken : has_savepoint name x.items ≡ true → history_after O b h s (Save name) ≡ h
  history_taken e = unrecorded steps_law O b h core.sound core.reached s (Save name) tt (Refused NameTaken) (save_taken e) refl

  -- the history is full
  pub save_full : has_savepoint name x.items ≡ false → is_full b h ≡ true → reply cgroups O b h s (Save name) ≡ Refused Full
  save_full e f = save_reply false e ∙ ap (answer_by false) f

  pub history_full : has_savepoint name x.items ≡ false → is_full b h ≡ true → history_after O b h s (Save name) ≡ h
  history_full e f = unrecorded steps_law O b h core.sound core.reached s (Save name) tt (Refused Full) (save_full e f) refl

  -- it is set
  module _ (free : has_savepoint name x.items ≡ false) (room : is_full b h ≡ false) where
    pub save_answered : reply cgroups O b h s (Save name) ≡ Saved
    save_answered = save_reply false free ∙ ap (answer_by false) room

    abbrev saved_history : History cgroups
    saved_history = record { session = s; transaction = x.number; request = Save name; answer = Saved } ∷ h

    pub history_saved : history_after O b h s (Save name) ≡ saved_history
    history_saved = history_is core s x is (Save name) Saved tt save_answered refl

    tree_is : tree_of cgroups O saved_history ≡ tree_of cgroups O h
    tree_is =
        tree_after core s x is (Save name) Saved tt save_answered refl
        ∙ saves_tree (machine.stack_has_savepoint name (map (entry_of O) ours)) (machine.is_full_machine (machine_of O b h)) (machine_of O b h) _ (Refused NameTaken) (Refused Full) Saved refl

    pub saved_core : (n' : ℕ) (x' : Stack) → n' ≡ n + 1 → x'.number ≡ x.number → x'.items ≡ Savepoint name ∷ x.items → IsCoreOf O b saved_history n' R H (with_value s x' xs)
    saved_core n' x' one number items =
        stays_core core s x is (Save name) Saved tt save_answered refl refl n' R H x' number (items ∙ ap (λ l. Savepoint name ∷ l) (items_are core s x is))
        (subst (λ T. Holds O (numbers (opens h)) (with_items x.number (AtSavepoint x.number h name ∷ ours) (λ u. live u h)) T R H) (sym tree_is) (save x.number x.number h name core.holds))
        (omega (arith, one))
