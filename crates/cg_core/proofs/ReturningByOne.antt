-- Going back by one command: the core after it is that of the history with its record.
use Rattle.std.proofs.Common.{◌≡◌, ℕ, ◌+◌, Bool, true, false, List, [], ◌∷◌, length, map, drop, take, Some, refl, sym, ap, subst, subst₂, ◌∙◌, arith}
use Rattle.std.proofs.lemmas.Bool.{false≢true}
use Rattle.cg_core.proofs.Stages.Unwinding.{newest_may_come_off, held_after_newest_off}
use Rattle.cg_core.proofs.Stepping.{unrecorded}
use Rattle.cg_core.proofs.TheLaws.{steps_law}
use Rattle.cg_core.specs.Parts.{stack_item, IsCoreOf}
use Rattle.cg_core.specs.Stage.{Holds}
use Rattle.cg_core_laws.specs.MachineOf.{entry_of, machine_of, history_after}
use Rattle.cg_core_laws.specs.Unwind.{with_items}
use Rattle.cg_history.specs.SessionMap.{found, with_value}
use Rattle.cg_locks.specs.Holdings.{Holdings}
use Rattle.cg_model.specs.Cgroups.{cgroups}
use Rattle.cg_model.specs.Change.{undone}
use Rattle.cg_model.specs.History.{Undo, Gave, Refused, History}
use Rattle.cg_model.specs.Live as live
use Rattle.cg_model.specs.Live.{Item, Ran, AtSavepoint, Items}
use Rattle.cg_model.specs.Machine.{Machine, newest_undone}
use Rattle.cg_model.specs.Opens.{numbers, opens}
use Rattle.cg_model.specs.Reply.{reply, undo_reply}
use Rattle.cg_model.specs.Room.{inverse}
use Rattle.cg_model.specs.Run.{tree_of}
use Rattle.cg_model.specs.System.{Done}
use Rattle.cg_model.specs.Tree.{Tree}
use Rattle.cg_name.specs.declared.refusal.Refusal.TheVariants.{NothingToUndo}
use Rattle.cg_txn.specs.TakingOff.{AllComeOff, AllMayComeOff}
use Rattle.cg_tree.specs.Room.{TreeWithRoom}
use Rattle.cg_txn.specs.Stack.{Stack, ends_in_command}
use Rattle.cg_core.proofs.ReturningParts.{items_are, is_open, unwindable, replied, history_is, tree_after, stays_core}

-- the newest item is a command: undo takes it off
record IsNewest (O : Tree) (l : Items cgroups) : Type 0 where
  pub item : Item cgroups
  pub rest : Items cgroups
  pub parts : l ≡ item ∷ rest
  pub left : drop 1 l ≡ rest
  pub stack : drop 1 (map (stack_item O) l) ≡ map (stack_item O) rest
  pub answer : undo_reply l ≡ Gave Done
  pub tree : (m : Machine cgroups) (t : ℕ) → (newest_undone cgroups m t (map (entry_of O) l)).0.tree ≡ undone (inverse O item) m.tree

newest : (O : Tree) (l : Items cgroups) → ends_in_command (map (stack_item O) l) ≡ true → IsNewest O l
newest O [] e = absurd (false≢true e)
newest O (Ran u h c a ∷ l) e = record { item = Ran u h c a; rest = l; parts = refl; left = refl; stack = refl; answer = refl; tree = λ m t. refl }
newest O (AtSavepoint u h n ∷ l) e = absurd (false≢true e)

-- where it is none, undo is refused
none_newest : (O : Tree) (l : Items cgroups) → ends_in_command (map (stack_item O) l) ≡ false → undo_reply l ≡ Refused NothingToUndo
none_newest O [] e = refl
none_newest O (Ran u h c a ∷ l) e = absurd (false≢true (sym e))
none_newest O (AtSavepoint u h n ∷ l) e = refl

-- where it is none, the code has nothing to take off
none_first : (O : Tree) (t : ℕ) (l : Items cgroups) (R : TreeWithRoom) (H : Holdings) → ends_in_command (map (stack_item O) l) ≡ false → AllMayComeOff t (take 1 (map (stack_item O) l)) R H
none_first O t [] R H e = tt
none_first O t (Ran u h c a ∷ l) R H e = absurd (false≢true (sym e))
none_first O t (AtSavepoint u h n ∷ l) R H e = tt

module _ {O : Tree} {b : ℕ} {h : History cgroups} {n : ℕ} {R : TreeWithRoom} {H : Holdings} {xs : List (ℕ × Stack)} (core : IsCoreOf O b h n R H xs) (s : ℕ) (x : Stack) (is : found s xs ≡ Some x) where
  -- the newest item may come off
  pub undo_may : AllMayComeOff x.number (take 1 x.items) R H
  undo_may = subst (λ l. AllMayComeOff x.number (take 1 l) R H) (sym (items_are core s x is)) (at (ends_in_command (map (stack_item O) (live.live x.number h))) refl)
    where
      at : (c : Bool) → ends_in_command (map (stack_item O) (live.live x.number h)) ≡ c → AllMayComeOff x.number (take 1 (map (stack_item O) (live.live x.number h))) R H
      at false e = none_first O x.number (live.live x.number h) R H e
      at true e =
          let top = newest O (live.live x.number h) e in
          newest_may_come_off x.number (is_open core s x is) core.holds (unwindable core s x is) top.item top.rest top.parts

  -- where no command is the newest item, it is refused
  module _ (none : ends_in_command x.items ≡ false) where
    pub undo_refused : reply cgroups O b h s Undo ≡ Refused NothingToUndo
    undo_refused = replied core s x is Undo ∙ none_newest O (live.live x.number h) (sym (ap ends_in_command (items_are core s x is)) ∙ none)

    pub history_not_undone : history_after O b h s Undo ≡ h
    history_not_undone = unrecorded steps_law O b h core.sound core.reached s Undo tt (Refused NothingToUndo) undo_refused refl

  -- else it comes off
  module _ (some : ends_in_command x.items ≡ true) where
    top : IsNewest O (live.live x.number h)
    top = newest O (live.live x.number h) (sym (ap ends_in_command (items_are core s x is)) ∙ some)

    pub undo_answered : reply cgroups O b h s Undo ≡ Gave Done
    undo_answered = replied core s x is Undo ∙ top.answer

    pub history_undone : history_after O b h s Undo ≡ record { session = s; transaction = x.number; request = Undo; answer = Gave Done } ∷ h
    history_undone = history_is core s x is Undo (Gave Done) tt undo_answered refl

    pub undone_core : (n' : ℕ) (R' : TreeWithRoom) (H' : Holdings) (x' : Stack) → AllComeOff x.number (take 1 x.items) R H R' H' → x' ≡ record x { items = drop 1 x.items } → n' + 1 ≡ n
        → IsCoreOf O b (record { session = s; transaction = x.number; request = Undo; answer = Gave Done } ∷ h) n' R' H' (with_value s x' xs)
    undone_core n' R' H' x' off written counted =
        let items : x.items ≡ map (stack_item O) (live.live x.number h) = items_are core s x is in
        let held : Holds O (numbers (opens h)) (with_items x.number top.rest (λ u. live.live u h)) (undone (inverse O top.item) (tree_of cgroups O h)) R' H' =
        held_after_newest_off x.number (is_open core s x is) core.holds (unwindable core s x is) top.item top.rest top.parts R' H'
        (subst (λ l. AllComeOff x.number (take 1 l) R H R' H') items off) in
        let tree : tree_of cgroups O (record { session = s; transaction = x.number; request = Undo; answer = Gave Done } ∷ h) ≡ undone (inverse O top.item) (tree_of cgroups O h) =
        tree_after core s x is Undo (Gave Done) tt undo_answered refl ∙ top.tree (machine_of O b h) x.number in
        let long : length (live.live x.number h) ≡ length (top.item ∷ top.rest) = ap length top.parts in
        let short : length (drop 1 (live.live x.number h)) ≡ length top.rest = ap length top.left in
        stays_core core s x is Undo (Gave Done) tt undo_answered refl refl n' R' H' x'
        (ap (λ (y : Stack). y.number) written)
        (ap (λ (y : Stack). y.items) written ∙ ap (drop 1) items ∙ top.stack ∙ sym (ap (map (stack_item O)) top.left))
        (subst₂ (λ l T. Holds O (numbers (opens h)) (with_items x.number l (λ u. live.live u h)) T R' H') (sym top.left) (sym tree) held)
        (omega (arith, long, short, counted))
