-- Going back by one command, and draining by one item as a transaction commits.
use Rattle.std.proofs.Common.{◌≡◌, ℕ, ◌+◌, ◌==◌, Bool, true, false, cond, List, [], ◌∷◌, ◌++◌, refl, sym, ap, ◌∙◌, subst, arith, add-zero, Option, Some}
use Rattle.std.proofs.lemmas.List.Folds.{list_any-append}
use Rattle.std.proofs.Math.Bool.{or-false}
use Rattle.cg_name.specs.Name.{Name}
use Rattle.cg_name.specs.Path.{Path}
use Rattle.cg_model.specs.Tree.{Tree}
use Rattle.cg_model.specs.Change.{Change, undone, Fits}
use Rattle.cg_model.specs.Cgroups.{cgroups}
use Rattle.cg_model.specs.Footprint.{Mark}
use Rattle.cg_model.specs.History.{History}
use Rattle.cg_model.specs.Key.{Key, Group, Place, ValueOf}
use Rattle.cg_model.specs.Live.{Item, AtSavepoint, Items}
use Rattle.cg_model.specs.Opens.{among}
use Rattle.cg_model.specs.Room as room
use Rattle.cg_model.specs.Room.{changes_group, inverse, needs_group, room_for, RoomFor}
use Rattle.cg_core_laws.specs.Unwind.{with_items}
use Rattle.cg_core_laws.proofs.ControlGroups.UnwindingStages.{own_items}
use Rattle.cg_core_laws.specs.LettingGo.{footprint_of, LetsGo, ComesOff}
use Rattle.cg_locks.specs.Holdings.{Holdings, holdings}
use Rattle.cg_locks.specs.Marks.{times}
use Rattle.cg_tree.specs.Room.{TreeWithRoom, has_entry}
use Rattle.cg_core.specs.Held.{times_on}
use Rattle.cg_core.specs.Stage.{Holds}
use Rattle.cg_txn.specs.TakingOff.{undone_in, MayComeOff}
use Rattle.cg_txn.specs.LettingGo.{MayLetGo, IsLetGo}
use Rattle.cg_core.proofs.Stages.Alike.{alike}
use Rattle.cg_core.proofs.Stages.Marked.{times_on-append}
use Rattle.cg_core.proofs.Stages.LettingGo.{BeforeLettingGo, may_let_go, held_without}

-- an open transaction holds what is on its stack
own_held : {O : Tree} {ts : List ℕ} {stacks : ℕ → Items cgroups} {T : Tree} {R : TreeWithRoom} {H : Holdings} (t : ℕ) → among t ts ≡ true → Holds O ts stacks T R H → (m : Mark) → holdings H t m ≡ times_on O m (stacks t)
own_held {O} {ts} {stacks} t is_open h m = h.held t m ∙ ap (λ b. cond b (times_on O m (stacks t)) 0) is_open

-- the stacks of others are what they were
at_other : (t : ℕ) (l : Items cgroups) (stacks : ℕ → Items cgroups) (u : ℕ) → (u == t) ≡ false → with_items t l stacks u ≡ stacks u
at_other t l stacks u k = ap (λ b. cond b l (stacks u)) k

-- there is room where there are as many entries
same_room : (E F : Path → Bool) → ((p : Path) → F p ≡ E p) → (cs : List Change) → RoomFor E cs → RoomFor F cs
same_room E F same [] r = r
same_room E F same (c ∷ cs) r = (at c.key c.before r.0, same_room E F same cs r.1)
  where
    at : (k : Key) (v : Option (ValueOf k)) → room_for E k v → room_for F k v
    at (Group p) (Some s) e = same p ∙ e
    at (Place k) (Some q) e = same q ∙ e
    at k v e = tt

-- ---- the newest item comes off

module _ {O : Tree} {ts : List ℕ} {stacks : ℕ → Items cgroups} {T : Tree} {R : TreeWithRoom} {H : Holdings} (t : ℕ) (x : Item cgroups) (l : Items cgroups)
    (h : Holds O ts stacks T R H) (is_open : among t ts ≡ true) (stack : stacks t ≡ x ∷ l) (law : ComesOff O ts stacks T t x l) where
  before : BeforeLettingGo O ts (room.has_entry O stacks ts T) stacks (undone (inverse O x) T) t x l (undone_in (inverse O x) R) H
  before = record {
    is_open = is_open;
    law = law.rest;
    tree = ap (undone (inverse O x)) h.tree;
    entries = h.entries;
    own = λ m. own_held t is_open h m ∙ ap (times_on O m) stack;
    others = λ u m k. h.held u m;
  }

  -- the newest item may come off
  pub may_come_off : MayComeOff t (inverse O x) (footprint_of O x) R H
  may_come_off = record {
    fits = subst (λ U. Fits (inverse O x) U) (sym h.tree) law.fits;
    room = same_room (room.has_entry O stacks ts T) (has_entry R) h.entries (inverse O x) law.room;
    let_go = may_let_go before;
  }

  -- and after it the rest is held
  pub held_after_coming_off : (R' : TreeWithRoom) (H' : Holdings) → IsLetGo t (footprint_of O x) (undone_in (inverse O x) R) H R' H' → Holds O ts (with_items t l stacks) (undone (inverse O x) T) R' H'
  held_after_coming_off R' H' let_go = held_without before R' H' let_go

-- ---- the oldest item is let go

module _ {O : Tree} {ts : List ℕ} (stacks : ℕ → Items cgroups) {T : Tree} {R : TreeWithRoom} {H : Holdings} (t : ℕ) (newer : Items cgroups) (x : Item cgroups)
    (h : Holds O ts (with_items t (newer ++ x ∷ []) stacks) T R H) (is_open : among t ts ≡ true)
    (law : LetsGo O ts (room.has_entry O (with_items t (newer ++ x ∷ []) stacks) ts T) (with_items t newer stacks) T x newer) where
  own : (m : Mark) → holdings H t m ≡ times m (footprint_of O x) + times_on O m newer
  own m =
      let all : holdings H t m ≡ times_on O m (newer ++ x ∷ []) = own_held t is_open h m ∙ ap (times_on O m) (own_items t (newer ++ x ∷ []) stacks) in
      let parts : times_on O m (newer ++ x ∷ []) ≡ times_on O m newer + (times m (footprint_of O x) + 0) = times_on-append O m newer (x ∷ []) in
      omega (arith, all, parts)

  before_draining : BeforeLettingGo O ts (room.has_entry O (with_items t (newer ++ x ∷ []) stacks) ts T) stacks T t x newer R H
  before_draining = record {
    is_open = is_open;
    law = law;
    tree = h.tree;
    entries = h.entries;
    own = own;
    others = λ u m k. h.held u m ∙ ap (λ i. cond (among u ts) (times_on O m i) 0) (at_other t (newer ++ x ∷ []) stacks u k);
  }

  -- the oldest item may let go
  pub oldest_may_let_go : MayLetGo t (footprint_of O x) R H
  oldest_may_let_go = may_let_go before_draining

  -- and after it the newer ones are held
  pub held_after_draining : (R' : TreeWithRoom) (H' : Holdings) → IsLetGo t (footprint_of O x) R H R' H' → Holds O ts (with_items t newer stacks) T R' H'
  held_after_draining R' H' let_go = held_without before_draining R' H' let_go

-- a savepoint has nothing to let go
module _ {O : Tree} {ts : List ℕ} (stacks : ℕ → Items cgroups) {T : Tree} {R : TreeWithRoom} {H : Holdings} (t v : ℕ) (b : History cgroups) (n : Name) (newer : Items cgroups) where
  pub oldest_savepoint_off : Holds O ts (with_items t (newer ++ AtSavepoint v b n ∷ []) stacks) T R H → Holds O ts (with_items t newer stacks) T R H
  oldest_savepoint_off h = alike (with_items t newer stacks) (with_items t all stacks)
      (λ u p. at (needs_group O p) (list_any-append (λ z. changes_group p (inverse O z)) newer (AtSavepoint v b n ∷ []) ∙ or-false (needs_group O p newer)) u)
      (λ u m. at (times_on O m) (marked m) u) h
    where
      all : Items cgroups
      all = newer ++ AtSavepoint v b n ∷ []

      marked : (m : Mark) → times_on O m all ≡ times_on O m newer
      marked m =
          let parts : times_on O m all ≡ times_on O m newer + 0 = times_on-append O m newer (AtSavepoint v b n ∷ []) in
          parts ∙ add-zero (times_on O m newer)

      at : {A : Type 0} (f : Items cgroups → A) → f all ≡ f newer → (u : ℕ) → f (with_items t newer stacks u) ≡ f (with_items t all stacks u)
      at f e u = choose (u == t)
        where
          choose : (c : Bool) → f (cond c newer (stacks u)) ≡ f (cond c all (stacks u))
          choose true = sym e
          choose false = refl
