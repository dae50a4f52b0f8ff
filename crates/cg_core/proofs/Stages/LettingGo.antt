-- One item lets go: what the laws say of the entries and the tree, the code's tree and lock table do.
use Rattle.std.proofs.Common.{◌≡◌, ℕ, ◌+◌, ◌==◌, ◌&&◌, not, Bool, true, false, cond, List, refl, sym, ap, ◌∙◌, arith}
use Rattle.std.specs.Option.{is_some}
use Rattle.std.proofs.lemmas.Bool.{eqb-true, eq-eqb, and_parts, and_from}
use Rattle.cg_name.specs.Path.{Path}
use Rattle.cg_model.specs.Tree.{Tree, group, place_of}
use Rattle.cg_model.specs.Cgroups.{cgroups}
use Rattle.cg_model.specs.Footprint.{Mark, X, marks_subtree}
use Rattle.cg_model.specs.Live.{Item, Items}
use Rattle.cg_model.specs.Opens.{among}
use Rattle.cg_model.specs.Room.{MaySweep}
use Rattle.cg_core_laws.specs.Unwind.{with_items}
use Rattle.cg_core_laws.specs.LettingGo.{footprint_of, holds_subtree, lets_go, LetsGo}
use Rattle.cg_locks.specs.Holdings.{Holdings, holdings}
use Rattle.cg_locks.specs.Marks.{times}
use Rattle.cg_tree.specs.Room.{TreeWithRoom, has_entry, MaySweepIfDead}
use Rattle.cg_core.specs.Held.{times_on}
use Rattle.cg_core.specs.Stage.{Holds}
use Rattle.cg_txn.specs.LettingGo.{goes, MayLetGo, IsLetGo}
use Rattle.cg_core.proofs.Stages.Marked.{none_where_unmarked}

-- before the item x of t lets go, with the tree as it is after it: l are the items that are left on t's stack, E the entries
pub record BeforeLettingGo (O : Tree) (ts : List ℕ) (E : Path → Bool) (stacks : ℕ → Items cgroups) (T : Tree) (t : ℕ) (x : Item cgroups) (l : Items cgroups) (R : TreeWithRoom) (H : Holdings) : Type 0 where
  pub is_open : among t ts ≡ true
  pub law : LetsGo O ts E (with_items t l stacks) T x l
  pub tree : R.tree ≡ T
  pub entries : (p : Path) → has_entry R p ≡ E p
  pub own : (m : Mark) → holdings H t m ≡ times m (footprint_of O x) + times_on O m l
  pub others : (u : ℕ) (m : Mark) → (u == t) ≡ false → holdings H u m ≡ cond (among u ts) (times_on O m (stacks u)) 0

-- what may be swept may be swept from a tree that is the same
same_sweep : (T : Tree) (E F : Path → Bool) (p : Path) (R : TreeWithRoom) → R.tree ≡ T → ((q : Path) → F q ≡ E q) → MaySweep T E p → MaySweep R.tree F p
same_sweep T E F p R tree same may = record {
  dead = ap (λ U. group U p) tree ∙ may.dead;
  below = λ q a. same q ∙ may.below q a;
  unused = λ k e. may.unused k (ap (λ U. place_of U k) (sym tree) ∙ e);
}

module _ {O : Tree} {ts : List ℕ} {E : Path → Bool} {stacks : ℕ → Items cgroups} {T : Tree} {t : ℕ} {x : Item cgroups} {l : Items cgroups} {R : TreeWithRoom} {H : Holdings} (b : BeforeLettingGo O ts E stacks T t x l R H) where
  sweepable : (p : Path) → marks_subtree p (footprint_of O x) ≡ true → holdings H t (X p) ≡ times (X p) (footprint_of O x) → MaySweepIfDead R p
  sweepable p marks once dead =
      let own : holdings H t (X p) ≡ times (X p) (footprint_of O x) + times_on O (X p) l = b.own (X p) in
      let none : times_on O (X p) l ≡ 0 = omega (arith, own, once) in
      let unmarked : not (holds_subtree O p l) ≡ true = sym (none_where_unmarked O p l) ∙ eq-eqb (times_on O (X p) l) 0 none in
      let parts = and_parts _ _ dead in
      let absent : not (is_some (group T p)) ≡ true = ap (λ U. not (is_some (group U p))) (sym b.tree) ∙ parts.1 in
      same_sweep T E (has_entry R) p R b.tree b.entries (b.law.sweeps p (sym (b.entries p) ∙ parts.0) (and_from _ _ marks (and_from _ _ unmarked absent)))

  -- the item may let go
  pub may_let_go : MayLetGo t (footprint_of O x) R H
  may_let_go = record {
    held = λ m. let own : holdings H t m ≡ times m (footprint_of O x) + times_on O m l = b.own m in omega (arith, own);
    sweeps = sweepable;
  }

  module _ (after : TreeWithRoom) (held_after : Holdings) (let_go : IsLetGo t (footprint_of O x) R H after held_after) where
    own_after : (m : Mark) → holdings held_after t m ≡ times_on O m l
    own_after m =
        let own : holdings H t m ≡ times m (footprint_of O x) + times_on O m l = b.own m in
        let less : holdings held_after t m + times m (footprint_of O x) ≡ holdings H t m = ap (λ c. holdings held_after t m + cond c (times m (footprint_of O x)) 0) (sym (eq-eqb t t refl)) ∙ let_go.released t m in
        omega (arith, own, less)

    held : (u : ℕ) (m : Mark) → holdings held_after u m ≡ cond (among u ts) (times_on O m (with_items t l stacks u)) 0
    held u m = at (u == t) refl
      where
        at : (c : Bool) → (u == t) ≡ c → holdings held_after u m ≡ cond (among u ts) (times_on O m (cond c l (stacks u))) 0
        at true k =
            let is : u ≡ t = eqb-true u t k in
            ap (λ v. holdings held_after v m) is ∙ own_after m ∙ ap (λ c. cond c (times_on O m l) 0) (sym b.is_open ∙ ap (λ v. among v ts) (sym is))
        at false k =
            let same : holdings held_after u m + 0 ≡ holdings H u m = ap (λ c. holdings held_after u m + cond c (times m (footprint_of O x)) 0) (sym k) ∙ let_go.released u m in
            let still : holdings held_after u m ≡ holdings H u m = omega (arith, same) in
            still ∙ b.others u m k

    -- what the code lets go is what the laws let go
    same_entry_goes : (p : Path) → goes t (footprint_of O x) held_after R.tree p ≡ lets_go O x l T p
    same_entry_goes p =
        let none : (holdings held_after t (X p) == 0) ≡ not (holds_subtree O p l) = ap (λ n. n == 0) (own_after (X p)) ∙ none_where_unmarked O p l in
        (λ i. marks_subtree p (footprint_of O x) && (none i && not (is_some (group (b.tree i) p))))

    -- and after it the rest is held
    pub held_without : Holds O ts (with_items t l stacks) T after held_after
    held_without = record {
      tree = let_go.tree ∙ b.tree;
      entries = λ p. let_go.entries p ∙ (λ i. b.entries p i && not (same_entry_goes p i)) ∙ sym (b.law.entries p);
      held = held;
    }
