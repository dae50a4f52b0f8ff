-- Where the root's node tells of no other transaction, no other is in the way of a mark, wherever that is.
use Rattle.std.proofs.Common.{◌≡◌, ℕ, ◌+◌, ◌<◌, inl, inr, Bool, false, not, [], Option, Some, None, is_some, refl, sym, ap, subst, ◌∙◌, arith, true≢false}
use Rattle.std.proofs.lemmas.Option.{none-some}
use Rattle.cg_maps.specs.FiniteMap.{get}
use Rattle.cg_name.specs.Path.{Path}
use Rattle.cg_locks.specs.declared.held.Held.{Held}
use Rattle.cg_locks.specs.declared.held.Kind.{Kind}
use Rattle.cg_locks.specs.declared.held.Kind.TheVariants as kinds
use Rattle.cg_locks.specs.declared.held.Part.{Part}
use Rattle.cg_locks.specs.declared.held.Part.TheVariants.{ChangedAt, ReadAt, StaysAt}
use Rattle.cg_locks.specs.Held.{at_or_below, here_of, in_way}
use Rattle.cg_locks.specs.HeldByPath.{in_part, marked, AreSummedUp, HeldByPath}
use Rattle.cg_locks.specs.Holders.{PathCounts, held_above, held_at, held_below, IsLeastOther}
use Rattle.cg_locks.proofs.Clashes.{all_from, weighed_there}
use Rattle.cg_locks.proofs.Counts.{none_seen, one_of_two}
use Rattle.cg_locks.proofs.Summed.{at_counts, found_below}
use Rattle.cg_locks.proofs.Ways.{found_above}

module _ (C : PathCounts) (p : Path) (u : ℕ) where
  above_at_root : 0 < held_above C p u → 0 < held_below C [] u
  above_at_root low =
      let w = found_above C p u low in
      let c = at_counts C [] w.0 u refl in
      let held : 0 < held_at C w.0 u = w.2 in
      omega (arith, c, held)

  below_at_root : 0 < held_below C p u → 0 < held_below C [] u
  below_at_root low =
      let w = found_below C p u low in
      let c = at_counts C [] w.0 u refl in
      let held : 0 < held_at C w.0 u = w.2 in
      omega (arith, c, held)

  along_at_root : 0 < held_above C p u + held_below C p u → 0 < held_below C [] u
  along_at_root low = elim (one_of_two (held_above C p u) (held_below C p u) low) [ inl l ↦ above_at_root l | inr l ↦ below_at_root l ]

module _ (T : HeldByPath) (p : Path) (u : ℕ) where
  abbrev Anywhere : ℕ
  Anywhere = held_below (in_part ReadAt T) [] u + (held_below (in_part ChangedAt T) [] u + held_below (in_part StaysAt T) [] u)

  changed_anywhere : 0 < held_above (in_part ChangedAt T) p u + held_below (in_part ChangedAt T) p u → 0 < Anywhere
  changed_anywhere low = let a = along_at_root (in_part ChangedAt T) p u low in omega (arith, a)

  read_anywhere : 0 < held_above (in_part ReadAt T) p u + held_below (in_part ReadAt T) p u → 0 < Anywhere
  read_anywhere low = let a = along_at_root (in_part ReadAt T) p u low in omega (arith, a)

  stays_anywhere : 0 < held_below (in_part StaysAt T) p u → 0 < Anywhere
  stays_anywhere low = let a = below_at_root (in_part StaysAt T) p u low in omega (arith, a)

  -- what is in the way of a mark of a kind with a part below is told at the root
  told_at_root : (k : Kind) (b : Part) → at_or_below k ≡ Some b → 0 < in_way (marked T) k p u → 0 < Anywhere
  told_at_root kinds.Changed b e low = elim (one_of_two ((held_above (in_part ChangedAt T) p u + held_below (in_part ChangedAt T) p u) + (held_above (in_part ReadAt T) p u + held_below (in_part ReadAt T) p u)) (held_below (in_part StaysAt T) p u) low) [
    | inl l ↦ (elim (one_of_two (held_above (in_part ChangedAt T) p u + held_below (in_part ChangedAt T) p u) (held_above (in_part ReadAt T) p u + held_below (in_part ReadAt T) p u) l) [ inl z ↦ changed_anywhere z | inr z ↦ read_anywhere z ])
    | inr l ↦ stays_anywhere l
  ]
  told_at_root kinds.Read b e low = elim (one_of_two (held_above (in_part ChangedAt T) p u + held_below (in_part ChangedAt T) p u) (held_below (in_part StaysAt T) p u) low) [ inl l ↦ changed_anywhere l | inr l ↦ stays_anywhere l ]
  told_at_root kinds.Stays b e low = elim (one_of_two (held_above (in_part ChangedAt T) p u) (held_above (in_part ReadAt T) p u) low) [
    | inl l ↦ changed_anywhere (omega (arith, l))
    | inr l ↦ read_anywhere (omega (arith, l))
  ]
  told_at_root kinds.Descendants b e low = absurd (none-some b e)

pub alone_at_root : (T : HeldByPath) → AreSummedUp T → (k : Kind) (b : Part) → at_or_below k ≡ Some b → (p : Path) (t : ℕ) (h : Held) → get T [] ≡ Some h → IsLeastOther t (here_of kinds.Changed h) None → IsLeastOther t (in_way (marked T) k p) None
alone_at_root T sums k b e p t h there none =
    none_seen t (here_of kinds.Changed h) (in_way (marked T) k p)
    (λ u low. subst (λ n. 0 < n) (weighed_there (here_of kinds.Changed) T [] h u there) (all_from T sums [] u (told_at_root T p u k b e low))) none

pub some_part : (k : Kind) (r : Option Part) (b : Bool) → r ≡ at_or_below k → is_some r ≡ not b → b ≡ false → (s : Part) × (at_or_below k ≡ Some s)
some_part k None b is e there = absurd (true≢false (sym (e ∙ ap not there)))
some_part k (Some s) b is e there = (s, sym is)
