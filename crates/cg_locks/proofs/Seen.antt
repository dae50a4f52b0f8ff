-- What is seen of a tree, by kinds of marks.
use Rattle.std.proofs.Common.{◌≡◌, ℕ, None, refl, sym, ap, ◌∙◌, arith}
use Rattle.cg_maps.specs.FiniteMap.{empty, entries, get}
use Rattle.cg_maps.proofs.Maps.{get-empty}
use Rattle.cg_name.specs.Path.{Path, path_cmp}
use Rattle.cg_locks.specs.declared.held.Kind.{Kind}
use Rattle.cg_locks.specs.declared.held.Kind.TheVariants as kinds
use Rattle.cg_locks.specs.declared.held.Part.{Part}
use Rattle.cg_locks.specs.declared.held.Part.TheVariants.{ChangedAt, ReadAt, StaysAt, ChangedBelow, ReadBelow, StaysBelow}
use Rattle.cg_locks.specs.Held.{at_path, of_kind, Marked}
use Rattle.cg_locks.specs.HeldByPath.{in_part, marked, AreSummedUp, HeldByPath}
use Rattle.cg_locks.specs.Holders.{branches, held_at, IsSummedUp}
use Rattle.cg_locks.proofs.HeldMaps.{held_nowhere}

of_marked : (k : Kind) (T : HeldByPath) → of_kind (marked T) k ≡ in_part (at_path k) T
of_marked kinds.Changed T = refl
of_marked kinds.Read T = refl
of_marked kinds.Stays T = refl
of_marked kinds.Descendants T = refl

-- what is seen at a path is what the part of the kind has there
pub seen_at : (k : Kind) (T : HeldByPath) (m : Marked) → marked T ≡ m → (p : Path) (u : ℕ) → held_at (of_kind m k) p u ≡ held_at (in_part (at_path k) T) p u
seen_at k T m view p u = ap (λ n. held_at (of_kind n k) p u) (sym view) ∙ ap (λ C. held_at C p u) (of_marked k T)

pub seen_nowhere : (k : Kind) (T : HeldByPath) (m : Marked) → marked T ≡ m → (p : Path) (u : ℕ) → get T p ≡ None → held_at (of_kind m k) p u ≡ 0
seen_nowhere k T m view p u absent = seen_at k T m view p u ∙ held_nowhere (at_path k) T p u absent

-- ---- a tree with no node

pub nowhere : (T : HeldByPath) → T ≡ empty → (p : Path) → get T p ≡ None
nowhere T e p = ap (λ M. get M p) e ∙ get-empty path_cmp p

no_branch : (s : Part) (q : Path) (u : ℕ) → branches (in_part s empty) q u ≡ 0
unfolding branches in_part entries empty
no_branch s q u = refl

pub nothing_summed : (T : HeldByPath) → T ≡ empty → AreSummedUp T
nothing_summed T e = record {
  changed = sums ChangedAt ChangedBelow;
  read = sums ReadAt ReadBelow;
  stays = sums StaysAt StaysBelow;
}
  where
    sums : (a b : Part) → IsSummedUp (in_part a T) (in_part b T)
    sums a b q u =
        let x = held_nowhere b T q u (nowhere T e q) in
        let y = held_nowhere a T q u (nowhere T e q) in
        let z : branches (in_part b T) q u ≡ 0 = ap (λ M. branches (in_part b M) q u) e ∙ no_branch b q u in
        omega (arith, x, y, z)
