-- Who is in the way of a mark, at a node and along the way up from it.
use Rattle.std.proofs.Common.{◌≡◌, ℕ, zero, suc, ◌+◌, ◌-◌, ◌<◌, ◌≤◌, ◌⊎◌, inl, inr, false, true, length, take, [], ◌∷◌, Option, Some, None, option_map, refl, sym, ap, subst, ◌∙◌, arith}
use Rattle.std.proofs.lemmas.Bool.{false≢true}
use Rattle.std.proofs.lemmas.List.{length-take-le, take-take, take_all}
use Rattle.cg_maps.specs.FiniteMap.{get}
use Rattle.cg_name.specs.Path.{Path, is_root}
use Rattle.cg_path_tree.proofs.Parents.{length-parent}
use Rattle.cg_path_tree.specs.Nodes.{parent_path}
use Rattle.cg_locks.specs.declared.held.Held.{Held}
use Rattle.cg_locks.specs.declared.held.Kind.{Kind}
use Rattle.cg_locks.specs.declared.held.Kind.TheVariants as kinds
use Rattle.cg_locks.specs.declared.held.Part.{Part}
use Rattle.cg_locks.specs.declared.held.Part.TheVariants.{ChangedAt, ReadAt, StaysAt, CountedAt, ChangedBelow, ReadBelow, StaysBelow}
use Rattle.cg_locks.specs.Held.{above_of, here_of, in_way, part_of}
use Rattle.cg_locks.specs.HeldByPath.{in_part, marked, weighed, weighed_above, weighed_if, weighed_until, AreSummedUp, HeldByPath}
use Rattle.cg_locks.specs.Holders.{held_above, held_at, held_below, held_by, held_if, held_until, lesser_of, IsLeastOther, IsSummedUp}
use Rattle.cg_locks.proofs.Branches.{has_below, held_somewhere}
use Rattle.cg_locks.proofs.Counts.{least_alike, least_of_sum, least_seen, no_holder, seen_in_sum}
use Rattle.cg_locks.proofs.HeldMaps.{held_in}

-- ---- sums along a path

module _ (w : Held → ℕ → ℕ) (T : HeldByPath) where
  pub weighed_there : (p : Path) (h : Held) (u : ℕ) → get T p ≡ Some h → weighed w T p u ≡ w h u
  weighed_there p h u there = ap (λ o. weighed_if w o u) there

  pub weighed_nowhere : (p : Path) (u : ℕ) → get T p ≡ None → weighed w T p u ≡ 0
  weighed_nowhere p u absent = ap (λ o. weighed_if w o u) absent

  -- a path and that of its first names begin with the same paths
  until_prefix : (p : Path) (d n u : ℕ) → n ≤ suc d → weighed_until w T (take d p) n u ≡ weighed_until w T p n u
  until_prefix p d zero u low = refl
  until_prefix p d (suc n) u low =
      λ i. until_prefix p d n u (omega (arith, low)) i + weighed w T (take-take n d p (omega (arith, low)) i) u

  at_or_below : (d n : ℕ) → d < suc n → (d ≡ n) ⊎ (d < n)
  at_or_below d zero low = inl (omega (arith, low))
  at_or_below zero (suc n) low = inr (omega arith)
  at_or_below (suc d) (suc n) low = elim (at_or_below d n (omega (arith, low))) [ inl e ↦ inl (ap suc e) | inr l ↦ inr (omega (arith, l)) ]

  -- below the last node nothing is added
  until_absent : (p : Path) (d n u : ℕ) → d < n → n ≤ suc (length p) → ((m : ℕ) → d < m → m ≤ length p → get T (take m p) ≡ None) → weighed_until w T p n u ≡ weighed_until w T p (suc d) u
  until_absent p d zero u low short none = absurd (omega (arith, low))
  until_absent p d (suc n) u low short none = elim (at_or_below d n low) [
    | inl e ↦ ap (λ k. weighed_until w T p (suc k) u) (sym e)
    | inr l ↦ (let zero_here = weighed_nowhere (take n p) u (none n l (omega (arith, short))) in let rest = until_absent p d n u l (omega (arith, short)) none in omega (arith, zero_here, rest))
  ]

  until_nothing : (p : Path) (n u : ℕ) → ((m : ℕ) → get T (take m p) ≡ None) → weighed_until w T p n u ≡ 0
  until_nothing p zero u none = refl
  until_nothing p (suc n) u none = let a = until_nothing p n u none in let b = weighed_nowhere (take n p) u (none n) in omega (arith, a, b)

  pub nothing_above : (p : Path) (u : ℕ) → ((m : ℕ) → get T (take m p) ≡ None) → weighed_above w T p u ≡ 0
  nothing_above p u none = until_nothing p (suc (length p)) u none

  pub deepest_above : (p : Path) (d u : ℕ) → d ≤ length p → ((m : ℕ) → d < m → m ≤ length p → get T (take m p) ≡ None) → weighed_above w T (take d p) u ≡ weighed_above w T p u
  deepest_above p d u short none =
      ap (λ n. weighed_until w T (take d p) (suc n) u) (length-take-le d p short)
      ∙ until_prefix p d (suc d) u (omega arith)
      ∙ sym (until_absent p d (suc (length p)) u (omega (arith, short)) (omega arith) none)

  pub root_above : (p : Path) (u : ℕ) → is_root p ≡ true → weighed_above w T p u ≡ weighed w T p u
  root_above [] u root = omega arith
  root_above (n ∷ p) u root = absurd (false≢true root)

  pub next_above : (p : Path) (u : ℕ) → is_root p ≡ false → weighed_above w T p u ≡ weighed w T p u + weighed_above w T (parent_path p) u
  next_above p u root =
      let long : suc (length (parent_path p)) ≡ length p = length-parent p root in
      let whole : weighed w T (take (length p) p) u ≡ weighed w T p u = ap (λ r. weighed w T r u) (take_all (length p) p (omega arith)) in
      let rest : weighed_until w T p (length p) u ≡ weighed_above w T (parent_path p) u =
      sym (until_prefix p (length p - 1) (length p) u (omega arith)) ∙ ap (λ n. weighed_until w T (parent_path p) n u) (sym long) in
      omega (arith, whole, rest)

-- the least at a node, and that above it
module _ (w : Held → ℕ → ℕ) (T : HeldByPath) (p : Path) (h : Held) (there : get T p ≡ Some h) (t : ℕ) where
  pub least_at_root : (r : Option ℕ) → is_root p ≡ true → IsLeastOther t (w h) r → IsLeastOther t (weighed_above w T p) r
  least_at_root r root own = least_alike t (w h) (weighed_above w T p) r (λ u. sym (root_above w T p u root ∙ weighed_there w T p h u there)) own

  pub least_at_next : (r s : Option ℕ) → is_root p ≡ false → IsLeastOther t (w h) r → IsLeastOther t (weighed_above w T (parent_path p)) s → IsLeastOther t (weighed_above w T p) (lesser_of r s)
  least_at_next r s root own rest =
      least_alike t (λ u. w h u + weighed_above w T (parent_path p) u) (weighed_above w T p) (lesser_of r s)
      (λ u. sym (next_above w T p u root ∙ ap (λ n. n + weighed_above w T (parent_path p) u) (weighed_there w T p h u there)))
      (least_of_sum t (w h) (weighed_above w T (parent_path p)) r s own rest)

-- ---- what is in the way of a mark

abbrev by_part : Part → Held → ℕ → ℕ
by_part s h u = held_by (part_of s h) u

module _ (T : HeldByPath) where
  part_weighed : (s : Part) (q : Path) (u : ℕ) → held_at (in_part s T) q u ≡ weighed (by_part s) T q u
  part_weighed s q u = held_in s T q u ∙ elim (get T q) as (λ o. held_if (option_map (part_of s) o) u ≡ weighed_if (by_part s) o u) [ None ↦ refl | Some h ↦ refl ]

  until_weighed : (s : Part) (p : Path) (n u : ℕ) → held_until (in_part s T) p n u ≡ weighed_until (by_part s) T p n u
  until_weighed s p zero u = refl
  until_weighed s p (suc n) u = λ i. until_weighed s p n u i + part_weighed s (take n p) u i

  above_weighed : (s : Part) (p : Path) (u : ℕ) → held_above (in_part s T) p u ≡ weighed_above (by_part s) T p u
  above_weighed s p u = until_weighed s p (suc (length p)) u

  sum_at : (f g : Held → ℕ → ℕ) (q : Path) (u : ℕ) → weighed (λ h v. f h v + g h v) T q u ≡ weighed f T q u + weighed g T q u
  sum_at f g q u = elim (get T q) as (λ o. weighed_if (λ h v. f h v + g h v) o u ≡ weighed_if f o u + weighed_if g o u) [ None ↦ omega arith | Some h ↦ refl ]

  sum_until : (f g : Held → ℕ → ℕ) (p : Path) (n u : ℕ) → weighed_until (λ h v. f h v + g h v) T p n u ≡ weighed_until f T p n u + weighed_until g T p n u
  sum_until f g p zero u = omega arith
  sum_until f g p (suc n) u =
      let a = sum_until f g p n u in let b = sum_at f g (take n p) u in omega (arith, a, b)

  zero_until : (p : Path) (n u : ℕ) → weighed_until (λ h v. 0) T p n u ≡ 0
  zero_until p zero u = refl
  zero_until p (suc n) u =
      let a = zero_until p n u in
      let b : weighed (λ h v. 0) T (take n p) u ≡ 0 = zero_at (take n p) u in omega (arith, a, b)
    where
      zero_at : (q : Path) (u : ℕ) → weighed (λ h v. 0) T q u ≡ 0
      zero_at q u = elim (get T q) as (λ o. weighed_if (λ h v. 0) o u ≡ 0) [ None ↦ refl | Some h ↦ refl ]

  zero_here : (q : Path) (u : ℕ) → weighed (λ h v. 0) T q u ≡ 0
  zero_here q u = elim (get T q) as (λ o. weighed_if (λ h v. 0) o u ≡ 0) [ None ↦ refl | Some h ↦ refl ]

  module _ (sums : AreSummedUp T) (p : Path) (u : ℕ) where
    -- what is held in the part of a kind at the path or below it, as its part below tells it
    abbrev Told : Part → Part → Type 0
    Told a b = (0 < weighed (by_part b) T p u → 0 < held_below (in_part a T) p u) × (0 < held_below (in_part a T) p u → 0 < weighed (by_part b) T p u)

    told : (a b : Part) → IsSummedUp (in_part a T) (in_part b T) → Told a b
    told a b sum = (
      λ low. held_somewhere (in_part a T) (in_part b T) sum u p (subst (λ n. 0 < n) (sym (part_weighed b p u)) low),
      λ low. subst (λ n. 0 < n) (part_weighed b p u) (has_below (in_part a T) (in_part b T) sum u p low),
    )

    changed_told : Told ChangedAt ChangedBelow
    changed_told = told ChangedAt ChangedBelow sums.changed

    read_told : Told ReadAt ReadBelow
    read_told = told ReadAt ReadBelow sums.read

    stays_told : Told StaysAt StaysBelow
    stays_told = told StaysAt StaysBelow sums.stays

    abbrev Fixed : ℕ
    Fixed = held_below (in_part ChangedAt T) p u + held_below (in_part StaysAt T) p u

    fixed_is : weighed (here_of kinds.Read) T p u ≡ weighed (by_part ChangedBelow) T p u + weighed (by_part StaysBelow) T p u
    fixed_is = sum_at (by_part ChangedBelow) (by_part StaysBelow) p u

    fixed_to : 0 < weighed (here_of kinds.Read) T p u → 0 < Fixed
    fixed_to low = seen_in_sum (weighed (by_part ChangedBelow) T p u) _ (weighed (by_part StaysBelow) T p u) _ changed_told.0 stays_told.0 (subst (λ n. 0 < n) fixed_is low)

    fixed_from : 0 < Fixed → 0 < weighed (here_of kinds.Read) T p u
    fixed_from low = subst (λ n. 0 < n) (sym fixed_is) (seen_in_sum (held_below (in_part ChangedAt T) p u) _ (held_below (in_part StaysAt T) p u) _ changed_told.1 stays_told.1 low)

    all_is : weighed (here_of kinds.Changed) T p u ≡ weighed (by_part ReadBelow) T p u + weighed (here_of kinds.Read) T p u
    all_is = sum_at (by_part ReadBelow) (here_of kinds.Read) p u

    -- anything at all that a mark to change the subtree clashes with there
    abbrev pub AllBelow : ℕ
    AllBelow = held_below (in_part ReadAt T) p u + Fixed

    all_to : 0 < weighed (here_of kinds.Changed) T p u → 0 < AllBelow
    all_to low = seen_in_sum (weighed (by_part ReadBelow) T p u) _ (weighed (here_of kinds.Read) T p u) _ read_told.0 fixed_to (subst (λ n. 0 < n) all_is low)

    pub all_from : 0 < AllBelow → 0 < weighed (here_of kinds.Changed) T p u
    all_from low = subst (λ n. 0 < n) (sym all_is) (seen_in_sum (held_below (in_part ReadAt T) p u) _ Fixed _ read_told.1 fixed_from low)

    subtrees_above : weighed_above (above_of kinds.Changed) T p u ≡ held_above (in_part ChangedAt T) p u + held_above (in_part ReadAt T) p u
    subtrees_above =
        let a = above_weighed ChangedAt p u in let b = above_weighed ReadAt p u in
        let c = sum_until (by_part ChangedAt) (by_part ReadAt) p (suc (length p)) u in
        c ∙ (λ i. sym a i + sym b i)

    itself : (n : ℕ) → 0 < n → 0 < n
    itself n low = low

    -- what is seen on the way up is in the way
    pub in_way_to : (k : Kind) → 0 < weighed (here_of k) T p u + weighed_above (above_of k) T p u → 0 < in_way (marked T) k p u
    in_way_to kinds.Changed low =
        let a = subtrees_above in
        let b = seen_in_sum (weighed (here_of kinds.Changed) T p u) _ (weighed_above (above_of kinds.Changed) T p u) _ all_to (itself _) low in
        omega (arith, a, b)
    in_way_to kinds.Read low =
        let a : weighed_above (above_of kinds.Read) T p u ≡ held_above (in_part ChangedAt T) p u = sym (above_weighed ChangedAt p u) in
        let b = seen_in_sum (weighed (here_of kinds.Read) T p u) _ (weighed_above (above_of kinds.Read) T p u) _ fixed_to (itself _) low in
        omega (arith, a, b)
    in_way_to kinds.Stays low =
        let a : weighed_above (above_of kinds.Stays) T p u ≡ held_above (in_part ChangedAt T) p u + held_above (in_part ReadAt T) p u = subtrees_above in
        let b : weighed (here_of kinds.Stays) T p u ≡ 0 = zero_here p u in
        omega (arith, a, b, low)
    in_way_to kinds.Descendants low =
        let a : weighed_above (above_of kinds.Descendants) T p u ≡ 0 = zero_until p (suc (length p)) u in
        let b : weighed (here_of kinds.Descendants) T p u ≡ held_at (in_part CountedAt T) p u = sym (part_weighed CountedAt p u) in
        omega (arith, a, b, low)

    -- and the other way round
    pub in_way_from : (k : Kind) → 0 < in_way (marked T) k p u → 0 < weighed (here_of k) T p u + weighed_above (above_of k) T p u
    in_way_from kinds.Changed low =
        let a = subtrees_above in
        seen_in_sum AllBelow _ (weighed_above (above_of kinds.Changed) T p u) _ all_from (itself _) (omega (arith, a, low))
    in_way_from kinds.Read low =
        let a : weighed_above (above_of kinds.Read) T p u ≡ held_above (in_part ChangedAt T) p u = sym (above_weighed ChangedAt p u) in
        seen_in_sum Fixed _ (weighed_above (above_of kinds.Read) T p u) _ fixed_from (itself _) (omega (arith, a, low))
    in_way_from kinds.Stays low =
        let a : weighed_above (above_of kinds.Stays) T p u ≡ held_above (in_part ChangedAt T) p u + held_above (in_part ReadAt T) p u = subtrees_above in
        omega (arith, a, low)
    in_way_from kinds.Descendants low =
        let b : weighed (here_of kinds.Descendants) T p u ≡ held_at (in_part CountedAt T) p u = sym (part_weighed CountedAt p u) in
        omega (arith, b, low)

-- the least in the way, where the path has a node and where it has none
module _ (T : HeldByPath) (sums : AreSummedUp T) (k : Kind) (p : Path) (t : ℕ) where
  pub least_with_node : (h : Held) (r s : Option ℕ) → get T p ≡ Some h → IsLeastOther t (here_of k h) r → IsLeastOther t (weighed_above (above_of k) T p) s → IsLeastOther t (in_way (marked T) k p) (lesser_of r s)
  least_with_node h r s there here above =
      let same : (u : ℕ) → here_of k h u + weighed_above (above_of k) T p u ≡ weighed (here_of k) T p u + weighed_above (above_of k) T p u = λ u. ap (λ n. n + weighed_above (above_of k) T p u) (sym (weighed_there (here_of k) T p h u there)) in
      least_seen t (λ u. here_of k h u + weighed_above (above_of k) T p u) (in_way (marked T) k p) (lesser_of r s)
      (λ u low. in_way_to T sums p u k (subst (λ n. 0 < n) (same u) low)) (λ u low. subst (λ n. 0 < n) (sym (same u)) (in_way_from T sums p u k low))
      (least_of_sum t (here_of k h) (weighed_above (above_of k) T p) r s here above)

  module _ (absent : get T p ≡ None) where
    above_to : (u : ℕ) → 0 < weighed_above (above_of k) T p u → 0 < in_way (marked T) k p u
    above_to u low = in_way_to T sums p u k (omega (arith, low))

    above_from : (u : ℕ) → 0 < in_way (marked T) k p u → 0 < weighed_above (above_of k) T p u
    above_from u low = let a = weighed_nowhere (here_of k) T p u absent in let b = in_way_from T sums p u k low in omega (arith, a, b)

    pub least_from_deepest : (d : ℕ) (r : Option ℕ) → d ≤ length p → ((m : ℕ) → d < m → m ≤ length p → get T (take m p) ≡ None) → IsLeastOther t (weighed_above (above_of k) T (take d p)) r → IsLeastOther t (in_way (marked T) k p) r
    least_from_deepest d r short none above =
        least_seen t (weighed_above (above_of k) T p) (in_way (marked T) k p) r above_to above_from
        (least_alike t (weighed_above (above_of k) T (take d p)) (weighed_above (above_of k) T p) r (λ u. deepest_above (above_of k) T p d u short none) above)

    pub least_of_none : ((m : ℕ) → get T (take m p) ≡ None) → IsLeastOther t (in_way (marked T) k p) None
    least_of_none none = least_seen t (weighed_above (above_of k) T p) (in_way (marked T) k p) None above_to above_from (no_holder t (weighed_above (above_of k) T p) (λ u. nothing_above (above_of k) T p u none))
