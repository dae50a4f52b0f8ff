-- What the branches tell: something is held at a path or below it exactly where the part below has something there.
use Rattle.std.proofs.Common.{◌≡◌, ℕ, zero, suc, ◌+◌, ◌-◌, ◌<◌, inl, inr, true, false, length, [], ◌∷◌, refl, sym, ap, subst, ◌∙◌, arith}
use Rattle.std.proofs.lemmas.List.{take_all}
use Rattle.cg_name.specs.Path.{Path, is_prefix, is_root}
use Rattle.cg_model_laws.proofs.Paths.{prefix_itself, prefix_trans}
use Rattle.cg_path_tree.proofs.Parents.{below_parent, length-parent, not_root, parent_is}
use Rattle.cg_path_tree.specs.Nodes.{parent_path}
use Rattle.cg_locks.specs.Holders.{PathCounts, branches, held_at, held_below, IsSummedUp}
use Rattle.cg_locks.proofs.Above.{first_names, is_first_names, prefix_take, short_first}
use Rattle.cg_locks.proofs.Counts.{one_of_two}
use Rattle.cg_locks.proofs.Summed.{at_counts, branch_counts, found_below, found_branch, longest, not_longer}

has_names : (p : Path) (n : ℕ) → length p ≡ suc n → is_root p ≡ false
has_names [] n e = absurd (omega (arith, e))
has_names (m ∷ p) n e = refl

module _ (A B : PathCounts) (sums : IsSummedUp A B) (u : ℕ) where
  -- from a path up to one with which it begins
  upward : (n : ℕ) (q p : Path) → length p ≡ n + length q → is_prefix q p ≡ true → 0 < held_at B p u → 0 < held_at B q u
  upward zero q p long begins low =
      let is : p ≡ q = sym (take_all (length q) p (omega (arith, long))) ∙ is_first_names q p begins in
      subst (λ r. 0 < held_at B r u) is low
  upward (suc n) q p long begins low =
      let root : is_root p ≡ false = has_names p (n + length q) (omega (arith, long)) in
      let shorter = length-parent p root in
      let above : is_prefix q (parent_path p) ≡ true = subst (λ r. is_prefix r (parent_path p) ≡ true) (is_first_names q p begins) (prefix_take (length q) (length p - 1) p (omega (arith, long))) in
      let branch = branch_counts B (parent_path p) p u (below_parent p root) low in
      let sum = sums (parent_path p) u in
      upward n q (parent_path p) (omega (arith, long, shorter)) above (omega (arith, branch, sum))

  pub has_below : (q : Path) → 0 < held_below A q u → 0 < held_at B q u
  has_below q low =
      let w = found_below A q u low in
      let sum = sums w.0 u in
      let held : 0 < held_at A w.0 u = w.2 in
      let short = short_first q w.0 w.1 in
      upward (length w.0 - length q) q w.0 (omega (arith, short)) w.1 (omega (arith, sum, held))

  -- and down to one at which it is held
  downward : (n : ℕ) (q : Path) → longest B < n + length q → 0 < held_at B q u → 0 < held_below A q u
  downward zero q long low = let short = not_longer B q u low in absurd (omega (arith, long, short))
  downward (suc n) q long low =
      let sum = sums q u in
      elim (one_of_two (held_at A q u) (branches B q u) (omega (arith, sum, low))) [
        | inl l ↦ (let c = at_counts A q q u (prefix_itself q) in omega (arith, c, l))
        | inr l ↦
            let w = found_branch B q u l in
            let p = w.0 in
            let root : is_root p ≡ false = not_root q p w.1 in
            let is : q ≡ parent_path p = parent_is q p w.1 in
            let longer : suc (length q) ≡ length p = ap (λ r. suc (length r)) is ∙ length-parent p root in
            let f = found_below A p u (downward n p (omega (arith, long, longer)) w.2) in
            let begins : is_prefix q f.0 ≡ true = prefix_trans q p f.0 (subst (λ r. is_prefix r p ≡ true) (sym is) (first_names p (length p - 1))) f.1 in
            let c = at_counts A q f.0 u begins in
            let held : 0 < held_at A f.0 u = f.2 in
            omega (arith, c, held)
      ]

  pub held_somewhere : (q : Path) → 0 < held_at B q u → 0 < held_below A q u
  held_somewhere q low = downward (suc (longest B)) q (omega arith) low
