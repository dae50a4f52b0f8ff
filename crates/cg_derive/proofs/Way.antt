-- The way from below the root down to a path, by the first names of the path.
use Rattle.std.proofs.Common.{◌≡◌, ℕ, zero, suc, ◌<◌, ◌≤◌, ◌==◌, ◌&&◌, nat_lt, Bool, true, false, cond, List, [], ◌∷◌, ◌++◌, length, take, drop, Option, None, refl, sym, ap, ◌∙◌, arith}
use Rattle.std.proofs.lemmas.Bool.Decides.{nat_tests}
use Rattle.cg_name.specs.Path.{Path, along}
use Rattle.cg_text.specs.declared.settings.Settings.{Settings}
use Rattle.cg_model.specs.Tree.{Tree, group}
use Rattle.std.specs.List.{list_any}
use Rattle.cg_derive.specs.Upward.{narrowed_upward}
use Rattle.cg_maps.specs.FiniteSet.{FiniteSet}
use Rattle.cg_model.specs.Derived.{down_to, effective_cpus, has_freeze, is_frozen, narrowed, narrowed_along}
use Rattle.cg_tree.specs.declared.ancestors.Ancestor.{Ancestor}
use Rattle.cg_tree.specs.Ancestors.{ancestor_at, ancestors, downward}
use Rattle.cg_tree.proofs.Downward.{any_downward}

-- f at each prefix, the root first and the path itself last
abbrev along_all : {A : Type 0} → (Path → A) → Path → List A
along_all f p = along f p ++ f p ∷ []

at_prefix : {A : Type 0} (f : Path → A) (p : Path) (n : ℕ) → n ≤ length p → drop n (along_all f p) ≡ f (take n p) ∷ drop (suc n) (along_all f p)
at_prefix f [] zero h = refl
at_prefix f (m ∷ p) zero h = refl
at_prefix f [] (suc n) h = absurd (omega (arith, h))
at_prefix f (m ∷ p) (suc n) h = at_prefix (λ q. f (m ∷ q)) p n (omega (arith, h))

behind_all : {A : Type 0} (f : Path → A) (p : Path) → drop (suc (length p)) (along_all f p) ≡ []
behind_all f [] = refl
behind_all f (m ∷ p) = behind_all (λ q. f (m ∷ q)) p

-- the next group on the way is that of one name more
pub next_on_way : (T : Tree) (p : Path) (n : ℕ) → n < length p → drop n (down_to T p) ≡ group T (take (suc n) p) ∷ drop (suc n) (down_to T p)
next_on_way T [] n h = absurd (omega (arith, h))
next_on_way T (m ∷ p) n h = at_prefix (λ q. group T (m ∷ q)) p n (omega (arith, h))

pub end_of_way : (T : Tree) (p : Path) → drop (length p) (down_to T p) ≡ []
end_of_way T [] = refl
end_of_way T (m ∷ p) = behind_all (λ q. group T (m ∷ q)) p

-- ---- from the path up to the root

-- what the groups on the way are, and none at the root
abbrev on_way : Tree → Path → ℕ → Option Settings
on_way T p zero = None
on_way T p (suc n) = group T (take (suc n) p)

abbrev freezes : Ancestor → Bool
freezes a = nat_lt 0 a.depth && has_freeze a.settings

pub frozen_upward : (T : Tree) (p : Path) → list_any (λ (a : Ancestor). nat_lt 0 a.depth && has_freeze a.settings) (ancestors T p) ≡ is_frozen T p
frozen_upward T p = any_downward (ancestor_at T p) freezes (on_way T p) has_freeze (None ∷ down_to T p) (suc (length p)) next same (end_of_way T p)
  where
    next : (n : ℕ) → n < suc (length p) → drop n (None ∷ down_to T p) ≡ on_way T p n ∷ drop (suc n) (None ∷ down_to T p)
    next zero h = refl
    next (suc n) h = next_on_way T p n (omega (arith, h))

    same : (n : ℕ) → n < suc (length p) → freezes (ancestor_at T p n) ≡ has_freeze (on_way T p n)
    same zero h = refl
    same (suc n) h = let low : nat_lt 0 (suc n) ≡ true = grind (arith, nat_tests) in ap (λ b. b && has_freeze (group T (take (suc n) p))) low

narrowed_so_far : (T : Tree) (p : Path) (e : FiniteSet) (n : ℕ) → n ≤ length p → narrowed_along (narrowed_upward e (downward (ancestor_at T p) (suc n))) (drop n (down_to T p)) ≡ narrowed_along e (down_to T p)
narrowed_so_far T p e zero h = refl
narrowed_so_far T p e (suc n) h =
    let above = narrowed_upward e (downward (ancestor_at T p) (suc n)) in
    let low : (suc n == 0) ≡ false = grind (arith, nat_tests) in
    ap (λ b. narrowed_along (cond b e (narrowed above (group T (take (suc n) p)))) (drop (suc n) (down_to T p))) low
    ∙ ap (narrowed_along above) (sym (next_on_way T p n (omega (arith, h))))
    ∙ narrowed_so_far T p e n (omega (arith, h))

pub narrowed_on_way : (T : Tree) (p : Path) → narrowed_upward T.online (ancestors T p) ≡ effective_cpus T p
narrowed_on_way T p =
    ap (narrowed_along (narrowed_upward T.online (ancestors T p))) (sym (end_of_way T p))
    ∙ narrowed_so_far T p T.online (length p) (omega arith)
