-- The paths above a path, one by one.
use Rattle.std.proofs.Common.{◌≡◌, ℕ, zero, suc, ◌-◌, ◌<◌, Bool, false, ◌||◌, [], ◌∷◌, drop, length, take, Option, Some, None, refl, ap, ◌∙◌, arith}
use Rattle.std.proofs.lemmas.List.{length-take}
use Rattle.std.specs.List.{list_any}
use Rattle.cg_name.specs.Path.{Path, along}
use Rattle.cg_model.specs.Derived.{descendants}
use Rattle.cg_model.specs.Groups.{any_above, exceeds, exceeds_depth, reaches, reaches_descendants, too_deep, too_many}
use Rattle.cg_model.specs.Tree.{Tree, group}
use Rattle.cg_text.specs.declared.settings.Settings.{Settings}
use Rattle.cg_tree.specs.declared.ancestors.Ancestor.{Ancestor}
use Rattle.cg_tree.specs.Ancestors.{ancestor_at, ancestors_above}
use Rattle.cg_tree.specs.Unlimited.{AreUnlimited, IsUnlimited}
use Rattle.cg_tree.proofs.Downward.{any_downward}

pub next_along : {A : Type 0} (f : Path → A) (p : Path) (n : ℕ) → n < length p → drop n (along f p) ≡ f (take n p) ∷ drop (suc n) (along f p)
next_along f [] n h = absurd (omega (arith, h))
next_along f (m ∷ p) zero h = refl
next_along f (m ∷ p) (suc n) h = next_along (λ q. f (m ∷ q)) p n (omega (arith, h))

pub end_along : {A : Type 0} (f : Path → A) (p : Path) → drop (length p) (along f p) ≡ []
end_along f [] = refl
end_along f (m ∷ p) = end_along (λ q. f (m ∷ q)) p

-- what is asked of the groups above, from the last one on, is asked of each path above
tested_above : (T : Tree) (p : Path) (test : Ancestor → Bool) (f : Path → Bool) → ((n : ℕ) → n < length p → test (ancestor_at T p n) ≡ f (take n p)) → list_any test (ancestors_above T p) ≡ any_above f p
tested_above T p test f same = any_downward (ancestor_at T p) test (λ n. f (take n p)) (λ b. b) (along f p) (length p) (next_along f p) same (end_along f p)

pub asked_of_descendants : (T : Tree) (p : Path) → list_any (λ (a : Ancestor). reaches_descendants a.settings a.descendants) (ancestors_above T p) ≡ too_many T p
asked_of_descendants T p = tested_above T p (λ a. reaches_descendants a.settings a.descendants) (λ a. reaches_descendants (group T a) (descendants T a)) (λ n h. refl)

pub asked_of_depth : (T : Tree) (p : Path) (depth : ℕ) → depth ≡ length p → list_any (λ (a : Ancestor). exceeds_depth a.settings (depth - a.depth)) (ancestors_above T p) ≡ too_deep T p
asked_of_depth T p depth is = tested_above T p (λ a. exceeds_depth a.settings (depth - a.depth)) (λ a. exceeds_depth (group T a) (length p - length a)) (λ n h.
    let far : depth - n ≡ length p - length (take n p) = omega (arith, h, is, length-take n p) in
    ap (exceeds_depth (group T (take n p))) far)

-- ---- where no group has a limit

none_along : (f : Path → Bool) → ((q : Path) → f q ≡ false) → (p : Path) → any_above f p ≡ false
none_along f none [] = refl
none_along f none (m ∷ p) = ap (λ b. b || any_above (λ q. f (m ∷ q)) p) (none []) ∙ none_along (λ q. f (m ∷ q)) (λ q. none (m ∷ q)) p

reaches_none : (o : Option Settings) (n : ℕ) → ((s : Settings) → o ≡ Some s → IsUnlimited s) → reaches_descendants o n ≡ false
reaches_none None n free = refl
reaches_none (Some s) n free = ap (λ l. reaches l n) (free s refl).descendants

exceeds_none : (o : Option Settings) (d : ℕ) → ((s : Settings) → o ≡ Some s → IsUnlimited s) → exceeds_depth o d ≡ false
exceeds_none None d free = refl
exceeds_none (Some s) d free = ap (λ l. exceeds l d) (free s refl).depth

module _ (T : Tree) (free : AreUnlimited T.groups) (p : Path) where
  pub not_many : too_many T p ≡ false
  not_many = none_along (λ a. reaches_descendants (group T a) (descendants T a)) (λ q. reaches_none (group T q) (descendants T q) (free q)) p

  pub not_deep : too_deep T p ≡ false
  not_deep = none_along (λ a. exceeds_depth (group T a) (length p - length a)) (λ q. exceeds_none (group T q) (length p - length q) (free q)) p
