-- No entry is dead where there are as many groups as entries.
use Rattle.std.proofs.Common.{◌≡◌, suc, ◌+◌, ◌≤◌, cond, [], ◌∷◌, Option, Some, None, IsSome, refl, sym, ap, subst, ◌∙◌, arith, true≢false}
use Rattle.std.specs.Option.{option_flatten}
use Rattle.cg_maps.specs.FiniteMap.{FiniteMap, get, len, retain, set_at}
use Rattle.cg_maps.proofs.Maps.{same_map, get-retain, get_here, get_apart, set_same}
use Rattle.cg_name.specs.Order.{path_cmp_total, path_cmp_exact}
use Rattle.cg_name.specs.Path.{Path, path_cmp, is_above}
use Rattle.cg_text.specs.declared.settings.Settings.{Settings}
use Rattle.cg_tree.specs.Alive.{HaveSettings}
use Rattle.cg_tree.specs.Entries.{group_count}
use Rattle.cg_tree.specs.Present.{present}
use Rattle.cg_tree.proofs.Counts.{one, few_present, len-without}
use Rattle.cg_tree.proofs.Presence.{get-present, present-set}

module _ (m : FiniteMap path_cmp (Option Settings)) where
  -- a dead entry is none of the groups
  dead_is_more : (p : Path) → get m p ≡ Some None → suc (len (present m)) ≤ len m
  dead_is_more p dead =
      let held : get (present m) p ≡ None = get-present path_cmp_total path_cmp_exact m p ∙ ap option_flatten dead in
      let same : present (set_at m p None) ≡ present m =
      present-set path_cmp_total path_cmp_exact m p None ∙ ap (set_at (present m) p) (sym held) ∙ set_same path_cmp_total path_cmp_exact (present m) p in
      let fewer : len (present m) ≤ len (set_at m p None) = subst (λ n. len n ≤ len (set_at m p None)) same (few_present (set_at m p None)) in
      let all : len m ≡ len (set_at m p None) + one (get m p) = len-without path_cmp_total path_cmp_exact m p in
      let itself : one (get m p) ≡ 1 = ap one dead in
      omega arith

  -- those below the root are all others
  below_the_root : retain (present m) (is_above []) ≡ set_at (present m) [] None
  below_the_root = same_map path_cmp_total path_cmp_exact _ _ (λ q. get-retain path_cmp_total path_cmp_exact (present m) (is_above []) q ∙ at q)
    where
      at : (q : Path) → cond (is_above [] q) (get (present m) q) None ≡ get (set_at (present m) [] None) q
      at [] = sym (get_here path_cmp_total path_cmp_exact (present m) [] None)
      at (n ∷ q) = sym (get_apart path_cmp_total path_cmp_exact (present m) [] None (n ∷ q) (λ e. cc))

  module _ (w : Option Settings) (root : get m [] ≡ Some w) (some : IsSome w) where
    with_root : len (present m) ≡ group_count m (is_above []) + 1
    with_root =
        let all : len (present m) ≡ len (set_at (present m) [] None) + one (get (present m) []) = len-without path_cmp_total path_cmp_exact (present m) [] in
        let itself : one (get (present m) []) ≡ 1 = ap one (get-present path_cmp_total path_cmp_exact m [] ∙ ap option_flatten root) ∙ ap (λ b. cond b 1 0) some in
        let rest : group_count m (is_above []) ≡ len (set_at (present m) [] None) = ap len below_the_root in
        omega arith

    pub none_is_dead : len m ≡ group_count m (is_above []) + 1 → HaveSettings m
    none_is_dead all p there = by (get m p) refl there
      where
        by : (x : Option (Option Settings)) → get m p ≡ x → IsSome x → IsSome (option_flatten x)
        by None e h = absurd (true≢false (sym h))
        by (Some None) e h = absurd (omega (arith, dead_is_more p e, with_root, all))
        by (Some (Some s)) e h = refl
