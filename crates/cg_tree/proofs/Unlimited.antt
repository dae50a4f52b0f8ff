-- Groups without limits: written, and listed.
use Rattle.std.proofs.Common.{◌≡◌, Bool, true, false, cond, ◌||◌, List, [], ◌∷◌, Option, Some, IfSome, refl, sym, subst, ◌∙◌}
use Rattle.std.proofs.lemmas.Bool.{false≢true}
use Rattle.std.proofs.lemmas.Option.{none-some, same_Some}
use Rattle.std.specs.FinMap.Entries.{find}
use Rattle.std.specs.List.{AllByRecursion}
use Rattle.std.specs.Ordering.{eq_by_cmp}
use Rattle.cg_maps.specs.FiniteMap.{FiniteMap, from_entries, get, set_at}
use Rattle.cg_maps.proofs.Maps as maps
use Rattle.cg_name.specs.Order.{path_cmp_total, path_cmp_exact}
use Rattle.cg_name.specs.Path.{Path, path_cmp}
use Rattle.cg_text.specs.declared.settings.Settings.{Settings}
use Rattle.cg_tree.specs.Unlimited.{AreUnlimited, IsUnlimited}

pub first_false : (a b : Bool) → a || b ≡ false → a ≡ false
first_false false b e = refl
first_false true b e = absurd (false≢true (sym e))

pub second_false : (a b : Bool) → a || b ≡ false → b ≡ false
second_false false b e = e
second_false true b e = absurd (false≢true (sym e))

pub unlimited_put : (m : FiniteMap path_cmp Settings) (p : Path) (o : Option Settings) → AreUnlimited m → IfSome o IsUnlimited → AreUnlimited (set_at m p o)
unlimited_put m p o all one q s e = by (eq_by_cmp path_cmp q p) (sym (maps.get-set_at path_cmp_total path_cmp_exact m p o q) ∙ e)
  where
    by : (b : Bool) → cond b o (get m q) ≡ Some s → IsUnlimited s
    by true there = subst (λ x. IfSome x IsUnlimited) there one
    by false there = all q s there

-- each of a list
abbrev pub AllUnlimited : List (Path × Settings) → Type 0
AllUnlimited es = AllByRecursion (λ e. IsUnlimited e.1) es

among : (p : Path) (s : Settings) (es : List (Path × Settings)) → AllUnlimited es → find path_cmp p es ≡ Some s → IsUnlimited s
among p s [] all there = absurd (none-some s there)
among p s (e ∷ es) all there = elim (eq_by_cmp path_cmp p e.0) as (λ b. cond b (Some e.1) (find path_cmp p es) ≡ Some s → IsUnlimited s) [
  | true ↦ λ here. subst IsUnlimited (same_Some e.1 s here) all.0
  | false ↦ λ later. among p s es all.1 later
] there

pub unlimited_listed : (es : List (Path × Settings)) → AllUnlimited es → AreUnlimited (from_entries path_cmp es)
unlimited_listed es all p s e = among p s es all (sym (maps.get-from_entries path_cmp_total path_cmp_exact es p) ∙ e)
