-- Entries put into a map one after another.
use Rattle.std.proofs.Common.{◌≡◌, ◌≢◌, true, false, cond, List, [], ◌∷◌, ◌++◌, Option, Some, None, refl, sym, ap, subst, ◌∙◌}
use Rattle.std.specs.Ordering.{eq_by_cmp}
use Rattle.std.specs.declared.cmp.Ordering.{Ordering}
use Rattle.std.specs.Cmp.{IsTotalOrder}
use Rattle.std.specs.List.{AllByRecursion}
use Rattle.std.specs.FinMap.{IsAntisymmetric}
use Rattle.std.specs.FinMap.Entries.{find}
use Rattle.std.specs.BTreeMap.{BTreeMap, IsOrdered}
use Rattle.cg_maps.specs.FiniteMap.{FiniteMap, from_entries, get, set_at, entries, empty}
use Rattle.cg_maps.proofs.Maps.{same_map, get-set_at, is_same, KeysDiffer, keys_differ, get-empty}
use Rattle.cg_maps.proofs.TreeMaps.{entries-view}

-- the map that holds the entries, the last at each key, and else what m held
abbrev pub puts : {K X : Type 0} {R : K → K → Ordering} → FiniteMap R X → List (K × X) → FiniteMap R X
puts m [] = m
puts m (e ∷ es) = puts (set_at m e.0 (Some e.1)) es

pub puts_push : {K X : Type 0} {R : K → K → Ordering} (m : FiniteMap R X) (es : List (K × X)) (e : K × X) → puts m (es ++ e ∷ []) ≡ set_at (puts m es) e.0 (Some e.1)
puts_push m [] e = refl
puts_push m (f ∷ es) e = puts_push (set_at m f.0 (Some f.1)) es e

abbrev or_else : {X : Type 0} → Option X → Option X → Option X
or_else None y = y
or_else (Some x) y = Some x

module _ {K X : Type 0} {R : K → K → Ordering} (o : IsTotalOrder R) (same : IsAntisymmetric R) where
  absent : (k : K) (es : List (K × X)) → AllByRecursion (λ f. k ≢ f.0) es → find R k es ≡ None
  absent k [] h = refl
  absent k (f ∷ es) h = elim (eq_by_cmp R k f.0) as (λ b. eq_by_cmp R k f.0 ≡ b → cond b (Some f.1) (find R k es) ≡ None) [
    | true ↦ λ e. absurd (h.0 (is_same o same k f.0 e))
    | false ↦ λ e. absent k es h.1
  ] refl

  get-puts : (m : FiniteMap R X) (es : List (K × X)) → KeysDiffer o es → (q : K) → get (puts m es) q ≡ or_else (find R q es) (get m q)
  get-puts m [] d q = refl
  get-puts m (e ∷ es) d q =
      get-puts (set_at m e.0 (Some e.1)) es d.1 q
      ∙ ap (or_else (find R q es)) (get-set_at o same m e.0 (Some e.1) q)
      ∙ (elim (eq_by_cmp R q e.0) as (λ b. eq_by_cmp R q e.0 ≡ b → or_else (find R q es) (cond b (Some e.1) (get m q)) ≡ or_else (cond b (Some e.1) (find R q es)) (get m q)) [
        | true ↦ λ is. ap (λ r. or_else r (Some e.1)) (subst (λ k. find R k es ≡ None) (sym (is_same o same q e.0 is)) (absent e.0 es d.0))
        | false ↦ λ is. refl
      ] refl)

  found_or_none : (x : Option X) → or_else x None ≡ x
  found_or_none None = refl
  found_or_none (Some x) = refl

  -- a map is made of its entries
  pub puts-entries : (m : FiniteMap R X) → puts empty (entries m) ≡ m
  unfolding entries get
  puts-entries m = same_map o same _ m (λ q.
      get-puts empty (entries m) (keys_differ o m) q
      ∙ ap (or_else (find R q (entries m))) (get-empty R q)
      ∙ found_or_none (find R q (entries m)))

  -- so is the view of a tree map
  pub puts-view : (m : BTreeMap K X) → IsOrdered R m → puts empty m.entries ≡ from_entries R m.entries
  puts-view m h = ap (puts empty) (sym (entries-view o same m h)) ∙ puts-entries (from_entries R m.entries)
