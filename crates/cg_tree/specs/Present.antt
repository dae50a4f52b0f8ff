-- A map whose keys may hold nothing, as the map of what is held.
use Rattle.std.specs.Prelude.{T, List, [], ◌∷◌, Option, Some, None}
use Rattle.std.specs.declared.cmp.Ordering.{Ordering}
use Rattle.std.specs.Ordering.{is_lt}
use Rattle.std.specs.FinMap.Entries.{is_sorted, below_all}
use Rattle.cg_maps.specs.FiniteMap.{FiniteMap}
use Rattle.cg_maps.proofs.Tests.{and_both, and_first, and_second}

module _ {K X : Type 0} where
  -- the entries, and before them what the key holds, if it holds something
  abbrev pub with_held : K → Option X → List (K × X) → List (K × X)
  with_held k None es = es
  with_held k (Some v) es = (k, v) ∷ es

  -- the entries that hold something
  abbrev pub held_entries : List (K × Option X) → List (K × X)
  held_entries [] = []
  held_entries (e ∷ es) = with_held e.0 e.1 (held_entries es)

module _ {K X : Type 0} (R : K → K → Ordering) where
  below_with : (k l : K) (v : Option X) (es : List (K × X)) → T (is_lt (R k l)) → T (below_all R k es) → T (below_all R k (with_held l v es))
  below_with k l None es h hs = hs
  below_with k l (Some v) es h hs = and_both _ _ h hs

  below_held : (k : K) (es : List (K × Option X)) → T (below_all R k es) → T (below_all R k (held_entries es))
  below_held k [] h = tt
  below_held k (e ∷ es) h = below_with k e.0 e.1 (held_entries es) (and_first _ _ h) (below_held k es (and_second _ _ h))

  sorted_with : (k : K) (v : Option X) (es : List (K × X)) → T (below_all R k es) → T (is_sorted R es) → T (is_sorted R (with_held k v es))
  sorted_with k None es b h = h
  sorted_with k (Some v) es b h = and_both _ _ b h

  pub is_sorted-held : (es : List (K × Option X)) → T (is_sorted R es) → T (is_sorted R (held_entries es))
  is_sorted-held [] h = tt
  is_sorted-held (e ∷ es) h = sorted_with e.0 e.1 (held_entries es) (below_held e.0 es (and_first _ _ h)) (is_sorted-held es (and_second _ _ h))

module _ {K X : Type 0} {R : K → K → Ordering} where
  -- the map of what the keys hold
  unfoldable pub present : FiniteMap R (Option X) → FiniteMap R X
  present m = record { list = held_entries m.list; sorted = is_sorted-held R m.list m.sorted }
