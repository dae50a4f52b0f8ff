-- A world's groups, one after another: each parent comes before its children.
use Rattle.std.proofs.Common.{◌≡◌, T, Bool, true, false, cond, List, [], ◌∷◌, ◌++◌, Option, Some, None, option_map, IsSome, is_some, refl, sym, ap, subst, ◌∙◌, Less, append_assoc, append-nil}
use Rattle.std.specs.Ordering.{eq_by_cmp, is_eq, ordering_reverse}
use Rattle.std.specs.Option.{option_flatten}
use Rattle.std.specs.BTreeMap.{BTreeMap, IsOrdered}
use Rattle.std.specs.Cmp.{tied_itself}
use Rattle.std.specs.FinMap.Entries.{find, find-append, is_sorted, below_all}
use Rattle.std.specs.List.{AllByRecursion}
use Rattle.std.proofs.lemmas.Bool.{and_parts, false≢true}
use Rattle.cg_maps.specs.FiniteMap.{FiniteMap, domain, empty, entries, from_entries, get, set_at}
use Rattle.cg_maps.proofs.Maps.{get-domain, get-empty, get-from_entries, get-set_at, same_map}
use Rattle.cg_maps.proofs.Tests.{and_first, and_second, less}
use Rattle.cg_maps.proofs.TreeMaps.{entries-view}
use Rattle.cg_model.specs.Sound.{Sound}
use Rattle.cg_model.specs.Tree.{Tree, group}
use Rattle.cg_name.specs.Name.{same_name}
use Rattle.cg_name.specs.Order.{name_cmp_total, path_cmp_total, path_cmp_exact}
use Rattle.cg_name.specs.Path.{Path, path_cmp, is_parent, is_root}
use Rattle.cg_name.proofs.Packing.{same_name-is}
use Rattle.cg_path_tree.specs.Nodes.{parent_path}
use Rattle.cg_path_tree.proofs.Parents.{below_parent}
use Rattle.cg_text.specs.declared.settings.Settings.{Settings}
use Rattle.cg_tree.specs.Present.{present}
use Rattle.cg_tree.specs.Room.{HaveParents}
use Rattle.cg_tree.proofs.Presence.{get-present}

-- ---- entries in the order of their paths

module _ {X : Type 0} where
  abbrev AreAfter : Path → List (Path × X) → Type 0
  AreAfter p es = AllByRecursion (λ x. path_cmp p x.0 ≡ Less) es

  abbrev pub Ascend : List (Path × X) → Type 0
  Ascend [] = Unit {0}
  Ascend (e ∷ es) = AreAfter e.0 es × Ascend es

  all_after : (p : Path) (es : List (Path × X)) → T (below_all path_cmp p es) → AreAfter p es
  all_after p [] h = tt
  all_after p (e ∷ es) h = (less _ (and_first _ _ h), all_after p es (and_second _ _ h))

  ascending : (es : List (Path × X)) → T (is_sorted path_cmp es) → Ascend es
  ascending [] h = tt
  ascending (e ∷ es) h = (all_after e.0 es (and_first _ _ h), ascending es (and_second _ _ h))

  at_seam : (p : Path) (xs : List (Path × X)) (e : Path × X) (ys : List (Path × X)) → AreAfter p (xs ++ e ∷ ys) → path_cmp p e.0 ≡ Less
  at_seam p [] e ys h = h.0
  at_seam p (x ∷ xs) e ys h = at_seam p xs e ys h.1

  skipped : (q : Path) (e : Path × X) (es : List (Path × X)) → is_eq (path_cmp q e.0) ≡ false → find path_cmp q (e ∷ es) ≡ find path_cmp q es
  skipped q e es h = ap (λ b. cond b (Some e.1) (find path_cmp q es)) h

  -- none of those before an entry has its path
  pub absent_before : (xs : List (Path × X)) (e : Path × X) (ys : List (Path × X)) → Ascend (xs ++ e ∷ ys) → find path_cmp e.0 xs ≡ None
  absent_before [] e ys h = refl
  absent_before (x ∷ xs) e ys h =
      let other : is_eq (path_cmp e.0 x.0) ≡ false = ap is_eq (path_cmp_total.antisymm e.0 x.0 ∙ ap ordering_reverse (at_seam x.0 xs e ys h.0)) in
      skipped e.0 x xs other ∙ absent_before xs e ys h.1

  -- and none from it on has a path that comes before
  none_after : (r p : Path) → path_cmp r p ≡ Less → (ys : List (Path × X)) → AreAfter p ys → find path_cmp r ys ≡ None
  none_after r p h [] a = refl
  none_after r p h (y ∷ ys) a = skipped r y ys (ap is_eq (path_cmp_total.trans r p y.0 h a.0)) ∙ none_after r p h ys a.1

  none_from : (r : Path) (xs : List (Path × X)) (e : Path × X) (ys : List (Path × X)) → Ascend (xs ++ e ∷ ys) → path_cmp r e.0 ≡ Less → find path_cmp r (e ∷ ys) ≡ None
  none_from r [] e ys a h = skipped r e ys (ap is_eq h) ∙ none_after r e.0 h ys a.0
  none_from r (x ∷ xs) e ys a h = none_from r xs e ys a.1 h

  in_front : (r : Path) (xs ys : List (Path × X)) → find path_cmp r ys ≡ None → find path_cmp r (xs ++ ys) ≡ find path_cmp r xs
  in_front r [] ys h = h
  in_front r (x ∷ xs) ys h = ap (cond (eq_by_cmp path_cmp r x.0) (Some x.1)) (in_front r xs ys h)

  here_at_seam : (xs : List (Path × X)) (e : Path × X) (ys : List (Path × X)) → Ascend (xs ++ e ∷ ys) → find path_cmp e.0 (xs ++ e ∷ ys) ≡ Some e.1
  here_at_seam [] e ys h = ap (λ o. cond (is_eq o) (Some e.1) (find path_cmp e.0 ys)) (tied_itself path_cmp_total e.0)
  here_at_seam (x ∷ xs) e ys h =
      let other : is_eq (path_cmp e.0 x.0) ≡ false = ap is_eq (path_cmp_total.antisymm e.0 x.0 ∙ ap ordering_reverse (at_seam x.0 xs e ys h.0)) in
      skipped e.0 x (xs ++ e ∷ ys) other ∙ here_at_seam xs e ys h.1

-- a parent's path comes before its children's
pub parent_first : (p q : Path) → is_parent p q ≡ true → path_cmp p q ≡ Less
parent_first p [] h = absurd (false≢true h)
parent_first [] (m ∷ q) h = refl
parent_first (n ∷ p) (m ∷ q) h =
    let both = and_parts (same_name n m) (is_parent p q) h in
    subst (λ k. path_cmp (n ∷ p) (k ∷ q) ≡ Less) (same_name-is n m both.0) (rw (tied_itself name_cmp_total n) (parent_first p q both.1))

-- ---- groups that have been put in, and those that are left

pub record IsPartOf (es : List (Path × Settings)) (made : FiniteMap path_cmp (Option Settings)) (rest : List (Path × Settings)) : Type 0 where
  pub ordered : Ascend es
  pub before : List (Path × Settings)
  pub split : es ≡ before ++ rest
  pub held : (q : Path) → get made q ≡ option_map Some (find path_cmp q before)

pub listed_ordered : (m : BTreeMap Path Settings) → IsOrdered path_cmp m → Ascend m.entries
unfolding entries
listed_ordered m ordered =
    subst Ascend (entries-view path_cmp_total path_cmp_exact m ordered) (ascending (from_entries path_cmp m.entries).list (from_entries path_cmp m.entries).sorted)

-- nothing is in yet
pub all_to_come : (m : BTreeMap Path Settings) → IsOrdered path_cmp m → (made : FiniteMap path_cmp (Option Settings)) → made ≡ empty → IsPartOf m.entries made m.entries
all_to_come m ordered made is = record { ordered = listed_ordered m ordered; before = []; split = refl; held = λ q. ap (λ n. get n q) is ∙ get-empty path_cmp q }

module _ {es : List (Path × Settings)} {made : FiniteMap path_cmp (Option Settings)} {e : Path × Settings} {rest : List (Path × Settings)} (part : IsPartOf es made (e ∷ rest)) where
  whole : Ascend (part.before ++ e ∷ rest)
  whole = subst Ascend part.split part.ordered

  not_before : find path_cmp e.0 part.before ≡ None
  not_before = absent_before part.before e rest whole

  pub not_made : get made e.0 ≡ None
  not_made = part.held e.0 ∙ ap (option_map Some) not_before

  mapped : (w : Option Settings) → is_some (option_map {U = Option Settings} Some w) ≡ is_some w
  mapped None = refl
  mapped (Some x) = refl

  pub parent_made : HaveParents (from_entries path_cmp es) → is_root e.0 ≡ false → IsSome (get made (parent_path e.0))
  parent_made parents deep =
      let here : get (from_entries path_cmp es) e.0 ≡ Some e.1 = get-from_entries path_cmp_total path_cmp_exact es e.0 ∙ ap (find path_cmp e.0) part.split ∙ here_at_seam part.before e rest whole in
      let there : is_some (get (from_entries path_cmp es) (parent_path e.0)) ≡ true = parents e.0 deep (ap is_some here) in
      let first : path_cmp (parent_path e.0) e.0 ≡ Less = parent_first (parent_path e.0) e.0 (below_parent e.0 deep) in
      let found : get (from_entries path_cmp es) (parent_path e.0) ≡ find path_cmp (parent_path e.0) part.before =
      get-from_entries path_cmp_total path_cmp_exact es (parent_path e.0)
      ∙ ap (find path_cmp (parent_path e.0)) part.split
      ∙ in_front (parent_path e.0) part.before (e ∷ rest) (none_from (parent_path e.0) part.before e rest whole first) in
      ap is_some (part.held (parent_path e.0)) ∙ mapped (find path_cmp (parent_path e.0) part.before) ∙ ap is_some (sym found) ∙ there

  pub one_more : (next : FiniteMap path_cmp (Option Settings)) → next ≡ set_at made e.0 (Some (Some e.1)) → IsPartOf es next rest
  one_more next is = record {
    ordered = part.ordered;
    before = part.before ++ e ∷ [];
    split = part.split ∙ sym (append_assoc part.before (e ∷ []) rest);
    held = λ q.
        ap (λ m. get m q) is
        ∙ get-set_at path_cmp_total path_cmp_exact made e.0 (Some (Some e.1)) q
        ∙ ap (cond (eq_by_cmp path_cmp q e.0) (Some (Some e.1))) (part.held q)
        ∙ turned (eq_by_cmp path_cmp q e.0) (find path_cmp q part.before)
        ∙ ap (option_map Some) (sym (find-append path_cmp path_cmp_total part.before e.0 e.1 q not_before));
  }
    where
      turned : (b : Bool) (w : Option Settings) → cond b (Some (Some e.1)) (option_map Some w) ≡ option_map Some (cond b (Some e.1) w)
      turned true w = refl
      turned false w = refl

-- all are in
module _ {es : List (Path × Settings)} {made : FiniteMap path_cmp (Option Settings)} (part : IsPartOf es made []) where
  all_held : (q : Path) → get made q ≡ option_map Some (get (from_entries path_cmp es) q)
  all_held q = part.held q ∙ ap (λ xs. option_map Some (find path_cmp q xs)) (sym (part.split ∙ append-nil part.before)) ∙ ap (option_map Some) (sym (get-from_entries path_cmp_total path_cmp_exact es q))

  flat : (w : Option Settings) → option_flatten (option_map Some w) ≡ w
  flat None = refl
  flat (Some x) = refl

  pub made_groups : present made ≡ from_entries path_cmp es
  made_groups = same_map path_cmp_total path_cmp_exact _ _ (λ q. get-present path_cmp_total path_cmp_exact made q ∙ ap option_flatten (all_held q) ∙ flat (get (from_entries path_cmp es) q))

  pub made_entries : domain made ≡ domain (from_entries path_cmp es)
  made_entries = same_map path_cmp_total path_cmp_exact _ _ (λ q. get-domain made q ∙ ap (option_map (λ _. tt)) (all_held q) ∙ bare (get (from_entries path_cmp es) q) ∙ sym (get-domain (from_entries path_cmp es) q))
    where
      bare : (w : Option Settings) → option_map {U = Unit {0}} (λ _. tt) (option_map {U = Option Settings} Some w) ≡ option_map (λ _. tt) w
      bare None = refl
      bare (Some x) = refl

-- in a sound tree each group has its parent
pub sound_parents : (T : Tree) → Sound T → HaveParents T.groups
sound_parents T s p deep there = by (group T p) refl there
  where
    by : (w : Option Settings) → group T p ≡ w → IsSome w → IsSome (group T (parent_path p))
    by None is some = absurd (false≢true some)
    by (Some x) is some = ap is_some (s.child (parent_path p) p x (below_parent p deep) is).1
