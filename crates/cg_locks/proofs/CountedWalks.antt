-- Marks on numbers of descendants, one after another on the way up.
use Rattle.std.proofs.Common.{◌≡◌, ℕ, ◌+◌, ◌<◌, ◌≤◌, List, [], ◌∷◌, ◌++◌, drop, get_or, length, take, Option, Some, None, refl, sym, ap, subst, ◌∙◌}
use Rattle.std.proofs.lemmas.List.{append_assoc, drop_all, drop_more, take_more}
use Rattle.cg_maps.specs.FiniteMap.{get}
use Rattle.cg_name.specs.Path.{Path}
use Rattle.cg_path_tree.specs.declared.node.NodeKey.{NodeKey}
use Rattle.cg_path_tree.specs.Nodes.{parent_path}
use Rattle.cg_locks.specs.Counts.{prefixes}
use Rattle.cg_locks.specs.declared.held.Held.{Held}
use Rattle.cg_locks.specs.declared.held.Kind.TheVariants as kinds
use Rattle.cg_locks.specs.declared.held.Part.TheVariants.{CountedAt}
use Rattle.cg_locks.specs.Held.{here_of}
use Rattle.cg_locks.specs.HeldByPath.{in_part, AreCountsMore, HasCounts, HeldByPath, IsOneMoreIn}
use Rattle.cg_locks.specs.Holders.{held_at, held_on, lesser_of, IsLeastOther}
use Rattle.cg_locks.proofs.Climbing.{lesser_lesser}
use Rattle.cg_locks.proofs.CountedNodes.{counts_last, counts_next, counts_none, first_above, first_is_held, least_first, others_are_held}
use Rattle.cg_locks.proofs.Counts.{no_holder}
use Rattle.cg_locks.proofs.Keys.{IsAbove, Keys}

-- ---- up to a node

-- the path of the node that the walk has come to has the first d names of p, where it has that many
pub record IsOnWay (keys : Keys) (d : ℕ) (p : Path) (at : NodeKey) : Type 0 where
  pub path : Path
  pub there : get keys path ≡ Some at
  pub first : take d path ≡ take d p

pub way_begins : (keys : Keys) (d : ℕ) (p : Path) (key : NodeKey) → get keys p ≡ Some key → IsOnWay keys d p key
way_begins keys d p key h = record { path = p; there = h; first = refl }

module _ (keys : Keys) (d : ℕ) (p : Path) (at : NodeKey) (i : IsOnWay keys d p at) where
  pub way_up : (parent : NodeKey) → d < length i.path → IsAbove keys at parent i.path → IsOnWay keys d p parent
  way_up parent low above = record {
    path = parent_path i.path;
    there = above.there;
    first = first_above i.path d above.root low ∙ i.first;
  }

  pub way_ends : take d i.path ≡ i.path → get keys (take d p) ≡ Some at
  way_ends whole = ap (get keys) (sym i.first ∙ whole) ∙ i.there

-- ---- number after number

-- the path that comes next
abbrev pub next_path : Path → List ℕ → ℕ → Path
next_path p all i = take (get_or all i 0) p

-- the least other with a mark of those left is still to be found: with it, what was found is the least
pub record HasFound (keys : Keys) (T : HeldByPath) (t : ℕ) (p : Path) (all left : List ℕ) (at : NodeKey) (least : Option ℕ) : Type 0 where
  pub path : Path
  pub there : get keys path ≡ Some at
  pub rest : (r : Option ℕ) → IsLeastOther t (held_on (in_part CountedAt T) (prefixes path left)) r → IsLeastOther t (held_on (in_part CountedAt T) (prefixes p all)) (lesser_of least r)

module _ (keys : Keys) (T : HeldByPath) (t : ℕ) (p : Path) (all : List ℕ) where
  pub found_none : (key : NodeKey) → get keys p ≡ Some key → HasFound keys T t p all all key None
  found_none key h = record { path = p; there = h; rest = λ r least. least }

  module _ (i : ℕ) (at : NodeKey) (least : Option ℕ) (found : HasFound keys T t p all (drop i all) at least) where
    pub found_next : i < length all → (next : NodeKey) → get keys (next_path found.path all i) ≡ Some next → (h : Held) → get T (next_path found.path all i) ≡ Some h
        → (own now : Option ℕ) → IsLeastOther t (here_of kinds.Descendants h) own → now ≡ lesser_of least own → HasFound keys T t p all (drop (i + 1) all) next now
    found_next low next there h held own now here lesser = record {
      path = next_path found.path all i;
      there = there;
      rest = λ r rest. subst (IsLeastOther t (held_on (in_part CountedAt T) (prefixes p all))) (sym (lesser_lesser least own r) ∙ ap (λ o. lesser_of o r) (sym lesser))
          (found.rest (lesser_of own r) (least_first T found.path (get_or all i 0) (drop (i + 1) all) (drop i all) h t own r (drop_more all i 0 low) held here rest));
    }

    pub found_all : length all ≤ i → IsLeastOther t (held_on (in_part CountedAt T) (prefixes p all)) least
    found_all end =
        subst (IsLeastOther t (held_on (in_part CountedAt T) (prefixes p all))) (with_none least)
        (found.rest None (subst (λ ds. IsLeastOther t (held_on (in_part CountedAt T) (prefixes found.path ds)) None) (sym (drop_all i all end)) (no_holder t (held_on (in_part CountedAt T) []) (λ u. refl))))
      where
        with_none : (o : Option ℕ) → lesser_of o None ≡ o
        with_none None = refl
        with_none (Some n) = refl

-- the marks that are left are still to be taken away: then all are
pub record HasTaken (keys : Keys) (T : HeldByPath) (t : ℕ) (p : Path) (all left : List ℕ) (at : NodeKey) (M : HeldByPath) : Type 0 where
  pub path : Path
  pub there : get keys path ≡ Some at
  pub held : HasCounts M (prefixes path left) t
  pub rest : (M' : HeldByPath) → AreCountsMore M' (prefixes path left) t M → AreCountsMore M' (prefixes p all) t T

module _ (keys : Keys) (T : HeldByPath) (t : ℕ) (p : Path) (all : List ℕ) where
  pub taken_none : (key : NodeKey) → get keys p ≡ Some key → HasCounts T (prefixes p all) t → HasTaken keys T t p all all key T
  taken_none key h held = record { path = p; there = h; held = held; rest = λ M' less. less }

  module _ (i : ℕ) (at : NodeKey) (M : HeldByPath) (taken : HasTaken keys T t p all (drop i all) at M) where
    module _ (low : i < length all) where
      these_left : HasCounts M (next_path taken.path all i ∷ prefixes (next_path taken.path all i) (drop (i + 1) all)) t
      these_left = subst (λ ds. HasCounts M (prefixes taken.path ds) t) (drop_more all i 0 low) taken.held

      pub next_to_take : 0 < held_at (in_part CountedAt M) (next_path taken.path all i) t
      next_to_take = first_is_held (in_part CountedAt M) t (next_path taken.path all i) (prefixes (next_path taken.path all i) (drop (i + 1) all)) these_left

      pub taken_next : (next : NodeKey) → get keys (next_path taken.path all i) ≡ Some next → (N : HeldByPath) → IsOneMoreIn N CountedAt (next_path taken.path all i) t M → HasTaken keys T t p all (drop (i + 1) all) next N
      taken_next next there N less =
          let q = next_path taken.path all i in
          let others = prefixes q (drop (i + 1) all) in
          record {
            path = q;
            there = there;
            held = others_are_held t q others M N these_left less;
            rest = λ M' rest. taken.rest M' (subst (λ ds. AreCountsMore M' (prefixes taken.path ds) t M) (sym (drop_more all i 0 low)) (counts_last t q others M' N M rest less));
          }

-- the marks so far are there, and the paths of those to come are those with which the node's path begins
pub record HasAdded (keys : Keys) (T : HeldByPath) (t : ℕ) (p : Path) (front : List ℕ) (at : NodeKey) (M : HeldByPath) : Type 0 where
  pub path : Path
  pub there : get keys path ≡ Some at
  pub more : AreCountsMore T (prefixes p front) t M
  pub next : (ds : List ℕ) → prefixes p (front ++ ds) ≡ prefixes p front ++ prefixes path ds

module _ (keys : Keys) (T : HeldByPath) (t : ℕ) (p : Path) where
  pub added_none : (key : NodeKey) → get keys p ≡ Some key → HasAdded keys T t p [] key T
  added_none key h = record { path = p; there = h; more = counts_none t T; next = λ ds. refl }

  module _ (all : List ℕ) (i : ℕ) (at : NodeKey) (M : HeldByPath) (added : HasAdded keys T t p (take i all) at M) where
    pub added_next : i < length all → (next : NodeKey) → get keys (next_path added.path all i) ≡ Some next → (N : HeldByPath) → IsOneMoreIn M CountedAt (next_path added.path all i) t N → HasAdded keys T t p (take (i + 1) all) next N
    added_next low next there N one =
        let front = take i all in
        let d = get_or all i 0 in
        let q = next_path added.path all i in
        let so_far : take (i + 1) all ≡ front ++ d ∷ [] = take_more all i 0 low in
        let last : prefixes p (front ++ d ∷ []) ≡ prefixes p front ++ q ∷ [] = added.next (d ∷ []) in
        subst (λ ds. HasAdded keys T t p ds next N) (sym so_far) (record {
          path = q;
          there = there;
          more = subst (λ ps. AreCountsMore T ps t N) (sym last) (counts_next t q (prefixes p front) T M N added.more one);
          next = λ ds.
              ap (prefixes p) (append_assoc front (d ∷ []) ds) ∙ added.next (d ∷ ds)
              ∙ sym (append_assoc (prefixes p front) (q ∷ []) (prefixes q ds)) ∙ ap (λ ps. ps ++ prefixes q ds) (sym last);
        })
