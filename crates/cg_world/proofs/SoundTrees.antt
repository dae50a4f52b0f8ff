-- Soundness, part by part.
use Rattle.std.proofs.Common.{◌≡◌, ◌↔◌, suc, nat_eq, ◌-◌, Bool, true, false, IsTrue, cond, not, ◌||◌, ◌&&◌, List, [], ◌∷◌, take, length, Option, Some, None, IfSome, Bor, refl, sym, ap, subst, ◌∙◌, true≢false, arith}
use Rattle.std.specs.declared.cmp.Ordering.{Ordering}
use Rattle.std.specs.Ordering.{eq_by_cmp}
use Rattle.std.specs.Cmp.{IsTotalOrder}
use Rattle.std.specs.Cmp.Lexicographic.{pointwise, pointwise_decides, bytes_decides}
use Rattle.std.specs.Cmp.Derive.{both_true}
use Rattle.std.specs.List.{AllByRecursion, list_all}
use Rattle.std.specs.FinMap.{IsAntisymmetric}
use Rattle.std.specs.FinMap.Entries.{find}
use Rattle.std.proofs.lemmas.Bool.{and_parts}
use Rattle.std.proofs.lemmas.Option.{none-some, same_Some}
use Rattle.cg_maps.specs.FiniteMap.{FiniteMap, from_entries, get}
use Rattle.cg_maps.specs.FiniteSet.{is_empty_set}
use Rattle.cg_maps.proofs.Maps.{is_same, get-from_entries}
use Rattle.cg_name.specs.Name.{Name, same_name}
use Rattle.cg_name.specs.Path.{Path, path_cmp, is_root, is_parent, is_prefix}
use Rattle.cg_name.specs.Order.{path_cmp_total, path_cmp_exact}
use Rattle.cg_name.proofs.Packing.{same_name-is, same_name-itself}
use Rattle.cg_name.specs.declared.controller.Controller.{Controller}
use Rattle.cg_name.specs.declared.controller.Controller.TheVariants.{Cpuset, Cpu, Io, Memory, Hugetlb, Pids, Rdma, Misc}
use Rattle.cg_text.specs.Controllers.{has, is_within, IsWithin}
use Rattle.cg_text.specs.declared.controllers.Controllers.{Controllers}
use Rattle.cg_text.specs.declared.settings.Settings.{Settings}
use Rattle.cg_model.specs.Tree.{Tree, group}
use Rattle.cg_model.specs.Sound.{Sound, IsChildOf, IsRootOf, admits}
use Rattle.cg_world.specs.Soundness.{HasNoParent, HasParent, HasSoundRoot, HasSoundGroups, HasSoundPlaces, IsSoundGroup, IsSoundPlace, AreSoundPlaces, leads_to}

-- ---- tests

implies : (a b : Bool) → (not a || b) ≡ true → a ≡ true → b ≡ true
implies true b e h = e
implies false b e h = absurd (true≢false (sym h))

implied : (a b : Bool) → (a ≡ true → b ≡ true) → (not a || b) ≡ true
implied true b h = h refl
implied false b h = refl

-- ---- sets of controllers

module _ (s t : Controllers) where
  abbrev at : Controller → Bool
  at c = not (has s c) || has t c

  -- a set is within another exactly where the test says so
  pub within : is_within s t ≡ true → IsWithin s t
  within e =
      let e1 : list_all at (Cpu ∷ Io ∷ Memory ∷ Hugetlb ∷ Pids ∷ Rdma ∷ Misc ∷ []) ≡ true = (and_parts (at Cpuset) _ e).1 in
      let e2 : list_all at (Io ∷ Memory ∷ Hugetlb ∷ Pids ∷ Rdma ∷ Misc ∷ []) ≡ true = (and_parts (at Cpu) _ e1).1 in
      let e3 : list_all at (Memory ∷ Hugetlb ∷ Pids ∷ Rdma ∷ Misc ∷ []) ≡ true = (and_parts (at Io) _ e2).1 in
      let e4 : list_all at (Hugetlb ∷ Pids ∷ Rdma ∷ Misc ∷ []) ≡ true = (and_parts (at Memory) _ e3).1 in
      let e5 : list_all at (Pids ∷ Rdma ∷ Misc ∷ []) ≡ true = (and_parts (at Hugetlb) _ e4).1 in
      let e6 : list_all at (Rdma ∷ Misc ∷ []) ≡ true = (and_parts (at Pids) _ e5).1 in
      let e7 : list_all at (Misc ∷ []) ≡ true = (and_parts (at Rdma) _ e6).1 in
      λ c. elim c as (λ c. has s c ≡ true → has t c ≡ true) [
        | Cpuset ↦ implies s.cpuset t.cpuset (and_parts (at Cpuset) _ e).0
        | Cpu ↦ implies s.cpu t.cpu (and_parts (at Cpu) _ e1).0
        | Io ↦ implies s.io t.io (and_parts (at Io) _ e2).0
        | Memory ↦ implies s.memory t.memory (and_parts (at Memory) _ e3).0
        | Hugetlb ↦ implies s.hugetlb t.hugetlb (and_parts (at Hugetlb) _ e4).0
        | Pids ↦ implies s.pids t.pids (and_parts (at Pids) _ e5).0
        | Rdma ↦ implies s.rdma t.rdma (and_parts (at Rdma) _ e6).0
        | Misc ↦ implies s.misc t.misc (and_parts (at Misc) _ e7).0
      ]

  pub tells_within : IsWithin s t → is_within s t ≡ true
  tells_within h =
      let one : (c : Controller) → at c ≡ true = λ c. implied (has s c) (has t c) (h c) in
      both_true (one Cpuset) (both_true (one Cpu) (both_true (one Io) (both_true (one Memory) (both_true (one Hugetlb) (both_true (one Pids) (both_true (one Rdma) (both_true (one Misc) refl)))))))

-- ---- a parent's path

root_empty : (p : Path) → is_root p ≡ true → p ≡ []
root_empty [] e = refl
root_empty (n ∷ p) e = absurd (true≢false (sym e))

front_of_child : (q : Path) (n : Name) (p : Path) → is_parent q (n ∷ p) ≡ true → q ≡ take (length p) (n ∷ p)
front_of_child [] n p e = ap (λ r. take (length r) (n ∷ r)) (sym (root_empty p e))
front_of_child (m ∷ q) n [] e = absurd (true≢false (sym (and_parts (same_name m n) false e).1))
front_of_child (m ∷ q) n (k ∷ p) e = let h = and_parts (same_name m n) _ e in λ i. same_name-is m n h.0 i ∷ front_of_child q k p h.1 i

front_is_parent : (n : Name) (p : Path) → is_parent (take (length p) (n ∷ p)) (n ∷ p) ≡ true
front_is_parent n [] = refl
front_is_parent n (m ∷ p) = both_true (same_name-itself n) (front_is_parent m p)

pub no_parent_of_root : (q : Path) → is_parent q [] ≡ true → ⊥
no_parent_of_root [] e = true≢false (sym e)
no_parent_of_root (n ∷ q) e = true≢false (sym e)

below_root : (q p : Path) → is_parent q p ≡ true → is_root p ≡ false
below_root q [] e = absurd (no_parent_of_root q e)
below_root q (n ∷ p) e = refl

-- a parent's path is its child's without the last name
pub parent_is_front : (q p : Path) → is_parent q p ≡ true → q ≡ take (length p - 1) p
parent_is_front q [] e = absurd (no_parent_of_root q e)
parent_is_front q (n ∷ p) e =
    let k : suc (length p) - 1 ≡ length p = omega arith in
    front_of_child q n p e ∙ ap (λ i. take i (n ∷ p)) (sym k)

pub front_has_child : (p : Path) → is_root p ≡ false → is_parent (take (length p - 1) p) p ≡ true
front_has_child [] e = absurd (true≢false e)
front_has_child (n ∷ p) e =
    let k : suc (length p) - 1 ≡ length p = omega arith in
    ap (λ i. is_parent (take i (n ∷ p)) (n ∷ p)) k ∙ front_is_parent n p

-- of a path one name longer, what it begins with is the parent
pub parent_by_prefix : (q p : Path) → length p - length q ≡ 1 → is_prefix q p ≡ is_parent q p
parent_by_prefix [] [] e = absurd (omega arith)
parent_by_prefix [] (m ∷ []) e = refl
parent_by_prefix [] (m ∷ k ∷ p) e = absurd (omega arith)
parent_by_prefix (n ∷ q) [] e = refl
parent_by_prefix (n ∷ q) (m ∷ p) e = ap (λ b. same_name n m && b) (parent_by_prefix q p (omega arith))

and_false : (b : Bool) → (b && false) ≡ false
and_false true = refl
and_false false = refl

-- and of another one nothing is
pub no_parent_by_depth : (q p : Path) → (length p - length q ≡ 1 → ⊥) → is_parent q p ≡ false
no_parent_by_depth [] [] h = refl
no_parent_by_depth (n ∷ q) [] h = refl
no_parent_by_depth [] (m ∷ []) h = absurd (h (omega arith))
no_parent_by_depth [] (m ∷ k ∷ p) h = refl
no_parent_by_depth (n ∷ q) (m ∷ p) h = ap (λ b. same_name n m && b) (no_parent_by_depth q p (λ e. h (omega arith))) ∙ and_false (same_name n m)

-- ---- what holds of each entry holds where the map answers

module _ {K X : Type 0} {R : K → K → Ordering} (o : IsTotalOrder R) (same : IsAntisymmetric R) (P : K → X → Type 0) where
  each_found : (es : List (K × X)) → AllByRecursion (λ e. P e.0 e.1) es → (q : K) (v : X) → find R q es ≡ Some v → P q v
  each_found [] h q v e = absurd (none-some v e)
  each_found (x ∷ es) h q v e = elim (eq_by_cmp R q x.0) as (λ b. eq_by_cmp R q x.0 ≡ b → cond b (Some x.1) (find R q es) ≡ Some v → P q v) [
    | true ↦ λ is e. subst (λ k. P k v) (sym (is_same o same q x.0 is)) (subst (P x.0) (same_Some x.1 v e) h.0)
    | false ↦ λ is e. each_found es h.1 q v e
  ] refl e

  pub each_answer : (es : List (K × X)) (m : FiniteMap R X) → from_entries R es ≡ m → AllByRecursion (λ e. P e.0 e.1) es → (q : K) (v : X) → get m q ≡ Some v → P q v
  each_answer es m is h q v e = each_found es h q v (sym (get-from_entries o same es q) ∙ ap (λ n. get n q) is ∙ e)

-- ---- the parts and the whole

pub sound_of : (T : Tree) → is_empty_set T.online ≡ false → HasSoundRoot T → HasSoundPlaces T → HasSoundGroups T → Sound T
sound_of T online root places groups = record {
  root = root;
  child = λ p q s is at. groups q s at p is;
  process = places;
  online = online;
}

pub sound_groups : (T : Tree) → Sound T → HasSoundGroups T
sound_groups T h = λ q s at p is. h.child p q s is at

pub child_by : (u s : Settings) → is_within s.control u.control ≡ true → (is_empty_set s.cpus ≡ false → u.control.cpuset ≡ true) → IsChildOf u s
child_by u s w h = record { control = within s.control u.control w; cpus = h }

pub root_by : (T : Tree) (s : Settings) → is_within s.control T.controllers ≡ true → s.freeze ≡ false → is_empty_set s.cpus ≡ true → IsRootOf T s
root_by T s w f e = record { control = within s.control T.controllers w; freeze = f; cpus = e }

pub root_is : (T : Tree) (s : Settings) (r : Bool) → group T [] ≡ Some s → (IsTrue r ↔ IsRootOf T s) → IsTrue r ↔ HasSoundRoot T
root_is T s r e h = (
  λ t. (s, e, h.0 t),
  λ g. h.1 (subst (IsRootOf T) (same_Some _ _ (sym g.1 ∙ e)) g.2),
)

-- where the path without its last name is that of a group with settings u
pub group_is : (T : Tree) (p : Path) (s u : Settings) (r : Bool) → is_root p ≡ false → group T (take (length p - 1) p) ≡ Some u → (IsTrue r ↔ IsChildOf u s) → IsTrue r ↔ IsSoundGroup T p s
group_is T p s u r below e h = (
  λ t q is. (u, ap (group T) (parent_is_front q p is) ∙ e, h.0 t),
  λ g. let x = g (take (length p - 1) p) (front_has_child p below) in h.1 (subst (λ v. IsChildOf v s) (same_Some _ _ (sym x.1 ∙ e)) x.2),
)

-- where a parent has the settings u
pub parent_is : (T : Tree) (p : Path) (s : Settings) (q : Path) (u : Settings) (r : Bool) → HasParent T q u p → (IsTrue r ↔ IsChildOf u s) → IsTrue r ↔ IsSoundGroup T p s
parent_is T p s q u r h child = group_is T p s u r (below_root q p h.1) (ap (group T) (sym (parent_is_front q p h.1)) ∙ h.0) child

pub no_parent : (T : Tree) (p : Path) (s : Settings) → is_root p ≡ false → HasNoParent T p → IsSoundGroup T p s → ⊥
no_parent T p s below none g =
    let front : Path = take (length p - 1) p in
    let x = g front (front_has_child p below) in none-some _ (sym (none front (front_has_child p below)) ∙ x.1)

pub only_none : {X : Type 0} (o : Option X) → ((x : X) → o ≡ Some x → ⊥) → o ≡ None
only_none None h = refl
only_none (Some x) h = absurd (h x refl)

pub some_is : {X : Type 0} (P : X → Type 0) (o : Option X) (x : X) → o ≡ Some x → IfSome o P → P x
some_is P o x e h = subst (λ o. IfSome o P) e h

-- ---- the paths where processes may be

-- a process may be in a group by the settings of that
pub place_is : (T : Tree) (p : Path) (s : Settings) (b : Bool) → group T p ≡ Some s → b ≡ admits p s → IsTrue b ↔ IsSoundPlace T p
place_is T p s b at is = (
  λ t. (s, at, sym is ∙ t),
  λ h. is ∙ ap (admits p) (same_Some s h.0 (sym at ∙ h.1)) ∙ h.2,
)

-- ---- and those paths collected group by group

-- the references lead to the path of each of the groups that may have processes
abbrev LeadToAll : List (Bor Path) → List (Path × Settings) → Type 0
LeadToAll ps es = AllByRecursion (λ e. admits e.0 e.1 ≡ true → leads_to ps e.0 ≡ true) es

-- the references lead to no other paths, and to all once they also lead to those of the groups that are left
pub record Collects (T : Tree) (ps : List (Bor Path)) (es : List (Path × Settings)) : Type 0 where
  pub right : (p : Path) → leads_to ps p ≡ true → IsSoundPlace T p
  pub whole : (more : List (Bor Path)) → ((p : Path) → leads_to ps p ≡ true → leads_to more p ≡ true) → LeadToAll more es → (p : Path) → IsSoundPlace T p → leads_to more p ≡ true

pub collects_first : (T : Tree) (ps : List (Bor Path)) (es : List (Path × Settings)) → ps ≡ [] → from_entries path_cmp es ≡ T.groups → Collects T ps es
collects_first T ps es none is = record {
  right = λ p e. absurd (true≢false (sym e ∙ ap (λ l. leads_to l p) none));
  whole = λ more _ all p place. each_answer path_cmp_total path_cmp_exact (λ q s. admits q s ≡ true → leads_to more q ≡ true) es T.groups is all p place.0 place.1 place.2;
}

pub collects_without : (T : Tree) (ps : List (Bor Path)) (p : Path) (s : Settings) (es : List (Path × Settings)) → Collects T ps ((p, s) ∷ es) → admits p s ≡ false → Collects T ps es
collects_without T ps p s es h barred = record {
  right = h.right;
  whole = λ more covers all. h.whole more covers ((λ may. absurd (true≢false (sym may ∙ barred))), all);
}

pub collects_with : (T : Tree) (ps new : List (Bor Path)) (p : Path) (s : Settings) (es : List (Path × Settings)) → Collects T ps ((p, s) ∷ es) → group T p ≡ Some s → admits p s ≡ true
    → ((q : Path) → leads_to new q ≡ cond (pointwise (pointwise nat_eq) p q) true (leads_to ps q)) → Collects T new es
collects_with T ps new p s es h at may added = record {
  right = λ q e. by q (pointwise (pointwise nat_eq) p q) refl (sym (added q) ∙ e);
  whole = λ more covers all. h.whole more (λ q e. covers q (added q ∙ kept (pointwise (pointwise nat_eq) p q) e)) ((λ _. covers p (added p ∙ ap (λ b. cond b true (leads_to ps p)) ((pointwise_decides bytes_decides p p).1 refl))), all);
}
  where
    by : (q : Path) (b : Bool) → pointwise (pointwise nat_eq) p q ≡ b → cond b true (leads_to ps q) ≡ true → IsSoundPlace T q
    by q true is e = subst (IsSoundPlace T) ((pointwise_decides bytes_decides p q).0 is) (s, at, may)
    by q false is e = h.right q e

    kept : {r : Bool} (b : Bool) → r ≡ true → cond b true r ≡ true
    kept true e = refl
    kept false e = e

pub collects_all : (T : Tree) (ps : List (Bor Path)) → Collects T ps [] → AreSoundPlaces T ps
collects_all T ps h p = (h.right p, h.whole ps (λ _ e. e) tt p)
