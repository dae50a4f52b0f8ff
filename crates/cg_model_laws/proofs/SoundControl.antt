-- Writing cgroup.subtree_control keeps a tree sound: the children's CPUs are emptied one by one, and then the control is put.
use Rattle.std.proofs.Common.{◌≡◌, ℕ, Bool, true, false, not, ◌&&◌, ◌||◌, List, [], ◌∷◌, inl, inr, refl, sym, ap, subst, ◌∙◌, Some}
use Rattle.std.specs.List.{AllByRecursion, list_any}
use Rattle.std.proofs.lemmas.Bool.{cond_both, false_from_ne_true, true_from_ne_false}
use Rattle.std.proofs.lemmas.Option.{same_Some}
use Rattle.cg_maps.specs.FiniteMap.{empty, get, is_nonempty}
use Rattle.cg_maps.specs.FiniteSet.{is_empty_set}
use Rattle.cg_maps.proofs.Maps as maps
use Rattle.cg_name.specs.Path.{Path, same_path, is_root, is_parent}
use Rattle.cg_name.specs.Order.{path_cmp_total}
use Rattle.cg_name.specs.declared.controller.Controller.{Controller}
use Rattle.cg_text.specs.Controllers.{has, IsWithin, is_no_controllers}
use Rattle.cg_text.specs.declared.control_ops.ControlOps.{ControlOps}
use Rattle.cg_text.specs.declared.controllers.Controllers.{Controllers}
use Rattle.cg_text.specs.declared.settings.Settings.{Settings}
use Rattle.cg_model.specs.Tree.{Tree, group, place_of}
use Rattle.cg_model.specs.Derived.{children, processes, available}
use Rattle.cg_model.specs.Sound.{Sound}
use Rattle.cg_model.specs.Key.{Control, Cpus, with_setting, Part, put, part_replaced}
use Rattle.cg_model.specs.Change.{Change, change, done}
use Rattle.cg_model.specs.Control.{planned, not_available, used_below, in_use, emptied, loses_cpuset, control_change, controlled}
use Rattle.cg_model_laws.proofs.Paths.{never, same_path-itself, same_path-is, path_cases}
use Rattle.cg_model_laws.proofs.Keys.{group_here, group_apart}
use Rattle.cg_model_laws.proofs.Parents.{not_its_parent, not_parents_of_each_other, parent_exists, child_facts, children_differ, child_passes, no_process, available_below, available_root}
use Rattle.cg_model_laws.proofs.ControllerSets.{has-such_that, none_passes}
use Rattle.cg_model_laws.proofs.SoundPuts.{no_members_is_empty, own_root, own_child, put_part, put_control, same_control}

-- while the CPUs of p's children are emptied: T is the tree before, U the tree by now, and es are the children still to come
record Emptying (T U : Tree) (p : Path) (es : List (Path × Settings)) : Type 0 where
  sound : Sound U
  controllers : U.controllers ≡ T.controllers
  places : U.places ≡ T.places
  others : (q : Path) → is_parent p q ≡ false → group U q ≡ group T q
  -- a child keeps its control, and has CPUs only if it is still to come
  child : (q : Path) (x : Settings) → is_parent p q ≡ true → group U q ≡ Some x
      → (y : Settings) × (group T q ≡ Some y) × (x.control ≡ y.control) × (is_empty_set x.cpus ≡ false → list_any (λ e. same_path e.0 q) es ≡ true)

not_or : (a b : Bool) → (a || b) ≡ true → a ≡ false → b ≡ true
not_or true b e f = never (sym f)
not_or false b e f = e

-- the next child has no CPUs
passed_over : (T U : Tree) (p : Path) (e : Path × Settings) (es : List (Path × Settings)) → Emptying T U p (e ∷ es)
    → group U e.0 ≡ Some e.1 → is_empty_set e.1.cpus ≡ true → Emptying T U p es
passed_over T U p e es h g none = record {
  sound = h.sound;
  controllers = h.controllers;
  places = h.places;
  others = h.others;
  child = λ q x a gx.
      let (y, gy, control, waits) = h.child q x a gx in
      let is_next : same_path e.0 q ≡ true → x ≡ e.1 = λ m. same_Some x e.1 (sym gx ∙ ap (group U) (sym (same_path-is e.0 q m)) ∙ g) in
      (y, gy, control, λ n. not_or _ _ (waits n) (false_from_ne_true (same_path e.0 q) (λ m. never (sym n ∙ ap (λ z. is_empty_set z.cpus) (is_next m) ∙ none))));
}

-- the next child loses its CPUs
emptied_next : (T U : Tree) (p : Path) (e : Path × Settings) (es : List (Path × Settings)) → Emptying T U p (e ∷ es)
    → is_parent p e.0 ≡ true → group U e.0 ≡ Some e.1 → Emptying T (put (Part e.0 Cpus) (Some empty) U) p es
emptied_next T U p e es h a g =
    let bare : Settings = with_setting Cpus empty e.1 in
    let V : Tree = put (Part e.0 Cpus) (Some empty) U in
    let put_bare : group V e.0 ≡ Some bare = group_here U e.0 _ ∙ ap (part_replaced Cpus (Some empty)) g in
    let not_root : e.0 ≡ [] → ⊥ = λ is. never (subst (λ x. is_parent p x ≡ true) is a) in
    record {
      sound = put_part U h.sound e.0 e.1 g Cpus empty (same_control U h.sound e.0 e.1 g bare refl (λ q u b k n. never (sym n ∙ no_members_is_empty)) (λ is. absurd (not_root is)));
      controllers = h.controllers;
      places = h.places;
      others = λ q n. group_apart U e.0 _ q (λ is. never (sym n ∙ subst (λ x. is_parent p x ≡ true) (sym is) a)) ∙ h.others q n;
      child = λ q x b gx. elim (path_cases q e.0) [
        | inl is ↦
            let (y, gy, control, waits) = h.child e.0 e.1 a g in
            let new : bare ≡ x = same_Some bare x (sym put_bare ∙ ap (group V) (sym is) ∙ gx) in
            (y, ap (group T) is ∙ gy, ap (λ z. z.control) (sym new) ∙ control, λ n. never (sym n ∙ ap (λ z. is_empty_set z.cpus) (sym new) ∙ no_members_is_empty))
        | inr ne ↦
            let (y, gy, control, waits) = h.child q x b (sym (group_apart U e.0 _ q ne) ∙ gx) in
            (y, gy, control, λ n. not_or _ _ (waits n) (false_from_ne_true (same_path e.0 q) (λ m. ne (sym (same_path-is e.0 q m)))))
      ];
    }

all_with : {A : Type 0} {P Q R : A → Type 0} → ((x : A) → P x → Q x → R x) → (xs : List A) → AllByRecursion P xs → AllByRecursion Q xs → AllByRecursion R xs
all_with f [] h k = tt
all_with f (x ∷ xs) h k = (f x h.0 k.0, all_with f xs h.1 k.1)

-- what holds after the last changes, wherever no child is still to come, holds after all of them
emptied_all : (T : Tree) (p : Path) (last : List Change) (P : Tree → Type 0) → ((U : Tree) → Emptying T U p [] → P (done last U))
    → (es : List (Path × Settings)) (U : Tree) → Emptying T U p es
    → AllByRecursion (λ e. is_parent p e.0 ≡ true) es → AllByRecursion (λ e. group U e.0 ≡ Some e.1) es → maps.KeysDiffer path_cmp_total es
    → P (done (emptied es last) U)
emptied_all T p last P end [] U h a g d = end U h
emptied_all T p last P end (e ∷ es) U h a g d =
    let V : Tree = put (Part e.0 Cpus) (Some empty) U in
    let rest : AllByRecursion (λ f. group V f.0 ≡ Some f.1) es = all_with (λ f ne k. group_apart U e.0 _ f.0 (λ is. ne (sym is)) ∙ k) es d.0 g.1 in
    cond_both (is_empty_set e.1.cpus) (emptied es last) (change (Part e.0 Cpus) (Some e.1.cpus) (Some empty) ∷ emptied es last) (λ cs. P (done cs U))
    (λ none. emptied_all T p last P end es U (passed_over T U p e es h g.0 none) a.1 g.1 d.1)
    (λ some. emptied_all T p last P end es V (emptied_next T U p e es h a.0 g.0) a.1 rest d.1)

-- ---- the control

-- what is planned is available, where nothing is to be enabled that is neither enabled nor available
planned_available : (s plus minus a : Bool) → ((s || plus) && not minus) ≡ true → (plus && not s && not a) ≡ false → (s ≡ true → a ≡ true) → a ≡ true
planned_available true plus minus a e n h = h refl
planned_available false plus minus true e n h = refl
planned_available false true minus false e n h = never (sym n)
planned_available false false minus false e n h = e

-- what a child uses stays planned, where nothing is to be disabled that a child uses
used_planned : (s plus minus used : Bool) → s ≡ true → used ≡ true → (minus && s && used) ≡ false → ((s || plus) && not minus) ≡ true
used_planned true plus true true a b n = never (sym n)
used_planned true plus false true a b n = refl
used_planned true plus minus false a b n = never b
used_planned false plus minus used a b n = never a

stays : (s t : Bool) → s ≡ true → (s && not t) ≡ false → t ≡ true
stays s true e n = refl
stays true false e n = sym n
stays false false e n = e

-- a group that has processes is the root, or is to pass on no controllers
not_refused : (root some_process no_control : Bool) → (not root && some_process && not no_control) ≡ false → some_process ≡ true → (root || no_control) ≡ true
not_refused true some_process no_control n h = refl
not_refused false some_process true n h = refl
not_refused false true false n h = sym n
not_refused false false false n h = h

module _ (T : Tree) (sound : Sound T) where
  control_available : (p : Path) (s : Settings) (a : Controllers) → group T p ≡ Some s → available T p ≡ Some a → IsWithin s.control a
  control_available [] s a e v c h = subst (λ x. has x c ≡ true) (same_Some T.controllers a (sym (available_root T s e) ∙ v)) ((own_root T sound [] s e refl).control c h)
  control_available (n ∷ p) s a e v c h =
      let (q, k) = parent_exists n p in
      let (u, g, r) = sound.child q (n ∷ p) s k e in
      subst (λ x. has x c ≡ true) (same_Some u.control a (sym (available_below T (n ∷ p) q s u e k g) ∙ v)) (r.control c h)

  -- the new control t is available, the children bear it, and p may have its processes
  module _ (p : Path) (s : Settings) (a t : Controllers) (e : group T p ≡ Some s) (v : available T p ≡ Some a)
      (inside : IsWithin t a)
      (children_inside : (q : Path) (y : Settings) → is_parent p q ≡ true → group T q ≡ Some y → IsWithin y.control t)
      (internal : (k : ℕ) → place_of T k ≡ Some p → (is_root p || is_no_controllers t) ≡ true) where
    control_put : (U : Tree) (es : List (Path × Settings)) → Emptying T U p es
        → ((q : Path) (x : Settings) → is_parent p q ≡ true → group U q ≡ Some x → is_empty_set x.cpus ≡ false → t.cpuset ≡ true)
        → Sound (put (Part p Control) (Some t) U)
    control_put U es h cpus = put_control U h.sound p s (h.others p (not_its_parent p) ∙ e) t
        (λ q u b g.
        let offered : a ≡ u.control = same_Some a u.control (sym v ∙ available_below T p q s u e b (sym (h.others q (not_parents_of_each_other p q b)) ∙ g)) in
        λ c k. subst (λ x. has x c ≡ true) offered (inside c k))
        (λ is.
        let offered : a ≡ T.controllers = same_Some a T.controllers (sym v ∙ ap (available T) is ∙ available_root T s (ap (group T) (sym is) ∙ e)) in
        λ c k. subst (λ x. has x c ≡ true) (offered ∙ sym h.controllers) (inside c k))
        (λ q x b g. let (y, gy, control, waits) = h.child q x b g in (λ c k. children_inside q y b gy c (subst (λ z. has z c ≡ true) control k), cpus q x b g))
        (λ k g. internal k (ap (λ m. get m k) (sym h.places) ∙ g))

    none_emptied : Emptying T T p (children T p)
    none_emptied = record {
      sound = sound;
      controllers = refl;
      places = refl;
      others = λ q n. refl;
      child = λ q x b g. (x, g, refl, λ n. child_passes T p q x (λ f. same_path f.0 q) b g (same_path-itself q));
    }

    controlled_sound : Sound (done (controlled p s.control t (children T p)) T)
    controlled_sound =
        let last : List Change = control_change p s.control t in
        let of_p : AllByRecursion (λ f. is_parent p f.0 ≡ true) (children T p) = maps.all_map (λ f h. h.0) _ (child_facts T p) in
        let there : AllByRecursion (λ f. group T f.0 ≡ Some f.1) (children T p) = maps.all_map (λ f h. h.1) _ (child_facts T p) in
        cond_both (loses_cpuset s.control t) (children T p) [] (λ es. Sound (done (emptied es last) T))
        (λ lost. emptied_all T p last Sound (λ U h. control_put U [] h (λ q x b g n. never ((h.child q x b g).3 n))) (children T p) T none_emptied of_p there (children_differ T p))
        (λ kept. control_put T (children T p) none_emptied (λ q x b g n. stays s.control.cpuset t.cpuset ((own_child T sound p s e q x b g).cpus n) kept))

  -- where no refusal applies
  pub unrefused_sound : (p : Path) (ops : ControlOps) (s : Settings) (a : Controllers) → group T p ≡ Some s → available T p ≡ Some a
      → not_available a s.control ops ≡ [] → in_use s.control ops (used_below (children T p)) ≡ []
      → (not (is_root p) && is_nonempty (processes T p) && not (is_no_controllers (planned s.control ops))) ≡ false
      → Sound (done (controlled p s.control (planned s.control ops) (children T p)) T)
  unrefused_sound p ops s a e v none_missing none_used no_internal =
      let old : Controller → Bool = has s.control in
      let plus : Controller → Bool = has ops.plus in
      let minus : Controller → Bool = has ops.minus in
      let after : Controller → Bool = λ c. (old c || plus c) && not (minus c) in
      let missing : Controller → Bool = λ c. plus c && not (old c) && not (has a c) in
      let taken : Controller → Bool = λ c. list_any (λ e. has e.1.control c) (children T p) in
      let used : Controller → Bool = λ c. minus c && old c && has (used_below (children T p)) c in
      controlled_sound p s a (planned s.control ops) e v
      (λ c h. planned_available (old c) (plus c) (minus c) (has a c) (sym (has-such_that after c) ∙ h) (none_passes missing none_missing c) (control_available p s a e v c))
      (λ q y b g c h.
      let own : old c ≡ true = (own_child T sound p s e q y b g).control c h in
      let by_child : has (used_below (children T p)) c ≡ true = has-such_that taken c ∙ child_passes T p q y (λ f. has f.1.control c) b g h in
      has-such_that after c ∙ used_planned (old c) (plus c) (minus c) (has (used_below (children T p)) c) own by_child (none_passes used none_used c))
      (λ k g. not_refused (is_root p) _ _ no_internal (true_from_ne_false (is_nonempty (processes T p)) (λ none. no_process T p k none g)))
