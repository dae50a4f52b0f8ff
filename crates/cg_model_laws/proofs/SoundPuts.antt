-- One put keeps a tree sound: of a group that suits its neighbours, and of a process whose group admits it.
use Rattle.std.proofs.Common.{◌≡◌, ℕ, true, false, not, ◌||◌, [], inl, inr, refl, sym, ap, subst, ◌∙◌, Option, Some}
use Rattle.std.specs.Cmp.{nat_cmp_total}
use Rattle.std.specs.FinMap.{nat_cmp-IsAntisymmetric}
use Rattle.std.proofs.lemmas.Option.{same_Some}
use Rattle.cg_maps.specs.FiniteMap.{empty, is_nonempty}
use Rattle.cg_maps.specs.FiniteSet.{is_empty_set}
use Rattle.cg_maps.proofs.Maps as maps
use Rattle.cg_maps.proofs.Sets.{members-no_members}
use Rattle.cg_name.specs.Path.{Path, is_root, is_parent}
use Rattle.cg_text.specs.Controllers.{IsWithin, is_no_controllers}
use Rattle.cg_text.specs.declared.controllers.Controllers.{Controllers}
use Rattle.cg_text.specs.declared.settings.Settings.{Settings}
use Rattle.cg_model.specs.Tree.{Tree, group, place_of}
use Rattle.cg_model.specs.Sound.{IsChildOf, IsRootOf, admits, Sound}
use Rattle.cg_model.specs.Key.{Field, Control, Setting, with_setting, Part, put, part_replaced}
use Rattle.cg_model_laws.proofs.Paths.{path_cases}
use Rattle.cg_model_laws.proofs.Keys.{with_group, with_place, group_here, group_apart, place_here, place_apart}
use Rattle.cg_model_laws.proofs.Parents.{parent_differs}

-- what the group p is to become suits the machine, the parent, the children and the processes
pub record Suits (T : Tree) (p : Path) (v : Option Settings) : Type 0 where
  pub root : p ≡ [] → (s : Settings) × (v ≡ Some s) × IsRootOf T s
  pub parent : (q : Path) (s : Settings) → is_parent q p ≡ true → v ≡ Some s → (u : Settings) × (group T q ≡ Some u) × IsChildOf u s
  pub children : (q : Path) (s : Settings) → is_parent p q ≡ true → group T q ≡ Some s → (u : Settings) × (v ≡ Some u) × IsChildOf u s
  pub processes : (k : ℕ) → place_of T k ≡ Some p → (s : Settings) × (v ≡ Some s) × (admits p s ≡ true)

pub no_members_is_empty : is_empty_set empty ≡ true
no_members_is_empty = ap (λ ns. not (is_nonempty ns)) members-no_members

put_there : (T : Tree) (p : Path) (v : Option Settings) (q : Path) → q ≡ p → group (with_group T p v) q ≡ v
put_there T p v q is = ap (group (with_group T p v)) is ∙ group_here T p v

-- of the tree only the machine's controllers count for the root's settings
pub same_root : (T U : Tree) (s : Settings) → T.controllers ≡ U.controllers → IsRootOf T s → IsRootOf U s
same_root T U s e r = record { control = subst (λ a. IsWithin s.control a) e r.control; freeze = r.freeze; cpus = r.cpus }

module _ (T : Tree) (sound : Sound T) where
  pub put_group : (p : Path) (v : Option Settings) → Suits T p v → Sound (with_group T p v)
  put_group p v h = record {
    root = elim (path_cases p []) [
      | inl is ↦ let (s, e, r) = h.root is in (s, put_there T p v [] (sym is) ∙ e, same_root T _ s refl r)
      | inr ne ↦ let (s, e, r) = sound.root in (s, group_apart T p v [] (λ is. ne (sym is)) ∙ e, same_root T _ s refl r)
    ];
    child = λ a q s e g. elim (path_cases q p) [
      | inl is ↦
          let new : v ≡ Some s = sym (put_there T p v q is) ∙ g in
          let (u, k, r) = h.parent a s (subst (λ x. is_parent a x ≡ true) is e) new in
          (u, group_apart T p v a (λ same. parent_differs a q e (same ∙ sym is)) ∙ k, r)
      | inr ne ↦
          let old : group T q ≡ Some s = sym (group_apart T p v q ne) ∙ g in
          elim (path_cases a p) [
            | inl is ↦ let (u, k, r) = h.children q s (subst (λ x. is_parent x q ≡ true) is e) old in (u, put_there T p v a is ∙ k, r)
            | inr apart ↦ let (u, k, r) = sound.child a q s e old in (u, group_apart T p v a apart ∙ k, r)
          ]
    ];
    process = λ k a e. elim (path_cases a p) [
      | inl is ↦
          let (s, g, r) = h.processes k (e ∙ ap Some is) in
          (s, put_there T p v a is ∙ g, subst (λ x. admits x s ≡ true) (sym is) r)
      | inr ne ↦ let (s, g, r) = sound.process k a e in (s, group_apart T p v a ne ∙ g, r)
    ];
    online = sound.online;
  }

  pub put_place : (k : ℕ) (o : Option Path) → ((p : Path) → o ≡ Some p → (s : Settings) × (group T p ≡ Some s) × (admits p s ≡ true)) → Sound (with_place T k o)
  put_place k o h = record {
    root = let (s, e, r) = sound.root in (s, e, same_root T _ s refl r);
    child = sound.child;
    process = λ j a e. elim (maps.cases nat_cmp_total nat_cmp-IsAntisymmetric j k) [
      | inl is ↦ h a (sym (place_here T k o) ∙ subst (λ x. place_of (with_place T k o) x ≡ Some a) is e)
      | inr ne ↦ sound.process j a (sym (place_apart T k o j ne) ∙ e)
    ];
    online = sound.online;
  }

  -- ---- a setting of a group that is there
  module _ (p : Path) (s : Settings) (e : group T p ≡ Some s) where
    pub own_root : p ≡ [] → IsRootOf T s
    own_root is = let (u, g, r) = sound.root in subst (IsRootOf T) (same_Some u s (sym g ∙ ap (group T) (sym is) ∙ e)) r

    pub own_parent : (q : Path) (u : Settings) → is_parent q p ≡ true → group T q ≡ Some u → IsChildOf u s
    own_parent q u a g = let (x, k, r) = sound.child q p s a e in subst (λ y. IsChildOf y s) (same_Some x u (sym k ∙ g)) r

    pub own_child : (q : Path) (x : Settings) → is_parent p q ≡ true → group T q ≡ Some x → IsChildOf s x
    own_child q x a g = let (u, k, r) = sound.child p q x a g in subst (λ y. IsChildOf y x) (same_Some u s (sym k ∙ e)) r

    pub own_process : (k : ℕ) → place_of T k ≡ Some p → admits p s ≡ true
    own_process k g = let (u, h, r) = sound.process k p g in subst (λ y. admits p y ≡ true) (same_Some u s (sym h ∙ e)) r

    pub put_part : (f : Field) (v : Setting f) → Suits T p (Some (with_setting f v s)) → Sound (put (Part p f) (Some v) T)
    put_part f v h = subst (λ o. Sound (with_group T p (part_replaced f (Some v) o))) (sym e) (put_group p (Some (with_setting f v s)) h)

    -- the control stays, and where CPUs are asked for the parent passes on cpuset
    pub same_control : (t : Settings) → t.control ≡ s.control
        → ((q : Path) (u : Settings) → is_parent q p ≡ true → group T q ≡ Some u → is_empty_set t.cpus ≡ false → u.control.cpuset ≡ true)
        → (p ≡ [] → (t.freeze ≡ false) × (is_empty_set t.cpus ≡ true))
        → Suits T p (Some t)
    same_control t same cpus root = record {
      root = λ is. (t, refl, record { control = subst (λ c. IsWithin c T.controllers) (sym same) (own_root is).control; freeze = (root is).0; cpus = (root is).1 });
      parent = λ q x a v.
          let (u, g, r) = sound.child q p s a e in
          (u, g, subst (IsChildOf u) (same_Some t x v) (record { control = subst (λ c. IsWithin c u.control) (sym same) r.control; cpus = cpus q u a g }));
      children = λ q x a g.
          let r = own_child q x a g in
          (t, refl, record { control = subst (λ c. IsWithin x.control c) (sym same) r.control; cpus = λ n. ap (λ c. c.cpuset) same ∙ r.cpus n });
      processes = λ k g. (t, refl, ap (λ c. is_root p || is_no_controllers c) same ∙ own_process k g);
    }

    -- neither the control nor the CPUs change
    pub same_control_and_cpus : (t : Settings) → t.control ≡ s.control → t.cpus ≡ s.cpus → (p ≡ [] → t.freeze ≡ false) → Suits T p (Some t)
    same_control_and_cpus t control cpus freeze =
        same_control t control (λ q u a g n. (own_parent q u a g).cpus (ap is_empty_set (sym cpus) ∙ n)) (λ is. (freeze is, ap is_empty_set cpus ∙ (own_root is).cpus))

    -- a new control that the parent and the children bear
    pub put_control : (t : Controllers)
        → ((q : Path) (u : Settings) → is_parent q p ≡ true → group T q ≡ Some u → IsWithin t u.control)
        → (p ≡ [] → IsWithin t T.controllers)
        → ((q : Path) (x : Settings) → is_parent p q ≡ true → group T q ≡ Some x → IsWithin x.control t × (is_empty_set x.cpus ≡ false → t.cpuset ≡ true))
        → ((k : ℕ) → place_of T k ≡ Some p → (is_root p || is_no_controllers t) ≡ true)
        → Sound (put (Part p Control) (Some t) T)
    put_control t up top down processes = put_part Control t (record {
      root = λ is. let r = own_root is in (record s { control = t }, refl, record { control = top is; freeze = r.freeze; cpus = r.cpus });
      parent = λ q x a v.
          let (u, g, r) = sound.child q p s a e in
          (u, g, subst (IsChildOf u) (same_Some (with_setting Control t s) x v) (record { control = up q u a g; cpus = r.cpus }));
      children = λ q x a g. (record s { control = t }, refl, record { control = (down q x a g).0; cpus = (down q x a g).1 });
      processes = λ k g. (record s { control = t }, refl, processes k g);
    })
