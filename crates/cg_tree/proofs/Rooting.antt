-- What holds of every tree with room stays so, whatever is put in.
use Rattle.std.proofs.Common.{◌≡◌, ◌≢◌, ℕ, true, false, not, ◌&&◌, inl, inr, ◌⊎◌, [], ◌∷◌, Option, Some, None, IsSome, IfSome, is_some, refl, sym, ap, subst, ◌∙◌}
use Rattle.std.proofs.lemmas.Bool.{false≢true}
use Rattle.std.proofs.lemmas.Option.{none-some, same_Some}
use Rattle.std.specs.Cmp.{nat_cmp_total}
use Rattle.std.specs.FinMap.{nat_cmp-IsAntisymmetric}
use Rattle.cg_maps.specs.FiniteMap.{FiniteMap, get, set_at, domain}
use Rattle.cg_maps.proofs.Maps.{cases, get_here, get_apart, set_same}
use Rattle.cg_name.specs.Path.{Path, path_cmp, IsPath, is_above, is_root}
use Rattle.cg_name.specs.Order.{path_cmp_total, path_cmp_exact}
use Rattle.cg_text.specs.declared.settings.Settings.{Settings}
use Rattle.cg_model.specs.Key.{replaced}
use Rattle.cg_model.specs.Room.{MaySweep}
use Rattle.cg_model.specs.Sound.{Sound}
use Rattle.cg_model.specs.Tree.{Tree, group, place_of, parent_group}
use Rattle.cg_world.specs.Representable.{AreCpusUpTo, IsPid, IsRepresentable}
use Rattle.cg_tree.specs.Room.{TreeWithRoom, has_entry, may_have_entry, IsRooted, MaySweepIfDead}
use Rattle.cg_tree.proofs.Prefixes.{from_parents, above_child}
use Rattle.cg_tree.proofs.Presence.{is_some-domain}

abbrev pub with_group : TreeWithRoom → Path → Option Settings → TreeWithRoom
with_group t p s = record { tree = record t.tree { groups = set_at t.tree.groups p s }; entries = t.entries }

abbrev pub with_place : TreeWithRoom → ℕ → Path → TreeWithRoom
with_place t k p = record { tree = record t.tree { places = set_at t.tree.places k (replaced (place_of t.tree k) (Some p)) }; entries = t.entries }

abbrev pub with_entries : TreeWithRoom → FiniteMap path_cmp (Unit {0}) → TreeWithRoom
with_entries t E = record { tree = t.tree; entries = E }

some_of : {A : Type 0} (w : Option A) → is_some w ≡ true → (x : A) × (w ≡ Some x)
some_of None e = absurd (false≢true e)
some_of (Some x) e = (x, refl)

pub group_put : (t : TreeWithRoom) (p : Path) (s : Option Settings) → IsRooted t → IsPath p → IfSome s (λ v. AreCpusUpTo 1023 v.cpus) → (IsSome s → has_entry t p ≡ true) → IsRooted (with_group t p s)
group_put t p s h path low room = record {
  valid = record {
    online = h.valid.online;
    groups = λ q x is. elim (cases path_cmp_total path_cmp_exact q p) [
      | inl e ↦
          let here : s ≡ Some x = sym (get_here path_cmp_total path_cmp_exact t.tree.groups p s) ∙ ap (get (set_at t.tree.groups p s)) (sym e) ∙ is in
          (subst IsPath (sym e) path, subst (λ y. IfSome y (λ v. AreCpusUpTo 1023 v.cpus)) here low)
      | inr ne ↦ h.valid.groups q x (sym (get_apart path_cmp_total path_cmp_exact t.tree.groups p s q ne) ∙ is)
    ];
    processes = h.valid.processes;
  };
  groups = λ q some. elim (cases path_cmp_total path_cmp_exact q p) [
    | inl e ↦
        let here : is_some s ≡ true = ap is_some (sym (get_here path_cmp_total path_cmp_exact t.tree.groups p s) ∙ ap (get (set_at t.tree.groups p s)) (sym e)) ∙ some in
        subst (λ r. has_entry t r ≡ true) (sym e) (room here)
    | inr ne ↦ h.groups q (ap is_some (sym (get_apart path_cmp_total path_cmp_exact t.tree.groups p s q ne)) ∙ some)
  ];
  places = h.places;
  above = h.above;
}

module _ (t : TreeWithRoom) (k : ℕ) (p : Path) (h : IsRooted t) where
  -- a process is where it was put, or where it was
  placed : (l : ℕ) (q : Path) → place_of (with_place t k p).tree l ≡ Some q → (place_of t.tree l ≡ Some q) ⊎ ((l ≡ k) × (q ≡ p) × (is_some (place_of t.tree k) ≡ true))
  placed l q is = elim (cases nat_cmp_total nat_cmp-IsAntisymmetric l k) [
    | inl e ↦ inr (at e (place_of t.tree k) refl (sym (get_here nat_cmp_total nat_cmp-IsAntisymmetric t.tree.places k _) ∙ ap (place_of (with_place t k p).tree) (sym e) ∙ is))
    | inr ne ↦ inl (sym (get_apart nat_cmp_total nat_cmp-IsAntisymmetric t.tree.places k _ l ne) ∙ is)
  ]
    where
      at : l ≡ k → (w : Option Path) → place_of t.tree k ≡ w → replaced w (Some p) ≡ Some q → (l ≡ k) × (q ≡ p) × (is_some (place_of t.tree k) ≡ true)
      at e None was to = absurd (none-some _ to)
      at e (Some r) was to = (e, sym (same_Some _ _ to), ap is_some was)

  pub place_put : IsPath p → has_entry t p ≡ true → IsRooted (with_place t k p)
  place_put path room = record {
    valid = record {
      online = h.valid.online;
      groups = h.valid.groups;
      processes = λ l q is. elim (placed l q is) [
        | inl old ↦ h.valid.processes l q old
        | inr new ↦
            let before = some_of (place_of t.tree k) new.2 in
            (subst IsPid (sym new.0) (h.valid.processes k before.0 before.1).0, subst IsPath (sym new.1) path)
      ];
    };
    groups = h.groups;
    places = λ l q is. elim (placed l q is) [
      | inl old ↦ h.places l q old
      | inr new ↦ subst (λ r. has_entry t r ≡ true) (sym new.1) room
    ];
    above = h.above;
  }

module _ (t : TreeWithRoom) (p : Path) (h : IsRooted t) where
  abbrev pub entry_added : TreeWithRoom
  entry_added = with_entries t (set_at t.entries p (Some tt))

  pub added_here : has_entry entry_added p ≡ true
  added_here = ap is_some (get_here path_cmp_total path_cmp_exact t.entries p (Some tt))

  stays : (q : Path) → has_entry t q ≡ true → has_entry entry_added q ≡ true
  stays q e = elim (cases path_cmp_total path_cmp_exact q p) [
    | inl same ↦ subst (λ r. has_entry entry_added r ≡ true) (sym same) added_here
    | inr ne ↦ ap is_some (get_apart path_cmp_total path_cmp_exact t.entries p (Some tt) q ne) ∙ e
  ]

  above_new : may_have_entry t.tree p ≡ true → (q : Path) → is_above q p ≡ true → has_entry t q ≡ true
  above_new may q e = at p refl
    where
      at : (r : Path) → p ≡ r → has_entry t q ≡ true
      at [] is = absurd (false≢true (subst (λ r. is_above q r ≡ true) is e))
      at (n ∷ r) is = above_child (group t.tree) (λ r. has_entry t r ≡ true) h.groups h.above q p e (subst (λ x. is_root x ≡ false → is_some (parent_group t.tree x) ≡ true) (sym is) (λ _. subst (λ x. may_have_entry t.tree x ≡ true) is may) (ap is_root is))

  pub entry_put : may_have_entry t.tree p ≡ true → IsRooted entry_added
  entry_put may = record {
    valid = h.valid;
    groups = λ q e. stays q (h.groups q e);
    places = λ k q e. stays q (h.places k q e);
    above = λ q r a e. elim (cases path_cmp_total path_cmp_exact r p) [
      | inl same ↦ stays q (above_new may q (subst (λ x. is_above q x ≡ true) same a))
      | inr ne ↦ stays q (h.above q r a (ap is_some (sym (get_apart path_cmp_total path_cmp_exact t.entries p (Some tt) r ne)) ∙ e))
    ];
  }

abbrev pub entry_dropped : TreeWithRoom → Path → TreeWithRoom
entry_dropped t p = with_entries t (set_at t.entries p None)

module _ (t : TreeWithRoom) (p : Path) (h : IsRooted t) (may : MaySweep t.tree (has_entry t) p) where
  kept : (q : Path) → q ≢ p → has_entry t q ≡ true → has_entry (entry_dropped t p) q ≡ true
  kept q ne e = ap is_some (get_apart path_cmp_total path_cmp_exact t.entries p None q ne) ∙ e

  was : (q : Path) → has_entry (entry_dropped t p) q ≡ true → (q ≢ p) × (has_entry t q ≡ true)
  was q e = elim (cases path_cmp_total path_cmp_exact q p) [
    | inl same ↦ absurd (false≢true (ap is_some (sym (get_here path_cmp_total path_cmp_exact t.entries p None)) ∙ subst (λ r. has_entry (entry_dropped t p) r ≡ true) same e))
    | inr ne ↦ (ne, ap is_some (sym (get_apart path_cmp_total path_cmp_exact t.entries p None q ne)) ∙ e)
  ]

  pub entry_swept : IsRooted (entry_dropped t p)
  entry_swept = record {
    valid = h.valid;
    groups = λ q e. kept q (λ same. false≢true (ap is_some (sym may.dead) ∙ subst (λ r. is_some (group t.tree r) ≡ true) same e)) (h.groups q e);
    places = λ k q e. kept q (λ same. may.unused k (e ∙ ap Some same)) (h.places k q e);
    above = λ q r a e.
        let before = was r e in
        kept q (λ same. false≢true (sym (may.below r (subst (λ x. is_above x r ≡ true) same a)) ∙ before.1)) (h.above q r a before.1);
  }

-- the same where there may be no entry
pub entry_swept_if_dead : (t : TreeWithRoom) (p : Path) → IsRooted t → group t.tree p ≡ None → MaySweepIfDead t p → IsRooted (entry_dropped t p)
entry_swept_if_dead t p h none may = at (get t.entries p) refl
  where
    at : (w : Option (Unit {0})) → get t.entries p ≡ w → IsRooted (entry_dropped t p)
    at None is = subst (λ E. IsRooted (with_entries t E)) (sym (ap (set_at t.entries p) (sym is) ∙ set_same path_cmp_total path_cmp_exact t.entries p)) h
    at (Some x) is = entry_swept t p h (may (λ i. is_some (is i) && not (is_some (none i))))

-- the entries of a sound tree's groups
pub sound_rooted : (T : Tree) → Sound T → IsRepresentable T → IsRooted (record { tree = T; entries = domain T.groups })
sound_rooted T s valid = record {
  valid = valid;
  groups = λ q e. is_some-domain path_cmp_total path_cmp_exact T.groups q ∙ e;
  places = λ k q e. is_some-domain path_cmp_total path_cmp_exact T.groups q ∙ ap is_some (s.process k q e).1;
  above = from_parents (λ q. is_some (get (domain T.groups) q) ≡ true) (λ p q e there.
      let found = some_of (group T q) (sym (is_some-domain path_cmp_total path_cmp_exact T.groups q) ∙ there) in
      is_some-domain path_cmp_total path_cmp_exact T.groups p ∙ ap is_some (s.child p q found.0 e found.1).1);
}
