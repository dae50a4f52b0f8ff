-- How many groups right below pass on a controller, as settings are put at a node.
use Rattle.std.proofs.Common.{◌≡◌, ◌+◌, ◌<◌, ◌≤◌, ◌^◌, ◌&&◌, ◌||◌, ℕ, Bool, true, false, not, cond, nat_lt, List, [], ◌∷◌, filter, Option, Some, None, option_map, is_some, refl, sym, ap, subst, ◌∙◌, arith}
use Rattle.std.specs.Bool.{Decides}
use Rattle.std.specs.Cmp.{booleans_Decides}
use Rattle.std.specs.List.{list_any}
use Rattle.std.proofs.lemmas.Bool.Decides.{Decides-and, Decides-like}
use Rattle.cg_maps.specs.FiniteMap.{FiniteMap, entries, get, is_nonempty, len, retain, set_at}
use Rattle.cg_maps.proofs.Maps.{each_entry}
use Rattle.cg_model.specs.Control.{used_below}
use Rattle.cg_name.specs.declared.controller.Controller.{Controller}
use Rattle.cg_name.specs.declared.controller.Controller.TheVariants.{Cpuset, Cpu, Io, Memory, Hugetlb, Pids, Rdma, Misc}
use Rattle.cg_name.specs.Order.{path_cmp_total}
use Rattle.cg_name.specs.Path.{Path, path_cmp, is_parent}
use Rattle.cg_path_tree.specs.Nodes.{Nodes}
use Rattle.cg_text.specs.Controllers.{has, no_controllers, such_that}
use Rattle.cg_text.specs.declared.controllers.Controllers.{Controllers}
use Rattle.cg_text.specs.declared.settings.Settings.{Settings}
use Rattle.cg_text.specs.contracts.controllers.ControllersPartialEq as controllers_equal
use Rattle.cg_tree.specs.declared.entry.Entry.{Entry}
use Rattle.cg_tree.specs.declared.passing.Passing.{Passing}
use Rattle.cg_tree.specs.Entries.{groups_in, passing_in, passing_of, settings_of, with_passing, AreCounted, AreCountedBelow, IsCounted}
use Rattle.cg_tree.specs.Passing.{control_of, passing_count, step, stepped_if, tally, times, CanPass}
use Rattle.cg_tree.specs.Present.{present}
use Rattle.cg_tree.proofs.Asking.{both_pass}
use Rattle.cg_tree.proofs.Counts.{few_passing, passing_by-written, room_to_step, stays_counted, steps, times-tally}
use Rattle.cg_tree.proofs.NodeLists.{kept_here, nonempty_by_len, positive}
use Rattle.cg_tree.proofs.Putting.{from_mapped, held_at}
use Rattle.cg_tree.proofs.Seeing.{get-seen, len-seen, same_seen}

-- where there is no group, none passes on the controller
none_passed_on : (c : Controller) → has no_controllers c ≡ false
none_passed_on Cpuset = refl
none_passed_on Cpu = refl
none_passed_on Io = refl
none_passed_on Memory = refl
none_passed_on Hugetlb = refl
none_passed_on Pids = refl
none_passed_on Rdma = refl
none_passed_on Misc = refl

is_there : (a b : Bool) → (a && b) && true ≡ a && b
is_there true true = refl
is_there true false = refl
is_there false b = refl

none_there : (a b : Bool) → b ≡ false → (a && b) && false ≡ a && b
none_there true true e = sym e
none_there true false e = refl
none_there false b e = refl

passed_by_group : (b : Bool) (w : Option Settings) (c : Controller) → (b && has (control_of w) c) && is_some w ≡ b && has (control_of w) c
passed_by_group b None c = none_there b (has no_controllers c) (none_passed_on c)
passed_by_group b (Some s) c = is_there b (has s.control c)

-- ---- sets that were compared

controllers_decide : (s t : Controllers) → Decides (controllers_equal.TheImpl.eq-value.it s t) (s ≡ t)
controllers_decide s t =
    Decides-like _
    (λ h i. record { cpuset = h.0 i; cpu = h.1.0 i; io = h.1.1.0 i; memory = h.1.1.1.0 i; hugetlb = h.1.1.1.1.0 i; pids = h.1.1.1.1.1.0 i; rdma = h.1.1.1.1.1.1.0 i; misc = h.1.1.1.1.1.1.1 i })
    (λ e. (ap (λ x. x.cpuset) e, (ap (λ x. x.cpu) e, (ap (λ x. x.io) e, (ap (λ x. x.memory) e, (ap (λ x. x.hugetlb) e, (ap (λ x. x.pids) e, (ap (λ x. x.rdma) e, ap (λ x. x.misc) e))))))))
    (Decides-and _ _ (booleans_Decides s.cpuset t.cpuset)
    (Decides-and _ _ (booleans_Decides s.cpu t.cpu)
    (Decides-and _ _ (booleans_Decides s.io t.io)
    (Decides-and _ _ (booleans_Decides s.memory t.memory)
    (Decides-and _ _ (booleans_Decides s.hugetlb t.hugetlb)
    (Decides-and _ _ (booleans_Decides s.pids t.pids)
    (Decides-and _ _ (booleans_Decides s.rdma t.rdma) (booleans_Decides s.misc t.misc))))))))

pub same_sets : (s t : Controllers) → not (controllers_equal.TheImpl.eq-value.it s t) ≡ false → s ≡ t
same_sets s t h = (controllers_decide s t).0 (by (controllers_equal.TheImpl.eq-value.it s t) h)
  where
    by : (b : Bool) → not b ≡ false → b ≡ true
    by true e = refl
    by false e = sym e

-- ---- one group passes on others than before

steps_if : (before after : Controllers) (here : Bool) (n : Passing) (c : Controller) (k m : ℕ) → times n c ≡ m → k + cond (here && has before c) 1 0 ≡ m + cond (here && has after c) 1 0 → times (stepped_if here before after n) c ≡ k
steps_if before after true n c k m is h = times-tally (λ d. step (has before d) (has after d) (times n d)) c ∙ sym (steps (has before c) (has after c) (times n c) k (h ∙ ap (λ j. j + cond (has after c) 1 0) (sym is)))
steps_if before after false n c k m is h = omega (arith, is, h)

-- the same
same_set : (x : Controllers) (here : Bool) (e : Entry) → with_passing x x here e ≡ e
same_set x true e = λ i. record e { passing = tally (λ c. stays_counted (has x c) (times e.passing c) i) }
same_set x false e = refl

pub not_passing : (before after : Controllers) → before ≡ after → (here : Bool) (w : Option Entry) → w ≡ option_map (with_passing before after here) w
not_passing before after alike here None = refl
not_passing before after alike here (Some e) = ap Some (sym (ap (λ x. with_passing before x here e) (sym alike) ∙ same_set before here e))

module _ (a b : Nodes Entry) (p : Path) (e : Entry) (there : get a.values p ≡ Some e) (s : Option Settings) (written : groups_in b.values ≡ set_at (groups_in a.values) p (Some s)) where
  changed : (q : Path) (c : Controller) → passing_count (groups_in b.values) q c + cond (is_parent q p && has (control_of e.settings) c) 1 0 ≡ passing_count (groups_in a.values) q c + cond (is_parent q p && has (control_of s) c) 1 0
  changed q c =
      ap (λ m. passing_count m q c + cond (is_parent q p && has (control_of e.settings) c) 1 0) written
      ∙ ap (λ d. passing_count (set_at (groups_in a.values) p (Some s)) q c + cond d 1 0) (sym (passed_by_group (is_parent q p) e.settings c) ∙ ap (λ w. (is_parent q p && has (control_of w) c) && is_some w) (sym (held_at a.values p e there)))
      ∙ passing_by-written (groups_in a.values) (λ r w. is_parent q r && has (control_of w) c) p (Some s)
      ∙ ap (λ d. passing_count (groups_in a.values) q c + cond d 1 0) (passed_by_group (is_parent q p) s c)

  module _ (counts : AreCounted a.values) (alike : passing_in b.values ≡ passing_in a.values) where
    -- the counts are still those before
    counted_before : (q : Path) (x : Entry) → get b.values q ≡ Some x → (c : Controller) → times x.passing c ≡ passing_count (groups_in a.values) q c
    counted_before q x h c =
        let same : option_map passing_of (get a.values q) ≡ Some x.passing = sym (get-seen passing_of a.values q) ∙ ap (λ m. get m q) (sym alike) ∙ get-seen passing_of b.values q ∙ ap (option_map passing_of) h in
        let old = from_mapped passing_of (get a.values q) x.passing same in
        ap (λ n. times n c) (sym old.2) ∙ (counts q old.0 old.1).passing c

    pub room_to_pass : (most : ℕ) → len b.values ≡ most → most < 2 ^ 32 → (q : Path) (x : Entry) → is_parent q p ≡ true → get b.values q ≡ Some x → CanPass (control_of e.settings) (control_of s) x.passing
    room_to_pass most length fits q x right h c =
        let few : passing_count (groups_in b.values) q c ≤ most =
        subst (λ k. passing_count (groups_in b.values) q c ≤ k) (len-seen settings_of b.values ∙ length) (few_passing (groups_in b.values) (λ r. is_parent q r && has (control_of (get (present (groups_in b.values)) r)) c)) in
        let count = subst (λ d. passing_count (groups_in b.values) q c + cond (d && has (control_of e.settings) c) 1 0 ≡ passing_count (groups_in a.values) q c + cond (d && has (control_of s) c) 1 0) right (changed q c) in
        room_to_step (has (control_of e.settings) c) (has (control_of s) c) (times x.passing c) (passing_count (groups_in b.values) q c) most
        (count ∙ ap (λ n. n + cond (has (control_of s) c) 1 0) (sym (counted_before q x h c))) few fits

    module _ (below : AreCountedBelow b.values) (c : Nodes Entry) (values : (q : Path) → get c.values q ≡ option_map (with_passing (control_of e.settings) (control_of s) (is_parent q p)) (get b.values q)) where
      pub same_groups : groups_in c.values ≡ groups_in b.values
      same_groups = same_seen settings_of c.values b.values (λ q. with_passing (control_of e.settings) (control_of s) (is_parent q p)) (λ q x. refl) values

      pub all_counted : AreCounted c.values
      all_counted q x h =
          let old = from_mapped (with_passing (control_of e.settings) (control_of s) (is_parent q p)) (get b.values q) x (sym (values q) ∙ h) in
          let own = below q old.0 old.1 in
          subst (λ m. IsCounted m q x) (sym same_groups)
          (subst (λ (y : Entry). IsCounted (groups_in b.values) q y) old.2 (record {
            groups = record { below = own.below; right_below = own.right_below };
            passing = λ d. steps_if (control_of e.settings) (control_of s) (is_parent q p) old.0.passing d _ _ (counted_before q old.0 old.1 d) (changed q d);
          }))

-- ---- what is passed on, by the counts

nonempty_filter : {A : Type 0} (t : A → Bool) (xs : List A) → is_nonempty (filter t xs) ≡ list_any t xs
nonempty_filter t [] = refl
nonempty_filter {A} t (x ∷ xs) = by (t x) (nonempty_filter t xs)
  where
    by : (b : Bool) → is_nonempty (filter t xs) ≡ list_any t xs → is_nonempty (cond b (x ∷ filter t xs) (filter t xs)) ≡ b || list_any t xs
    by true rest = refl
    by false rest = rest

module _ (m : FiniteMap path_cmp (Option Settings)) (p : Path) where
  passing_entries : (c : Controller) → entries (retain (present m) (λ q. is_parent p q && has (control_of (get (present m) q)) c)) ≡ filter (λ e. has e.1.control c) (entries (retain (present m) (is_parent p)))
  passing_entries c =
      sym (kept_here (present m) (λ q. is_parent p q && has (control_of (get (present m) q)) c))
      ∙ both_pass (λ e. get (present m) e.0 ≡ Some e.1) (λ e. is_parent p e.0) (λ e. has (control_of (get (present m) e.0)) c) (λ e. has e.1.control c) (λ e is. ap (λ w. has (control_of w) c) is) (entries (present m)) (each_entry path_cmp_total (present m))
      ∙ ap (filter (λ e. has e.1.control c)) (kept_here (present m) (is_parent p))

  some_passes : (c : Controller) → nat_lt 0 (passing_count m p c) ≡ list_any (λ e. has e.1.control c) (entries (retain (present m) (is_parent p)))
  some_passes c =
      positive (passing_count m p c)
      ∙ sym (nonempty_by_len (retain (present m) (λ q. is_parent p q && has (control_of (get (present m) q)) c)))
      ∙ ap is_nonempty (passing_entries c)
      ∙ nonempty_filter (λ e. has e.1.control c) (entries (retain (present m) (is_parent p)))

  pub used_by_counts : (n : Passing) → ((c : Controller) → times n c ≡ passing_count m p c) → such_that (λ c. nat_lt 0 (times n c)) ≡ used_below (entries (retain (present m) (is_parent p)))
  used_by_counts n counts = λ i. such_that (λ c. (ap (nat_lt 0) (counts c) ∙ some_passes c) i)
