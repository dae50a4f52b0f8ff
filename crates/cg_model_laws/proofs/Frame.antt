-- A put changes only what the marks of its key cover.
use Rattle.std.proofs.Common.{◌≡◌, ℕ, Bool, true, false, cond, List, [], ◌∷◌, ◌++◌, inl, inr, refl, sym, ap, subst, ◌∙◌, Option, Some, None, option_map, eq-eqb}
use Rattle.std.proofs.lemmas.Bool.{both_ways, false_from_ne_true}
use Rattle.std.specs.Cmp.{nat_cmp_total}
use Rattle.std.specs.FinMap.{nat_cmp-IsAntisymmetric}
use Rattle.std.specs.List.{AllByRecursion}
use Rattle.cg_maps.specs.FiniteMap.{get, set_at, domain, len}
use Rattle.cg_maps.proofs.Maps as maps
use Rattle.cg_name.specs.Order.{path_cmp_total, path_cmp_exact}
use Rattle.cg_name.specs.Path.{Path, same_path, is_prefix, is_above, comparable}
use Rattle.cg_text.specs.declared.settings.Settings.{Settings}
use Rattle.cg_model.specs.Tree.{Tree, group, place_of}
use Rattle.cg_model.specs.Derived.{descendants}
use Rattle.cg_model.specs.Key.{Field, Setting, Key, Group, Place, Part, Online, ValueOf, value_at, put, replaced, part_replaced}
use Rattle.cg_model.specs.Footprint.{Mark, X, S, N, Pid, Count, clash, is_limited, count_of, counts, old_place}
use Rattle.cg_model_laws.specs.Covers.{within, SameAround, Agree, IsCounted}
use Rattle.cg_model_laws.proofs.Paths.{same_path-itself, path_cases, prefix_itself, comparable-swapped}
use Rattle.cg_model_laws.proofs.Keys.{with_group, with_place, group_apart, place_apart, group_here, place_here}
use Rattle.cg_model_laws.proofs.Lists.{all_left, all_right}
use Rattle.cg_model_laws.proofs.Marks.{Apart, all_along}

abbrev pub marks_of : Tree → (k : Key) → Option (ValueOf k) → Option (ValueOf k) → List Mark
marks_of T (Group p) b l = X p ∷ counts T p
marks_of T (Place k) b l = Pid k ∷ old_place b ++ old_place l
marks_of T (Part p f) b l = X p ∷ []
marks_of T Online b l = X [] ∷ []

-- what a limit is needed for
abbrev pub CountedAt : Key → Tree → Mark → Type 0
CountedAt (Group p) T m = IsCounted T m
CountedAt k T m = Unit {0}

abbrev there : Option Settings → Option (Unit {0})
there s = option_map (λ x. tt) s

module _ (T : Tree) where
  around_group : (p : Path) (v : Option Settings) (q : Path) → comparable p q ≡ false → SameAround q T (with_group T p v)
  around_group p v q e = record {
    online = refl;
    groups = λ r c. sym (group_apart T p v r (λ is. both_ways _ e (comparable-swapped p q ∙ subst (λ x. comparable q x ≡ true) is c)));
    places = λ k. refl;
  }

  -- a process that is not below q, before or after
  around_place : (k : ℕ) (l : Option Path) (q : Path) → within q (place_of T k) ≡ None → within q l ≡ None → SameAround q T (with_place T k (replaced (place_of T k) l))
  around_place k l q out_before out_after = record {
    online = refl;
    groups = λ r c. refl;
    places = λ j. elim (maps.cases nat_cmp_total nat_cmp-IsAntisymmetric j k) [
      | inl is ↦ subst (λ x. within q (place_of T x) ≡ within q (place_of (with_place T k (replaced (place_of T k) l)) x)) (sym is)
          (out_before ∙ sym (ap (within q) (place_here T k _) ∙ still (place_of T k) out_before))
      | inr ne ↦ ap (within q) (sym (place_apart T k _ j ne))
    ];
  }
    where
      still : (o : Option Path) → within q o ≡ None → within q (replaced o l) ≡ None
      still None b = refl
      still (Some s) b = either (Some s) b l out_after
        where
          either : (o : Option Path) → within q o ≡ None → (l : Option Path) → within q l ≡ None → within q (replaced o l) ≡ None
          either None b l a = refl
          either (Some s) b None a = b
          either (Some s) b (Some d) a = a

  alone : (p : Path) (v : Option Settings) (q : Path) → is_prefix p q ≡ false → group T q ≡ group (with_group T p v) q
  alone p v q e = sym (group_apart T p v q (λ is. both_ways _ e (subst (λ x. is_prefix x q ≡ true) is (prefix_itself q))))

  same_domain : (p : Path) (v : Option Settings) (a : Path) → ((q : Path) → is_above a q ≡ true → there (group T q) ≡ there (group (with_group T p v) q)) → descendants T a ≡ descendants (with_group T p v) a
  unfolding descendants
  same_domain p v a h = ap len (maps.same_retained path_cmp_total path_cmp_exact (domain T.groups) (domain (set_at T.groups p v)) (is_above a) (is_above a) (λ q. at q (is_above a q) refl))
    where
      at : (q : Path) (b : Bool) → is_above a q ≡ b → cond b (get (domain T.groups) q) None ≡ cond b (get (domain (set_at T.groups p v)) q) None
      at q true e = maps.get-domain T.groups q ∙ h q e ∙ sym (maps.get-domain (set_at T.groups p v) q)
      at q false e = refl

  count_group : (p : Path) (v : Option Settings) (a : Path) → is_above a p ≡ false → descendants T a ≡ descendants (with_group T p v) a
  count_group p v a e = same_domain p v a (λ q c. ap there (sym (group_apart T p v q (λ is. both_ways _ e (subst (λ x. is_above a x ≡ true) is c)))))

  count_part : (p : Path) (f : Field) (v : Option (Setting f)) (a : Path) → descendants T a ≡ descendants (with_group T p (part_replaced f v (group T p))) a
  count_part p f v a = same_domain p _ a (λ q c. elim (path_cases q p) [
    | inl is ↦ subst (λ x. there (group T x) ≡ there (group (with_group T p (part_replaced f v (group T p))) x)) (sym is)
        (sym (ap there (group_here T p _) ∙ stays (group T p) v))
    | inr ne ↦ ap there (sym (group_apart T p _ q ne))
  ])
    where
      stays : (s : Option Settings) (v : Option (Setting f)) → there (part_replaced f v s) ≡ there s
      stays None v = refl
      stays (Some s) None = refl
      stays (Some s) (Some v) = refl

  counted : (a : Path) (s : Option Settings) → is_limited s ≡ true → Apart (count_of a s) (Count a) → same_path a a ≡ false
  counted a s c h = (subst (λ b. AllByRecursion (λ m. clash m (Count a) ≡ false) (cond b (Count a ∷ []) [])) c h).0

  not_counted : (p a : Path) → Apart (counts T p) (Count a) → is_limited (group T a) ≡ true → is_above a p ≡ false
  not_counted p a h c = false_from_ne_true _ (λ e. both_ways _ (counted a (group T a) c (all_along (λ m. clash m (Count a) ≡ false) (λ x. count_of x (group T x)) p a e h)) (same_path-itself a))

  -- what the marks of a process's groups say, at m = X(q) or S(q)
  outside : (q : Path) (m : Mark) → ((s : Path) → clash (N s) m ≡ is_prefix q s) → (o : Option Path) → Apart (old_place o) m → within q o ≡ None
  outside q m is None h = refl
  outside q m is (Some s) h = ap (λ b. cond b (Some s) None) (sym (is s) ∙ h.0)

  around_move : (k : ℕ) (l : Option Path) (q : Path) (m : Mark) → ((s : Path) → clash (N s) m ≡ is_prefix q s) → Apart (old_place (place_of T k) ++ old_place l) m → SameAround q T (with_place T k (replaced (place_of T k) l))
  around_move k l q m is h = around_place k l q (outside q m is (place_of T k) (all_left _ _ _ h)) (outside q m is l (all_right _ (old_place (place_of T k)) _ h))

  pub frame_put : (k : Key) (l : Option (ValueOf k)) (m : Mark) → Apart (marks_of T k (value_at T k) l) m → CountedAt k T m → Agree m T (put k l T)
  unfolding descendants
  frame_put (Group p) l (X q) h c = around_group p l q h.0
  frame_put (Group p) l (S q) h c = around_group p l q h.0
  frame_put (Group p) l (N q) h c = alone p l q h.0
  frame_put (Group p) l (Count a) h c = count_group p l a (not_counted p a h.1 c)
  frame_put (Part p f) l (X q) h c = around_group p _ q h.0
  frame_put (Part p f) l (S q) h c = around_group p _ q h.0
  frame_put (Part p f) l (N q) h c = alone p _ q h.0
  frame_put (Part p f) l (Count a) h c = count_part p f l a
  frame_put (Place k) l (X q) h c = around_move k l q (X q) (λ s. refl) h.1
  frame_put (Place k) l (S q) h c = around_move k l q (S q) (λ s. refl) h.1
  frame_put (Place k) l (Pid j) h c = sym (place_apart T k _ j (λ is. both_ways _ h.0 (eq-eqb k j (sym is))))
  frame_put Online l (X q) h c = absurd (both_ways true h.0 refl)
  frame_put Online l (S q) h c = absurd (both_ways true h.0 refl)
  frame_put k l m h c = refl
