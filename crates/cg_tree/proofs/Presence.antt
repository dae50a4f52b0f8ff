-- What the keys of a map hold, as the map is written.
use Rattle.std.proofs.Common.{◌≡◌, ◌≢◌, Bool, true, false, cond, List, [], ◌∷◌, Option, Some, None, option_map, is_some, refl, sym, ap, subst, ◌∙◌, Ordering}
use Rattle.std.specs.Option.{option_flatten}
use Rattle.std.specs.Ordering.{eq_by_cmp}
use Rattle.std.specs.Cmp.{IsTotalOrder}
use Rattle.std.specs.FinMap.{IsAntisymmetric}
use Rattle.std.specs.FinMap.Entries.{find}
use Rattle.std.specs.List.{AllByRecursion}
use Rattle.cg_maps.specs.FiniteMap.{FiniteMap, get, set_at, domain, empty, entries}
use Rattle.cg_maps.proofs.Maps.{same_map, get-set_at, get-domain, is_same, KeysDiffer, keys_differ, set_same}
use Rattle.cg_tree.specs.Present.{present, held_entries, with_held}

-- that a key is there, whatever it holds
abbrev pub nothing : {X : Type 0} → Option X → Option (Unit {0})
nothing w = option_map (λ _. tt) w

flatten_cond : {X : Type 0} (b : Bool) (w x : Option (Option X)) → option_flatten (cond b w x) ≡ cond b (option_flatten w) (option_flatten x)
flatten_cond true w x = refl
flatten_cond false w x = refl

nothing_cond : {X : Type 0} (b : Bool) (w x : Option X) → nothing (cond b w x) ≡ cond b (nothing w) (nothing x)
nothing_cond true w x = refl
nothing_cond false w x = refl

is_some-nothing : {X : Type 0} (w : Option X) → is_some (nothing w) ≡ is_some w
is_some-nothing None = refl
is_some-nothing (Some x) = refl

there : (w : Option (Unit {0})) → is_some w ≡ true → w ≡ Some tt
there None e = cc
there (Some x) e = refl

pub present-empty : {K X : Type 0} {R : K → K → Ordering} → present (empty {X = Option X} {R = R}) ≡ empty
unfolding empty present
present-empty = refl

pub domain-empty : {K : Type 0} (X : Type 0) {R : K → K → Ordering} → domain (empty {X = Option X} {R = R}) ≡ domain (present (empty {X = Option X} {R = R}))
unfolding empty present domain
domain-empty X = refl

pub entries-present : {K X : Type 0} {R : K → K → Ordering} (m : FiniteMap R (Option X)) → entries (present m) ≡ held_entries (entries m)
unfolding entries present
entries-present m = refl

module _ {K X : Type 0} {R : K → K → Ordering} (o : IsTotalOrder R) (same : IsAntisymmetric R) where
  absent : (k : K) (es : List (K × Option X)) → AllByRecursion (λ f. k ≢ f.0) es → find R k es ≡ None
  absent k [] h = refl
  absent k (f ∷ es) h = elim (eq_by_cmp R k f.0) as (λ b. eq_by_cmp R k f.0 ≡ b → cond b (Some f.1) (find R k es) ≡ None) [
    | true ↦ λ e. absurd (h.0 (is_same o same k f.0 e))
    | false ↦ λ e. absent k es h.1
  ] refl

  find-held : (q : K) (es : List (K × Option X)) → KeysDiffer o es → find R q (held_entries es) ≡ option_flatten (find R q es)
  find-held q [] d = refl
  find-held q (e ∷ es) d = step (find-held q es d.1) e.1
    where
      step : find R q (held_entries es) ≡ option_flatten (find R q es) → (v : Option X) → find R q (with_held e.0 v (held_entries es)) ≡ option_flatten (cond (eq_by_cmp R q e.0) (Some v) (find R q es))
      step rest None = rest ∙ (elim (eq_by_cmp R q e.0) as (λ b. eq_by_cmp R q e.0 ≡ b → option_flatten (find R q es) ≡ option_flatten (cond b (Some None) (find R q es))) [
        | true ↦ λ is. ap option_flatten (subst (λ k. find R k es ≡ None) (sym (is_same o same q e.0 is)) (absent e.0 es d.0))
        | false ↦ λ is. refl
      ] refl)
      step rest (Some v) = elim (eq_by_cmp R q e.0) as (λ b. cond b (Some v) (find R q (held_entries es)) ≡ option_flatten (cond b (Some (Some v)) (find R q es))) [
        | true ↦ refl
        | false ↦ rest
      ]

  pub get-present : (m : FiniteMap R (Option X)) (q : K) → get (present m) q ≡ option_flatten (get m q)
  unfolding get present entries
  get-present m q = find-held q m.list (keys_differ o m)

  -- a write at a key, as it changes what is held
  pub present-set : (m : FiniteMap R (Option X)) (k : K) (w : Option (Option X)) → present (set_at m k w) ≡ set_at (present m) k (option_flatten w)
  present-set m k w = same_map o same _ _ (λ q.
      get-present (set_at m k w) q
      ∙ ap option_flatten (get-set_at o same m k w q)
      ∙ flatten_cond (eq_by_cmp R q k) w (get m q)
      ∙ ap (cond (eq_by_cmp R q k) (option_flatten w)) (sym (get-present m q))
      ∙ sym (get-set_at o same (present m) k (option_flatten w) q))

  -- a write where nothing is held, before and behind, keeps what is held
  pub present_kept : (m : FiniteMap R (Option X)) (k : K) (w : Option (Option X)) → option_flatten (get m k) ≡ None → option_flatten w ≡ None → present (set_at m k w) ≡ present m
  present_kept m k w before behind =
      present-set m k w
      ∙ ap (set_at (present m) k) (behind ∙ sym before ∙ sym (get-present m k))
      ∙ set_same o same (present m) k

module _ {K X : Type 0} {R : K → K → Ordering} (o : IsTotalOrder R) (same : IsAntisymmetric R) where
  -- and as it changes the keys
  pub domain-set : (m : FiniteMap R X) (k : K) (w : Option X) → domain (set_at m k w) ≡ set_at (domain m) k (nothing w)
  domain-set m k w = same_map o same _ _ (λ q.
      get-domain (set_at m k w) q
      ∙ ap nothing (get-set_at o same m k w q)
      ∙ nothing_cond (eq_by_cmp R q k) w (get m q)
      ∙ ap (cond (eq_by_cmp R q k) (nothing w)) (sym (get-domain m q))
      ∙ sym (get-set_at o same (domain m) k (nothing w) q))

  pub is_some-domain : (m : FiniteMap R X) (q : K) → is_some (get (domain m) q) ≡ is_some (get m q)
  is_some-domain m q = ap is_some (get-domain m q) ∙ is_some-nothing (get m q)

  -- a key that is there is there after a write
  pub domain-replaced : (m : FiniteMap R X) (k : K) (v : X) → is_some (get m k) ≡ true → domain (set_at m k (Some v)) ≡ domain m
  domain-replaced m k v h =
      domain-set m k (Some v)
      ∙ ap (set_at (domain m) k) (sym (there (get (domain m) k) (is_some-domain m k ∙ h)))
      ∙ set_same o same (domain m) k
