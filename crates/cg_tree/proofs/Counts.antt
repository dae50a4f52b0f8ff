-- How many keys of a map pass a test, as one of them is written.
use Rattle.std.proofs.Common.{◌≡◌, ℕ, suc, ◌+◌, ◌<◌, ◌≤◌, ◌^◌, ◌&&◌, ◌==◌, ◌≢◌, Bool, true, false, not, cond, List, [], ◌∷◌, map, length, Option, Some, None, option_map, is_some, inl, inr, refl, sym, ap, subst, ◌∙◌, Ordering, arith, add-one, true≢false}
use Rattle.std.proofs.lemmas.Bool.{false≢true}
use Rattle.std.proofs.lemmas.Bool.Decides.{nat_tests}
use Rattle.std.proofs.lemmas.Option.{none-some}
use Rattle.std.specs.Option.{option_flatten}
use Rattle.std.specs.Cmp.{IsTotalOrder}
use Rattle.std.specs.FinMap.{IsAntisymmetric}
use Rattle.std.specs.FinMap.Entries.{is_sorted-put, length-put, where_key}
use Rattle.cg_maps.specs.FiniteMap.{FiniteMap, bare, domain, empty, get, insert, is_nonempty, keys, len, retain, set_at, list-checked}
use Rattle.cg_maps.proofs.Maps.{same_map, get-domain, get-empty, get-retain, get_here, get_apart, cases, set_same, set_set, some_key}
use Rattle.cg_name.specs.declared.controller.Controller.{Controller}
use Rattle.cg_name.specs.declared.controller.Controller.TheVariants.{Cpuset, Cpu, Io, Memory, Hugetlb, Pids, Rdma, Misc}
use Rattle.cg_name.specs.Order.{path_cmp_total, path_cmp_exact}
use Rattle.cg_name.specs.Path.{Path, path_cmp}
use Rattle.cg_tree.specs.Entries.{counted, CanCount}
use Rattle.cg_tree.specs.Passing.{step, tally, times, CanStep}
use Rattle.cg_tree.specs.Present.{present, held_entries, with_held}
use Rattle.cg_tree.proofs.Presence.{get-present, present-set}

-- one where something is
abbrev pub one : {A : Type 0} → Option A → ℕ
one w = cond (is_some w) 1 0

len-empty : {K : Type 0} (R : K → K → Ordering) (X : Type 0) → len (empty {X = X} {R = R}) ≡ 0
unfolding len empty
len-empty R X = refl

nonempty_keys : {K X : Type 0} (es : List (K × X)) → is_nonempty (map (λ e. e.0) es) ≡ not (length es == 0)
nonempty_keys [] = refl
nonempty_keys (e ∷ es) = grind (arith, nat_tests)

pub keys_by_len : {K X : Type 0} {R : K → K → Ordering} (m : FiniteMap R X) → is_nonempty (keys m) ≡ not (len m == 0)
unfolding keys len
keys_by_len m = nonempty_keys m.list

module _ {K X : Type 0} {R : K → K → Ordering} (o : IsTotalOrder R) (same : IsAntisymmetric R) where
  -- ---- how many keys a map has

  len-set_new : (m : FiniteMap R X) (k : K) (v : X) → get m k ≡ None → len (set_at m k (Some v)) ≡ suc (len m)
  unfolding get set_at insert len
  len-set_new m k v absent = ap length (list-checked _ _ refl m (is_sorted-put R o k v m.list m.sorted)) ∙ length-put R o k v m.list m.sorted ∙ ap (λ w. cond (is_some w) (length m.list) (length m.list + 1)) absent ∙ add-one (length m.list)

  -- a map with a key is one longer than it is without it
  pub len-without : (m : FiniteMap R X) (k : K) → len m ≡ len (set_at m k None) + one (get m k)
  len-without m k = by (get m k) refl
    where
      by : (w : Option X) → get m k ≡ w → len m ≡ len (set_at m k None) + one w
      by None e =
          let same_len : len m ≡ len (set_at m k None) = sym (ap (λ w. len (set_at m k w)) (sym e) ∙ ap len (set_same o same m k)) in
          omega arith
      by (Some v) e =
          let whole : set_at (set_at m k None) k (Some v) ≡ m = set_set o same m k None (Some v) ∙ ap (set_at m k) (sym e) ∙ set_same o same m k in
          let longer : len m ≡ suc (len (set_at m k None)) = sym (ap len whole) ∙ len-set_new (set_at m k None) k v (get_here o same m k None) in
          omega arith

  len-set : (m : FiniteMap R X) (k : K) (v : Option X) → len (set_at m k v) + one (get m k) ≡ len m + one v
  len-set m k v =
      let before = len-without m k in
      let behind : len (set_at m k v) ≡ len (set_at m k None) + one v =
      len-without (set_at m k v) k ∙ (λ i. len (set_set o same m k v None i) + one (get_here o same m k v i)) in
      omega arith

  -- ---- how many keys pass a test, with what they hold

  kept_set : (m : FiniteMap R X) (k : K) (v : Option X) (t : K → Option X → Bool) → retain (set_at m k v) (λ q. t q (get (set_at m k v) q)) ≡ set_at (retain m (λ q. t q (get m q))) k (cond (t k v) v None)
  kept_set m k v t = same_map o same _ _ (λ q. get-retain o same (set_at m k v) (λ x. t x (get (set_at m k v) x)) q ∙ elim (cases o same q k) [
    | inl e ↦ subst (λ x. cond (t x (get (set_at m k v) x)) (get (set_at m k v) x) None ≡ get (set_at (retain m (λ y. t y (get m y))) k (cond (t k v) v None)) x) (sym e)
        (ap (λ w. cond (t k w) w None) (get_here o same m k v) ∙ sym (get_here o same (retain m (λ y. t y (get m y))) k (cond (t k v) v None)))
    | inr ne ↦
        ap (λ w. cond (t q w) w None) (get_apart o same m k v q ne)
        ∙ sym (get_apart o same (retain m (λ y. t y (get m y))) k (cond (t k v) v None) q ne ∙ get-retain o same m (λ y. t y (get m y)) q)
  ])

  one_kept : (b : Bool) (w : Option X) → one (cond b w None) ≡ cond (b && is_some w) 1 0
  one_kept true w = refl
  one_kept false w = refl

  -- a key is written: of what passes, it alone comes or goes
  pub passing-set : (m : FiniteMap R X) (k : K) (v : Option X) (t : K → Option X → Bool) → len (retain (set_at m k v) (λ q. t q (get (set_at m k v) q))) + cond (t k (get m k) && is_some (get m k)) 1 0 ≡ len (retain m (λ q. t q (get m q))) + cond (t k v && is_some v) 1 0
  passing-set m k v t =
      ap (λ x. len x + cond (t k (get m k) && is_some (get m k)) 1 0) (kept_set m k v t)
      ∙ ap (λ n. len (set_at (retain m (λ q. t q (get m q))) k (cond (t k v) v None)) + n) (sym (one_kept (t k (get m k)) (get m k)) ∙ ap one (sym (get-retain o same m (λ q. t q (get m q)) k)))
      ∙ len-set (retain m (λ q. t q (get m q))) k (cond (t k v) v None)
      ∙ ap (λ n. len (retain m (λ q. t q (get m q))) + n) (one_kept (t k v) v)

  -- two tests that differ at one key alone
  pub passing_apart : (m : FiniteMap R X) (t u : K → Bool) (k : K) → ((q : K) → q ≢ k → t q ≡ u q) → len (retain m u) + cond (t k) (one (get m k)) 0 ≡ len (retain m t) + cond (u k) (one (get m k)) 0
  passing_apart m t u k differ =
      let one_less = len-without (retain m t) k in
      let another = len-without (retain m u) k in
      let own = here t in
      let other = here u in
      let rest : len (set_at (retain m t) k None) ≡ len (set_at (retain m u) k None) = ap len (same_map o same _ _ same_rest) in
      omega (arith, one_less, another, own, other, rest)
    where
      here : (v : K → Bool) → one (get (retain m v) k) ≡ cond (v k) (one (get m k)) 0
      here v = ap one (get-retain o same m v k) ∙ at (v k)
        where
          at : (b : Bool) → one (cond b (get m k) None) ≡ cond b (one (get m k)) 0
          at true = refl
          at false = refl

      same_rest : (q : K) → get (set_at (retain m t) k None) q ≡ get (set_at (retain m u) k None) q
      same_rest q = elim (cases o same q k) [
        | inl e ↦ subst (λ x. get (set_at (retain m t) k None) x ≡ get (set_at (retain m u) k None) x) (sym e) (get_here o same (retain m t) k None ∙ sym (get_here o same (retain m u) k None))
        | inr ne ↦
            get_apart o same (retain m t) k None q ne
            ∙ get-retain o same m t q
            ∙ ap (λ b. cond b (get m q) None) (differ q ne)
            ∙ sym (get_apart o same (retain m u) k None q ne ∙ get-retain o same m u q)
      ]

  -- one that is there and passes
  pub some_passing : (m : FiniteMap R X) (t : K → Bool) (k : K) (v : X) → get m k ≡ Some v → t k ≡ true → 0 < len (retain m t)
  some_passing m t k v there passes =
      let all = len-without (retain m t) k in
      let here : one (get (retain m t) k) ≡ 1 = ap one (get-retain o same m t k ∙ ap (λ b. cond b (get m k) None) passes ∙ there) in
      omega (arith, all, here)

  -- and where some pass, there is one
  pub found_key : (m : FiniteMap R X) → 0 < len m → (k : K) × (v : X) × (get m k ≡ Some v)
  found_key m low = some_key o m (keys_by_len m ∙ above (len m) low)
    where
      above : (n : ℕ) → 0 < n → not (n == 0) ≡ true
      above n l = grind (arith, nat_tests, l)

  pub found_passing : (m : FiniteMap R X) (t : K → Bool) → 0 < len (retain m t) → (k : K) × (v : X) × (get m k ≡ Some v) × (t k ≡ true)
  found_passing m t low =
      let some = found_key (retain m t) low in
      by some.0 some.1 (t some.0) refl (sym (get-retain o same m t some.0) ∙ some.2)
    where
      by : (k : K) (v : X) (b : Bool) → t k ≡ b → cond b (get m k) None ≡ Some v → (k : K) × (v : X) × (get m k ≡ Some v) × (t k ≡ true)
      by k v true e h = (k, v, h, e)
      by k v false e h = absurd (none-some v h)

  -- none passes where none that passes is there
  pub none_passing : (m : FiniteMap R X) (t : K → Bool) → ((q : K) → t q ≡ true → get m q ≡ None) → len (retain m t) ≡ 0
  none_passing m t h = ap len (same_map o same (retain m t) empty (λ q. get-retain o same m t q ∙ at q (t q) refl ∙ sym (get-empty R q))) ∙ len-empty R X
    where
      at : (q : K) (b : Bool) → t q ≡ b → cond b (get m q) None ≡ None
      at q true e = h q e
      at q false e = refl

length-bare : {K X : Type 0} (es : List (K × X)) → length (bare es) ≡ length es
length-bare [] = refl
length-bare (e ∷ es) = ap suc (length-bare es)

pub len-domain : {K X : Type 0} {R : K → K → Ordering} (m : FiniteMap R X) → len (domain m) ≡ len m
unfolding len domain
len-domain m = length-bare m.list

module _ {K X : Type 0} {R : K → K → Ordering} (o : IsTotalOrder R) (same : IsAntisymmetric R) where
  domain-retain : (m : FiniteMap R X) (t : K → Bool) → domain (retain m t) ≡ retain (domain m) t
  domain-retain m t = same_map o same _ _ (λ q.
      get-domain (retain m t) q ∙ ap (option_map (λ _. tt)) (get-retain o same m t q) ∙ at (t q) (get m q) ∙ ap (λ w. cond (t q) w None) (sym (get-domain m q)) ∙ sym (get-retain o same (domain m) t q))
    where
      at : (b : Bool) (w : Option X) → option_map {U = Unit {0}} (λ _. tt) (cond b w None) ≡ cond b (option_map (λ _. tt) w) None
      at true w = refl
      at false w = refl

  pub len-domain-retain : (m : FiniteMap R X) (t : K → Bool) → len (retain (domain m) t) ≡ len (retain m t)
  len-domain-retain m t = ap len (sym (domain-retain m t)) ∙ len-domain (retain m t)

  -- maps that have the same keys
  pub passing_alike : (m n : FiniteMap R X) → ((q : K) → is_some (get m q) ≡ is_some (get n q)) → (t : K → Bool) → len (retain m t) ≡ len (retain n t)
  passing_alike m n there t =
      sym (len-domain-retain m t)
      ∙ ap (λ d. len (retain d t)) (same_map o same (domain m) (domain n) (λ q. get-domain m q ∙ alike (get m q) (get n q) (there q) ∙ sym (get-domain n q)))
      ∙ len-domain-retain n t
    where
      alike : (v w : Option X) → is_some v ≡ is_some w → option_map {U = Unit {0}} (λ _. tt) v ≡ option_map (λ _. tt) w
      alike None None e = refl
      alike None (Some y) e = absurd (false≢true e)
      alike (Some x) None e = absurd (true≢false e)
      alike (Some x) (Some y) e = refl

-- ---- no more pass than there are keys

length-where : {K X : Type 0} (R : K → K → Ordering) (t : K → Bool) (es : List (K × X)) → length (where_key R t es) ≤ length es
length-where R t [] = omega arith
length-where R t (e ∷ es) = at (t e.0) (where_key R t es) (length-where R t es)
  where
    at : (b : Bool) (made : List (_ × _)) → length made ≤ length es → length (cond b (e ∷ made) made) ≤ suc (length es)
    at true made h = omega arith
    at false made h = omega arith

length-held : {K X : Type 0} (es : List (K × Option X)) → length (held_entries es) ≤ length es
length-held [] = omega arith
length-held {K} {X} (e ∷ es) = at e.1 (held_entries es) (length-held es)
  where
    at : (w : Option X) (made : List (K × X)) → length made ≤ length es → length (with_held e.0 w made) ≤ suc (length es)
    at None made h = omega arith
    at (Some x) made h = omega arith

pub few_pass : {K X : Type 0} {R : K → K → Ordering} (m : FiniteMap R X) (t : K → Bool) → len (retain m t) ≤ len m
unfolding len retain
few_pass {R = R} m t = length-where R t m.list

pub few_present : {K X : Type 0} {R : K → K → Ordering} (m : FiniteMap R (Option X)) → len (present m) ≤ len m
unfolding len present
few_present m = length-held m.list

-- ---- groups

-- an entry is written: of the groups whose path and settings pass, its own alone comes or goes
pub passing_by-written : {X : Type 0} (m : FiniteMap path_cmp (Option X)) (t : Path → Option X → Bool) (p : Path) (w : Option (Option X))
    → len (retain (present (set_at m p w)) (λ q. t q (get (present (set_at m p w)) q))) + cond (t p (option_flatten (get m p)) && is_some (option_flatten (get m p))) 1 0
    ≡ len (retain (present m) (λ q. t q (get (present m) q))) + cond (t p (option_flatten w) && is_some (option_flatten w)) 1 0
passing_by-written m t p w =
    ap (λ n. len (retain n (λ q. t q (get n q))) + cond (t p (option_flatten (get m p)) && is_some (option_flatten (get m p))) 1 0) (present-set path_cmp_total path_cmp_exact m p w)
    ∙ ap (λ x. len (retain (set_at (present m) p (option_flatten w)) (λ q. t q (get (set_at (present m) p (option_flatten w)) q))) + cond (t p x && is_some x) 1 0) (sym (get-present path_cmp_total path_cmp_exact m p))
    ∙ passing-set path_cmp_total path_cmp_exact (present m) p (option_flatten w) t

module _ {X : Type 0} (m : FiniteMap path_cmp (Option X)) (t : Path → Bool) where
  abbrev pub passing : ℕ
  passing = len (retain (present m) t)

  pub few_passing : passing ≤ len m
  few_passing = omega (arith, few_pass (present m) t, few_present m)

  -- where no key that passes is there, no group passes
  pub none_held : ((q : Path) → t q ≡ true → get m q ≡ None) → passing ≡ 0
  none_held h = none_passing path_cmp_total path_cmp_exact (present m) t (λ q e. get-present path_cmp_total path_cmp_exact m q ∙ ap option_flatten (h q e))

  -- an entry is written
  pub passing-written : (p : Path) (w : Option (Option X)) → len (retain (present (set_at m p w)) t) + cond (t p && is_some (option_flatten (get m p))) 1 0 ≡ passing + cond (t p && is_some (option_flatten w)) 1 0
  passing-written p w = passing_by-written m (λ q _. t q) p w

-- ---- the count of an entry, as a group comes or goes

pub recounts : (comes passes : Bool) (old new : Bool) (n k : ℕ) → new ≡ comes → old ≡ not comes → k + cond (passes && old) 1 0 ≡ n + cond (passes && new) 1 0 → k ≡ cond passes (counted comes n) n
recounts true true true new n k e f h = absurd (true≢false f)
recounts true true false true n k e f h = omega arith
recounts true true false false n k e f h = absurd (true≢false (sym e))
recounts false true true true n k e f h = absurd (true≢false e)
recounts false true true false n k e f h = omega arith
recounts false true false new n k e f h = absurd (true≢false (sym f))
recounts comes false old new n k e f h = omega arith

pub room_to_count : (comes : Bool) (old new : Bool) (n k most : ℕ) → new ≡ comes → old ≡ not comes → k + cond old 1 0 ≡ n + cond new 1 0 → k ≤ most → most < 2 ^ 32 → CanCount comes n
room_to_count true true new n k most e f h low fits = absurd (true≢false f)
room_to_count true false true n k most e f h low fits = omega arith
room_to_count true false false n k most e f h low fits = absurd (true≢false (sym e))
room_to_count false true true n k most e f h low fits = absurd (true≢false e)
room_to_count false true false n k most e f h low fits = omega arith
room_to_count false false new n k most e f h low fits = absurd (true≢false (sym f))

-- ---- the count of those that pass on a controller, as one of them is counted before and after

pub steps : (before after : Bool) (n k : ℕ) → k + cond before 1 0 ≡ n + cond after 1 0 → k ≡ step before after n
steps true true n k h = omega (arith, h)
steps true false n k h = omega (arith, h)
steps false true n k h = omega (arith, h)
steps false false n k h = omega (arith, h)

pub room_to_step : (before after : Bool) (n k most : ℕ) → k + cond before 1 0 ≡ n + cond after 1 0 → k ≤ most → most < 2 ^ 32 → CanStep before after n
room_to_step true true n k most h low fits = tt
room_to_step true false n k most h low fits = omega (arith, h)
room_to_step false true n k most h low fits = omega (arith, h, low, fits)
room_to_step false false n k most h low fits = tt

pub stays_counted : (b : Bool) (n : ℕ) → step b b n ≡ n
stays_counted true n = refl
stays_counted false n = refl

pub times-tally : (f : Controller → ℕ) (c : Controller) → times (tally f) c ≡ f c
times-tally f Cpuset = refl
times-tally f Cpu = refl
times-tally f Io = refl
times-tally f Memory = refl
times-tally f Hugetlb = refl
times-tally f Pids = refl
times-tally f Rdma = refl
times-tally f Misc = refl
