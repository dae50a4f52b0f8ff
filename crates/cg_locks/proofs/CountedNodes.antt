-- Marks on numbers of descendants at the nodes on one way up.
use Rattle.std.proofs.Common.{◌≡◌, ℕ, ◌+◌, ◌<◌, ◌≤◌, ◌==◌, ◌&&◌, Bool, true, false, cond, List, [], ◌∷◌, ◌++◌, length, take, ◌-◌, Option, Some, refl, sym, ap, subst, ◌∙◌, arith}
use Rattle.std.proofs.lemmas.Bool.{eq-eqb}
use Rattle.std.proofs.lemmas.List.{length-take, take-take, take_all}
use Rattle.std.proofs.lemmas.List.Sums.{sum_by-cons, sum_by_push}
use Rattle.cg_maps.specs.FiniteMap.{get}
use Rattle.cg_name.specs.Path.{Path, is_root, same_path}
use Rattle.cg_model_laws.proofs.Paths.{same_path-is, same_path-itself}
use Rattle.cg_path_tree.specs.Nodes.{parent_path}
use Rattle.cg_locks.specs.Counts.{prefixes, AreDescending}
use Rattle.cg_locks.specs.declared.held.Held.{Held}
use Rattle.cg_locks.specs.declared.held.Kind.TheVariants as kinds
use Rattle.cg_locks.specs.declared.held.Part.{Part}
use Rattle.cg_locks.specs.declared.held.Part.TheVariants.{CountedAt}
use Rattle.cg_locks.specs.Held.{here_of, same_kind, same_part, AreCountedMore, Marked}
use Rattle.cg_locks.specs.HeldByPath.{in_part, AreCountsMore, HasCounts, HeldByPath, IsMarkMore, IsOneMoreIn, IsSameHeld}
use Rattle.cg_locks.specs.Holders.{held_at, held_on, lesser_of, one, times_on, IsLeastOther, PathCounts}
use Rattle.cg_locks.proofs.Counting.{prefixes_from, prefixes_same}
use Rattle.cg_locks.proofs.Counts.{least_alike, least_of_sum}
use Rattle.cg_locks.proofs.HeldMaps.{held_there}
use Rattle.cg_locks.proofs.Summed.{same_branches}
use Rattle.cg_locks.proofs.Walks.{alone_more}

-- ---- the way up

-- the first names of a path that is longer are those of the path above
pub first_above : (p : Path) (d : ℕ) → is_root p ≡ false → d < length p → take d (parent_path p) ≡ take d p
first_above p d root low = take-take d (length p - 1) p (omega (arith, low))

pub first_of_root : (p : Path) (d : ℕ) → is_root p ≡ true → take d p ≡ p
first_of_root [] d root = take_all d [] (omega arith)
first_of_root (n ∷ p) d root = absurd (false_true root)
  where
    false_true : false ≡ true → ⊥
    false_true e = cc

-- ---- how often a path stands among others

pub times-cons : (q p : Path) (ps : List Path) → times_on q (p ∷ ps) ≡ cond (same_path q p) 1 0 + times_on q ps
times-cons q p ps = sum_by-cons (λ x. cond (same_path q x) 1 0) p ps

times-pushed : (q p : Path) (ps : List Path) → times_on q (ps ++ p ∷ []) ≡ times_on q (p ∷ ps)
times-pushed q p ps =
    let a : times_on q (ps ++ p ∷ []) ≡ times_on q ps + cond (same_path q p) 1 0 = sum_by_push (λ x. cond (same_path q x) 1 0) ps p in
    let b = times-cons q p ps in
    omega (arith, a, b)

-- one more here, and as many as there are on
joined : (a b c : Bool) (n : ℕ) → one (a && (b && c)) + cond (a && c) n 0 ≡ cond (a && c) (cond b 1 0 + n) 0
joined false b c n = refl
joined true true true n = refl
joined true false true n = refl
joined true true false n = refl
joined true false false n = refl

none_on : (b : Bool) → ◌≡◌ {A = ℕ} (cond b 0 0) 0
none_on true = refl
none_on false = refl

-- what is held of all is held of the first
pub first_is_held : (C : PathCounts) (t : ℕ) (p : Path) (ps : List Path) → ((q : Path) → times_on q (p ∷ ps) ≤ held_at C q t) → 0 < held_at C p t
first_is_held C t p ps all =
    let enough : times_on p (p ∷ ps) ≤ held_at C p t = all p in
    let here : times_on p (p ∷ ps) ≡ 1 + times_on p ps = times-cons p p ps ∙ ap (λ b. cond b 1 0 + times_on p ps) (same_path-itself p) in
    omega (arith, enough, here)

module _ (t : ℕ) where
  pub counts_none : (T : HeldByPath) → AreCountsMore T [] t T
  counts_none T = record {
    at = λ r q u. let z = none_on (same_part r CountedAt && (u == t)) in omega (arith, z);
    summed = λ h. h;
    back = λ h. h;
  }

  module _ (p : Path) (ps : List Path) where
    both : (r : Part) (q : Path) (u : ℕ) → one (same_part r CountedAt && (same_path q p && (u == t))) + cond (same_part r CountedAt && (u == t)) (times_on q ps) 0 ≡ cond (same_part r CountedAt && (u == t)) (times_on q (p ∷ ps)) 0
    both r q u = joined (same_part r CountedAt) (same_path q p) (u == t) (times_on q ps) ∙ ap (λ n. cond (same_part r CountedAt && (u == t)) n 0) (sym (times-cons q p ps))

    pub counts_last : (T M T' : HeldByPath) → AreCountsMore T ps t M → IsOneMoreIn M CountedAt p t T' → AreCountsMore T (p ∷ ps) t T'
    counts_last T M T' rest last =
        let more : IsMarkMore M kinds.Descendants p t T' = alone_more M T' kinds.Descendants p t refl last in
        record {
          at = λ r q u. let a = last.at r q u in let b = rest.at r q u in let c = both r q u in omega (arith, a, b, c);
          summed = λ h. more.summed (rest.summed h);
          back = λ h. rest.back (more.back h);
        }

    -- the same, where it stands behind the others
    pub counts_next : (T M T' : HeldByPath) → AreCountsMore T ps t M → IsOneMoreIn M CountedAt p t T' → AreCountsMore T (ps ++ p ∷ []) t T'
    counts_next T M T' rest last =
        let all = counts_last T M T' rest last in
        record {
          at = λ r q u. all.at r q u ∙ ap (λ n. held_at (in_part r T) q u + cond (same_part r CountedAt && (u == t)) n 0) (sym (times-pushed q p ps));
          summed = all.summed;
          back = all.back;
        }

    -- what is held of all is held of the others when the first is gone
    pub others_are_held : (T M : HeldByPath) → HasCounts T (p ∷ ps) t → IsOneMoreIn M CountedAt p t T → HasCounts M ps t
    others_are_held T M all less q =
        let enough : times_on q (p ∷ ps) ≤ held_at (in_part CountedAt T) q t = all q in
        let here = times-cons q p ps in
        let one_less : held_at (in_part CountedAt T) q t ≡ held_at (in_part CountedAt M) q t + one (true && (same_path q p && (t == t))) = less.at CountedAt q t in
        let own : one (true && (same_path q p && (t == t))) ≡ cond (same_path q p) 1 0 = ap (λ b. one (same_path q p && b)) (eq-eqb t t refl) ∙ as_one (same_path q p) in
        omega (arith, enough, here, one_less, own)
      where
        as_one : (b : Bool) → one (b && true) ≡ cond b 1 0
        as_one true = refl
        as_one false = refl

  -- what is added and taken away again leaves what was held
  pub counts_undone : (ps : List Path) (T M T' : HeldByPath) → AreCountsMore T ps t M → AreCountsMore T' ps t M → IsSameHeld T T'
  counts_undone ps T M T' more less = record {
    at = as_it_was;
    branched = λ r q u. same_branches (in_part r T) (in_part r T') q u (λ p. as_it_was r p u);
  }
    where
      as_it_was : (r : Part) (q : Path) (u : ℕ) → held_at (in_part r T') q u ≡ held_at (in_part r T) q u
      as_it_was r q u = let a = more.at r q u in let b = less.at r q u in omega (arith, a, b)

-- ---- whether all are held

-- no path of so many names stands among shorter ones
none_longer : (p : Path) (n : ℕ) (ds : List ℕ) → AreDescending n ds → (q : Path) → n ≤ length q → times_on q (prefixes p ds) ≡ 0
none_longer p n [] h q low = refl
none_longer p n (d ∷ ds) h q low =
    let first : d < n = h.0 in
    let rest : times_on q (prefixes (take d p) ds) ≡ 0 = none_longer (take d p) d ds h.1 q (omega (arith, low, first)) in
    elim (same_path q (take d p)) as (λ b. same_path q (take d p) ≡ b → times_on q (prefixes p (d ∷ ds)) ≡ 0) [
      | true ↦ λ e.
          let same : length q ≡ length (take d p) = ap length (same_path-is q (take d p) e) in
          let short = length-take d p in
          absurd (omega (arith, same, short, first, low))
      | false ↦ λ e. times-cons q (take d p) (prefixes (take d p) ds) ∙ (λ i. cond (e i) 1 0 + rest i)
    ] refl

module _ (C : PathCounts) (t : ℕ) (p : Path) (d : ℕ) (ds : List ℕ) (within : d < length p) (descending : AreDescending d ds) where
  abbrev AllHeld : List ℕ → Type 0
  AllHeld es = (q : Path) → times_on q (prefixes p es) ≤ held_at C q t

  times_here : (q : Path) → times_on q (prefixes p (d ∷ ds)) ≡ cond (same_path q (take d p)) 1 0 + times_on q (prefixes p ds)
  times_here q = times-cons q (take d p) (prefixes (take d p) ds) ∙ ap (λ ps. cond (same_path q (take d p)) 1 0 + times_on q ps) (prefixes_from p d ds descending)

  pub all_held : 0 < held_at C (take d p) t → AllHeld ds → AllHeld (d ∷ ds)
  all_held here rest q =
      let times = times_here q in
      let others : times_on q (prefixes p ds) ≤ held_at C q t = rest q in
      elim (same_path q (take d p)) as (λ b. same_path q (take d p) ≡ b → times_on q (prefixes p (d ∷ ds)) ≤ held_at C q t) [
        | true ↦ λ e.
            let is : q ≡ take d p = same_path-is q (take d p) e in
            let long : length q ≡ length (take d p) = ap length is in
            let cut = length-take d p in
            let none : times_on q (prefixes p ds) ≡ 0 = none_longer p d ds descending q (omega (arith, long, cut, within)) in
            let low : 0 < held_at C q t = subst (λ r. 0 < held_at C r t) (sym is) here in
            let once : ◌≡◌ {A = ℕ} (cond (same_path q (take d p)) 1 0) 1 = ap (λ b. cond b 1 0) e in
            omega (arith, times, none, low, once)
        | false ↦ λ e. let never : ◌≡◌ {A = ℕ} (cond (same_path q (take d p)) 1 0) 0 = ap (λ b. cond b 1 0) e in omega (arith, times, others, never)
      ] refl

  pub others_held : AllHeld (d ∷ ds) → AllHeld ds
  others_held all q =
      let enough : times_on q (prefixes p (d ∷ ds)) ≤ held_at C q t = all q in
      let times = times_here q in
      omega (arith, enough, times)

-- where the first isn't held, there is none to take away
pub none_to_take : (m : Marked) (t : ℕ) (p : Path) (ds : List ℕ) → ((q : Path) → times_on q (prefixes p ds) ≤ held_at m.descendants q t) → ((d : ℕ) (es : List ℕ) → ds ≡ d ∷ es → held_at m.descendants (take d p) t ≡ 0)
    → AreCountedMore m (prefixes p ds) t m
none_to_take m t p [] all none = λ j q u. let z = none_on (same_kind j kinds.Descendants && (u == t)) in omega (arith, z)
none_to_take m t p (d ∷ ds) all none =
    let low = first_is_held m.descendants t (take d p) (prefixes (take d p) ds) all in
    let first = none d ds refl in
    absurd (omega (arith, low, first))

-- ---- the least other

-- of the first, and of the others
pub least_first : (T : HeldByPath) (p : Path) (d : ℕ) (ds all : List ℕ) (h : Held) (t : ℕ) (r s : Option ℕ) → all ≡ d ∷ ds → get T (take d p) ≡ Some h
    → IsLeastOther t (here_of kinds.Descendants h) r → IsLeastOther t (held_on (in_part CountedAt T) (prefixes (take d p) ds)) s → IsLeastOther t (held_on (in_part CountedAt T) (prefixes p all)) (lesser_of r s)
least_first T p d ds all h t r s is there own rest =
    subst (λ ns. IsLeastOther t (held_on (in_part CountedAt T) (prefixes p ns)) (lesser_of r s)) (sym is)
    (least_of_sum t (held_at (in_part CountedAt T) (take d p)) (held_on (in_part CountedAt T) (prefixes (take d p) ds)) r s
    (least_alike t (here_of kinds.Descendants h) (held_at (in_part CountedAt T) (take d p)) r (λ u. sym (held_there CountedAt T (take d p) h u there)) own) rest)

-- the paths with which the first of them begins
pub prefixes_again : (p : Path) (d : ℕ) (ds all : List ℕ) → all ≡ d ∷ ds → prefixes (take d p) all ≡ prefixes p all
prefixes_again p d ds all is = ap (prefixes (take d p)) is ∙ prefixes_same p d ds ∙ ap (prefixes p) (sym is)

-- of the others, where nobody holds the first
pub least_of_others : (C : PathCounts) (p : Path) (d : ℕ) (ds all : List ℕ) (t : ℕ) (r : Option ℕ) → all ≡ d ∷ ds → AreDescending d ds → ((u : ℕ) → held_at C (take d p) u ≡ 0)
    → IsLeastOther t (held_on C (prefixes p ds)) r → IsLeastOther t (held_on C (prefixes p all)) r
least_of_others C p d ds all t r is descending none rest =
    subst (λ ns. IsLeastOther t (held_on C (prefixes p ns)) r) (sym is)
    (least_alike t (held_on C (prefixes p ds)) (held_on C (prefixes p (d ∷ ds))) r
    (λ u.
    let a = none u in
    let b : held_on C (prefixes p ds) u ≡ held_on C (prefixes (take d p) ds) u = ap (λ ps. held_on C ps u) (sym (prefixes_from p d ds descending)) in
    omega (arith, a, b)) rest)
