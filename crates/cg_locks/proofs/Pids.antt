-- The holders of the places of processes, changed at one process.
use Rattle.std.proofs.Common.{◌≡◌, ℕ, ◌+◌, ◌==◌, ◌&&◌, true, false, cond, List, [], ◌∷◌, Option, Some, refl, sym, ap, ◌∙◌, arith}
use Rattle.std.proofs.lemmas.Bool.{eqb-true}
use Rattle.std.specs.Cmp.{nat_cmp_total, eq_by_cmp_equiv}
use Rattle.std.specs.FinMap.{nat_cmp-IsAntisymmetric}
use Rattle.std.specs.FinMap.Entries.{find}
use Rattle.std.specs.Map.{lookup}
use Rattle.std.specs.Ordering.{nat_cmp}
use Rattle.cg_maps.specs.FiniteMap.{from_entries, get, set_at}
use Rattle.cg_maps.proofs.Maps as maps
use Rattle.cg_maps.proofs.Sets.{tied_is_equal}
use Rattle.cg_locks.specs.Holders.{Counts, held_for, held_if, one}
use Rattle.cg_locks.proofs.Summed.{neither, within}

-- ---- their entries, in any order

module _ {X : Type 0} where
  -- the map of the entries answers as they do
  pub looked_up : (es : List (ℕ × X)) (pid : ℕ) → get (from_entries nat_cmp es) pid ≡ lookup (λ x. pid == x) es
  looked_up es pid = maps.get-from_entries nat_cmp_total nat_cmp-IsAntisymmetric es pid ∙ found es
    where
      found : (fs : List (ℕ × X)) → find nat_cmp pid fs ≡ lookup (λ x. pid == x) fs
      found [] = refl
      found (f ∷ fs) = λ i. cond (tied_is_equal pid f.0 i) (Some f.1) (found fs i)

  -- where entries answer o at one process and else as others do, their map is that of the others with o there
  pub answers_set : (es fs : List (ℕ × X)) (pid : ℕ) (o : Option X) → ((q : ℕ) → lookup (λ x. q == x) fs ≡ cond (pid == q) o (lookup (λ x. q == x) es)) → from_entries nat_cmp fs ≡ set_at (from_entries nat_cmp es) pid o
  answers_set es fs pid o h = maps.same_map nat_cmp_total nat_cmp-IsAntisymmetric _ _ (λ q.
      looked_up fs q ∙ h q
      ∙ (λ i. cond ((sym (tied_is_equal pid q) ∙ (eq_by_cmp_equiv nat_cmp_total).symm pid q) i) o (sym (looked_up es q) i))
      ∙ sym (maps.get-set_at nat_cmp_total nat_cmp-IsAntisymmetric (from_entries nat_cmp es) pid o q))

-- ---- one process

module _ (es fs : List (ℕ × Counts)) (pid : ℕ) (o : Option Counts) (set : from_entries nat_cmp fs ≡ set_at (from_entries nat_cmp es) pid o) where
  after : (k u : ℕ) → held_for fs k u ≡ cond (k == pid) (held_if o u) (held_for es k u)
  after k u =
      ap (λ M. held_if (get M k) u) set
      ∙ ap (λ r. held_if r u) (maps.get-set_at nat_cmp_total nat_cmp-IsAntisymmetric (from_entries nat_cmp es) pid o k)
      ∙ ap (λ b. held_if (cond b o (get (from_entries nat_cmp es) k)) u) (tied_is_equal k pid)
      ∙ elim (k == pid) as (λ b. held_if (cond b o (get (from_entries nat_cmp es) k)) u ≡ cond b (held_if o u) (held_for es k u)) [ true ↦ refl | false ↦ refl ]

  changed : (x y u : ℕ) → held_if o u + x ≡ held_for es pid u + y → (k : ℕ) → held_for fs k u + cond (k == pid) x 0 ≡ held_for es k u + cond (k == pid) y 0
  changed x y u change k =
      ap (λ n. n + cond (k == pid) x 0) (after k u)
      ∙ elim (k == pid) as (λ b. (k == pid) ≡ b → cond b (held_if o u) (held_for es k u) + cond b x 0 ≡ held_for es k u + cond b y 0) [
        | true ↦ λ is. change ∙ ap (λ n. held_for es n u + y) (sym (eqb-true k pid is))
        | false ↦ λ is. refl
      ] refl

  pub for_one_more : (t : ℕ) → ((u : ℕ) → held_if o u ≡ held_for es pid u + one (u == t)) → (k u : ℕ) → held_for fs k u ≡ held_for es k u + one ((k == pid) && (u == t))
  for_one_more t more k u =
      let m = more u in
      let z = changed 0 (one (u == t)) u (omega (arith, m)) k in
      let a = neither (k == pid) in let w = within (k == pid) (u == t) in omega (arith, z, a, w)

  pub for_one_less : (t : ℕ) → ((u : ℕ) → held_for es pid u ≡ held_if o u + one (u == t)) → (k u : ℕ) → held_for es k u ≡ held_for fs k u + one ((k == pid) && (u == t))
  for_one_less t less k u =
      let m = less u in
      let z = changed (one (u == t)) 0 u (omega (arith, m)) k in
      let a = neither (k == pid) in let w = within (k == pid) (u == t) in omega (arith, z, a, w)

  pub for_as_before : ((u : ℕ) → held_if o u ≡ held_for es pid u) → (k u : ℕ) → held_for fs k u ≡ held_for es k u
  for_as_before same k u =
      let m = same u in
      let z = changed 0 0 u (omega (arith, m)) k in
      let a = neither (k == pid) in omega (arith, z, a)
