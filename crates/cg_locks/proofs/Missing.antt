-- The nodes above a path, made one after another.
use Rattle.std.proofs.Common.{◌≡◌, ◌≢◌, ℕ, suc, ◌<◌, ◌≤◌, length, take, Option, Some, None, IsSome, is_some, sym, ap, ◌∙◌, arith}
use Rattle.std.proofs.lemmas.List.{length-take-le}
use Rattle.cg_maps.specs.FiniteMap.{FiniteMap, get, set_at}
use Rattle.cg_maps.proofs.Maps as maps
use Rattle.cg_name.specs.Order.{path_cmp_total, path_cmp_exact}
use Rattle.cg_name.specs.Path.{Path, path_cmp}
use Rattle.cg_path_tree.specs.declared.node.NodeKey.{NodeKey}
use Rattle.cg_locks.specs.HeldByPath.{HeldByPath, IsSameHeld}

abbrev Keys : Type 0
Keys = FiniteMap path_cmp NodeKey

-- no path with which p begins has a node, from that of d names on
abbrev pub AreMissing : Keys → Path → ℕ → Type 0
AreMissing keys p d = (m : ℕ) → d ≤ m → m ≤ length p → get keys (take m p) ≡ None

-- and the one before has one, if there is one
abbrev pub IsReached : Keys → Path → ℕ → Type 0
IsReached keys p d = (m : ℕ) → suc m ≡ d → IsSome (get keys (take m p))

-- and has this key; there is none, if there is none
pub record IsLast (keys : Keys) (p : Path) (d : ℕ) (parent : Option NodeKey) : Type 0 where
  pub none : d ≡ 0 → parent ≡ None
  pub key : (m : ℕ) → suc m ≡ d → parent ≡ get keys (take m p)

module _ (keys keys' : Keys) (p : Path) (d : ℕ) (k : NodeKey) (short : d < length p) (put : keys' ≡ set_at keys (take d p) (Some k)) where
  longer : (m : ℕ) → d < m → m ≤ length p → take m p ≢ take d p
  longer m low high e =
      let a = length-take-le m p high in
      let b = length-take-le d p (omega (arith, short)) in
      let c = ap length e in
      omega (arith, a, b, c, low)

  pub next_missing : AreMissing keys p d → AreMissing keys' p (suc d)
  next_missing none m low high =
      ap (λ M. get M (take m p)) put
      ∙ maps.get_apart path_cmp_total path_cmp_exact keys (take d p) (Some k) (take m p) (longer m (omega (arith, low)) high)
      ∙ none m (omega (arith, low)) high

  pub next_reached : IsReached keys' p (suc d)
  next_reached m e =
      let is : m ≡ d = omega (arith, e) in
      ap is_some (ap (λ n. get keys' (take n p)) is ∙ ap (λ M. get M (take d p)) put ∙ maps.get_here path_cmp_total path_cmp_exact keys (take d p) (Some k))

  pub next_last : IsLast keys' p (suc d) (Some k)
  next_last = record {
    none = λ e. absurd (omega (arith, e));
    key = λ m e.
        let is : m ≡ d = omega (arith, e) in
        sym (ap (λ n. get keys' (take n p)) is ∙ ap (λ M. get M (take d p)) put ∙ maps.get_here path_cmp_total path_cmp_exact keys (take d p) (Some k));
  }

-- what is known of the nodes before each turn
pub record IsMade (T : HeldByPath) (p : Path) (d : ℕ) (parent : Option NodeKey) (T' : HeldByPath) (keys : Keys) : Type 0 where
  pub held : IsSameHeld T T'
  pub missing : AreMissing keys p d
  pub reached : IsReached keys p d
  pub last : IsLast keys p d parent
