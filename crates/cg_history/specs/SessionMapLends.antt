-- What a map by sessions ends as, where a `&mut` to one of its values is returned.
use Rattle.std.specs.Prelude.{◌≡◌, ℕ, List, Option, OnSome}
use Rattle.std.specs.Borrow.{LendsSo, Fml, RattleType, MutBor}
use Rattle.cg_history.specs.SessionMap.{with_value}
use Rattle.cg_history.specs.contracts.session_map.SessionMap.{the_row}

-- the session ends with the last value written through r, and where r is `None` the map stays as it is
abbrev pub lends_value : (V : RattleType) → MutBor (List (ℕ × V.Denot)) → ℕ → Option (MutBor V.Denot) → Fml
lends_value V m s r = LendsSo (the_row V) V m r (λ n w. OnSome r (n ≡ with_value s w m.now)) (λ n. n ≡ m.now)
