-- The command of an open transaction that is in the way of a footprint.
use Rattle.std.specs.Prelude.{◌≡◌, ℕ, ◌==◌, false, cond, List, [], ◌∷◌, map, Option, Some, None, option_map, IsSome}
use Rattle.std.specs.List.{find}
use Rattle.std.specs.Option.{option_or}
use Rattle.cg_model.specs.Cgroups.{cgroups}
use Rattle.cg_name.specs.declared.refusal.Refusal.TheVariants.{Busy}
use Rattle.cg_model.specs.Command.{Command}
use Rattle.cg_model.specs.Footprint.{Mark, footprint}
use Rattle.cg_model.specs.History.{Do, Record, Refused}
use Rattle.cg_model.specs.Live.{Items, live, position}
use Rattle.cg_model.specs.Machine.{step}
use Rattle.cg_model.specs.Opens.{among, numbers, opens, transaction_in}
use Rattle.cg_model.specs.Reply.{is_full}
use Rattle.cg_model.specs.Run.{tree_of}
use Rattle.cg_model.specs.Tree.{Tree}
use Rattle.cg_core_laws.specs.Laws.{IsBusyExactly}
use Rattle.cg_core_laws.specs.LettingGo.{footprint_of}
use Rattle.cg_locks.specs.Clashing.{first_clashing}
use Rattle.cg_txn.specs.Stack.{Stack}
use Rattle.cg_core.specs.State.{CoreState, machine}

-- the oldest command here with a mark that clashes with one of these: how many records stand before its own, and the first
-- such mark
abbrev pub oldest_clashing : Tree → List Mark → Items cgroups → Option (ℕ × Mark)
oldest_clashing O g [] = None
oldest_clashing O g (x ∷ l) = option_or (oldest_clashing O g l) (option_map (λ m. (position x, m)) (first_clashing (footprint_of O x) g))

-- the oldest live command of the transaction u, while that is open
abbrev pub in_the_way : CoreState → ℕ → List Mark → Option (ℕ × Mark)
in_the_way c u g = cond (among u (numbers (opens c.history))) (oldest_clashing c.opening g (live u c.history)) None

-- The law of commands in the way: where a command is answered Busy, the transaction that the answer names has one, as the core
-- is then, and behind the record of a refusal too.
abbrev pub BusyTellsACommand : Type 0
BusyTellsACommand = (c : CoreState) (s t : ℕ) (k : Command) (u : ℕ) (r : Record cgroups) → IsBusyExactly c.opening (machine c) → transaction_in s (opens c.history) ≡ Some t → is_full c.bound c.history ≡ false
    → (step cgroups (machine c) s (Do k)).1 ≡ Refused (Busy (record { 0 = u })) → r.answer ≡ Refused (Busy (record { 0 = u }))
    → IsSome (in_the_way c u (footprint k (tree_of cgroups c.opening c.history)))
    × IsSome (in_the_way (record c { history = r ∷ c.history }) u (footprint k (tree_of cgroups c.opening (r ∷ c.history))))

-- ---- in the code

-- the open transaction with this number
abbrev pub with_number : ℕ → List (ℕ × Stack) → Option Stack
with_number n xs = find (λ x. x.number == n) (map (λ x. x.1) xs)
