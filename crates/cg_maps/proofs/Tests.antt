-- What tests that pass tell.
use Rattle.std.proofs.Common.{◌≡◌, Bool, true, false, ◌&&◌, T, refl, Ordering, Less, Equal, Greater}
use Rattle.std.specs.Ordering.{is_lt}

pub and_both : (a b : Bool) → T a → T b → T (a && b)
and_both true b p q = q
and_both false b p q = p

pub and_first : (a b : Bool) → T (a && b) → T a
and_first true b p = tt
and_first false b p = p

pub and_second : (a b : Bool) → T (a && b) → T b
and_second true b p = p
and_second false b p = absurd p

pub less : (r : Ordering) → T (is_lt r) → r ≡ Less
less Less p = refl
less Equal p = absurd p
less Greater p = absurd p
