-- What is said of bytes that may be known.
use Rattle.std.proofs.Common.{ℕ, List, Option, Some, None}
use Rattle.std.specs.Prelude.{IfSome}

pub also : (known : Option (List ℕ)) (P Q : List ℕ → Type 0) → IfSome known P → ((bytes : List ℕ) → P bytes → Q bytes) → IfSome known Q
also None P Q h f = tt
also (Some bytes) P Q h f = f bytes h
