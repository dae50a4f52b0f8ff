-- A run: the world is read, and then a schedule played over it.
use Rattle.std.proofs.Common.{List, ℕ, ◌≡◌, Ok, Err, true, false, refl, sym, subst, inl, inr}
use Rattle.std.specs.Prelude.{◌⊎◌, Bool, Option, IfSome, Result, IfOk, OnErr}
use Rattle.std.proofs.lemmas.Option.{IfSome_then}
use Rattle.std.proofs.lemmas.Result.{on_err_weaker}
use Rattle.cg_model.specs.Tree.{Tree}
use Rattle.cg_lines.specs.Lines.{Reading}
use Rattle.cg_script.specs.WorldPart.{ReadsWorld}
use Rattle.cg_program.specs.Program.{played_status, schedule_text, DoneOver, IsPlayed}

-- something is done over the world that was read, with the schedule that is given
pub done_over : (P : Tree → Option (List ℕ) → Type 0) (left rest : Option (List ℕ)) (given schedule : Option Reading) (T : Tree) → given ≡ schedule → IfSome left (λ text. ReadsWorld text T rest) → P T (schedule_text schedule rest) → DoneOver P left given
done_over P left rest given schedule T e reads p =
    subst (DoneOver P left) (sym e) (IfSome_then left reads (λ text h. (T, rest, h, p)))

pub played_giving : {B E : Type 0} (P : B → Tree → Option (List ℕ) → Type 0) (r : Result B E) (left rest : Option (List ℕ)) (given schedule : Option Reading) (T : Tree) → given ≡ schedule → IfSome left (λ text. ReadsWorld text T rest) → IfOk r (λ b. P b T (schedule_text schedule rest)) → IfOk r (λ b. DoneOver (P b) left given)
played_giving P (Ok b) left rest given schedule T e reads p = done_over (P b) left rest given schedule T e reads p
played_giving P (Err x) left rest given schedule T e reads p = tt

pub stopped : {B E : Type 0} (A : Type 0) (P : Tree → Option (List ℕ) → Type 0) (r : Result B E) (left rest : Option (List ℕ)) (given schedule : Option Reading) (T : Tree) → given ≡ schedule → IfSome left (λ text. ReadsWorld text T rest) → OnErr r (P T (schedule_text schedule rest)) → OnErr r (A ⊎ DoneOver P left given)
stopped A P r left rest given schedule T e reads = on_err_weaker r (λ p. inr (done_over P left rest given schedule T e reads p))

-- a run that played its schedule ends as one that did
pub is_played : (is_strict is_refused : Bool) → IsPlayed (played_status is_strict is_refused)
is_played true true = inr refl
is_played true false = inl refl
is_played false true = inl refl
is_played false false = inl refl
