-- Readers of what two words name.
use Rattle.std.proofs.Common.{◌≡◌, ℕ, List, Ok, Err, true, false, cond, ◌∙◌, refl, sym, ap, subst, inl, inr}
use Rattle.std.specs.Prelude.{◌⊎◌, ◌&&◌, Bool, Option, Some, None, IsSome, MatchOption, Result, IfOk, OnErr}
use Rattle.std.specs.Option.{option_map}
use Rattle.std.specs.Io.KnownBytes.{Appends}
use Rattle.std.proofs.lemmas.Option.{IfSome_then}
use Rattle.cg_model.specs.Cgroups.{cgroups}
use Rattle.cg_model.specs.History.{History}
use Rattle.cg_model.specs.Tree.{Tree}
use Rattle.cg_lines.specs.Lines.{Reading, pending}
use Rattle.cg_script.specs.HistoryText.{history_text}
use Rattle.cg_program.specs.Files.{IsFileNamed}
use Rattle.cg_program.specs.Program.{schedule_text, DoneOver}
use Rattle.cg_program.specs.Named.{is_standard, named, schedule_named, DoneOverNamed}

-- the second reader is that of the schedule that the words name, or there is none where it stands behind the world
abbrev pub IsScheduleNamed : Option (List ℕ) → (List ℕ → Option (List ℕ)) → List ℕ → List ℕ → Option Reading → Type 0
IsScheduleNamed standard file world schedule second =
    MatchOption second (is_standard world && is_standard schedule ≡ true)
    (λ r. (is_standard world && is_standard schedule ≡ false) × (pending r ≡ named standard file schedule))

same_schedule : (standard : Option (List ℕ)) (file : List ℕ → Option (List ℕ)) (world schedule : List ℕ) (second : Option Reading) (rest : Option (List ℕ)) → IsScheduleNamed standard file world schedule second → schedule_text second rest ≡ schedule_named standard file world schedule rest
same_schedule standard file world schedule None rest h = ap (λ b. cond b rest (named standard file schedule)) (sym h)
same_schedule standard file world schedule (Some r) rest h = h.1 ∙ ap (λ b. cond b rest (named standard file schedule)) (sym h.0)

pub done_named : (P : Tree → Option (List ℕ) → Type 0) (standard : Option (List ℕ)) (file : List ℕ → Option (List ℕ)) (world schedule : List ℕ) (left : Option (List ℕ)) (second : Option Reading) → left ≡ named standard file world → IsScheduleNamed standard file world schedule second → DoneOver P left second → DoneOverNamed P standard file world schedule
done_named P standard file world schedule left second e h done =
    IfSome_then (named standard file world) (subst (λ left. DoneOver P left second) e done)
    (λ text q. (q.0, q.1, q.2, subst (P q.0) (same_schedule standard file world schedule second q.1 h) q.3))

-- ---- what was played over the readers was played over what the words name

module _ (standard : Option (List ℕ)) (file : List ℕ → Option (List ℕ)) (world schedule : List ℕ) (left : Option (List ℕ)) (second : Option Reading) (e : left ≡ named standard file world) (h : IsScheduleNamed standard file world schedule second) where
  abbrev pub Over : (Tree → Option (List ℕ) → Type 0) → Type 0
  Over P = DoneOverNamed P standard file world schedule

  over : (P : Tree → Option (List ℕ) → Type 0) → DoneOver P left second → Over P
  over P done = done_named P standard file world schedule left second e h done

  -- some history results, of which more is so
  pub played_named : {E : Type 0} (P : Bool → History cgroups → Tree → Option (List ℕ) → Type 0) (Q : History cgroups → Type 0) (r : Result Bool E) → IfOk r (λ b. (past : History cgroups) × DoneOver (P b past) left second × Q past) → IfOk r (λ b. (past : History cgroups) × Over (P b past) × Q past)
  played_named P Q (Ok b) done = (done.0, over (P b done.0) done.1, done.2)
  played_named P Q (Err x) done = tt

  -- the playing stopped, where no history is kept
  pub stopped_named : {E : Type 0} (A C : Type 0) (S : Tree → Option (List ℕ) → Type 0) (r : Result Bool E) → OnErr r (A ⊎ DoneOver S left second) → OnErr r (A ⊎ (Over S ⊎ C))
  stopped_named A C S (Ok b) stops = tt
  stopped_named A C S (Err x) (inl a) = inl a
  stopped_named A C S (Err x) (inr stops) = inr (inl (over S stops))

  -- or one is
  pub unkept_named : {E C : Type 0} (A : Type 0) (S : Tree → Option (List ℕ) → Type 0) (P : Bool → History cgroups → Tree → Option (List ℕ) → Type 0) (r : Result Bool E) → C
      → OnErr r (A ⊎ (DoneOver S left second ⊎ ((b : Bool) × (past : History cgroups) × DoneOver (P b past) left second))) → OnErr r (A ⊎ (Over S ⊎ (C × ((b : Bool) × (past : History cgroups) × Over (P b past)))))
  unkept_named A S P (Ok b) c stops = tt
  unkept_named A S P (Err x) c (inl a) = inl a
  unkept_named A S P (Err x) c (inr (inl stops)) = inr (inl (over S stops))
  unkept_named A S P (Err x) c (inr (inr whole)) = inr (inr (c, (whole.0, whole.1, over (P whole.0 whole.1) whole.2)))

-- ---- the history's file

-- nothing is said of one that isn't asked for
pub with_none : {W E : Type 0} (P : Bool → History cgroups → Type 0) (nothing : Option (List ℕ)) (file : List ℕ → Option (List ℕ)) (now : W → List ℕ) (name : Option W) (r : Result Bool E) → name ≡ None
    → IfOk r (λ b. (past : History cgroups) × P b past) → IfOk r (λ b. (past : History cgroups) × P b past × IsFileNamed nothing file (option_map now name) (history_text past))
with_none P nothing file now name (Ok b) none done = (done.0, done.1, subst (λ o. IsFileNamed nothing file (option_map now o) (history_text done.0)) (sym none) tt)
with_none P nothing file now name (Err x) none done = tt

-- and one that is has the bytes of its name's
pub with_some : {W E : Type 0} (P : Bool → History cgroups → Type 0) (nothing : Option (List ℕ)) (file : List ℕ → Option (List ℕ)) (now : W → List ℕ) (name : Option W) (w : W) (r : Result Bool E) → name ≡ Some w
    → IfOk r (λ b. (past : History cgroups) × P b past × Appends nothing (file (now w)) (history_text past)) → IfOk r (λ b. (past : History cgroups) × P b past × IsFileNamed nothing file (option_map now name) (history_text past))
with_some P nothing file now name w (Ok b) some done = (done.0, done.1, subst (λ o. IsFileNamed nothing file (option_map now o) (history_text done.0)) (sym some) done.2)
with_some P nothing file now name w (Err x) some done = tt

pub is_given : {W : Type 0} (o : Option W) (w : W) → o ≡ Some w → IsSome o
is_given o w some = subst IsSome (sym some) refl
