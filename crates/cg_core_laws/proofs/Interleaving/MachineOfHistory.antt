-- The machine of a machine with a log is that of its history.
use Rattle.std.proofs.Common.{◌≡◌, ℕ, List, [], ◌∷◌, map, length, suc, refl, sym, ap, ◌∙◌}
use Rattle.std.specs.List.{AllByRecursion}
use Rattle.cg_model.specs.System.{System}
use Rattle.cg_model.specs.History.{Request, History}
use Rattle.cg_model.specs.Opens.{Opens}
use Rattle.cg_model.specs.Live.{live}
use Rattle.cg_model.specs.Reply.{footprints, live_footprints}
use Rattle.cg_model.specs.Machine.{StackEntry, Did, Savepoint, Transaction, opened, steps}
use Rattle.cg_core_laws.specs.Stacks.{as_items, footprints_on, StackEntriesTrue, IsOfHistory}
use Rattle.cg_core_laws.specs.Serial.{AreProper}
use Rattle.cg_core_laws.proofs.Interleaving.SystemLaws.{SystemLaws}
use Rattle.cg_core_laws.proofs.Interleaving.RunsOfStackEntries.{only}
use Rattle.cg_core_laws.proofs.Interleaving.LogMachine.{Log, log_opened}
use Rattle.cg_core_laws.proofs.Interleaving.UnchangedBySteps.{bound_steps}
use Rattle.cg_core_laws.proofs.Interleaving.MachineRunsAsLog.{steps_are}
use Rattle.cg_core_laws.proofs.Interleaving.MachineOfLog.{stacks_of, machine_of}
use Rattle.cg_core_laws.proofs.Interleaving.HistoryTie.{Tied, entries_true_only}

module _ (y : System) (o : y.State) where
  opens_of : (ps : Opens) (log : List (StackEntry y)) → map (λ (x : Transaction y). (x.session, x.number)) (stacks_of ps log) ≡ ps
  opens_of [] log = refl
  opens_of (p ∷ ps) log = ap (λ qs. p ∷ qs) (opens_of ps log)

  as_many_stacks : (ps : Opens) (log : List (StackEntry y)) → length (stacks_of ps log) ≡ length ps
  as_many_stacks [] log = refl
  as_many_stacks (p ∷ ps) log = ap suc (as_many_stacks ps log)

  stacks_live : (ps : Opens) (log : List (StackEntry y)) (h : History y) → ((u : ℕ) → as_items (only u log) ≡ live u h) → AllByRecursion (λ (x : Transaction y). as_items x.stack ≡ live x.number h) (stacks_of ps log)
  stacks_live [] log h lives = tt
  stacks_live (p ∷ ps) log h lives = (lives p.1, stacks_live ps log h lives)

  stacks_true : (ps : Opens) (log : List (StackEntry y)) → StackEntriesTrue y o log → AllByRecursion (λ (x : Transaction y). StackEntriesTrue y o x.stack) (stacks_of ps log)
  stacks_true [] log true_ones = tt
  stacks_true (p ∷ ps) log true_ones = (entries_true_only y o p.1 log true_ones, stacks_true ps log true_ones)

  held_of : (l : List (StackEntry y)) → StackEntriesTrue y o l → footprints_on l ≡ footprints y o (as_items l)
  held_of [] h = refl
  held_of (Did t th c a d f ∷ l) h = λ i. h.0 i ∷ held_of l h.2 i
  held_of (Savepoint t th n ∷ l) h = held_of l h

  stacks_hold : (ps : Opens) (log : List (StackEntry y)) (h : History y) → StackEntriesTrue y o log → ((u : ℕ) → as_items (only u log) ≡ live u h) → AllByRecursion (λ (x : Transaction y). footprints_on x.stack ≡ live_footprints y o x.number h) (stacks_of ps log)
  stacks_hold [] log h true_ones lives = tt
  stacks_hold (p ∷ ps) log h true_ones lives =
      (held_of (only p.1 log) (entries_true_only y o p.1 log true_ones) ∙ ap (footprints y o) (lives p.1), stacks_hold ps log h true_ones lives)

  pub of_history : (c : Log y) → Tied y o c → IsOfHistory y o (machine_of c)
  of_history c d = record {
    transactions = opens_of c.opens c.log ∙ d.opens;
    open_count = as_many_stacks c.opens c.log ∙ ap length d.opens;
    stacks = stacks_live c.opens c.log c.history d.lives;
    stack_entries = stacks_true c.opens c.log d.entries_true;
    footprints = stacks_hold c.opens c.log c.history d.entries_true d.lives;
    begun = d.begun;
    commits = d.commits;
  }

  pub bound_kept : SystemLaws y → (bound : ℕ) (rs : List (ℕ × Request y)) → AreProper rs → (steps y (opened y o bound) rs).bound ≡ bound
  bound_kept laws bound rs proper = ap (λ m. m.bound) (sym (steps_are y laws o bound rs proper)) ∙ bound_steps y rs (log_opened y o bound)
