-- The live commands of different open transactions don't clash, and so they change keys that don't touch.
use Rattle.std.proofs.Common.{◌≡◌, ◌≢◌, ℕ, Bool, true, false, List, [], ◌∷◌, ◌==◌, refl, sym, subst, ◌∙◌}
use Rattle.std.proofs.lemmas.Bool.{eqb-true}
use Rattle.std.specs.List.{AllByRecursion}
use Rattle.cg_model.specs.System.{System}
use Rattle.cg_model.specs.Tree.{Tree}
use Rattle.cg_model.specs.Change.{Change}
use Rattle.cg_model.specs.Command.{Effect}
use Rattle.cg_model.specs.Cgroups.{cgroups}
use Rattle.cg_model.specs.Opens.{numbers, among, opens}
use Rattle.cg_model.specs.Live.{Item, joined_if, live}
use Rattle.cg_model.specs.Run.{tree_of}
use Rattle.cg_model.specs.Room.{changes_of, inverse}
use Rattle.cg_model.specs.Machine.{StackEntry, Did, Savepoint}
use Rattle.cg_model_laws.specs.Laws.{KeysDontTouch}
use Rattle.cg_model_laws.proofs.AcceptedCommands.{keys_of_both_apart}
use Rattle.cg_core_laws.specs.Laws.{LiveKeysApart}
use Rattle.cg_core_laws.proofs.Interleaving.SystemLaws.{SystemLaws}
use Rattle.cg_core_laws.proofs.Interleaving.RunsOfStackEntries.{owner, Free, FreeOf, only, Apart}
use Rattle.cg_core_laws.proofs.Interleaving.LogMachine.{Log}
use Rattle.cg_core_laws.proofs.Interleaving.MachineOfLog.{machine_of}
use Rattle.cg_core_laws.proofs.Interleaving.LogInvariant.{Kept}
use Rattle.cg_core_laws.proofs.Interleaving.HistoryTie.{as_item, as_items, StackEntriesTrue, Tied, entries_true_one, entries_true_only}

-- each of the one list is free of all of the other
abbrev AllFree : (y : System) → List (StackEntry y) → List (StackEntry y) → Type 0
AllFree y a b = AllByRecursion (λ x. FreeOf y x b) a

module _ (y : System) (laws : SystemLaws y) where
  free_back : (x z : StackEntry y) → Free y x z → Free y z x
  free_back (Did t th c a d f) (Did u uh b e k g) h = laws.clash_sym g f ∙ h
  free_back (Did t th c a d f) (Savepoint u uh n) h = tt
  free_back (Savepoint t th m) (Did u uh b e k g) h = tt
  free_back (Savepoint t th m) (Savepoint u uh n) h = tt

  with_newer : (x : StackEntry y) (a b : List (StackEntry y)) → FreeOf y x a → AllFree y a b → AllFree y a (x ∷ b)
  with_newer x [] b h i = tt
  with_newer x (z ∷ a) b h i = ((free_back x z h.0, i.0), with_newer x a b h.1 i.1)

  free_step : (x : StackEntry y) (a b : List (StackEntry y)) (own other : Bool) → (own ≡ true → other ≡ true → ⊥) → (own ≡ false → FreeOf y x a) → (other ≡ false → FreeOf y x b) → AllFree y a b → AllFree y (joined_if own x a) (joined_if other x b)
  free_step x a b true true never h k i = absurd (never refl refl)
  free_step x a b true false never h k i = (k refl, i)
  free_step x a b false true never h k i = with_newer x a b (h refl) i
  free_step x a b false false never h k i = i

  pub all_free : (t u : ℕ) → t ≢ u → (a : List (StackEntry y)) → Apart y t a → Apart y u a → AllFree y (only t a) (only u a)
  all_free t u ne [] h k = tt
  all_free t u ne (x ∷ a) h k =
      free_step x (only t a) (only u a) (owner x == t) (owner x == u) (λ p q. ne (sym (eqb-true (owner x) t p) ∙ eqb-true (owner x) u q)) h.0 k.0 (all_free t u ne a h.1 k.1)

module _ (O : Tree) where
  abbrev ApartFrom : Item cgroups → Item cgroups → Type 0
  ApartFrom x z = KeysDontTouch (inverse O x) (inverse O z)

  no_keys : (cs : List Change) → KeysDontTouch cs []
  no_keys [] = tt
  no_keys (c ∷ cs) = (tt, no_keys cs)

  entries_apart : (x z : StackEntry cgroups) (a b : List (StackEntry cgroups)) → StackEntriesTrue cgroups O (x ∷ a) → StackEntriesTrue cgroups O (z ∷ b) → Free cgroups x z → ApartFrom (as_item x) (as_item z)
  entries_apart (Did t th c a d f) (Did u uh b e k g) l r p q h =
      subst (λ (v : Effect). KeysDontTouch (changes_of v) (inverse O (as_item (Did u uh b e k g)))) (sym p.1)
      (subst (λ (v : Effect). KeysDontTouch d (changes_of v)) (sym q.1)
      (keys_of_both_apart c b (tree_of cgroups O th) (tree_of cgroups O uh) a e d k p.1 q.1 (cc (p.0, q.0, h))))
  entries_apart (Did t th c a d f) (Savepoint u uh n) l r p q h = no_keys (inverse O (as_item (Did t th c a d f)))
  entries_apart (Savepoint t th m) z l r p q h = tt

  apart_from_all : (x : StackEntry cgroups) (a b : List (StackEntry cgroups)) → StackEntriesTrue cgroups O (x ∷ a) → StackEntriesTrue cgroups O b → FreeOf cgroups x b → AllByRecursion (ApartFrom (as_item x)) (as_items b)
  apart_from_all x a [] p q h = tt
  apart_from_all x a (z ∷ b) p q h = (entries_apart x z a b p q h.0, apart_from_all x a b p (entries_true_one cgroups O z b q) h.1)

  all_apart : (a b : List (StackEntry cgroups)) → StackEntriesTrue cgroups O a → StackEntriesTrue cgroups O b → AllFree cgroups a b → AllByRecursion (λ x. AllByRecursion (ApartFrom x) (as_items b)) (as_items a)
  all_apart [] b p q h = tt
  all_apart (x ∷ a) b p q h = (apart_from_all x a b p q h.0, all_apart a b (entries_true_one cgroups O x a p) q h.1)

  pub keys_of_others_apart : SystemLaws cgroups → (c : Log cgroups) → Kept cgroups O c → Tied cgroups O c → LiveKeysApart O (machine_of c)
  keys_of_others_apart laws c k d t u m n ne =
      let is_open : (v : ℕ) → among v (numbers (opens c.history)) ≡ true → among v (numbers c.opens) ≡ true = λ v e. subst (λ ps. among v (numbers ps) ≡ true) (sym d.opens) e in
      let true_of : (v : ℕ) → StackEntriesTrue cgroups O (only v c.log) = λ v. entries_true_only cgroups O v c.log d.entries_true in
      let free = all_free cgroups laws t u ne c.log (k.apart t (is_open t m)) (k.apart u (is_open u n)) in
      subst (λ l. AllByRecursion (λ x. AllByRecursion (ApartFrom x) l) (live t c.history)) (d.lives u)
      (subst (λ l. AllByRecursion (λ x. AllByRecursion (ApartFrom x) (as_items (only u c.log))) l) (d.lives t)
      (all_apart (only t c.log) (only u c.log) (true_of t) (true_of u) free))
