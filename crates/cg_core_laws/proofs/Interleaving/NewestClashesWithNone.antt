-- Nothing that survives clashes with the newest command of an open transaction.
use Rattle.std.proofs.Common.{◌≡◌, ℕ, Bool, true, false, List, [], ◌∷◌, ◌++◌, ◌==◌, refl, sym, ap, ◌∙◌, subst}
use Rattle.std.proofs.lemmas.Bool.{eq-eqb}
use Rattle.cg_model.specs.System.{System, Outcome}
use Rattle.cg_model.specs.History.{History}
use Rattle.cg_model.specs.Opens.{numbers, among, opens}
use Rattle.cg_model.specs.Live.{Item, Ran, AtSavepoint, Items, joined_if}
use Rattle.cg_model.specs.Run.{run_items}
use Rattle.cg_model.specs.Machine.{StackEntry, Did, Savepoint}
use Rattle.cg_core_laws.specs.Reordered.{of_those, ClashesWithNone, NewestClashesWithNone}
use Rattle.cg_core_laws.proofs.Interleaving.SystemLaws.{SystemLaws}
use Rattle.cg_core_laws.proofs.Interleaving.RunsOfStackEntries.{owner, Free, FreeOf, state, Runs, only, Apart}
use Rattle.cg_core_laws.proofs.Interleaving.LogMachine.{Log}
use Rattle.cg_core_laws.proofs.Interleaving.TakingOff.{free_tail}
use Rattle.cg_core_laws.proofs.Interleaving.AnswersInParts.{runs_below}
use Rattle.cg_core_laws.proofs.Interleaving.LogInvariant.{Kept}
use Rattle.cg_core_laws.proofs.Interleaving.HistoryTie.{as_item, as_items, Tied, as_items_append, ran}
use Rattle.cg_core_laws.proofs.Interleaving.MachineOfLog.{machine_of}

not_joined : {A : Type 0} (b : Bool) (x : A) (l : List A) → joined_if b x l ≡ [] → (b ≡ false) × (l ≡ [])
not_joined true x l e = absurd (cc e)
not_joined false x l e = (refl, e)

module _ (y : System) where
  -- the log is parted where its items are
  record Parted (log : List (StackEntry y)) (newer : Items y) (x : Item y) (older : Items y) : Type 0 where
    later : List (StackEntry y)
    entry : StackEntry y
    earlier : List (StackEntry y)
    whole : log ≡ later ++ entry ∷ earlier
    later_is : as_items later ≡ newer
    entry_is : as_item entry ≡ x
    earlier_is : as_items earlier ≡ older

  parted : (log : List (StackEntry y)) (newer : Items y) (x : Item y) (older : Items y) → as_items log ≡ newer ++ x ∷ older → Parted log newer x older
  parted [] [] x older e = absurd (cc e)
  parted [] (z ∷ newer) x older e = absurd (cc e)
  parted (w ∷ log) [] x older e = record { later = []; entry = w; earlier = log; whole = refl; later_is = refl; entry_is = cc e; earlier_is = cc e }
  parted (w ∷ log) (z ∷ newer) x older e =
      let tail : as_items log ≡ newer ++ x ∷ older = cc e in
      let head : as_item w ≡ z = cc e in
      let p = parted log newer x older tail in
      record {
        later = w ∷ p.later;
        entry = p.entry;
        earlier = p.earlier;
        whole = λ i. w ∷ p.whole i;
        later_is = λ i. head i ∷ p.later_is i;
        entry_is = p.entry_is;
        earlier_is = p.earlier_is;
      }

  free_found : (t : ℕ) (z x : StackEntry y) (later earlier : List (StackEntry y)) → owner x ≡ t → FreeOf y z (only t (later ++ x ∷ earlier)) → Free y z x
  free_found t z x [] earlier own h = (subst (λ b. FreeOf y z (joined_if b x (only t earlier))) (eq-eqb (owner x) t own) h).0
  free_found t z x (w ∷ later) earlier own h = free_found t z x later earlier own (free_tail y z w (only t (later ++ x ∷ earlier)) (owner w == t) h)

module _ (y : System) (laws : SystemLaws y) (o : y.State) where
  module _ (t : ℕ) (th : History y) (c : y.Command) (a : Outcome) (d : y.Change) (f : y.Footprint) (earlier : List (StackEntry y)) where
    abbrev taken : StackEntry y
    taken = Did t th c a d f

    clash_free : (u : ℕ) (uh : History y) (b : y.Command) (q : Outcome) (e : y.Change) (g : y.Footprint) (later : List (StackEntry y)) → Runs y o (Did u uh b q e g ∷ (later ++ taken ∷ earlier)) → Free y (Did u uh b q e g) taken
        → y.clashes (y.footprint c (run_items y o (as_items earlier))) (y.footprint b (run_items y o (as_items later ++ as_item taken ∷ as_items earlier))) ≡ false
    clash_free u uh b q e g later runs free =
        let before : Runs y o (taken ∷ earlier) = runs_below y laws o later (taken ∷ earlier) runs.1 in
        let own : y.footprint c (run_items y o (as_items earlier)) ≡ f = ap (y.footprint c) (ran y o earlier before.1).0 ∙ before.0.2 in
        let all : run_items y o (as_items later ++ as_item taken ∷ as_items earlier) ≡ state y o (later ++ taken ∷ earlier) = ap (run_items y o) (sym (as_items_append y o later (taken ∷ earlier))) ∙ (ran y o (later ++ taken ∷ earlier) runs.1).0 in
        let other : y.footprint b (run_items y o (as_items later ++ as_item taken ∷ as_items earlier)) ≡ g = ap (y.footprint b) all ∙ runs.0.2 in
        (λ i. y.clashes (own i) (other i)) ∙ laws.clash_sym f g ∙ free

    none : (later : List (StackEntry y)) → Runs y o (later ++ taken ∷ earlier) → Apart y t (later ++ taken ∷ earlier) → of_those (λ u. u == t) (as_items later) ≡ [] → ClashesWithNone y o (y.footprint c (run_items y o (as_items earlier))) (as_items later) (as_item taken ∷ as_items earlier)
    none [] runs apart newest = tt
    none (Did u uh b q e g ∷ later) runs apart newest =
        let (other, rest) = not_joined (u == t) (Ran u uh b q) (of_those (λ v. v == t) (as_items later)) newest in
        let free : Free y (Did u uh b q e g) taken = free_found y t (Did u uh b q e g) taken later earlier refl (apart.0 other) in
        (clash_free u uh b q e g later runs free, none later runs.1 apart.1 rest)
    none (Savepoint u uh n ∷ later) runs apart newest = none later runs.1 apart.1 (not_joined (u == t) (AtSavepoint u uh n) (of_those (λ v. v == t) (as_items later)) newest).1

  -- what is to be shown of the item between, where the transactions that pass are open
  abbrev Shown : (ℕ → Type 0) → Items y → Items y → Item y → Type 0
  Shown IsOpen newer older (Ran t h c a) = IsOpen t → of_those (λ u. u == t) newer ≡ [] → ClashesWithNone y o (y.footprint c (run_items y o older)) newer (Ran t h c a ∷ older)
  Shown IsOpen newer older (AtSavepoint t h n) = Unit {0}

  shown : (IsOpen : ℕ → Type 0) (later : List (StackEntry y)) (x : StackEntry y) (earlier : List (StackEntry y)) → Runs y o (later ++ x ∷ earlier) → ((t : ℕ) → IsOpen t → Apart y t (later ++ x ∷ earlier)) → Shown IsOpen (as_items later) (as_items earlier) (as_item x)
  shown IsOpen later (Did t th c a d f) earlier runs apart = λ is_open newest. none t th c a d f earlier later runs (apart t is_open) newest
  shown IsOpen later (Savepoint t th n) earlier runs apart = tt

  pub newest_clashes_with_none : (c : Log y) → Kept y o c → Tied y o c → NewestClashesWithNone y o (machine_of c)
  newest_clashes_with_none c k d newer older t h b a is_open e newest =
      let IsOpen : ℕ → Type 0 = λ u. among u (numbers (opens c.history)) ≡ true in
      let p : Parted y c.log newer (Ran t h b a) older = parted y c.log newer (Ran t h b a) older (d.stands ∙ e) in
      let s : Shown IsOpen (as_items p.later) (as_items p.earlier) (as_item p.entry) = shown IsOpen p.later p.entry p.earlier (subst (Runs y o) p.whole k.runs)
      (λ u m. subst (Apart y u) p.whole (k.apart u (ap (λ ps. among u (numbers ps)) d.opens ∙ m))) in
      subst (Shown IsOpen newer older) p.entry_is
      (subst (λ l. Shown IsOpen newer l (as_item p.entry)) p.earlier_is
      (subst (λ l. Shown IsOpen l (as_items p.earlier) (as_item p.entry)) p.later_is s)) is_open newest
