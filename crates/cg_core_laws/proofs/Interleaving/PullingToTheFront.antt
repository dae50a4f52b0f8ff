-- Open transactions are pulled to the front, one after another.
use Rattle.std.proofs.Common.{◌≡◌, ℕ, Bool, true, false, List, [], ◌∷◌, ◌++◌, ◌==◌, ◌||◌, ◌&&◌, not, refl, sym, ap, ◌∙◌, subst, inl, inr}
use Rattle.std.specs.List.{AllByRecursion}
use Rattle.std.proofs.lemmas.Bool.{eqb-true, eq-eqb, false_from_ne_true, or_cases}
use Rattle.cg_model.specs.System.{System}
use Rattle.cg_model.specs.Opens.{Opens, numbers, among, opens}
use Rattle.cg_model.specs.Live.{joined_if, committed, stacked}
use Rattle.cg_model.specs.Run.{run_items, Accepted}
use Rattle.cg_model.specs.Machine.{StackEntry}
use Rattle.cg_core_laws.specs.Serial.{OnceEach}
use Rattle.cg_core_laws.specs.Reordered.{of_those, not_pulled, PulledToTheFront}
use Rattle.cg_core_laws.proofs.Interleaving.SystemLaws.{SystemLaws}
use Rattle.cg_core_laws.proofs.Interleaving.RunsOfStackEntries.{owner, Free, FreeOf, keep, only, Apart, Same, blocks}
use Rattle.cg_core_laws.proofs.Interleaving.LogMachine.{Log}
use Rattle.cg_core_laws.proofs.Interleaving.TakingOff.{free_tail, keep_all}
use Rattle.cg_core_laws.proofs.Interleaving.Gathering.{same_refl, same_trans, same_append, gather_step, canon}
use Rattle.cg_core_laws.proofs.Interleaving.OpenTransactions.{closed}
use Rattle.cg_core_laws.proofs.Interleaving.LogInvariant.{Kept}
use Rattle.cg_core_laws.proofs.Interleaving.LogInvariantKept.{passes}
use Rattle.cg_core_laws.proofs.Interleaving.HistoryTie.{as_item, as_items, Tied, owner_as_item, as_items_put, as_items_append, ran}
use Rattle.cg_core_laws.proofs.Interleaving.SerialAndFaithful.{as_items_blocks}
use Rattle.cg_core_laws.proofs.Interleaving.MachineOfLog.{machine_of}

-- an open transaction that isn't in a list, and the others
abbrev waits : Opens → List ℕ → ℕ → Bool
waits ps ts u = among u (numbers ps) && not (among u ts)

abbrev is_through : Opens → List ℕ → ℕ → Bool
is_through ps ts u = among u ts || closed ps u

either : (m n : Bool) → ((m && not n) || (n || not m)) ≡ true
either true true = refl
either true false = refl
either false true = refl
either false false = refl

not_both : (m n : Bool) → (m && not n) ≡ true → (n || not m) ≡ false
not_both true false e = refl
not_both true true e = absurd (cc e)
not_both false n e = absurd (cc e)

left : (m n : Bool) → (m && n) ≡ true → m ≡ true
left true n e = refl
left false n e = absurd (cc e)

module _ (y : System) (laws : SystemLaws y) (o : y.State) where
  free_one : (x z : StackEntry y) (a : List (StackEntry y)) → FreeOf y x (only (owner z) (z ∷ a)) → Free y x z
  free_one x z a h = (subst (λ b. FreeOf y x (joined_if b z (only (owner z) a))) (eq-eqb (owner z) (owner z) refl) h).0

  free_of_put : (x z : StackEntry y) (l : List (StackEntry y)) (b : Bool) → (b ≡ true → Free y x z) → FreeOf y x l → FreeOf y x (joined_if b z l)
  free_of_put x z l true h i = (h refl, i)
  free_of_put x z l false h i = i

  free_of_those : (x : StackEntry y) (r : ℕ → Bool) (a : List (StackEntry y)) → ((t : ℕ) → r t ≡ true → FreeOf y x (only t a)) → FreeOf y x (keep r a)
  free_of_those x r [] h = tt
  free_of_those x r (z ∷ a) h =
      free_of_put x z (keep r a) (r (owner z)) (λ e. free_one x z a (h (owner z) e)) (free_of_those x r a (λ t e. free_tail y x z (only t a) (owner z == t) (h t e)))

  -- the stack entries of some transactions on top of those of others
  gather_those : (r q : ℕ → Bool) → ((u : ℕ) → r u ≡ true → q u ≡ false) → (a : List (StackEntry y)) → ((t : ℕ) → r t ≡ true → Apart y t a) → Same y o (keep (λ u. r u || q u) a) (keep r a ++ keep q a)
  gather_those r q apart [] h = same_refl y laws o []
  gather_those r q apart (x ∷ a) h =
      gather_step y laws o x (keep r a) (keep q a) (keep (λ u. r u || q u) a) (r (owner x)) (q (owner x)) (apart (owner x))
      (λ out. free_of_those x r a (λ t e. (h t e).0 (false_from_ne_true (owner x == t) (λ k. let same = ap r (eqb-true (owner x) t k) in cc (same, out, e)))))
      (gather_those r q apart a (λ t e. (h t e).1))

  pulled : (c : Log y) (ts : List ℕ) → Kept y o c → OnceEach ts → ((t : ℕ) → among t ts ≡ true → among t (numbers c.opens) ≡ true) → Same y o c.log (keep (waits c.opens ts) c.log ++ blocks ts c.log c.done)
  pulled c ts k once are_open =
      let r = waits c.opens ts in
      let q = is_through c.opens ts in
      let all = keep_all y (λ u. r u || q u) c.log (passes (λ u. r u || q u) c.log (λ u. either (among u (numbers c.opens)) (among u ts))) in
      let parted = gather_those r q (λ u e. not_both (among u (numbers c.opens)) (among u ts) e) c.log (λ t e. k.apart t (left (among t (numbers c.opens)) (not (among t ts)) e)) in
      same_trans y laws o _ _ _
      (subst (λ l. Same y o l (keep r c.log ++ keep q c.log)) all parted)
      (same_append y laws o (keep r c.log) _ _ (canon y laws o (closed c.opens) c.log c.done ts once (λ t m. let n = are_open t m in (ap not n, k.apart t n)) k.done))

  as_items_keep : (r : ℕ → Bool) (a : List (StackEntry y)) → as_items (keep r a) ≡ of_those r (as_items a)
  as_items_keep r [] = refl
  as_items_keep r (x ∷ a) = as_items_put y o (r (owner x)) x (keep r a) ∙ (λ i. joined_if (r (sym (owner_as_item y o x) i)) (as_item x) (as_items_keep r a i))

  each_among : (P : ℕ → Type 0) (ts : List ℕ) → AllByRecursion P ts → (t : ℕ) → among t ts ≡ true → P t
  each_among P [] h t m = absurd (cc m)
  each_among P (u ∷ ts) h t m = elim (or_cases (t == u) (among t ts) m) [
    | inl k ↦ subst P (sym (eqb-true t u k)) h.0
    | inr k ↦ each_among P ts h.1 t k
  ]

  pub pulled_to_the_front : (c : Log y) → Kept y o c → Tied y o c → PulledToTheFront y o (machine_of c)
  pulled_to_the_front c k d ts once are_open =
      let waiting : List (StackEntry y) = keep (waits c.opens ts) c.log in
      let front : List (StackEntry y) = blocks ts c.log c.done in
      let is_open : (t : ℕ) → among t ts ≡ true → among t (numbers c.opens) ≡ true = λ t m. ap (λ ps. among t (numbers ps)) d.opens ∙ each_among (λ u. among u (numbers (opens c.history)) ≡ true) ts are_open t m in
      let p = (pulled c ts k once is_open).by k.runs in
      let q = ran y o (waiting ++ front) p.0 in
      let rest : as_items waiting ≡ not_pulled ts c.history = as_items_keep (waits c.opens ts) c.log ∙ (λ i. of_those (λ t. among t (numbers (d.opens i)) && not (among t ts)) (d.stands i)) in
      let e : as_items (waiting ++ front) ≡ not_pulled ts c.history ++ stacked ts c.history (committed c.history) = as_items_append y o waiting front ∙ (λ i. rest i ++ as_items_blocks y laws o c ts d i) in
      (subst (Accepted y o) e q.1, sym (ap (run_items y o) e) ∙ q.0 ∙ p.1 ∙ sym k.tree)
