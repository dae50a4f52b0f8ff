-- What every step keeps, and that taking stack entries off keeps it.
use Rattle.std.proofs.Common.{◌≡◌, ℕ, ◌+◌, ◌≤◌, Bool, true, false, List, [], ◌∷◌, ◌==◌, not, refl, sym, ap, ◌∙◌, subst}
use Rattle.std.proofs.lemmas.Bool.{cond_both}
use Rattle.cg_name.specs.Name.{Name, same_name}
use Rattle.cg_model.specs.System.{System}
use Rattle.cg_model.specs.History.{Answer}
use Rattle.cg_model.specs.Opens.{among, numbers}
use Rattle.cg_model.specs.Machine.{StackEntry, Did, Savepoint}
use Rattle.cg_core_laws.specs.Unwind.{IsLast}
use Rattle.cg_core_laws.specs.Serial.{OnceEach}
use Rattle.cg_core_laws.proofs.Interleaving.SystemLaws.{SystemLaws}
use Rattle.cg_core_laws.proofs.Interleaving.RunsOfStackEntries.{owner, Accepts, moved, state, Runs, keep, only, skip, cut, Apart, Same}
use Rattle.cg_core_laws.proofs.Interleaving.LogMachine.{Log, unmoved, pop, pop_all, log_back_to}
use Rattle.cg_core_laws.proofs.Interleaving.Gathering.{after_cut}
use Rattle.cg_core_laws.proofs.Interleaving.TakingOff.{cut_apart, cut_keep, cut_own}
use Rattle.cg_core_laws.proofs.Interleaving.OpenTransactions.{closed}

-- the state is as if the stack entry had been the last
abbrev pub FitsNow : (y : System) → StackEntry y → y.State → Type 0
FitsNow y (Did t th c a d f) s = IsLast y c a d s
FitsNow y (Savepoint t th n) s = Unit {0}

-- the transactions of the stack entries are at most n
abbrev pub OwnersUpTo : {y : System} → ℕ → List (StackEntry y) → Type 0
OwnersUpTo n [] = Unit {0}
OwnersUpTo n (x ∷ a) = (owner x ≤ n) × OwnersUpTo n a

pub record Kept (y : System) (o : y.State) (c : Log y) : Type 0 where
  -- what stands runs in the order in which it was done, and gives the tree
  pub runs : Runs y o c.log
  pub tree : c.tree ≡ state y o c.log
  -- no stack entry clashes with an older one of another open transaction
  pub apart : (t : ℕ) → among t (numbers c.opens) ≡ true → Apart y t c.log
  -- what the closed transactions did, in the order in which it was done, can stand in commit order
  pub done : Same y o (keep (closed c.opens) c.log) c.done
  -- the transactions are numbered as they are begun, and open once each
  pub owners : OwnersUpTo c.begun c.log
  pub range : (t : ℕ) → among t (numbers c.opens) ≡ true → t ≤ c.begun
  pub once : OnceEach (numbers c.opens)

-- a step keeps it
abbrev pub Keeps : (y : System) → y.State → Log y × Answer → Type 0
Keeps y o p = Kept y o p.0

module _ (y : System) (laws : SystemLaws y) (o : y.State) where
  goes_back : (s : y.State) (x : StackEntry y) → Accepts y s x → FitsNow y x (moved y x s) × (unmoved y x (moved y x s) ≡ s)
  goes_back s (Did t th c a d f) h =
      let before = laws.goes_back s c a d h.1 in
      (record { fits = laws.fits s c a d h.1; again = ap (y.effect c) before ∙ h.1; back = ap (y.done d) before }, before)
  goes_back s (Savepoint t th n) h = (tt, refl)

  owners_cut_step : (t n : ℕ) (x : StackEntry y) (a : List (StackEntry y)) (b : Bool) → (OwnersUpTo n a → OwnersUpTo n (cut t a)) → OwnersUpTo n (x ∷ a) → OwnersUpTo n (skip b x a (cut t a))
  owners_cut_step t n x a true i h = h.1
  owners_cut_step t n x a false i h = (h.0, i h.1)

  owners_cut : (t n : ℕ) (a : List (StackEntry y)) → OwnersUpTo n a → OwnersUpTo n (cut t a)
  owners_cut t n [] h = h
  owners_cut t n (x ∷ a) h = owners_cut_step t n x a (owner x == t) (owners_cut t n a) h

  -- one stack entry is taken off
  pub pop_kept : (c : Log y) (t : ℕ) (x : StackEntry y) (r : List (StackEntry y)) → Kept y o c → among t (numbers c.opens) ≡ true → only t c.log ≡ x ∷ r → FitsNow y x c.tree × Kept y o (pop y c t x)
  pop_kept c t x r k is_open e =
      let p = after_cut y laws o t x c.log r (k.apart t is_open) e k.runs in
      let back = goes_back (state y o (cut t c.log)) x p.0.0 in
      let now : moved y x (state y o (cut t c.log)) ≡ c.tree = p.1 ∙ sym k.tree in (
        subst (FitsNow y x) now back.0,
        record {
          runs = p.0.1;
          tree = subst (λ s. unmoved y x s ≡ state y o (cut t c.log)) now back.1;
          apart = λ u m. cut_apart y t u c.log (k.apart u m);
          done = subst (λ l. Same y o l c.done) (sym (cut_keep y t (closed c.opens) c.log (ap not is_open))) k.done;
          owners = owners_cut t c.begun c.log k.owners;
          range = k.range;
          once = k.once;
        },
      )

  -- all that a transaction did is taken off
  pub pop_all_kept : (t : ℕ) (l : List (StackEntry y)) (c : Log y) → Kept y o c → among t (numbers c.opens) ≡ true → only t c.log ≡ l → Kept y o (pop_all y t l c) × (only t (pop_all y t l c).log ≡ []) × ((pop_all y t l c).opens ≡ c.opens)
  pop_all_kept t [] c k m e = (k, e, refl)
  pop_all_kept t (x ∷ l) c k m e = pop_all_kept t l (pop y c t x) (pop_kept c t x l k m e).1 m (cut_own y t x c.log l e)

  pub back_kept : (t : ℕ) (n : Name) (l : List (StackEntry y)) (c : Log y) (j : ℕ) → Kept y o c → among t (numbers c.opens) ≡ true → only t c.log ≡ l → Kept y o (log_back_to y t n l c j).0
  back_kept t n [] c j k m e = k
  back_kept t n (Did u uh b a d f ∷ l) c j k m e =
      back_kept t n l (pop y c t (Did u uh b a d f)) (j + 1) (pop_kept c t (Did u uh b a d f) l k m e).1 m (cut_own y t _ c.log l e)
  back_kept t n (Savepoint u uh i ∷ l) c j k m e =
      let p = (pop_kept c t (Savepoint u uh i) l k m e).1 in
      cond_both (same_name i n) _ _ (Keeps y o) (λ _. p) (λ _. back_kept t n l (pop y c t (Savepoint u uh i)) j p m (cut_own y t _ c.log l e))
