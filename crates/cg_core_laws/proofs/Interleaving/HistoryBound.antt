-- The history never outgrows its bound, where that is two at least.
use Rattle.std.proofs.Common.{◌≡◌, ℕ, ◌+◌, ◌-◌, ◌≤◌, Bool, true, false, cond, List, [], ◌∷◌, length, ◌==◌, ◌||◌, Option, Some, None, refl, sym, ap, ◌∙◌, subst, arith}
use Rattle.std.specs.Prelude.{nat_lt}
use Rattle.std.proofs.lemmas.Bool.{cond_both, eqb-true, eq-eqb, false_from_ne_true, or_right}
use Rattle.std.proofs.lemmas.Bool.Decides.{nat_tests}
use Rattle.cg_name.specs.Name.{Name, same_name}
use Rattle.cg_model.specs.System.{System, Attempt, Refuse, Accept}
use Rattle.cg_model.specs.History.{Request, Begin, Do, Save, Back, Undo, Commit, Abort, Answer, WentBack, is_recorded}
use Rattle.cg_model.specs.Opens.{Opens, numbers, among, without, transaction_in}
use Rattle.cg_model.specs.Machine.{StackEntry, Did, Savepoint, stack_has_savepoint}
use Rattle.cg_core_laws.specs.Serial.{OnceEach, AreProper}
use Rattle.cg_core_laws.proofs.Interleaving.SystemLaws.{SystemLaws}
use Rattle.cg_core_laws.proofs.Interleaving.RunsOfStackEntries.{owner, only, cut}
use Rattle.cg_core_laws.proofs.Interleaving.LogMachine.{Log, log_opened, log_holder, pop, pop_all, log_back_to, try_do, do_at, undo_at, others, held, is_full_log, log_step_in, log_step_out, log_step_at, log_noted, log_step, log_steps}
use Rattle.cg_core_laws.proofs.Interleaving.StepsWithoutTransaction.{of_out}
use Rattle.cg_core_laws.proofs.Interleaving.TakingOff.{cut_keep, cut_own}
use Rattle.cg_core_laws.proofs.Interleaving.OpenTransactions.{transaction_open}
use Rattle.cg_core_laws.proofs.Interleaving.LogInvariant.{OwnersUpTo, Kept}
use Rattle.cg_core_laws.proofs.Interleaving.LogInvariantKept.{none_of_next, step_kept, start_kept}
use Rattle.cg_core_laws.proofs.Interleaving.UnchangedBySteps.{unchanged_all, unchanged_back, bound_step}
use Rattle.cg_core_laws.proofs.Interleaving.UnrecordedSteps.{quiet_at}

-- the records and the reserved slots are within the bound
abbrev pub IsWithinBound : {y : System} → Log y → Type 0
IsWithinBound c = length c.history + (length c.opens + held c.opens c.log) ≤ c.bound

-- n more slots are free
abbrev Spare : {y : System} → Log y → ℕ → Type 0
Spare c n = length c.history + (length c.opens + held c.opens c.log) + n ≤ c.bound

module _ (y : System) where
  -- logs that agree on the stacks of these hold as much
  held_same : (ps : Opens) (a b : List (StackEntry y)) → ((u : ℕ) → among u (numbers ps) ≡ true → length (only u b) ≡ length (only u a)) → held ps b ≡ held ps a
  held_same [] a b e = refl
  held_same (p ∷ ps) a b e =
      let at : (p.1 == p.1) ≡ true = eq-eqb p.1 p.1 refl in
      rw (e p.1 (rw at), held_same ps a b (λ u m. e u (or_right (u == p.1) (among u (numbers ps)) m)))

  -- t's stack loses one, the others nothing
  held_less : (t : ℕ) (ps : Opens) (a b : List (StackEntry y)) → OnceEach (numbers ps) → among t (numbers ps) ≡ true → length (only t b) + 1 ≡ length (only t a) → ((u : ℕ) → (t == u) ≡ false → only u b ≡ only u a) → held ps b + 1 ≡ held ps a
  held_less t [] a b once m e same = absurd (cc m)
  held_less t (p ∷ ps) a b once m e same = at (t == p.1) refl m (λ n. held_less t ps a b once.1 n e same)
    where
      at : (c : Bool) → (t == p.1) ≡ c → (c || among t (numbers ps)) ≡ true → (among t (numbers ps) ≡ true → held ps b + 1 ≡ held ps a) → length (only p.1 b) + held ps b + 1 ≡ length (only p.1 a) + held ps a
      at true k n i =
          let v = eqb-true t p.1 k in
          let e' : length (only p.1 b) + 1 ≡ length (only p.1 a) = subst (λ w. length (only w b) + 1 ≡ length (only w a)) v e in
          let others_same : held ps b ≡ held ps a = held_same ps a b (λ u q. ap length (same u (false_from_ne_true (t == u) (λ z. let w = sym v ∙ eqb-true t u z in let bad = ap (λ x. among x (numbers ps)) w ∙ q in cc (once.0, bad))))) in
          omega arith
      at false k n i =
          let e' = ap length (same p.1 k) in
          let j = i n in
          omega arith

  -- what ends frees its slot and its stack
  held_without : (t : ℕ) (ps : Opens) (a : List (StackEntry y)) → among t (numbers ps) ≡ true → length (without t ps) + held (without t ps) a + 1 ≤ length ps + held ps a
  held_without t [] a m = absurd (cc m)
  held_without t (p ∷ ps) a m = at (p.1 == t) (t == p.1) refl refl m (λ n. held_without t ps a n)
    where
      less : (ps : Opens) → length (without t ps) + held (without t ps) a ≤ length ps + held ps a
      less [] = omega arith
      less (q ∷ qs) = less_step (q.1 == t) (less qs)
        where
          less_step : (b : Bool) → length (without t qs) + held (without t qs) a ≤ length qs + held qs a → length (cond b (without t qs) (q ∷ without t qs)) + held (cond b (without t qs) (q ∷ without t qs)) a ≤ length (q ∷ qs) + held (q ∷ qs) a
          less_step true i = omega arith
          less_step false i = omega arith

      at : (b c : Bool) → (p.1 == t) ≡ b → (t == p.1) ≡ c → (c || among t (numbers ps)) ≡ true → (among t (numbers ps) ≡ true → length (without t ps) + held (without t ps) a + 1 ≤ length ps + held ps a) → length (cond b (without t ps) (p ∷ without t ps)) + held (cond b (without t ps) (p ∷ without t ps)) a + 1 ≤ length (p ∷ ps) + held (p ∷ ps) a
      at true c k l n j = let i = less ps in omega arith
      at false true k l n j = let v = eq-eqb p.1 t (sym (eqb-true t p.1 l)) in absurd (cc (k, v))
      at false false k l n j = let i = j n in omega arith

  full_spare : (c : Log y) → 2 ≤ c.bound → is_full_log c ≡ false → Spare c 2
  full_spare c le e = within c.bound (length c.history + (length c.opens + held c.opens c.log)) le e
    where
      within : (l n : ℕ) → 2 ≤ l → nat_lt (l - 2) n ≡ false → n + 2 ≤ l
      within l n le e = grind (arith, nat_tests)

  pop_less : (c : Log y) (t : ℕ) (x : StackEntry y) (r : List (StackEntry y)) → OnceEach (numbers c.opens) → among t (numbers c.opens) ≡ true → only t c.log ≡ x ∷ r → held c.opens (cut t c.log) + 1 ≡ held c.opens c.log
  pop_less c t x r once m e =
      let n : length (only t (cut t c.log)) + 1 ≡ length (only t c.log) = rw (cut_own y t x c.log r e, e) (omega arith) in
      held_less t c.opens c.log (cut t c.log) once m n (λ u k. cut_keep y t (λ v. v == u) c.log k)

  -- n stack entries fewer at least
  abbrev Fewer : ℕ → Log y → Log y → Type 0
  Fewer n c c' = held c.opens c'.log + n ≤ held c.opens c.log

  all_fewer : (t : ℕ) (l : List (StackEntry y)) (c : Log y) → OnceEach (numbers c.opens) → among t (numbers c.opens) ≡ true → only t c.log ≡ l → Fewer 0 c (pop_all y t l c)
  all_fewer t [] c once m e = omega arith
  all_fewer t (x ∷ l) c once m e =
      let p = all_fewer t l (pop y c t x) once m (cut_own y t x c.log l e) in
      let q = pop_less c t x l once m e in
      omega arith

  fewer_cond : (c c1 : Log y) (b m : Bool) (a : Answer) (p : Log y × Answer) → (b || m) ≡ true → Fewer 1 c c1 → (m ≡ true → Fewer 1 c p.0) → Fewer 1 c (cond b (c1, a) p).0
  fewer_cond c c1 true m a p e i j = i
  fewer_cond c c1 false m a p e i j = j e

  back_fewer : (t : ℕ) (n : Name) (l : List (StackEntry y)) (c : Log y) (k : ℕ) → OnceEach (numbers c.opens) → among t (numbers c.opens) ≡ true → only t c.log ≡ l → stack_has_savepoint n l ≡ true → Fewer 1 c (log_back_to y t n l c k).0
  back_fewer t n [] c k once m e w = absurd (cc w)
  back_fewer t n (Did u h b a d f ∷ l) c k once m e w =
      let x : StackEntry y = Did u h b a d f in
      let p = back_fewer t n l (pop y c t x) (k + 1) once m (cut_own y t x c.log l e) w in
      let q = pop_less c t x l once m e in
      omega arith
  back_fewer t n (Savepoint u h j ∷ l) c k once m e w =
      let x : StackEntry y = Savepoint u h j in
      let q = pop_less c t x l once m e in
      fewer_cond c (pop y c t x) (same_name j n) (stack_has_savepoint n l) (WentBack k) _ w (omega arith)
      (λ v. let p = back_fewer t n l (pop y c t x) k once m (cut_own y t x c.log l e) v in omega arith)

  -- a recorded answer finds its slot
  abbrev Placed : Request y → Log y × Answer → Type 0
  Placed r p = is_recorded r p.1 ≡ true → Spare p.0 1

  -- one more stack entry of t
  held_more : (t : ℕ) (ps : Opens) (x : StackEntry y) (a : List (StackEntry y)) → OnceEach (numbers ps) → among t (numbers ps) ≡ true → owner x ≡ t → held ps a + 1 ≡ held ps (x ∷ a)
  held_more t ps x a once m e =
      held_less t ps (x ∷ a) a once m
      (let k : (owner x == t) ≡ true = eq-eqb (owner x) t e in rw k (omega arith))
      (λ u n. let k : (owner x == u) ≡ false = ap (λ v. v == u) e ∙ n in rw k)

  placed_try : (c : Log y) (t : ℕ) (b : y.Command) (r : Attempt y.Change) → OnceEach (numbers c.opens) → among t (numbers c.opens) ≡ true → Spare c 2 → Placed (Do b) (try_do y c t b r)
  placed_try c t b (Accept a d) once m s w = let q = held_more t c.opens (Did t c.history b a d (y.footprint b c.tree)) c.log once m refl in omega arith
  placed_try c t b (Refuse x) once m s w = omega arith

  placed_do : (c : Log y) (t : ℕ) (b : y.Command) (h : Option ℕ) → OnceEach (numbers c.opens) → among t (numbers c.opens) ≡ true → Spare c 2 → Placed (Do b) (do_at y c t b h)
  placed_do c t b (Some u) once m s w = omega arith
  placed_do c t b None once m s w = placed_try c t b (y.effect b c.tree) once m s w

  placed_undo : (c : Log y) (t : ℕ) (l : List (StackEntry y)) → OnceEach (numbers c.opens) → among t (numbers c.opens) ≡ true → only t c.log ≡ l → IsWithinBound c → Placed Undo (undo_at y c t l)
  placed_undo c t [] once m e h w = absurd (cc w)
  placed_undo c t (Savepoint u g n ∷ l) once m e h w = absurd (cc w)
  placed_undo c t (Did u g b a d f ∷ l) once m e h w = let q = pop_less c t (Did u g b a d f) l once m e in omega arith

  placed_back : (c : Log y) (t : ℕ) (n : Name) → OnceEach (numbers c.opens) → among t (numbers c.opens) ≡ true → IsWithinBound c → stack_has_savepoint n (only t c.log) ≡ true → Placed (Back n) (log_back_to y t n (only t c.log) c 0)
  placed_back c t n once m h e w =
      let u = unchanged_back y t n (only t c.log) c 0 in
      let f = back_fewer t n (only t c.log) c 0 once m refl e in
      rw (u.opens, u.history, u.bound) (omega arith)

  placed_in : (c : Log y) (s t : ℕ) (r : Request y) → OnceEach (numbers c.opens) → among t (numbers c.opens) ≡ true → 2 ≤ c.bound → IsWithinBound c → Placed r (log_step_in y c s t r)
  placed_in c s t Begin once m le h w = absurd (cc w)
  placed_in c s t (Do b) once m le h w =
      cond_both (is_full_log c) _ _ (Placed (Do b)) (λ e v. absurd (cc v)) (λ e. placed_do c t b (log_holder y (y.footprint b c.tree) c.log (others y c t)) once m (full_spare c le e)) w
  placed_in c s t (Save n) once m le h w =
      cond_both (stack_has_savepoint n (only t c.log)) _ _ (Placed (Save n)) (λ e v. absurd (cc v))
      (λ e. cond_both (is_full_log c) _ _ (Placed (Save n)) (λ k v. absurd (cc v)) (λ k v. let q = held_more t c.opens (Savepoint t c.history n) c.log once m refl in let z = full_spare c le k in omega arith)) w
  placed_in c s t (Back n) once m le h w = cond_both (stack_has_savepoint n (only t c.log)) _ _ (Placed (Back n)) (λ e. placed_back c t n once m h e) (λ e v. absurd (cc v)) w
  placed_in c s t Undo once m le h w = placed_undo c t (only t c.log) once m refl h w
  placed_in c s t Commit once m le h w = let q = held_without t c.opens c.log m in omega arith
  placed_in c s t Abort once m le h w =
      let u = unchanged_all y t (only t c.log) c in
      let f = all_fewer t (only t c.log) c once m refl in
      let c' = pop_all y t (only t c.log) c in
      let q = held_without t c.opens c'.log m in
      rw (u.opens, u.history, u.bound) (omega arith)

  placed_out : (c : Log y) (s : ℕ) (r : Request y) → OwnersUpTo c.begun c.log → 2 ≤ c.bound → IsWithinBound c → Placed r (log_step_out y c s r)
  placed_out c s r ow le h =
      of_out y Placed c s (λ q x e w. absurd (cc (e, w)))
      (λ e w. let z = full_spare c le e in let q : length (only (c.begun + 1) c.log) ≡ 0 = ap length (none_of_next y c.begun c.log ow) in omega arith) r

  placed_noted : (c : Log y) (s : ℕ) (r : Request y) (h : Option ℕ) (p : Log y × Answer) (b : Bool) → is_recorded r p.1 ≡ b → IsWithinBound c → Placed r p → (is_recorded r p.1 ≡ false → p.0 ≡ c) → IsWithinBound (log_noted b s r h p).0
  placed_noted c s r h p true k is_within i q = let z = i k in omega arith
  placed_noted c s r h p false k is_within i q = subst (λ (d : Log y). IsWithinBound d) (sym (q k)) is_within

  placed_at : (o : y.State) (c : Log y) (s : ℕ) (r : Request y) (h : Option ℕ) → transaction_in s c.opens ≡ h → Kept y o c → 2 ≤ c.bound → IsWithinBound c → Placed r (log_step_at y c s r h)
  placed_at o c s r (Some t) e k le is_within = placed_in c s t r k.once (transaction_open s t c.opens e) le is_within
  placed_at o c s r None e k le is_within = placed_out c s r k.owners le is_within

module _ (y : System) (laws : SystemLaws y) (o : y.State) where
  within_step : (c : Log y) (s : ℕ) (r : Request y) → Kept y o c → 2 ≤ c.bound → IsWithinBound c → IsWithinBound (log_step y c s r).0
  within_step c s r k le is_within =
      let h = transaction_in s c.opens in
      let p = log_step_at y c s r h in
      placed_noted y c s r h p (is_recorded r p.1) refl is_within (placed_at y o c s r h refl k le is_within) (quiet_at y c s r h)

  within_steps : (ps : List (ℕ × Request y)) (c : Log y) → AreProper ps → Kept y o c → 2 ≤ c.bound → IsWithinBound c → IsWithinBound (log_steps y c ps)
  within_steps [] c proper k le is_within = is_within
  within_steps (p ∷ ps) c proper k le is_within =
      let e = bound_step y c p.0 p.1 in
      within_steps ps (log_step y c p.0 p.1).0 proper.1 (step_kept y laws o c p.0 p.1 proper.0 k) (omega arith) (within_step c p.0 p.1 k le is_within)

  pub within_bound : (bound : ℕ) (ps : List (ℕ × Request y)) → AreProper ps → 2 ≤ bound → IsWithinBound (log_steps y (log_opened y o bound) ps)
  within_bound bound ps proper le = within_steps ps (log_opened y o bound) proper (start_kept y laws o bound) le (omega arith)
