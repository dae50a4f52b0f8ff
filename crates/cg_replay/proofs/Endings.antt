-- At the end of a schedule the open transaction with the least number is aborted, and then the others in turn.
use Rattle.std.proofs.Common.{◌≡◌, ℕ, ◌<◌, ◌==◌, false, Bool, cond, List, [], ◌∷◌, ◌++◌, length, map, reverse, get_or, Option, Some, None, refl, sym, ap, subst, ◌∙◌, arith, append_assoc, length-append, ne_eqb}
use Rattle.std.proofs.lemmas.Option.{none-some, same_Some}
use Rattle.std.proofs.lemmas.Bool.{eq-eqb}
use Rattle.std.specs.List.{AllByRecursion}
use Rattle.std.proofs.lemmas.List.{reverse-append}
use Rattle.cg_name.specs.declared.refusal.Refusal.{Refusal}
use Rattle.std.specs.Bool.{OnFalse}
use Rattle.cg_model.specs.Cgroups.{cgroups}
use Rattle.cg_model.specs.History.{Abort, Answer, Saved, Aborted, Refused, is_recorded, named_in}
use Rattle.cg_model.specs.Machine.{step}
use Rattle.cg_model.specs.Opens.{Opens, numbers, without, transaction_in, opens}
use Rattle.cg_model.specs.Output.{answers}
use Rattle.cg_model.specs.Reply.{reply_at}
use Rattle.cg_core_laws.specs.Ends.{GoDown, EndsAll}
use Rattle.cg_core_laws.specs.MachineOf.{with_record}
use Rattle.cg_core_laws.proofs.ControlGroups.LawsOfGroups.{laws}
use Rattle.cg_core_laws.proofs.ControlGroups.SteppingOn.{steps_by_history}
use Rattle.cg_core_laws.proofs.Interleaving.AbortsAtTheEnd.{ends_all}
use Rattle.cg_core.specs.State.{CoreState, machine, reply, after}
use Rattle.cg_history.specs.SessionMap.{oldest}
use Rattle.cg_script.proofs.Facts.{cons_nil}
use Rattle.cg_world_text.specs.World.{world_text}
use Rattle.cg_replay.proofs.Reached.{IsReached}
use Rattle.cg_replay.specs.Replay.{answer_line, ending_sessions, abort_lines, aborted_by, core_ended, tree_now, ending_by, ending_text}

-- ---- the open transactions, of which the oldest stands last

-- the last one is of session s
pub record IsLast (ps : Opens) (s : ℕ) : Type 0 where
  pub others : Opens
  pub number : ℕ
  pub all : ps ≡ others ++ (s, number) ∷ []

pub last_of : (ps : Opens) (s : ℕ) → oldest ps ≡ Some s → IsLast ps s
last_of [] s e = absurd (none-some _ e)
last_of (x ∷ []) s e = record { others = []; number = x.1; all = ap (λ k. (k, x.1) ∷ []) (same_Some _ _ e) }
last_of (x ∷ y ∷ xs) s e = let l = last_of (y ∷ xs) s e in record { others = x ∷ l.others; number = l.number; all = ap (λ ps. x ∷ ps) l.all }

pub none_open : (ps : Opens) → oldest ps ≡ None → ps ≡ []
none_open [] e = refl
none_open (x ∷ []) e = absurd (none-some _ (sym e))
none_open (x ∷ y ∷ xs) e = absurd (cons_nil (none_open (y ∷ xs) e))

last_below : (n : ℕ) (others : Opens) (s t : ℕ) → AllByRecursion (λ m. m < n) (numbers (others ++ (s, t) ∷ [])) → t < n
last_below n [] s t h = h.0
last_below n (q ∷ others) s t h = last_below n others s t h.1

-- the least number goes, and the others stay
without_last : (others : Opens) (s t : ℕ) → GoDown (numbers (others ++ (s, t) ∷ [])) → without t (others ++ (s, t) ∷ []) ≡ others
without_last [] s t h = ap (λ b. cond b [] ((s, t) ∷ [])) (eq-eqb t t refl)
without_last (q ∷ others) s t h =
    let more : t < q.1 = last_below q.1 others s t h.0 in
    let other : (q.1 == t) ≡ false = ne_eqb q.1 t (λ e. omega (arith, more, e)) in
    rw other (ap (λ ps. q ∷ ps) (without_last others s t h.1))

-- ---- one abort

refused_aborted : {r : Refusal} {t : ℕ} → Refused r ≡ Aborted t → ⊥
refused_aborted e = cc

aborted_same : {u t : ℕ} → Aborted u ≡ Aborted t → u ≡ t
aborted_same e = cc

module _ (c : CoreState) (is : IsReached c) (others : Opens) (s t : ℕ) (all : opens c.history ≡ others ++ (s, t) ∷ []) where
  ends : EndsAll cgroups c.opening (machine c)
  ends = subst (EndsAll cgroups c.opening) is.reached.leads (ends_all cgroups laws c.opening is.sound c.bound is.reached.requests is.reached.proper)

  turned : reverse (opens c.history) ≡ (s, t) ∷ reverse others
  turned = ap reverse all ∙ reverse-append others ((s, t) ∷ [])

  first_answer : (step cgroups (machine c) s Abort).1 ≡ Aborted t
  first_answer =
      ap (λ l. get_or l 0 Saved)
      (subst (λ ps. (answers cgroups (machine c) (map (λ p. (p.0, Abort)) ps)).0 ≡ map (λ p. Aborted p.1) ps) turned ends.accepted)

  answered : reply c s Abort ≡ Aborted t
  answered = sym (steps_by_history c.opening c.bound c.history s Abort is.sound is.reached tt).answer ∙ first_answer

  in_it : (o : Option ℕ) → reply_at cgroups c.opening c.bound c.history o Abort ≡ Aborted t → o ≡ Some t
  in_it None e = absurd (refused_aborted e)
  in_it (Some u) e = ap (λ v. Some v) (aborted_same e)

  found : transaction_in s (opens c.history) ≡ Some t
  found = in_it (transaction_in s (opens c.history)) answered

  left : opens (after c s Abort).history ≡ others
  left =
      ap (λ (a : Answer). opens (cond (is_recorded {y = cgroups} Abort a) (with_record c.history s Abort a) c.history)) answered
      ∙ ap (λ o. without (named_in o (Aborted t)) (opens c.history)) found
      ∙ ap (without t) all
      ∙ without_last others s t (subst (λ ps. GoDown (numbers ps)) all ends.numbered)

  pub ending_first : ending_text c ≡ answer_line c s Abort ++ ending_text (after c s Abort)
  ending_first =
      let next : CoreState = after c s Abort in
      let ks : List ℕ = map (λ p. p.0) (reverse others) in
      let now : ending_sessions c.history ≡ s ∷ ks = ap (λ (ps : Opens). map (λ p. p.0) ps) turned in
      let then_ : ending_sessions next.history ≡ ks = ap (λ (ps : Opens). map (λ p. p.0) (reverse ps)) left in
      ap (ending_by c) now
      ∙ append_assoc (answer_line c s Abort) (abort_lines next ks) (world_text (tree_now (aborted_by next ks)))
      ∙ ap (λ ks. answer_line c s Abort ++ ending_by next ks) (sym then_)

  pub ending_same : core_ended c ≡ core_ended (after c s Abort)
  ending_same =
      let next : CoreState = after c s Abort in
      let ks : List ℕ = map (λ p. p.0) (reverse others) in
      let now : ending_sessions c.history ≡ s ∷ ks = ap (λ (ps : Opens). map (λ p. p.0) ps) turned in
      let then_ : ending_sessions next.history ≡ ks = ap (λ (ps : Opens). map (λ p. p.0) (reverse ps)) left in
      ap (aborted_by c) now ∙ ap (aborted_by next) (sym then_)

  pub fewer_open : length (opens (after c s Abort).history) < length (opens c.history)
  fewer_open = omega (arith, ap length left, ap length all, length-append others ((s, t) ∷ []))

-- where none is open, the tree alone is written
pub ending_last : (c : CoreState) → opens c.history ≡ [] → ending_text c ≡ world_text (tree_now c)
ending_last c none = ap (λ (ps : Opens). ending_by c (map (λ p. p.0) (reverse ps))) none

-- and nothing more is done
pub ended_last : (c : CoreState) → opens c.history ≡ [] → c ≡ core_ended c
ended_last c none = sym (ap (λ (ps : Opens). aborted_by c (map (λ p. p.0) (reverse ps))) none)

-- the session of the least number has aborted, and d is left
pub record IsAborted (c : CoreState) (s : ℕ) (d : CoreState) : Type 0 where
  pub text : ending_text c ≡ answer_line c s Abort ++ ending_text d
  pub fewer : length (opens d.history) < length (opens c.history)
  pub same : core_ended c ≡ core_ended d

pub aborted : (c d : CoreState) (s : ℕ) → IsReached c → oldest (opens c.history) ≡ Some s → d ≡ after c s Abort → IsAborted c s d
aborted c d s is least same =
    let l = last_of (opens c.history) s least in
    subst (IsAborted c s) (sym same) (record { text = ending_first c is l.others s l.number l.all; fewer = fewer_open c is l.others s l.number l.all; same = ending_same c is l.others s l.number l.all })

-- ---- what a step leaves

pub on_false : (b : Bool) {P : Type 0} → b ≡ false → OnFalse b P → P
on_false b {P} e h = subst (λ b. OnFalse b P) e h
