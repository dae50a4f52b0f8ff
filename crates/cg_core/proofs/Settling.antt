-- A command of an open transaction is settled: the answer is the reply of the history, and with its record the parts are those
-- of the history after it.
use Rattle.std.proofs.Common.{◌≡◌, ℕ, ◌+◌, ◌-◌, true, false, List, ◌∷◌, length, Some, inl, inr, refl, sym, ap, subst, subst₂, ◌∙◌, true≢false, arith}
use Rattle.cg_history.specs.Meaning.{answer_of}
use Rattle.cg_history.specs.SessionMap.{found, with_value}
use Rattle.cg_history.specs.declared.record.Answer as rust
use Rattle.cg_history.specs.declared.record.Answer.TheVariants as answers
use Rattle.cg_locks.specs.Holdings.{Holdings}
use Rattle.cg_model.specs.Cgroups.{cgroups}
use Rattle.cg_model.specs.Command.{Command, IsProper}
use Rattle.cg_model.specs.Effect.{effect}
use Rattle.cg_model.specs.Footprint.{footprint}
use Rattle.cg_model.specs.History.{Do, Answer, Refused, History, Record, is_recorded}
use Rattle.cg_model.specs.Reply.{reply, is_full}
use Rattle.cg_model.specs.Run.{tree_of}
use Rattle.cg_model.specs.Tree.{Tree}
use Rattle.cg_name.specs.declared.refusal.Refusal.TheVariants as refusals
use Rattle.cg_core_laws.specs.MachineOf.{history_after}
use Rattle.cg_tree.specs.Room.{TreeWithRoom}
use Rattle.cg_txn.specs.Stack.{Stack}
use Rattle.cg_core.specs.Answers.{is_memory}
use Rattle.cg_core.specs.Doing.{IsCarriedOut}
use Rattle.cg_core.specs.Parts.{IsCoreOf}
use Rattle.cg_core.specs.Refusing.{IsFree, IsRefusedBy}
use Rattle.cg_core.specs.Settled.{IsRefused, IsGranted, IsSettled}
use Rattle.cg_core.proofs.RunCommands.{refused_here, free_here, carried_here, told, refused_reply, refused_history, refused_core, done_reply, done_history, done_core}

-- what is recorded of a command is no want of memory
pub no_memory : (c : Command) (a : rust.Answer) → is_recorded {y = cgroups} (Do c) (answer_of a) ≡ true → is_memory a ≡ false
no_memory c (answers.Refused refusals.Memory) e = absurd (true≢false (sym e))
no_memory c _ e = refl

module _ {O : Tree} {b : ℕ} {h : History cgroups} {n : ℕ} {R : TreeWithRoom} {H : Holdings} {xs : List (ℕ × Stack)} (core : IsCoreOf O b h n R H xs) (s : ℕ) (x : Stack) (is : found s xs ≡ Some x) (c : Command) (proper : IsProper c) (room : is_full b h ≡ false) (a : Answer) (R' : TreeWithRoom) (H' : Holdings) (x' : Stack) (k : History cgroups × ℕ) where
  -- its record
  abbrev noted : Answer → Record cgroups
  noted r = record { session = s; transaction = x.number; request = Do c; answer = r }

  module _ (e : IsRefused c R H x (h, n) a R' H' x' k) where
    by : IsRefusedBy H x.number (footprint c (tree_of cgroups O h)) (effect c (tree_of cgroups O h)) e.refusal
    by = refused_here core s x is c proper e.refusal x.number (footprint c R.tree) refl refl e.by

    reply_refused : reply cgroups O b h s (Do c) ≡ a
    reply_refused = refused_reply core s x is c proper room e.refusal by ∙ sym e.answer

    noted_refused : is_recorded {y = cgroups} (Do c) a ≡ true
    noted_refused = ap (is_recorded {y = cgroups} (Do c)) e.answer ∙ told core s x is c proper room e.refusal by

    history_refused : history_after O b h s (Do c) ≡ noted a ∷ k.0
    history_refused = refused_history core s x is c proper room e.refusal by ∙ (λ i. noted (sym e.answer i) ∷ (sym e.history i).0)

    core_refused : (n' : ℕ) → n' ≡ k.1 - 1 → IsCoreOf O b (noted a ∷ k.0) n' R' H' (with_value s x' xs)
    core_refused n' less =
        let slots : k.1 ≡ n + 1 = ap (λ p. p.1) e.history in
        let same : n' ≡ n = omega (arith, less, slots) in
        subst (λ (p : Answer × History cgroups). IsCoreOf O b (noted p.0 ∷ p.1) n' R' H' (with_value s x' xs)) (λ i. (sym e.answer i, (sym e.history i).0))
        (subst₂ (λ R H. IsCoreOf O b (noted (Refused e.refusal) ∷ h) n' R H (with_value s x' xs)) (sym e.tree) (sym e.locks)
        (refused_core core s x is c proper room e.refusal by n' x' same (ap (λ (v : Stack). v.number) e.stack) (ap (λ (v : Stack). v.items) e.stack)))

  module _ (e : IsGranted c R H x (h, n) a R' H' x' k) where
    free : IsFree H x.number (footprint c (tree_of cgroups O h))
    free = free_here core s x is c proper x.number (footprint c R.tree) refl refl e.free

    carried : IsCarriedOut c (length h) (footprint c (tree_of cgroups O h)) R H x a R' H' x'
    carried = carried_here core s x is c proper (length h) (footprint c R.tree) a R' H' x' refl refl e.carried

    reply_granted : reply cgroups O b h s (Do c) ≡ a
    reply_granted = done_reply core s x is c proper room free a R' H' x' carried

    noted_granted : is_recorded {y = cgroups} (Do c) a ≡ true
    noted_granted = ap (is_recorded {y = cgroups} (Do c)) e.carried.applied.answer

    history_granted : history_after O b h s (Do c) ≡ noted a ∷ k.0
    history_granted = done_history core s x is c proper room free a R' H' x' carried ∙ (λ i. noted a ∷ (sym e.history i).0)

    core_granted : (n' : ℕ) → n' ≡ k.1 - 1 → IsCoreOf O b (noted a ∷ k.0) n' R' H' (with_value s x' xs)
    core_granted n' less =
        let slots : k.1 ≡ n + 2 = ap (λ p. p.1) e.history in
        let more : n' ≡ n + 1 = omega (arith, less, slots) in
        subst (λ l. IsCoreOf O b (noted a ∷ l) n' R' H' (with_value s x' xs)) (λ i. (sym e.history i).0)
        (done_core core s x is c proper room free a R' H' x' carried n' more)

  module _ (settled : IsSettled c R H x (h, n) a R' H' x' k) where
    pub settled_reply : reply cgroups O b h s (Do c) ≡ a
    settled_reply = elim settled as (λ k. reply cgroups O b h s (Do c) ≡ a) [ inl e ↦ reply_refused e | inr e ↦ reply_granted e ]

    pub settled_noted : is_recorded {y = cgroups} (Do c) a ≡ true
    settled_noted = elim settled as (λ k. is_recorded {y = cgroups} (Do c) a ≡ true) [ inl e ↦ noted_refused e | inr e ↦ noted_granted e ]

    pub settled_history : history_after O b h s (Do c) ≡ noted a ∷ k.0
    settled_history = elim settled as (λ e. history_after O b h s (Do c) ≡ noted a ∷ k.0) [ inl e ↦ history_refused e | inr e ↦ history_granted e ]

    pub settled_core : (n' : ℕ) → n' ≡ k.1 - 1 → IsCoreOf O b (noted a ∷ k.0) n' R' H' (with_value s x' xs)
    settled_core n' less = elim settled as (λ e. IsCoreOf O b (noted a ∷ k.0) n' R' H' (with_value s x' xs)) [ inl e ↦ core_refused e n' less | inr e ↦ core_granted e n' less ]
