-- Busy is answered exactly where a transaction is in the way and no earlier refusal applies.
use Rattle.std.proofs.Common.{◌≡◌, ◌↔◌, ℕ, false, cond, Option, Some, None, refl, sym, ap, subst, ◌∙◌, true≢false, arith}
use Rattle.cg_name.specs.declared.refusal.Refusal.{Refusal}
use Rattle.cg_name.specs.declared.refusal.Refusal.TheVariants.{Busy, Full}
use Rattle.cg_model.specs.System.{Outcome, Refuse, Accept}
use Rattle.cg_model.specs.Tree.{Tree}
use Rattle.cg_model.specs.Command.{Command, Effect}
use Rattle.cg_model.specs.Effect.{effect}
use Rattle.cg_model.specs.Footprint.{footprint}
use Rattle.cg_model.specs.Cgroups.{cgroups}
use Rattle.cg_model.specs.History.{Do, Answer, Gave, Refused}
use Rattle.cg_model.specs.Opens.{numbers, without, transaction_in, opens}
use Rattle.cg_model.specs.Run.{tree_of, own_tree}
use Rattle.cg_model.specs.Reply.{holder, is_full, command_reply, attempt_reply, reply_at}
use Rattle.cg_model.specs.Machine.{Machine, step}
use Rattle.cg_model_laws.proofs.OwnChecks.{own_checks}
use Rattle.cg_core_laws.specs.Serial.{IsLeastHolder, IsSerial, IsFaithful}
use Rattle.cg_core_laws.specs.Laws.{IsLeastInTheWay}

abbrev named_by_busy : Answer → ℕ
named_by_busy (Refused (Busy t)) = t.0
named_by_busy _ = 0

busy_number : (v u : ℕ) → Refused (Busy (record { 0 = v })) ≡ Refused (Busy (record { 0 = u })) → v ≡ u
busy_number v u e = ap named_by_busy e

abbrev refusal_in : Refusal → Answer → Refusal
refusal_in r (Refused x) = x
refusal_in r _ = r

refusal_same : (r x : Refusal) → Refused r ≡ Refused x → r ≡ x
refusal_same r x e = ap (refusal_in r) e

not_given : (a : Outcome) (u : ℕ) → Gave a ≡ Refused (Busy (record { 0 = u })) → ⊥
not_given a u e = cc e

module _ (O : Tree) (m : Machine cgroups) (serial : IsSerial cgroups O m) (faithful : IsFaithful cgroups O m) (s t : ℕ) (opened : transaction_in s (opens m.history) ≡ Some t) (room : is_full m.bound m.history ≡ false) (c : Command) where
  abbrev held : Option ℕ
  held = holder cgroups O (footprint c m.tree) m.history (numbers (without t (opens m.history)))

  -- the answer, by the transaction in the way
  answer : (step cgroups m s (Do c)).1 ≡ command_reply held (effect c (own_tree cgroups O t m.history))
  answer =
      faithful.replies s (Do c)
      ∙ ap (λ o. reply_at cgroups O m.bound m.history o (Do c)) opened
      ∙ ap (λ b. cond b (Refused Full) (command_reply (holder cgroups O (footprint c (tree_of cgroups O m.history)) m.history (numbers (without t (opens m.history)))) (effect c (own_tree cgroups O t m.history)))) room
      ∙ ap (λ T. command_reply (holder cgroups O (footprint c T) m.history (numbers (without t (opens m.history)))) (effect c (own_tree cgroups O t m.history))) (sym serial.tree)

  -- no command refuses with Busy itself
  own_refusal : (u : ℕ) (e : Effect) → effect c (own_tree cgroups O t m.history) ≡ e → attempt_reply e ≡ Refused (Busy (record { 0 = u })) → ⊥
  own_refusal u (Accept a cs) is said = not_given a u said
  own_refusal u (Refuse r) is said =
      let busy = refusal_same r (Busy (record { 0 = u })) said in
      true≢false (sym (own_checks c (own_tree cgroups O t m.history) (Busy (record { 0 = u })) (is ∙ ap Refuse busy)))

  names : (h : Option ℕ) (u : ℕ) → held ≡ h → IsLeastHolder cgroups O (footprint c m.tree) m.history (numbers (without t (opens m.history))) h
      → command_reply h (effect c (own_tree cgroups O t m.history)) ≡ Refused (Busy (record { 0 = u })) → IsLeastInTheWay O m t c u
  names (Some v) u is least said =
      subst (IsLeastInTheWay O m t c) (busy_number v u said) (record { other = least.0; clashes = least.1; least = least.2 })
  names None u is least said = absurd (own_refusal u (effect c (own_tree cgroups O t m.history)) refl said)

  named : (h : Option ℕ) (u : ℕ) → IsLeastHolder cgroups O (footprint c m.tree) m.history (numbers (without t (opens m.history))) h
      → IsLeastInTheWay O m t c u → command_reply h (effect c (own_tree cgroups O t m.history)) ≡ Refused (Busy (record { 0 = u }))
  named None u none way = absurd (true≢false (sym way.clashes ∙ none u way.other))
  named (Some v) u least way =
      let low = least.2 u way.other way.clashes in
      let high = way.least v least.0 least.1 in
      let same : v ≡ u = omega arith in
      ap (λ n. Refused (Busy (record { 0 = n }))) same

  pub busy_exactly : (u : ℕ) → ((step cgroups m s (Do c)).1 ≡ Refused (Busy (record { 0 = u }))) ↔ IsLeastInTheWay O m t c u
  busy_exactly u =
      let least = faithful.busy t (footprint c m.tree) in
      ((λ said. names held u refl least (sym answer ∙ said)), (λ way. answer ∙ named held u least way))
