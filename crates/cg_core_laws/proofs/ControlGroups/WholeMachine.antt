-- A machine whose parts are those of its history is the one that its history gives.
use Rattle.std.proofs.Common.{◌≡◌, List, [], ◌∷◌, map, refl, sym, ap, ◌∙◌}
use Rattle.std.specs.List.{AllByRecursion}
use Rattle.cg_model.specs.Tree.{Tree}
use Rattle.cg_model.specs.Cgroups.{cgroups}
use Rattle.cg_model.specs.History.{History}
use Rattle.cg_model.specs.Live.{live}
use Rattle.cg_model.specs.Room.{changes_of}
use Rattle.cg_model.specs.Machine.{StackEntry, Did, Savepoint, Transaction, Machine}
use Rattle.cg_core_laws.specs.MachineOf.{entry_of, transaction_of, machine_of}
use Rattle.cg_core_laws.specs.Serial.{IsSerial}
use Rattle.cg_core_laws.specs.Stacks.{as_items, StackEntriesTrue, IsOfHistory}

module _ (O : Tree) where
  stack_is : (l : List (StackEntry cgroups)) → StackEntriesTrue cgroups O l → l ≡ map (entry_of O) (as_items l)
  stack_is [] e = refl
  stack_is (Did t h c a d f ∷ l) e = λ i. Did t h c a (sym (ap changes_of e.1) i) (e.0 i) ∷ stack_is l e.2 i
  stack_is (Savepoint t h n ∷ l) e = ap (λ k. Savepoint t h n ∷ k) (stack_is l e)

  transactions_are : (h : History cgroups) (xs : List (Transaction cgroups)) → AllByRecursion (λ x. as_items x.stack ≡ live x.number h) xs → AllByRecursion (λ x. StackEntriesTrue cgroups O x.stack) xs
      → xs ≡ map (transaction_of O h) (map (λ x. (x.session, x.number)) xs)
  transactions_are h [] lives true_ones = refl
  transactions_are h (x ∷ xs) lives true_ones =
      λ i. record x { stack = (stack_is x.stack true_ones.0 ∙ ap (map (entry_of O)) lives.0) i } ∷ transactions_are h xs lives.1 true_ones.1 i

  pub machine_is : (m : Machine cgroups) → IsOfHistory cgroups O m → IsSerial cgroups O m → m ≡ machine_of O m.bound m.history
  machine_is m told serial = λ i. record {
    tree = serial.tree i;
    transactions = (transactions_are m.history m.transactions told.stacks told.stack_entries ∙ ap (map (transaction_of O m.history)) told.transactions) i;
    begun = told.begun i;
    commits = told.commits i;
    history = m.history;
    bound = m.bound;
  }
