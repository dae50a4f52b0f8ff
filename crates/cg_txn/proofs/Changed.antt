-- The stack after an item was put on or taken off, and what is known of its savepoints.
use Rattle.std.proofs.Common.{◌≡◌, ◌↔◌, ℕ, Bool, true, false, nat_eq, List, [], ◌∷◌, ◌++◌, Result, Ok, Err, IfOk, refl, sym, ap, ◌∙◌}
use Rattle.std.proofs.lemmas.Bool.{false≢true}
use Rattle.std.specs.Cmp.Lexicographic.{pointwise}
use Rattle.std.specs.List.{list_any}
use Rattle.std.specs.Result.{IsErrOf, is_err}
use Rattle.indexmap.specs.IndexSet.{insert_key}
use Rattle.cg_name.specs.Name.{Name}
use Rattle.cg_name.specs.declared.refusal.Refusal.{Refusal}
use Rattle.cg_name.specs.declared.refusal.Refusal.TheVariants as refusals
use Rattle.cg_txn.specs.declared.entry.Item.{Item}
use Rattle.cg_txn.specs.declared.entry.Item.TheVariants as items
use Rattle.cg_txn.specs.Items.{item_of, names_of, stack_of}
use Rattle.cg_txn.specs.Stack.{Stack, has_savepoint}
use Rattle.cg_txn.proofs.Names.{by_names, with_savepoint}
use Rattle.cg_txn.proofs.Taking.{newest_of}

-- with one item more, and none reserved
pub put_on : (s : Stack) (number : ℕ) (xs all : List Item) (x : Item) (r : Bool) → record { number = number; items = stack_of xs; reserved = r } ≡ s → all ≡ xs ++ x ∷ [] → record { number = number; items = stack_of all; reserved = false } ≡ record s { items = item_of x ∷ s.items; reserved = false }
put_on s number xs all x r view is = λ i. record {
  number = (view i).number;
  items = (newest_of all xs x is ∙ ap (λ v. item_of x ∷ v.items) view) i;
  reserved = false;
}

-- with one item less
pub taken_off : (s : Stack) (number : ℕ) (xs all : List Item) (x : Item) (r : Bool) → record { number = number; items = stack_of all; reserved = r } ≡ s → all ≡ xs ++ x ∷ [] → s ≡ record { number = number; items = item_of x ∷ stack_of xs; reserved = r }
taken_off s number xs all x r view is = sym view ∙ (λ i. record { number = number; items = newest_of all xs x is i; reserved = r })

-- the set of names tells whether a savepoint stands
pub found : (n : Name) (s : Stack) (number : ℕ) (xs : List Item) (ks : List Name) (r : Bool) → record { number = number; items = stack_of xs; reserved = r } ≡ s → ks ≡ names_of xs → list_any (pointwise nat_eq n) ks ≡ has_savepoint n s.items
found n s number xs ks r view names = ap (list_any (pointwise nat_eq n)) names ∙ by_names n xs ∙ ap (λ v. has_savepoint n v.items) view

-- ---- the refusal of a name that is taken

pub refused_as_taken : {T : Type 0} (there : Bool) → there ≡ true → IsErrOf {T = T} (Err refusals.NameTaken) refusals.NameTaken ↔ (there ≡ true)
refused_as_taken there is = (λ _. is, λ _. refl)

abbrev pub is_taken : {T : Type 0} → Result T Refusal → Bool
is_taken (Err refusals.NameTaken) = true
is_taken _ = false

pub not_as_taken : {T : Type 0} (r : Result T Refusal) (there : Bool) → is_taken r ≡ false → there ≡ false → IsErrOf r refusals.NameTaken ↔ (there ≡ true)
not_as_taken r there other none = (λ e. absurd (false≢true (sym other ∙ ap is_taken e)), λ e. absurd (false≢true (sym none ∙ e)))

-- ---- a name more

at_new : (b : Bool) (n : Name) (ks : List Name) → list_any (pointwise nat_eq n) ks ≡ b → b ≡ false → insert_key (pointwise nat_eq) ks n ≡ ks ++ n ∷ []
at_new true n ks is new = absurd (false≢true (sym new))
at_new false n ks is new = rw is refl

when_ok : {A B P : Type 0} (r : Result A B) → IfOk r (λ _. P) → is_err r ≡ false → P
when_ok (Ok x) p e = p
when_ok (Err x) p e = absurd (false≢true (sym e))

-- a name that was put last, and a savepoint with it
pub name_on : {A B : Type 0} (n : Name) (xs all : List Item) (ks new : List Name) (r : Result A B) → ks ≡ names_of xs → list_any (pointwise nat_eq n) ks ≡ false → IfOk r (λ _. new ≡ insert_key (pointwise nat_eq) ks n) → is_err r ≡ false → all ≡ xs ++ items.Savepoint n ∷ [] → new ≡ names_of all
name_on n xs all ks new r names free put ok is = when_ok r put ok ∙ at_new _ n ks refl free ∙ ap (λ l. l ++ n ∷ []) names ∙ sym (ap names_of is ∙ with_savepoint xs n)
