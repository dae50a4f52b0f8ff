-- Items one after another, the oldest first.
use Rattle.std.proofs.Common.{◌≡◌, ℕ, ◌+◌, ◌<◌, ◌≤◌, suc, List, [], ◌∷◌, drop, drop-cons, get_or, length, map, reverse, refl, sym, ap, ◌∙◌, arith}
use Rattle.std.proofs.lemmas.List.{drop-map, drop_all, length-reverse, reverse-append}
use Rattle.cg_txn.specs.Items.{command_item, item_of, stack_of}
use Rattle.cg_txn.specs.Stack.{StackItem, commands}
use Rattle.cg_txn.specs.declared.entry.Entry.{Entry}
use Rattle.cg_txn.specs.declared.entry.Item.{Item}
use Rattle.cg_txn.specs.declared.entry.Item.TheVariants as items

as_they_stand : (xs : List Item) → reverse (stack_of xs) ≡ map item_of xs
as_they_stand [] = refl
as_they_stand (x ∷ xs) = reverse-append (stack_of xs) (item_of x ∷ []) ∙ ap (λ l. item_of x ∷ l) (as_they_stand xs)

-- from the item at i on
pub from_on : (i : ℕ) (xs : List Item) → drop i (reverse (stack_of xs)) ≡ map item_of (drop i xs)
from_on i xs = ap (drop i) (as_they_stand xs) ∙ drop-map item_of i xs

-- the item at i, and those behind it
module _ (xs : List Item) (i : ℕ) (x : Item) (lt : i < length xs) (is : x ≡ get_or xs i x) where
  abbrev pub behind : List StackItem
  behind = drop (i + 1) (reverse (stack_of xs))

  at_item : drop i (reverse (stack_of xs)) ≡ item_of x ∷ behind
  at_item =
      let next : suc i ≡ i + 1 = omega arith in
      from_on i xs
      ∙ ap (map item_of) (drop-cons xs i x lt ∙ ap (λ y. y ∷ drop (suc i) xs) (sym is))
      ∙ ap (λ l. item_of x ∷ l) (ap (λ n. map item_of (drop n xs)) next ∙ sym (from_on (i + 1) xs))

  pub at_command : (e : Entry) → x ≡ items.Command e → commands (drop i (reverse (stack_of xs))) ≡ command_item e ∷ commands behind
  at_command e same = ap commands (at_item ∙ ap (λ y. item_of y ∷ behind) same)

  pub at_savepoint : (n : _) → x ≡ items.Savepoint n → commands (drop i (reverse (stack_of xs))) ≡ commands behind
  at_savepoint n same = ap commands (at_item ∙ ap (λ y. item_of y ∷ behind) same)

-- behind the last
pub behind_all : (l : List StackItem) (i : ℕ) → length l ≤ i → commands (drop i (reverse l)) ≡ []
behind_all l i le = ap commands (drop_all i (reverse l) (omega (arith, le, length-reverse l)))

pub none_behind : (l : List StackItem) (i : ℕ) → length l ≤ i → commands (drop i (reverse l)) ≡ commands (drop (i + 1) (reverse l))
none_behind l i le = behind_all l i le ∙ sym (behind_all l (i + 1) (omega (arith, le)))
