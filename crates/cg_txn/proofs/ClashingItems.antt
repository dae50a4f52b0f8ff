-- The oldest command that is in the way, item by item.
use Rattle.std.proofs.Common.{◌≡◌, ℕ, ◌+◌, ◌<◌, ◌≤◌, suc, List, [], ◌∷◌, ◌++◌, drop, drop-cons, get_or, length, Option, Some, None, option_map, refl, sym, ap, ◌∙◌, arith}
use Rattle.std.proofs.lemmas.List.{drop_all}
use Rattle.std.specs.Option.{option_or}
use Rattle.cg_model.specs.Footprint.{Mark}
use Rattle.cg_locks.specs.Clashing.{first_clashing}
use Rattle.cg_txn.specs.Clashing.{clash_of, oldest_clashing}
use Rattle.cg_txn.specs.Items.{item_of, stack_of}
use Rattle.cg_txn.specs.Stack.{StackItem, Command, Savepoint}
use Rattle.cg_txn.specs.declared.entry.Item.{Item}
use Rattle.cg_txn.specs.declared.entry.Item.TheVariants as items

or_none : {A : Type 0} (o : Option A) → option_or o None ≡ o
or_none None = refl
or_none (Some x) = refl

or_assoc : {A : Type 0} (a b c : Option A) → option_or (option_or a b) c ≡ option_or a (option_or b c)
or_assoc None b c = refl
or_assoc (Some x) b c = refl

-- among items of which the oldest stands first
abbrev pub first_in : List Mark → List Item → Option (ℕ × Mark)
first_in g [] = None
first_in g (x ∷ xs) = option_or (clash_of g x) (first_in g xs)

-- an item below all others comes before them
below_all : (g : List Mark) (l : List StackItem) (x : Item) → oldest_clashing g (l ++ item_of x ∷ []) ≡ option_or (clash_of g x) (oldest_clashing g l)
below_all g [] (items.Command e) = sym (or_none (option_map (λ m. (e.place, m)) (first_clashing e.footprint g)))
below_all g [] (items.Savepoint n) = refl
below_all g (Command k d f ∷ l) x =
    ap (λ o. option_or o (option_map (λ m. (k, m)) (first_clashing f g))) (below_all g l x)
    ∙ or_assoc (clash_of g x) (oldest_clashing g l) (option_map (λ m. (k, m)) (first_clashing f g))
below_all g (Savepoint n ∷ l) x = below_all g l x

pub first_is_oldest : (g : List Mark) (xs : List Item) → first_in g xs ≡ oldest_clashing g (stack_of xs)
first_is_oldest g [] = refl
first_is_oldest g (x ∷ xs) = ap (option_or (clash_of g x)) (first_is_oldest g xs) ∙ sym (below_all g (stack_of xs) x)

-- the next item
pub next_item : (g : List Mark) (xs : List Item) (i : ℕ) (x : Item) → i < length xs → x ≡ get_or xs i x → first_in g (drop i xs) ≡ option_or (clash_of g x) (first_in g (drop (i + 1) xs))
next_item g xs i x lt is =
    let next : suc i ≡ i + 1 = omega arith in
    ap (first_in g) (drop-cons xs i x lt ∙ ap (λ y. y ∷ drop (suc i) xs) (sym is)) ∙ ap (λ n. option_or (clash_of g x) (first_in g (drop n xs))) next

pub no_more : (g : List Mark) (xs : List Item) (i : ℕ) → length xs ≤ i → first_in g (drop i xs) ≡ None
no_more g xs i le = ap (first_in g) (drop_all i xs le)
