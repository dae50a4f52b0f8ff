-- The places of the commands among items, of which the oldest stands first.
use Rattle.std.proofs.Common.{◌≡◌, ℕ, ◌+◌, ◌<◌, ◌≤◌, List, [], ◌∷◌, ◌++◌, length, take, get_or, append_assoc, Option, refl, sym, ap, ◌∙◌}
use Rattle.std.proofs.lemmas.List.{append-nil, take_all, take_more}
use Rattle.std.specs.Option.{option_to_list}
use Rattle.cg_txn.specs.declared.entry.Item.{Item}
use Rattle.cg_txn.specs.declared.entry.Item.TheVariants as items
use Rattle.cg_txn.specs.Items.{item_of, stack_of}
use Rattle.cg_txn.specs.Places.{place_of, places_on}
use Rattle.cg_txn.specs.Stack.{StackItem, Command, Savepoint}

abbrev pub placed : List Item → List ℕ
placed [] = []
placed (x ∷ xs) = option_to_list (place_of x) ++ placed xs

placed-append : (xs ys : List Item) → placed (xs ++ ys) ≡ placed xs ++ placed ys
placed-append [] ys = refl
placed-append (x ∷ xs) ys = ap (λ l. option_to_list (place_of x) ++ l) (placed-append xs ys) ∙ sym (append_assoc (option_to_list (place_of x)) (placed xs) (placed ys))

-- one item more
pub placed_more : (xs : List Item) (i : ℕ) (x : Item) → i < length xs → x ≡ get_or xs i x → placed (take (i + 1) xs) ≡ placed (take i xs) ++ option_to_list (place_of x)
placed_more xs i x lt is =
    ap placed (take_more xs i x lt ∙ ap (λ z. take i xs ++ z ∷ []) (sym is))
    ∙ placed-append (take i xs) (x ∷ [])
    ∙ ap (λ l. placed (take i xs) ++ l) (append-nil (option_to_list (place_of x)))

places_last : (l : List StackItem) (x : Item) → places_on (l ++ item_of x ∷ []) ≡ option_to_list (place_of x) ++ places_on l
places_last [] (items.Command e) = refl
places_last [] (items.Savepoint n) = refl
places_last (Command k d f ∷ l) x = ap (λ p. p ++ k ∷ []) (places_last l x) ∙ append_assoc (option_to_list (place_of x)) (places_on l) (k ∷ [])
places_last (Savepoint n ∷ l) x = places_last l x

-- all of them
pub placed_all : (xs : List Item) → placed xs ≡ places_on (stack_of xs)
placed_all [] = refl
placed_all (x ∷ xs) = ap (λ l. option_to_list (place_of x) ++ l) (placed_all xs) ∙ sym (places_last (stack_of xs) x)

-- behind others
pub one_more : (xs : List Item) (i : ℕ) (x : Item) (r : Option ℕ) → i < length xs → x ≡ get_or xs i x → r ≡ place_of x → (old ns more : List ℕ) → ns ≡ old ++ placed (take i xs) → more ≡ ns ++ option_to_list r → more ≡ old ++ placed (take (i + 1) xs)
one_more xs i x r lt is at old ns more so next =
    next
    ∙ (λ j. so j ++ option_to_list (at j))
    ∙ append_assoc old (placed (take i xs)) (option_to_list (place_of x))
    ∙ ap (λ l. old ++ l) (sym (placed_more xs i x lt is))

pub at_last : (xs : List Item) (i : ℕ) (old ns : List ℕ) → length xs ≤ i → ns ≡ old ++ placed (take i xs) → ns ≡ old ++ places_on (stack_of xs)
at_last xs i old ns le so = so ∙ ap (λ l. old ++ placed l) (take_all i xs le) ∙ ap (λ l. old ++ l) (placed_all xs)
