-- Items, the oldest first, as a stack.
use Rattle.std.proofs.Common.{◌≡◌, ℕ, ◌+◌, ◌-◌, ◌<◌, Bool, true, false, cond, List, [], ◌∷◌, ◌++◌, filter, length, slice_index_or, Option, None, refl, sym, ap, ◌∙◌, arith}
use Rattle.std.proofs.lemmas.List.{append-nil, length-append}
use Rattle.cg_name.specs.Name.{Name, same_name}
use Rattle.cg_txn.specs.declared.entry.Item.{Item}
use Rattle.cg_txn.specs.declared.entry.Item.TheVariants as items
use Rattle.cg_txn.specs.Items.{command_item, is_command, item_of, names_of, stack_of}
use Rattle.cg_txn.specs.Stack.{StackItem, Command, Savepoint, commands, ends_in_command, next_back}

-- the last item is the newest
pub newest : (xs : List Item) (x : Item) → stack_of (xs ++ x ∷ []) ≡ item_of x ∷ stack_of xs
newest [] x = refl
newest (y ∷ xs) x = ap (λ l. l ++ item_of y ∷ []) (newest xs x)

pub newest_of : (all xs : List Item) (x : Item) → all ≡ xs ++ x ∷ [] → stack_of all ≡ item_of x ∷ stack_of xs
newest_of all xs x is = ap stack_of is ∙ newest xs x

-- an item is what its variant says
pub ended : (all xs : List Item) (x y : Item) → all ≡ xs ++ x ∷ [] → x ≡ y → all ≡ xs ++ y ∷ []
ended all xs x y is same = is ∙ ap (λ z. xs ++ z ∷ []) same

-- as many
pub same_length : (xs : List Item) → length xs ≡ length (stack_of xs)
same_length [] = refl
same_length (x ∷ xs) =
    let rest : length xs ≡ length (stack_of xs) = same_length xs in
    let more : length (stack_of xs ++ item_of x ∷ []) ≡ length (stack_of xs) + length (item_of x ∷ []) = length-append (stack_of xs) (item_of x ∷ []) in
    omega (arith, rest, more)

-- commands of two parts
pub commands-append : (l m : List StackItem) → commands (l ++ m) ≡ commands l ++ commands m
commands-append [] m = refl
commands-append (Command k d f ∷ l) m = ap (λ r. Command k d f ∷ r) (commands-append l m)
commands-append (Savepoint n ∷ l) m = commands-append l m

-- ---- items taken off

-- what a stack comes to, by its newest item and the others: as a step back at a command, and the newest command
pub by_newest : {A : Type 0} (f : List StackItem → A) (all xs : List Item) (x : Item) (w : A) → all ≡ xs ++ x ∷ [] → f (stack_of all) ≡ w → f (item_of x ∷ stack_of xs) ≡ w
by_newest f all xs x w is to = ap f (sym (newest_of all xs x is)) ∙ to

-- a step back stops at the savepoint with the name
at_savepoint : (b : Bool) (n m : Name) (l : List StackItem) → same_name m n ≡ b → next_back n (Savepoint m ∷ l) ≡ cond b (None, l) (next_back n l)
at_savepoint b n m l e = ap (λ x. cond x (None, l) (next_back n l)) e

pub stops_at_savepoint : (n m : Name) (all xs : List Item) (w : Option StackItem × List StackItem) → all ≡ xs ++ items.Savepoint m ∷ [] → same_name m n ≡ true → next_back n (stack_of all) ≡ w → (None, stack_of xs) ≡ w
stops_at_savepoint n m all xs w is same to = sym (at_savepoint true n m (stack_of xs) same) ∙ ap (next_back n) (sym (newest_of all xs (items.Savepoint m) is)) ∙ to

-- and passes by others
pub passes_savepoint : (n m : Name) (all xs : List Item) (w : Option StackItem × List StackItem) → all ≡ xs ++ items.Savepoint m ∷ [] → same_name m n ≡ false → next_back n (stack_of all) ≡ w → next_back n (stack_of xs) ≡ w
passes_savepoint n m all xs w is other to = sym (at_savepoint false n m (stack_of xs) other) ∙ ap (next_back n) (sym (newest_of all xs (items.Savepoint m) is)) ∙ to

pub ends_empty : (n : Name) (all : List Item) (w : Option StackItem × List StackItem) → all ≡ [] → next_back n (stack_of all) ≡ w → (None, stack_of all) ≡ w
ends_empty n all w none to = ap (λ xs. (None, stack_of xs)) none ∙ ap (λ xs. next_back n (stack_of xs)) (sym none) ∙ to

-- ---- savepoints dropped

-- the commands alone are left
pub commands_left : (xs : List Item) → stack_of (filter is_command xs) ≡ commands (stack_of xs)
commands_left [] = refl
commands_left (items.Command e ∷ xs) = ap (λ l. l ++ command_item e ∷ []) (commands_left xs) ∙ sym (commands-append (stack_of xs) (command_item e ∷ []))
commands_left (items.Savepoint n ∷ xs) = commands_left xs ∙ sym (commands-append (stack_of xs) (Savepoint n ∷ []) ∙ append-nil (commands (stack_of xs)))

pub no_names_left : (xs : List Item) → names_of (filter is_command xs) ≡ []
no_names_left [] = refl
no_names_left (items.Command e ∷ xs) = no_names_left xs
no_names_left (items.Savepoint n ∷ xs) = no_names_left xs

-- where no savepoint stands, all are commands
pub only_commands : (xs : List Item) → length (names_of xs) ≡ 0 → stack_of xs ≡ commands (stack_of xs)
only_commands [] none = refl
only_commands (items.Command e ∷ xs) none = ap (λ l. l ++ command_item e ∷ []) (only_commands xs none) ∙ sym (commands-append (stack_of xs) (command_item e ∷ []))
only_commands (items.Savepoint n ∷ xs) none = absurd (omega (arith, none))

-- ---- whether the newest is a command

ends-append : (l m : List StackItem) → 0 < length l → ends_in_command (l ++ m) ≡ ends_in_command l
ends-append [] m some = absurd (omega (arith, some))
ends-append (Command k d f ∷ l) m some = refl
ends-append (Savepoint n ∷ l) m some = refl

alone : (x : Item) → is_command x ≡ ends_in_command (item_of x ∷ [])
alone (items.Command e) = refl
alone (items.Savepoint n) = refl

last_is : (x : Item) (xs : List Item) (d : Item) → is_command (slice_index_or (x ∷ xs) (length xs) d) ≡ ends_in_command (stack_of (x ∷ xs))
last_is x [] d = alone x
last_is x (y ∷ xs) d =
    let some : length (y ∷ xs) ≡ length (stack_of (y ∷ xs)) = same_length (y ∷ xs) in
    last_is y xs d ∙ sym (ends-append (stack_of (y ∷ xs)) (item_of x ∷ []) (omega (arith, some)))

-- the last item tells
pub last_tells : (xs : List Item) (n : ℕ) (x : Item) → n ≡ length xs → 0 < n → x ≡ slice_index_or xs (n - 1) x → is_command x ≡ ends_in_command (stack_of xs)
last_tells [] n x long some is = absurd (omega (arith, long, some))
last_tells (y ∷ xs) n x long some is =
    let at : n - 1 ≡ length xs = omega (arith, long) in
    ap is_command (is ∙ ap (λ k. slice_index_or (y ∷ xs) k x) at) ∙ last_is y xs x

-- a savepoint is no command
pub not_last : (all xs : List Item) (n : Name) (b : Bool) → all ≡ xs ++ items.Savepoint n ∷ [] → b ≡ ends_in_command (stack_of all) → b ≡ false
not_last all xs n b is ends = ends ∙ ap ends_in_command (newest_of all xs (items.Savepoint n) is)
