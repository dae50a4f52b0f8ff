-- The names of the savepoints among items.
use Rattle.std.proofs.Common.{◌≡◌, ◌+◌, ◌<◌, nat_eq, Bool, true, false, ◌||◌, List, [], ◌∷◌, ◌++◌, length, Option, Some, None, refl, sym, ap, ◌∙◌, arith}
use Rattle.std.proofs.lemmas.List.{length-append, same_from_push}
use Rattle.std.proofs.lemmas.Bool.{false≢true}
use Rattle.std.specs.Cmp.{eq_by_cmp_equiv}
use Rattle.std.specs.Cmp.Lexicographic.{pointwise, texts_ties}
use Rattle.std.specs.List.{list_any}
use Rattle.std.specs.Option.{IsSome, option_to_list}
use Rattle.cg_name.specs.Name.{Name, same_name}
use Rattle.cg_name.specs.Order.{name_cmp_total}
use Rattle.cg_txn.specs.declared.entry.Entry.{Entry}
use Rattle.cg_txn.specs.declared.entry.Item.{Item}
use Rattle.cg_txn.specs.declared.entry.Item.TheVariants as items
use Rattle.cg_txn.specs.Items.{item_of, names_of, stack_of}
use Rattle.cg_txn.specs.Stack.{StackItem, Command, Savepoint, has_savepoint}

-- a command more has no name
pub with_command : (xs : List Item) (e : Entry) → names_of (xs ++ items.Command e ∷ []) ≡ names_of xs
with_command [] e = refl
with_command (items.Command d ∷ xs) e = with_command xs e
with_command (items.Savepoint n ∷ xs) e = ap (λ l. n ∷ l) (with_command xs e)

-- and a savepoint's name is the last
pub with_savepoint : (xs : List Item) (n : Name) → names_of (xs ++ items.Savepoint n ∷ []) ≡ names_of xs ++ n ∷ []
with_savepoint [] n = refl
with_savepoint (items.Command d ∷ xs) n = with_savepoint xs n
with_savepoint (items.Savepoint m ∷ xs) n = ap (λ l. m ∷ l) (with_savepoint xs n)

-- names are compared as the code does
pub compared : (n m : Name) → pointwise nat_eq n m ≡ same_name n m
unfolding same_name
compared n m = texts_ties n m

pub same_name-swapped : (n m : Name) → same_name n m ≡ same_name m n
unfolding same_name
same_name-swapped n m = (eq_by_cmp_equiv name_cmp_total).symm n m

or_swapped : (a b : Bool) → a || (b || false) ≡ b || a
or_swapped true true = refl
or_swapped true false = refl
or_swapped false true = refl
or_swapped false false = refl

or_false : (a : Bool) → a || false ≡ a
or_false true = refl
or_false false = refl

or_joined : (a b c : Bool) → (a || b) || c ≡ a || (b || c)
or_joined true b c = refl
or_joined false b c = refl

has-append : (n : Name) (l m : List StackItem) → has_savepoint n (l ++ m) ≡ has_savepoint n l || has_savepoint n m
has-append n [] m = refl
has-append n (Command k d f ∷ l) m = has-append n l m
has-append n (Savepoint o ∷ l) m = ap (λ b. same_name o n || b) (has-append n l m) ∙ sym (or_joined (same_name o n) (has_savepoint n l) (has_savepoint n m))

-- a savepoint stands there where its name is among the names
pub by_names : (n : Name) (xs : List Item) → list_any (pointwise nat_eq n) (names_of xs) ≡ has_savepoint n (stack_of xs)
by_names n [] = refl
by_names n (items.Command e ∷ xs) = by_names n xs ∙ sym (has-append n (stack_of xs) (item_of (items.Command e) ∷ []) ∙ or_false (has_savepoint n (stack_of xs)))
by_names n (items.Savepoint m ∷ xs) =
    (λ i. (compared n m ∙ same_name-swapped n m) i || by_names n xs i)
    ∙ sym (has-append n (stack_of xs) (Savepoint m ∷ []) ∙ or_swapped (has_savepoint n (stack_of xs)) (same_name m n))

-- the last name goes with the last savepoint
pub name_off : (xs all : List Item) (n : Name) (ks new : List Name) (r : Option Name) → all ≡ xs ++ items.Savepoint n ∷ [] → ks ≡ names_of all → ks ≡ new ++ option_to_list r → (0 < length ks → IsSome r) → new ≡ names_of xs
name_off xs all n ks new None is names popped some =
    let last : ks ≡ names_of xs ++ n ∷ [] = names ∙ ap names_of is ∙ with_savepoint xs n in
    let long : length ks ≡ length (names_of xs) + length (n ∷ []) = ap length last ∙ length-append (names_of xs) (n ∷ []) in
    absurd (false≢true (some (omega (arith, long))))
name_off xs all n ks new (Some m) is names popped some = sym (same_from_push (names_of xs) new n m (sym (with_savepoint xs n) ∙ sym (ap names_of is) ∙ sym names ∙ popped)).0
