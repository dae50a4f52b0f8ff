-- Lists of operations.
use Rattle.std.proofs.Common.{◌≡◌, ◌+◌, ◌≤◌, List, [], ◌∷◌, ◌++◌, refl, sym, ap, ◌∙◌, arith, fold, length, append_assoc, append-nil}
use Rattle.cg_model.specs.Tree.{Tree}
use Rattle.cg_view.specs.Operations.{commits_in, operated, tree_after, StartsWith}
use Rattle.cg_view.specs.declared.operation.Operation.{Operation}
use Rattle.cg_view.specs.declared.operation.Operation.TheVariants.{Does, Ends}

pub tree_after_push : (T : Tree) (xs : List Operation) (x : Operation) → tree_after T (xs ++ x ∷ []) ≡ operated x (tree_after T xs)
tree_after_push T [] x = refl
tree_after_push T (y ∷ xs) x = tree_after_push (operated y T) xs x

pub commits_push : (xs : List Operation) (x : Operation) → commits_in (xs ++ x ∷ []) ≡ commits_in xs + commits_in (x ∷ [])
commits_push [] x = omega arith
commits_push (Does c ∷ xs) x = commits_push xs x
commits_push (Ends ∷ xs) x = let more = commits_push xs x in omega (arith, more)

pub few_commits : (xs : List Operation) → commits_in xs ≤ length xs
few_commits [] = omega arith
few_commits (Does c ∷ xs) = let few = few_commits xs in omega (arith, few)
few_commits (Ends ∷ xs) = let few = few_commits xs in omega (arith, few)

abbrev pub absorbed : Tree × List Operation → Operation → Tree × List Operation
absorbed s x = (s.0, s.1 ++ x ∷ [])

pub fold_absorbed : (T : Tree) (xs ops : List Operation) → fold absorbed (T, xs) ops ≡ (T, xs ++ ops)
fold_absorbed T xs [] = ap (λ (l : List Operation). (T, l)) (sym (append-nil xs))
fold_absorbed T xs (x ∷ ops) = fold_absorbed T (xs ++ x ∷ []) ops ∙ ap (λ (l : List Operation). (T, l)) (append_assoc xs (x ∷ []) ops)

pub whole : {A : Type 0} (xs : List A) → StartsWith xs xs
whole xs = ([], sym (append-nil xs))

pub longer : {A : Type 0} (xs ys seen rest : List A) → ys ≡ xs ++ rest → StartsWith xs seen → StartsWith ys seen
longer xs ys seen rest up h = (h.0 ++ rest, up ∙ ap (λ l. l ++ rest) h.1 ∙ append_assoc seen h.0 rest)
