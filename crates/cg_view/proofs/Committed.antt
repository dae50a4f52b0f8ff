-- The operations of committed scripts: what is left of them at each step, and the tree after all.
use Rattle.std.proofs.Common.{◌≡◌, ℕ, Bool, true, false, not, zero, suc, ◌+◌, ◌-◌, ◌<◌, ◌≤◌, List, [], ◌∷◌, ◌++◌, length, map, take, drop, get_or, Option, Some, None, refl, sym, ap, subst, ◌∙◌, append_assoc, append-nil, arith}
use Rattle.std.proofs.lemmas.Bool.{false≢true}
use Rattle.std.proofs.lemmas.Bool.Decides.{not_from_Decides}
use Rattle.std.specs.Bool.{Decides, OnFalse, OnTrue}
use Rattle.std.proofs.lemmas.List.{append_cancel_left, map-append, take-append-drop, drop_at, drop_more, length-map}
use Rattle.cg_core_laws.specs.CommittedCommands.{after_commands, command_at, script_commands, AreCommits}
use Rattle.cg_model.specs.Cgroups.{cgroups}
use Rattle.cg_model.specs.Command.{Command}
use Rattle.cg_model.specs.Effect.{effect}
use Rattle.cg_model.specs.History.{History}
use Rattle.cg_model.specs.Opens.{commits}
use Rattle.cg_model.specs.Run.{state_after, commit_tree}
use Rattle.cg_model.specs.Tree.{Tree}
use Rattle.cg_view.specs.Committed.{meant, operations_of, script_operations, scripts_behind}
use Rattle.cg_view.specs.Operations.{commanded, commits_in, tree_after, StartsWith}
use Rattle.cg_view.specs.declared.operation.Operation.{Operation}
use Rattle.cg_view.specs.declared.operation.Operation.TheVariants.{Does, Ends}

-- ---- tests

pub on_true : {P Q : Type 0} (b : Bool) → Decides b P → (P → Q) → OnTrue b Q
on_true true d f = f (d.0 refl)
on_true false d f = tt

pub on_false : {P Q : Type 0} (b : Bool) → Decides b P → (Q → P) → OnFalse b (Q → ⊥)
on_false true d f = tt
on_false false d f = λ q. not_from_Decides false d refl (f q)

pub some_is : {A : Type 0} (x y : A) → Some x ≡ Some y → x ≡ y
some_is x y e = cc e

pub none_some : {A : Type 0} (x : A) → None ≡ Some x → ⊥
none_some x e = cc e

pub not_same : {P : Type 0} (b r : Bool) → Decides b P → r ≡ not b → r ≡ false → P
not_same true r d is e = d.0 refl
not_same false r d is e = absurd (false≢true (sym e ∙ is))

pub on_false_map : {P Q : Type 0} (b : Bool) → OnFalse b P → (P → Q) → OnFalse b Q
on_false_map true h f = tt
on_false_map false h f = f h

-- ---- the tree after operations

abbrev pub after_meant : Tree → List (Option Command) → Tree
after_meant T [] = T
after_meant T (Some c ∷ l) = after_meant (state_after cgroups (effect c T) T) l
after_meant T (None ∷ l) = after_meant T l

pub same_tree : (T : Tree) (xs : List Operation) → tree_after T xs ≡ after_meant T (map meant xs)
same_tree T [] = refl
same_tree T (Does c ∷ xs) = same_tree (commanded c T) xs
same_tree T (Ends ∷ xs) = same_tree T xs

after_both : (T : Tree) (xs ys : List (Option Command)) → after_meant T (xs ++ ys) ≡ after_meant (after_meant T xs) ys
after_both T [] ys = refl
after_both T (Some c ∷ xs) ys = after_both (state_after cgroups (effect c T) T) xs ys
after_both T (None ∷ xs) ys = after_both T xs ys

by_script : (T : Tree) (cs : List Command) → after_meant T (map Some cs ++ None ∷ []) ≡ after_commands cgroups T cs
by_script T [] = refl
by_script T (c ∷ cs) = by_script (state_after cgroups (effect c T) T) cs

through : (o : Tree) (h : History cgroups) → AreCommits cgroups o h → (k n : ℕ) → k + n ≤ commits h
    → after_meant (commit_tree cgroups o k h) (scripts_behind k n h) ≡ commit_tree cgroups o (k + n) h
through o h laws k zero le = let none : k ≡ k + 0 = omega arith in ap (λ m. commit_tree cgroups o m h) none
through o h laws k (suc n) le =
    after_both (commit_tree cgroups o k h) (script_operations (k + 1) h) (scripts_behind (k + 1) n h)
    ∙ ap (λ T. after_meant T (scripts_behind (k + 1) n h)) (by_script (commit_tree cgroups o k h) (script_commands (k + 1) h) ∙ sym (laws.next k (omega (arith, le))))
    ∙ through o h laws (k + 1) n (omega (arith, le))
    ∙ (let more : k + 1 + n ≡ k + suc n = omega arith in ap (λ m. commit_tree cgroups o m h) more)

pub shown_tree : (o : Tree) (h : History cgroups) → AreCommits cgroups o h → (xs : List Operation) → map meant xs ≡ operations_of h
    → tree_after o xs ≡ commit_tree cgroups o (commits h) h
shown_tree o h laws xs e =
    same_tree o xs ∙ ap (after_meant o) e ∙ ap (λ T. after_meant T (operations_of h)) (sym laws.opening)
    ∙ through o h laws 0 (commits h) (omega arith) ∙ (let all : 0 + commits h ≡ commits h = omega arith in ap (λ m. commit_tree cgroups o m h) all)

-- ---- commits of operations

abbrev ends_in : List (Option Command) → ℕ
ends_in [] = 0
ends_in (Some c ∷ l) = ends_in l
ends_in (None ∷ l) = 1 + ends_in l

same_commits : (xs : List Operation) → commits_in xs ≡ ends_in (map meant xs)
same_commits [] = refl
same_commits (Does c ∷ xs) = same_commits xs
same_commits (Ends ∷ xs) = ap (λ n. 1 + n) (same_commits xs)

one_end : (cs : List Command) (rest : List (Option Command)) → ends_in ((map Some cs ++ None ∷ []) ++ rest) ≡ 1 + ends_in rest
one_end [] rest = refl
one_end (c ∷ cs) rest = one_end cs rest

each_ends : (k n : ℕ) (h : History cgroups) → ends_in (scripts_behind k n h) ≡ n
each_ends k zero h = refl
each_ends k (suc n) h =
    let first = one_end (script_commands (k + 1) h) (scripts_behind (k + 1) n h) in
    let others = each_ends (k + 1) n h in
    omega (arith, first, others)

-- as many ends as committed scripts
pub all_counted : (h : History cgroups) (xs : List Operation) → map meant xs ≡ operations_of h → commits_in xs ≡ commits h
all_counted h xs e = same_commits xs ∙ ap ends_in e ∙ each_ends 0 (commits h) h

-- ---- fronts

module _ {A : Type 0} where
  pub cut : (xs rest ys : List A) → StartsWith (xs ++ rest) (xs ++ ys) → StartsWith rest ys
  cut xs rest ys h = (h.0, append_cancel_left xs rest (ys ++ h.0) (h.1 ∙ append_assoc xs ys h.0))

  pub nothing_starts : (y : A) (ys : List A) → StartsWith [] (y ∷ ys) → ⊥
  nothing_starts y ys h = cc h.1

  pub first_is : (x y : A) (xs ys : List A) → StartsWith (x ∷ xs) (y ∷ ys) → y ≡ x
  first_is x y xs ys h = cc h.1

  pub none_left : (n : ℕ) (xs : List A) → xs ≡ [] → drop n xs ≡ []
  none_left zero xs e = e
  none_left (suc n) xs e = ap (drop (suc n)) e

-- what comes behind the first operations is a front of what is left behind them
pub front_left : (all now : List (Option Command)) (xs ys zs : List Operation) → all ≡ map meant xs ++ now → zs ≡ ys → StartsWith all (map meant (xs ++ ys)) → StartsWith now (map meant zs)
front_left all now xs ys zs so same h =
    subst (λ l. StartsWith now (map meant l)) (sym same)
    (cut (map meant xs) now (map meant ys) (subst (λ l. StartsWith l (map meant xs ++ map meant ys)) so (subst (StartsWith all) (map-append meant xs ys) h)))

pub front_first : (all : List (Option Command)) (xs ys : List Operation) → StartsWith all (map meant (xs ++ ys)) → StartsWith all (map meant xs)
front_first all xs ys h = (map meant ys ++ h.0, h.1 ∙ ap (λ l. l ++ h.0) (map-append meant xs ys) ∙ append_assoc (map meant xs) (map meant ys) h.0)

pub shorter : (x : Option Command) (xs ys : List (Option Command)) → ys ≡ x ∷ xs → length xs < length ys
shorter x xs ys e = let more : length ys ≡ suc (length xs) = ap length e in omega (arith, more)

pub one_appended : (before after : List Operation) (o : Operation) (s : Option Command) (now rest all : List (Option Command))
    → after ≡ before ++ o ∷ [] → meant o ≡ s → now ≡ s ∷ rest → map meant before ++ now ≡ all → map meant after ++ rest ≡ all
one_appended before after o s now rest all up is next whole =
    ap (λ l. map meant l ++ rest) up ∙ ap (λ l. l ++ rest) (map-append meant before (o ∷ [])) ∙ append_assoc (map meant before) (meant o ∷ []) rest
    ∙ ap (λ x. map meant before ++ (x ∷ rest)) is ∙ ap (λ l. map meant before ++ l) (sym next) ∙ whole

pub all_in : (xs rest all : List (Option Command)) → rest ≡ [] → xs ++ rest ≡ all → xs ≡ all
all_in xs rest all none whole = sym (append-nil xs) ∙ ap (λ l. xs ++ l) (sym none) ∙ whole

-- what was agreed on, and all that is left of the walk, are the operations
pub all_published : (all rest : List (Option Command)) (xs ys zs shown : List Operation) → all ≡ map meant (xs ++ ys) ++ rest → map meant zs ≡ map meant ys ++ rest → shown ≡ xs ++ zs → map meant shown ≡ all
all_published all rest xs ys zs shown agreed more is =
    ap (map meant) is ∙ map-append meant xs zs ∙ ap (λ l. map meant xs ++ l) more ∙ sym (append_assoc (map meant xs) (map meant ys) rest)
    ∙ ap (λ l. l ++ rest) (sym (map-append meant xs ys)) ∙ sym agreed

-- a front of the rest is appended
pub still_front : (all rest : List (Option Command)) (xs ys zs : List Operation) → all ≡ map meant (xs ++ ys) ++ rest → StartsWith (map meant ys ++ rest) (map meant zs) → StartsWith all (map meant (xs ++ zs))
still_front all rest xs ys zs agreed h = (
  h.0,
  agreed ∙ ap (λ l. l ++ rest) (map-append meant xs ys) ∙ append_assoc (map meant xs) (map meant ys) rest ∙ ap (λ l. map meant xs ++ l) h.1
      ∙ sym (append_assoc (map meant xs) (map meant zs) h.0) ∙ ap (λ l. l ++ h.0) (sym (map-append meant xs zs)),
)

-- all of the rest is appended, and the same as before is published
pub still_appended : (all rest : List (Option Command)) (xs ys zs shown next : List Operation) → all ≡ map meant (xs ++ ys) ++ rest → map meant zs ≡ map meant ys ++ rest → shown ≡ xs → next ≡ zs
    → StartsWith all (map meant (shown ++ next))
still_appended all rest xs ys zs shown next agreed more same kept =
    subst (λ l. StartsWith all (map meant (l ++ next))) (sym same)
    (subst (λ l. StartsWith all (map meant (xs ++ l))) (sym kept) (still_front all rest xs ys zs agreed ([], sym more ∙ sym (append-nil (map meant zs)))))

-- the operations from the i-th on are what differs
pub apart : (start now : List (Option Command)) (ops : List Operation) (i : ℕ) (x : Operation) → i < length ops → x ≡ get_or ops i x
    → start ≡ map meant (take i ops) ++ now → (StartsWith now (meant x ∷ map meant (drop (i + 1) ops)) → ⊥) → StartsWith start (map meant ops) → ⊥
apart start now ops i x lt is so differs h =
    let rest : drop i ops ≡ x ∷ drop (i + 1) ops = drop_more ops i x lt ∙ ap (λ y. y ∷ drop (i + 1) ops) (sym is) in
    let all : map meant ops ≡ map meant (take i ops) ++ (meant x ∷ map meant (drop (i + 1) ops)) = ap (map meant) (sym (take-append-drop i ops)) ∙ map-append meant (take i ops) (drop i ops) ∙ ap (λ l. map meant (take i ops) ++ map meant l) rest in
    differs (cut (map meant (take i ops)) now (meant x ∷ map meant (drop (i + 1) ops)) (subst (λ l. StartsWith l (map meant (take i ops) ++ (meant x ∷ map meant (drop (i + 1) ops)))) so (subst (StartsWith start) all h)))

-- ---- the operations that are left

more_left : (k : ℕ) (h : History cgroups) → k < commits h → scripts_behind k (commits h - k) h ≡ script_operations (k + 1) h ++ scripts_behind (k + 1) (commits h - (k + 1)) h
more_left k h lt =
    let one : commits h - k ≡ suc (commits h - (k + 1)) = omega (arith, lt) in
    ap (λ n. scripts_behind k n h) one

pub left_none : (n k : ℕ) (h : History cgroups) → commits h ≤ k → drop n (scripts_behind k (commits h - k) h) ≡ []
left_none n k h le =
    let none : commits h - k ≡ 0 = omega (arith, le) in
    none_left n (scripts_behind k (commits h - k) h) (ap (λ m. scripts_behind k m h) none)

same_count : (ps : List ℕ) (h : History cgroups) (cs : List Command) → map (command_at h) ps ≡ map Some cs → length cs ≡ length ps
same_count ps h cs e = sym (length-map cs Some) ∙ sym (ap length e) ∙ length-map ps (command_at h)

-- behind the last command of a script comes its end
pub left_end : (n k : ℕ) (h : History cgroups) (ps : List ℕ) → k < commits h → map (command_at h) ps ≡ map Some (script_commands (k + 1) h) → n ≡ length ps
    → drop n (scripts_behind k (commits h - k) h) ≡ None ∷ scripts_behind (k + 1) (commits h - (k + 1)) h
left_end n k h ps lt e at =
    let cs = script_commands (k + 1) h in
    ap (drop n) (more_left k h lt ∙ append_assoc (map Some cs) (None ∷ []) (scripts_behind (k + 1) (commits h - (k + 1)) h))
    ∙ drop_at (map Some cs) (None ∷ scripts_behind (k + 1) (commits h - (k + 1)) h) n (length-map cs Some ∙ same_count ps h cs e ∙ sym at)

one_more : {C : Type 0} (f : ℕ → Option C) (ps : List ℕ) (tail : List (Option C)) (n d : ℕ) → n < length ps → drop n (map f ps ++ tail) ≡ f (get_or ps n d) ∷ drop (n + 1) (map f ps ++ tail)
one_more f [] tail n d lt = absurd (omega (arith, lt))
one_more f (p ∷ ps) tail zero d lt = refl
one_more f (p ∷ ps) tail (suc n) d lt =
    let one : suc n + 1 ≡ suc (n + 1) = omega arith in
    one_more f ps tail n d (omega (arith, lt)) ∙ ap (λ m. f (get_or ps n d) ∷ drop m (map f (p ∷ ps) ++ tail)) (sym one)

-- before it comes the next command
pub left_command : (n k : ℕ) (h : History cgroups) (ps : List ℕ) (d : ℕ) → k < commits h → map (command_at h) ps ≡ map Some (script_commands (k + 1) h) → n < length ps
    → drop n (scripts_behind k (commits h - k) h) ≡ command_at h (get_or ps n d) ∷ drop (n + 1) (scripts_behind k (commits h - k) h)
left_command n k h ps d lt e at =
    let tail = None ∷ scripts_behind (k + 1) (commits h - (k + 1)) h in
    let all : scripts_behind k (commits h - k) h ≡ map (command_at h) ps ++ tail = more_left k h lt ∙ append_assoc (map Some (script_commands (k + 1) h)) (None ∷ []) (scripts_behind (k + 1) (commits h - (k + 1)) h) ∙ ap (λ l. l ++ tail) (sym e) in
    ap (drop n) all ∙ one_more (command_at h) ps tail n d at ∙ ap (λ l. command_at h (get_or ps n d) ∷ drop (n + 1) l) (sym all)

some_of : {C : Type 0} (f : ℕ → Option C) (ps : List ℕ) (cs : List C) (n d : ℕ) → map f ps ≡ map Some cs → n < length ps → (c : C) × (f (get_or ps n d) ≡ Some c)
some_of f [] cs n d e lt = absurd (omega (arith, lt))
some_of f (p ∷ ps) [] n d e lt = absurd (cc e)
some_of f (p ∷ ps) (c ∷ cs) zero d e lt = (c, cc e)
some_of f (p ∷ ps) (c ∷ cs) (suc n) d e lt = some_of f ps cs n d (cc e) (omega (arith, lt))

-- there is one at each of its places
pub some_command : (h : History cgroups) (ps : List ℕ) (cs : List Command) (n d : ℕ) → map (command_at h) ps ≡ map Some cs → n < length ps → (c : Command) × (command_at h (get_or ps n d) ≡ Some c)
some_command h ps cs n d e lt = some_of (command_at h) ps cs n d e lt
