-- A walk down a stack meets the processes of its group, each once.
use Rattle.std.proofs.Common.{◌≡◌, ◌≢◌, ◌↔◌, ℕ, zero, suc, ◌+◌, ◌<◌, ◌≤◌, ◌==◌, ◌||◌, Bool, true, false, cond, List, [], ◌∷◌, ◌++◌, map, length, get_or, take, drop, Option, None, Some, is_some, option_map, eqb, Contains, refl, sym, ap, subst, ◌∙◌, inl, inr, arith, true≢false, eq-eqb, add-one, drop-cons}
use Rattle.std.specs.List.{slice_get, list_any, IsDistinct}
use Rattle.std.specs.List.Sorted.{IsPermutation, IsSorted, IsNonDecreasing, IsStrictlyIncreasing}
use Rattle.std.specs.Ordering.{nat_cmp}
use Rattle.std.specs.Cmp.{both_ways}
use Rattle.std.proofs.lemmas.Bool.{eqb-true}
use Rattle.std.proofs.lemmas.List.{map-append, take_more}
use Rattle.std.proofs.lemmas.List.Sorted.{IsNonDecreasingBy-from_sort, Contains-permutation, IsPermutation-sym}
use Rattle.std.proofs.lemmas.Map.Keys.{IsDistinct-from_apart, IsDistinct-IsPermutation, IsStrictlyIncreasing-from_distinct, sorted_from_strictly_increasing}
use Rattle.std.proofs.lemmas.Option.{slice_get_within, slice_get-get_or, get_or_from_slice_get}
use borrow.Author.Tests.{ne_eqb}
use Rattle.cg_maps.specs.FiniteMap.{FiniteMap, get, retain, keys, domain, bare}
use Rattle.cg_maps.specs.FiniteSet.{members, set_of}
use Rattle.cg_maps.proofs.Maps.{get-retain}
use Rattle.cg_maps.proofs.Sets.{same_set, has-domain, has-set_of, members-set_of}
use Rattle.std.specs.Cmp.{nat_cmp_total}
use Rattle.std.specs.FinMap.{nat_cmp-IsAntisymmetric}
use Rattle.cg_places.specs.declared.seats.Process.{Process}
use Rattle.cg_places.specs.declared.seats.Cell.{Cell}
use Rattle.cg_places.specs.declared.seats.Stack.{Stack}
use Rattle.cg_places.specs.Stacks.{Has, IsStack, IsStackOf}
use Rattle.cg_places.specs.Seats.{next_in, group_at, group_in, stack_in, AreSeated}
use Rattle.cg_places.specs.Located.{is_group, pids_of}
use Rattle.cg_places.specs.Walks.{HaveOwnPids, AreTheirs, pid_of, pid_at, pid_in, Walks}
use Rattle.cg_places.proofs.Lists.{same_some, some_not_none, unmap, at_mapped}

pub take_all : {A : Type 0} (n : ℕ) (xs : List A) → length xs ≤ n → take n xs ≡ xs
take_all zero [] low = refl
take_all (suc n) [] low = refl
take_all zero (x ∷ xs) low = absurd (omega arith)
take_all (suc n) (x ∷ xs) low = ap (λ ys. x ∷ ys) (take_all n xs (omega arith))

module _ (ps : List Process) (cells : List Cell) (ss : List Stack) (h : AreSeated ps cells ss) (g : ℕ) (s : Stack) where
  pub starts : slice_get ss g ≡ Some s → Walks ps cells g s 0 s.first []
  starts at = let x = h.stacks g (s.first, s.count) (ap (option_map (λ (y : Stack). (y.first, y.count))) at) in record { stack = x; visited = refl; left = x.linked }

  module _ (done at : ℕ) (pids : List ℕ) (w : Walks ps cells g s done at pids) (more : done < s.count) where
    low : done < length w.stack.cells
    low = omega (arith, w.stack.many)

    -- the stack from here on
    cut : (at ≡ get_or w.stack.cells done 0) × (n : ℕ) × (next_in cells (get_or w.stack.cells done 0) ≡ Some n) × IsStack (next_in cells) n (drop (suc done) w.stack.cells)
    cut = subst (IsStack (next_in cells) at) (drop-cons w.stack.cells done 0 low) w.left

    named : next_in cells at ≡ Some cut.1
    named = ap (next_in cells) cut.0 ∙ cut.2

    cell_at : (c : Cell) × (slice_get cells at ≡ Some c) × (c.next ≡ cut.1)
    cell_at = unmap (λ (y : Cell). y.next) (slice_get cells at) cut.1 named

    pub cell_inside : at < length cells
    cell_inside = slice_get_within cells at cell_at.0 cell_at.1

    pub process_inside : (c : Cell) → slice_get cells at ≡ Some c → c.process < length ps
    process_inside c there = let x = h.seats.taken at c there in slice_get_within ps c.process x.0 x.1

    pub goes_on : (c : Cell) (p : Process) → slice_get cells at ≡ Some c → slice_get ps c.process ≡ Some p → Walks ps cells g s (done + 1) c.next (pids ++ p.pid ∷ [])
    goes_on c p at_c at_p =
        let its : pid_in ps cells (get_or w.stack.cells done 0) ≡ p.pid = ap (pid_in ps cells) (sym cut.0) ∙ ap (pid_at ps) at_c ∙ ap pid_of at_p in
        let next : cut.1 ≡ c.next = sym cell_at.2 ∙ ap (λ (y : Cell). y.next) (same_some cell_at.0 c (sym cell_at.1 ∙ at_c)) in
        record {
          stack = w.stack;
          visited =
              ap (λ xs. xs ++ p.pid ∷ []) w.visited
              ∙ ap (λ n. map (pid_in ps cells) (take done w.stack.cells) ++ n ∷ []) (sym its)
              ∙ sym (ap (map (pid_in ps cells)) (take_more w.stack.cells done 0 low) ∙ map-append (pid_in ps cells) (take done w.stack.cells) (get_or w.stack.cells done 0 ∷ []));
          left = subst (λ k. IsStack (next_in cells) c.next (drop k w.stack.cells)) (sym (add-one done)) (subst (λ n. IsStack (next_in cells) n (drop (suc done) w.stack.cells)) next cut.3);
        }

  -- at the end
  module _ (pids : List ℕ) (done at : ℕ) (w : Walks ps cells g s done at pids) (end : s.count ≤ done) (own : HaveOwnPids ps) where
    all_of : pids ≡ map (pid_in ps cells) w.stack.cells
    all_of = w.visited ∙ ap (map (pid_in ps cells)) (take_all done w.stack.cells (omega (arith, w.stack.many)))

    cell_of : (j pid : ℕ) → slice_get pids j ≡ Some pid → (k : ℕ) × (slice_get w.stack.cells j ≡ Some k) × (pid_in ps cells k ≡ pid)
    cell_of j pid h_j = unmap (pid_in ps cells) (slice_get w.stack.cells j) pid (sym (at_mapped (pid_in ps cells) w.stack.cells j) ∙ sym (ap (λ xs. slice_get xs j) all_of) ∙ h_j)

    sits : (k : ℕ) (o : Option Cell) → slice_get cells k ≡ o → group_at ps o ≡ Some g → (c : Cell) × (p : Process) × (slice_get cells k ≡ Some c) × (slice_get ps c.process ≡ Some p) × (p.group ≡ g)
    sits k None e is = absurd (some_not_none g None is refl)
    sits k (Some c) e is = let p = unmap (λ (y : Process). y.group) (slice_get ps c.process) g is in (c, p.0, e, p.1, p.2)

    who_sits : (j k : ℕ) → slice_get w.stack.cells j ≡ Some k → (c : Cell) × (p : Process) × (slice_get cells k ≡ Some c) × (slice_get ps c.process ≡ Some p) × (p.group ≡ g)
    who_sits j k h_j = sits k (slice_get cells k) refl ((w.stack.own k).0 (j, h_j))

    its_pid : (k : ℕ) (c : Cell) (p : Process) → slice_get cells k ≡ Some c → slice_get ps c.process ≡ Some p → pid_in ps cells k ≡ p.pid
    its_pid k c p at_c at_p = ap (pid_at ps) at_c ∙ ap pid_of at_p

    pub theirs : AreTheirs ps g pids
    theirs = record {
      each = λ j pid h_j.
          let k = cell_of j pid h_j in
          let x = who_sits j k.0 k.1 in
          (x.0.process, x.1, x.3, sym (its_pid k.0 x.0 x.1 x.2 x.3) ∙ k.2, x.4);
      all = λ i p at_p is.
          let c = h.seats.seat i p at_p in
          let owner : slice_get ps c.0.process ≡ Some p = ap (slice_get ps) c.2 ∙ at_p in
          let mine : group_in ps cells p.cell ≡ Some g = ap (group_at ps) c.1 ∙ ap (option_map (λ (y : Process). y.group)) owner ∙ ap Some is in
          let has = (w.stack.own p.cell).1 mine in
          (has.0, ap (λ xs. slice_get xs has.0) all_of ∙ at_mapped (pid_in ps cells) w.stack.cells has.0 ∙ ap (option_map (pid_in ps cells)) has.1 ∙ ap Some (its_pid p.cell c.0 p c.1 owner));
      once = λ j k pid h_j h_k.
          let a = cell_of j pid h_j in
          let b = cell_of k pid h_k in
          let x = who_sits j a.0 a.1 in
          let y = who_sits k b.0 b.1 in
          let pids_same : x.1.pid ≡ y.1.pid = sym (its_pid a.0 x.0 x.1 x.2 x.3) ∙ a.2 ∙ sym b.2 ∙ its_pid b.0 y.0 y.1 y.2 y.3 in
          let numbers : x.0.process ≡ y.0.process = own x.0.process y.0.process x.1 y.1 x.3 y.3 pids_same in
          let p = h.seats.taken a.0 x.0 x.2 in
          let q = h.seats.taken b.0 y.0 y.2 in
          let cell : a.0 ≡ b.0 = sym p.2 ∙ ap (λ (z : Process). z.cell) (same_some p.0 q.0 (sym p.1 ∙ ap (slice_get ps) numbers ∙ q.1)) ∙ q.2 in
          w.stack.once j k b.0 (a.1 ∙ ap Some cell) b.1;
    }

-- ---- in order

keys-bare : {X : Type 0} (es : List (ℕ × X)) → map (λ (e : ℕ × Unit {0}). e.0) (bare es) ≡ map (λ (e : ℕ × X). e.0) es
keys-bare [] = refl
keys-bare (e ∷ es) = ap (λ ks. e.0 ∷ ks) (keys-bare es)

members-domain : {X : Type 0} (m : FiniteMap nat_cmp X) → members (domain m) ≡ keys m
unfolding members keys domain
members-domain m = keys-bare m.list

any_has : (ns : List ℕ) (n : ℕ) → list_any (λ m. n == m) ns ≡ true → Has ns n
any_has [] n any = absurd (true≢false (sym any))
any_has (m ∷ ns) n any = by (n == m) refl any (any_has ns n)
  where
    by : (b : Bool) → (n == m) ≡ b → list_any (λ k. n == k) (m ∷ ns) ≡ true → (list_any (λ k. n == k) ns ≡ true → Has ns n) → Has (m ∷ ns) n
    by true e any rest = (zero, ap Some (sym (eqb-true n m e)))
    by false e any rest = let has = rest (later (n == m) (list_any (λ k. n == k) ns) any e) in (suc has.0, has.1)
      where
        later : (b c : Bool) → (b || c) ≡ true → b ≡ false → c ≡ true
        later true c h e = absurd (true≢false e)
        later false c h e = h

has_any : (ns : List ℕ) (n : ℕ) → Has ns n → list_any (λ m. n == m) ns ≡ true
has_any [] n has = absurd (some_not_none n None has.1 refl)
has_any (m ∷ ns) n (zero, at) = ap (λ b. b || list_any (λ k. n == k) ns) (eq-eqb n m (sym (same_some m n at)))
has_any (m ∷ ns) n (suc i, at) = by (n == m) (has_any ns n (i, at))
  where
    by : (b : Bool) → list_any (λ k. n == k) ns ≡ true → (b || list_any (λ k. n == k) ns) ≡ true
    by true e = refl
    by false e = e

-- PIDs in another order, ascending, are those of the group
pub in_order : (places : FiniteMap nat_cmp ℕ) (ps : List Process) (g : ℕ) (pids ns : List ℕ) → AreTheirs ps g pids → IsPermutation pids ns → IsSorted nat_cmp ns → ((i : ℕ) (p : Process) → slice_get ps i ≡ Some p → get places p.pid ≡ Some p.group)
    → ((pid : ℕ) → get places pid ≡ Some g → (i : ℕ) × (p : Process) × (slice_get ps i ≡ Some p) × (p.pid ≡ pid) × (p.group ≡ g)) → ns ≡ pids_of places g
in_order places ps g pids ns theirs moved ascend seen back =
    let distinct : IsDistinct eqb pids = IsDistinct-from_apart eqb pids (λ i j d less low. ne_eqb (get_or pids i d) (get_or pids j d) (λ same.
    let is : i ≡ j = theirs.once i j (get_or pids j d) (slice_get-get_or pids i d (omega arith) ∙ ap Some same) (slice_get-get_or pids j d low) in absurd (omega arith))) in
    let strict : IsStrictlyIncreasing ns = IsStrictlyIncreasing-from_distinct ns (IsNonDecreasingBy-from_sort (λ n. n) ns ascend) (IsDistinct-IsPermutation eqb flips pids ns moved distinct) in
    sym (members-set_of ns (sorted_from_strictly_increasing ns strict)) ∙ ap members (same_set (set_of ns) (domain kept) (λ n. has-set_of ns n ∙ same n ∙ sym (has-domain kept n))) ∙ members-domain kept
  where
    kept : FiniteMap nat_cmp ℕ
    kept = retain places (λ pid. is_group g (get places pid))

    flips : (a b : ℕ) → eqb a b ≡ eqb b a
    flips a b = grind arith

    passes : (n : ℕ) → get places n ≡ Some g → get kept n ≡ Some g
    passes n at =
        get-retain nat_cmp_total nat_cmp-IsAntisymmetric places (λ pid. is_group g (get places pid)) n
        ∙ ap (λ b. cond b (get places n) None) (ap (is_group g) at ∙ eq-eqb g g refl) ∙ at

    holds : (n : ℕ) (o : Option ℕ) → get places n ≡ o → is_some (get kept n) ≡ true → get places n ≡ Some g
    holds n o at some = by o (is_group g o) at refl (sym (ap is_some (get-retain nat_cmp_total nat_cmp-IsAntisymmetric places (λ pid. is_group g (get places pid)) n ∙ (λ i. cond (is_group g (at i)) (at i) None))) ∙ some)
      where
        by : (o : Option ℕ) (b : Bool) → get places n ≡ o → is_group g o ≡ b → is_some (cond (is_group g o) o None) ≡ true → get places n ≡ Some g
        by None b at is some = absurd (true≢false (sym some ∙ none (is_group g None)))
          where
            none : (b : Bool) → is_some (cond {A = Option ℕ} b None None) ≡ false
            none true = refl
            none false = refl
        by (Some k) true at is some = at ∙ ap Some (sym (eqb-true g k is))
        by (Some k) false at is some = absurd (true≢false (sym some ∙ ap (λ b. is_some (cond b (Some k) None)) is))

    contains : (xs : List ℕ) (n : ℕ) → Has xs n → Contains xs n
    contains xs n has = (has.0, slice_get_within xs has.0 n has.1, get_or_from_slice_get xs has.0 n n has.1)

    has_of : (xs : List ℕ) (n : ℕ) → Contains xs n → Has xs n
    has_of xs n c = (c.0, slice_get-get_or xs c.0 n c.1 ∙ ap Some c.2)

    same : (n : ℕ) → list_any (λ m. n == m) ns ≡ is_some (get kept n)
    same n = both_ways (list_any (λ m. n == m) ns) (is_some (get kept n))
        (λ any.
        let has = has_of pids n (Contains-permutation ns pids n (IsPermutation-sym pids ns moved) (contains ns n (any_has ns n any))) in
        let x = theirs.each has.0 n has.1 in
        ap is_some (passes n (ap (get places) (sym x.3) ∙ seen x.0 x.1 x.2 ∙ ap Some x.4)))
        (λ some.
        let x = back n (holds n (get places n) refl some) in
        let has = theirs.all x.0 x.1 x.2 x.4 in
        has_any ns n (subst (Has ns) x.3 (has_of ns x.1.pid (Contains-permutation pids ns x.1.pid moved (contains pids x.1.pid has)))))
