-- What is seen of processes, by their numbers.
use Rattle.std.proofs.Common.{◌≡◌, ◌≢◌, ℕ, zero, suc, ◌<◌, Bool, true, false, cond, List, [], ◌∷◌, ◌++◌, map, length, take, drop, Option, None, Some, option_map, nat_eq, refl, sym, ap, subst, ◌∙◌, inl, inr, arith, eq-eqb, length-append}
use Rattle.std.specs.List.{slice_get}
use Rattle.std.specs.Ordering.{nat_cmp, eq_by_cmp}
use Rattle.std.specs.Cmp.{nat_cmp_total}
use Rattle.std.specs.FinMap.{nat_cmp-IsAntisymmetric}
use Rattle.std.specs.FinMap.Entries.{find}
use Rattle.std.proofs.Math.Seq.{take-append_seam}
use Rattle.std.proofs.lemmas.Bool.{cases_eq}
use Rattle.std.proofs.lemmas.Option.{slice_get_within}
use borrow.Author.Tests.{ne_eqb}
use Rattle.cg_maps.specs.FiniteMap.{from_entries, get, set_at}
use Rattle.cg_maps.proofs.Maps.{here, is_same, apart, same_map, get-set_at, get-from_entries}
use Rattle.cg_places.specs.declared.seats.Process.{Process}
use Rattle.cg_places.specs.declared.seats.Cell.{Cell}
use Rattle.cg_places.specs.declared.seats.Stack.{Stack}
use Rattle.cg_places.specs.Seats.{who, AreSeated}
use Rattle.cg_places.specs.Placed.{number_of, ArePlaced, located}
use Rattle.cg_places.specs.Located.{Located}
use Rattle.cg_places.proofs.Lists.{same_some, some_not_none, unmap, at_mapped}
use Rattle.cg_places.proofs.Seating.{push_old, push_end, none_behind}

-- what is written back into a list as long
pub refilled : {A : Type 0} (n : ℕ) (new old : List A) → n ≡ length old → length new ≡ length old → take n (new ++ drop (length new) old) ≡ new
refilled n new old is same = ap (λ k. take k (new ++ drop (length new) old)) (is ∙ sym same) ∙ take-append_seam new (drop (length new) old)

-- ---- what is found at a number

itself : (q : ℕ) → eq_by_cmp nat_cmp q q ≡ true
itself = here nat_cmp_total nat_cmp-IsAntisymmetric

differs : (q p : ℕ) → q ≢ p → eq_by_cmp nat_cmp q p ≡ false
differs = apart nat_cmp_total nat_cmp-IsAntisymmetric

pub found_at : (es : List (ℕ × ℕ)) → ((i j : ℕ) (e f : ℕ × ℕ) → slice_get es i ≡ Some e → slice_get es j ≡ Some f → e.0 ≡ f.0 → i ≡ j) → (j : ℕ) (e : ℕ × ℕ) → slice_get es j ≡ Some e → find nat_cmp e.0 es ≡ Some e.1
found_at [] once j e h = absurd (some_not_none e None h refl)
found_at (f ∷ es) once zero e h =
    let same : f ≡ e = same_some f e h in
    ap (λ b. cond b (Some f.1) (find nat_cmp e.0 es)) (ap (λ (x : ℕ × ℕ). eq_by_cmp nat_cmp e.0 x.0) same ∙ itself e.0) ∙ ap (λ (x : ℕ × ℕ). Some x.1) same
found_at (f ∷ es) once (suc j) e h =
    let ne : e.0 ≢ f.0 = λ same. let no : zero ≡ suc j = once zero (suc j) f e refl h (sym same) in absurd (omega arith) in
    ap (λ b. cond b (Some f.1) (find nat_cmp e.0 es)) (differs e.0 f.0 ne)
    ∙ found_at es (λ i k a b x y z. let next : suc i ≡ suc k = once (suc i) (suc k) a b x y z in omega arith) j e h

pub not_found : (es : List (ℕ × ℕ)) (q : ℕ) → ((j : ℕ) (e : ℕ × ℕ) → slice_get es j ≡ Some e → e.0 ≢ q) → find nat_cmp q es ≡ None
not_found [] q none = refl
not_found (e ∷ es) q none = ap (λ b. cond b (Some e.1) (find nat_cmp q es)) (differs q e.0 (λ same. none 0 e refl (sym same))) ∙ not_found es q (λ j. none (suc j))

-- the group of the process with this number
abbrev pub at_number : List Process → Option ℕ → Option ℕ
at_number ps None = None
at_number ps (Some i) = option_map (λ p. p.group) (slice_get ps i)

module _ (numbers : List (ℕ × ℕ)) (ps : List Process) (cells : List Cell) (ss : List Stack) (h : ArePlaced numbers ps cells ss) where
  process_at : (j : ℕ) (e : ℕ × ℕ) → slice_get (map who ps) j ≡ Some e → (p : Process) × (slice_get ps j ≡ Some p) × (who p ≡ e)
  process_at j e at = unmap who (slice_get ps j) e (sym (at_mapped who ps j) ∙ at)

  pub once : (i j : ℕ) (e f : ℕ × ℕ) → slice_get (map who ps) i ≡ Some e → slice_get (map who ps) j ≡ Some f → e.0 ≡ f.0 → i ≡ j
  once i j e f a b same =
      let p = process_at i e a in
      let q = process_at j f b in
      let pids : p.0.pid ≡ q.0.pid = ap (λ (x : ℕ × ℕ). x.0) p.2 ∙ same ∙ sym (ap (λ (x : ℕ × ℕ). x.0) q.2) in
      same_some i j (sym (h.known i p.0 p.1) ∙ ap (number_of numbers) pids ∙ h.known j q.0 q.1)

  -- no PID is that of two
  pub own_pids : (i j : ℕ) (p q : Process) → slice_get ps i ≡ Some p → slice_get ps j ≡ Some q → p.pid ≡ q.pid → i ≡ j
  own_pids i j p q a b same = same_some i j (sym (h.known i p a) ∙ ap (number_of numbers) same ∙ h.known j q b)

  found_by : (pid : ℕ) (o : Option ℕ) → number_of numbers pid ≡ o → find nat_cmp pid (map who ps) ≡ at_number ps o
  found_by pid None none = not_found (map who ps) pid (λ j e at same.
      let p = process_at j e at in
      some_not_none j (number_of numbers pid) (ap (number_of numbers) (sym (ap (λ (x : ℕ × ℕ). x.0) p.2 ∙ same)) ∙ h.known j p.0 p.1) none)
  found_by pid (Some i) some =
      let p = h.named pid i some in
      ap (λ q. find nat_cmp q (map who ps)) (sym p.2) ∙ found_at (map who ps) once i (who p.0) (at_mapped who ps i ∙ ap (option_map who) p.1) ∙ sym (ap (option_map (λ (x : Process). x.group)) p.1)

  -- what is seen of a PID
  pub place_is : (pid : ℕ) → get (from_entries nat_cmp (map who ps)) pid ≡ at_number ps (number_of numbers pid)
  place_is pid = get-from_entries nat_cmp_total nat_cmp-IsAntisymmetric (map who ps) pid ∙ found_by pid (number_of numbers pid) refl

module _ (numbers : List (ℕ × ℕ)) (ps : List Process) (cells : List Cell) (ss : List Stack) (h : ArePlaced numbers ps cells ss) where
  -- what is seen of a PID
  pub seen_place : (v : Located) → located ps ss ≡ v → (pid : ℕ) → get v.places pid ≡ at_number ps (number_of numbers pid)
  seen_place v is pid = sym (ap (λ (x : Located). get x.places pid) is) ∙ place_is numbers ps cells ss h pid

  pub seen_none : (v : Located) → located ps ss ≡ v → (pid : ℕ) → number_of numbers pid ≡ None → get v.places pid ≡ None
  seen_none v is pid none = seen_place v is pid ∙ ap (at_number ps) none

  pub seen_some : (v : Located) → located ps ss ≡ v → (pid i : ℕ) → number_of numbers pid ≡ Some i → (p : Process) × (slice_get ps i ≡ Some p) × (get v.places pid ≡ Some p.group)
  seen_some v is pid i some =
      let p = h.named pid i some in
      (p.0, p.1, seen_place v is pid ∙ ap (at_number ps) some ∙ ap (option_map (λ (x : Process). x.group)) p.1)

  pub absent_number : (v : Located) → located ps ss ≡ v → (pid : ℕ) → get v.places pid ≡ None → number_of numbers pid ≡ None
  absent_number v is pid none = by (number_of numbers pid) refl
    where
      by : (o : Option ℕ) → number_of numbers pid ≡ o → o ≡ None
      by None e = refl
      by (Some i) e = let p = seen_some v is pid i e in absurd (some_not_none p.0.group (get v.places pid) p.2 none)

  -- the process that is seen in a group
  pub seen_in : (v : Located) → located ps ss ≡ v → (pid g : ℕ) → get v.places pid ≡ Some g → (i : ℕ) × (p : Process) × (slice_get ps i ≡ Some p) × (p.pid ≡ pid) × (p.group ≡ g)
  seen_in v is pid g there = by (number_of numbers pid) refl
    where
      by : (o : Option ℕ) → number_of numbers pid ≡ o → (i : ℕ) × (p : Process) × (slice_get ps i ≡ Some p) × (p.pid ≡ pid) × (p.group ≡ g)
      by None e = absurd (some_not_none g (get v.places pid) there (seen_none v is pid e))
      by (Some i) e =
          let p = h.named pid i e in
          let q = seen_some v is pid i e in
          (i, p.0, p.1, p.2, ap (λ (x : Process). x.group) (same_some p.0 q.0 (sym p.1 ∙ q.1)) ∙ same_some q.0.group g (sym q.2 ∙ there))

  -- and a process is seen in its group
  pub is_seen : (v : Located) → located ps ss ≡ v → (i : ℕ) (p : Process) → slice_get ps i ≡ Some p → get v.places p.pid ≡ Some p.group
  is_seen v is i p at = seen_place v is p.pid ∙ ap (at_number ps) (h.known i p at) ∙ ap (option_map (λ (x : Process). x.group)) at

  pub number_within : (pid i : ℕ) → number_of numbers pid ≡ Some i → i < length ps
  number_within pid i is = let p = h.named pid i is in slice_get_within ps i p.0 p.1

  -- other groups, and all else the same
  module _ (qs : List Process) (ds : List Cell) (ts : List Stack) (seated : AreSeated qs ds ts) (pid i g : ℕ) (is : number_of numbers pid ≡ Some i) (moved : (p : Process) → slice_get ps i ≡ Some p → option_map who (slice_get qs i) ≡ Some (p.pid, g))
      (others : (j : ℕ) → j ≢ i → option_map who (slice_get qs j) ≡ option_map who (slice_get ps j)) (many : length qs ≡ length ps) where
    its : (p : Process) × (slice_get ps i ≡ Some p) × (p.pid ≡ pid)
    its = h.named pid i is

    -- each process has the PID that it had
    was : (j : ℕ) (q : Process) → slice_get qs j ≡ Some q → (p : Process) × (slice_get ps j ≡ Some p) × (p.pid ≡ q.pid)
    was j q at = elim (cases_eq j i) [
      | inl same ↦
          let own : who q ≡ (its.0.pid, g) = same_some (who q) (its.0.pid, g) (sym (ap (option_map who) at) ∙ ap (λ k. option_map who (slice_get qs k)) same ∙ moved its.0 its.1) in
          (its.0, ap (slice_get ps) same ∙ its.1, sym (ap (λ (x : ℕ × ℕ). x.0) own))
      | inr ne ↦
          let p = unmap who (slice_get ps j) (who q) (sym (others j ne) ∙ ap (option_map who) at) in
          (p.0, p.1, ap (λ (x : ℕ × ℕ). x.0) p.2)
    ]

    is_there : (j : ℕ) (p : Process) → slice_get ps j ≡ Some p → (q : Process) × (slice_get qs j ≡ Some q) × (q.pid ≡ p.pid)
    is_there j p at = elim (cases_eq j i) [
      | inl same ↦
          let x = unmap who (slice_get qs j) (p.pid, g) (ap (λ k. option_map who (slice_get qs k)) same ∙ moved p (ap (slice_get ps) (sym same) ∙ at)) in
          (x.0, x.1, ap (λ (y : ℕ × ℕ). y.0) x.2)
      | inr ne ↦
          let x = unmap who (slice_get qs j) (who p) (others j ne ∙ ap (option_map who) at) in
          (x.0, x.1, ap (λ (y : ℕ × ℕ). y.0) x.2)
    ]

    pub placed-put : ArePlaced numbers qs ds ts
    placed-put = record {
      seated = seated;
      known = λ j q at. let p = was j q at in ap (number_of numbers) (sym p.2) ∙ h.known j p.0 p.1;
      named = λ pid' j found. let p = h.named pid' j found in let q = is_there j p.0 p.1 in (q.0, q.1, q.2 ∙ p.2);
      few = subst (λ k. k < 4294967295) (sym many) h.few;
    }

    by_group : (o o' : Option Process) → option_map who o ≡ option_map who o' → option_map (λ (x : Process). x.group) o ≡ option_map (λ (x : Process). x.group) o'
    by_group None None e = refl
    by_group None (Some x) e = absurd (cc)
    by_group (Some x) None e = absurd (cc)
    by_group (Some x) (Some y) e = ap (λ (z : ℕ × ℕ). Some z.1) (same_some (who x) (who y) e)

    group_elsewhere : (q : ℕ) (o : Option ℕ) → q ≢ pid → number_of numbers q ≡ o → at_number qs o ≡ at_number ps o
    group_elsewhere q None ne at = refl
    group_elsewhere q (Some j) ne at =
        let other : j ≢ i = λ same. let p = h.named q j at in ne (sym p.2 ∙ ap (λ (x : Process). x.pid) (same_some p.0 its.0 (sym p.1 ∙ ap (slice_get ps) same ∙ its.1)) ∙ its.2) in
        by_group (slice_get qs j) (slice_get ps j) (others j other)

    group_here : at_number qs (number_of numbers pid) ≡ Some g
    group_here =
        let q = unmap who (slice_get qs i) (its.0.pid, g) (moved its.0 its.1) in
        ap (at_number qs) is ∙ ap (option_map (λ (x : Process). x.group)) q.1 ∙ ap (λ (x : ℕ × ℕ). Some x.1) q.2

    pub places-put : from_entries nat_cmp (map who qs) ≡ set_at (from_entries nat_cmp (map who ps)) pid (Some g)
    places-put = same_map nat_cmp_total nat_cmp-IsAntisymmetric (from_entries nat_cmp (map who qs)) (set_at (from_entries nat_cmp (map who ps)) pid (Some g)) (λ q.
        place_is numbers qs ds ts placed-put q
        ∙ (elim (cases_eq q pid) [
          | inl same ↦
              ap (λ k. at_number qs (number_of numbers k)) same ∙ group_here
              ∙ sym (ap (λ b. cond b (Some g) (get (from_entries nat_cmp (map who ps)) q)) (ap (λ k. eq_by_cmp nat_cmp k pid) same ∙ itself pid))
          | inr ne ↦
              group_elsewhere q (number_of numbers q) ne refl ∙ sym (place_is numbers ps cells ss h q)
              ∙ sym (ap (λ b. cond b (Some g) (get (from_entries nat_cmp (map who ps)) q)) (differs q pid ne))
        ])
        ∙ sym (get-set_at nat_cmp_total nat_cmp-IsAntisymmetric (from_entries nat_cmp (map who ps)) pid (Some g) q))

-- one more

module _ (numbers later : List (ℕ × ℕ)) (ps : List Process) (cells ds : List Cell) (ss ts : List Stack) (h : ArePlaced numbers ps cells ss) (p : Process) (absent : number_of numbers p.pid ≡ None)
    (updates : (q : ℕ) → number_of later q ≡ cond (nat_eq p.pid q) (Some (length ps)) (number_of numbers q)) (seated : AreSeated (ps ++ p ∷ []) ds ts) (few : length ps < 4294967294) where
  ties : (q : ℕ) → p.pid ≡ q → number_of later q ≡ Some (length ps)
  ties q same = updates q ∙ ap (λ b. cond b (Some (length ps)) (number_of numbers q)) (eq-eqb p.pid q same)

  stays : (q : ℕ) → p.pid ≢ q → number_of later q ≡ number_of numbers q
  stays q ne = updates q ∙ ap (λ b. cond b (Some (length ps)) (number_of numbers q)) (ne_eqb p.pid q ne)

  old_at : (i : ℕ) (x : Process) → slice_get ps i ≡ Some x → slice_get (ps ++ p ∷ []) i ≡ Some x
  old_at i x at = push_old ps p i (λ same. some_not_none x (slice_get ps i) at (ap (slice_get ps) same ∙ none_behind ps)) ∙ at

  known_after : (i : ℕ) (x : Process) → slice_get (ps ++ p ∷ []) i ≡ Some x → number_of later x.pid ≡ Some i
  known_after i x at = elim (cases_eq i (length ps)) [
    | inl e ↦
        let own : p ≡ x = same_some p x (sym (push_end ps p) ∙ ap (slice_get (ps ++ p ∷ [])) (sym e) ∙ at) in
        ties x.pid (ap (λ (y : Process). y.pid) own) ∙ ap Some (sym e)
    | inr ne ↦
        let was = h.known i x (sym (push_old ps p i ne) ∙ at) in
        stays x.pid (λ same. some_not_none i (number_of numbers x.pid) was (ap (number_of numbers) (sym same) ∙ absent)) ∙ was
  ]

  named_after : (q i : ℕ) → number_of later q ≡ Some i → (x : Process) × (slice_get (ps ++ p ∷ []) i ≡ Some x) × (x.pid ≡ q)
  named_after q i found = elim (cases_eq p.pid q) [
    | inl same ↦
        let last : length ps ≡ i = same_some (length ps) i (sym (ties q same) ∙ found) in
        (p, ap (slice_get (ps ++ p ∷ [])) (sym last) ∙ push_end ps p, same)
    | inr ne ↦ let x = h.named q i (sym (stays q ne) ∙ found) in (x.0, old_at i x.0 x.1, x.2)
  ]

  pub placed-added : ArePlaced later (ps ++ p ∷ []) ds ts
  placed-added = record { seated = seated; known = known_after; named = named_after; few = omega (arith, length-append ps (p ∷ [])) }

  same_group : (q : ℕ) (o : Option ℕ) → number_of numbers q ≡ o → at_number (ps ++ p ∷ []) o ≡ at_number ps o
  same_group q None e = refl
  same_group q (Some i) e = let x = h.named q i e in ap (option_map (λ (y : Process). y.group)) (old_at i x.0 x.1 ∙ sym x.1)

  pub places-added : (v : Located) → located ps ss ≡ v → from_entries nat_cmp (map who (ps ++ p ∷ [])) ≡ set_at v.places p.pid (Some p.group)
  places-added v is = same_map nat_cmp_total nat_cmp-IsAntisymmetric (from_entries nat_cmp (map who (ps ++ p ∷ []))) (set_at v.places p.pid (Some p.group)) (λ q.
      place_is later (ps ++ p ∷ []) ds ts placed-added q
      ∙ (elim (cases_eq p.pid q) [
        | inl same ↦
            ap (at_number (ps ++ p ∷ [])) (ties q same) ∙ ap (option_map (λ (y : Process). y.group)) (push_end ps p)
            ∙ sym (ap (λ b. cond b (Some p.group) (get v.places q)) (ap (eq_by_cmp nat_cmp q) same ∙ itself q))
        | inr ne ↦
            ap (at_number (ps ++ p ∷ [])) (stays q ne) ∙ same_group q (number_of numbers q) refl ∙ sym (seen_place numbers ps cells ss h v is q)
            ∙ sym (ap (λ b. cond b (Some p.group) (get v.places q)) (differs q p.pid (λ same. ne (sym same))))
      ])
      ∙ sym (get-set_at nat_cmp_total nat_cmp-IsAntisymmetric v.places p.pid (Some p.group) q))
