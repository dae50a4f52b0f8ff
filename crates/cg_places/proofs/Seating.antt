-- Processes trade cells, and a cell goes from one group's stack to another's.
use Rattle.std.proofs.Common.{◌≡◌, ◌≢◌, ◌⊎◌, ◌↔◌, ◌||◌, ◌++◌, ℕ, zero, suc, ◌<◌, ◌≤◌, Bool, true, false, List, [], ◌∷◌, length, get_or, Option, None, Some, option_map, eqb, refl, sym, ap, subst, ◌∙◌, inl, inr, arith, true≢false, length-append}
use Rattle.std.specs.List.{slice_get, IsDistinct, list_any}
use Rattle.std.proofs.lemmas.Bool.{cases_eq, eqb-true}
use Rattle.std.proofs.lemmas.Map.Keys.{IsDistinct-from_apart}
use Rattle.std.proofs.lemmas.Map.Steps.{length-le_from_distinct_below}
use Rattle.std.proofs.lemmas.Option.{slice_get_within, slice_get-get_or}
use borrow.Author.Tests.{ne_eqb}
use Rattle.cg_places.specs.declared.seats.Process.{Process}
use Rattle.cg_places.specs.declared.seats.Cell.{Cell}
use Rattle.cg_places.specs.declared.seats.Stack.{Stack}
use Rattle.cg_places.specs.Lists.{WritesAt}
use Rattle.cg_places.specs.Stacks.{Has, IsStack, IsStackOf, AreStacks}
use Rattle.cg_places.specs.Seats.{who, next_in, group_at, group_in, stack_in, HaveSeats, AreSeated}
use Rattle.cg_places.proofs.Lists.{same_some, some_not_none, unmap, item_at}
use Rattle.cg_places.proofs.Stacks.{shifted, pushed}

-- ---- a trade

module _ (ps ps1 ps2 : List Process) (cells cells1 cells2 : List Cell) (number top : ℕ) (p q : Process) (c t : Cell) (h : HaveSeats ps cells) (at_p : slice_get ps number ≡ Some p) (at_t : slice_get cells top ≡ Some t) (at_q : slice_get ps t.process ≡ Some q) (at_c : slice_get cells p.cell ≡ Some c)
    (w1 : WritesAt cells cells1 p.cell (record c { process = t.process })) (w2 : WritesAt ps ps1 t.process (record q { cell = p.cell }))
    (w3 : (x : Cell) → slice_get cells1 top ≡ Some x → WritesAt cells1 cells2 top (record x { process = number })) (w4 : (x : Process) → slice_get ps1 number ≡ Some x → WritesAt ps1 ps2 number (record x { cell = top }))
    (same : group_in ps cells top ≡ Some p.group) where
  q_top : q.cell ≡ top
  q_top = let x = h.taken top t at_t in ap (λ (y : Process). y.cell) (same_some q x.0 (sym at_q ∙ x.1)) ∙ x.2

  c_number : c.process ≡ number
  c_number = let x = h.seat number p at_p in ap (λ (y : Cell). y.process) (same_some c x.0 (sym at_c ∙ x.1)) ∙ x.2

  p_is_q : number ≡ t.process → p ≡ q
  p_is_q e = same_some p q (sym at_p ∙ ap (slice_get ps) e ∙ at_q)

  c_is_t : p.cell ≡ top → c ≡ t
  c_is_t e = same_some c t (sym at_c ∙ ap (slice_get cells) e ∙ at_t)

  cells_alike : number ≡ t.process → p.cell ≡ top
  cells_alike e = ap (λ (y : Process). y.cell) (p_is_q e) ∙ q_top

  numbers_alike : p.cell ≡ top → number ≡ t.process
  numbers_alike e = sym c_number ∙ ap (λ (y : Cell). y.process) (c_is_t e)

  q_group : q.group ≡ p.group
  q_group = same_some q.group p.group (sym (ap (option_map (λ (y : Process). y.group)) at_q) ∙ sym (ap (group_at ps) at_t) ∙ same)

  -- what there is afterwards
  new_p : slice_get ps2 number ≡ Some (record p { cell = top })
  new_p = elim (cases_eq number t.process) [
    | inl e ↦ (w4 (record q { cell = p.cell }) (ap (slice_get ps1) e ∙ w2.changed)).changed ∙ ap (λ (y : Process). Some (record y { cell = top })) (sym (p_is_q e))
    | inr ne ↦ (w4 p (w2.others number ne ∙ at_p)).changed
  ]

  write_p : (x : Process) × WritesAt ps1 ps2 number (record x { cell = top })
  write_p = elim (cases_eq number t.process) [
    | inl e ↦ (record q { cell = p.cell }, w4 (record q { cell = p.cell }) (ap (slice_get ps1) e ∙ w2.changed))
    | inr ne ↦ (p, w4 p (w2.others number ne ∙ at_p))
  ]

  new_q : number ≢ t.process → slice_get ps2 t.process ≡ Some (record q { cell = p.cell })
  new_q ne = write_p.1.others t.process (λ e. ne (sym e)) ∙ w2.changed

  old_process : (i : ℕ) → i ≢ number → i ≢ t.process → slice_get ps2 i ≡ slice_get ps i
  old_process i ne ne' = write_p.1.others i ne ∙ w2.others i ne'

  new_t : slice_get cells2 top ≡ Some (record t { process = number })
  new_t = elim (cases_eq top p.cell) [
    | inl e ↦ (w3 (record c { process = t.process }) (ap (slice_get cells1) e ∙ w1.changed)).changed ∙ ap (λ (y : Cell). Some (record y { process = number })) (c_is_t (sym e))
    | inr ne ↦ (w3 t (w1.others top ne ∙ at_t)).changed
  ]

  write_t : (x : Cell) × WritesAt cells1 cells2 top (record x { process = number })
  write_t = elim (cases_eq top p.cell) [
    | inl e ↦ (record c { process = t.process }, w3 (record c { process = t.process }) (ap (slice_get cells1) e ∙ w1.changed))
    | inr ne ↦ (t, w3 t (w1.others top ne ∙ at_t))
  ]

  new_c : p.cell ≢ top → slice_get cells2 p.cell ≡ Some (record c { process = t.process })
  new_c ne = write_t.1.others p.cell ne ∙ w1.changed

  old_cell : (j : ℕ) → j ≢ top → j ≢ p.cell → slice_get cells2 j ≡ slice_get cells j
  old_cell j ne ne' = write_t.1.others j ne ∙ w1.others j ne'

  -- a cell of neither is that of neither
  other_cell : (i : ℕ) (x : Process) → i ≢ number → i ≢ t.process → slice_get ps i ≡ Some x → (x.cell ≢ top) × (x.cell ≢ p.cell)
  other_cell i x ne ne' at =
      let d = h.seat i x at in (
        (λ e. ne' (sym d.2 ∙ ap (λ (y : Cell). y.process) (same_some d.0 t (sym d.1 ∙ ap (slice_get cells) e ∙ at_t)))),
        (λ e. ne (sym d.2 ∙ ap (λ (y : Cell). y.process) (same_some d.0 c (sym d.1 ∙ ap (slice_get cells) e ∙ at_c)) ∙ c_number)),
      )

  other_process : (j : ℕ) (d : Cell) → j ≢ top → j ≢ p.cell → slice_get cells j ≡ Some d → (d.process ≢ number) × (d.process ≢ t.process)
  other_process j d ne ne' at =
      let x = h.taken j d at in (
        (λ e. ne' (sym x.2 ∙ ap (λ (y : Process). y.cell) (same_some x.0 p (sym x.1 ∙ ap (slice_get ps) e ∙ at_p)))),
        (λ e. ne (sym x.2 ∙ ap (λ (y : Process). y.cell) (same_some x.0 q (sym x.1 ∙ ap (slice_get ps) e ∙ at_q)) ∙ q_top)),
      )

  seat_after : (i : ℕ) (x : Process) → slice_get ps2 i ≡ Some x → (d : Cell) × (slice_get cells2 x.cell ≡ Some d) × (d.process ≡ i)
  seat_after i x at = elim (cases_eq i number) [
    | inl e ↦
        let own : record p { cell = top } ≡ x = same_some (record p { cell = top }) x (sym new_p ∙ ap (slice_get ps2) (sym e) ∙ at) in
        (record t { process = number }, ap (λ (y : Process). slice_get cells2 y.cell) (sym own) ∙ new_t, sym e)
    | inr ne ↦ elim (cases_eq i t.process) [
      | inl e ↦
          let apart : number ≢ t.process = λ s. ne (e ∙ sym s) in
          let own : record q { cell = p.cell } ≡ x = same_some (record q { cell = p.cell }) x (sym (new_q apart) ∙ ap (slice_get ps2) (sym e) ∙ at) in
          (record c { process = t.process }, ap (λ (y : Process). slice_get cells2 y.cell) (sym own) ∙ new_c (λ s. apart (numbers_alike s)), sym e)
      | inr ne' ↦
          let was = sym (old_process i ne ne') ∙ at in
          let d = h.seat i x was in
          let out = other_cell i x ne ne' was in
          (d.0, old_cell x.cell out.0 out.1 ∙ d.1, d.2)
    ]
  ]

  taken_after : (j : ℕ) (d : Cell) → slice_get cells2 j ≡ Some d → (x : Process) × (slice_get ps2 d.process ≡ Some x) × (x.cell ≡ j)
  taken_after j d at = elim (cases_eq j top) [
    | inl e ↦
        let own : record t { process = number } ≡ d = same_some (record t { process = number }) d (sym new_t ∙ ap (slice_get cells2) (sym e) ∙ at) in
        (record p { cell = top }, ap (λ (y : Cell). slice_get ps2 y.process) (sym own) ∙ new_p, sym e)
    | inr ne ↦ elim (cases_eq j p.cell) [
      | inl e ↦
          let apart : p.cell ≢ top = λ s. ne (e ∙ s) in
          let own : record c { process = t.process } ≡ d = same_some (record c { process = t.process }) d (sym (new_c apart) ∙ ap (slice_get cells2) (sym e) ∙ at) in
          (record q { cell = p.cell }, ap (λ (y : Cell). slice_get ps2 y.process) (sym own) ∙ new_q (λ s. apart (cells_alike s)), sym e)
      | inr ne' ↦
          let was = sym (old_cell j ne ne') ∙ at in
          let x = h.taken j d was in
          let out = other_process j d ne ne' was in
          (x.0, old_process d.process out.0 out.1 ∙ x.1, x.2)
    ]
  ]

  pub traded : HaveSeats ps2 cells2
  traded = record { seat = seat_after; taken = taken_after; many = write_t.1.many ∙ w1.many ∙ h.many ∙ sym (write_p.1.many ∙ w2.many) }

  pub own_top : (x : Process) → slice_get ps2 number ≡ Some x → x.cell ≡ top
  own_top x at = ap (λ (y : Process). y.cell) (sym (same_some (record p { cell = top }) x (sym new_p ∙ at)))

  pub whos_kept : (i : ℕ) → option_map who (slice_get ps2 i) ≡ option_map who (slice_get ps i)
  whos_kept i = elim (cases_eq i number) [
    | inl e ↦ ap (λ k. option_map who (slice_get ps2 k)) e ∙ ap (option_map who) new_p ∙ sym (ap (option_map who) at_p) ∙ ap (λ k. option_map who (slice_get ps k)) (sym e)
    | inr ne ↦ elim (cases_eq i t.process) [
      | inl e ↦ ap (λ k. option_map who (slice_get ps2 k)) e ∙ ap (option_map who) (new_q (λ s. ne (e ∙ sym s))) ∙ sym (ap (option_map who) at_q) ∙ ap (λ k. option_map who (slice_get ps k)) (sym e)
      | inr ne' ↦ ap (option_map who) (old_process i ne ne')
    ]
  ]

  pub next_kept : (j : ℕ) → next_in cells2 j ≡ next_in cells j
  next_kept j = elim (cases_eq j top) [
    | inl e ↦ ap (next_in cells2) e ∙ ap (option_map (λ (y : Cell). y.next)) new_t ∙ sym (ap (option_map (λ (y : Cell). y.next)) at_t) ∙ ap (next_in cells) (sym e)
    | inr ne ↦ elim (cases_eq j p.cell) [
      | inl e ↦ ap (next_in cells2) e ∙ ap (option_map (λ (y : Cell). y.next)) (new_c (λ s. ne (e ∙ s))) ∙ sym (ap (option_map (λ (y : Cell). y.next)) at_c) ∙ ap (next_in cells) (sym e)
      | inr ne' ↦ ap (option_map (λ (y : Cell). y.next)) (old_cell j ne ne')
    ]
  ]

  group_elsewhere : (j : ℕ) (o : Option Cell) → j ≢ top → j ≢ p.cell → slice_get cells j ≡ o → group_at ps2 o ≡ group_at ps o
  group_elsewhere j None ne ne' at = refl
  group_elsewhere j (Some d) ne ne' at = let out = other_process j d ne ne' at in ap (option_map (λ (y : Process). y.group)) (old_process d.process out.0 out.1)

  pub groups_kept : (j : ℕ) → group_in ps2 cells2 j ≡ group_in ps cells j
  groups_kept j = elim (cases_eq j top) [
    | inl e ↦ ap (group_in ps2 cells2) e ∙ ap (group_at ps2) new_t ∙ ap (option_map (λ (y : Process). y.group)) new_p ∙ sym same ∙ ap (group_in ps cells) (sym e)
    | inr ne ↦ elim (cases_eq j p.cell) [
      | inl e ↦
          let apart : p.cell ≢ top = λ s. ne (e ∙ s) in
          ap (group_in ps2 cells2) e ∙ ap (group_at ps2) (new_c apart) ∙ ap (option_map (λ (y : Process). y.group)) (new_q (λ s. apart (cells_alike s))) ∙ ap Some q_group
          ∙ sym (ap (option_map (λ (y : Process). y.group)) at_p) ∙ ap (λ k. option_map (λ (y : Process). y.group) (slice_get ps k)) (sym c_number) ∙ sym (ap (group_at ps) at_c) ∙ ap (group_in ps cells) (sym e)
      | inr ne' ↦ ap (group_at ps2) (old_cell j ne ne') ∙ group_elsewhere j (slice_get cells j) ne ne' refl
    ]
  ]

-- ---- the stack of a group

any_cases : (b c : Bool) → (b || c) ≡ true → b ≡ false → c ≡ true
any_cases true c h e = absurd (true≢false e)
any_cases false c h e = h

stands : (ks : List ℕ) (k : ℕ) → list_any (eqb k) ks ≡ true → Has ks k
stands [] k any = absurd (true≢false (sym any))
stands (m ∷ ks) k any = by (eqb k m) refl (stands ks k)
  where
    by : (b : Bool) → eqb k m ≡ b → (list_any (eqb k) ks ≡ true → Has ks k) → Has (m ∷ ks) k
    by true e rest = (zero, ap Some (sym (eqb-true k m e)))
    by false e rest = let has = rest (any_cases (eqb k m) (list_any (eqb k) ks) any e) in (suc has.0, has.1)

module _ (ps : List Process) (cells : List Cell) (ss : List Stack) (h : AreSeated ps cells ss) where
  stack_of : (g : ℕ) (s : Stack) → slice_get ss g ≡ Some s → IsStackOf (next_in cells) (group_in ps cells) g s.first s.count
  stack_of g s at = h.stacks g (s.first, s.count) (ap (option_map (λ (x : Stack). (x.first, x.count))) at)

  first_in : (g first count : ℕ) (x : IsStackOf (next_in cells) (group_in ps cells) g first count) (j : ℕ) → group_in ps cells j ≡ Some g → (0 < count) × (group_in ps cells first ≡ Some g)
  first_in g first count x j is = by x.cells x.many x.linked x.own ((x.own j).1 is)
    where
      by : (ks : List ℕ) → length ks ≡ count → IsStack (next_in cells) first ks → ((k : ℕ) → Has ks k ↔ (group_in ps cells k ≡ Some g)) → Has ks j → (0 < count) × (group_in ps cells first ≡ Some g)
      by [] many linked own has = absurd (some_not_none j None has.1 refl)
      by (k ∷ ks) many linked own has = (omega arith, ap (group_in ps cells) linked.0 ∙ (own k).0 (zero, refl))

  -- where a process of the group has a cell, there is one on top
  pub top_there : (g : ℕ) (s : Stack) → slice_get ss g ≡ Some s → (j : ℕ) → group_in ps cells j ≡ Some g → (0 < s.count) × (group_in ps cells s.first ≡ Some g)
  top_there g s at = first_in g s.first s.count (stack_of g s at)

  cell_within : (j g : ℕ) → group_in ps cells j ≡ Some g → j < length cells
  cell_within j g is = by (slice_get cells j) refl is
    where
      by : (o : Option Cell) → slice_get cells j ≡ o → group_at ps o ≡ Some g → j < length cells
      by None none e = absurd (some_not_none g None e refl)
      by (Some c) some e = slice_get_within cells j c some

  -- no stack has more cells than there are
  pub count_fits : (g : ℕ) (s : Stack) → slice_get ss g ≡ Some s → s.count ≤ length cells
  count_fits g s at =
      let x = stack_of g s at in
      let distinct : IsDistinct eqb x.cells = IsDistinct-from_apart eqb x.cells (λ i j d less low. ne_eqb (get_or x.cells i d) (get_or x.cells j d) (λ same.
      let is : i ≡ j = x.once i j (get_or x.cells j d) (slice_get-get_or x.cells i d (omega arith) ∙ ap Some same) (slice_get-get_or x.cells j d low) in absurd (omega arith))) in
      let fits = length-le_from_distinct_below x.cells (length cells) distinct (λ k any. let has = stands x.cells k any in cell_within k g ((x.own k).0 has)) in
      omega (arith, fits, x.many)

  -- a group whose stack has a cell has a process, and else it has none
  pub someone : (g : ℕ) (s : Stack) → slice_get ss g ≡ Some s → s.count ≢ 0 → (i : ℕ) × (p : Process) × (slice_get ps i ≡ Some p) × (p.group ≡ g)
  someone g s at some = let x = stack_of g s at in by x.cells x.many x.own
    where
      of_cell : (j : ℕ) (o : Option Cell) → slice_get cells j ≡ o → group_at ps o ≡ Some g → (i : ℕ) × (p : Process) × (slice_get ps i ≡ Some p) × (p.group ≡ g)
      of_cell j None at e = absurd (some_not_none g None e refl)
      of_cell j (Some d) at e = let p = unmap (λ (y : Process). y.group) (slice_get ps d.process) g e in (d.process, p.0, p.1, p.2)

      by : (ks : List ℕ) → length ks ≡ s.count → ((k : ℕ) → Has ks k ↔ (group_in ps cells k ≡ Some g)) → (i : ℕ) × (p : Process) × (slice_get ps i ≡ Some p) × (p.group ≡ g)
      by [] many own = absurd (some (sym many))
      by (k ∷ ks) many own = of_cell k (slice_get cells k) refl ((own k).0 (zero, refl))

  pub nobody : (g : ℕ) (s : Stack) → slice_get ss g ≡ Some s → s.count ≡ 0 → (i : ℕ) (p : Process) → slice_get ps i ≡ Some p → p.group ≢ g
  nobody g s at none i p at_p is =
      let c = h.seats.seat i p at_p in
      let own : group_in ps cells p.cell ≡ Some p.group = ap (group_at ps) c.1 ∙ ap (λ k. option_map (λ (y : Process). y.group) (slice_get ps k)) c.2 ∙ ap (option_map (λ (y : Process). y.group)) at_p in
      let top = top_there g s at p.cell (own ∙ ap Some is) in
      absurd (omega (arith, top.0, none))

  -- the group of a process is that of its cell
  pub own_group : (i : ℕ) (p : Process) → slice_get ps i ≡ Some p → group_in ps cells p.cell ≡ Some p.group
  own_group i p at =
      let c = h.seats.seat i p at in
      ap (group_at ps) c.1 ∙ ap (λ k. option_map (λ (y : Process). y.group) (slice_get ps k)) c.2 ∙ ap (option_map (λ (y : Process). y.group)) at

  pub within_cells : (j g : ℕ) → group_in ps cells j ≡ Some g → j < length cells
  within_cells = cell_within

-- the same stacks
pub seated-kept : (ps qs : List Process) (cells ds : List Cell) (ss : List Stack) → AreSeated ps cells ss → HaveSeats qs ds → ((i : ℕ) → option_map who (slice_get qs i) ≡ option_map who (slice_get ps i)) → ((j : ℕ) → next_in ds j ≡ next_in cells j) → ((j : ℕ) → group_in qs ds j ≡ group_in ps cells j) → AreSeated qs ds ss
seated-kept ps qs cells ds ss h seats whos next groups = record {
  seats = seats;
  within = λ i p at.
      let x = unmap who (slice_get ps i) (who p) (sym (whos i) ∙ ap (option_map who) at) in
      subst (λ g. g < length ss) (ap (λ (y : ℕ × ℕ). y.1) x.2) (h.within i x.0 x.1);
  stacks =
      let same_next : next_in ds ≡ next_in cells = λ k j. next j k in
      let same_group : group_in qs ds ≡ group_in ps cells = λ k j. groups j k in
      subst (λ f. AreStacks f (group_in qs ds) (stack_in ss)) (sym same_next) (subst (λ f. AreStacks (next_in cells) f (stack_in ss)) (sym same_group) h.stacks);
}

-- ---- a process goes to another group

module _ (ps qs : List Process) (cells ds : List Cell) (ss ts : List Stack) (h : AreSeated ps cells ss) (number from to n : ℕ) (p : Process) (s t : Stack) (c : Cell) (apart : from ≢ to)
    (at_p : slice_get ps number ≡ Some p) (in_from : p.group ≡ from) (at_s : slice_get ss from ≡ Some s) (some : s.count ≡ suc n) (on_top : p.cell ≡ s.first) (at_t : slice_get ss to ≡ Some t) (at_c : slice_get cells s.first ≡ Some c)
    (wc : WritesAt cells ds s.first (record c { next = t.first })) (wp : WritesAt ps qs number (record p { group = to }))
    (now_from : stack_in ts from ≡ Some (c.next, n)) (now_to : stack_in ts to ≡ Some (s.first, suc t.count)) (elsewhere : (g : ℕ) → g ≢ from → g ≢ to → stack_in ts g ≡ stack_in ss g) (many : length ts ≡ length ss) where
  top_process : c.process ≡ number
  top_process = let x = h.seats.seat number p at_p in ap (λ (y : Cell). y.process) (same_some c x.0 (sym at_c ∙ ap (slice_get cells) (sym on_top) ∙ x.1)) ∙ x.2

  other_than : (j : ℕ) (d : Cell) → j ≢ s.first → slice_get cells j ≡ Some d → d.process ≢ number
  other_than j d ne at e = let x = h.seats.taken j d at in ne (sym x.2 ∙ ap (λ (y : Process). y.cell) (same_some x.0 p (sym x.1 ∙ ap (slice_get ps) e ∙ at_p)) ∙ on_top)

  seats_after : HaveSeats qs ds
  seats_after = record {
    seat = λ i x at. elim (cases_eq i number) [
      | inl e ↦
          let own : record p { group = to } ≡ x = same_some (record p { group = to }) x (sym wp.changed ∙ ap (slice_get qs) (sym e) ∙ at) in
          (record c { next = t.first }, ap (λ (y : Process). slice_get ds y.cell) (sym own) ∙ ap (slice_get ds) on_top ∙ wc.changed, top_process ∙ sym e)
      | inr ne ↦
          let was = sym (wp.others i ne) ∙ at in
          let d = h.seats.seat i x was in
          let out : x.cell ≢ s.first = λ e. ne (sym d.2 ∙ ap (λ (y : Cell). y.process) (same_some d.0 c (sym d.1 ∙ ap (slice_get cells) e ∙ at_c)) ∙ top_process) in
          (d.0, wc.others x.cell out ∙ d.1, d.2)
    ];
    taken = λ j d at. elim (cases_eq j s.first) [
      | inl e ↦
          let own : record c { next = t.first } ≡ d = same_some (record c { next = t.first }) d (sym wc.changed ∙ ap (slice_get ds) (sym e) ∙ at) in
          (record p { group = to }, ap (λ (y : Cell). slice_get qs y.process) (sym own) ∙ ap (slice_get qs) top_process ∙ wp.changed, on_top ∙ sym e)
      | inr ne ↦
          let was = sym (wc.others j ne) ∙ at in
          let x = h.seats.taken j d was in
          (x.0, wp.others d.process (other_than j d ne was) ∙ x.1, x.2)
    ];
    many = wc.many ∙ h.seats.many ∙ sym wp.many;
  }

  stays : (j : ℕ) (o : Option Cell) → j ≢ s.first → slice_get cells j ≡ o → group_at qs o ≡ group_at ps o
  stays j None ne at = refl
  stays j (Some d) ne at = ap (option_map (λ (y : Process). y.group)) (wp.others d.process (other_than j d ne at))

  pub moved : AreSeated qs ds ts
  moved = record {
    seats = seats_after;
    within = λ i x at. elim (cases_eq i number) [
      | inl e ↦
          let own : record p { group = to } ≡ x = same_some (record p { group = to }) x (sym wp.changed ∙ ap (slice_get qs) (sym e) ∙ at) in
          let low : to < length ss = slice_get_within ss to t at_t in
          subst (λ g. g < length ts) (ap (λ (y : Process). y.group) own) (subst (λ k. to < k) (sym many) low)
      | inr ne ↦ subst (λ k. x.group < k) (sym many) (h.within i x (sym (wp.others i ne) ∙ at))
    ];
    stacks =
        shifted (next_in cells) (next_in ds) (group_in ps cells) (group_in qs ds) (stack_in ss) (stack_in ts) h.stacks from to s.first n c.next t.first t.count apart
        (ap (option_map (λ (x : Stack). (x.first, x.count))) at_s ∙ (λ i. Some (s.first, some i))) (ap (option_map (λ (x : Stack). (x.first, x.count))) at_t) (ap (option_map (λ (x : Cell). x.next)) at_c)
        (ap (option_map (λ (x : Cell). x.next)) wc.changed) (λ j ne. ap (option_map (λ (x : Cell). x.next)) (wc.others j ne))
        (ap (group_at qs) wc.changed ∙ ap (λ k. option_map (λ (y : Process). y.group) (slice_get qs k)) top_process ∙ ap (option_map (λ (y : Process). y.group)) wp.changed)
        (λ j ne. ap (group_at qs) (wc.others j ne) ∙ stays j (slice_get cells j) ne refl)
        now_from now_to elsewhere;
  }

-- ---- a process comes in

pub push_old : {A : Type 0} (xs : List A) (x : A) (j : ℕ) → j ≢ length xs → slice_get (xs ++ x ∷ []) j ≡ slice_get xs j
push_old [] x zero ne = absurd (ne refl)
push_old [] x (suc j) ne = refl
push_old (y ∷ ys) x zero ne = refl
push_old (y ∷ ys) x (suc j) ne = push_old ys x j (λ same. ne (ap suc same))

pub push_end : {A : Type 0} (xs : List A) (x : A) → slice_get (xs ++ x ∷ []) (length xs) ≡ Some x
push_end [] x = refl
push_end (y ∷ ys) x = push_end ys x

pub none_behind : {A : Type 0} (xs : List A) → slice_get xs (length xs) ≡ None
none_behind [] = refl
none_behind (y ∷ ys) = none_behind ys

module _ (ps : List Process) (cells : List Cell) (ss ts : List Stack) (h : AreSeated ps cells ss) (p : Process) (c : Cell) (t : Stack) (at_t : slice_get ss p.group ≡ Some t) (own_cell : p.cell ≡ length ps) (own_process : c.process ≡ length ps) (below : c.next ≡ t.first)
    (now : stack_in ts p.group ≡ Some (length ps, suc t.count)) (others : (g : ℕ) → g ≢ p.group → stack_in ts g ≡ stack_in ss g) (many : length ts ≡ length ss) where
  pub joined : AreSeated (ps ++ p ∷ []) (cells ++ c ∷ []) ts
  joined =
      let equal : length cells ≡ length ps = h.seats.many in
      let new_p : slice_get (ps ++ p ∷ []) (length ps) ≡ Some p = push_end ps p in
      let new_c : slice_get (cells ++ c ∷ []) (length ps) ≡ Some c = ap (slice_get (cells ++ c ∷ [])) (sym equal) ∙ push_end cells c in
      let no_c : slice_get cells (length ps) ≡ None = ap (slice_get cells) (sym equal) ∙ none_behind cells in
      let old_c : (j : ℕ) → j ≢ length ps → slice_get (cells ++ c ∷ []) j ≡ slice_get cells j = λ j ne. push_old cells c j (λ same. ne (same ∙ equal)) in
      record {
        seats = record {
          seat = λ i x at. elim (cases_eq i (length ps)) [
            | inl e ↦
                let own : p ≡ x = same_some p x (sym new_p ∙ ap (slice_get (ps ++ p ∷ [])) (sym e) ∙ at) in
                (c, ap (λ (y : Process). slice_get (cells ++ c ∷ []) y.cell) (sym own) ∙ ap (slice_get (cells ++ c ∷ [])) own_cell ∙ new_c, own_process ∙ sym e)
            | inr ne ↦
                let d = h.seats.seat i x (sym (push_old ps p i ne) ∙ at) in
                let out : x.cell ≢ length ps = λ same. some_not_none d.0 (slice_get cells x.cell) d.1 (ap (slice_get cells) same ∙ no_c) in
                (d.0, old_c x.cell out ∙ d.1, d.2)
          ];
          taken = λ j d at. elim (cases_eq j (length ps)) [
            | inl e ↦
                let own : c ≡ d = same_some c d (sym new_c ∙ ap (slice_get (cells ++ c ∷ [])) (sym e) ∙ at) in
                (p, ap (λ (y : Cell). slice_get (ps ++ p ∷ []) y.process) (sym own) ∙ ap (slice_get (ps ++ p ∷ [])) own_process ∙ new_p, own_cell ∙ sym e)
            | inr ne ↦
                let x = h.seats.taken j d (sym (old_c j ne) ∙ at) in
                let out : d.process ≢ length ps = λ same. some_not_none x.0 (slice_get ps d.process) x.1 (ap (slice_get ps) same ∙ none_behind ps) in
                (x.0, push_old ps p d.process out ∙ x.1, x.2)
          ];
          many = omega (arith, length-append cells (c ∷ []), length-append ps (p ∷ []), equal);
        };
        within = λ i x at. elim (cases_eq i (length ps)) [
          | inl e ↦
              let own : p ≡ x = same_some p x (sym new_p ∙ ap (slice_get (ps ++ p ∷ [])) (sym e) ∙ at) in
              let low : p.group < length ss = slice_get_within ss p.group t at_t in
              subst (λ g. g < length ts) (ap (λ (y : Process). y.group) own) (subst (λ k. p.group < k) (sym many) low)
          | inr ne ↦ subst (λ k. x.group < k) (sym many) (h.within i x (sym (push_old ps p i ne) ∙ at))
        ];
        stacks =
            pushed (next_in cells) (next_in (cells ++ c ∷ [])) (group_in ps cells) (group_in (ps ++ p ∷ []) (cells ++ c ∷ [])) p.group (length ps) t.first
            (ap (option_map (λ (y : Cell). y.next)) new_c ∙ ap Some below)
            (λ j ne. ap (option_map (λ (y : Cell). y.next)) (old_c j ne))
            (ap (group_at (ps ++ p ∷ [])) new_c ∙ ap (λ k. option_map (λ (y : Process). y.group) (slice_get (ps ++ p ∷ []) k)) own_process ∙ ap (option_map (λ (y : Process). y.group)) new_p)
            (λ j ne. ap (group_at (ps ++ p ∷ [])) (old_c j ne) ∙ stays j (slice_get cells j) refl)
            (stack_in ss) (stack_in ts) t.count h.stacks (ap (group_at ps) no_c) (ap (option_map (λ (y : Stack). (y.first, y.count))) at_t) now others;
      }
    where
      stays : (j : ℕ) (o : Option Cell) → slice_get cells j ≡ o → group_at (ps ++ p ∷ []) o ≡ group_at ps o
      stays j None at = refl
      stays j (Some d) at =
          let x = h.seats.taken j d at in
          ap (option_map (λ (y : Process). y.group)) (push_old ps p d.process (λ same. some_not_none x.0 (slice_get ps d.process) x.1 (ap (slice_get ps) same ∙ none_behind ps)))

-- ---- more groups

pub widened : (ps : List Process) (cells : List Cell) (ss ts : List Stack) → AreSeated ps cells ss → length ss ≤ length ts → ((g : ℕ) → g < length ss → slice_get ts g ≡ slice_get ss g) → ((g : ℕ) (s : Stack) → length ss ≤ g → slice_get ts g ≡ Some s → s.count ≡ 0) → AreSeated ps cells ts
widened ps cells ss ts h wider same empty = record {
  seats = h.seats;
  within = λ i p at. let low = h.within i p at in omega arith;
  stacks = λ g s at.
      let x = unmap (λ (y : Stack). (y.first, y.count)) (slice_get ts g) s at in
      elim (below_or g (length ss)) [
        | inl low ↦ h.stacks g s (ap (option_map (λ (y : Stack). (y.first, y.count))) (sym (same g low)) ∙ at)
        | inr high ↦
            let none : s.1 ≡ 0 = ap (λ (y : ℕ × ℕ). y.1) (sym x.2) ∙ empty g x.0 high x.1 in
            record {
              cells = [];
              many = sym none;
              linked = tt;
              once = λ i j k a b. absurd (some_not_none k None a refl);
              own = λ j. ((λ has. absurd (some_not_none j None has.1 refl)), λ is. absurd (no_group g j high is));
            }
      ];
}
  where
    below_or : (g n : ℕ) → (g < n) ⊎ (n ≤ g)
    below_or g zero = inr (omega arith)
    below_or zero (suc n) = inl (omega arith)
    below_or (suc g) (suc n) = elim (below_or g n) [ inl a ↦ inl (omega arith) | inr a ↦ inr (omega arith) ]

    no_group : (g j : ℕ) → length ss ≤ g → group_in ps cells j ≡ Some g → ⊥
    no_group g j high is = by (slice_get cells j) refl is
      where
        by : (o : Option Cell) → slice_get cells j ≡ o → group_at ps o ≡ Some g → ⊥
        by None at e = some_not_none g None e refl
        by (Some d) at e =
            let p = unmap (λ (y : Process). y.group) (slice_get ps d.process) g e in
            let low = h.within d.process p.0 p.1 in absurd (omega (arith, p.2))
