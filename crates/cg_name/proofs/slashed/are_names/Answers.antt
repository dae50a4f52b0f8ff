-- Each byte is one of a name, or ends one.
use Rattle.std.proofs.Common.{ℕ, List, ◌≡◌, ◌<◌, length, get_or, sym, ap, subst, ◌∙◌, arith}
use Rattle.std.proofs.lemmas.Bool.{false≢true}
use Rattle.cg_name.specs.Name.{IsNameByte}
use Rattle.cg_name.proofs.Slashes.{nothing_read, byte_read, name_read, bad_byte, too_deep, no_name, refuses, last_name, last_bytes}
use Rattle.cg_name.proofs.slashed.are_names.Goals as goal
use Rattle.cg_name.proofs.slashed.are_names.Goals.{then-byte-ne47-via-then-byte-ne47, then-byte-ne47-via-else-byte-ne47+then-depth-ge-MAX_DEPTH, then-byte-ne47-via-else-byte-ne47+else-depth-ge-MAX_DEPTH+then-not-is_free, then-not-is_name_byte+else-byte-ne47+else-depth-ge-MAX_DEPTH+else-not-is_free, else-not-is_name_byte}

pub loop-i-init : goal.loop-i-init
loop-i-init c = nothing_read c.args.text.now c.utf8.text

pub overflow_add-depth : goal.overflow_add-depth
overflow_add-depth c = let low = c.loop-i.invariant.low in omega arith

pub range-requires-clause-start_le_end : goal.range-requires-clause-start_le_end
range-requires-clause-start_le_end c = c.loop-i.invariant.order

pub range-requires-clause-start_boundary : goal.range-requires-clause-start_boundary
range-requires-clause-start_boundary c = λ _. c.loop-i.invariant.boundary

pub is_free-requires : goal.is_free-requires
is_free-requires c = rw c.range.ensures.value c.loop-i.invariant.bytes

pub returns-then-byte-ne47 : goal.returns-then-byte-ne47
returns-then-byte-ne47 c =
    let text : List ℕ = c.args.text.now in
    let i : ℕ = c.loop-i.i in
    let same = c.as_bytes-byte-items.ensures.value in
    let low : i < length text = omega (arith, ap length same) in
    let here : get_or c.as_bytes-byte-items.result.now i 0 ≡ get_or text i 0 = ap (λ bs. get_or bs i 0) same in
    refuses text
    (elim c.then-byte-ne47.branch [
      | then-byte-ne47-via-then-byte-ne47 w ↦
          bad_byte text i low (λ e. w.if-byte-ne47.true (here ∙ e)) (λ k. false≢true (sym c.if-not-is_name_byte.true ∙ c.is_name_byte.ensures.1 (subst IsNameByte (sym here) k)))
      | then-byte-ne47-via-else-byte-ne47+then-depth-ge-MAX_DEPTH w ↦
          too_deep text c.loop-i.start i c.loop-i.depth low (sym here ∙ w.if-byte-ne47.false) w.if-depth-ge-MAX_DEPTH.true c.loop-i.invariant
      | then-byte-ne47-via-else-byte-ne47+else-depth-ge-MAX_DEPTH+then-not-is_free w ↦
          let told = rw w.range.ensures.value at w.is_free.ensures in
          no_name text c.loop-i.start i c.loop-i.depth low (sym here ∙ w.if-byte-ne47.false) (λ k. false≢true (sym w.if-not-is_free.true ∙ told.1 k)) c.loop-i.invariant
    ])

pub loop-i-preserved : goal.loop-i-preserved
loop-i-preserved c =
    let text : List ℕ = c.args.text.now in
    let i : ℕ = c.loop-i.i in
    let same = c.as_bytes-byte-items.ensures.value in
    let low : i < length text = omega (arith, ap length same) in
    let here : get_or c.as_bytes-byte-items.result.now i 0 ≡ get_or text i 0 = ap (λ bs. get_or bs i 0) same in
    elim c.if-not-is_name_byte.branch [
      | then-not-is_name_byte+else-byte-ne47+else-depth-ge-MAX_DEPTH+else-not-is_free w ↦
          let told = rw w.range.ensures.value at w.is_free.ensures in
          let after = name_read text c.loop-i.start i c.loop-i.depth c.utf8.text low (sym here ∙ w.if-byte-ne47.false) w.if-depth-ge-MAX_DEPTH.false (told.0 w.if-not-is_free.false) c.loop-i.invariant in
          rw (w.start-is, w.depth-is) after
      | else-not-is_name_byte w ↦
          let after = byte_read text c.loop-i.start i c.loop-i.depth low (subst IsNameByte here (c.is_name_byte.ensures.0 w.if-not-is_name_byte.false)) c.loop-i.invariant in
          rw (w.start-is, w.depth-is) after
    ]

pub range_from-requires : goal.range_from-requires
range_from-requires c = λ _. c.loop-i.invariant.boundary

pub is_free-requires-2 : goal.is_free-requires-2
is_free-requires-2 c = rw c.range_from.ensures.value (last_bytes c.args.text.now c.loop-i.start c.loop-i.i c.loop-i.depth (omega (arith, ap length c.as_bytes-byte-items.ensures.value)) c.loop-i.invariant)

pub returns : goal.returns
returns c =
    let told = rw c.range_from.ensures.value at c.is_free-2.ensures in
    last_name c.args.text.now c.loop-i.start c.loop-i.i c.loop-i.depth c.is_free-2.result (omega (arith, ap length c.as_bytes-byte-items.ensures.value)) told c.loop-i.invariant
