-- The first is the least, and the least of the others where it is the transaction itself.
use Rattle.std.proofs.Common.{ℕ, option_map, slice_get, sym, ap, subst, ◌∙◌}
use Rattle.cg_locks.specs.FirstsAndOthers.{others_in}
use Rattle.cg_locks.specs.Held.{part_of}
use Rattle.cg_locks.specs.Holders.{held_by, IsLeastOther}
use Rattle.cg_locks.proofs.Firsts.{first_is_least, next_is_least, nobody_else}
use Rattle.cg_locks.proofs.HeldParts.{are_holders, as_seen, part_sorted}
use Rattle.cg_locks.proofs.held.Held.least_other.Goals as goal

pub returns-then-first-eq0 : goal.returns-then-first-eq0
returns-then-first-eq0 c =
    let s = c.args.part in let F = c.self.inside.firsts in let es = c.self.inside.others.items in let H = c.self.invariant in let V = c.args.self.now in let t = c.args.transaction.0 in
    let x = c.get-first.result in let is = c.get-first.ensures in let os = others_in s es in
    let h = are_holders s F es H x is in let view = as_seen s F es H x is V c.self.view_is in
    nobody_else x.holder x.times os h (part_of s V) view t c.if-first-eq0.true

pub returns-then-first-transaction : goal.returns-then-first-transaction
returns-then-first-transaction c =
    let s = c.args.part in let F = c.self.inside.firsts in let es = c.self.inside.others.items in let H = c.self.invariant in let V = c.args.self.now in let t = c.args.transaction.0 in
    let x = c.get-first.result in let is = c.get-first.ensures in let os = others_in s es in
    let h = are_holders s F es H x is in let view = as_seen s F es H x is V c.self.view_is in
    first_is_least x.holder x.times os h (part_of s V) view t c.if-first-eq0.false c.if-first-transaction.true

pub least_in-requires : goal.least_in-requires
least_in-requires c = part_sorted c.args.part c.self.inside.firsts c.self.inside.others.items c.self.invariant c.deref.result.now c.deref.ensures.value

pub returns-in-Some : goal.returns-in-Some
returns-in-Some c =
    let s = c.args.part in let F = c.self.inside.firsts in let es = c.self.inside.others.items in let H = c.self.invariant in let V = c.args.self.now in let t = c.args.transaction.0 in
    let x = c.get-first.result in let is = c.get-first.ensures in let os = others_in s es in
    let h = are_holders s F es H x is in let view = as_seen s F es H x is V c.self.view_is in
    subst (IsLeastOther t (held_by (part_of s V))) (ap (λ xs. option_map (λ (e : ℕ × ℕ). e.0) (slice_get (others_in s xs) 0)) (sym c.deref.ensures.value) ∙ sym c.least_in.ensures ∙ c.in-Some.is) (next_is_least x.holder x.times os h (part_of s V) view t c.if-first-eq0.false c.if-first-transaction.false)

pub returns-in-None : goal.returns-in-None
returns-in-None c =
    let s = c.args.part in let F = c.self.inside.firsts in let es = c.self.inside.others.items in let H = c.self.invariant in let V = c.args.self.now in let t = c.args.transaction.0 in
    let x = c.get-first.result in let is = c.get-first.ensures in let os = others_in s es in
    let h = are_holders s F es H x is in let view = as_seen s F es H x is V c.self.view_is in
    subst (IsLeastOther t (held_by (part_of s V))) (ap (λ xs. option_map (λ (e : ℕ × ℕ). e.0) (slice_get (others_in s xs) 0)) (sym c.deref.ensures.value) ∙ sym c.least_in.ensures ∙ c.in-None.is) (next_is_least x.holder x.times os h (part_of s V) view t c.if-first-eq0.false c.if-first-transaction.false)
