-- A place is left for each item that stands behind the call.
use Rattle.std.proofs.Common.{rules, arith, sym, ◌∙◌}
use Rattle.cg_log.proofs.Standing.{room_left}
use Rattle.cg_log.proofs.log.Log.note_back.Goals as goal

pub invariant_of-self : goal.invariant_of-self
invariant_of-self c =
    let reserved = c.self.inside.reserved in (
      search rules,
      room_left c.self.inside.calls.items c.push_reserved.new.self.items (record { request = c.args.request; answer = c.args.answer }) reserved c.push_reserved.ensures.items c.requires.back (sym c.is_recorded.ensures ∙ c.if-is_recorded.true) (search rules) c.self.invariant.1,
    )
