-- There is room for the call, and for going back over what stands with it.
use Rattle.std.proofs.Common.{rules, ◌+◌, arith}
use Rattle.cg_log.proofs.Standing.{room_kept}
use Rattle.cg_log.proofs.log.Log.note.Goals as goal

pub invariant_of-self : goal.invariant_of-self
invariant_of-self c =
    let more = c.places_back.result in
    let room = room_kept c.self.inside.calls.items c.push_reserved.new.self.items (record { request = c.args.request; answer = c.args.answer }) c.self.inside.reserved c.push_reserved.ensures.items c.self.invariant.1 in
    (search rules, rw (c.places_back.ensures) room)
