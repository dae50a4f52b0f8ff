use Rattle.std.proofs.Common.{◌≡◌, ◌-◌, length, map, option_map, slice_get, sym, ap, ◌∙◌, arith}
use Rattle.std.proofs.lemmas.List.{length-map}
use Rattle.std.proofs.lemmas.Option.{slice_get_past}
use Rattle.cg_history.proofs.BySession.{same_length}
use Rattle.cg_history.proofs.Newest.{values_are}
use Rattle.cg_history.proofs.session_map.SessionMap.nth_newest.Goals as goal

pub returns-then-count-index : goal.returns-then-count-index
returns-then-count-index g c =
    let all : length (map (λ x. x.1) c.args.self.now) ≡ length c.args.self.now = length-map c.args.self.now (λ x. x.1) in
    let same : length c.self.inside.entries.entries ≡ length c.args.self.now = same_length c.self.inside.entries.entries ∙ ap length c.self.view_is in
    sym (slice_get_past (map (λ x. x.1) c.args.self.now) c.args.index (omega (arith, all, same, c.len-count.ensures.len, c.if-count-index.true)))

pub returns-in-Some : goal.returns-in-Some
returns-in-Some g c =
    ap (option_map (λ e. e.1)) c.in-Some.ensures.entry
    ∙ ap (λ n. option_map (λ e. e.1) (slice_get c.self.inside.entries.entries (n - 1 - c.args.index))) c.len-count.ensures.len
    ∙ sym (values_are c.self.inside.entries.entries c.args.index (omega (arith, c.len-count.ensures.len, c.if-count-index.false)))
    ∙ ap (λ v. slice_get (map (λ x. x.1) v) c.args.index) c.self.view_is
