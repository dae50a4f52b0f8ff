-- Each process of the group has a cell of its stack, and each cell a process.
use Rattle.std.proofs.Common.{◌≡◌, ◌<◌, Some, length, slice_get, nat_eq, Bool, true, false, inl, inr, refl, ap, ◌∙◌, arith, eq-eqb}
use Rattle.std.proofs.lemmas.Bool.{eqb-true, cases_eq}
use Rattle.std.proofs.lemmas.Option.{slice_get_read}
use Rattle.cg_places.specs.Located.{Located}
use Rattle.cg_places.proofs.Seating.{someone, nobody}
use Rattle.cg_places.proofs.Placing.{seen_in, is_seen}
use Rattle.cg_places.proofs.places.Places.is_empty.Goals as goal

pub returns : goal.returns
returns c =
    let t = c.self.inside in
    let s = c.index.result.now in
    let low : c.args.group < length t.stacks.items = omega (arith, c.requires, ap (λ (v : Located). v.groups) c.self.view_is) in
    let at : slice_get t.stacks.items c.args.group ≡ Some s = slice_get_read t.stacks.items (length t.stacks.items) c.args.group s refl low c.index.ensures in (
      (λ none pid there.
          let x = seen_in t.numbers.entries t.processes.items t.cells.items t.stacks.items c.self.invariant c.args.self.now c.self.view_is pid c.args.group there in
          nobody t.processes.items t.cells.items t.stacks.items c.self.invariant.seated c.args.group s at (eqb-true s.count 0 none) x.0 x.1 x.2 x.4),
      (λ free. elim (cases_eq s.count 0) [
        | inl none ↦ eq-eqb s.count 0 none
        | inr some ↦
            let x = someone t.processes.items t.cells.items t.stacks.items c.self.invariant.seated c.args.group s at some in
            absurd (free x.1.pid (is_seen t.numbers.entries t.processes.items t.cells.items t.stacks.items c.self.invariant c.args.self.now c.self.view_is x.0 x.1 x.2 ∙ ap Some x.3))
      ]),
    )
