use Rattle.std.proofs.Common.{◌≡◌, ap, ◌∙◌}
use Rattle.std.specs.Ordering.{nat_cmp}
use Rattle.cg_maps.specs.FiniteMap.{from_entries, get}
use Rattle.cg_maps.proofs.Maps.{get-empty}
use Rattle.cg_model.specs.Footprint.{X, S, N, Pid, Count}
use Rattle.cg_locks.specs.declared.held.Kind.TheVariants as kinds_of
use Rattle.cg_locks.specs.Holders.{held_if}
use Rattle.cg_locks.specs.Table.{by_kind, count_of}
use Rattle.cg_locks.proofs.Tables.{told}
use Rattle.cg_locks.proofs.shared_marks.SharedMarks.new.Goals as goal

pub returns : goal.returns
returns c = λ u m.
    let K = by_kind c.new.result c.new-2.result.entries in
    told K u m
    ∙ elim m as (λ n. count_of K u n ≡ 0) [
      | X p ↦ c.new.ensures kinds_of.Changed p u
      | S p ↦ c.new.ensures kinds_of.Read p u
      | N p ↦ c.new.ensures kinds_of.Stays p u
      | Pid k ↦ ap (λ es. held_if (get (from_entries nat_cmp es) k) u) c.new-2.ensures.empty ∙ ap (λ r. held_if r u) (get-empty nat_cmp k)
      | Count p ↦ c.new.ensures kinds_of.Descendants p u
    ]
