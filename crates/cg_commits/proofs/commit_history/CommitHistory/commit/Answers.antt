-- The places of the stack are those of the script, behind the others, and have the next number.
use Rattle.std.proofs.Common.{◌≡◌, ◌+◌, [], ◌-◌, ◌<◌, ◌≤◌, ◌^◌, ◌∷◌, ◌++◌, length, sym, ap, subst, ◌∙◌, arith}
use Rattle.std.proofs.lemmas.List.{length-append}
use Rattle.std.specs.List.{AllByRecursion}
use Rattle.std.specs.Vec.{vec_len}
use Rattle.cg_model.specs.Cgroups.{cgroups}
use Rattle.cg_model.specs.Live.{live}
use Rattle.cg_model.specs.Opens.{commits}
use Rattle.cg_history.specs.Meaning.{record_of}
use Rattle.cg_history.proofs.Records.{commits_within}
use Rattle.cg_txn.specs.Places.{places_on}
use Rattle.cg_core_laws.specs.CommittedCommands.{committed_places, places}
use Rattle.cg_core_laws.proofs.Interleaving.CommittedPlaces.{places_live}
use Rattle.cg_commits.specs.Kept.{IsKept}
use Rattle.cg_commits.specs.Layout.{ends_of, joined}
use Rattle.cg_commits.proofs.Committing.{all_less, behind, fewer_places, numbers_first, places_first}
use Rattle.cg_commits.proofs.commit_history.CommitHistory.commit.Goals as goal

pub overflow_add-number : goal.overflow_add-number
overflow_add-number c =
    let few : length c.self.inside.history.0 < 2 ^ 32 - 1 = subst (λ v. length v.0 < 2 ^ 32 - 1) (sym c.self.view_is) c.requires.few in
    let within : commits c.self.inside.history.0 ≤ length c.self.inside.history.0 = commits_within c.self.inside.history.0 in
    let is = c.committed-number.ensures in
    omega (arith, few, within, is)

pub give_number-requires : goal.give_number-requires
give_number-requires c =
    let old = c.self.inside.places in
    let script : places_on c.args.txn.now.items ≡ places (live c.args.entry.txn.0 c.self.inside.history.0) = c.requires.script ∙ ap (λ v. places (live c.args.entry.txn.0 v.0)) (sym c.self.view_is) in
    let size : length c.self.inside.history.0 ≤ vec_len c.self.inside.numbers = let kept = c.self.invariant.size in omega (arith, kept) in
    subst (AllByRecursion (λ n. n < vec_len c.self.inside.numbers))
    (sym script
    ∙ sym (behind old.items (places_on c.args.txn.now.items) c.deref.result.now c.len-start.result c.len-end.result (c.deref.ensures.value ∙ c.write_places.ensures.items)
    (let is = c.len-start.ensures in let all = old.ok.0 in omega (arith, is, all))
    (let is = c.len-end.ensures in let all = c.deref.ensures.len in omega (arith, is, all))))
    (all_less (length c.self.inside.history.0) (vec_len c.self.inside.numbers) _ size (places_live cgroups c.args.entry.txn.0 c.self.inside.history.0))

pub invariant_of-self : goal.invariant_of-self
invariant_of-self c =
    let h = c.self.inside.history.0 in
    let r = record_of c.args.entry in
    let t = c.args.entry.txn.0 in
    let script : places_on c.args.txn.now.items ≡ places (live t h) = c.requires.script ∙ ap (λ v. places (live t v.0)) (sym c.self.view_is) in
    let left : c.release.new.self ≡ (r ∷ h, (c.self.inside.history.1 - 1) - c.len.result) = c.release.ensures ∙ ap (λ p. (p.0, p.1 - c.len.result)) c.push.ensures in
    let first = places_first r h c.requires.commits in
    let written : c.write_places.new.numbers.items ≡ joined (committed_places (r ∷ h)) =
    c.write_places.ensures.items ∙ (λ i. c.self.invariant.places i ++ script i) ∙ sym (ap joined first)
    in
    let part = behind c.self.inside.places.items (places_on c.args.txn.now.items) c.deref.result.now c.len-start.result c.len-end.result (c.deref.ensures.value ∙ c.write_places.ensures.items)
    (let is = c.len-start.ensures in let all = c.self.inside.places.ok.0 in omega (arith, is, all))
    (let is = c.len-end.ensures in let all = c.deref.ensures.len in omega (arith, is, all)) in
    let in_all : c.len-end.result ≡ length (joined (committed_places (r ∷ h))) =
    (let is = c.len-end.ensures in let all = c.write_places.new.numbers.ok.0 in let same : length c.write_places.new.numbers.items ≡ length (joined (committed_places (r ∷ h))) = ap length written in omega (arith, is, all, same))
    in
    let reserved : length c.args.txn.now.items < c.self.inside.history.1 = subst (λ v. length c.args.txn.now.items < v.1) (sym c.self.view_is) c.requires.reserved in
    let few = fewer_places c.args.txn.now.items in
    let more : length c.write_places.new.numbers.items ≡ length c.self.inside.places.items + length (places_on c.args.txn.now.items) = ap length c.write_places.ensures.items ∙ length-append c.self.inside.places.items (places_on c.args.txn.now.items) in
    subst (λ k. IsKept (record { history = k; places = c.write_places.new.numbers; ends = c.push_reserved.new.self; numbers = c.give_number.new.numbers; spare = c.self.inside.spare })) (sym left)
    (record {
      places = written;
      ends = c.push_reserved.ensures.items ∙ (λ i. c.self.invariant.ends i ++ in_all i ∷ []) ∙ sym (ap ends_of first ∙ ap (λ ls. ends_of (committed_places h) ++ length (joined ls) ∷ []) (sym first));
      numbers = λ n. numbers_first r h c.requires.commits n _ _ _ _ (part ∙ script) (ap (λ k. k + 1) c.committed-number.ensures) (c.self.invariant.numbers n) (c.give_number.ensures.numbers n);
      places_room =
          let new = c.write_places.new.numbers.ok.0 in let old = c.self.inside.places.ok.0 in
          let room = c.self.invariant.places_room in let capacity = c.write_places.ensures.capacity in let items = c.len.ensures in
          omega (arith, new, old, more, few, room, capacity, items, reserved);
      ends_room =
          let len = c.push_reserved.ensures.len in let room = c.self.invariant.ends_room in let capacity = c.push_reserved.ensures.capacity in
          omega (arith, len, room, capacity, reserved);
      size = let len = c.give_number.ensures.len in let size = c.self.invariant.size in omega (arith, len, size, reserved);
    })
