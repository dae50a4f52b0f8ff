use Rattle.std.proofs.Common.{◌≡◌, List, [], ◌∷◌, length, Some, IsTrue, inl, inr, refl, sym, ap, subst, ◌∙◌, true≢false}
use Rattle.std.proofs.lemmas.Bool.{eqb-true}
use Rattle.std.specs.Ordering.{nat_cmp}
use Rattle.std.specs.FinMap.{nat_cmp-IsAntisymmetric}
use Rattle.cg_maps.specs.FiniteMap.{from_entries, set_at}
use Rattle.cg_name.specs.Path.{path_cmp}
use Rattle.cg_world.specs.GatheredTree.{gathered_tree}
use Rattle.cg_world.specs.Known.{IsAsKnown}
use Rattle.cg_world.specs.Representable.{IsRepresentable}
use Rattle.cg_world.specs.Soundness.{HasSoundPlaces, IsSoundPlace}
use Rattle.cg_world.proofs.Representable.{one_known, no_places, no_processes_representable, none_known}
use Rattle.cg_world.proofs.Trees.{with_groups, with_places}
use Rattle.cg_world.proofs.gathered_tree.GatheredTree.set_place.Goals as goal
use Rattle.cg_world.proofs.gathered_tree.GatheredTree.set_place.Goals.{then-is_allowed+then-self, then-is_allowed+else-self, else-is_allowed}

none_of_none : {A : Type 0} (es : List A) → length es ≡ 0 → es ≡ []
none_of_none [] e = refl
none_of_none (x ∷ es) e = absurd (cc e)

-- after an error all processes are there, or none
pub invariant_of-self-in_err-had : goal.invariant_of-self-in_err-had
invariant_of-self-in_err-had c =
    let T = gathered_tree c.self.inside in
    let groups = ap (from_entries path_cmp) (sym c.in_ok-is_allowed.ensures.same) in
    none_known _ (elim c.in_err-had.ensures.err [
      | inl kept ↦ subst IsRepresentable (λ i. with_places (with_groups T (groups i)) (from_entries nat_cmp (sym kept i))) c.self.invariant.representable
      | inr none ↦ subst IsRepresentable (λ i. with_places (with_groups T (groups i)) (from_entries nat_cmp (sym none i))) (no_processes_representable T c.self.invariant.representable)
    ])

-- each process is known to be in a group that may have it, where this one is and those before are, of which there may be none
pub invariant_of-self-2 : goal.invariant_of-self-2
invariant_of-self-2 c =
    let T = gathered_tree c.self.inside in
    let groups = ap (from_entries path_cmp) (sym c.in_ok-is_allowed.ensures.same) in
    let places = sym (c.in_ok-had.ensures.ok nat_cmp-IsAntisymmetric ∙ ap (λ p. set_at T.places c.args.pid (Some p)) c.in_ok-is_allowed.ensures.path) in
    let known : IsTrue c.if-is_allowed.are_places_sound → HasSoundPlaces T × IsSoundPlace T c.args.path = elim c.if-is_allowed.branch [
      | then-is_allowed+then-self w ↦ λ _. (c.self.invariant.places w.if-self.true, c.in_ok-is_allowed.ensures.known w.if-is_allowed.true)
      | then-is_allowed+else-self w ↦ λ t.
          let none = none_of_none c.self.inside.places (sym c.len-so_far.ensures ∙ eqb-true _ _ (sym w.are_places_sound-is ∙ t)) in
          (no_places T (ap (from_entries nat_cmp) none), c.in_ok-is_allowed.ensures.known w.if-is_allowed.true)
      | else-is_allowed w ↦ λ t. absurd (true≢false (sym t ∙ w.are_places_sound-is ∙ w.if-is_allowed.false))
    ] in
    subst (λ T. IsAsKnown T c.if-is_allowed.are_places_sound) (λ i. with_places (with_groups T (groups i)) (places i))
    (one_known T c.args.pid c.args.path c.if-is_allowed.are_places_sound c.self.invariant.representable c.requires c.names.ensures.valid known)
