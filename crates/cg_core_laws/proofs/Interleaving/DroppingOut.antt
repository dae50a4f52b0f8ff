-- A command that nothing later clashes with drops out of a run.
use Rattle.std.proofs.Common.{◌≡◌, ℕ, false, [], ◌∷◌, ◌++◌, refl, sym, ap, ◌∙◌, subst}
use Rattle.cg_model.specs.System.{System, Outcome, Accept}
use Rattle.cg_model.specs.History.{History}
use Rattle.cg_model.specs.Live.{Item, Ran, AtSavepoint, Items}
use Rattle.cg_model.specs.Run.{state_after, run_items, Accepted}
use Rattle.cg_core_laws.specs.Reordered.{ClashesWithNone, IsTakenOut, DropsOut}
use Rattle.cg_core_laws.proofs.Interleaving.SystemLaws.{SystemLaws}

module _ (y : System) (laws : SystemLaws y) (o : y.State) where
  -- an accepted command leads to the state with its change done
  leads : (c : y.Command) (s : y.State) (a : Outcome) (d : y.Change) → y.effect c s ≡ Accept a d → state_after y (y.effect c s) s ≡ y.done d s
  leads c s a d e = ap (λ v. state_after y v s) e

  module _ (t : ℕ) (h : History y) (c : y.Command) (a : Outcome) (d : y.Change) (older : Items y) (first : y.effect c (run_items y o older) ≡ Accept a d) where
    abbrev taken : Item y
    taken = Ran t h c a

    -- the command could as well have been the last
    record IsLastToo (newer : Items y) : Type 0 where
      state : run_items y o (newer ++ taken ∷ older) ≡ y.done d (run_items y o (newer ++ older))
      again : y.effect c (run_items y o (newer ++ older)) ≡ Accept a d
      marks : y.footprint c (run_items y o (newer ++ older)) ≡ y.footprint c (run_items y o older)
      accepted : Accepted y o (newer ++ older)

    one_more : (u : ℕ) (g : History y) (b : y.Command) (q : Outcome) (newer : Items y) → Accepted y o (Ran u g b q ∷ (newer ++ taken ∷ older)) → ClashesWithNone y o (y.footprint c (run_items y o older)) (Ran u g b q ∷ newer) (taken ∷ older) → IsLastToo newer → IsLastToo (Ran u g b q ∷ newer)
    one_more u g b q newer ((e, ran), rest) none last =
        let s : y.State = run_items y o (newer ++ older) in
        let after : y.effect b (y.done d s) ≡ Accept q e = subst (λ r. y.effect b r ≡ Accept q e) last.state ran in
        let apart : y.clashes (y.footprint c s) (y.footprint b (y.done d s)) ≡ false = cc (last.marks, ap (y.footprint b) last.state, none.0) in
        let (same, marks) = laws.same_after s c a d b last.again apart in
        let before : y.effect b s ≡ Accept q e = sym same ∙ after in
        let apart_before : y.clashes (y.footprint c s) (y.footprint b s) ≡ false = cc (marks, apart) in
        let (same_c, marks_c) = laws.same_before s b q e c before (laws.clash_sym (y.footprint b s) (y.footprint c s) ∙ apart_before) in
        let now : state_after y (y.effect b s) s ≡ y.done e s = leads b s q e before in
        record {
          state =
              leads b (run_items y o (newer ++ taken ∷ older)) q e ran
              ∙ ap (y.done e) last.state
              ∙ laws.commute s c a d b q e last.again before apart_before
              ∙ ap (y.done d) (sym now);
          again = ap (y.effect c) now ∙ same_c ∙ last.again;
          marks = ap (y.footprint c) now ∙ marks_c ∙ last.marks;
          accepted = ((e, before), last.accepted);
        }

    last_too : (newer : Items y) → Accepted y o (newer ++ taken ∷ older) → ClashesWithNone y o (y.footprint c (run_items y o older)) newer (taken ∷ older) → IsLastToo newer
    last_too [] runs none = record { state = leads c (run_items y o older) a d first; again = first; marks = refl; accepted = runs.1 }
    last_too (Ran u g b q ∷ newer) runs none = one_more u g b q newer runs none (last_too newer runs.1 none.1)
    last_too (AtSavepoint u g n ∷ newer) runs none =
        let last = last_too newer runs none in record { state = last.state; again = last.again; marks = last.marks; accepted = last.accepted }

    taken_out : (newer : Items y) → IsLastToo newer → IsTakenOut y o newer taken older d
    taken_out newer last =
        let s : y.State = run_items y o (newer ++ older) in
        record {
          accepted = last.accepted;
          fits = subst (y.Fits d) (sym last.state) (laws.fits s c a d last.again);
          undone = sym (ap (y.undone d) last.state ∙ laws.goes_back s c a d last.again);
        }

  pub drops_out : DropsOut y o
  drops_out newer older t h c a d runs first none = taken_out t h c a d older first newer (last_too t h c a d older first newer runs none)
