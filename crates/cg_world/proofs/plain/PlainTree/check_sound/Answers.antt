use Rattle.std.proofs.Common.{sym, ap, ◌∙◌, true≢false}
use Rattle.cg_maps.specs.FiniteSet.{is_empty_set}
use Rattle.cg_world.proofs.SoundTrees.{sound_of, sound_groups}
use Rattle.cg_world.proofs.plain.PlainTree.check_sound.Goals as goal
use Rattle.cg_world.proofs.plain.PlainTree.check_sound.Goals.{then-is_empty-via-then-is_empty, then-is_empty-via-else-is_empty+then-not-has_sound_root, then-is_empty-via-else-is_empty+else-not-has_sound_root+in_ok-has_sound_places+then-not-branch}

pub returns-then-is_empty-clause-syntax : goal.returns-then-is_empty-clause-syntax
returns-then-is_empty-clause-syntax c = λ _ s. elim c.then-is_empty.branch [
  | then-is_empty-via-then-is_empty w ↦ true≢false (sym (sym (ap is_empty_set c.online.ensures) ∙ sym c.is_empty.ensures ∙ w.if-is_empty.true) ∙ s.online)
  | then-is_empty-via-else-is_empty+then-not-has_sound_root w ↦ true≢false (sym (w.has_sound_root.ensures.1 s.root) ∙ w.if-not-has_sound_root.true)
  | then-is_empty-via-else-is_empty+else-not-has_sound_root+in_ok-has_sound_places+then-not-branch w ↦ true≢false (sym (w.in_ok-has_sound_places.ensures.1 s.process) ∙ w.if-not-branch.true)
]

pub returns-then-branch-clause-sound : goal.returns-then-branch-clause-sound
returns-then-branch-clause-sound c =
    sound_of c.args.self.now (sym (ap is_empty_set c.online.ensures) ∙ sym c.is_empty.ensures ∙ c.if-is_empty.false)
    (c.has_sound_root.ensures.0 c.if-not-has_sound_root.false) (c.in_ok-has_sound_places.ensures.0 c.if-not-branch.false) (c.in_ok-has_sound_groups.ensures.0 c.if-branch.true)

pub returns-else-branch-clause-syntax : goal.returns-else-branch-clause-syntax
returns-else-branch-clause-syntax c = λ _ s. true≢false (sym (c.in_ok-has_sound_groups.ensures.1 (sound_groups c.args.self.now s)) ∙ c.if-branch.false)
