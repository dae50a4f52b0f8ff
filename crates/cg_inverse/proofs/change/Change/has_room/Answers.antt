-- A group that is put back needs an entry, and so does the group that a process is put back into.
use Rattle.std.proofs.Common.{◌≡◌, ℕ, refl, sym, subst, ◌∙◌}
use Rattle.std.specs.Bool.{Decides}
use Rattle.cg_name.specs.Path.{Path}
use Rattle.cg_text.specs.declared.settings.Settings.{Settings}
use Rattle.cg_tree.specs.Room.{TreeWithRoom}
use Rattle.cg_inverse.specs.Meaning.{change_of, HasRoomIn}
use Rattle.cg_inverse.specs.declared.change.Change.{Change}
use Rattle.cg_inverse.specs.declared.change.Change.TheVariants as changes
use Rattle.cg_inverse.proofs.change.Change.has_room.Goals as goal

pub returns-in-Removed : goal.returns-in-Removed
returns-in-Removed c =
    subst (λ x. Decides c.has_entry.result (HasRoomIn c.args.tree.now (change_of x))) (sym c.in-Removed.is) (λ e. sym c.has_entry.ensures ∙ e, λ e. c.has_entry.ensures ∙ e)

pub returns-in-Place : goal.returns-in-Place
returns-in-Place c =
    subst (λ x. Decides c.has_entry-in-Place.result (HasRoomIn c.args.tree.now (change_of x))) (sym c.in-Place.is) (λ e. sym c.has_entry-in-Place.ensures ∙ e, λ e. c.has_entry-in-Place.ensures ∙ e)

-- no other change needs an entry
others_need_none : (t : TreeWithRoom) (x : Change) → ((n : ℕ) (p : Path) (b : Settings) → ¬ (x ≡ changes.Removed n p b)) → ((k : ℕ) (b l : Path) → ¬ (x ≡ changes.Place k b l)) → HasRoomIn t (change_of x)
others_need_none t (changes.Made n p) r k = tt
others_need_none t (changes.Removed n p b) r k = absurd (r n p b refl)
others_need_none t (changes.Place n b l) r k = absurd (k n b l refl)
others_need_none t (changes.Control n p b l) r k = tt
others_need_none t (changes.Freeze n p b l) r k = tt
others_need_none t (changes.LowCpus n p b l) r k = tt
others_need_none t (changes.WideCpus n p both) r k = tt
others_need_none t (changes.MaxDescendants n p b l) r k = tt
others_need_none t (changes.MaxDepth n p b l) r k = tt
others_need_none t (changes.Online b l) r k = tt

pub returns-in_default : goal.returns-in_default
returns-in_default c = (λ _. others_need_none c.args.tree.now c.args.self.now c.in_default.not-Removed c.in_default.not-Place, λ _. refl)
