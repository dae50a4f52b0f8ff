-- A history never replies that a transaction is lost.
use Rattle.std.proofs.Common.{◌≡◌, ℕ, Bool, true, false, cond, List, [], ◌∷◌, Option, Some, None, refl}
use Rattle.std.proofs.lemmas.Bool.{false≢true}
use Rattle.cg_name.specs.declared.refusal.Refusal.{Refusal}
use Rattle.cg_name.specs.declared.refusal.Refusal.TheVariants as refusals
use Rattle.cg_model.specs.Cgroups.{cgroups}
use Rattle.cg_model.specs.Tree.{Tree}
use Rattle.cg_model.specs.Effect.{effect}
use Rattle.cg_model.specs.Change.{Change}
use Rattle.cg_model.specs.System.{Attempt, Refuse, Accept}
use Rattle.cg_model.specs.History.{Request, Begin, Do, Save, Back, Undo, Commit, Abort, Answer, Refused, History, is_own_check}
use Rattle.cg_model.specs.Live.{Items, Ran, AtSavepoint, live}
use Rattle.cg_model.specs.Opens.{numbers, opens, without}
use Rattle.cg_model.specs.Reply.{holder, is_full, has_savepoint, command_reply, undo_reply, reply_in}
use Rattle.cg_model.specs.Run.{own_tree, tree_of}
use Rattle.cg_model_laws.proofs.OwnChecks.{own_checks}

abbrev pub is_lost : Answer → Bool
is_lost (Refused refusals.Lost) = true
is_lost _ = false

either : (b : Bool) (x y : Answer) → is_lost x ≡ false → is_lost y ≡ false → is_lost (cond b x y) ≡ false
either true x y p q = p
either false x y p q = q

checked : (r : Refusal) → is_own_check r ≡ true → is_lost (Refused r) ≡ false
checked refusals.Lost e = absurd (false≢true e)
checked _ e = refl

command : (u : Option ℕ) (e : Attempt (List Change)) → ((r : Refusal) → e ≡ Refuse r → is_own_check r ≡ true) → is_lost (command_reply u e) ≡ false
command (Some u) e own = refl
command None (Refuse r) own = checked r (own r refl)
command None (Accept a d) own = refl

undone : (l : Items cgroups) → is_lost (undo_reply l) ≡ false
undone [] = refl
undone (Ran t h c a ∷ l) = refl
undone (AtSavepoint t h n ∷ l) = refl

pub never_lost : (o : Tree) (bound : ℕ) (h : History cgroups) (t : ℕ) (r : Request cgroups) → is_lost (reply_in cgroups o bound h t r) ≡ false
never_lost o bound h t Begin = refl
never_lost o bound h t (Do c) =
    either (is_full bound h) _ _ refl
    (command (holder cgroups o (cgroups.footprint c (tree_of cgroups o h)) h (numbers (without t (opens h)))) (effect c (own_tree cgroups o t h)) (own_checks c (own_tree cgroups o t h)))
never_lost o bound h t (Save n) = either (has_savepoint n (live t h)) _ _ refl (either (is_full bound h) _ _ refl refl)
never_lost o bound h t (Back n) = either (has_savepoint n (live t h)) _ _ refl refl
never_lost o bound h t Undo = undone (live t h)
never_lost o bound h t Commit = refl
never_lost o bound h t Abort = refl
