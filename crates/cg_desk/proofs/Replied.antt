-- What a machine answers in an open transaction may be answered there.
use Rattle.std.proofs.Common.{◌≡◌, ℕ, Bool, true, false, List, [], ◌∷◌, Option, Some, None, refl, sym, subst, ◌∙◌, true≢false}
use Rattle.std.proofs.lemmas.Bool.{cond_both}
use Rattle.std.specs.Bool.{OnFalse}
use Rattle.cg_name.specs.declared.refusal.Refusal.{Refusal}
use Rattle.cg_name.specs.declared.refusal.Refusal.TheVariants as refusals
use Rattle.cg_core.specs.Answers.{is_memory, takes_memory}
use Rattle.cg_history.specs.Meaning.{answer_of, request_of}
use Rattle.cg_history.specs.declared.record.Answer as rust
use Rattle.cg_history.specs.declared.record.Answer.TheVariants as answers
use Rattle.cg_history.specs.declared.record.Request as asked
use Rattle.cg_history.specs.declared.record.Request.TheVariants as requests
use Rattle.cg_model.specs.Cgroups.{cgroups}
use Rattle.cg_model.specs.Tree.{Tree}
use Rattle.cg_model.specs.Change.{Change}
use Rattle.cg_model.specs.Command.{Command}
use Rattle.cg_model.specs.Effect.{effect}
use Rattle.cg_model.specs.System.{Attempt, Refuse, Accept}
use Rattle.cg_model.specs.History.{Request, Begin, Do, Save, Back, Undo, Commit, Abort, Answer, Begun, Gave, Saved, WentBack, Committed, Aborted, Refused, History, is_own_check, is_recorded}
use Rattle.cg_model.specs.Live.{Items, Ran, AtSavepoint, live}
use Rattle.cg_model.specs.Opens.{numbers, opens, without}
use Rattle.cg_model.specs.Reply.{holder, is_full, has_savepoint, command_reply, undo_reply, reply_in}
use Rattle.cg_model.specs.Run.{own_tree, tree_of}
use Rattle.cg_model_laws.proofs.OwnChecks.{own_checks}
use Rattle.cg_desk.specs.Replies.{MayAnswer, may_meet}

checked : (c : Command) (e : Refusal) → is_own_check e ≡ true → may_meet (Do c) e ≡ true
checked c refusals.Full own = refl
checked c (refusals.Busy t) own = refl
checked c refusals.Memory own = refl
checked c refusals.Lost own = refl
checked c _ own = own

command : (t : ℕ) (c : Command) (u : Option ℕ) (e : Attempt (List Change)) → ((r : Refusal) → e ≡ Refuse r → is_own_check r ≡ true) → MayAnswer t (Do c) (command_reply u e)
command t c (Some u) e own = refl
command t c None (Refuse r) own = checked c r (own r refl)
command t c None (Accept a d) own = tt

undone : (t : ℕ) (l : Items cgroups) → MayAnswer t Undo (undo_reply l)
undone t [] = refl
undone t (Ran u h c a ∷ l) = tt
undone t (AtSavepoint u h n ∷ l) = refl

pub replied : (o : Tree) (bound : ℕ) (h : History cgroups) (t : ℕ) (r : Request cgroups) → MayAnswer t r (reply_in cgroups o bound h t r)
replied o bound h t Begin = refl
replied o bound h t (Do c) =
    cond_both (is_full bound h) _ _ (MayAnswer t (Do c)) (λ _. refl)
    (λ _. command t c (holder cgroups o (cgroups.footprint c (tree_of cgroups o h)) h (numbers (without t (opens h)))) (effect c (own_tree cgroups o t h)) (own_checks c (own_tree cgroups o t h)))
replied o bound h t (Save n) =
    cond_both (has_savepoint n (live t h)) _ _ (MayAnswer t (Save n)) (λ _. refl)
    (λ _. cond_both (is_full bound h) _ _ (MayAnswer t (Save n)) (λ _. refl) (λ _. tt))
replied o bound h t (Back n) = cond_both (has_savepoint n (live t h)) _ _ (MayAnswer t (Back n)) (λ _. tt) (λ _. refl)
replied o bound h t Undo = undone t (live t h)
replied o bound h t Commit = tt
replied o bound h t Abort = refl

-- what may be answered to a Begin has no record
no_begin : (t : ℕ) (m : Answer) → MayAnswer t Begin m → is_recorded {y = cgroups} Begin m ≡ false
no_begin t (Refused e) may = refl
no_begin t (Begun u) may = absurd may
no_begin t (Gave o) may = absurd may
no_begin t Saved may = absurd may
no_begin t (WentBack k) may = absurd may
no_begin t (Committed k) may = absurd may
no_begin t (Aborted u) may = absurd may

-- a request that takes memory, and whose answer has a record, may want it
wanted : (t : ℕ) (r : asked.Request) (m : Answer) → takes_memory r ≡ true → is_recorded (request_of r) m ≡ true → MayAnswer t (request_of r) m
    → MayAnswer t (request_of r) (Refused refusals.Memory)
wanted t requests.Begin m takes has may = absurd (true≢false (sym has ∙ no_begin t m may))
wanted t (requests.Do c) m takes has may = refl
wanted t (requests.Save n) m takes has may = refl
wanted t (requests.Back n) m takes has may = takes
wanted t requests.Undo m takes has may = takes
wanted t requests.Commit m takes has may = takes
wanted t requests.Abort m takes has may = takes

takes_or : (b : Bool) → (b ≡ false → true ≡ false) → b ≡ true
takes_or true none = refl
takes_or false none = absurd (true≢false (none refl))

-- the answer is the history's reply, or that memory is wanted where it may be
pub told : (t : ℕ) (r : asked.Request) (a : rust.Answer) (m : Answer) → OnFalse (is_memory a) (answer_of a ≡ m) → (takes_memory r ≡ false → is_memory a ≡ false)
    → (is_recorded (request_of r) m ≡ false → is_memory a ≡ false) → MayAnswer t (request_of r) m → MayAnswer t (request_of r) (answer_of a)
told t r (answers.Refused refusals.Memory) m is infallible unrecorded may =
    wanted t r m (takes_or (takes_memory r) infallible) (takes_or (is_recorded (request_of r) m) unrecorded) may
told t r _ m is infallible unrecorded may = subst (MayAnswer t (request_of r)) (sym is) may
