-- With the record of a refusal a history is of the same tree, transactions, stacks and locks as without it.
use Rattle.std.proofs.Common.{◌≡◌, ℕ, ◌==◌, Bool, true, false, cond, ◌∷◌, length, refl, ap, ◌∙◌, arith}
use Rattle.cg_name.specs.declared.refusal.Refusal.{Refusal}
use Rattle.cg_model.specs.System.{System}
use Rattle.cg_model.specs.History.{Request, Begin, Do, Save, Back, Undo, Commit, Abort, Refused, Record, History}
use Rattle.cg_model.specs.Opens.{opens, opens_after}
use Rattle.cg_model.specs.Live.{Items, live, live_after, stands, item_of, joined_if, selected, survivors, committed_after, committed}
use Rattle.cg_model.specs.Reply.{footprints}
use Rattle.cg_model.specs.Run.{run_items}
use Rattle.cg_core_laws.specs.Refusals.{LeavesAll}
use Rattle.cg_core_laws.proofs.Interleaving.SelectedRecords.{down_live, down_none}

module _ (y : System) (h : History y) (x : Refusal) where
  -- no request that is refused changes a stack
  stack_left : (q : Request y) (t : ℕ) (l : Items y) → live_after q (Refused x) t h l ≡ l
  stack_left Begin t l = refl
  stack_left (Do c) t l = refl
  stack_left (Save n) t l = refl
  stack_left (Back n) t l = refl
  stack_left Undo t l = refl
  stack_left Commit t l = refl
  stack_left Abort t l = refl

  either : (b : Bool) (k l : Items y) → k ≡ l → cond b k l ≡ l
  either true k l e = e
  either false k l e = refl

  module _ (o : y.State) (r : Record y) (refused : r.answer ≡ Refused x) where
    live_left : (t : ℕ) → live t (r ∷ h) ≡ live t h
    live_left t =
        either (r.transaction == t) _ (live t h)
        (ap (λ a. live_after r.request a r.transaction h (live t h)) refused ∙ stack_left r.request r.transaction (live t h))

    -- the record stands on no stack
    stands_nowhere : stands (length h) (live r.transaction (r ∷ h)) ≡ false
    stands_nowhere = ap (stands (length h)) (live_left r.transaction) ∙ down_none y (length h) (length h) (live r.transaction h) (down_live y r.transaction h) (omega arith)

    survivors_left : survivors (r ∷ h) ≡ survivors h
    survivors_left =
        ap (λ b. joined_if b (item_of r.request r.answer r.transaction h) (selected (λ t. live t (r ∷ h)) h)) stands_nowhere
        ∙ (λ i. selected (λ t. live_left t i) h)

    pub leaves_all : LeavesAll y o h r
    leaves_all = record {
      tree = ap (run_items y o) survivors_left;
      transactions = ap (λ a. opens_after a r.session r.transaction (opens h)) refused;
      stacks = live_left;
      locks = λ t. ap (footprints y o) (live_left t);
      scripts = ap (λ a. committed_after a (live r.transaction h) (committed h)) refused;
    }
