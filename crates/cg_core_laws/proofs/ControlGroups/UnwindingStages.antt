-- Stages of unwinding: stacks and a tree from which open transactions may be unwound in any interleaving. At each of them
-- the tree is sound, and taking the newest item off a stack leads to the next one.
use Rattle.std.proofs.Common.{◌≡◌, ℕ, true, cond, List, [], ◌∷◌, refl, sym, ap, subst}
use Rattle.std.specs.List.{AllByRecursion}
use Rattle.std.proofs.lemmas.Bool.{eq-eqb}
use Rattle.cg_model.specs.System.{Accept}
use Rattle.cg_model.specs.Tree.{Tree}
use Rattle.cg_model.specs.Sound.{Sound}
use Rattle.cg_model.specs.Change.{Change, undone, Fits}
use Rattle.cg_model.specs.Command.{Effect}
use Rattle.cg_model.specs.Effect.{effect}
use Rattle.cg_model.specs.Cgroups.{cgroups}
use Rattle.cg_model.specs.Opens.{among}
use Rattle.cg_model.specs.Live.{Item, Ran, AtSavepoint, Items}
use Rattle.cg_model.specs.Room.{changes_of, inverse}
use Rattle.cg_core_laws.specs.Unwind.{with_items, TakenOff, Unwinds}
use Rattle.cg_core_laws.proofs.ControlGroups.GroupChanges.{AllTell, tells}

pub record Stage (O : Tree) (ts : List ℕ) (stacks : ℕ → Items cgroups) (T : Tree) : Type 0 where
  pub unwinds : (us : List ℕ) → AllByRecursion (λ u. among u ts ≡ true) us → Unwinds cgroups O stacks T us

-- with these changes undone the command of the item is accepted again, and makes them
abbrev pub IsAcceptedAgain : Item cgroups → List Change → Tree → Type 0
IsAcceptedAgain (Ran t h c a) cs T = effect c (undone cs T) ≡ Accept a cs
IsAcceptedAgain (AtSavepoint t h n) cs T = Unit {0}

-- an item's inverse leads back to a tree where its command is accepted with these changes, and the tree is as they left it
pub record IsNewest (x : Item cgroups) (cs : List Change) (T : Tree) : Type 0 where
  pub tell : AllTell (undone cs T) cs
  pub fits : Fits cs T
  pub again : IsAcceptedAgain x cs T

-- the stack of t is what it was set to
pub own_items : (t : ℕ) (l : Items cgroups) (stacks : ℕ → Items cgroups) → with_items t l stacks t ≡ l
own_items t l stacks = ap (λ b. cond b l (stacks t)) (eq-eqb t t refl)

module _ (O : Tree) (stacks : ℕ → Items cgroups) (T : Tree) where
  -- the change that is undone is the item's inverse
  taken_off : (u : ℕ) (x : Item cgroups) (l : Items cgroups) (Rest : (ℕ → Items cgroups) → Tree → Type 0) → TakenOff cgroups O stacks T u (x ∷ l) Rest → IsNewest x (inverse O x) T × Rest (with_items u l stacks) (undone (inverse O x) T)
  taken_off u (Ran v h c a) l Rest (d, accepted, last, rest) =
      let tell : AllTell (undone d T) d = subst (λ (e : Effect). AllTell (undone d T) (changes_of e)) last.again (tells (undone d T) c) in
      subst (λ cs. IsNewest (Ran v h c a) cs T × Rest (with_items u l stacks) (undone cs T)) (sym (ap changes_of accepted)) (record { tell = tell; fits = last.fits; again = last.again }, rest)
  taken_off u (AtSavepoint v h n) l Rest rest = (record { tell = tt; fits = tt; again = tt }, rest)

module _ {O : Tree} {ts : List ℕ} {stacks : ℕ → Items cgroups} {T : Tree} (stage : Stage O ts stacks T) where
  pub stage_sound : Sound T
  stage_sound = stage.unwinds [] tt

  module _ (u : ℕ) (x : Item cgroups) (l : Items cgroups) (is_open : among u ts ≡ true) (stack : stacks u ≡ x ∷ l) where
    parts : (us : List ℕ) → AllByRecursion (λ v. among v ts ≡ true) us → IsNewest x (inverse O x) T × Unwinds cgroups O (with_items u l stacks) (undone (inverse O x) T) us
    parts us are_open =
        let Rest : (ℕ → Items cgroups) → Tree → Type 0 = λ stacks' U. Unwinds cgroups O stacks' U us in
        taken_off O stacks T u x l Rest (subst (λ k. TakenOff cgroups O stacks T u k Rest) stack (stage.unwinds (u ∷ us) (is_open, are_open)).1)

    pub newest : IsNewest x (inverse O x) T
    newest = (parts [] tt).0

    pub next_stage : Stage O ts (with_items u l stacks) (undone (inverse O x) T)
    next_stage = record { unwinds = λ us are_open. (parts us are_open).1 }
