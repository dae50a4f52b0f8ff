-- Steps taken one after another.
use Rattle.std.proofs.Common.{◌≡◌, ℕ, List, [], ◌∷◌, refl, sym, subst, ap, ◌∙◌}
use Rattle.cg_model.specs.Change.{Change}
use Rattle.cg_model.specs.Footprint.{Mark}
use Rattle.cg_tree.specs.Room.{TreeWithRoom}
use Rattle.cg_locks.specs.Holdings.{Holdings}
use Rattle.cg_txn.specs.Stack.{StackItem, Command, Savepoint, commands}
use Rattle.cg_txn.specs.LettingGo.{IsLetGo}
use Rattle.cg_txn.specs.Steps.{Need, Step, MayEach, Each}

module _ (N : Need) (S : Step) where
  -- savepoints count for nothing
  pub may_commands : (l : List StackItem) (R : TreeWithRoom) (H : Holdings) → MayEach N S l R H → MayEach N S (commands l) R H
  may_commands [] R H m = m
  may_commands (Command k d f ∷ l) R H m = (m.0, λ R' H' s. may_commands l R' H' (m.1 R' H' s))
  may_commands (Savepoint n ∷ l) R H m = may_commands l R H m

  pub each_command : (l : List StackItem) (R : TreeWithRoom) (H : Holdings) (R' : TreeWithRoom) (H' : Holdings) → Each S (commands l) R H R' H' → Each S l R H R' H'
  each_command [] R H R' H' e = e
  each_command (Command k d f ∷ l) R H R' H' e = (e.0, e.1, e.2, each_command l e.0 e.1 R' H' e.3)
  each_command (Savepoint n ∷ l) R H R' H' e = each_command l R H R' H' e

  -- after some of the steps of all: those that are left may be taken, and lead where all lead
  pub record IsOnTheWay (all : List StackItem) (O : TreeWithRoom) (G : Holdings) (l : List StackItem) (R : TreeWithRoom) (H : Holdings) : Type 0 where
    pub may : MayEach N S l R H
    pub leads : (R' : TreeWithRoom) (H' : Holdings) → Each S l R H R' H' → Each S all O G R' H'

  pub starts : (l : List StackItem) (R : TreeWithRoom) (H : Holdings) → MayEach N S l R H → IsOnTheWay l R H l R H
  starts l R H m = record { may = m; leads = λ R' H' e. e }

  -- by the commands alone
  pub sets_out : (l : List StackItem) (R : TreeWithRoom) (H : Holdings) → MayEach N S l R H → IsOnTheWay l R H (commands l) R H
  sets_out l R H m = record { may = may_commands l R H m; leads = each_command l R H }

module _ {N : Need} {S : Step} {all : List StackItem} {O : TreeWithRoom} {G : Holdings} {l : List StackItem} {R : TreeWithRoom} {H : Holdings} (w : IsOnTheWay N S all O G l R H) where
  -- the first step may be taken, and is
  module _ (k : ℕ) (d : List Change) (f : List Mark) (rest : List StackItem) (is : l ≡ Command k d f ∷ rest) where
    pub may_step : N d f R H
    may_step = (subst (λ x. MayEach N S x R H) is w.may).0

    pub steps_on : (A : TreeWithRoom) (B : Holdings) → S d f R H A B → IsOnTheWay N S all O G rest A B
    steps_on A B s = record {
      may = (subst (λ x. MayEach N S x R H) is w.may).1 A B s;
      leads = λ R' H' e. w.leads R' H' (subst (λ x. Each S x R H R' H') (sym is) (A, B, s, e));
    }

  pub arrives : l ≡ [] → Each S all O G R H
  arrives none = w.leads R H (subst (λ x. Each S x R H R H) (sym none) (refl, refl))

-- letting go changes no key
pub keys_kept : (t : ℕ) (l : List StackItem) (R : TreeWithRoom) (H : Holdings) (R' : TreeWithRoom) (H' : Holdings) → Each (λ d f. IsLetGo t f) l R H R' H' → R'.tree ≡ R.tree
keys_kept t [] R H R' H' e = ap (λ r. r.tree) e.0
keys_kept t (Command k d f ∷ l) R H R' H' e = keys_kept t l e.0 e.1 R' H' e.3 ∙ e.2.tree
keys_kept t (Savepoint n ∷ l) R H R' H' e = keys_kept t l R H R' H' e
