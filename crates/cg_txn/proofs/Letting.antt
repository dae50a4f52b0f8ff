-- Which entry goes as a footprint is let go.
use Rattle.std.proofs.Common.{◌≡◌, ℕ, zero, suc, ◌+◌, ◌<◌, ◌==◌, ◌&&◌, not, Bool, true, false, cond, List, ◌∷◌, Some, None, is_some, refl, sym, ap, ◌∙◌, arith}
use Rattle.std.proofs.lemmas.Bool.{false≢true, eqb-true, eq-eqb}
use Rattle.std.proofs.lemmas.Option.{none-some, same_Some}
use Rattle.cg_maps.specs.FiniteMap.{get, set_at}
use Rattle.cg_maps.proofs.Maps.{get-set_at}
use Rattle.cg_name.specs.Order.{path_cmp_total, path_cmp_exact}
use Rattle.cg_name.specs.Path.{Path, same_path}
use Rattle.cg_model.specs.Footprint.{Mark, X, changed, marks_subtree}
use Rattle.cg_model.specs.Tree.{group}
use Rattle.cg_model_laws.proofs.Paths.{same_path-itself, same_path-is}
use Rattle.cg_tree.specs.Alive.{AreGroups}
use Rattle.cg_tree.specs.Room.{TreeWithRoom, has_entry, without_dead, MaySweepIfDead}
use Rattle.cg_locks.specs.Holdings.{Holdings, holdings}
use Rattle.cg_locks.specs.Marks.{times}
use Rattle.cg_txn.specs.LettingGo.{goes, IsReleased, MayLetGo, IsLetGo}

and_true : (b : Bool) → b ≡ b && true
and_true true = refl
and_true false = refl

and_false : (b : Bool) → b && false ≡ false
and_false true = refl
and_false false = refl

above_zero : (n : ℕ) → 0 < n → (n == 0) ≡ false
above_zero n low = elim (n == 0) as (λ b. (n == 0) ≡ b → b ≡ false) [ true ↦ λ e. (let none : n ≡ 0 = eqb-true n 0 e in absurd (omega (arith, none, low))) | false ↦ λ e. refl ] refl

-- what is not held at all is held no times
pub not_held : (b : Bool) (n : ℕ) → b ≡ false → (0 < n → b ≡ true) → n ≡ 0
not_held b zero e held = refl
not_held b (suc n) e held = absurd (false≢true (sym e ∙ held (omega arith)))

-- the subtree that is marked, if one is
unmarked : (f : List Mark) (p : Path) → changed f ≡ None → marks_subtree p f ≡ false
unmarked (X q ∷ f) p e = absurd (none-some q (sym e))
unmarked _ p e = refl

marked : (f : List Mark) (p q : Path) → changed f ≡ Some q → marks_subtree p f ≡ same_path p q
marked (X r ∷ f) p q e = ap (same_path p) (same_Some r q e)
marked _ p q e = absurd (none-some q e)

-- the entries without a dead one
pub entry_swept : (R : TreeWithRoom) (q p : Path) → is_some (get (without_dead R q) p) ≡ has_entry R p && not (same_path p q && not (is_some (group R.tree p)))
unfolding same_path
entry_swept R q p =
    elim (is_some (group R.tree q)) as (λ g. is_some (group R.tree q) ≡ g → is_some (get (cond g R.entries (set_at R.entries q None)) p) ≡ has_entry R p && not (same_path p q && not (is_some (group R.tree p)))) [
      | true ↦ λ there. elim (same_path p q) as (λ b. same_path p q ≡ b → has_entry R p ≡ has_entry R p && not (b && not (is_some (group R.tree p)))) [
        | true ↦ λ e. and_true (has_entry R p) ∙ ap (λ b. has_entry R p && not (not b)) (sym there ∙ ap (λ x. is_some (group R.tree x)) (sym (same_path-is p q e)))
        | false ↦ λ e. and_true (has_entry R p)
      ] refl
      | false ↦ λ none. ap is_some (get-set_at path_cmp_total path_cmp_exact R.entries q None p)
          ∙ elim (same_path p q) as (λ b. same_path p q ≡ b → is_some (cond b None (get R.entries p)) ≡ has_entry R p && not (b && not (is_some (group R.tree p)))) [
            | true ↦ λ e. sym (and_false (has_entry R p)) ∙ ap (λ b. has_entry R p && not (not b)) (sym none ∙ ap (λ x. is_some (group R.tree x)) (sym (same_path-is p q e)))
            | false ↦ λ e. and_true (has_entry R p)
          ] refl
    ] refl

module _ (t : ℕ) (f : List Mark) (R : TreeWithRoom) (H H' : Holdings) where
  abbrev Goes : Path → Bool
  Goes p = goes t f H' R.tree p

  stays : (p : Path) → Goes p ≡ false → has_entry R p ≡ has_entry R p && not (Goes p)
  stays p e = and_true (has_entry R p) ∙ ap (λ b. has_entry R p && not b) (sym e)

  -- a group's entry stays
  group_kept : (p : Path) → is_some (group R.tree p) ≡ true → Goes p ≡ false
  group_kept p there =
      ap (λ b. marks_subtree p f && ((holdings H' t (X p) == 0) && not b)) there
      ∙ ap (λ b. marks_subtree p f && b) (and_false (holdings H' t (X p) == 0))
      ∙ and_false (marks_subtree p f)

  -- each entry is a group's: none goes
  pub none_dead : IsReleased t f H H' → AreGroups R → IsLetGo t f R H R H'
  none_dead r groups = record {
    released = r;
    tree = refl;
    entries = λ p. elim (has_entry R p) as (λ b. has_entry R p ≡ b → b ≡ b && not (Goes p)) [
      | true ↦ λ e. ap not (sym (group_kept p (groups p e)))
      | false ↦ λ e. refl
    ] refl;
  }

  -- no subtree is marked: no entry goes
  pub nothing_goes : IsReleased t f H H' → changed f ≡ None → IsLetGo t f R H R H'
  nothing_goes r e = record {
    released = r;
    tree = refl;
    entries = λ p. stays p (ap (λ b. b && ((holdings H' t (X p) == 0) && not (is_some (group R.tree p)))) (unmarked f p e));
  }

  module _ (q : Path) (is : changed f ≡ Some q) where
    pub marks_it : marks_subtree q f ≡ true
    marks_it = marked f q q is ∙ same_path-itself q

    -- it is held on: no entry goes
    held_stays : 0 < holdings H' t (X q) → (p : Path) → Goes p ≡ false
    held_stays low p = elim (same_path p q) as (λ b. same_path p q ≡ b → Goes p ≡ false) [
      | true ↦ λ e.
          ap (λ b. marks_subtree p f && (b && not (is_some (group R.tree p)))) (ap (λ x. holdings H' t (X x) == 0) (same_path-is p q e) ∙ above_zero (holdings H' t (X q)) low)
          ∙ and_false (marks_subtree p f)
      | false ↦ λ e. ap (λ b. b && ((holdings H' t (X p) == 0) && not (is_some (group R.tree p)))) (marked f p q is ∙ e)
    ] refl

    pub held_on : IsReleased t f H H' → 0 < holdings H' t (X q) → IsLetGo t f R H R H'
    held_on r low = record { released = r; tree = refl; entries = λ p. stays p (held_stays low p) }

    -- a group is there: no entry goes
    there_stays : is_some (group R.tree q) ≡ true → (p : Path) → Goes p ≡ false
    there_stays there p = elim (same_path p q) as (λ b. same_path p q ≡ b → Goes p ≡ false) [
      | true ↦ λ e. group_kept p (ap (λ x. is_some (group R.tree x)) (same_path-is p q e) ∙ there)
      | false ↦ λ e. ap (λ b. b && ((holdings H' t (X p) == 0) && not (is_some (group R.tree p)))) (marked f p q is ∙ e)
    ] refl

    pub group_stays : IsReleased t f H H' → is_some (group R.tree q) ≡ true → IsLetGo t f R H R H'
    group_stays r there = record { released = r; tree = refl; entries = λ p. stays p (there_stays there p) }

    -- it is held no more: the entry of its path goes, where that is no group
    module _ (r : IsReleased t f H H') (none : holdings H' t (X q) ≡ 0) where
      goes_there : (p : Path) → Goes p ≡ same_path p q && not (is_some (group R.tree p))
      goes_there p = elim (same_path p q) as (λ b. same_path p q ≡ b → Goes p ≡ b && not (is_some (group R.tree p))) [
        | true ↦ λ e.
            let zero_held : (holdings H' t (X p) == 0) ≡ true = eq-eqb (holdings H' t (X p)) 0 (ap (λ x. holdings H' t (X x)) (same_path-is p q e) ∙ none) in
            let mark : marks_subtree p f ≡ true = marked f p q is ∙ e in
            λ i. mark i && (zero_held i && not (is_some (group R.tree p)))
        | false ↦ λ e. ap (λ b. b && ((holdings H' t (X p) == 0) && not (is_some (group R.tree p)))) (marked f p q is ∙ e)
      ] refl

      pub let_go_there : (R' : TreeWithRoom) → R'.tree ≡ R.tree → R'.entries ≡ without_dead R q → IsLetGo t f R H R' H'
      let_go_there R' tree entries = record {
        released = r;
        tree = tree;
        entries = λ p. ap (λ E. is_some (get E p)) entries ∙ entry_swept R q p ∙ ap (λ b. has_entry R p && not b) (sym (goes_there p));
      }

      -- as many as stood there were held
      as_many : holdings H t (X q) ≡ times (X q) f
      as_many =
          let own : holdings H' t (X q) + times (X q) f ≡ holdings H t (X q) = ap (λ b. holdings H' t (X q) + cond b (times (X q) f) 0) (sym (eq-eqb t t refl)) ∙ r t (X q) in
          omega (arith, own, none)

      pub may_sweep : MayLetGo t f R H → MaySweepIfDead R q
      may_sweep may = may.sweeps q marks_it as_many
