-- Where a command is answered Busy, a command is in its way.
use Rattle.std.proofs.Common.{◌≡◌, ℕ, ◌==◌, ◌||◌, Bool, true, false, cond, List, [], ◌∷◌, None, Option, IsSome, is_some, refl, ap, ◌∙◌}
use Rattle.cg_name.specs.declared.refusal.Refusal.TheVariants.{Busy}
use Rattle.cg_model.specs.Cgroups.{cgroups}
use Rattle.cg_model.specs.Footprint.{Mark, footprint}
use Rattle.cg_model.specs.Live.{live}
use Rattle.cg_model.specs.Opens.{Opens, among, numbers, opens, without}
use Rattle.cg_model.specs.Run.{tree_of}
use Rattle.cg_core_laws.proofs.Interleaving.Refusals.{leaves_all}
use Rattle.cg_core.specs.InTheWay.{in_the_way, oldest_clashing, BusyTellsACommand}
use Rattle.cg_core.proofs.HolderFound.{some_oldest}

or_right : (a b : Bool) → b ≡ true → (a || b) ≡ true
or_right true b e = refl
or_right false b e = e

or_kept : (a b c : Bool) → (b ≡ true → c ≡ true) → (a || b) ≡ true → (a || c) ≡ true
or_kept true b c f e = refl
or_kept false b c f e = f e

-- one of the others is one of all
among_all : (u t : ℕ) (ps : Opens) → among u (numbers (without t ps)) ≡ true → among u (numbers ps) ≡ true
among_all u t [] e = e
among_all u t (p ∷ ps) e =
    elim (p.1 == t) as (λ b. among u (numbers (cond b (without t ps) (p ∷ without t ps))) ≡ true → among u (numbers (p ∷ ps)) ≡ true) [
      | true ↦ λ k. or_right (u == p.1) (among u (numbers ps)) (among_all u t ps k)
      | false ↦ λ k. or_kept (u == p.1) (among u (numbers (without t ps))) (among u (numbers ps)) (among_all u t ps) k
    ] e

there_where : {A : Type 0} (b : Bool) (o : Option A) → b ≡ true → is_some o ≡ true → is_some (cond b o None) ≡ true
there_where b o is some = ap (λ x. is_some (cond x o None)) is ∙ some

pub busy_told : BusyTellsACommand
busy_told c s t k u r busy at room refused answer =
    let least = (busy s t at room k u).0 refused in
    let g : List Mark = footprint k (tree_of cgroups c.opening c.history) in
    let here : IsSome (in_the_way c u g) =
    there_where (among u (numbers (opens c.history))) (oldest_clashing c.opening g (live u c.history)) (among_all u t (opens c.history) least.other) (some_oldest c.opening g (live u c.history) ∙ least.clashes) in
    let left = leaves_all cgroups c.history (Busy (record { 0 = u })) c.opening r answer in
    let same : in_the_way (record c { history = r ∷ c.history }) u (footprint k (tree_of cgroups c.opening (r ∷ c.history))) ≡ in_the_way c u g =
    λ i. cond (among u (numbers (left.transactions i))) (oldest_clashing c.opening (footprint k (left.tree i)) (left.stacks u i)) None in
    (here, ap is_some same ∙ here)
