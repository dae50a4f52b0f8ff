-- What code can hold stays so, whatever is put in.
use Rattle.std.proofs.Common.{◌≡◌, ℕ, ◌<◌, arith, inl, inr, Some, None, Bool, true, false, IsTrue, true≢false, sym, ap, subst, ◌∙◌, Ordering}
use Rattle.std.specs.Ordering.{nat_cmp}
use Rattle.std.specs.Cmp.{IsTotalOrder, nat_cmp_total}
use Rattle.std.specs.FinMap.{IsAntisymmetric, nat_cmp-IsAntisymmetric}
use Rattle.cg_maps.specs.FiniteMap.{FiniteMap, get, set_at, empty}
use Rattle.cg_maps.specs.FiniteSet.{FiniteSet, has}
use Rattle.cg_maps.proofs.Maps.{cases, get_here, get_apart, get-empty}
use Rattle.cg_name.specs.Path.{Path, IsPath}
use Rattle.cg_name.specs.Order.{path_cmp_total, path_cmp_exact}
use Rattle.cg_text.specs.declared.controllers.Controllers.{Controllers}
use Rattle.cg_text.specs.declared.settings.Settings.{Settings}
use Rattle.cg_model.specs.Tree.{Tree}
use Rattle.cg_world.specs.Making.{bare_tree, with_group, with_process}
use Rattle.cg_world.specs.Known.{IsAsKnown}
use Rattle.cg_world.specs.Representable.{AreCpusUpTo, IsPid, IsRepresentable}
use Rattle.cg_world.specs.Soundness.{HasSoundPlaces, IsSoundPlace}

-- what holds of all that a map has holds with one entry more
module _ {K X : Type 0} {R : K → K → Ordering} (o : IsTotalOrder R) (same : IsAntisymmetric R) (P : K → X → Type 0) where
  abbrev Holds : FiniteMap R X → Type 0
  Holds m = (q : K) (x : X) → get m q ≡ Some x → P q x

  held : (m : FiniteMap R X) (k : K) (v : X) → Holds m → P k v → Holds (set_at m k (Some v))
  held m k v h new q x is = elim (cases o same q k) [
    | inl e ↦
        let here : Some v ≡ Some x = sym (get_here o same m k (Some v)) ∙ ap (get (set_at m k (Some v))) (sym e) ∙ is in
        let value : v ≡ x = cc here in
        subst (λ y. P q y) value (subst (λ r. P r v) (sym e) new)
    | inr ne ↦ h q x (sym (get_apart o same m k (Some v) q ne) ∙ is)
  ]

  none_held : Holds empty
  none_held q x is = let e : None ≡ Some x = sym (get-empty R q) ∙ is in absurd (cc e)

abbrev IsGroup : Path → Settings → Type 0
IsGroup p s = IsPath p × AreCpusUpTo 1023 s.cpus

abbrev IsProcess : ℕ → Path → Type 0
IsProcess k p = IsPid k × IsPath p

-- a set of CPUs, as it tells its bound
pub up_to_last : (s : FiniteSet) → ((n : ℕ) → has s n ≡ true → n < 1024) → AreCpusUpTo 1023 s
up_to_last s below n h = omega (arith, below n h)

pub bare_representable : (cs : Controllers) (s : FiniteSet) → AreCpusUpTo 1023 s → IsRepresentable (bare_tree cs s)
bare_representable cs s low = record {
  online = low;
  groups = none_held path_cmp_total path_cmp_exact IsGroup;
  processes = none_held nat_cmp_total nat_cmp-IsAntisymmetric IsProcess;
}

pub group_representable : (T : Tree) (p : Path) (s : Settings) → IsRepresentable T → IsPath p → AreCpusUpTo 1023 s.cpus → IsRepresentable (with_group T p s)
group_representable T p s h path low = record {
  online = h.online;
  groups = held path_cmp_total path_cmp_exact IsGroup T.groups p s h.groups (path, low);
  processes = h.processes;
}

pub no_groups_representable : (T : Tree) → IsRepresentable T → IsRepresentable (record T { groups = empty })
no_groups_representable T h = record {
  online = h.online;
  groups = none_held path_cmp_total path_cmp_exact IsGroup;
  processes = h.processes;
}

pub no_processes_representable : (T : Tree) → IsRepresentable T → IsRepresentable (record T { places = empty })
no_processes_representable T h = record {
  online = h.online;
  groups = h.groups;
  processes = none_held nat_cmp_total nat_cmp-IsAntisymmetric IsProcess;
}

pub process_representable : (T : Tree) (k : ℕ) (p : Path) → IsRepresentable T → IsPid k → IsPath p → IsRepresentable (with_process T k p)
process_representable T k p h pid path = record {
  online = h.online;
  groups = h.groups;
  processes = held nat_cmp_total nat_cmp-IsAntisymmetric IsProcess T.places k p h.processes (pid, path);
}

-- ---- beside what is known of the processes

-- a tree of which nothing is known
pub none_known : (T : Tree) → IsRepresentable T → IsAsKnown T false
none_known T h = record { representable = h; places = λ t. absurd (true≢false (sym t)) }

-- a tree with no processes
pub no_places : (T : Tree) → T.places ≡ empty → HasSoundPlaces T
no_places T none k p is = let e : None ≡ Some p = sym (ap (λ m. get m k) none ∙ get-empty nat_cmp k) ∙ is in absurd (cc e)

-- a tree with one process more in a group that may have processes
pub one_more_sound : (T : Tree) (k : ℕ) (p : Path) → HasSoundPlaces T → IsSoundPlace T p → HasSoundPlaces (with_process T k p)
one_more_sound T k p h here = held nat_cmp_total nat_cmp-IsAntisymmetric (λ _. IsSoundPlace T) T.places k p h here

-- and of which each process is known to be in such a group, by what is known of the one that comes and of those before
pub one_known : (T : Tree) (k : ℕ) (p : Path) (b : Bool) → IsRepresentable T → IsPid k → IsPath p → (IsTrue b → HasSoundPlaces T × IsSoundPlace T p) → IsAsKnown (with_process T k p) b
one_known T k p b h pid path known = record {
  representable = process_representable T k p h pid path;
  places = λ t. let all = known t in one_more_sound T k p all.0 all.1;
}
