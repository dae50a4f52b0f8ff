-- `==` of what worlds are made of tells whether it is the same.
use Rattle.std.proofs.Common.{◌≡◌, ◌==◌, ℕ, Bool, ◌&&◌, sym, ap, refl, ◌∙◌}
use Rattle.std.proofs.lemmas.Bool.Decides.{Decides-and, Decides-eqb, Decides-like}
use Rattle.std.specs.Bool.{Decides}
use Rattle.std.specs.Cmp.{booleans_Decides, IsTotalOrder}
use Rattle.std.specs.Cmp.Lexicographic.{pointwise, pointwise_decides, bytes_decides}
use Rattle.std.specs.BTreeMap.{BTreeMap, IsOrdered}
use Rattle.std.specs.FinMap.{IsAntisymmetric}
use Rattle.std.specs.declared.cmp.Ordering.{Ordering}
use Rattle.cg_command.proofs.Variants.{also, told}
use Rattle.cg_cpus.specs.contracts.cpu_set.CpuSetPartialEq.TheImpl as set_eq
use Rattle.cg_maps.specs.FiniteMap.{entries, from_entries}
use Rattle.cg_maps.specs.FiniteSet.{FiniteSet, members, set_of}
use Rattle.cg_maps.proofs.Sets.{set_of-members}
use Rattle.cg_maps.proofs.TreeMaps.{entries-view}
use Rattle.cg_name.specs.contracts.path.PathPartialEq.TheImpl as path_eq
use Rattle.cg_name.specs.Path.{Path}
use Rattle.cg_text.specs.contracts.controllers.ControllersPartialEq.TheImpl as controllers_eq
use Rattle.cg_text.specs.contracts.limit.LimitPartialEq.TheImpl as limit_eq
use Rattle.cg_text.specs.contracts.limit.Limit.{enum as limit_enum}
use Rattle.cg_text.specs.contracts.settings.SettingsPartialEq.TheImpl as settings_eq
use Rattle.cg_text.specs.declared.controllers.Controllers.{Controllers}
use Rattle.cg_text.specs.declared.limit.Limit.{Limit}
use Rattle.cg_text.specs.declared.limit.Limit.TheVariants.{Max, UpTo}
use Rattle.cg_text.specs.declared.settings.Settings.{Settings}
use Rattle.cg_text.proofs.Limits.{same_number}

paths : (p q : Path) → Decides (path_eq.ghosts.eq p q) (p ≡ q)
paths p q = pointwise_decides bytes_decides p q

pub sets : (s t : FiniteSet) → Decides (set_eq.ghosts.eq s t) (s ≡ t)
sets s t = Decides-like _ (λ e. sym (set_of-members s) ∙ ap set_of e ∙ set_of-members t) (λ e. ap members e) (bytes_decides (members s) (members t))

pub controllers : (s t : Controllers) → Decides (controllers_eq.ghosts.eq s t) (s ≡ t)
controllers s t =
    Decides-like _
    (λ h i. record { cpuset = h.0 i; cpu = h.1.0 i; io = h.1.1.0 i; memory = h.1.1.1.0 i; hugetlb = h.1.1.1.1.0 i; pids = h.1.1.1.1.1.0 i; rdma = h.1.1.1.1.1.1.0 i; misc = h.1.1.1.1.1.1.1 i })
    (λ e. (ap (λ x. x.cpuset) e, (ap (λ x. x.cpu) e, (ap (λ x. x.io) e, (ap (λ x. x.memory) e, (ap (λ x. x.hugetlb) e, (ap (λ x. x.pids) e, (ap (λ x. x.rdma) e, ap (λ x. x.misc) e))))))))
    (Decides-and _ _ (booleans_Decides s.cpuset t.cpuset)
    (Decides-and _ _ (booleans_Decides s.cpu t.cpu)
    (Decides-and _ _ (booleans_Decides s.io t.io)
    (Decides-and _ _ (booleans_Decides s.memory t.memory)
    (Decides-and _ _ (booleans_Decides s.hugetlb t.hugetlb)
    (Decides-and _ _ (booleans_Decides s.pids t.pids)
    (Decides-and _ _ (booleans_Decides s.rdma t.rdma) (booleans_Decides s.misc t.misc))))))))

abbrev limit_place : Limit → ℕ
limit_place Max = 0
limit_place (UpTo n) = 1

limits : (l k : Limit) → Decides (limit_eq.ghosts.eq l k) (l ≡ k)
limits l k =
    Decides-like _ (λ e. sym (limit_enum.eta l) ∙ e ∙ limit_enum.eta k) (λ e. limit_enum.eta l ∙ e ∙ sym (limit_enum.eta k))
    (told limit_place 0 limit_enum.parts limit_enum.make _
    (also (λ x. refl) (λ x y. (λ e. refl, λ e. refl))
    (also (λ x. refl) (λ x y. Decides-like _ (λ e. ap UpTo (same_number x.0 y.0 e)) (λ e. cc e) (Decides-eqb x.0.number y.0.number)) tt))
    (limit_enum.as_values l) (limit_enum.as_values k))

settings : (s t : Settings) → Decides (settings_eq.ghosts.eq s t) (s ≡ t)
settings s t =
    Decides-like _
    (λ h i. record { control = h.0 i; freeze = h.1.0 i; cpus = h.1.1.0 i; max_descendants = h.1.1.1.0 i; max_depth = h.1.1.1.1 i })
    (λ e. (ap (λ x. x.control) e, (ap (λ x. x.freeze) e, (ap (λ x. x.cpus) e, (ap (λ x. x.max_descendants) e, ap (λ x. x.max_depth) e)))))
    (Decides-and _ _ (controllers s.control t.control)
    (Decides-and _ _ (booleans_Decides s.freeze t.freeze)
    (Decides-and _ _ (sets s.cpus t.cpus)
    (Decides-and _ _ (limits s.max_descendants t.max_descendants) (limits s.max_depth t.max_depth)))))

pub groups : (x y : Path × Settings) → Decides (path_eq.ghosts.eq x.0 y.0 && settings_eq.ghosts.eq x.1 y.1) (x ≡ y)
groups x y = Decides-like _ (λ h i. (h.0 i, h.1 i)) (λ e. (ap (λ z. z.0) e, ap (λ z. z.1) e)) (Decides-and _ _ (paths x.0 y.0) (settings x.1 y.1))

pub processes : (x y : ℕ × Path) → Decides ((x.0 == y.0) && path_eq.ghosts.eq x.1 y.1) (x ≡ y)
processes x y = Decides-like _ (λ h i. (h.0 i, h.1 i)) (λ e. (ap (λ z. z.0) e, ap (λ z. z.1) e)) (Decides-and _ _ (Decides-eqb x.0 y.0) (paths x.1 y.1))

-- maps are the same where their entries are
pub maps : {K X : Type 0} {R : K → K → Ordering} → IsTotalOrder R → IsAntisymmetric R → (same : K × X → K × X → Bool) → ((x y : K × X) → Decides (same x y) (x ≡ y))
    → (m n : BTreeMap K X) → IsOrdered R m → IsOrdered R n → Decides (pointwise same m.entries n.entries) (from_entries R m.entries ≡ from_entries R n.entries)
maps {R} o exact same decides m n h k =
    Decides-like _ (ap (from_entries R)) (λ e. sym (entries-view o exact m h) ∙ ap entries e ∙ entries-view o exact n k) (pointwise_decides decides m.entries n.entries)
