-- Settings and their parts are compared exactly.
use Rattle.std.proofs.Common.{◌≡◌, Bool, true, false, nat_eq, refl, sym, ap, ◌∙◌, true≢false}
use Rattle.std.proofs.lemmas.Bool.{false≢true}
use Rattle.std.proofs.lemmas.Bool.Decides.{Decides-like, Decides-and, Decides-eqb}
use Rattle.std.proofs.lemmas.Option.{none-some, same_Some}
use Rattle.std.proofs.lemmas.Slice.Eq.{slice_eq-Decides}
use Rattle.std.specs.Bool.{Decides}
use Rattle.std.specs.Cmp.Lexicographic.{pointwise}
use mathlib.Core.Bool.{beq}
use Rattle.cg_maps.specs.FiniteSet.{FiniteSet, members, set_of}
use Rattle.cg_maps.proofs.Sets.{set_of-members}
use Rattle.cg_text.specs.declared.controllers.Controllers.{Controllers}
use Rattle.cg_text.specs.Limit.{number_of}
use Rattle.cg_text.specs.declared.limit.Limit.{Limit}
use Rattle.cg_text.specs.declared.limit.Limit.TheVariants.{Max, UpTo}
use Rattle.cg_text.proofs.Limits.{same_number}
use Rattle.cg_text.specs.declared.settings.Settings.{Settings}
use Rattle.cg_text.specs.contracts.settings.SettingsPartialEq as settings_equal
use Rattle.cg_text.specs.contracts.controllers.ControllersPartialEq as controllers_equal
use Rattle.cg_text.specs.contracts.limit.LimitPartialEq as limits_equal

pub bools_decide : (a b : Bool) → Decides (beq a b) (a ≡ b)
bools_decide true true = (λ _. refl, λ _. refl)
bools_decide true false = (λ e. absurd (false≢true e), λ e. absurd (true≢false e))
bools_decide false true = (λ e. absurd (false≢true e), λ e. absurd (false≢true e))
bools_decide false false = (λ _. refl, λ _. refl)

pub sets_decide : (s t : FiniteSet) → Decides (pointwise nat_eq (members s) (members t)) (s ≡ t)
sets_decide s t =
    Decides-like _ (λ e. sym (set_of-members s) ∙ ap set_of e ∙ set_of-members t) (λ e. ap members e) (slice_eq-Decides Decides-eqb (members s) (members t) _ refl)

pub limits_decide : (a b : Limit) → Decides (limits_equal.TheImpl.eq-value.it a b) (a ≡ b)
limits_decide Max Max = (λ _. refl, λ _. refl)
limits_decide Max (UpTo m) = (λ e. absurd (false≢true e), λ e. absurd (none-some m.number (ap number_of e)))
limits_decide (UpTo n) Max = (λ e. absurd (false≢true e), λ e. absurd (none-some n.number (sym (ap number_of e))))
limits_decide (UpTo n) (UpTo m) = Decides-like _ (λ e. ap UpTo (same_number n m e)) (λ e. same_Some _ _ (ap number_of e)) (Decides-eqb n.number m.number)

pub controllers_decide : (s t : Controllers) → Decides (controllers_equal.TheImpl.eq-value.it s t) (s ≡ t)
controllers_decide s t =
    Decides-like _
    (λ h i. record { cpuset = h.0 i; cpu = h.1.0 i; io = h.1.1.0 i; memory = h.1.1.1.0 i; hugetlb = h.1.1.1.1.0 i; pids = h.1.1.1.1.1.0 i; rdma = h.1.1.1.1.1.1.0 i; misc = h.1.1.1.1.1.1.1 i })
    (λ e. (ap (λ x. x.cpuset) e, (ap (λ x. x.cpu) e, (ap (λ x. x.io) e, (ap (λ x. x.memory) e, (ap (λ x. x.hugetlb) e, (ap (λ x. x.pids) e, (ap (λ x. x.rdma) e, ap (λ x. x.misc) e))))))))
    (Decides-and _ _ (bools_decide s.cpuset t.cpuset)
    (Decides-and _ _ (bools_decide s.cpu t.cpu)
    (Decides-and _ _ (bools_decide s.io t.io)
    (Decides-and _ _ (bools_decide s.memory t.memory)
    (Decides-and _ _ (bools_decide s.hugetlb t.hugetlb)
    (Decides-and _ _ (bools_decide s.pids t.pids)
    (Decides-and _ _ (bools_decide s.rdma t.rdma) (bools_decide s.misc t.misc))))))))

pub settings_decide : (s t : Settings) → Decides (settings_equal.TheImpl.eq-value.it s t) (s ≡ t)
settings_decide s t =
    Decides-like _
    (λ h i. record { control = h.0 i; freeze = h.1.0 i; cpus = h.1.1.0 i; max_descendants = h.1.1.1.0 i; max_depth = h.1.1.1.1 i })
    (λ e. (ap (λ x. x.control) e, (ap (λ x. x.freeze) e, (ap (λ x. x.cpus) e, (ap (λ x. x.max_descendants) e, ap (λ x. x.max_depth) e)))))
    (Decides-and _ _ (controllers_decide s.control t.control)
    (Decides-and _ _ (bools_decide s.freeze t.freeze)
    (Decides-and _ _ (sets_decide s.cpus t.cpus)
    (Decides-and _ _ (limits_decide s.max_descendants t.max_descendants) (limits_decide s.max_depth t.max_depth)))))
