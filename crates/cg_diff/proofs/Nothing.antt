-- Nothing is told of what is the same, and of nothing else.
use Rattle.std.proofs.Common.{◌≡◌, ◌↔◌, ℕ, Bool, true, false, ◌&&◌, List, [], ◌++◌, refl, sym, ap, ap₂, subst, ◌∙◌, true≢false, Option, Some, None, codes}
use Rattle.std.proofs.lemmas.Bool.{eqb-true, eq-eqb}
use Rattle.std.specs.Bool.{beq}
use Rattle.std.specs.Cmp.{booleans_Decides, nat_cmp_total}
use Rattle.std.specs.Cmp.Lexicographic.{bytes_decides}
use Rattle.std.specs.Fmt.{decimal}
use Rattle.std.specs.FinMap.{nat_cmp-IsAntisymmetric}
use Rattle.cg_maps.specs.FiniteMap.{is_nonempty}
use Rattle.cg_maps.specs.FiniteSet.{FiniteSet, members, set_of}
use Rattle.cg_maps.proofs.Maps.{here, is_same}
use Rattle.cg_maps.proofs.Sets.{set_of-members}
use Rattle.cg_name.specs.Order.{path_cmp_total, path_cmp_exact}
use Rattle.cg_name.specs.Path.{Path, path_word, same_path}
use Rattle.cg_text.specs.FileText.{flag_word, limit_word}
use Rattle.cg_text.specs.declared.controllers.Controllers.{Controllers}
use Rattle.cg_text.specs.declared.limit.Limit.{Limit}
use Rattle.cg_text.specs.declared.limit.Limit.TheVariants.{Max, UpTo}
use Rattle.cg_text.specs.declared.settings.Settings.{Settings}
use Rattle.cg_text.proofs.Limits.{same_number}
use Rattle.cg_model.specs.Tree.{Tree}
use Rattle.cg_world_text.specs.declared.version.Version.{Version}
use Rattle.cg_world_text.specs.World.{asked_cpus_text, control_text, written_version}
use Rattle.cg_diff.specs.Difference.{changed, control_change, controllers_change, cpus_change, depth_change, descendants_change, freeze_change, difference_text, group_changes, groups_changes, online_change, process_changes, processes_changes, same_controllers, same_cpus, same_limit, setting, settings_changes}
use Rattle.cg_diff.proofs.Merged.{empty_parts, nothing_of_same, nothing_told}

-- ---- values that are the same are equal

both_true : (a b : Bool) → (a && b) ≡ true → (a ≡ true) × (b ≡ true)
both_true true b e = (refl, e)
both_true false b e = absurd (true≢false (sym e))

flag_is : (a b : Bool) → beq a b ≡ true → a ≡ b
flag_is a b = (booleans_Decides a b).0

flag_itself : (a : Bool) → beq a a ≡ true
flag_itself a = (booleans_Decides a a).1 refl

controllers_are : (s t : Controllers) → same_controllers s t ≡ true → s ≡ t
controllers_are s t e =
    let cpuset = both_true _ _ e in
    let cpu = both_true _ _ cpuset.1 in
    let io = both_true _ _ cpu.1 in
    let memory = both_true _ _ io.1 in
    let hugetlb = both_true _ _ memory.1 in
    let pids = both_true _ _ hugetlb.1 in
    let rdma = both_true _ _ pids.1 in
    let misc = both_true _ _ rdma.1 in
    λ i. record {
      cpuset = flag_is s.cpuset t.cpuset cpuset.0 i;
      cpu = flag_is s.cpu t.cpu cpu.0 i;
      io = flag_is s.io t.io io.0 i;
      memory = flag_is s.memory t.memory memory.0 i;
      hugetlb = flag_is s.hugetlb t.hugetlb hugetlb.0 i;
      pids = flag_is s.pids t.pids pids.0 i;
      rdma = flag_is s.rdma t.rdma rdma.0 i;
      misc = flag_is s.misc t.misc misc.0 i;
    }

true_and : (a b : Bool) → a ≡ true → b ≡ true → (a && b) ≡ true
true_and a b e f = ap₂ (λ x y. x && y) e f

controllers_themselves : (s : Controllers) → same_controllers s s ≡ true
controllers_themselves s =
    true_and _ _ (flag_itself s.cpuset) (true_and _ _ (flag_itself s.cpu) (true_and _ _ (flag_itself s.io) (true_and _ _ (flag_itself s.memory)
    (true_and _ _ (flag_itself s.hugetlb) (true_and _ _ (flag_itself s.pids) (true_and _ _ (flag_itself s.rdma) (true_and _ _ (flag_itself s.misc) refl)))))))

cpus_are : (s t : FiniteSet) → same_cpus s t ≡ true → s ≡ t
cpus_are s t e = sym (set_of-members s) ∙ ap set_of ((bytes_decides (members s) (members t)).0 e) ∙ set_of-members t

cpus_themselves : (s : FiniteSet) → same_cpus s s ≡ true
cpus_themselves s = (bytes_decides (members s) (members s)).1 refl

limits_are : (m n : Limit) → same_limit m n ≡ true → m ≡ n
limits_are Max Max e = refl
limits_are Max (UpTo n) e = absurd (true≢false (sym e))
limits_are (UpTo m) Max e = absurd (true≢false (sym e))
limits_are (UpTo m) (UpTo n) e = ap UpTo (same_number m n (eqb-true m.number n.number e))

limits_themselves : (m : Limit) → same_limit m m ≡ true
limits_themselves Max = refl
limits_themselves (UpTo m) = eq-eqb m.number m.number refl

paths_are : (p q : Path) → same_path p q ≡ true → p ≡ q
unfolding same_path
paths_are p q = is_same path_cmp_total path_cmp_exact p q

paths_themselves : (p : Path) → same_path p p ≡ true
unfolding same_path
paths_themselves p = here path_cmp_total path_cmp_exact p

-- ---- a line is missing exactly where nothing changed

unchanged : (name before after : List ℕ) (same : Bool) → changed name same before after ≡ [] → same ≡ true
unchanged name before after true e = refl
unchanged name before after false e = absurd (true≢false (ap is_nonempty e))

no_line : (name before after : List ℕ) (same : Bool) → same ≡ true → changed name same before after ≡ []
no_line name before after same e = ap (λ b. changed name b before after) e

none : {A : Type 0} (xs ys : List A) → xs ≡ [] → ys ≡ [] → xs ++ ys ≡ []
none xs ys e f = ap₂ (λ x y. x ++ y) e f

settings_are : (p : Path) (s t : Settings) → settings_changes p s t ≡ [] → s ≡ t
settings_are p s t e =
    let control = control_change p s.control t.control in
    let freeze = freeze_change p s.freeze t.freeze in
    let cpus = cpus_change p s.cpus t.cpus in
    let descendants = descendants_change p s.max_descendants t.max_descendants in
    let depth = depth_change p s.max_depth t.max_depth in
    let five = empty_parts (control ++ freeze ++ cpus ++ descendants) depth e in
    let four = empty_parts (control ++ freeze ++ cpus) descendants five.0 in
    let three = empty_parts (control ++ freeze) cpus four.0 in
    let two = empty_parts control freeze three.0 in
    λ i. record {
      control = controllers_are s.control t.control (unchanged (setting p (codes "control")) (control_text s.control) (control_text t.control) _ two.0) i;
      freeze = flag_is s.freeze t.freeze (unchanged (setting p (codes "freeze")) (flag_word s.freeze) (flag_word t.freeze) _ two.1) i;
      cpus = cpus_are s.cpus t.cpus (unchanged (setting p (codes "cpus")) (asked_cpus_text s.cpus) (asked_cpus_text t.cpus) _ three.1) i;
      max_descendants = limits_are s.max_descendants t.max_descendants (unchanged (setting p (codes "descendants")) (limit_word s.max_descendants) (limit_word t.max_descendants) _ four.1) i;
      max_depth = limits_are s.max_depth t.max_depth (unchanged (setting p (codes "depth")) (limit_word s.max_depth) (limit_word t.max_depth) _ five.1) i;
    }

settings_themselves : (p : Path) (s : Settings) → settings_changes p s s ≡ []
settings_themselves p s =
    let control = control_change p s.control s.control in
    let freeze = freeze_change p s.freeze s.freeze in
    let cpus = cpus_change p s.cpus s.cpus in
    let descendants = descendants_change p s.max_descendants s.max_descendants in
    let depth = depth_change p s.max_depth s.max_depth in
    none (control ++ freeze ++ cpus ++ descendants) depth
    (none (control ++ freeze ++ cpus) descendants
    (none (control ++ freeze) cpus
    (none control freeze
    (no_line (setting p (codes "control")) (control_text s.control) (control_text s.control) _ (controllers_themselves s.control))
    (no_line (setting p (codes "freeze")) (flag_word s.freeze) (flag_word s.freeze) _ (flag_itself s.freeze)))
    (no_line (setting p (codes "cpus")) (asked_cpus_text s.cpus) (asked_cpus_text s.cpus) _ (cpus_themselves s.cpus)))
    (no_line (setting p (codes "descendants")) (limit_word s.max_descendants) (limit_word s.max_descendants) _ (limits_themselves s.max_descendants)))
    (no_line (setting p (codes "depth")) (limit_word s.max_depth) (limit_word s.max_depth) _ (limits_themselves s.max_depth))

group_is : (v w : Version) (p : Path) (x y : Option Settings) → group_changes v w p x y ≡ [] → x ≡ y
group_is v w p None None e = refl
group_is v w p (Some s) None e = absurd (true≢false (ap is_nonempty e))
group_is v w p None (Some t) e = absurd (true≢false (ap is_nonempty e))
group_is v w p (Some s) (Some t) e = ap Some (settings_are p s t e)

group_itself : (v w : Version) (p : Path) (x : Option Settings) → group_changes v w p x x ≡ []
group_itself v w p None = refl
group_itself v w p (Some s) = settings_themselves p s

process_is : (k : ℕ) (x y : Option Path) → process_changes k x y ≡ [] → x ≡ y
process_is k None None e = refl
process_is k (Some p) None e = absurd (true≢false (ap is_nonempty e))
process_is k None (Some q) e = absurd (true≢false (ap is_nonempty e))
process_is k (Some p) (Some q) e = ap Some (paths_are p q (unchanged (codes "proc " ++ decimal k) (path_word p) (path_word q) _ e))

process_itself : (k : ℕ) (x : Option Path) → process_changes k x x ≡ []
process_itself k None = refl
process_itself k (Some p) = no_line (codes "proc " ++ decimal k) (path_word p) (path_word p) _ (paths_themselves p)

-- ---- two trees

told_of_none : (A B : Tree) → difference_text A B ≡ [] → A ≡ B
unfolding difference_text
told_of_none A B e =
    let computer = controllers_change A B ++ online_change A B in
    let four = empty_parts (computer ++ groups_changes A B) (processes_changes A B) e in
    let three = empty_parts computer (groups_changes A B) four.0 in
    let two = empty_parts (controllers_change A B) (online_change A B) three.0 in
    let v = written_version A in
    let w = written_version B in
    λ i. record {
      controllers = controllers_are A.controllers B.controllers (unchanged (codes "controllers") (control_text A.controllers) (control_text B.controllers) _ two.0) i;
      online = cpus_are A.online B.online (unchanged (codes "online") (asked_cpus_text A.online) (asked_cpus_text B.online) _ two.1) i;
      groups = nothing_told path_cmp_total path_cmp_exact (group_changes v w) (group_is v w) A.groups B.groups three.1 i;
      places = nothing_told nat_cmp_total nat_cmp-IsAntisymmetric process_changes process_is A.places B.places four.1 i;
    }

none_told_itself : (A : Tree) → difference_text A A ≡ []
unfolding difference_text
none_told_itself A =
    none (controllers_change A A ++ online_change A A ++ groups_changes A A) (processes_changes A A)
    (none (controllers_change A A ++ online_change A A) (groups_changes A A)
    (none (controllers_change A A) (online_change A A)
    (no_line (codes "controllers") (control_text A.controllers) (control_text A.controllers) _ (controllers_themselves A.controllers))
    (no_line (codes "online") (asked_cpus_text A.online) (asked_cpus_text A.online) _ (cpus_themselves A.online)))
    (nothing_of_same path_cmp_total path_cmp_exact (group_changes (written_version A) (written_version A)) (group_itself (written_version A) (written_version A)) A.groups A.groups refl))
    (nothing_of_same nat_cmp_total nat_cmp-IsAntisymmetric process_changes process_itself A.places A.places refl)

-- nothing is told exactly where the trees are the same
pub nothing_where_same : (A B : Tree) → (difference_text A B ≡ []) ↔ (A ≡ B)
nothing_where_same A B = (told_of_none A B, λ e. subst (λ Z. difference_text A Z ≡ []) e (none_told_itself A))
