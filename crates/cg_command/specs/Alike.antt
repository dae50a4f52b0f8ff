-- `==` of commands: it tells whether they mean the same.
use Rattle.std.specs.Prelude.{◌≡◌, ◌==◌, Bool, true, false, ◌&&◌, Option, Some, None}
use Rattle.std.proofs.Common.{ap, refl}
use Rattle.std.proofs.lemmas.Bool.{false≢true}
use Rattle.std.proofs.lemmas.Bool.Decides.{Decides-and, Decides-eqb, Decides-like}
use Rattle.std.specs.Bool.{Decides}
use Rattle.std.specs.Cmp.{booleans_Decides, decided, partial_equiv_from_equiv, IsEquivalence, IsPartialEquivalence}
use Rattle.std.specs.Cmp.Lexicographic.{pointwise_decides, bytes_decides}
use denote.Enum.Bare.{same_true, true_same}
use Rattle.cg_boxed.proofs.Deciding.{controllers_decide, limits_decide, sets_decide}
use Rattle.cg_boxed.specs.contracts.cpus.BoxedCpusPartialEq.TheImpl as sets
use Rattle.cg_command.specs.Meaning.{path_of}
use Rattle.cg_model.specs.Command.{Command, Create, Remove, Migrate, Subtree, Freeze, Cpus, Show, Online, MaxDescendants, MaxDepth}
use Rattle.cg_name.specs.contracts.file_name.FileName.{the_type as file_type}
use Rattle.cg_name.specs.contracts.file_name.FileNamePartialEq.TheImpl as files
use Rattle.cg_name.specs.contracts.path.PathPartialEq.TheImpl as paths
use Rattle.cg_name.specs.declared.file_name.FileName.{FileName}
use Rattle.cg_name.specs.Path.{Path}
use Rattle.cg_text.specs.contracts.control_ops.ControlOpsPartialEq.TheImpl as operations
use Rattle.cg_text.specs.contracts.limit.LimitPartialEq.TheImpl as limits
use Rattle.cg_text.specs.declared.control_ops.ControlOps.{ControlOps}
use Rattle.cg_text.proofs.Operations.{same_ops}
use mathlib.Core.Bool.{beq}

-- the two are the same but for their paths
abbrev pub like : Command → Command → Bool
like (Create p) (Create q) = true
like (Remove p) (Remove q) = true
like (Migrate k p) (Migrate l q) = k == l
like (Subtree p ops) (Subtree q others) = operations.ghosts.eq ops others
like (Freeze p v) (Freeze q w) = beq v w
like (Cpus p v) (Cpus q w) = sets.ghosts.eq v w
like (Show p f) (Show q g) = files.ghosts.eq f g
like (Online v) (Online w) = sets.ghosts.eq v w
like (MaxDescendants p l) (MaxDescendants q m) = limits.ghosts.eq l m
like (MaxDepth p l) (MaxDepth q m) = limits.ghosts.eq l m
like _ _ = false

-- they have the same path, or none
abbrev pub at_one_path : Option Path → Option Path → Bool
at_one_path None None = true
at_one_path (Some p) (Some q) = paths.ghosts.eq p q
at_one_path _ _ = false

-- the two are one command
abbrev pub alike : Command → Command → Bool
alike a b = like a b && at_one_path (path_of a) (path_of b)

-- ---- that it does

paths_decide : (p q : Path) → Decides (paths.ghosts.eq p q) (p ≡ q)
paths_decide p q = pointwise_decides bytes_decides p q

operations_decide : (o p : ControlOps) → Decides (operations.ghosts.eq o p) (o ≡ p)
operations_decide o p =
    Decides-like _ (λ h. same_ops o p h.0 h.1) (λ e. (ap (λ x. x.plus) e, ap (λ x. x.minus) e))
    (Decides-and _ _ (controllers_decide o.plus p.plus) (controllers_decide o.minus p.minus))

files_decide : (f g : FileName) → Decides (files.ghosts.eq f g) (f ≡ g)
files_decide f g = (same_true file_type tt f g, true_same file_type f g)

pub alike_decides : (a b : Command) → Decides (alike a b) (a ≡ b)
alike_decides (Create p) (Create q) = Decides-like _ (ap Create) (λ e. cc e) (paths_decide p q)
alike_decides (Remove p) (Remove q) = Decides-like _ (ap Remove) (λ e. cc e) (paths_decide p q)
alike_decides (Migrate k p) (Migrate l q) = Decides-like _ (λ h i. Migrate (h.0 i) (h.1 i)) (λ e. (cc e, cc e)) (Decides-and _ _ (Decides-eqb k l) (paths_decide p q))
alike_decides (Subtree p ops) (Subtree q others) = Decides-like _ (λ h i. Subtree (h.1 i) (h.0 i)) (λ e. (cc e, cc e)) (Decides-and _ _ (operations_decide ops others) (paths_decide p q))
alike_decides (Freeze p v) (Freeze q w) = Decides-like _ (λ h i. Freeze (h.1 i) (h.0 i)) (λ e. (cc e, cc e)) (Decides-and _ _ (booleans_Decides v w) (paths_decide p q))
alike_decides (Cpus p v) (Cpus q w) = Decides-like _ (λ h i. Cpus (h.1 i) (h.0 i)) (λ e. (cc e, cc e)) (Decides-and _ _ (sets_decide v w) (paths_decide p q))
alike_decides (Show p f) (Show q g) = Decides-like _ (λ h i. Show (h.1 i) (h.0 i)) (λ e. (cc e, cc e)) (Decides-and _ _ (files_decide f g) (paths_decide p q))
alike_decides (Online v) (Online w) = Decides-like _ (λ h. ap Online h.0) (λ e. (cc e, refl)) (Decides-and _ _ (sets_decide v w) ((λ e. e), (λ e. e)))
alike_decides (MaxDescendants p l) (MaxDescendants q m) = Decides-like _ (λ h i. MaxDescendants (h.1 i) (h.0 i)) (λ e. (cc e, cc e)) (Decides-and _ _ (limits_decide l m) (paths_decide p q))
alike_decides (MaxDepth p l) (MaxDepth q m) = Decides-like _ (λ h i. MaxDepth (h.1 i) (h.0 i)) (λ e. (cc e, cc e)) (Decides-and _ _ (limits_decide l m) (paths_decide p q))
alike_decides a b = (λ e. absurd (false≢true e), λ e. cc e)

pub alike_equiv : IsEquivalence alike
alike_equiv = decided alike alike_decides

pub alike_per : IsPartialEquivalence alike
alike_per = partial_equiv_from_equiv alike_equiv
