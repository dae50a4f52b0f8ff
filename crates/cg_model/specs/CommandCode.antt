-- A command is data: the code by which a proof tells commands apart.
use Rattle.std.specs.Prelude.{◌≡◌, ◌⊎◌, ◌==◌, ℕ, Bool, cond, refl}
use Rattle.std.proofs.Common.{inl, inr}
use Rattle.std.specs.Coded.{Coded, code_by, coded×, coded⊎, coded_ℕ, coded_bool}
use base.Stored.{coded_via}
use Rattle.cg_maps.specs.Code.{set_code}
use Rattle.cg_maps.specs.FiniteSet.{FiniteSet}
use Rattle.cg_name.specs.Path.{Path}
use Rattle.cg_text.specs.declared.control_ops.ControlOps.{ControlOps}
use Rattle.cg_name.specs.declared.file_name.FileName.{FileName}
use Rattle.cg_name.specs.declared.file_name.FileName.TheVariants as files
use Rattle.cg_text.specs.declared.limit.Limit.{Limit}
use Rattle.cg_text.proofs.Operations.{same_ops}
use Rattle.cg_model.specs.Code.{limit_code, controllers_code, path_code}
use Rattle.cg_model.specs.Command.{Command, Create, Remove, Migrate, Subtree, Freeze, Cpus, Show, Online, MaxDescendants, MaxDepth}

-- the number of a file
abbrev from_file : FileName → ℕ
from_file files.Procs = 0
from_file files.Controllers = 1
from_file files.SubtreeControl = 2
from_file files.Events = 3
from_file files.Freeze = 4
from_file files.Cpus = 5
from_file files.EffectiveCpus = 6
from_file files.MaxDescendants = 7
from_file files.MaxDepth = 8

-- the file with a number
abbrev to_file : ℕ → FileName
to_file n =
    cond (n == 0) files.Procs (cond (n == 1) files.Controllers (cond (n == 2) files.SubtreeControl (cond (n == 3) files.Events (cond (n == 4) files.Freeze
    (cond (n == 5) files.Cpus (cond (n == 6) files.EffectiveCpus (cond (n == 7) files.MaxDescendants files.MaxDepth)))))))

-- a file is that with its number
pub back_file : (f : FileName) → to_file (from_file f) ≡ f
back_file files.Procs = refl
back_file files.Controllers = refl
back_file files.SubtreeControl = refl
back_file files.Events = refl
back_file files.Freeze = refl
back_file files.Cpus = refl
back_file files.EffectiveCpus = refl
back_file files.MaxDescendants = refl
back_file files.MaxDepth = refl

-- a file, by its number
abbrev pub file_code : Coded FileName
file_code = code_by ℕ coded_ℕ from_file to_file back_file

-- operations, by their two sets
abbrev pub ops_code : Coded ControlOps
ops_code = coded_via (coded× controllers_code controllers_code) (λ ops. (ops.plus, ops.minus)) (λ ops others e. same_ops ops others (λ i. (e i).0) (λ i. (e i).1))

-- which of the ten, and its arguments
abbrev CommandSum : Type 0
CommandSum =
    Path ⊎ (Path ⊎ ((ℕ × Path) ⊎ ((Path × ControlOps) ⊎ ((Path × Bool) ⊎ ((Path × FiniteSet) ⊎ ((Path × FileName) ⊎ (FiniteSet ⊎ ((Path × Limit) ⊎ (Path × Limit)))))))))

-- a command as that
abbrev from_command : Command → CommandSum
from_command (Create p) = inl p
from_command (Remove p) = inr (inl p)
from_command (Migrate k p) = inr (inr (inl (k, p)))
from_command (Subtree p ops) = inr (inr (inr (inl (p, ops))))
from_command (Freeze p v) = inr (inr (inr (inr (inl (p, v)))))
from_command (Cpus p v) = inr (inr (inr (inr (inr (inl (p, v))))))
from_command (Show p f) = inr (inr (inr (inr (inr (inr (inl (p, f)))))))
from_command (Online v) = inr (inr (inr (inr (inr (inr (inr (inl v)))))))
from_command (MaxDescendants p v) = inr (inr (inr (inr (inr (inr (inr (inr (inl (p, v)))))))))
from_command (MaxDepth p v) = inr (inr (inr (inr (inr (inr (inr (inr (inr (p, v)))))))))

-- the command that it is
abbrev to_command : CommandSum → Command
to_command (inl p) = Create p
to_command (inr (inl p)) = Remove p
to_command (inr (inr (inl x))) = Migrate x.0 x.1
to_command (inr (inr (inr (inl x)))) = Subtree x.0 x.1
to_command (inr (inr (inr (inr (inl x))))) = Freeze x.0 x.1
to_command (inr (inr (inr (inr (inr (inl x)))))) = Cpus x.0 x.1
to_command (inr (inr (inr (inr (inr (inr (inl x))))))) = Show x.0 x.1
to_command (inr (inr (inr (inr (inr (inr (inr (inl v)))))))) = Online v
to_command (inr (inr (inr (inr (inr (inr (inr (inr (inl x))))))))) = MaxDescendants x.0 x.1
to_command (inr (inr (inr (inr (inr (inr (inr (inr (inr x))))))))) = MaxDepth x.0 x.1

-- a command is the one that it is written as
pub back_command : (c : Command) → to_command (from_command c) ≡ c
back_command (Create p) = refl
back_command (Remove p) = refl
back_command (Migrate k p) = refl
back_command (Subtree p ops) = refl
back_command (Freeze p v) = refl
back_command (Cpus p v) = refl
back_command (Show p f) = refl
back_command (Online v) = refl
back_command (MaxDescendants p v) = refl
back_command (MaxDepth p v) = refl

-- a command, by which of the ten it is and by its arguments
abbrev pub command_code : Coded Command
command_code =
    code_by CommandSum
    (coded⊎ path_code (coded⊎ path_code (coded⊎ (coded× coded_ℕ path_code) (coded⊎ (coded× path_code ops_code) (coded⊎ (coded× path_code coded_bool)
    (coded⊎ (coded× path_code set_code) (coded⊎ (coded× path_code file_code) (coded⊎ set_code (coded⊎ (coded× path_code limit_code) (coded× path_code limit_code))))))))))
    from_command to_command back_command
