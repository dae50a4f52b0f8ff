-- Interface files are told apart by the lengths of their names and one byte.
use Rattle.std.proofs.Common.{◌≡◌, ℕ, ◌==◌, cond, List, length, get_or, refl, sym, ap, ◌∙◌}
use Rattle.cg_text.specs.Laws.{OneFile}
use Rattle.cg_name.specs.FileName.{file_word}
use Rattle.cg_name.specs.declared.file_name.FileName.{FileName}
use Rattle.cg_name.specs.declared.file_name.FileName.TheVariants.{Procs, Controllers, SubtreeControl, Events, Freeze, Cpus, EffectiveCpus, MaxDescendants, MaxDepth}

abbrev long : ℕ → ℕ → FileName
long n eighth = cond (n == 21) EffectiveCpus (cond (n == 16) MaxDepth (cond (eighth == 115) SubtreeControl MaxDescendants))

abbrev of_length : ℕ → ℕ → FileName
of_length n eighth =
    cond (n == 12) Procs (cond (n == 18) Controllers (cond (n == 11) Cpus (cond (n == 13) (cond (eighth == 101) Events Freeze) (long n eighth))))

named : List ℕ → FileName
named word = of_length (length word) (get_or word 7 0)

back : (f : FileName) → named (file_word f) ≡ f
unfolding named
back Procs = refl
back Controllers = refl
back SubtreeControl = refl
back Events = refl
back Freeze = refl
back Cpus = refl
back EffectiveCpus = refl
back MaxDescendants = refl
back MaxDepth = refl

pub one_file : OneFile
one_file f g e = sym (back f) ∙ ap named e ∙ back g
