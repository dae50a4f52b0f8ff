-- World texts: which tree a text spells, and the one text that is written for a tree.
use Rattle.std.specs.Prelude.{◌≡◌, ℕ, ◌≤◌, ◌&&◌, nat_le, Bool, true, false, cond, List, [], ◌∷◌, ◌++◌, map, length, Some, None, codes}
use Rattle.std.specs.List.{flat_map, join_with_byte, list_all}
use Rattle.std.specs.Fmt.{decimal}
use Rattle.std.specs.declared.cmp.Ordering.{Ordering}
use Rattle.cg_maps.specs.FiniteMap.{FiniteMap, get, set_at, entries, empty}
use Rattle.cg_maps.specs.FiniteSet as sets
use Rattle.cg_maps.specs.FiniteSet.{FiniteSet, is_empty_set}
use Rattle.cg_name.specs.Controller.{controller_word}
use Rattle.cg_name.specs.Path.{Path, path_word}
use Rattle.cg_cpus.specs.CpuList.{cpus_text}
use Rattle.cg_text.specs.Words.{Word, lines_of, SayAll}
use Rattle.cg_text.specs.Controllers.{members}
use Rattle.cg_text.specs.FileText.{flag_word, limit_word}
use Rattle.cg_text.specs.declared.controllers.Controllers as controllers
use Rattle.cg_text.specs.declared.limit.Limit.{Limit}
use Rattle.cg_text.specs.declared.limit.Limit.TheVariants.{Max, UpTo}
use Rattle.cg_text.specs.declared.settings.Settings.{Settings}
use Rattle.cg_model.specs.Tree.{Tree}
use Rattle.cg_model.specs.Sound.{Sound}
use Rattle.cg_world_text.specs.declared.statement.Statement.{Statement}
use Rattle.cg_world_text.specs.declared.statement.Statement.TheVariants.{Version, Controllers, Online, Group, Process, End}
use Rattle.cg_world_text.specs.declared.version.Version as versions
use Rattle.cg_world_text.specs.declared.version.Version.TheVariants.{One, Two}
use Rattle.cg_world_text.specs.Version.{version_word}
use Rattle.cg_world_text.specs.Statement.{SpellsStatement}

-- the entries are put into the map one after another, each at a key that is still free
abbrev pub Lists : {K X : Type 0} {R : K → K → Ordering} → FiniteMap R X → List (K × X) → FiniteMap R X → Type 0
Lists m [] n = n ≡ m
Lists m (e ∷ es) n = (get m e.0 ≡ None) × Lists (set_at m e.0 (Some e.1)) es n

abbrev pub group_of : Path × Settings → Statement
group_of e = Group e.0 e.1

abbrev pub process_of : ℕ × Path → Statement
process_of e = Process e.0 e.1

-- a world's lines in their order: its groups and its processes, none of them twice
pub record Arranges (version : versions.Version) (lines : List Statement) (T : Tree) : Type 0 where
  pub groups : List (Path × Settings)
  pub processes : List (ℕ × Path)
  pub order : lines ≡ Version version ∷ Controllers T.controllers ∷ Online T.online ∷ (map group_of groups ++ map process_of processes ++ End ∷ [])
  pub listed_groups : Lists empty groups T.groups
  pub listed_processes : Lists empty processes T.places

-- each line's words spell what the line says
abbrev pub SpellsEach : versions.Version → List (List Word) → List Statement → Type 0
SpellsEach v [] [] = Unit {0}
SpellsEach v [] (s ∷ ss) = ⊥
SpellsEach v (w ∷ ws) [] = ⊥
SpellsEach v (w ∷ ws) (s ∷ ss) = SpellsStatement v w s × SpellsEach v ws ss

-- a text of at most 16 MiB, of good lines, spells a sound tree in one of the versions
pub record SpellsWorld (text : List ℕ) (T : Tree) : Type 0 where
  pub short : length text ≤ 16777216
  pub said : List (List Word)
  pub lines : SayAll (lines_of text) said
  pub version : versions.Version
  pub statements : List Statement
  pub spelled : SpellsEach version said statements
  pub arranged : Arranges version statements T
  pub sound : Sound T

-- ---- the version that is written: 1 where no CPU number is above 127 and no group has a limit

abbrev pub cpus_fit_one : FiniteSet → Bool
cpus_fit_one s = list_all (λ n. nat_le n 127) (sets.members s)

abbrev pub is_max : Limit → Bool
is_max Max = true
is_max (UpTo n) = false

abbrev pub settings_fit_one : Settings → Bool
settings_fit_one s = cpus_fit_one s.cpus && is_max s.max_descendants && is_max s.max_depth

abbrev pub fits_version_one : Tree → Bool
fits_version_one T = cpus_fit_one T.online && list_all (λ e. settings_fit_one e.1) (entries T.groups)

abbrev pub written_version : Tree → versions.Version
written_version T = cond (fits_version_one T) One Two

-- ---- the text that is written

abbrev pub newline : List ℕ
newline = 10 ∷ []

abbrev pub space : List ℕ
space = 32 ∷ []

-- the text, or a minus in place of an empty one
abbrev pub text_or_minus : List ℕ → List ℕ
text_or_minus [] = codes "-"
text_or_minus (b ∷ bs) = b ∷ bs

abbrev pub control_text : controllers.Controllers → List ℕ
control_text s = text_or_minus (join_with_byte 44 (map controller_word (members s)))

abbrev pub asked_cpus_text : FiniteSet → List ℕ
asked_cpus_text s = cond (is_empty_set s) (codes "-") (cpus_text s)

-- the limits on descendants and on depth, which version 1 has not
abbrev pub limits_text : versions.Version → Settings → List ℕ
limits_text One s = []
limits_text Two s = space ++ limit_word s.max_descendants ++ space ++ limit_word s.max_depth

abbrev pub group_line : versions.Version → Path × Settings → List ℕ
group_line v e =
    codes "group " ++ path_word e.0 ++ space ++ control_text e.1.control ++ space ++ flag_word e.1.freeze ++ space ++ asked_cpus_text e.1.cpus
    ++ limits_text v e.1 ++ newline

abbrev pub process_line : ℕ × Path → List ℕ
process_line e = codes "proc " ++ decimal e.0 ++ space ++ path_word e.1 ++ newline

-- the text of one version: the groups in the order of their paths, the processes by ascending PID
unfoldable pub text_of_version : versions.Version → Tree → List ℕ
text_of_version v T =
    codes "world " ++ version_word v ++ newline
    ++ codes "controllers" ++ flat_map (λ c. space ++ controller_word c) (members T.controllers) ++ newline
    ++ codes "online " ++ cpus_text T.online ++ newline
    ++ flat_map (group_line v) (entries T.groups)
    ++ flat_map process_line (entries T.places)
    ++ codes "end" ++ newline

-- the text that is written
unfoldable pub world_text : Tree → List ℕ
world_text T = text_of_version (written_version T) T
