-- What the code is given of two maps, side by side: an entry of either, or of both at one key.
use Rattle.std.specs.Prelude.{ℕ, List, Some, None}
use Rattle.std.specs.Borrow.{Bor}
use Rattle.itertools.specs.declared.either_or_both.EitherOrBoth.{EitherOrBoth}
use Rattle.itertools.specs.declared.either_or_both.EitherOrBoth.TheVariants.{Both, Left, Right}
use Rattle.cg_name.specs.Path.{Path}
use Rattle.cg_text.specs.declared.settings.Settings.{Settings}
use Rattle.cg_world_text.specs.declared.version.Version.{Version}
use Rattle.cg_diff.specs.Difference.{group_changes, process_changes}

-- an entry of a map, borrowed
abbrev pub Entry : Type 0 → Type 0 → Type 0
Entry K X = Bor K × Bor X

-- what changed of the group of these entries
abbrev pub group_side : Version → Version → EitherOrBoth (Entry Path Settings) (Entry Path Settings) → List ℕ
group_side v w (Left e) = group_changes v w e.0.now (Some e.1.now) None
group_side v w (Right e) = group_changes v w e.0.now None (Some e.1.now)
group_side v w (Both e f) = group_changes v w e.0.now (Some e.1.now) (Some f.1.now)

-- what changed of the process of these entries
abbrev pub process_side : EitherOrBoth (Entry ℕ Path) (Entry ℕ Path) → List ℕ
process_side (Left e) = process_changes e.0.now (Some e.1.now) None
process_side (Right e) = process_changes e.0.now None (Some e.1.now)
process_side (Both e f) = process_changes e.0.now (Some e.1.now) (Some f.1.now)
