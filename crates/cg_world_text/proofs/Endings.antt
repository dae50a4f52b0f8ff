-- From each stage some lines lead to a tree, so the lines that a reader has taken begin those of some tree.
use Rattle.std.proofs.Common.{◌≡◌, Some, ℕ, true, false, ◌==◌, ◌||◌, List, [], ◌∷◌, codes, refl, sym, ap, ◌∙◌, arith}
use Rattle.std.proofs.lemmas.Bool.Decides.{nat_tests}
use Rattle.cg_maps.specs.FiniteSet.{FiniteSet, has, is_empty_set, no_members, with_member}
use Rattle.cg_maps.proofs.Sets.{has-no_members, has-with_member}
use Rattle.cg_text.specs.Controllers.{no_controllers}
use Rattle.cg_text.specs.Words.{Line, Word, line_of, IsWrittenLine}
use Rattle.cg_text.specs.declared.controllers.Controllers as controllers
use Rattle.cg_model.specs.Tree.{Tree}
use Rattle.cg_world_text.specs.declared.stage.Stage.{Stage}
use Rattle.cg_world_text.specs.declared.stage.Stage.TheVariants.{Begun, Versioned, Controlled, Groups, Processes, Ended}
use Rattle.cg_world_text.specs.declared.statement.Statement.{Statement}
use Rattle.cg_world_text.specs.declared.statement.Statement.TheVariants.{Version, Controllers, Online, End}
use Rattle.cg_world_text.specs.declared.version.Version as versions
use Rattle.cg_world_text.specs.declared.version.Version.TheVariants.{One}
use Rattle.cg_world_text.specs.Reader.{BeginTree, HasTaken}
use Rattle.cg_world.specs.Making.{bare_tree}
use Rattle.cg_world_text.specs.Stage.{taken, version_at, Leads}
use Rattle.cg_world.specs.Representable.{AreCpusUpTo}
use Rattle.cg_world_text.specs.Statement.{SpellsStatement}
use Rattle.cg_world_text.specs.Version.{version_word, last_cpu}
use Rattle.cg_cpus.specs.CpuList.{cpus_text}
use Rattle.cg_text.proofs.WrittenLines.{says_line}
use Rattle.cg_world_text.proofs.Cpus.{filled}
use Rattle.cg_world_text.proofs.Lines.{leads_itself, spoken}
use Rattle.cg_world_text.proofs.RoundTrip.{controllers_good, end_good, online_good, spells_some, version_good}

-- some lines lead from the stage to a tree
abbrev Ends : Stage → Type 0
Ends st = (others : List Line) × (T : Tree) × Leads st others T

-- a line more
behind : (st next : Stage) (ws : List Word) (s : Statement) → IsWrittenLine ws → SpellsStatement (version_at st) ws s → taken st s ≡ Some next → Ends next → Ends st
behind st next ws s good spells e h = (line_of ws ∷ h.0, h.1, (spoken st next (line_of ws) ws s (says_line ws good) spells e h.0 h.1).1 h.2)

ended_ends : (v : versions.Version) (T : Tree) → Ends (Ended v T)
ended_ends v T = ([], T, leads_itself v T)

groups_end : (v : versions.Version) (T : Tree) → Ends (Groups v T)
groups_end v T = behind (Groups v T) (Ended v T) (codes "end" ∷ []) End end_good refl refl (ended_ends v T)

processes_end : (v : versions.Version) (T : Tree) → Ends (Processes v T)
processes_end v T = behind (Processes v T) (Ended v T) (codes "end" ∷ []) End end_good refl refl (ended_ends v T)

-- one CPU
abbrev first_cpu : FiniteSet
first_cpu = with_member no_members 0

first_is : (n : ℕ) → has first_cpu n ≡ (n == 0)
first_is n = has-with_member no_members 0 n ∙ ap (λ b. (n == 0) || b) (has-no_members n) ∙ or_false (n == 0)
  where
    or_false : (b : _) → (b || false) ≡ b
    or_false true = refl
    or_false false = refl

first_low : (most : ℕ) → AreCpusUpTo most first_cpu
first_low most n e = let zero : (n == 0) ≡ true = sym (first_is n) ∙ e in grind (arith, nat_tests)

first_some : is_empty_set first_cpu ≡ false
first_some = filled first_cpu 0 (first_is 0)

controlled_ends : (v : versions.Version) (cs : controllers.Controllers) → Ends (Controlled v cs)
controlled_ends v cs =
    behind (Controlled v cs) (Groups v (bare_tree cs first_cpu)) (codes "online" ∷ cpus_text first_cpu ∷ []) (Online first_cpu) (online_good first_cpu (first_low 1023) first_some)
    (cpus_text first_cpu, refl, spells_some (last_cpu v) first_cpu (first_low 1023) (first_low (last_cpu v)) first_some) refl (groups_end v (bare_tree cs first_cpu))

versioned_ends : (v : versions.Version) → Ends (Versioned v)
versioned_ends v = behind (Versioned v) (Controlled v no_controllers) (codes "controllers" ∷ []) (Controllers no_controllers) (controllers_good no_controllers) ([], refl, refl) refl (controlled_ends v no_controllers)

begun_ends : Ends Begun
begun_ends = behind Begun (Versioned One) (codes "world" ∷ version_word One ∷ []) (Version One) (version_good One) refl refl (versioned_ends One)

ends : (st : Stage) → Ends st
ends Begun = begun_ends
ends (Versioned v) = versioned_ends v
ends (Controlled v cs) = controlled_ends v cs
ends (Groups v T) = groups_end v T
ends (Processes v T) = processes_end v T
ends (Ended v T) = ended_ends v T

pub taken_begin : (st : Stage) (lines : List Line) → HasTaken st lines → BeginTree lines
taken_begin st lines h = let e = ends st in (e.0, e.1, (h.goes_on e.0 e.1).1 e.2)
