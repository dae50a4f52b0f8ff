use Rattle.std.proofs.Common.{◌≡◌, refl, sym, ap, ◌∙◌, subst, Bor, Option, Some, None, option_copied, option_map, is_some, inl, inr}
use Rattle.std.specs.String.{string_bytes}
use Rattle.cg_model.specs.Tree.{Tree}
use Rattle.cg_name.specs.Path.{Path}
use Rattle.cg_text.specs.declared.settings.Settings.{Settings}
use Rattle.cg_name.specs.FileName.{file_word}
use Rattle.cg_name.specs.declared.file_name.FileName.TheVariants as files
use Rattle.cg_text.specs.Controllers.{no_controllers}
use Rattle.cg_world.specs.Making.{with_group}
use Rattle.cg_import.specs.Files.{folder_at, file_in, IsReadOf, IsSaid}
use Rattle.cg_import.specs.Mounted.{AreSettingsIn}
use Rattle.cg_import.specs.Taking.{PutsProcesses}
use Rattle.cg_import.specs.Values.{ListsPid, SpellsNamed}
use Rattle.cg_import.proofs.Said.{known, there}
use Rattle.cg_import.proofs.Taken.{whole_group, all_taken}
use Rattle.cg_import.proofs.tree.Import.take_group.Goals as goal

-- settings that are lent are there where the group is
lent : {A : Type 0} (r : Option (Bor A)) → is_some (option_copied r) ≡ is_some r
lent None = refl
lent (Some s) = refl

-- the group is put in with the settings that its files say
put_in : (V W U : Tree) (path : Path) (kept s : Settings) → V ≡ with_group W path kept → kept ≡ s → W ≡ U → V ≡ with_group U path s
put_in V W U path kept s put same tree = put ∙ (λ i. with_group (tree i) path (same i))

pub returns-clause-read : goal.returns-clause-read
returns-clause-read g c =
    let file = g.P.Inputs.file c.args.inputs.now in
    let missing = g.P.Inputs.is_missing c.args.inputs.now in
    let path = c.args.path in
    let folder : c.as_str-folder.result.now ≡ folder_at c.args.root.now path = c.as_str-folder.ensures.value ∙ c.in_ok-folder.ensures in
    let name = file_in (folder_at c.args.root.now path) (file_word files.Procs) in
    let read : IsReadOf file missing name (option_map string_bytes c.in_ok-pids.field-0) =
    subst (λ f. IsReadOf file missing (file_in f (file_word files.Procs)) (option_map string_bytes c.in_ok-pids.field-0)) folder c.in_ok-pids.ensures in
    let some : option_map string_bytes c.in_ok-pids.field-0 ≡ Some c.as_str.result.now = ap (option_map string_bytes) c.in-Some-2.is ∙ ap Some (sym c.as_str.ensures.value) in
    whole_group file missing c.args.root.now c.args.self.now.tree c.take_processes.new.self.tree c.set_group.new.self path c.as_str.result.now c.in_ok-settings.settings c.in-Some.above
    c.requires.read
    (subst (λ t. PutsProcesses path (ListsPid c.as_str.result.now) t c.take_processes.new.self.tree) c.in_ok-settings.ensures.tree c.in_ok-take_processes.ensures.puts)
    (put_in c.set_group.new.self c.take_below.new.self.tree c.take_processes.new.self.tree path c.in_ok-compact.compact c.in_ok-settings.settings c.in_ok-set_group.ensures.ok c.in_ok-compact.ensures.value c.in_ok-take_below.ensures.tree)
    (ap is_some (sym c.settings.ensures) ∙ lent c.settings.result ∙ sym c.if-is_some.ensures)
    (sym c.in_ok-above.ensures ∙ c.in-Some.is)
    (subst (λ f. AreSettingsIn file missing f c.in-Some.above c.in_ok-settings.settings) folder c.in_ok-settings.ensures.read)
    (known file missing name _ c.as_str.result.now read some)
    (there file missing name _ c.as_str.result.now read some)
    (λ may. c.in_ok-take_processes.ensures.all (inl may))

pub returns-clause-whole : goal.returns-clause-whole
returns-clause-whole g c = λ none.
    let file = g.P.Inputs.file c.args.inputs.now in
    let missing = g.P.Inputs.is_missing c.args.inputs.now in
    let path = c.args.path in
    let folder : c.as_str-folder.result.now ≡ folder_at c.args.root.now path = c.as_str-folder.ensures.value ∙ c.in_ok-folder.ensures in
    let name = file_in (folder_at c.args.root.now path) (file_word files.Procs) in
    let read : IsReadOf file missing name (option_map string_bytes c.in_ok-pids.field-0) =
    subst (λ f. IsReadOf file missing (file_in f (file_word files.Procs)) (option_map string_bytes c.in_ok-pids.field-0)) folder c.in_ok-pids.ensures in
    let some : option_map string_bytes c.in_ok-pids.field-0 ≡ Some c.as_str.result.now = ap (option_map string_bytes) c.in-Some-2.is ∙ ap Some (sym c.as_str.ensures.value) in
    let taken = c.in_ok-take_below.ensures.kept none in
    all_taken file missing c.args.root.now c.args.self.now.tree c.take_processes.new.self.tree c.set_group.new.self path c.as_str.result.now c.in_ok-settings.settings
    (c.requires.whole (c.in_ok-settings.ensures.kept (c.in_ok-take_processes.ensures.kept taken)))
    (subst (λ t. PutsProcesses path (ListsPid c.as_str.result.now) t c.take_processes.new.self.tree) c.in_ok-settings.ensures.tree c.in_ok-take_processes.ensures.puts)
    (put_in c.set_group.new.self c.take_below.new.self.tree c.take_processes.new.self.tree path c.in_ok-compact.compact c.in_ok-settings.settings c.in_ok-set_group.ensures.ok c.in_ok-compact.ensures.value c.in_ok-take_below.ensures.tree)
    (known file missing name _ c.as_str.result.now read some)
    (subst (λ f. IsSaid file missing (file_in f (file_word files.SubtreeControl)) SpellsNamed no_controllers c.in_ok-settings.settings.control) folder (c.in_ok-settings.ensures.whole (c.in_ok-take_processes.ensures.kept taken)))
    (c.in_ok-take_processes.ensures.all (inr taken))
