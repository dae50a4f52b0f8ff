-- The words that are written for a command spell it, and fit into a line.
use Rattle.std.proofs.Common.{◌≡◌, ℕ, ◌*◌, ◌≤◌, Bool, true, false, cond, ◌||◌, List, [], ◌∷◌, ◌++◌, length, map, filter, codes, refl, sym, ap, subst, arith, length-append}
use Rattle.std.specs.Fmt.{decimal}
use Rattle.std.specs.List.{AllByRecursion}
use Rattle.std.proofs.lemmas.Fmt.{length-decimal-le}
use Rattle.cg_maps.specs.FiniteSet.{FiniteSet, is_empty_set}
use Rattle.cg_maps.proofs.Sets.{empty_set-is}
use Rattle.cg_name.specs.Controller.{controller_word}
use Rattle.cg_name.specs.FileName.{file_word}
use Rattle.cg_name.specs.Path.{Path, IsPath, path_word}
use Rattle.cg_name.specs.Word.{FitsLine}
use Rattle.cg_name.specs.declared.controller.Controller.{Controller}
use Rattle.cg_name.specs.declared.file_name.FileName.{FileName}
use Rattle.cg_name.specs.declared.file_name.FileName.TheVariants as files
use Rattle.cg_name.proofs.WrittenPaths.{spelled as path_spelled, path_fits}
use Rattle.cg_cpus.specs.CpuList.{cpus_text}
use Rattle.cg_cpus.proofs.Canonical.{canonical_spells}
use Rattle.cg_text.specs.Controllers.{has, all_controllers}
use Rattle.cg_text.specs.FileText.{flag_word, limit_word, op_words}
use Rattle.cg_text.specs.Words.{Word, line_of}
use Rattle.cg_text.specs.declared.control_ops.ControlOps.{ControlOps}
use Rattle.cg_text.proofs.Canonical.{words_spelled}
use Rattle.cg_model.specs.Command.{Command, Create, Remove, Migrate, Subtree, Freeze, Cpus, Show, Online, MaxDescendants, MaxDepth}
use Rattle.cg_world.specs.Representable.{AreCpusUpTo, IsPid}
use Rattle.cg_world_text.proofs.PlainWords.{IsPlainWord, plain_fit, decimal_plain}
use Rattle.cg_world_text.proofs.RoundTrip.{spells_flag, spells_pid, filter_few, word_short, flag_short}
use Rattle.cg_world_text.proofs.WrittenCpus.{cpus_short, cpus_plain}
use Rattle.cg_world_text.proofs.WrittenLimits.{limit_plain, limit_short, spells_limit}
use Rattle.cg_world_text.proofs.WrittenWords.{word_plain, flag_plain}
use Rattle.cg_command_text.specs.CommandText.{SpellsCommand, SpellsCpuWords, command_words, cpu_words}
use Rattle.cg_command_text.specs.Laws.{IsWritten, WrittenCommandsAreSpelled}
use Rattle.cg_command_text.specs.Spaced.{spaced}
use Rattle.cg_command_text.proofs.Appending.{spaced_line}

-- ---- the words behind a path

-- words that may stand behind a keyword and a path
record Behind (ws : List Word) : Type 0 where
  fit : AllByRecursion FitsLine ws
  short : length (spaced ws) ≤ 10241

none_behind : Behind []
none_behind = record { fit = tt; short = omega arith }

one_behind : (w : Word) → IsPlainWord w → length w ≤ 10240 → Behind (w ∷ [])
one_behind w plain short = record { fit = (plain_fit w plain, tt); short = omega (arith, length-append w []) }

op_plain : (enables : Bool) (c : Controller) → IsPlainWord (cond enables 43 45 ∷ controller_word c)
op_plain true c = record { some = omega arith; plain = (word_plain c).plain }
op_plain false c = record { some = omega arith; plain = (word_plain c).plain }

module _ (ops : ControlOps) where
  abbrev op : Controller → Word
  op c = cond (has ops.plus c) 43 45 ∷ controller_word c

  ops_fit : (cs : List Controller) → AllByRecursion FitsLine (map op cs)
  ops_fit [] = tt
  ops_fit (c ∷ cs) = (plain_fit (op c) (op_plain (has ops.plus c) c), ops_fit cs)

  ops_short : (cs : List Controller) → length (spaced (map op cs)) ≤ 9 * length cs
  ops_short [] = omega arith
  ops_short (c ∷ cs) = omega (arith, word_short c, ops_short cs, length-append (controller_word c) (spaced (map op cs)))

  ops_behind : Behind (op_words ops)
  ops_behind =
      let named : List Controller = filter (λ c. has ops.plus c || has ops.minus c) all_controllers in
      let few : length named ≤ 8 = filter_few (λ c. has ops.plus c || has ops.minus c) all_controllers in
      record { fit = ops_fit named; short = omega (arith, few, ops_short named) }

cpus_behind : (s : FiniteSet) → AreCpusUpTo 1023 s → Behind (cpu_words s)
cpus_behind s low = elim (is_empty_set s) as (λ b. is_empty_set s ≡ b → Behind (cond b [] (cpus_text s ∷ []))) [
  | true ↦ λ e. none_behind
  | false ↦ λ e. one_behind (cpus_text s) (cpus_plain s low e) (cpus_short s low)
] refl

file_plain : (f : FileName) → IsPlainWord (file_word f)
file_plain files.Procs = record { some = omega arith; plain = refl }
file_plain files.Controllers = record { some = omega arith; plain = refl }
file_plain files.SubtreeControl = record { some = omega arith; plain = refl }
file_plain files.Events = record { some = omega arith; plain = refl }
file_plain files.Freeze = record { some = omega arith; plain = refl }
file_plain files.Cpus = record { some = omega arith; plain = refl }
file_plain files.EffectiveCpus = record { some = omega arith; plain = refl }
file_plain files.MaxDescendants = record { some = omega arith; plain = refl }
file_plain files.MaxDepth = record { some = omega arith; plain = refl }

file_short : (f : FileName) → length (file_word f) ≤ 22
file_short files.Procs = omega arith
file_short files.Controllers = omega arith
file_short files.SubtreeControl = omega arith
file_short files.Events = omega arith
file_short files.Freeze = omega arith
file_short files.Cpus = omega arith
file_short files.EffectiveCpus = omega arith
file_short files.MaxDescendants = omega arith
file_short files.MaxDepth = omega arith

-- ---- whole commands

short_line : (k w : Word) (ws : List Word) → length k ≤ 14 → length w ≤ 32770 → Behind ws → length (line_of (k ∷ w ∷ ws)) ≤ 65519
short_line k w ws lk lw h =
    subst (λ t. length (k ++ 32 ∷ t) ≤ 65519) (sym (spaced_line w ws))
    (omega (arith, lk, lw, h.short, length-append k (32 ∷ (w ++ spaced ws)), length-append w (spaced ws)))

-- a keyword, a path and what stands behind them
at_path : (c : Command) (k : Word) (p : Path) (ws : List Word) → command_words c ≡ k ∷ path_word p ∷ ws → SpellsCommand (k ∷ path_word p ∷ ws) c → IsPlainWord k → length k ≤ 14 → IsPath p → Behind ws → IsWritten c
at_path c k p ws e spelled plain short h behind =
    let path = path_fits p h in record {
      spelled = subst (λ vs. SpellsCommand vs c) (sym e) spelled;
      fit = subst (AllByRecursion FitsLine) (sym e) (plain_fit k plain, (path.0, behind.fit));
      short = subst (λ vs. length (line_of vs) ≤ 65519) (sym e) (short_line k (path_word p) ws short path.1 behind);
    }

spells_cpus : (s : FiniteSet) → AreCpusUpTo 1023 s → SpellsCpuWords (cpu_words s) s
spells_cpus s low = elim (is_empty_set s) as (λ b. is_empty_set s ≡ b → SpellsCpuWords (cond b [] (cpus_text s ∷ [])) s) [
  | true ↦ λ e. empty_set-is s e
  | false ↦ λ e. canonical_spells s (λ n k. omega (arith, low n k))
] refl

migrate_written : (k : ℕ) (p : Path) → IsPid k → IsPath p → IsWritten (Migrate k p)
migrate_written k p pid h =
    let path = path_fits p h in
    let plain = decimal_plain k (omega (arith, pid.1)) in
    let short : length (decimal k) ≤ 7 = length-decimal-le 7 k (omega arith) (omega (arith, pid.1)) (omega (arith, pid.1)) in record {
      spelled = (decimal k, path_word p, refl, spells_pid k pid.0 pid.1, path_spelled p h);
      fit = (plain_fit (codes "migrate") (record { some = omega arith; plain = refl }), (plain_fit (decimal k) plain, (path.0, tt)));
      short = omega (arith, short, path.1, length-append (decimal k) (32 ∷ path_word p));
    }

online_written : (s : FiniteSet) → AreCpusUpTo 1023 s → is_empty_set s ≡ false → IsWritten (Online s)
online_written s low some =
    let words : cpu_words s ≡ cpus_text s ∷ [] = ap (λ b. cond b [] (cpus_text s ∷ [])) some in record {
      spelled = (cpus_text s, ap (λ ws. codes "online" ∷ ws) words, canonical_spells s (λ n k. omega (arith, low n k)), some);
      fit = (plain_fit (codes "online") (record { some = omega arith; plain = refl }), (cpus_behind s low).fit);
      short = subst (λ (l : List ℕ). length l ≤ 65519) (sym (spaced_line (codes "online") (cpu_words s))) (omega (arith, (cpus_behind s low).short));
    }

pub written_commands_are_spelled : WrittenCommandsAreSpelled
written_commands_are_spelled (Create p) h = at_path (Create p) (codes "create") p [] refl (path_word p, refl, path_spelled p h) (record { some = omega arith; plain = refl }) (omega arith) h none_behind
written_commands_are_spelled (Remove p) h = at_path (Remove p) (codes "remove") p [] refl (path_word p, refl, path_spelled p h) (record { some = omega arith; plain = refl }) (omega arith) h none_behind
written_commands_are_spelled (Migrate k p) h = migrate_written k p h.0 h.1
written_commands_are_spelled (Subtree p ops) h =
    at_path (Subtree p ops) (codes "subtree") p (op_words ops) refl (path_word p, op_words ops, refl, path_spelled p h, words_spelled ops) (record { some = omega arith; plain = refl }) (omega arith) h (ops_behind ops)
written_commands_are_spelled (Freeze p v) h =
    at_path (Freeze p v) (codes "freeze") p (flag_word v ∷ []) refl (path_word p, flag_word v, refl, path_spelled p h, spells_flag v) (record { some = omega arith; plain = refl }) (omega arith) h (one_behind (flag_word v) (flag_plain v) (omega (arith, flag_short v)))
written_commands_are_spelled (Cpus p s) h =
    at_path (Cpus p s) (codes "cpus") p (cpu_words s) refl (path_word p, cpu_words s, refl, path_spelled p h.0, spells_cpus s h.1) (record { some = omega arith; plain = refl }) (omega arith) h.0 (cpus_behind s h.1)
written_commands_are_spelled (Show p f) h =
    at_path (Show p f) (codes "show") p (file_word f ∷ []) refl (path_word p, refl, path_spelled p h) (record { some = omega arith; plain = refl }) (omega arith) h (one_behind (file_word f) (file_plain f) (omega (arith, file_short f)))
written_commands_are_spelled (Online s) h = online_written s h.0 h.1
written_commands_are_spelled (MaxDescendants p l) h =
    at_path (MaxDescendants p l) (codes "maxdescendants") p (limit_word l ∷ []) refl (path_word p, limit_word l, refl, path_spelled p h, spells_limit l) (record { some = omega arith; plain = refl }) (omega arith) h (one_behind (limit_word l) (limit_plain l) (omega (arith, limit_short l)))
written_commands_are_spelled (MaxDepth p l) h =
    at_path (MaxDepth p l) (codes "maxdepth") p (limit_word l ∷ []) refl (path_word p, limit_word l, refl, path_spelled p h, spells_limit l) (record { some = omega arith; plain = refl }) (omega arith) h (one_behind (limit_word l) (limit_plain l) (omega (arith, limit_short l)))
