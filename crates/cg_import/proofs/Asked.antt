-- CPUs that are asked for by a list, and those that are online then.
use Rattle.std.proofs.Common.{◌≡◌, ℕ, Bool, List, true, false, refl, subst, sym, rules, arith}
use Rattle.std.specs.Prelude.{Option, Some, None, IfSome, MatchOption, is_some}
use Rattle.std.specs.Io.KnownBytes.{Appends}
use Rattle.cg_cpus.specs.CpuList.{SpellsCpus}
use Rattle.cg_lines.specs.Device.{AppendsFront}
use Rattle.cg_maps.specs.FiniteSet.{FiniteSet}
use Rattle.cg_model.specs.Sound.{Sound}
use Rattle.cg_model.specs.Tree.{Tree}
use Rattle.cg_world_text.specs.World.{world_text}
use Rattle.cg_program.specs.Status.{code_of}
use Rattle.cg_program.specs.declared.status.Status.{Status}
use Rattle.cg_program.specs.declared.status.Status.TheVariants.{Done, Refused, Failed}
use Rattle.cg_import.specs.Files.{Known, Missing}
use Rattle.cg_import.specs.Imported.{IsWorldOf, MayLeaveOut}
use Rattle.cg_import.specs.Mounted.{AreOnline, IsMountedAt, IsWhole}

false-is-no-true : false ≡ true → ⊥
false-is-no-true e = search (rules, e)

-- the list that is asked for, if any, spells those that are online
pub asked_are_online : {A : Type 0} (asked : Option A) (text : A → List ℕ) (online : Option FiniteSet) (cpus : FiniteSet) (Else : Type 0) → IfSome asked (λ l. IfSome online (λ s. SpellsCpus (text l) s)) → is_some online ≡ is_some asked → MatchOption online Else (λ s. cpus ≡ s) → MatchOption asked Else (λ l. SpellsCpus (text l) cpus)
asked_are_online None text None cpus Else h e q = q
asked_are_online None text (Some s) cpus Else h e q = absurd (false-is-no-true (sym e))
asked_are_online (Some l) text (Some s) cpus Else h e q = subst (λ x. SpellsCpus (text l) x) (sym q) h
asked_are_online (Some l) text None cpus Else h e q = absurd (false-is-no-true e)

module _ (file : Known) (missing : Missing) (root : List ℕ) where
  -- a whole text that was written is that of such a world
  pub written : {A : Type 0} (asked : Option A) (text : A → List ℕ) (online : Option FiniteSet) (bytes lines : List ℕ) (strict : Bool) (old new : Option (List ℕ)) → IsWorldOf file missing root online bytes lines → IfSome asked (λ l. IfSome online (λ s. SpellsCpus (text l) s)) → is_some online ≡ is_some asked → Appends old new bytes → MayLeaveOut strict lines
      → (T : Tree) × Sound T × MatchOption asked (AreOnline file missing root T.online) (λ l. SpellsCpus (text l) T.online) × Appends old new (world_text T) × IsMountedAt file missing root T × (strict ≡ true → IsWhole file missing root T)
  written asked text online bytes lines strict old new w h e a none =
      (w.0, w.1, asked_are_online asked text online w.0.online (AreOnline file missing root w.0.online) h e w.2, subst (λ t. Appends old new t) w.3 a, w.4, λ is. w.5 (none is))

  -- the front of a text that was written is that of such a world's
  pub written_front : (online : Option FiniteSet) (bytes lines : List ℕ) (old new : Option (List ℕ)) → IsWorldOf file missing root online bytes lines → AppendsFront old new bytes → (T : Tree) × Sound T × AppendsFront old new (world_text T)
  written_front online bytes lines old new w a = (w.0, w.1, subst (λ t. AppendsFront old new t) w.3 a)

-- only a run that is done ends with 0
pub done_at_zero : (s : Status) (n : ℕ) → n ≡ code_of s → n ≡ 0 → s ≡ Done
done_at_zero Done n e z = refl
done_at_zero Refused n e z = absurd (omega (arith, e, z))
done_at_zero Failed n e z = absurd (omega (arith, e, z))
