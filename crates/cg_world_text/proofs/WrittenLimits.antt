-- The words that are written for limits.
use Rattle.std.proofs.Common.{◌≤◌, inl, length, refl, sym, subst, arith}
use Rattle.std.specs.List.{AllByRecursion}
use Rattle.std.proofs.lemmas.Fmt.{decimal_is_IsNumeral, length-decimal-le}
use Rattle.cg_text.specs.FileText.{limit_word}
use Rattle.cg_text.specs.Reading.{SpellsLimitTrimmed, SpellsLimit}
use Rattle.cg_text.specs.declared.limit.Limit.{Limit}
use Rattle.cg_text.specs.declared.limit.Limit.TheVariants.{Max, UpTo}
use Rattle.cg_text.specs.declared.settings.Settings.{Settings}
use Rattle.cg_world_text.specs.declared.version.Version.{Version}
use Rattle.cg_world_text.specs.declared.version.Version.TheVariants.{One, Two}
use Rattle.cg_world_text.proofs.PlainWords.{IsPlainWord, decimal_plain, nothing_trimmed}
use Rattle.cg_world_text.proofs.WrittenWords.{limit_words}

pub limit_plain : (l : Limit) → IsPlainWord (limit_word l)
limit_plain Max = record { some = omega arith; plain = refl }
limit_plain (UpTo most) = decimal_plain most.number (omega (arith, most.in_range))

pub limit_short : (l : Limit) → length (limit_word l) ≤ 10
limit_short Max = omega arith
limit_short (UpTo most) = length-decimal-le 10 most.number (omega arith) (omega (arith, most.in_range)) (omega (arith, most.in_range))

pub limits_plain : (v : Version) (s : Settings) → AllByRecursion IsPlainWord (limit_words v s)
limits_plain One s = tt
limits_plain Two s = (limit_plain s.max_descendants, (limit_plain s.max_depth, tt))

-- what is written for a limit spells it
spells_trimmed : (l : Limit) → SpellsLimitTrimmed (limit_word l) l
spells_trimmed Max = inl refl
spells_trimmed (UpTo most) = decimal_is_IsNumeral most.number (omega (arith, most.in_range))

pub spells_limit : (l : Limit) → SpellsLimit (limit_word l) l
spells_limit l = subst (λ t. SpellsLimitTrimmed t l) (sym (nothing_trimmed (limit_word l) (limit_plain l))) (spells_trimmed l)
