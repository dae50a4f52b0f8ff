-- What words spell can be asked for.
use Rattle.std.proofs.Common.{List, [], ◌∷◌, arith}
use Rattle.cg_maps.specs.FiniteSet.{FiniteSet}
use Rattle.cg_cpus.specs.CpuList.{SpellsCpus}
use Rattle.cg_digits.specs.WhiteSpace.{trimmed}
use Rattle.cg_cpus.proofs.Grammar.{spelled_below}
use Rattle.cg_model.specs.Command.{Create, Remove, Migrate, Subtree, Freeze, Cpus, Show, Online, MaxDescendants, MaxDepth}
use Rattle.cg_text.specs.Words.{Word}
use Rattle.cg_world.specs.Representable.{AreCpusUpTo}
use Rattle.cg_command_text.specs.CommandText.{SpellsCpuWords}
use Rattle.cg_command_text.specs.Laws.{SpelledCanBeAsked}

list_low : (list : Word) (s : FiniteSet) → SpellsCpus list s → AreCpusUpTo 1023 s
list_low list s h n m = omega (arith, spelled_below (trimmed list) s h n m)

words_low : (ws : List Word) (s : FiniteSet) → SpellsCpuWords ws s → AreCpusUpTo 1023 s
words_low [] s h = list_low [] s h
words_low (w ∷ []) s h = list_low w s h
words_low (w ∷ v ∷ ws) s h = absurd h

pub spelled_can_be_asked : SpelledCanBeAsked
spelled_can_be_asked ws (Create p) h = h.2.0
spelled_can_be_asked ws (Remove p) h = h.2.0
spelled_can_be_asked ws (Migrate k p) h = ((h.3.2, h.3.3), h.4.0)
spelled_can_be_asked ws (Subtree p ops) h = h.3.0
spelled_can_be_asked ws (Freeze p v) h = h.3.0
spelled_can_be_asked ws (Cpus p s) h = (h.3.0, words_low h.1 s h.4)
spelled_can_be_asked ws (Show p f) h = h.2.0
spelled_can_be_asked ws (Online s) h = (list_low h.0 s h.2, h.3)
spelled_can_be_asked ws (MaxDescendants p l) h = h.3.0
spelled_can_be_asked ws (MaxDepth p l) h = h.3.0
