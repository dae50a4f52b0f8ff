-- The laws of the text format, for contracts to cite.
use Rattle.std.specs.Prelude.{◌≡◌, ℕ, ◌<◌, IsTrue, List}
use Rattle.cg_maps.specs.FiniteSet.{FiniteSet, has}
use Rattle.cg_cpus.specs.CpuList.{SpellsCpus, cpus_text}

-- a text spells at most one set
abbrev pub OneSet : Type 0
OneSet = (text : List ℕ) (s t : FiniteSet) → SpellsCpus text s → SpellsCpus text t → s ≡ t

-- the canonical text of a set of numbers below 1,024 spells the set
abbrev pub CanonicalSpells : Type 0
CanonicalSpells = (s : FiniteSet) → ((n : ℕ) → IsTrue (has s n) → n < 1024) → SpellsCpus (cpus_text s) s
