-- A command's words begin with its keyword, and the keyword tells which of the ten it is.
use Rattle.std.proofs.Common.{◌≡◌, ℕ, ◌==◌, cond, List, [], ◌∷◌, length, get_or, Bool, codes, refl, sym, ap, subst}
use Rattle.cg_maps.specs.FiniteSet.{FiniteSet}
use Rattle.cg_name.specs.Path.{Path}
use Rattle.cg_name.specs.declared.file_name.FileName.{FileName}
use Rattle.cg_text.specs.declared.control_ops.ControlOps.{ControlOps}
use Rattle.cg_text.specs.declared.limit.Limit.{Limit}
use Rattle.cg_text.specs.Words.{Word}
use Rattle.cg_model.specs.Command.{Command, Create, Remove, Migrate, Subtree, Freeze, Cpus, Show, Online, MaxDescendants, MaxDepth}
use Rattle.cg_command_text.specs.CommandText.{SpellsCommand, command_words}

abbrev pub keyword : Command → Word
keyword (Create p) = codes "create"
keyword (Remove p) = codes "remove"
keyword (Migrate k p) = codes "migrate"
keyword (Subtree p ops) = codes "subtree"
keyword (Freeze p v) = codes "freeze"
keyword (Cpus p s) = codes "cpus"
keyword (Show p f) = codes "show"
keyword (Online s) = codes "online"
keyword (MaxDescendants p l) = codes "maxdescendants"
keyword (MaxDepth p l) = codes "maxdepth"

-- which of the ten commands, or none
pub data Kind : Type 0 where
  ACreate ARemove AMigrate ASubtree AFreeze ACpus AShow AnOnline AMaxDescendants AMaxDepth NoCommand : Kind

-- a keyword is told by its length and its fourth letter
abbrev of_four : ℕ → Kind
of_four b = cond (b == 115) ACpus (cond (b == 119) AShow NoCommand)

abbrev of_six : ℕ → Kind
of_six b = cond (b == 97) ACreate (cond (b == 111) ARemove (cond (b == 101) AFreeze (cond (b == 105) AnOnline NoCommand)))

abbrev of_seven : ℕ → Kind
of_seven b = cond (b == 114) AMigrate (cond (b == 116) ASubtree NoCommand)

abbrev told : Word → Kind
told w =
    let n : ℕ = length w in
    let b : ℕ = get_or w 3 0 in
    cond (n == 4) (of_four b) (cond (n == 6) (of_six b) (cond (n == 7) (of_seven b) (cond (n == 8) AMaxDepth (cond (n == 14) AMaxDescendants NoCommand))))

-- the first of some words
abbrev first : List Word → Word
first ws = get_or ws 0 []

-- what a command is of that kind
abbrev Told : Kind → Command → Type 0
Told ACreate c = (p : Path) × (c ≡ Create p)
Told ARemove c = (p : Path) × (c ≡ Remove p)
Told AMigrate c = (k : ℕ) × (p : Path) × (c ≡ Migrate k p)
Told ASubtree c = (p : Path) × (ops : ControlOps) × (c ≡ Subtree p ops)
Told AFreeze c = (p : Path) × (v : Bool) × (c ≡ Freeze p v)
Told ACpus c = (p : Path) × (s : FiniteSet) × (c ≡ Cpus p s)
Told AShow c = (p : Path) × (f : FileName) × (c ≡ Show p f)
Told AnOnline c = (s : FiniteSet) × (c ≡ Online s)
Told AMaxDescendants c = (p : Path) × (l : Limit) × (c ≡ MaxDescendants p l)
Told AMaxDepth c = (p : Path) × (l : Limit) × (c ≡ MaxDepth p l)
Told NoCommand c = ⊥

told_keyword : (c : Command) → Told (told (keyword c)) c
told_keyword (Create p) = (p, refl)
told_keyword (Remove p) = (p, refl)
told_keyword (Migrate k p) = (k, p, refl)
told_keyword (Subtree p ops) = (p, ops, refl)
told_keyword (Freeze p v) = (p, v, refl)
told_keyword (Cpus p s) = (p, s, refl)
told_keyword (Show p f) = (p, f, refl)
told_keyword (Online s) = (s, refl)
told_keyword (MaxDescendants p l) = (p, l, refl)
told_keyword (MaxDepth p l) = (p, l, refl)

first_keyword : (ws : List Word) (c : Command) → SpellsCommand ws c → first ws ≡ keyword c
first_keyword ws (Create p) h = ap first h.1
first_keyword ws (Remove p) h = ap first h.1
first_keyword ws (Migrate k p) h = ap first h.2
first_keyword ws (Subtree p ops) h = ap first h.2
first_keyword ws (Freeze p v) h = ap first h.2
first_keyword ws (Cpus p s) h = ap first h.2
first_keyword ws (Show p f) h = ap first h.1
first_keyword ws (Online s) h = ap first h.1
first_keyword ws (MaxDescendants p l) h = ap first h.2
first_keyword ws (MaxDepth p l) h = ap first h.2

-- what the command is that these words spell
pub which : (ws vs : List Word) (c : Command) → ws ≡ vs → SpellsCommand ws c → Told (told (first vs)) c
which ws vs c e h = subst (λ us. Told (told (first us)) c) e (subst (λ w. Told (told w) c) (sym (first_keyword ws c h)) (told_keyword c))

-- the words that are written for a command begin with its keyword
pub written_keyword : (c : Command) → (others : List Word) × (command_words c ≡ keyword c ∷ others)
written_keyword (Create p) = (_, refl)
written_keyword (Remove p) = (_, refl)
written_keyword (Migrate k p) = (_, refl)
written_keyword (Subtree p ops) = (_, refl)
written_keyword (Freeze p v) = (_, refl)
written_keyword (Cpus p s) = (_, refl)
written_keyword (Show p f) = (_, refl)
written_keyword (Online s) = (_, refl)
written_keyword (MaxDescendants p l) = (_, refl)
written_keyword (MaxDepth p l) = (_, refl)
