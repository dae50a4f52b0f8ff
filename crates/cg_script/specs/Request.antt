-- The lines of a schedule: which session asks for what.
use Rattle.std.specs.Prelude.{◌≡◌, ℕ, List, [], ◌∷◌, ◌++◌, Option, Some, None, codes, ⊤}
use Rattle.cg_name.specs.SaveName.{IsSaveName}
use Rattle.cg_text.specs.Words.{Word, Says}
use Rattle.cg_model.specs.Cgroups.{cgroups}
use Rattle.cg_model.specs.History.{Request, Begin, Do, Save, Back, Undo, Commit, Abort}
use Rattle.cg_command_text.specs.CommandText.{SpellsCommand, CanAskFor, command_text}

abbrev pub newline : List ℕ
newline = 10 ∷ []

-- the words behind the session's name
abbrev pub SpellsRequest : List Word → Request cgroups → Type 0
SpellsRequest ws Begin = ws ≡ codes "begin" ∷ []
SpellsRequest ws (Do c) = SpellsCommand ws c
SpellsRequest ws (Save n) = (ws ≡ codes "save" ∷ n ∷ []) × IsSaveName n
SpellsRequest ws (Back n) = (ws ≡ codes "back" ∷ n ∷ []) × IsSaveName n
SpellsRequest ws Undo = ws ≡ codes "undo" ∷ []
SpellsRequest ws Commit = ws ≡ codes "commit" ∷ []
SpellsRequest ws Abort = ws ≡ codes "abort" ∷ []

-- a line's words spell a session's request
pub record SpellsCall (ws : List Word) (n : List ℕ) (r : Request cgroups) : Type 0 where
  pub name : IsSaveName n
  pub others : List Word
  pub words : ws ≡ n ∷ others
  pub request : SpellsRequest others r

-- a good line says nothing, or a session's request
abbrev pub SpellsLine : List ℕ → Option (List ℕ × Request cgroups) → Type 0
SpellsLine line None = Says line None
SpellsLine line (Some call) = (ws : List Word) × Says line (Some ws) × SpellsCall ws call.0 call.1

-- what stands behind the session's name
abbrev pub request_text : Request cgroups → List ℕ
request_text Begin = codes "begin"
request_text (Do c) = command_text c
request_text (Save n) = codes "save " ++ n
request_text (Back n) = codes "back " ++ n
request_text Undo = codes "undo"
request_text Commit = codes "commit"
request_text Abort = codes "abort"

-- the line in which a session asks, without its newline
abbrev pub request_line : List ℕ → Request cgroups → List ℕ
request_line n r = n ++ 32 ∷ request_text r

-- a request that can be asked for
abbrev pub CanBeAsked : Request cgroups → Type 0
CanBeAsked (Do c) = CanAskFor c
CanBeAsked (Save n) = IsSaveName n
CanBeAsked (Back n) = IsSaveName n
CanBeAsked _ = ⊤

-- the law of written lines: each spells what it was written for
abbrev pub WrittenLinesAreSpelled : Type 0
WrittenLinesAreSpelled = (n : List ℕ) (r : Request cgroups) → IsSaveName n → CanBeAsked r → SpellsLine (request_line n r) (Some (n, r))

-- the law of lines: each says one thing at most
abbrev pub OneCall : Type 0
OneCall = (line : List ℕ) (c d : Option (List ℕ × Request cgroups)) → SpellsLine line c → SpellsLine line d → c ≡ d
