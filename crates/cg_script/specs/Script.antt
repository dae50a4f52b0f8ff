-- Scripts: what one transaction asks for, and how a text spells it.
use Rattle.std.specs.Prelude.{◌≡◌, ◌⊎◌, ℕ, ◌≤◌, Bool, if◌then◌else◌, List, [], ◌∷◌, ◌++◌, length, Some, None, ⊤}
use Rattle.std.specs.List.{AllByRecursion, AllByRecursion-prop}
use Rattle.std.specs.Coded.{Unit-prop}
use Rattle.cg_text.specs.Words.{Line, Word, Says, lines_of}
use Rattle.cg_model.specs.Cgroups.{cgroups}
use Rattle.cg_model.specs.History.{Request, Begin, Do, Save, Back, Undo, Commit, Abort}
use Rattle.cg_history.specs.Meaning.{request_of}
use Rattle.cg_history.specs.declared.record.Request as code
use Rattle.cg_script.specs.Request.{SpellsRequest, CanBeAsked}

-- what a script may ask for: it begins by itself, and what ends it stands beside its requests
abbrev pub IsScriptRequest : Request cgroups → Type 0
IsScriptRequest Begin = ⊥
IsScriptRequest (Do c) = ⊤
IsScriptRequest (Save n) = ⊤
IsScriptRequest (Back n) = ⊤
IsScriptRequest Undo = ⊤
IsScriptRequest Commit = ⊥
IsScriptRequest Abort = ⊥

-- the requests of the code all are such
abbrev pub AreScriptRequests : List code.Request → Type 0
AreScriptRequests rs = AllByRecursion (λ r. IsScriptRequest (request_of r)) rs

IsScriptRequest-prop : (r : Request cgroups) → IsProp (IsScriptRequest r)
IsScriptRequest-prop Begin = λ x y. absurd x
IsScriptRequest-prop (Do c) = Unit-prop
IsScriptRequest-prop (Save n) = Unit-prop
IsScriptRequest-prop (Back n) = Unit-prop
IsScriptRequest-prop Undo = Unit-prop
IsScriptRequest-prop Commit = λ x y. absurd x
IsScriptRequest-prop Abort = λ x y. absurd x

pub AreScriptRequests-prop : (rs : List code.Request) → IsProp (AreScriptRequests rs)
AreScriptRequests-prop rs = AllByRecursion-prop (λ r. IsScriptRequest (request_of r)) (λ r. IsScriptRequest-prop (request_of r)) rs

-- the line says a request, without the name of a session
abbrev pub SaysRequest : Line → Request cgroups → Type 0
SaysRequest line r = (ws : List Word) × Says line (Some ws) × SpellsRequest ws r

-- the lines say these, one after another; some may say nothing
abbrev pub SayRequests : List Line → List (Request cgroups) → Type 0
SayRequests [] rs = rs ≡ []
SayRequests (line ∷ lines) rs =
    (Says line None × SayRequests lines rs)
    ⊎ ((r : Request cgroups) × (others : List (Request cgroups)) × SaysRequest line r × (rs ≡ r ∷ others) × SayRequests lines others)

-- what ends a script in its text: a last line may say `abort`
abbrev pub last_request : Bool → List (Request cgroups)
last_request aborts = if aborts then Abort ∷ [] else []

-- a text of at most 16 MiB spells the script of these requests, at most 65,536, that aborts or commits behind them
pub record SpellsScript (text : List ℕ) (requests : List (Request cgroups)) (aborts : Bool) : Type 0 where
  pub short : length text ≤ 16777216
  pub few : length requests ≤ 65536
  pub own : AllByRecursion IsScriptRequest requests
  pub lines : SayRequests (lines_of text) (requests ++ last_request aborts)

-- the law of scripts: a text spells one at most
abbrev pub OneScript : Type 0
OneScript =
    (text : List ℕ) (rs qs : List (Request cgroups)) (a b : Bool) → SpellsScript text rs a → SpellsScript text qs b → (rs ≡ qs) × (a ≡ b)

-- the law of what a script asks for: that can be asked for
abbrev pub ScriptsCanBeAsked : Type 0
ScriptsCanBeAsked = (text : List ℕ) (rs : List (Request cgroups)) (a : Bool) → SpellsScript text rs a → AllByRecursion CanBeAsked rs
