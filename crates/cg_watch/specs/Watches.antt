-- Watched files, and the lines that tell what was seen of them.
use Rattle.std.specs.Prelude.{◌≡◌, ℕ, List, [], ◌∷◌, ◌++◌, codes, Option, Result, Ok, Err}
use Rattle.std.specs.Fmt.{decimal}
use Rattle.std.specs.Io.KnownBytes.{Appends}
use Rattle.std.specs.List.{flat_map}
use Rattle.cg_name.specs.FileName.{file_word}
use Rattle.cg_name.specs.Path.{Path, SpellsPath, path_word}
use Rattle.cg_name.specs.declared.file_name.FileName.{FileName}
use Rattle.cg_name.specs.declared.refusal.Refusal.{Refusal}
use Rattle.cg_model.specs.History.{Answer, Gave, Refused}
use Rattle.cg_model.specs.System.{Text}
use Rattle.cg_lines.specs.Device.{AppendsFront}
use Rattle.cg_script.specs.Answer.{answer_text}
use Rattle.cg_view.specs.Operations.{commits_in, StartsWith}
use Rattle.cg_view.specs.Views.{newcomer, IsFileOf}
use Rattle.cg_view.specs.declared.rule.View.{View}
use Rattle.cg_watch.specs.declared.watch.Watch.{Watch}

-- the word names this file of the group at this path: the path, a colon, and the file
abbrev pub NamesFile : List ℕ → Path → FileName → Type 0
NamesFile word p f = (path : List ℕ) × (word ≡ path ++ 58 ∷ file_word f) × SpellsPath path p

-- the word names no file of a group
abbrev pub NamesNone : List ℕ → Type 0
NamesNone word = (p : Path) (f : FileName) → ¬ (NamesFile word p f)

-- what is found is told as the answer to a request for the file
abbrev pub answer_with : Result (List ℕ) Refusal → Answer
answer_with (Ok text) = Gave (Text text)
answer_with (Err e) = Refused e

-- the line of this value, which was seen behind so many commits
abbrev pub watch_line : Path → FileName → ℕ → List ℕ → List ℕ
watch_line p f commits value =
    codes "watch " ++ path_word p ++ codes ":" ++ file_word f ++ codes " commits " ++ decimal commits ++ codes ": " ++ value ++ 10 ∷ []

-- what is seen begins with what was seen before, on the same opening world, if one was seen
pub record IsLater (now before : View) : Type 0 where
  pub opening : StartsWith now.opening before.opening
  pub seen : StartsWith now.seen before.seen

-- the answer tells what was seen of the file in the tree that was seen: its text, or why there is none
pub record Sees (v : View) (p : Path) (f : FileName) (answer : Answer) : Type 0 where
  pub found : Result (List ℕ) Refusal
  pub seen : IsFileOf v p f found
  pub answer_is : answer ≡ answer_with found

-- a line tells what was seen of the file, as that answer, and of how many commits what was seen is
pub record TellsOf (v : View) (p : Path) (f : FileName) (line : List ℕ) : Type 0 where
  pub answer : Answer
  pub seen : Sees v p f answer
  pub line_is : line ≡ watch_line p f (commits_in v.seen) (answer_text answer)

-- lines of what a Viewer saw, each of no less than the one before: first it had seen this, and at last that
abbrev pub Tells : Path → FileName → View → List (List ℕ) → View → Type 0
Tells p f before [] after = IsLater after before
Tells p f before (line ∷ lines) after = (now : View) × IsLater now before × TellsOf now p f line × Tells p f now lines after

-- lines, one behind the other
abbrev pub lines_text : List (List ℕ) → List ℕ
lines_text lines = flat_map (λ line. line) lines

-- such lines were written, all of them whole
pub record TellsWhole (p : Path) (f : FileName) (before after : View) (old new : Option (List ℕ)) : Type 0 where
  pub lines : List (List ℕ)
  pub each : Tells p f before lines after
  pub written : Appends old new (lines_text lines)

-- or the front of them, where a write failed
pub record TellsFront (p : Path) (f : FileName) (before : View) (old new : Option (List ℕ)) : Type 0 where
  pub lines : List (List ℕ)
  pub after : View
  pub each : Tells p f before lines after
  pub written : AppendsFront old new (lines_text lines)

-- it is the same watch, whose sink got such lines of a Viewer that had seen this
pub record HasToldSince {S : Type 0} (taken : S → Option (List ℕ)) (before : View) (old new : Watch S) : Type 0 where
  pub path : new.path ≡ old.path
  pub file : new.file ≡ old.file
  pub told : TellsFront old.path old.file before (taken old.sink) (taken new.sink)

-- the same, each of the lines is whole, and the Viewer has seen that at last
pub record HasToldWhole {S : Type 0} (taken : S → Option (List ℕ)) (before after : View) (old new : Watch S) : Type 0 where
  pub path : new.path ≡ old.path
  pub file : new.file ≡ old.file
  pub told : TellsWhole old.path old.file before after (taken old.sink) (taken new.sink)

-- it is the same watch, whose sink got such lines of one Viewer
abbrev pub HasTold : {S : Type 0} → (S → Option (List ℕ)) → Watch S → Watch S → Type 0
HasTold taken old new = HasToldSince taken newcomer old new
