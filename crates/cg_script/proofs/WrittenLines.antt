-- A line that is written spells what it was written for.
use Rattle.std.proofs.Common.{◌≡◌, ℕ, ◌<◌, ◌≤◌, true, List, [], ◌∷◌, ◌++◌, length, Some, codes, refl, sym, ap, subst, arith, length-append}
use Rattle.std.specs.List.{AllByRecursion, list_all}
use Rattle.cg_name.specs.SaveName.{IsSaveName}
use Rattle.cg_name.specs.Word.{FitsLine, is_plain_byte}
use Rattle.cg_name.proofs.Written.{plain_fits}
use Rattle.cg_text.specs.Words.{Word, IsWrittenLine, line_of}
use Rattle.cg_text.proofs.WrittenLines.{says_line}
use Rattle.cg_model.specs.Command.{Command}
use Rattle.cg_model.specs.Cgroups.{cgroups}
use Rattle.cg_model.specs.History.{Request, Begin, Do, Save, Back, Undo, Commit, Abort}
use Rattle.cg_command_text.specs.CommandText.{SpellsCommand, CanAskFor}
use Rattle.cg_command_text.proofs.Keywords.{keyword, written_keyword}
use Rattle.cg_command_text.proofs.WrittenCommands.{written_commands_are_spelled}
use Rattle.cg_script.specs.Request.{SpellsRequest, SpellsLine, request_text, request_line, CanBeAsked, WrittenLinesAreSpelled}
use Rattle.cg_script.proofs.SessionNames.{save_name_fits, save_name_says}

-- words that a request's text joins and that spell it
pub record Written (r : Request cgroups) : Type 0 where
  pub first : Word
  pub more : List Word
  pub joined : line_of (first ∷ more) ≡ request_text r
  pub fit : AllByRecursion FitsLine (first ∷ more)
  pub short : length (request_text r) ≤ 65519
  pub request : SpellsRequest (first ∷ more) r

alone : (w : Word) → 0 < length w → list_all is_plain_byte w ≡ true → AllByRecursion FitsLine (w ∷ [])
alone w some plain = (plain_fits w some plain, tt)

command_written : (c : Command) → CanAskFor c → Written (Do c)
command_written c h =
    let w = written_commands_are_spelled c h in
    let k = written_keyword c in record {
      first = keyword c;
      more = k.0;
      joined = ap line_of (sym k.1);
      fit = subst (AllByRecursion FitsLine) k.1 w.fit;
      short = w.short;
      request = subst (λ ws. SpellsCommand ws c) k.1 w.spelled;
    }

-- a word and the name of a savepoint
named_written : (w : Word) (n : List ℕ) (r : Request cgroups) → IsSaveName n → 0 < length w → list_all is_plain_byte w ≡ true → length w ≤ 4 → line_of (w ∷ n ∷ []) ≡ request_text r → SpellsRequest (w ∷ n ∷ []) r → Written r
named_written w n r h some plain four joined request = record {
  first = w;
  more = n ∷ [];
  joined = joined;
  fit = (plain_fits w some plain, (save_name_fits n h, tt));
  short = subst (λ (l : List ℕ). length l ≤ 65519) joined (omega (arith, h.short, four, length-append w (32 ∷ n)));
  request = request;
}

pub request_written : (r : Request cgroups) → CanBeAsked r → Written r
request_written Begin h = record { first = codes "begin"; more = []; joined = refl; fit = alone (codes "begin") (omega arith) refl; short = omega arith; request = refl }
request_written (Do c) h = command_written c h
request_written (Save n) h = named_written (codes "save") n (Save n) h (omega arith) refl (omega arith) refl (refl, h)
request_written (Back n) h = named_written (codes "back") n (Back n) h (omega arith) refl (omega arith) refl (refl, h)
request_written Undo h = record { first = codes "undo"; more = []; joined = refl; fit = alone (codes "undo") (omega arith) refl; short = omega arith; request = refl }
request_written Commit h = record { first = codes "commit"; more = []; joined = refl; fit = alone (codes "commit") (omega arith) refl; short = omega arith; request = refl }
request_written Abort h = record { first = codes "abort"; more = []; joined = refl; fit = alone (codes "abort") (omega arith) refl; short = omega arith; request = refl }

line_spelled : (n : List ℕ) (r : Request cgroups) → IsSaveName n → Written r → SpellsLine (request_line n r) (Some (n, r))
line_spelled n r h w =
    let ws : List Word = n ∷ w.first ∷ w.more in
    let whole : line_of ws ≡ request_line n r = ap (λ t. n ++ 32 ∷ t) w.joined in
    let short : length (request_line n r) ≤ 65536 = omega (arith, length-append n (32 ∷ request_text r), h.short, w.short) in
    let good : IsWrittenLine ws = record {
      words = (save_name_fits n h, w.fit);
      says = save_name_says n (32 ∷ line_of (w.first ∷ w.more)) h;
      short = subst (λ (l : List ℕ). length l ≤ 65536) (sym whole) short;
    } in
    subst (λ l. SpellsLine l (Some (n, r))) whole
    (ws, says_line ws good, record { name = h; others = w.first ∷ w.more; words = refl; request = w.request })

pub written_lines_are_spelled : WrittenLinesAreSpelled
written_lines_are_spelled n r h k = line_spelled n r h (request_written r k)
