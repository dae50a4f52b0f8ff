-- The lines of one command more.
use Rattle.std.proofs.Common.{◌≡◌, ℕ, ◌+◌, ◌<◌, List, [], ◌∷◌, ◌++◌, get_or, length, map, take, sym, ap, ◌∙◌, append-nil, append_assoc}
use Rattle.std.proofs.lemmas.Grind.{flat_map-append}
use Rattle.std.proofs.lemmas.List.{map-append, take_more}
use Rattle.std.specs.List.{flat_map}
use Rattle.cg_command.specs.Meaning.{command_of}
use Rattle.cg_command.specs.declared.command.Command as rust
use Rattle.cg_history.specs.Meaning.{request_of}
use Rattle.cg_history.specs.declared.record.Request.{Request}
use Rattle.cg_history.specs.declared.record.Request.TheVariants as requests
use Rattle.cg_model.specs.Command.{Command}
use Rattle.cg_plan.specs.Leads.{asked_for}
use Rattle.cg_plan.specs.Shell.{shell_head, shell_line}

-- one request more is a command too
pub one_more : (rs : List Request) (i : ℕ) (d : Request) (c : rust.Command) (cs : List Command) → i < length rs → get_or rs i d ≡ requests.Do c → map request_of (take i rs) ≡ map asked_for cs → map request_of (take (i + 1) rs) ≡ map asked_for (cs ++ command_of c ∷ [])
one_more rs i d c cs within is before =
    ap (map request_of) (take_more rs i d within ∙ ap (λ r. take i rs ++ r ∷ []) is)
    ∙ map-append request_of (take i rs) (requests.Do c ∷ [])
    ∙ ap (λ asked. asked ++ asked_for (command_of c) ∷ []) before
    ∙ sym (map-append asked_for cs (command_of c ∷ []))

-- and its line stands behind the others
pub line_more : (root before after : List ℕ) (c : Command) (cs : List Command) → after ≡ before ++ shell_line root c → before ≡ shell_head ++ flat_map (shell_line root) cs → after ≡ shell_head ++ flat_map (shell_line root) (cs ++ c ∷ [])
line_more root before after c cs written lines =
    written
    ∙ ap (λ text. text ++ shell_line root c) lines
    ∙ append_assoc shell_head (flat_map (shell_line root) cs) (shell_line root c)
    ∙ ap (λ text. shell_head ++ text) (ap (λ line. flat_map (shell_line root) cs ++ line) (sym (append-nil (shell_line root c))) ∙ sym (flat_map-append (shell_line root) cs (c ∷ [])))
