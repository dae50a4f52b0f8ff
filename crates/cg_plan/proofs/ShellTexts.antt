-- What a shell finds in the text of commands.
use Rattle.std.proofs.Common.{◌≡◌, ℕ, List, [], ◌∷◌, ◌++◌, Some, codes, refl, ap, ◌∙◌, append_assoc}
use Rattle.std.specs.Fmt.{decimal}
use Rattle.std.specs.List.{AllByRecursion, flat_map}
use Rattle.std.specs.Option.{option_map}
use Rattle.cg_cpus.specs.CpuList.{cpus_text}
use Rattle.cg_name.specs.Path.{Path}
use Rattle.cg_name.specs.declared.file_name.FileName.{FileName}
use Rattle.cg_name.specs.declared.file_name.FileName.TheVariants as files
use Rattle.cg_text.specs.FileText.{flag_word, limit_word, ops_text}
use Rattle.cg_model.specs.Command.{Command, Create, Remove, Migrate, Subtree, Freeze, Cpus, Show, Online, MaxDescendants, MaxDepth}
use Rattle.cg_command_text.specs.CommandText.{CanAskFor}
use Rattle.cg_world_text.proofs.PlainWords.{plain_fit}
use Rattle.cg_world_text.proofs.WrittenCpus.{cpus_plain}
use Rattle.cg_plan.specs.Shell.{by_hand, call_line, command_tokens, file_in, folder, shell_line, shell_text, write_line, write_tokens}
use Rattle.cg_plan.specs.ShellWord.{Token, Word, Into, End, Between, Comment, Quoted, found_before, found_from, shell_byte, shell_word, tokens_of}
use Rattle.cg_plan.proofs.ShellReading.{bytes_read, comment_read}

-- behind the first quote of the last word of a line
last_read : (name rest : List ℕ) → found_from (Quoted []) (((flat_map shell_byte name ++ 39 ∷ []) ++ 10 ∷ []) ++ rest) ≡ found_before (Word name ∷ End ∷ []) (found_from Between rest)
last_read name rest =
    let together : ((flat_map shell_byte name ++ 39 ∷ []) ++ 10 ∷ []) ++ rest ≡ flat_map shell_byte name ++ 39 ∷ 10 ∷ rest = simp append_assoc in
    ap (found_from (Quoted [])) together ∙ bytes_read name [] (39 ∷ 10 ∷ rest)

-- behind the first quote of a value
value_read : (value name rest : List ℕ) → found_from (Quoted []) ((((flat_map shell_byte value ++ 39 ∷ []) ++ codes " > " ++ shell_word name) ++ 10 ∷ []) ++ rest) ≡ found_before (Word value ∷ Into ∷ Word name ∷ End ∷ []) (found_from Between rest)
value_read value name rest =
    let line : List ℕ = ((flat_map shell_byte name ++ 39 ∷ []) ++ 10 ∷ []) ++ rest in
    let behind : List ℕ = 39 ∷ (codes " > " ++ (39 ∷ line)) in
    let together : (((flat_map shell_byte value ++ 39 ∷ []) ++ codes " > " ++ shell_word name) ++ 10 ∷ []) ++ rest ≡ flat_map shell_byte value ++ behind = simp append_assoc in
    ap (found_from (Quoted [])) together
    ∙ bytes_read value [] behind
    ∙ ap (found_before (Word value ∷ Into ∷ [])) (last_read name rest)

-- a line, and what follows it
write_read : (root : List ℕ) (p : Path) (f : FileName) (value rest : List ℕ) → found_from Between (write_line root p f value ++ rest) ≡ found_before (write_tokens root p f value) (found_from Between rest)
write_read root p f value rest = ap (found_before (Word (codes "printf") ∷ Word (codes "%s\\n") ∷ [])) (value_read value (file_in root p f) rest)

made_read : (name rest : List ℕ) → found_from Between (call_line (codes "mkdir") name ++ rest) ≡ found_before (Word (codes "mkdir") ∷ Word (codes "--") ∷ Word name ∷ End ∷ []) (found_from Between rest)
made_read name rest = ap (found_before (Word (codes "mkdir") ∷ Word (codes "--") ∷ [])) (last_read name rest)

taken_read : (name rest : List ℕ) → found_from Between (call_line (codes "rmdir") name ++ rest) ≡ found_before (Word (codes "rmdir") ∷ Word (codes "--") ∷ Word name ∷ End ∷ []) (found_from Between rest)
taken_read name rest = ap (found_before (Word (codes "rmdir") ∷ Word (codes "--") ∷ [])) (last_read name rest)

shown_read : (name rest : List ℕ) → found_from Between (call_line (codes "cat") name ++ rest) ≡ found_before (Word (codes "cat") ∷ Word (codes "--") ∷ Word name ∷ End ∷ []) (found_from Between rest)
shown_read name rest = ap (found_before (Word (codes "cat") ∷ Word (codes "--") ∷ [])) (last_read name rest)

line_read : (root : List ℕ) (c : Command) (rest : List ℕ) → CanAskFor c → found_from Between (shell_line root c ++ rest) ≡ found_before (command_tokens root c) (found_from Between rest)
line_read root (Create p) rest can = made_read (folder root p) rest
line_read root (Remove p) rest can = taken_read (folder root p) rest
line_read root (Migrate k p) rest can = write_read root p files.Procs (decimal k) rest
line_read root (Subtree p ops) rest can = write_read root p files.SubtreeControl (ops_text ops) rest
line_read root (Freeze p v) rest can = write_read root p files.Freeze (flag_word v) rest
line_read root (Cpus p s) rest can = write_read root p files.Cpus (cpus_text s) rest
line_read root (Show p f) rest can = shown_read (file_in root p f) rest
line_read root (Online s) rest can =
    ap (found_from Comment) (append_assoc (cpus_text s ++ by_hand) (10 ∷ []) rest ∙ append_assoc (cpus_text s) by_hand (10 ∷ rest))
    ∙ comment_read (cpus_text s) (by_hand ++ 10 ∷ rest) (plain_fit (cpus_text s) (cpus_plain s can.0 can.1)).one_line
line_read root (MaxDescendants p l) rest can = write_read root p files.MaxDescendants (limit_word l) rest
line_read root (MaxDepth p l) rest can = write_read root p files.MaxDepth (limit_word l) rest

before_both : (ts vs : List Token) → found_before ts (Some vs) ≡ Some (ts ++ vs)
before_both [] vs = refl
before_both (t ∷ ts) vs = ap (λ found. option_map (λ others. t ∷ others) found) (before_both ts vs)

lines_read : (root : List ℕ) (cs : List Command) → AllByRecursion CanAskFor cs → found_from Between (flat_map (shell_line root) cs) ≡ Some (flat_map (command_tokens root) cs)
lines_read root [] can = refl
lines_read root (c ∷ cs) can =
    line_read root c (flat_map (shell_line root) cs) can.0
    ∙ ap (found_before (command_tokens root c)) (lines_read root cs can.1)
    ∙ before_both (command_tokens root c) (flat_map (command_tokens root) cs)

pub texts_are_read : (root : List ℕ) (cs : List Command) → AllByRecursion CanAskFor cs → tokens_of (shell_text root cs) ≡ Some (End ∷ Word (codes "set") ∷ Word (codes "-e") ∷ End ∷ flat_map (command_tokens root) cs)
texts_are_read root cs can = ap (found_before (End ∷ Word (codes "set") ∷ Word (codes "-e") ∷ End ∷ [])) (lines_read root cs can)
