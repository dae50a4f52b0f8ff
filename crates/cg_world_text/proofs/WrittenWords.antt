-- The text that is written for a world, as lines of words.
use Rattle.std.proofs.Common.{◌≡◌, ℕ, Bool, true, false, List, [], ◌∷◌, ◌++◌, codes, map, refl, sym, ap, ◌∙◌, append_assoc, arith}
use Rattle.std.specs.Fmt.{decimal}
use Rattle.std.specs.List.{AllByRecursion, flat_map, list_all, join_with_byte}
use Rattle.std.proofs.lemmas.List.Concat.{flat_map-append}
use Rattle.cg_maps.specs.FiniteMap.{entries}
use Rattle.cg_name.specs.Controller.{controller_word}
use Rattle.cg_name.specs.Path.{Path, path_word}
use Rattle.cg_name.specs.Word.{is_plain_byte}
use Rattle.cg_name.specs.declared.controller.Controller.{Controller}
use Rattle.cg_name.specs.declared.controller.Controller.TheVariants.{Cpuset, Cpu, Io, Memory, Hugetlb, Pids, Rdma, Misc}
use Rattle.cg_cpus.specs.CpuList.{cpus_text}
use Rattle.cg_text.specs.Controllers.{members}
use Rattle.cg_text.specs.FileText.{flag_word, limit_word}
use Rattle.cg_text.specs.Words.{Word, line_of, text_of}
use Rattle.cg_text.specs.declared.controllers.Controllers.{Controllers}
use Rattle.cg_text.specs.declared.settings.Settings.{Settings}
use Rattle.cg_model.specs.Tree.{Tree}
use Rattle.cg_world_text.specs.World.{newline, space, text_or_minus, control_text, asked_cpus_text, group_line, process_line, text_of_version}
use Rattle.cg_world_text.specs.declared.version.Version.{Version}
use Rattle.cg_world_text.specs.declared.version.Version.TheVariants.{One, Two}
use Rattle.cg_world_text.specs.Version.{version_word}
use Rattle.cg_world_text.proofs.Appending.{append_none}
use Rattle.cg_text.proofs.Lists.{all_append}
use Rattle.cg_world_text.proofs.PlainWords.{IsPlainWord}

-- the words behind a group's CPUs
abbrev pub limit_words : Version → Settings → List Word
limit_words One s = []
limit_words Two s = limit_word s.max_descendants ∷ limit_word s.max_depth ∷ []

abbrev pub group_words : Version → Path × Settings → List Word
group_words v e = codes "group" ∷ path_word e.0 ∷ control_text e.1.control ∷ flag_word e.1.freeze ∷ asked_cpus_text e.1.cpus ∷ limit_words v e.1

abbrev pub process_words : ℕ × Path → List Word
process_words e = codes "proc" ∷ decimal e.0 ∷ path_word e.1 ∷ []

abbrev pub controllers_words : Controllers → List Word
controllers_words s = codes "controllers" ∷ map controller_word (members s)

abbrev pub world_words : Version → Tree → List (List Word)
world_words v T = (codes "world" ∷ version_word v ∷ []) ∷ controllers_words T.controllers ∷ (codes "online" ∷ cpus_text T.online ∷ []) ∷ (map (group_words v) (entries T.groups) ++ map process_words (entries T.places) ++ (codes "end" ∷ []) ∷ [])

-- ---- the text is that of the words

-- a group's line, whatever stands behind its CPUs
row : (p c f u t : List ℕ) → codes "group " ++ p ++ space ++ c ++ space ++ f ++ space ++ u ++ t ++ newline ≡ (codes "group" ++ 32 ∷ (p ++ 32 ∷ (c ++ 32 ∷ (f ++ 32 ∷ (u ++ t))))) ++ 10 ∷ []
row p c f u t = simp append_assoc

group_is : (v : Version) (e : Path × Settings) → group_line v e ≡ line_of (group_words v e) ++ 10 ∷ []
group_is One e =
    let p : List ℕ = path_word e.0 in
    let c : List ℕ = control_text e.1.control in
    let f : List ℕ = flag_word e.1.freeze in
    let u : List ℕ = asked_cpus_text e.1.cpus in
    row p c f u [] ∙ ap (λ t. (codes "group" ++ 32 ∷ (p ++ 32 ∷ (c ++ 32 ∷ (f ++ 32 ∷ t)))) ++ 10 ∷ []) (append_none u)
group_is Two e =
    let p : List ℕ = path_word e.0 in
    let c : List ℕ = control_text e.1.control in
    let f : List ℕ = flag_word e.1.freeze in
    let u : List ℕ = asked_cpus_text e.1.cpus in
    let a : List ℕ = limit_word e.1.max_descendants in
    let b : List ℕ = limit_word e.1.max_depth in
    row p c f u (space ++ a ++ space ++ b) ∙ ap (λ t. (codes "group" ++ 32 ∷ (p ++ 32 ∷ (c ++ 32 ∷ (f ++ 32 ∷ (u ++ 32 ∷ t))))) ++ 10 ∷ []) (append_assoc a space b)

process_is : (e : ℕ × Path) → process_line e ≡ line_of (process_words e) ++ 10 ∷ []
process_is e = regroup (decimal e.0) (path_word e.1)
  where
    regroup : (k p : List ℕ) → codes "proc " ++ k ++ space ++ p ++ newline ≡ line_of (codes "proc" ∷ k ∷ p ∷ []) ++ 10 ∷ []
    regroup k p = simp append_assoc

names_are : (w : Word) (cs : List Controller) → w ++ flat_map (λ c. space ++ controller_word c) cs ≡ line_of (w ∷ map controller_word cs)
names_are w [] = append_none w
names_are w (c ∷ cs) = ap (λ t. w ++ 32 ∷ t) (names_are (controller_word c) cs)

lines_are : {E : Type 0} (line : E → List ℕ) (words : E → List Word) → ((e : E) → line e ≡ line_of (words e) ++ 10 ∷ []) → (es : List E) → flat_map line es ≡ text_of (map words es)
lines_are line words h [] = refl
lines_are line words h (e ∷ es) = λ i. h e i ++ lines_are line words h es i

whole : (w d k f n o u g p e : List ℕ) → w ++ d ++ n ++ k ++ f ++ n ++ o ++ u ++ n ++ g ++ p ++ e ++ n ≡ ((w ++ d) ++ n) ++ (((k ++ f) ++ n) ++ (((o ++ u) ++ n) ++ ((g ++ p) ++ ((e ++ n) ++ []))))
whole w d k f n o u g p e = simp (append_assoc, append_none)

pub written : (v : Version) (T : Tree) → text_of_version v T ≡ text_of (world_words v T)
unfolding text_of_version
written v T =
    let G : List (List Word) = map (group_words v) (entries T.groups) in
    let P : List (List Word) = map process_words (entries T.places) in
    let E : List (List Word) = (codes "end" ∷ []) ∷ [] in
    let front : List ℕ → List ℕ → List ℕ = λ c r. ((codes "world " ++ version_word v) ++ newline) ++ ((c ++ newline) ++ (((codes "online " ++ cpus_text T.online) ++ newline) ++ r)) in
    whole (codes "world ") (version_word v) (codes "controllers") (flat_map (λ c. space ++ controller_word c) (members T.controllers)) newline (codes "online ") (cpus_text T.online) (flat_map (group_line v) (entries T.groups)) (flat_map process_line (entries T.places)) (codes "end")
    ∙ (λ i. front (names_are (codes "controllers") (members T.controllers) i) ((lines_are (group_line v) (group_words v) (group_is v) (entries T.groups) i ++ lines_are process_line process_words process_is (entries T.places) i) ++ text_of E))
    ∙ ap (front (line_of (controllers_words T.controllers))) (ap (λ t. t ++ text_of E) (sym (flat_map-append (λ ws. line_of ws ++ 10 ∷ []) G P)) ∙ sym (flat_map-append (λ ws. line_of ws ++ 10 ∷ []) (G ++ P) E))

-- ---- each word is plain, but for paths

pub word_plain : (c : Controller) → IsPlainWord (controller_word c)
word_plain Cpuset = record { some = omega arith; plain = refl }
word_plain Cpu = record { some = omega arith; plain = refl }
word_plain Io = record { some = omega arith; plain = refl }
word_plain Memory = record { some = omega arith; plain = refl }
word_plain Hugetlb = record { some = omega arith; plain = refl }
word_plain Pids = record { some = omega arith; plain = refl }
word_plain Rdma = record { some = omega arith; plain = refl }
word_plain Misc = record { some = omega arith; plain = refl }

pub words_plain : (cs : List Controller) → AllByRecursion IsPlainWord (map controller_word cs)
words_plain [] = tt
words_plain (c ∷ cs) = (word_plain c, words_plain cs)

pub joined_plain : (ws : List Word) → AllByRecursion IsPlainWord ws → list_all is_plain_byte (join_with_byte 44 ws) ≡ true
joined_plain [] h = refl
joined_plain (w ∷ []) h = h.0.plain
joined_plain (w ∷ v ∷ ws) h = all_append is_plain_byte w (44 ∷ join_with_byte 44 (v ∷ ws)) h.0.plain (joined_plain (v ∷ ws) h.1)

plain_or_minus : (t : List ℕ) → list_all is_plain_byte t ≡ true → IsPlainWord (text_or_minus t)
plain_or_minus [] h = record { some = omega arith; plain = refl }
plain_or_minus (b ∷ t) h = record { some = omega arith; plain = h }

pub control_plain : (s : Controllers) → IsPlainWord (control_text s)
control_plain s = plain_or_minus (join_with_byte 44 (map controller_word (members s))) (joined_plain (map controller_word (members s)) (words_plain (members s)))

pub flag_plain : (b : Bool) → IsPlainWord (flag_word b)
flag_plain true = record { some = omega arith; plain = refl }
flag_plain false = record { some = omega arith; plain = refl }
