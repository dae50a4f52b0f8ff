-- What a machine shows is text: the files of groups are ASCII.
use Rattle.std.proofs.Common.{◌≡◌, ℕ, zero, suc, ◌+◌, ◌/◌, ◌%◌, ◌<◌, ◌==◌, nat_lt, ◌&&◌, Bool, true, false, not, List, [], ◌∷◌, ◌++◌, map, Option, Some, None, option_map, refl, sym, subst, ◌∙◌, arith, true≢false}
use Rattle.std.proofs.lemmas.Bool.{cond_both, lt-ltb, ltb-true}
use Rattle.std.specs.Fmt.{decimal, digits, digits_onto, digit_glyph}
use Rattle.std.specs.List.{AllByRecursion, join_with_byte, list_all}
use Rattle.std.specs.Str.{IsAscii}
use Rattle.cg_maps.specs.FiniteSet.{FiniteSet}
use Rattle.cg_name.specs.Controller.{controller_word}
use Rattle.cg_name.specs.Path.{Path, is_root}
use Rattle.cg_name.specs.declared.controller.Controller.{Controller}
use Rattle.cg_name.specs.declared.controller.Controller.TheVariants as controllers
use Rattle.cg_name.specs.declared.file_name.FileName.{FileName}
use Rattle.cg_name.specs.declared.file_name.FileName.TheVariants as files
use Rattle.cg_name.specs.declared.refusal.Refusal.{Refusal}
use Rattle.cg_cpus.specs.CpuList.{cpus_text, run_text, runs}
use Rattle.cg_maps.specs.FiniteSet as cpus
use Rattle.cg_text.proofs.Lists.{all_append}
use Rattle.cg_text.specs.Controllers.{members}
use Rattle.cg_text.specs.FileText.{controllers_text, cpus_line, events_text, flag_text, limit_text, line_text, pids_text, words_text}
use Rattle.cg_text.specs.declared.controllers.Controllers.{Controllers}
use Rattle.cg_text.specs.declared.limit.Limit.{Limit}
use Rattle.cg_text.specs.declared.limit.Limit.TheVariants.{Max, UpTo}
use Rattle.cg_text.specs.declared.settings.Settings.{Settings}
use Rattle.cg_model.specs.Cgroups.{cgroups}
use Rattle.cg_model.specs.Command.{Command, Create, Remove, Migrate, Subtree, Freeze, Cpus, Show, Online, MaxDescendants, MaxDepth, Effect}
use Rattle.cg_model.specs.Derived.{processes, available, with_cpuset, is_frozen, is_populated, effective_cpus}
use Rattle.cg_model.specs.Effect.{effect}
use Rattle.cg_model.specs.File.{file_of, file_seen, or_no_file}
use Rattle.cg_model.specs.History.{Request, Begin, Do, Save, Back, Undo, Commit, Abort, Answer, Gave, History}
use Rattle.cg_model.specs.Live.{Items, Ran, AtSavepoint, live}
use Rattle.cg_model.specs.Opens.{transaction_in, opens}
use Rattle.cg_model.specs.Reply.{command_reply, has_savepoint, is_full, reply_at, reply_in, undo_reply}
use Rattle.cg_model.specs.Run.{own_tree}
use Rattle.cg_model.specs.System.{Refuse, Accept, Done, Text}
use Rattle.cg_model.specs.Tree.{Tree, group}
use Rattle.cg_model.specs.Writes.{show_effect}
use Rattle.cg_model_laws.proofs.EachCommand.{EachCommand, of_each}
use Rattle.cg_core_laws.specs.Shown.{TextsAreAscii}

-- ---- bytes below 128

abbrev is_low : ℕ → Bool
is_low b = nat_lt b 128

abbrev AreLow : List ℕ → Type 0
AreLow bs = list_all is_low bs ≡ true

both_true : (a b : Bool) → a ≡ true → b ≡ true → a && b ≡ true
both_true true b e f = f
both_true false b e f = e

parts : (a b : Bool) → a && b ≡ true → (a ≡ true) × (b ≡ true)
parts true b e = (refl, e)
parts false b e = absurd (true≢false (sym e))

low : (b : ℕ) → b < 128 → is_low b ≡ true
low b lt = lt-ltb b 128 lt

ascii : (bs : List ℕ) → AreLow bs → IsAscii bs
ascii [] h i = omega arith
ascii (b ∷ bs) h zero = ltb-true b 128 (parts (is_low b) (list_all is_low bs) h).0
ascii (b ∷ bs) h (suc i) = ascii bs (parts (is_low b) (list_all is_low bs) h).1 i

-- ---- the parts of a file

glyph_low : (d : ℕ) → d < 10 → is_low (digit_glyph false d) ≡ true
glyph_low d lt = low (digit_glyph false d) (cond_both (nat_lt d 10) (48 + d) (87 + d) (λ g. g < 128) (λ _. omega (arith, lt)) (λ _. omega (arith, lt)))

digits_low : (k n : ℕ) (acc : List ℕ) → AreLow acc → AreLow (digits_onto k 10 false n acc)
digits_low zero n acc h = h
digits_low (suc k) n acc h =
    let rest : n % 10 < 10 = omega arith in
    let more : AreLow (digit_glyph false (n % 10) ∷ acc) = both_true (is_low (digit_glyph false (n % 10))) (list_all is_low acc) (glyph_low (n % 10) rest) h in
    cond_both (n / 10 == 0) (digit_glyph false (n % 10) ∷ acc) (digits_onto k 10 false (n / 10) (digit_glyph false (n % 10) ∷ acc)) AreLow (λ _. more) (λ _. digits_low k (n / 10) (digit_glyph false (n % 10) ∷ acc) more)

decimal_low : (n : ℕ) → AreLow (decimal n)
unfolding digits
decimal_low n = digits_low 64 n [] refl

line_low : (bs : List ℕ) → AreLow bs → AreLow (line_text bs)
line_low bs h = all_append is_low bs (10 ∷ []) h refl

join_low : (c : ℕ) → is_low c ≡ true → (xs : List (List ℕ)) → AllByRecursion AreLow xs → AreLow (join_with_byte c xs)
join_low c k [] h = refl
join_low c k (x ∷ []) h = h.0
join_low c k (x ∷ y ∷ xs) h = all_append is_low x (c ∷ join_with_byte c (y ∷ xs)) h.0 (both_true (is_low c) (list_all is_low (join_with_byte c (y ∷ xs))) k (join_low c k (y ∷ xs) h.1))

words_low : (ws : List (List ℕ)) → AllByRecursion AreLow ws → AreLow (words_text ws)
words_low [] h = refl
words_low (w ∷ ws) h = line_low (join_with_byte 32 (w ∷ ws)) (join_low 32 refl (w ∷ ws) h)

controller_low : (c : Controller) → AreLow (controller_word c)
controller_low controllers.Cpuset = refl
controller_low controllers.Cpu = refl
controller_low controllers.Io = refl
controller_low controllers.Memory = refl
controller_low controllers.Hugetlb = refl
controller_low controllers.Pids = refl
controller_low controllers.Rdma = refl
controller_low controllers.Misc = refl

names_low : (cs : List Controller) → AllByRecursion AreLow (map controller_word cs)
names_low [] = tt
names_low (c ∷ cs) = (controller_low c, names_low cs)

controllers_low : (s : Controllers) → AreLow (controllers_text s)
controllers_low s = words_low (map controller_word (members s)) (names_low (members s))

pids_low : (pids : List ℕ) → AreLow (pids_text pids)
pids_low [] = refl
pids_low (k ∷ pids) = all_append is_low (line_text (decimal k)) (pids_text pids) (line_low (decimal k) (decimal_low k)) (pids_low pids)

flag_low : (b : Bool) → AreLow (flag_text b)
flag_low true = refl
flag_low false = refl

events_low : (p f : Bool) → AreLow (events_text p f)
events_low true true = refl
events_low true false = refl
events_low false true = refl
events_low false false = refl

limit_low : (l : Limit) → AreLow (limit_text l)
limit_low Max = refl
limit_low (UpTo most) = line_low (decimal most.number) (decimal_low most.number)

run_low : (r : ℕ × ℕ) → AreLow (run_text r)
run_low r =
    cond_both (r.0 == r.1) (decimal r.0) (decimal r.0 ++ 45 ∷ decimal r.1) AreLow (λ _. decimal_low r.0)
    (λ _. all_append is_low (decimal r.0) (45 ∷ decimal r.1) (decimal_low r.0) (decimal_low r.1))

runs_low : (rs : List (ℕ × ℕ)) → AllByRecursion AreLow (map run_text rs)
runs_low [] = tt
runs_low (r ∷ rs) = (run_low r, runs_low rs)

cpus_low : (s : FiniteSet) → AreLow (cpus_line s)
cpus_low s = line_low (cpus_text s) (join_low 44 refl (map run_text (runs (cpus.members s))) (runs_low (runs (cpus.members s))))

-- ---- a file

abbrev LowIfSome : Option (List ℕ) → Type 0
LowIfSome None = Unit {0}
LowIfSome (Some text) = AreLow text

offered_low : (a : Option Controllers) → LowIfSome (option_map controllers_text a)
offered_low None = tt
offered_low (Some s) = controllers_low s

file_low : (root : Bool) (s : Settings) (a : Option Controllers) (pids : List ℕ) (populated frozen : Bool) (e : FiniteSet) (f : FileName) → LowIfSome (file_of root s a pids populated frozen e f)
file_low root s a pids populated frozen e files.Procs = pids_low pids
file_low root s a pids populated frozen e files.Controllers = offered_low a
file_low root s a pids populated frozen e files.SubtreeControl = controllers_low s.control
file_low root s a pids populated frozen e files.Events = cond_both root None (Some (events_text populated frozen)) LowIfSome (λ _. tt) (λ _. events_low populated frozen)
file_low root s a pids populated frozen e files.Freeze = cond_both root None (Some (flag_text s.freeze)) LowIfSome (λ _. tt) (λ _. flag_low s.freeze)
file_low root s a pids populated frozen e files.Cpus = cond_both (not root && with_cpuset a) (Some (cpus_line s.cpus)) None LowIfSome (λ _. cpus_low s.cpus) (λ _. tt)
file_low root s a pids populated frozen e files.EffectiveCpus = cond_both (with_cpuset a) (Some (cpus_line e)) None LowIfSome (λ _. cpus_low e) (λ _. tt)
file_low root s a pids populated frozen e files.MaxDescendants = limit_low s.max_descendants
file_low root s a pids populated frozen e files.MaxDepth = limit_low s.max_depth

-- ---- what a command shows

abbrev ShownLow : Effect → Type 0
ShownLow (Accept (Text text) d) = AreLow text
ShownLow _ = Unit {0}

text_low : (o : Option (List ℕ)) → LowIfSome o → ShownLow (show_effect (or_no_file o))
text_low None h = tt
text_low (Some text) h = h

seen_low : (T : Tree) (p : Path) (f : FileName) (own : Option Settings) → ShownLow (show_effect (file_seen p f own (available T p) (processes T p) (is_populated T p) (is_frozen T p) (effective_cpus T p)))
seen_low T p f None = tt
seen_low T p f (Some s) = text_low _ (file_low (is_root p) s (available T p) (processes T p) (is_populated T p) (is_frozen T p) (effective_cpus T p) f)

-- none but Show shows anything
abbrev ShowsAlone : Command → Effect → Type 0
ShowsAlone (Show p f) e = Unit {0}
ShowsAlone c e = ShownLow e

refused_alone : (c : Command) (r : Refusal) → ShowsAlone c (Refuse r)
refused_alone (Create p) r = tt
refused_alone (Remove p) r = tt
refused_alone (Migrate k p) r = tt
refused_alone (Subtree p ops) r = tt
refused_alone (Freeze p v) r = tt
refused_alone (Cpus p v) r = tt
refused_alone (Show p f) r = tt
refused_alone (Online v) r = tt
refused_alone (MaxDescendants p v) r = tt
refused_alone (MaxDepth p v) r = tt

each_alone : (T : Tree) → EachCommand T ShowsAlone
each_alone T = record {
  refused = λ c r own. refused_alone c r;
  created = λ n p u none parent. tt;
  removed = λ n p s here no_children no_processes. tt;
  moved = λ k p q s place here admits. tt;
  controls = λ p ops s a here offered missing used crowded. tt;
  freezes = λ n p v s here. tt;
  asks = λ n p v s here with. tt;
  shows = λ p f text. tt;
  goes_online = λ v. tt;
  limits_descendants = λ p v s here. tt;
  limits_depth = λ p v s here. tt;
}

show_low : (T : Tree) (p : Path) (f : FileName) → ShownLow (effect (Show p f) T)
unfolding effect
show_low T p f = seen_low T p f (group T p)

shown_low : (T : Tree) (c : Command) → ShownLow (effect c T)
shown_low T (Create p) = of_each T ShowsAlone (each_alone T) (Create p)
shown_low T (Remove p) = of_each T ShowsAlone (each_alone T) (Remove p)
shown_low T (Migrate k p) = of_each T ShowsAlone (each_alone T) (Migrate k p)
shown_low T (Subtree p ops) = of_each T ShowsAlone (each_alone T) (Subtree p ops)
shown_low T (Freeze p v) = of_each T ShowsAlone (each_alone T) (Freeze p v)
shown_low T (Cpus p v) = of_each T ShowsAlone (each_alone T) (Cpus p v)
shown_low T (Show p f) = show_low T p f
shown_low T (Online v) = of_each T ShowsAlone (each_alone T) (Online v)
shown_low T (MaxDescendants p v) = of_each T ShowsAlone (each_alone T) (MaxDescendants p v)
shown_low T (MaxDepth p v) = of_each T ShowsAlone (each_alone T) (MaxDepth p v)

-- ---- what a history answers

abbrev AnswersLow : Answer → Type 0
AnswersLow (Gave (Text text)) = AreLow text
AnswersLow _ = Unit {0}

met_shows : (u : Option ℕ) (e : Effect) → ShownLow e → AnswersLow (command_reply u e)
met_shows (Some u) e h = tt
met_shows None (Refuse r) h = tt
met_shows None (Accept Done d) h = tt
met_shows None (Accept (Text text) d) h = h

undo_shows : (l : Items cgroups) → AnswersLow (undo_reply l)
undo_shows [] = tt
undo_shows (Ran t h c a ∷ l) = tt
undo_shows (AtSavepoint t h n ∷ l) = tt

module _ (O : Tree) (bound : ℕ) where
  in_shows : (h : History cgroups) (t : ℕ) (r : Request cgroups) → AnswersLow (reply_in cgroups O bound h t r)
  in_shows h t Begin = tt
  in_shows h t (Do c) = cond_both (is_full bound h) _ _ AnswersLow (λ _. tt) (λ _. met_shows _ (effect c (own_tree cgroups O t h)) (shown_low (own_tree cgroups O t h) c))
  in_shows h t (Save n) = cond_both (has_savepoint n (live t h)) _ _ AnswersLow (λ _. tt) (λ _. cond_both (is_full bound h) _ _ AnswersLow (λ _. tt) (λ _. tt))
  in_shows h t (Back n) = cond_both (has_savepoint n (live t h)) _ _ AnswersLow (λ _. tt) (λ _. tt)
  in_shows h t Undo = undo_shows (live t h)
  in_shows h t Commit = tt
  in_shows h t Abort = tt

  at_shows : (h : History cgroups) (o : Option ℕ) (r : Request cgroups) → AnswersLow (reply_at cgroups O bound h o r)
  at_shows h (Some t) r = in_shows h t r
  at_shows h None Begin = cond_both (is_full bound h) _ _ AnswersLow (λ _. tt) (λ _. tt)
  at_shows h None (Do c) = tt
  at_shows h None (Save n) = tt
  at_shows h None (Back n) = tt
  at_shows h None Undo = tt
  at_shows h None Commit = tt
  at_shows h None Abort = tt

-- each text that a legal history shows
pub texts_are_ascii : TextsAreAscii
texts_are_ascii O bound [] legal = tt
texts_are_ascii O bound (r ∷ h) (recorded, replied, named, defined, legal) =
    (λ text is. ascii text (subst AnswersLow (sym replied ∙ is) (at_shows O bound h (transaction_in r.session (opens h)) r.request)), texts_are_ascii O bound h legal)
