-- What is written for a sound tree is read back as that tree.
use Rattle.std.proofs.Common.{◌≡◌, inl, inr, ℕ, ◌+◌, ◌*◌, ◌≤◌, Bool, true, false, ◌==◌, ◌&&◌, cond, nat_le, List, [], ◌∷◌, ◌++◌, codes, map, filter, length, refl, sym, ap, subst, ◌∙◌, arith, length-append}
use Rattle.std.specs.Cmp.{nat_cmp_total}
use Rattle.std.specs.FinMap.{nat_cmp-IsAntisymmetric}
use Rattle.std.specs.Fmt.{decimal}
use Rattle.std.specs.List.{AllByRecursion, list_all, slice_split, join_with_byte}
use Rattle.std.specs.Str.Parse.{IsNumeral, digits_value}
use Rattle.std.proofs.lemmas.Bool.{and_parts}
use Rattle.std.proofs.lemmas.Bool.Decides.{nat_tests}
use Rattle.std.proofs.lemmas.Fmt.{decimal_is_IsNumeral, length-decimal-le}
use Rattle.cg_maps.specs.FiniteMap.{entries, is_nonempty}
use Rattle.cg_maps.specs.FiniteSet.{FiniteSet, is_empty_set}
use Rattle.cg_maps.proofs.Maps.{each_entry, all_map}
use Rattle.cg_maps.proofs.Sets.{empty_set-is}
use Rattle.cg_name.specs.Controller.{controller_word}
use Rattle.cg_name.specs.Word.{FitsLine}
use Rattle.cg_name.specs.Path.{Path, IsPath, path_word}
use Rattle.cg_name.specs.Order.{path_cmp_total, path_cmp_exact}
use Rattle.cg_name.specs.declared.controller.Controller.{Controller}
use Rattle.cg_name.specs.declared.controller.Controller.TheVariants.{Cpuset, Cpu, Io, Memory, Hugetlb, Pids, Rdma, Misc}
use Rattle.cg_cpus.specs.CpuList.{cpus_text}
use Rattle.cg_cpus.proofs.Canonical.{canonical_spells}
use Rattle.cg_text.specs.Controllers.{members, no_controllers, has, all_controllers}
use Rattle.cg_text.specs.FileText.{flag_word, limit_word}
use Rattle.cg_text.specs.Reading.{SpellsFlag, SpellsPid}
use Rattle.cg_text.specs.Words.{Word, line_of, is_silent, IsWrittenLine}
use Rattle.cg_text.specs.declared.controllers.Controllers as sets
use Rattle.cg_text.specs.declared.limit.Limit.{Limit}
use Rattle.cg_text.specs.declared.limit.Limit.TheVariants.{Max, UpTo}
use Rattle.cg_text.specs.declared.settings.Settings.{Settings}
use Rattle.cg_model.specs.Sound.{Sound}
use Rattle.cg_model.specs.Tree.{Tree}
use Rattle.cg_world_text.specs.declared.statement.Statement.{Statement}
use Rattle.cg_world_text.specs.declared.statement.Statement.TheVariants.{Version, Controllers, Online, End}
use Rattle.cg_world_text.specs.declared.version.Version as versions
use Rattle.cg_world_text.specs.declared.version.Version.TheVariants.{One, Two}
use Rattle.cg_world_text.specs.Version.{version_word, last_cpu}
use Rattle.cg_world.specs.Representable.{AreCpusUpTo, IsRepresentable}
use Rattle.cg_world_text.specs.Statement.{AddsControllers, SpellsControl, SpellsSomeCpus, SpellsAskedCpus, SpellsLimits, SpellsStatement}
use Rattle.cg_world_text.specs.World.{Arranges, SpellsEach, SpellsWorld, group_of, process_of, text_or_minus, control_text, asked_cpus_text, cpus_fit_one, is_max, settings_fit_one, fits_version_one, text_of_version, world_text}
use Rattle.cg_world_text.proofs.Appending.{control_some, control_none}
use Rattle.cg_name.proofs.WrittenPaths.{spelled as path_spelled, path_fits}
use Rattle.cg_text.proofs.WrittenLines.{say_lines}
use Rattle.cg_text.proofs.Lists.{split_at, split_none}
use Rattle.cg_world_text.proofs.LowCpus.{fits_up_to}
use Rattle.cg_world_text.proofs.Listed.{all_both, adds_members, lists_entries}
use Rattle.cg_world_text.proofs.PlainWords.{plain_fit, all_fit, decimal_plain, nothing_trimmed}
use Rattle.cg_world_text.proofs.WrittenCpus.{cpus_short, cpus_plain, asked_plain, asked_short}
use Rattle.cg_world_text.proofs.WrittenLimits.{limit_short, limits_plain, spells_limit}
use Rattle.cg_world_text.proofs.WrittenWords.{limit_words, group_words, process_words, controllers_words, world_words, written, words_plain, control_plain, flag_plain}

-- ---- lists

both : {A : Type 0} (P : A → Type 0) (xs ys : List A) → AllByRecursion P xs → AllByRecursion P ys → AllByRecursion P (xs ++ ys)
both P [] ys h k = k
both P (x ∷ xs) ys h k = (h.0, both P xs ys h.1 k)

each_mapped : {A B : Type 0} (f : A → B) (P : B → Type 0) (xs : List A) → AllByRecursion (λ x. P (f x)) xs → AllByRecursion P (map f xs)
each_mapped f P [] h = tt
each_mapped f P (x ∷ xs) h = (h.0, each_mapped f P xs h.1)

pub filter_few : {A : Type 0} (p : A → Bool) (xs : List A) → length (filter p xs) ≤ length xs
filter_few p [] = omega arith
filter_few p (x ∷ xs) = elim (p x) as (λ b. length (cond b (x ∷ filter p xs) (filter p xs)) ≤ length (x ∷ xs)) [
  | true ↦ omega (arith, filter_few p xs)
  | false ↦ omega (arith, filter_few p xs)
]

-- ---- lengths

pub word_short : (c : Controller) → length (controller_word c) ≤ 7
word_short Cpuset = omega arith
word_short Cpu = omega arith
word_short Io = omega arith
word_short Memory = omega arith
word_short Hugetlb = omega arith
word_short Pids = omega arith
word_short Rdma = omega arith
word_short Misc = omega arith

names_short : (b : ℕ) (cs : List Controller) → length (join_with_byte b (map controller_word cs)) ≤ 8 * length cs
names_short b [] = omega arith
names_short b (c ∷ []) = omega (arith, word_short c)
names_short b (c ∷ d ∷ cs) = omega (arith, word_short c, names_short b (d ∷ cs), length-append (controller_word c) (b ∷ join_with_byte b (map controller_word (d ∷ cs))))

at_most_eight : (s : sets.Controllers) → length (members s) ≤ 8
at_most_eight s = filter_few (has s) all_controllers

or_minus_short : (t : List ℕ) → length (text_or_minus t) ≤ length t + 1
or_minus_short [] = omega arith
or_minus_short (b ∷ t) = omega arith

control_short : (s : sets.Controllers) → length (control_text s) ≤ 65
control_short s = omega (arith, or_minus_short (join_with_byte 44 (map controller_word (members s))), names_short 44 (members s), at_most_eight s)

pub flag_short : (b : Bool) → length (flag_word b) ≤ 1
flag_short true = omega arith
flag_short false = omega arith

-- ---- the lines are good

-- what a version asks of settings beside what code can hold
abbrev Suits : versions.Version → Settings → Type 0
Suits One s = AreCpusUpTo 127 s.cpus × (s.max_descendants ≡ Max) × (s.max_depth ≡ Max)
Suits Two s = Unit {0}

record IsGoodGroup (v : versions.Version) (e : Path × Settings) : Type 0 where
  path : IsPath e.0
  cpus : AreCpusUpTo 1023 e.1.cpus
  suits : Suits v e.1

record IsGoodProcess (e : ℕ × Path) : Type 0 where
  low : 1 ≤ e.0
  high : e.0 ≤ 4194303
  path : IsPath e.1

group_good : (v : versions.Version) (e : Path × Settings) → IsGoodGroup v e → IsWrittenLine (group_words v e)
group_good v e h =
    let p : List ℕ = path_word e.0 in
    let c : List ℕ = control_text e.1.control in
    let f : List ℕ = flag_word e.1.freeze in
    let u : List ℕ = asked_cpus_text e.1.cpus in
    let keyword : FitsLine (codes "group") = plain_fit _ (record { some = omega arith; plain = refl }) in
    let path = path_fits e.0 h.path in
    record {
      words = (keyword, (path.0, (plain_fit c (control_plain e.1.control), (plain_fit f (flag_plain e.1.freeze), (plain_fit u (asked_plain e.1.cpus h.cpus), all_fit (limit_words v e.1) (limits_plain v e.1))))));
      says = refl;
      short = row v p c f u path.1 (control_short e.1.control) (flag_short e.1.freeze) (asked_short e.1.cpus h.cpus);
    }
  where
    row : (v : versions.Version) (p c f u : List ℕ) → length p ≤ 32770 → length c ≤ 65 → length f ≤ 1 → length u ≤ 10240 → length (line_of (codes "group" ∷ p ∷ c ∷ f ∷ u ∷ limit_words v e.1)) ≤ 65536
    row One p c f u lp lc lf lu = omega (arith, lp, lc, lf, lu, length-append p (32 ∷ (c ++ 32 ∷ (f ++ 32 ∷ u))), length-append c (32 ∷ (f ++ 32 ∷ u)), length-append f (32 ∷ u))
    row Two p c f u lp lc lf lu =
        let a : List ℕ = limit_word e.1.max_descendants in
        let b : List ℕ = limit_word e.1.max_depth in
        let t : List ℕ = u ++ 32 ∷ (a ++ 32 ∷ b) in
        omega (arith, lp, lc, lf, lu, limit_short e.1.max_descendants, limit_short e.1.max_depth, length-append p (32 ∷ (c ++ 32 ∷ (f ++ 32 ∷ t))), length-append c (32 ∷ (f ++ 32 ∷ t)), length-append f (32 ∷ t), length-append u (32 ∷ (a ++ 32 ∷ b)), length-append a (32 ∷ b))

process_good : (e : ℕ × Path) → IsGoodProcess e → IsWrittenLine (process_words e)
process_good e h =
    let d : List ℕ = decimal e.0 in
    let p : List ℕ = path_word e.1 in
    let keyword : FitsLine (codes "proc") = plain_fit _ (record { some = omega arith; plain = refl }) in
    let path = path_fits e.1 h.path in
    record {
      words = (keyword, (plain_fit d (decimal_plain e.0 (omega (arith, h.high))), (path.0, tt)));
      says = refl;
      short = omega (arith, path.1, length-decimal-le 7 e.0 (omega arith) (omega (arith, h.high)) (omega (arith, h.high)), length-append d (32 ∷ p));
    }

pub version_good : (v : versions.Version) → IsWrittenLine (codes "world" ∷ version_word v ∷ [])
version_good One = record { words = all_fit (codes "world" ∷ codes "1" ∷ []) (record { some = omega arith; plain = refl }, (record { some = omega arith; plain = refl }, tt)); says = refl; short = omega arith }
version_good Two = record { words = all_fit (codes "world" ∷ codes "2" ∷ []) (record { some = omega arith; plain = refl }, (record { some = omega arith; plain = refl }, tt)); says = refl; short = omega arith }

pub end_good : IsWrittenLine (codes "end" ∷ [])
end_good = record { words = all_fit (codes "end" ∷ []) (record { some = omega arith; plain = refl }, tt); says = refl; short = omega arith }

pub controllers_good : (s : sets.Controllers) → IsWrittenLine (controllers_words s)
controllers_good s = record {
  words = all_fit (controllers_words s) (record { some = omega arith; plain = refl }, words_plain (members s));
  says = names_say (members s);
  short = names_line (members s) (at_most_eight s);
}
  where
    names_say : (cs : List Controller) → is_silent (line_of (codes "controllers" ∷ map controller_word cs)) ≡ false
    names_say [] = refl
    names_say (c ∷ cs) = refl

    names_line : (cs : List Controller) → length cs ≤ 8 → length (line_of (codes "controllers" ∷ map controller_word cs)) ≤ 65536
    names_line [] l = omega arith
    names_line (c ∷ cs) l = omega (arith, names_short 32 (c ∷ cs))

pub online_good : (s : FiniteSet) → AreCpusUpTo 1023 s → is_empty_set s ≡ false → IsWrittenLine (codes "online" ∷ cpus_text s ∷ [])
online_good s low some = record { words = all_fit (codes "online" ∷ cpus_text s ∷ []) (record { some = omega arith; plain = refl }, (cpus_plain s low some, tt)); says = refl; short = omega (arith, cpus_short s low) }

-- ---- each line's words spell its statement

is_letter : ℕ → Bool
is_letter b = nat_le 97 b && nat_le b 122

no_comma : (b : ℕ) → is_letter b ≡ true → (b == 44) ≡ false
unfolding is_letter
no_comma b e = let l : nat_le 97 b ≡ true = (and_parts (nat_le 97 b) (nat_le b 122) e).0 in grind (arith, nat_tests)

letters : (c : Controller) → list_all is_letter (controller_word c) ≡ true
unfolding is_letter
letters Cpuset = refl
letters Cpu = refl
letters Io = refl
letters Memory = refl
letters Hugetlb = refl
letters Pids = refl
letters Rdma = refl
letters Misc = refl

split_names : (c : Controller) (cs : List Controller) → slice_split (λ b. b == 44) (join_with_byte 44 (map controller_word (c ∷ cs))) ≡ map controller_word (c ∷ cs)
split_names c [] = split_none is_letter (λ b. b == 44) no_comma (controller_word c) (letters c)
split_names c (d ∷ cs) = split_at is_letter (λ b. b == 44) no_comma (controller_word c) 44 (join_with_byte 44 (map controller_word (d ∷ cs))) (letters c) refl ∙ ap (λ ws. controller_word c ∷ ws) (split_names d cs)

spells_control : (s : sets.Controllers) → SpellsControl (control_text s) s
spells_control s = by_members (members s) refl
  where
    by_members : (cs : List Controller) → members s ≡ cs → SpellsControl (control_text s) s
    by_members [] e = inl (control_none s (ap is_nonempty e), subst (λ cs. AddsControllers no_controllers (map controller_word cs) s) e (adds_members s))
    by_members (c ∷ cs) e =
        inr (subst (λ ws. AddsControllers no_controllers ws s)
        (sym (ap (slice_split (λ b. b == 44)) (sym (control_some s (ap is_nonempty e)) ∙ ap (λ ds. join_with_byte 44 (map controller_word ds)) e) ∙ split_names c cs))
        (subst (λ ds. AddsControllers no_controllers (map controller_word ds) s) e (adds_members s)))

pub spells_flag : (b : Bool) → SpellsFlag (flag_word b) b
spells_flag true = refl
spells_flag false = refl

pub spells_pid : (k : ℕ) → 1 ≤ k → k ≤ 4194303 → SpellsPid (decimal k) k
spells_pid k low high =
    let n = decimal_is_IsNumeral k (omega arith) in
    subst (λ t. IsNumeral 10 t × (digits_value 10 t ≡ k) × (1 ≤ k) × (k ≤ 4194303)) (sym (nothing_trimmed (decimal k) (decimal_plain k (omega arith)))) (n.0, n.1, low, high)

pub spells_some : (most : ℕ) (s : FiniteSet) → AreCpusUpTo 1023 s → AreCpusUpTo most s → is_empty_set s ≡ false → SpellsSomeCpus most (cpus_text s) s
spells_some most s low fit some = (canonical_spells s (λ n k. omega (arith, low n k)), some, fit)

spells_asked : (most : ℕ) (s : FiniteSet) → AreCpusUpTo 1023 s → AreCpusUpTo most s → SpellsAskedCpus most (asked_cpus_text s) s
spells_asked most s low fit = elim (is_empty_set s) as (λ b. is_empty_set s ≡ b → SpellsAskedCpus most (cond b (codes "-") (cpus_text s)) s) [
  | true ↦ λ e. inl (refl, empty_set-is s e)
  | false ↦ λ e. inr (spells_some most s low fit e)
] refl

suiting_cpus : (v : versions.Version) (s : Settings) → AreCpusUpTo 1023 s.cpus → Suits v s → AreCpusUpTo (last_cpu v) s.cpus
suiting_cpus One s low f = f.0
suiting_cpus Two s low f = low

spells_limits : (v : versions.Version) (s : Settings) → Suits v s → SpellsLimits v (limit_words v s) s.max_descendants s.max_depth
spells_limits One s f = (refl, f.1, f.2)
spells_limits Two s f = (limit_word s.max_descendants, limit_word s.max_depth, refl, spells_limit s.max_descendants, spells_limit s.max_depth)

each_spelled : (v : versions.Version) (ws vs : List (List Word)) (ss ts : List Statement) → SpellsEach v ws ss → SpellsEach v vs ts → SpellsEach v (ws ++ vs) (ss ++ ts)
each_spelled v [] vs [] ts h k = k
each_spelled v [] vs (s ∷ ss) ts h k = absurd h
each_spelled v (w ∷ ws) vs [] ts h k = absurd h
each_spelled v (w ∷ ws) vs (s ∷ ss) ts h k = (h.0, each_spelled v ws vs ss ts h.1 k)

spelled_by : {E : Type 0} (v : versions.Version) (words : E → List Word) (says : E → Statement) (es : List E) → AllByRecursion (λ e. SpellsStatement v (words e) (says e)) es → SpellsEach v (map words es) (map says es)
spelled_by v words says [] h = tt
spelled_by v words says (e ∷ es) h = (h.0, spelled_by v words says es h.1)

spells_group : (v : versions.Version) (e : Path × Settings) → IsGoodGroup v e → SpellsStatement v (group_words v e) (group_of e)
spells_group v e h = (
  path_word e.0,
  control_text e.1.control,
  flag_word e.1.freeze,
  asked_cpus_text e.1.cpus,
  limit_words v e.1,
  refl,
  path_spelled e.0 h.path,
  spells_control e.1.control,
  spells_flag e.1.freeze,
  spells_asked (last_cpu v) e.1.cpus h.cpus (suiting_cpus v e.1 h.cpus h.suits),
  spells_limits v e.1 h.suits,
)

spells_process : (v : versions.Version) (e : ℕ × Path) → IsGoodProcess e → SpellsStatement v (process_words e) (process_of e)
spells_process v e h =
    (decimal e.0, path_word e.1, refl, spells_pid e.0 h.low h.high, path_spelled e.1 h.path)

module _ (v : versions.Version) (T : Tree) (is_sound : Sound T) (held : IsRepresentable T) (online : AreCpusUpTo (last_cpu v) T.online) (suits : AllByRecursion (λ e. Suits v e.1) (entries T.groups)) where
  groups_are : AllByRecursion (IsGoodGroup v) (entries T.groups)
  groups_are = all_both (λ e. IsPath e.0 × AreCpusUpTo 1023 e.1.cpus) (λ e. Suits v e.1) (IsGoodGroup v) (λ e h k. record { path = h.0; cpus = h.1; suits = k }) (entries T.groups)
      (all_map (λ e at. held.groups e.0 e.1 at) (entries T.groups) (each_entry path_cmp_total T.groups)) suits

  processes_are : AllByRecursion IsGoodProcess (entries T.places)
  processes_are = all_map (λ e at.
      let h = held.processes e.0 e.1 at in
      record { low = h.0.0; high = h.0.1; path = h.1 }) (entries T.places) (each_entry nat_cmp_total T.places)

  lines_good : AllByRecursion IsWrittenLine (world_words v T)
  lines_good =
      let G : List (List Word) = map (group_words v) (entries T.groups) in
      let P : List (List Word) = map process_words (entries T.places) in (
        version_good v,
        (
          controllers_good T.controllers,
          (
            online_good T.online held.online is_sound.online,
            both IsWrittenLine (G ++ P) ((codes "end" ∷ []) ∷ [])
                (both IsWrittenLine G P
                (each_mapped (group_words v) IsWrittenLine (entries T.groups) (all_map (group_good v) (entries T.groups) groups_are))
                (each_mapped process_words IsWrittenLine (entries T.places) (all_map process_good (entries T.places) processes_are)))
                (end_good, tt),
          ),
        ),
      )

  statements : List Statement
  statements = Version v ∷ Controllers T.controllers ∷ Online T.online ∷ (map group_of (entries T.groups) ++ map process_of (entries T.places) ++ End ∷ [])

  spelled : SpellsEach v (world_words v T) statements
  unfolding statements
  spelled =
      let G : List (List Word) = map (group_words v) (entries T.groups) in
      let P : List (List Word) = map process_words (entries T.places) in (
        refl,
        (
          (map controller_word (members T.controllers), refl, adds_members T.controllers),
          (
            (cpus_text T.online, refl, spells_some (last_cpu v) T.online held.online online is_sound.online),
            each_spelled v (G ++ P) ((codes "end" ∷ []) ∷ []) (map group_of (entries T.groups) ++ map process_of (entries T.places)) (End ∷ [])
                (each_spelled v G P (map group_of (entries T.groups)) (map process_of (entries T.places))
                (spelled_by v (group_words v) group_of (entries T.groups) (all_map (spells_group v) (entries T.groups) groups_are))
                (spelled_by v process_words process_of (entries T.places) (all_map (spells_process v) (entries T.places) processes_are)))
                (refl, tt),
          ),
        ),
      )

  arranged : Arranges v statements T
  unfolding statements
  arranged = record {
    groups = entries T.groups;
    processes = entries T.places;
    order = refl;
    listed_groups = lists_entries path_cmp_total path_cmp_exact T.groups;
    listed_processes = lists_entries nat_cmp_total nat_cmp-IsAntisymmetric T.places;
  }

  spelled_in : length (text_of_version v T) ≤ 16777216 → SpellsWorld (text_of_version v T) T
  spelled_in = subst (λ t. length t ≤ 16777216 → SpellsWorld t T) (sym (written v T)) (λ short. record {
    short = short;
    said = world_words v T;
    lines = say_lines (world_words v T) lines_good;
    version = v;
    statements = statements;
    spelled = spelled;
    arranged = arranged;
    sound = is_sound;
  })

-- ---- the version that is written serves

none_limited : (l : Limit) → is_max l ≡ true → l ≡ Max
none_limited Max e = refl
none_limited (UpTo n) e = absurd (cc e)

suits_one : (s : Settings) → settings_fit_one s ≡ true → Suits One s
suits_one s e =
    let all = and_parts (cpus_fit_one s.cpus && is_max s.max_descendants) (is_max s.max_depth) e in
    let front = and_parts (cpus_fit_one s.cpus) (is_max s.max_descendants) all.0 in
    (fits_up_to s.cpus front.0, none_limited s.max_descendants front.1, none_limited s.max_depth all.1)

all_suit : (es : List (Path × Settings)) → list_all (λ e. settings_fit_one e.1) es ≡ true → AllByRecursion (λ e. Suits One e.1) es
all_suit [] h = tt
all_suit (e ∷ es) h = let k = and_parts (settings_fit_one e.1) _ h in (suits_one e.1 k.0, all_suit es k.1)

any_suits : (es : List (Path × Settings)) → AllByRecursion (λ e. Suits Two e.1) es
any_suits [] = tt
any_suits (e ∷ es) = (tt, any_suits es)

pub written_spelled : (T : Tree) → Sound T → IsRepresentable T → length (world_text T) ≤ 16777216 → SpellsWorld (world_text T) T
unfolding world_text
written_spelled T is_sound held = elim (fits_version_one T) as (λ b. fits_version_one T ≡ b → length (text_of_version (cond b One Two) T) ≤ 16777216 → SpellsWorld (text_of_version (cond b One Two) T) T) [
  | true ↦ λ e. let k = and_parts (cpus_fit_one T.online) _ e in spelled_in One T is_sound held (fits_up_to T.online k.0) (all_suit (entries T.groups) k.1)
  | false ↦ λ e. spelled_in Two T is_sound held held.online (any_suits (entries T.groups))
] refl
