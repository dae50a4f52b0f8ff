-- The words of a line say one thing at most.
use Rattle.std.proofs.Common.{◌≡◌, ℕ, ◌≤◌, inl, inr, Bool, true, false, List, [], ◌∷◌, length, get_or, take, drop, ◌-◌, map, Bor, refl, sym, ap, subst, ◌∙◌, arith, ◌==◌, true≢false}
use Rattle.std.proofs.lemmas.Bool.Decides.{nat_tests}
use Rattle.std.specs.Prelude.{codes}
use Rattle.std.proofs.lemmas.List.{take_all}
use Rattle.cg_maps.specs.FiniteSet.{FiniteSet}
use Rattle.cg_name.specs.Path.{SpellsPath}
use Rattle.cg_cpus.proofs.Grammar.{one_set}
use Rattle.cg_text.specs.FileText.{flag_word}
use Rattle.cg_text.specs.Reading.{SpellsFlag}
use Rattle.cg_text.specs.Words.{Word}
use Rattle.cg_text.specs.Controllers.{no_controllers}
use Rattle.cg_text.specs.declared.controllers.Controllers as controllers
use Rattle.cg_text.specs.declared.settings.Settings.{Settings}
use Rattle.cg_world_text.specs.declared.statement.Statement.{Statement}
use Rattle.cg_world_text.specs.declared.statement.Statement.TheVariants.{Version, Controllers, Online, Group, Process, End}
use Rattle.cg_world_text.specs.declared.version.Version as versions
use Rattle.cg_world_text.specs.declared.version.Version.TheVariants.{One, Two}
use Rattle.cg_world_text.specs.Version.{last_cpu}
use Rattle.cg_world_text.specs.Statement.{AddsControllers, SpellsControl, SpellsSomeCpus, SpellsAskedCpus, SpellsLimits, SpellsStatement}
use Rattle.cg_world_text.specs.Parts.{SpellsSettings}
use Rattle.cg_world_text.proofs.Adding.{one_sum, no_minus}
use Rattle.cg_world_text.proofs.Cpus.{minus_no_list}
use Rattle.cg_name.proofs.WrittenPaths.{one_path}
use Rattle.cg_world_text.proofs.Limits.{one_limits}

differ : (a b : ℕ) → a ≡ b → (a == b) ≡ false → ⊥
differ a b e f = true≢false (sym (eqb-same a) ∙ ap (λ n. a == n) e ∙ f)
  where
    eqb-same : (n : ℕ) → (n == n) ≡ true
    eqb-same n = grind (arith, nat_tests)

one_control : (w : Word) (s t : controllers.Controllers) → SpellsControl w s → SpellsControl w t → s ≡ t
one_control w s t (inl h) (inl k) = h.1 ∙ sym k.1
one_control w s t (inl h) (inr k) = absurd (no_minus w t h.0 k)
one_control w s t (inr h) (inl k) = absurd (no_minus w s k.0 h)
one_control w s t (inr h) (inr k) = one_sum _ no_controllers s t h k

-- a flag is told by its word's byte
abbrev flagged : Word → Bool
flagged w = get_or w 0 0 == 49

flagged-word : (b : Bool) → flagged (flag_word b) ≡ b
flagged-word true = refl
flagged-word false = refl

pub one_flag : (w : Word) (a b : Bool) → SpellsFlag w a → SpellsFlag w b → a ≡ b
one_flag w a b h k = sym (flagged-word a) ∙ ap flagged (sym h ∙ k) ∙ flagged-word b

one_list : (most : ℕ) (w : Word) (s t : FiniteSet) → SpellsAskedCpus most w s → SpellsAskedCpus most w t → s ≡ t
one_list most w s t (inl h) (inl k) = h.1 ∙ sym k.1
one_list most w s t (inl h) (inr k) = absurd (minus_no_list w t h.0 k.0)
one_list most w s t (inr h) (inl k) = absurd (minus_no_list w s k.0 h.0)
one_list most w s t (inr h) (inr k) = one_set w s t h.0 k.0

one_settings : (n : versions.Version) (u v w : Word) (ls : List Word) (s t : Settings) → SpellsSettings n u v w ls s → SpellsSettings n u v w ls t → s ≡ t
one_settings n u v w ls s t h k =
    let limits = one_limits n ls s.max_descendants s.max_depth t.max_descendants t.max_depth h.3 k.3 in
    λ i. record {
      control = one_control u s.control t.control h.0 k.0 i;
      freeze = one_flag v s.freeze t.freeze h.1 k.1 i;
      cpus = one_list (last_cpu n) w s.cpus t.cpus h.2 k.2 i;
      max_descendants = limits.0 i;
      max_depth = limits.1 i;
    }

-- two rows of four words and more are equal word by word
record Same4 (a b c d : Word) (ls : List Word) (e f g h : Word) (ms : List Word) : Type 0 where
  first : a ≡ e
  second : b ≡ f
  third : c ≡ g
  fourth : d ≡ h
  others : ls ≡ ms

group_words : (k a b c d : Word) (ls : List Word) (e f g h : Word) (ms : List Word) → k ∷ a ∷ b ∷ c ∷ d ∷ ls ≡ k ∷ e ∷ f ∷ g ∷ h ∷ ms → Same4 a b c d ls e f g h ms
group_words k a b c d ls e f g h ms q = record { first = cc; second = cc; third = cc; fourth = cc; others = cc }

-- the first letter of a line
abbrev letter : Statement → ℕ
letter (Version n) = 119
letter (Controllers s) = 99
letter (Online s) = 111
letter (Group p s) = 103
letter (Process k p) = 112
letter End = 101

abbrev letter_of : List Word → ℕ
letter_of ws = get_or (get_or ws 0 []) 0 0

spelled_letter : (v : versions.Version) (ws : List Word) (s : Statement) → SpellsStatement v ws s → letter_of ws ≡ letter s
spelled_letter v ws (Version n) h = ap letter_of h
spelled_letter v ws (Controllers s) h = ap letter_of h.1
spelled_letter v ws (Online s) h = ap letter_of h.1
spelled_letter v ws (Group p s) h = ap letter_of h.5
spelled_letter v ws (Process k p) h = ap letter_of h.2
spelled_letter v ws End h = ap letter_of h

letters : (v : versions.Version) (ws : List Word) (s t : Statement) → SpellsStatement v ws s → SpellsStatement v ws t → letter s ≡ letter t
letters v ws s t h k = sym (spelled_letter v ws s h) ∙ spelled_letter v ws t k

second_letter : List Word → ℕ
second_letter ws = get_or (get_or ws 1 []) 0 0

one_version : (v : versions.Version) (ws : List Word) (m n : versions.Version) → SpellsStatement v ws (Version m) → SpellsStatement v ws (Version n) → m ≡ n
unfolding second_letter
one_version v ws One One h k = refl
one_version v ws One Two h k = absurd (differ 49 50 (ap second_letter (sym h ∙ k)) refl)
one_version v ws Two One h k = absurd (differ 50 49 (ap second_letter (sym h ∙ k)) refl)
one_version v ws Two Two h k = refl

pub one_statement : (v : versions.Version) (ws : List Word) (s t : Statement) → SpellsStatement v ws s → SpellsStatement v ws t → s ≡ t
one_statement v ws (Version n) (Version m) h k = ap Version (one_version v ws n m h k)
one_statement v ws (Controllers s) (Controllers t) h k =
    let e : h.0 ≡ k.0 = cc (h.1, k.1) in
    ap Controllers (one_sum h.0 no_controllers s t h.2 (subst (λ ns. AddsControllers no_controllers ns t) (sym e) k.2))
one_statement v ws (Online s) (Online t) h k =
    let e : h.0 ≡ k.0 = cc (h.1, k.1) in
    let other = subst (λ w. SpellsSomeCpus (last_cpu v) w t) (sym e) k.2 in
    ap Online (one_set h.0 s t h.2.0 other.0)
one_statement v ws (Group p s) (Group q t) h k =
    let e = group_words (codes "group") h.0 h.1 h.2 h.3 h.4 k.0 k.1 k.2 k.3 k.4 (sym h.5 ∙ k.5) in
    let path : p ≡ q = one_path h.0 p q h.6 (subst (λ w. SpellsPath w q) (sym e.first) k.6) in
    let same : s ≡ t = one_settings v h.1 h.2 h.3 h.4 s t (h.7, h.8, h.9, h.10)
    (subst (λ w. SpellsControl w t.control) (sym e.second) k.7, subst (λ w. SpellsFlag w t.freeze) (sym e.third) k.8, subst (λ w. SpellsAskedCpus (last_cpu v) w t.cpus) (sym e.fourth) k.9, subst (λ ls. SpellsLimits v ls t.max_descendants t.max_depth) (sym e.others) k.10) in
    λ i. Group (path i) (same i)
one_statement v ws (Process n p) (Process m q) h k =
    let e : h.0 ≡ k.0 = cc (h.2, k.2) in
    let f : h.1 ≡ k.1 = cc (h.2, k.2) in
    let pid : n ≡ m = cc (h.3.1, k.3.1) in
    let path : p ≡ q = one_path h.1 p q h.4 (subst (λ w. SpellsPath w q) (sym f) k.4) in
    λ i. Process (pid i) (path i)
one_statement v ws End End h k = refl
one_statement v ws s t h k = absurd (differ (letter s) (letter t) (letters v ws s t h k) refl)

-- the four words behind `group` and those behind them are a path and its settings
pub group_settings : (v : versions.Version) (a b c d : Word) (ls : List Word) (s : Statement) → SpellsStatement v (codes "group" ∷ a ∷ b ∷ c ∷ d ∷ ls) s → (t : Settings) × SpellsSettings v b c d ls t
group_settings v a b c d ls (Group p s) h =
    let e = group_words (codes "group") a b c d ls h.0 h.1 h.2 h.3 h.4 h.5 in
    (s, (subst (λ w. SpellsControl w s.control) (sym e.second) h.7, subst (λ w. SpellsFlag w s.freeze) (sym e.third) h.8, subst (λ w. SpellsAskedCpus (last_cpu v) w s.cpus) (sym e.fourth) h.9, subst (λ ms. SpellsLimits v ms s.max_descendants s.max_depth) (sym e.others) h.10))
group_settings v a b c d ls s h = absurd (differ 103 (letter s) (spelled_letter v _ s h) refl)

abbrev nothing : Bor (List ℕ)
nothing = record { ref_ptr = (0, 0); now = [] }

-- four words of a slice, with the default that reading gives past its end, and those behind them
pub four_and_more : (ws : List (Bor (List ℕ))) → 4 ≤ length ws → map (λ w. w.now) ws ≡ (get_or ws 0 nothing).now ∷ (get_or ws 1 nothing).now ∷ (get_or ws 2 nothing).now ∷ (get_or ws 3 nothing).now ∷ map (λ w. w.now) (take (length ws - 4) (drop 4 ws))
four_and_more [] h = absurd (omega arith)
four_and_more (a ∷ []) h = absurd (omega arith)
four_and_more (a ∷ b ∷ []) h = absurd (omega arith)
four_and_more (a ∷ b ∷ c ∷ []) h = absurd (omega arith)
four_and_more (a ∷ b ∷ c ∷ d ∷ ws) h = ap (λ vs. a.now ∷ b.now ∷ c.now ∷ d.now ∷ map (λ w. w.now) vs) (sym (take_all (length (a ∷ b ∷ c ∷ d ∷ ws) - 4) ws (omega arith)))

-- the words of a slice are its first and those behind it
pub keyed : (ws : List (Bor (List ℕ))) (k : Word) → 1 ≤ length ws → (get_or ws 0 nothing).now ≡ k → k ∷ map (λ w. w.now) (take (length ws - 1) (drop 1 ws)) ≡ map (λ w. w.now) ws
keyed [] k h e = absurd (omega arith)
keyed (w ∷ ws) k h e = ap (λ v. v ∷ map (λ w. w.now) (take (length (w ∷ ws) - 1) ws)) (sym e) ∙ ap (λ vs. w.now ∷ map (λ w. w.now) vs) (take_all (length (w ∷ ws) - 1) ws (omega arith))
