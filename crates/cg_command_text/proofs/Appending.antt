-- Words with single spaces: the first, and those behind it.
use Rattle.std.proofs.Common.{◌≡◌, ◌↔◌, ℕ, Bool, true, false, not, IsTrue, cond, ◌||◌, List, [], ◌∷◌, ◌++◌, map, Result, Ok, Err, OnOk, refl, sym, ap, ◌∙◌, append_assoc, true≢false}
use Rattle.std.proofs.lemmas.List.{append-nil}
use Rattle.cg_maps.specs.FiniteMap.{is_nonempty}
use Rattle.cg_name.specs.Controller.{controller_word}
use Rattle.cg_text.specs.Controllers.{has, members, no_controllers, such_that}
use Rattle.cg_text.specs.FileText.{op_words, ops_text}
use Rattle.cg_text.specs.Words.{Word, line_of}
use Rattle.cg_text.specs.declared.control_ops.ControlOps.{ControlOps}
use Rattle.cg_text.specs.declared.controllers.Controllers.{Controllers}
use Rattle.cg_text.proofs.Sets.{some_member, tells_none}
use Rattle.cg_command_text.specs.Spaced.{spaced}

pub spaced_line : (w : Word) (ws : List Word) → line_of (w ∷ ws) ≡ w ++ spaced ws
spaced_line w [] = sym (append-nil w)
spaced_line w (v ∷ ws) = ap (λ t. w ++ 32 ∷ t) (spaced_line v ws)

-- two words, and those behind them
pub more_words : {E : Type 0} (r : Result Unit E) (old middle new : List ℕ) (k w : Word) (ws : List Word) → middle ≡ old ++ line_of (k ∷ w ∷ []) → OnOk r (new ≡ middle ++ spaced ws) → OnOk r (new ≡ old ++ line_of (k ∷ w ∷ ws))
more_words (Err e) old middle new k w ws m n = tt
more_words (Ok x) old middle new k w ws m n =
    n ∙ ap (λ t. t ++ spaced ws) m ∙ append_assoc old (k ++ 32 ∷ w) (spaced ws) ∙ ap (λ t. old ++ t) (append_assoc k (32 ∷ w) (spaced ws) ∙ ap (λ t. k ++ 32 ∷ t) (sym (spaced_line w ws)))

-- ---- the words of operations

mapped_some : {A B : Type 0} (f : A → B) (xs : List A) → is_nonempty (map f xs) ≡ is_nonempty xs
mapped_some f [] = refl
mapped_some f (x ∷ xs) = refl

no_words : (ws : List Word) → is_nonempty ws ≡ false → spaced ws ≡ []
no_words [] e = refl
no_words (w ∷ ws) e = absurd (true≢false e)

some_words : (ws : List Word) → is_nonempty ws ≡ true → 32 ∷ line_of ws ≡ spaced ws
some_words [] e = absurd (true≢false (sym e))
some_words (w ∷ ws) e = ap (λ t. 32 ∷ t) (spaced_line w ws)

-- the controllers that operations name
abbrev pub named : ControlOps → Controllers
named ops = such_that (λ c. has ops.plus c || has ops.minus c)

has_words : (ops : ControlOps) (s : Controllers) (none : Bool) → s ≡ named ops → (IsTrue none ↔ (s ≡ no_controllers)) → is_nonempty (op_words ops) ≡ not none
has_words ops s none e h =
    mapped_some (λ c. cond (has ops.plus c) 43 45 ∷ controller_word c) (members (named ops))
    ∙ ap (λ t. is_nonempty (members t)) (sym e) ∙ some_member s ∙ ap not (tells_none s none h)

pub no_op_words : (ops : ControlOps) (s : Controllers) (none : Bool) → s ≡ named ops → (IsTrue none ↔ (s ≡ no_controllers)) → none ≡ true → spaced (op_words ops) ≡ []
no_op_words ops s none e h n = no_words (op_words ops) (has_words ops s none e h ∙ ap not n)

pub some_op_words : (ops : ControlOps) (s : Controllers) (none : Bool) → s ≡ named ops → (IsTrue none ↔ (s ≡ no_controllers)) → none ≡ false → 32 ∷ ops_text ops ≡ spaced (op_words ops)
some_op_words ops s none e h n = some_words (op_words ops) (has_words ops s none e h ∙ ap not n)

-- a space and a text, which are some words behind others
pub spaced_text : {E : Type 0} (r : Result Unit E) (old middle new text all : List ℕ) → middle ≡ old ++ 32 ∷ [] → OnOk r (new ≡ middle ++ text) → 32 ∷ text ≡ all → OnOk r (new ≡ old ++ all)
spaced_text (Err e) old middle new text all m n s = tt
spaced_text (Ok x) old middle new text all m n s = n ∙ ap (λ t. t ++ text) m ∙ append_assoc old (32 ∷ []) text ∙ ap (λ t. old ++ t) s
