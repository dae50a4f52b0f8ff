-- Words spell one command at most.
use Rattle.std.proofs.Common.{◌≡◌, ℕ, List, [], ◌∷◌, refl, sym, ap, subst, ◌∙◌}
use Rattle.cg_maps.specs.FiniteSet.{FiniteSet}
use Rattle.cg_name.specs.FileName.{file_word}
use Rattle.cg_name.specs.Path.{Path, SpellsPath}
use Rattle.cg_name.specs.declared.file_name.FileName.{FileName}
use Rattle.cg_name.proofs.WrittenPaths.{one_path}
use Rattle.cg_cpus.specs.CpuList.{SpellsCpus}
use Rattle.cg_cpus.proofs.Grammar.{one_set}
use Rattle.cg_text.specs.Reading.{SpellsFlag, SpellsPid, SpellsLimit, SpellsOpsAfter, no_ops}
use Rattle.cg_text.specs.Words.{Word}
use Rattle.cg_text.specs.declared.control_ops.ControlOps.{ControlOps}
use Rattle.cg_text.proofs.Files.{one_file}
use Rattle.cg_text.proofs.Limits.{one_limit}
use Rattle.cg_text.proofs.Operations.{one_result}
use Rattle.cg_model.specs.Command.{Command, Create, Remove, Migrate, Subtree, Freeze, Cpus, Show, Online, MaxDescendants, MaxDepth}
use Rattle.cg_world_text.proofs.Spelled.{one_flag}
use Rattle.cg_command_text.specs.CommandText.{SpellsCommand, SpellsCpuWords}
use Rattle.cg_command_text.specs.Laws.{OneCommand}
use Rattle.cg_command_text.proofs.Keywords.{which}

-- one word spells one value, and so do equal words
same : {W V : Type 0} (Spells : W → V → Type 0) → ((w : W) (x y : V) → Spells w x → Spells w y → x ≡ y) → (w v : W) (x y : V) → w ≡ v → Spells w x → Spells v y → x ≡ y
same Spells one w v x y e h k = one w x y h (subst (λ u. Spells u y) (sym e) k)

one_pid : (w : Word) (k l : ℕ) → SpellsPid w k → SpellsPid w l → k ≡ l
one_pid w k l a b = sym a.1 ∙ b.1

one_ops : (ws : List Word) (x y : ControlOps) → SpellsOpsAfter no_ops ws x → SpellsOpsAfter no_ops ws y → x ≡ y
one_ops ws x y h k = one_result ws no_ops x y h k

one_named : (w : Word) (f g : FileName) → w ≡ file_word f → w ≡ file_word g → f ≡ g
one_named w f g h k = one_file f g (sym h ∙ k)

one_cpus : (ws : List Word) (s t : FiniteSet) → SpellsCpuWords ws s → SpellsCpuWords ws t → s ≡ t
one_cpus [] s t h k = h ∙ sym k
one_cpus (w ∷ []) s t h k = one_set w s t h k
one_cpus (w ∷ v ∷ ws) s t h k = absurd h

-- a path and a value make one command at most: equal words spell both
made_of_both : {W V : Type 0} (make : Path → V → Command) (Spells : W → V → Type 0) → ((w : W) (x y : V) → Spells w x → Spells w y → x ≡ y)
    → (v u : Word) (w t : W) (p q : Path) (x y : V) (c : Command) → (v ≡ u) × (w ≡ t) → SpellsPath v p × Spells w x → SpellsPath u q × Spells t y → c ≡ make q y → make p x ≡ c
made_of_both make Spells one v u w t p q x y c e h k is =
    let path = same SpellsPath one_path v u p q e.0 h.0 k.0 in
    let value = same Spells one w t x y e.1 h.1 k.1 in
    (λ i. make (path i) (value i)) ∙ sym is

pub one_command : OneCommand
one_command ws (Create p) d a b =
    let q = which ws _ d a.1 b in
    let c : SpellsCommand ws (Create q.0) = subst (SpellsCommand ws) q.1 b in
    ap (λ x. Create x) (same SpellsPath one_path a.0 c.0 p q.0 (cc (a.1, c.1)) a.2 c.2) ∙ sym q.1
one_command ws (Remove p) d a b =
    let q = which ws _ d a.1 b in
    let c : SpellsCommand ws (Remove q.0) = subst (SpellsCommand ws) q.1 b in
    ap (λ x. Remove x) (same SpellsPath one_path a.0 c.0 p q.0 (cc (a.1, c.1)) a.2 c.2) ∙ sym q.1
one_command ws (Migrate k p) d a b =
    let q = which ws _ d a.2 b in
    let c : SpellsCommand ws (Migrate q.0 q.1) = subst (SpellsCommand ws) q.2 b in
    made_of_both (λ p k. Migrate k p) SpellsPid one_pid a.1 c.1 a.0 c.0 p q.1 k q.0 d (cc (a.2, c.2), cc (a.2, c.2)) (a.4, a.3) (c.4, c.3) q.2
one_command ws (Subtree p ops) d a b =
    let q = which ws _ d a.2 b in
    let c : SpellsCommand ws (Subtree q.0 q.1) = subst (SpellsCommand ws) q.2 b in
    made_of_both (λ p ops. Subtree p ops) (SpellsOpsAfter no_ops) one_ops a.0 c.0 a.1 c.1 p q.0 ops q.1 d (cc (a.2, c.2), cc (a.2, c.2)) (a.3, a.4) (c.3, c.4) q.2
one_command ws (Freeze p v) d a b =
    let q = which ws _ d a.2 b in
    let c : SpellsCommand ws (Freeze q.0 q.1) = subst (SpellsCommand ws) q.2 b in
    made_of_both (λ p v. Freeze p v) SpellsFlag one_flag a.0 c.0 a.1 c.1 p q.0 v q.1 d (cc (a.2, c.2), cc (a.2, c.2)) (a.3, a.4) (c.3, c.4) q.2
one_command ws (Cpus p s) d a b =
    let q = which ws _ d a.2 b in
    let c : SpellsCommand ws (Cpus q.0 q.1) = subst (SpellsCommand ws) q.2 b in
    made_of_both (λ p s. Cpus p s) SpellsCpuWords one_cpus a.0 c.0 a.1 c.1 p q.0 s q.1 d (cc (a.2, c.2), cc (a.2, c.2)) (a.3, a.4) (c.3, c.4) q.2
one_command ws (Show p f) d a b =
    let q = which ws _ d a.1 b in
    let c : SpellsCommand ws (Show q.0 q.1) = subst (SpellsCommand ws) q.2 b in
    made_of_both (λ p f. Show p f) (λ w f. w ≡ file_word f) one_named a.0 c.0 (file_word f) (file_word q.1) p q.0 f q.1 d (cc (a.1, c.1), cc (a.1, c.1)) (a.2, refl) (c.2, refl) q.2
one_command ws (Online s) d a b =
    let q = which ws _ d a.1 b in
    let c : SpellsCommand ws (Online q.0) = subst (SpellsCommand ws) q.1 b in
    ap (λ x. Online x) (same SpellsCpus one_set a.0 c.0 s q.0 (cc (a.1, c.1)) a.2 c.2) ∙ sym q.1
one_command ws (MaxDescendants p l) d a b =
    let q = which ws _ d a.2 b in
    let c : SpellsCommand ws (MaxDescendants q.0 q.1) = subst (SpellsCommand ws) q.2 b in
    made_of_both (λ p l. MaxDescendants p l) SpellsLimit one_limit a.0 c.0 a.1 c.1 p q.0 l q.1 d (cc (a.2, c.2), cc (a.2, c.2)) (a.3, a.4) (c.3, c.4) q.2
one_command ws (MaxDepth p l) d a b =
    let q = which ws _ d a.2 b in
    let c : SpellsCommand ws (MaxDepth q.0 q.1) = subst (SpellsCommand ws) q.2 b in
    made_of_both (λ p l. MaxDepth p l) SpellsLimit one_limit a.0 c.0 a.1 c.1 p q.0 l q.1 d (cc (a.2, c.2), cc (a.2, c.2)) (a.3, a.4) (c.3, c.4) q.2
