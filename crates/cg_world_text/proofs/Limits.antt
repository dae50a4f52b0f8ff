-- Limits, and the words that spell them.
use Rattle.std.proofs.Common.{◌≡◌, List, sym, subst, ◌∙◌}
use Rattle.cg_text.specs.Reading.{SpellsLimit}
use Rattle.cg_text.specs.Words.{Word}
use Rattle.cg_text.specs.declared.limit.Limit.{Limit}
use Rattle.cg_text.proofs.Limits.{one_limit}
use Rattle.cg_world_text.specs.declared.version.Version.{Version}
use Rattle.cg_world_text.specs.declared.version.Version.TheVariants.{One, Two}
use Rattle.cg_world_text.specs.Statement.{SpellsLimits}

-- the words behind a group's CPUs are one pair of limits at most
pub one_limits : (v : Version) (ws : List Word) (a b c d : Limit) → SpellsLimits v ws a b → SpellsLimits v ws c d → (a ≡ c) × (b ≡ d)
one_limits One ws a b c d h k = (h.1 ∙ sym k.1, h.2 ∙ sym k.2)
one_limits Two ws a b c d h k =
    let e : h.0 ≡ k.0 = cc (h.2, k.2) in
    let f : h.1 ≡ k.1 = cc (h.2, k.2) in
    (one_limit h.0 a c h.3 (subst (λ w. SpellsLimit w c) (sym e) k.3), one_limit h.1 b d h.4 (subst (λ w. SpellsLimit w d) (sym f) k.4))
