-- What a reader has taken, one line after another.
use Rattle.std.proofs.Common.{◌≡◌, ◌↔◌, ◌⊎◌, inl, inr, Some, None, List, [], ◌∷◌, ◌++◌, codes, refl, sym, subst, append_assoc, append-nil}
use Rattle.std.proofs.lemmas.Option.{same_Some}
use Rattle.cg_text.specs.Words.{Line, Word, Says}
use Rattle.cg_model.specs.Tree.{Tree}
use Rattle.cg_world_text.specs.declared.stage.Stage.{Stage}
use Rattle.cg_world_text.specs.declared.stage.Stage.TheVariants.{Begun, Versioned, Controlled, Groups, Processes, Ended}
use Rattle.cg_world_text.specs.declared.statement.Statement.{Statement}
use Rattle.cg_world_text.specs.declared.statement.Statement.TheVariants.{Version, Controllers, Online, Group, Process, End}
use Rattle.cg_world_text.specs.declared.version.Version as versions
use Rattle.cg_world_text.specs.Statement.{SpellsStatement}
use Rattle.cg_world_text.specs.Reader.{BeginTree, SpellTree, EndsWorld, SomeEnds, HasEnded, HasTaken}
use Rattle.cg_world_text.specs.Stage.{taken, version_at, Leads}
use Rattle.cg_text.proofs.Cuts.{one_saying}
use Rattle.cg_world_text.proofs.Lines.{at_end, leads_itself, one_spelled, silent, spoken}
use Rattle.cg_world_text.proofs.Spelled.{one_statement}
use Rattle.cg_world_text.proofs.Stages.{both, free}

-- ---- whether one of the lines ends a world

some_front : (xs ys : List Line) → SomeEnds xs → SomeEnds (xs ++ ys)
some_front [] ys h = absurd h
some_front (x ∷ xs) ys (inl h) = inl h
some_front (x ∷ xs) ys (inr h) = inr (some_front xs ys h)

pub some_last : (xs : List Line) (line : Line) → EndsWorld line → SomeEnds (xs ++ line ∷ [])
some_last [] line h = inl h
some_last (x ∷ xs) line h = inr (some_last xs line h)

some_parts : (xs : List Line) (line : Line) → SomeEnds (xs ++ line ∷ []) → SomeEnds xs ⊎ EndsWorld line
some_parts [] line (inl h) = inr h
some_parts [] line (inr h) = absurd h
some_parts (x ∷ xs) line (inl h) = inl (inl h)
some_parts (x ∷ xs) line (inr h) = elim (some_parts xs line h) [ inl k ↦ inl (inr k) | inr k ↦ inr k ]

-- one line more, which ends a world or doesn't
ends_more : (E : Type 0) (lines : List Line) (line : Line) → E ↔ EndsWorld line → (SomeEnds lines → ⊥) → E ↔ SomeEnds (lines ++ line ∷ [])
ends_more E lines line e none = (
  (λ h. some_last lines line (e.0 h)),
  (λ h. elim (some_parts lines line h) [ inl k ↦ absurd (none k) | inr k ↦ e.1 k ]),
)

-- and one that says nothing
ends_no_more : (E : Type 0) (lines : List Line) (line : Line) → E ↔ SomeEnds lines → (EndsWorld line → ⊥) → E ↔ SomeEnds (lines ++ line ∷ [])
ends_no_more E lines line e none = (
  (λ h. some_front lines (line ∷ []) (e.0 h)),
  (λ h. elim (some_parts lines line h) [ inl k ↦ e.1 k | inr k ↦ absurd (none k) ]),
)

-- ---- whether all was read

-- a line can stand only where not all was read
open_before : (st : Stage) (s : Statement) (next : Stage) → taken st s ≡ Some next → HasEnded st → ⊥
open_before Begun s next e h = h
open_before (Versioned n) s next e h = h
open_before (Controlled n cs) s next e h = h
open_before (Groups n T) s next e h = h
open_before (Processes n T) s next e h = h
open_before (Ended n T) s next e h = cc e

-- what a stage isn't, no stage equal to it is
no_end : (st next : Stage) → (HasEnded st → ⊥) → st ≡ next → HasEnded next → ⊥
no_end st next none e h = none (subst HasEnded (sym e) h)

-- and only the end makes it so
ended_by : (st : Stage) (s : Statement) (next : Stage) → taken st s ≡ Some next → HasEnded next ↔ (s ≡ End)
ended_by Begun (Version m) next e = ((λ h. absurd (no_end (Versioned m) next (λ x. x) (same_Some _ _ e) h)), (λ k. absurd (cc k)))
ended_by Begun (Controllers ds) next e = absurd (cc e)
ended_by Begun (Online o) next e = absurd (cc e)
ended_by Begun (Group p s) next e = absurd (cc e)
ended_by Begun (Process k p) next e = absurd (cc e)
ended_by Begun End next e = absurd (cc e)
ended_by (Versioned n) (Version m) next e = absurd (cc e)
ended_by (Versioned n) (Controllers ds) next e = ((λ h. absurd (no_end (Controlled n ds) next (λ x. x) (same_Some _ _ e) h)), (λ k. absurd (cc k)))
ended_by (Versioned n) (Online o) next e = absurd (cc e)
ended_by (Versioned n) (Group p s) next e = absurd (cc e)
ended_by (Versioned n) (Process k p) next e = absurd (cc e)
ended_by (Versioned n) End next e = absurd (cc e)
ended_by (Controlled n cs) (Version m) next e = absurd (cc e)
ended_by (Controlled n cs) (Controllers ds) next e = absurd (cc e)
ended_by (Controlled n cs) (Online o) next e = ((λ h. absurd (no_end (Groups n _) next (λ x. x) (same_Some _ _ e) h)), (λ k. absurd (cc k)))
ended_by (Controlled n cs) (Group p s) next e = absurd (cc e)
ended_by (Controlled n cs) (Process k p) next e = absurd (cc e)
ended_by (Controlled n cs) End next e = absurd (cc e)
ended_by (Groups n T) (Version m) next e = absurd (cc e)
ended_by (Groups n T) (Controllers ds) next e = absurd (cc e)
ended_by (Groups n T) (Online o) next e = absurd (cc e)
ended_by (Groups n T) (Group p s) next e = ((λ h. absurd (no_end (Groups n _) next (λ x. x) (free _ _ next e).1 h)), (λ k. absurd (cc k)))
ended_by (Groups n T) (Process k p) next e = ((λ h. absurd (no_end (Processes n _) next (λ x. x) (free _ _ next e).1 h)), (λ j. absurd (cc j)))
ended_by (Groups n T) End next e = ((λ h. refl), (λ k. subst HasEnded (same_Some _ _ e) tt))
ended_by (Processes n T) (Version m) next e = absurd (cc e)
ended_by (Processes n T) (Controllers ds) next e = absurd (cc e)
ended_by (Processes n T) (Online o) next e = absurd (cc e)
ended_by (Processes n T) (Group p s) next e = absurd (cc e)
ended_by (Processes n T) (Process k p) next e = ((λ h. absurd (no_end (Processes n _) next (λ x. x) (free _ _ next e).1 h)), (λ j. absurd (cc j)))
ended_by (Processes n T) End next e = ((λ h. refl), (λ k. subst HasEnded (same_Some _ _ e) tt))
ended_by (Ended n T) s next e = absurd (cc e)

-- a line says `end` where its words do
says_end : (v : versions.Version) (l : Line) (ws : List Word) (s : Statement) → Says l (Some ws) → SpellsStatement v ws s → (s ≡ End) ↔ EndsWorld l
says_end v l ws s says spells = (
  (λ e. let same : ws ≡ codes "end" ∷ [] = subst (SpellsStatement v ws) e spells in subst (λ w. Says l (Some w)) same says),
  (λ h. let same : ws ≡ codes "end" ∷ [] = same_Some _ _ (one_saying l (Some ws) (Some (codes "end" ∷ [])) says h) in one_statement v ws s End spells same),
)

-- a line among others
regroup : (lines : List Line) (line : Line) (others : List Line) (T : Tree) → SpellTree ((lines ++ line ∷ []) ++ others) T ↔ SpellTree (lines ++ line ∷ others) T
regroup lines line others T =
    let e = append_assoc lines (line ∷ []) others in
    ((λ h. subst (λ ls. SpellTree ls T) e h), (λ h. subst (λ ls. SpellTree ls T) (sym e) h))

-- ---- the lines taken

-- a line more that says nothing
pub taken_silent : (st : Stage) (line : Line) → Says line None → (lines : List Line) → HasTaken st lines → HasTaken st (lines ++ line ∷ [])
taken_silent st line none lines h = record {
  goes_on = λ others T. both (regroup lines line others T) (both (h.goes_on (line ∷ others) T) (silent st line none others T));
  ended = ends_no_more (HasEnded st) lines line h.ended (λ k. cc (one_saying line None (Some (codes "end" ∷ [])) none k));
}

-- a line more that can stand there
pub taken_spoken : (st next : Stage) (line : Line) (ws : List Word) (s : Statement) → Says line (Some ws) → SpellsStatement (version_at st) ws s → taken st s ≡ Some next → (lines : List Line) → HasTaken st lines → HasTaken next (lines ++ line ∷ [])
taken_spoken st next line ws s says spells e lines h = record {
  goes_on = λ others T. both (regroup lines line others T) (both (h.goes_on (line ∷ others) T) (spoken st next line ws s says spells e others T));
  ended = ends_more (HasEnded next) lines line (both (ended_by st s next e) (says_end (version_at st) line ws s says spells)) (λ k. open_before st s next e (h.ended.1 k));
}

-- and one that can't
pub taken_no_more : (st : Stage) (line : Line) → ((others : List Line) (T : Tree) → Leads st (line ∷ others) T → ⊥) → (lines : List Line) → HasTaken st lines → BeginTree (lines ++ line ∷ []) → ⊥
taken_no_more st line none lines h b = none b.0 b.1 ((h.goes_on (line ∷ b.0) b.1).0 ((regroup lines line b.0 b.1).0 b.2))

-- ---- where no line is left

alone : (st : Stage) (lines : List Line) (T : Tree) → HasTaken st lines → SpellTree lines T ↔ Leads st [] T
alone st lines T h =
    let e = append-nil lines in
    ((λ k. (h.goes_on [] T).0 (subst (λ ls. SpellTree ls T) (sym e) k)), (λ k. subst (λ ls. SpellTree ls T) e ((h.goes_on [] T).1 k)))

pub taken_all : (v : versions.Version) (T : Tree) (lines : List Line) → HasTaken (Ended v T) lines → SpellTree lines T
taken_all v T lines h = (alone (Ended v T) lines T h).1 (leads_itself v T)

pub all_taken : (st : Stage) (lines : List Line) (T : Tree) → HasTaken st lines → SpellTree lines T → (v : versions.Version) × (st ≡ Ended v T)
all_taken st lines T h k = at_end st T ((alone st lines T h).0 k)

-- the tree of a reader that has ended is the one that the lines spell
pub tree_taken : (v : versions.Version) (U : Tree) (lines : List Line) (T : Tree) → HasTaken (Ended v U) lines → SpellTree lines T → T ≡ U
tree_taken v U lines T h k = one_spelled lines T U k (taken_all v U lines h)
