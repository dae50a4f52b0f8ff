-- The lines of a text, one after another.
use Rattle.std.proofs.Common.{◌≡◌, ℕ, ◌≤◌, ◌↔◌, inl, inr, Option, Some, None, List, [], ◌∷◌, length, refl, sym, ap, subst, ◌∙◌}
use Rattle.std.specs.List.{slice_split}
use Rattle.cg_text.specs.Words.{Line, Word, is_newline, Says, SayAll}
use Rattle.cg_model.specs.Tree.{Tree}
use Rattle.cg_model.specs.Sound.{Sound}
use Rattle.cg_world_text.specs.declared.stage.Stage.{Stage}
use Rattle.cg_world_text.specs.declared.stage.Stage.TheVariants.{Begun, Ended}
use Rattle.cg_world_text.specs.declared.statement.Statement.{Statement}
use Rattle.cg_world_text.specs.declared.version.Version as versions
use Rattle.cg_world_text.specs.Statement.{SpellsStatement}
use Rattle.cg_world_text.specs.World.{SpellsEach, SpellsWorld}
use Rattle.cg_world_text.specs.Reader.{SpellTree}
use Rattle.cg_world_text.specs.Stage.{taken, version_at, Finishes, Leads}
use Rattle.cg_text.proofs.Cuts.{one_saying, one_text}
use Rattle.cg_text.proofs.Lines.{say_parts}
use Rattle.cg_world_text.proofs.Spelled.{one_statement}
use Rattle.cg_world_text.proofs.Stages.{goes, stops, ended, read_by}

-- an empty line behind the last newline says nothing
pub leads : (text : List ℕ) (T : Tree) → SpellsWorld text T → SpellTree (slice_split is_newline text) T
leads text T h = record {
  said = h.said;
  lines_say = (say_parts (slice_split is_newline text) h.said).0 h.lines;
  version = h.version;
  statements = h.statements;
  spelled = h.spelled;
  arranged = h.arranged;
}

pub spells : (text : List ℕ) (T : Tree) → length text ≤ 16777216 → SpellTree (slice_split is_newline text) T → Sound T → SpellsWorld text T
spells text T short h sound = record {
  short = short;
  said = h.said;
  lines = (say_parts (slice_split is_newline text) h.said).1 h.lines_say;
  version = h.version;
  statements = h.statements;
  spelled = h.spelled;
  arranged = h.arranged;
  sound = sound;
}

-- ---- the lines make one tree at most

-- a line that can stand at a stage says the same by the version of the text and by that of the stage
by_stage : (st : Stage) (v : versions.Version) (ws : List Word) (s : Statement) (ss : List Statement) (U : Tree) → Finishes st v (s ∷ ss) U → SpellsStatement v ws s ↔ SpellsStatement (version_at st) ws s
by_stage st v ws s ss U f = elim (read_by st v s ss U f) [
  | inl e ↦ ((λ h. subst (λ n. SpellsStatement n ws s) (sym e) h), (λ h. subst (λ n. SpellsStatement n ws s) e h))
  | inr e ↦ ((λ h. subst (SpellsStatement (version_at st) ws) (sym e) (subst (SpellsStatement v ws) e h)), (λ h. subst (SpellsStatement v ws) (sym e) (subst (SpellsStatement (version_at st) ws) e h)))
]

one_made : (wss : List (List Word)) (st : Stage) (v w : versions.Version) (ss ts : List Statement) (T U : Tree) → SpellsEach v wss ss → SpellsEach w wss ts → Finishes st v ss T → Finishes st w ts U → T ≡ U
one_made [] st v w [] [] T U h k f g = let e : Ended v T ≡ Ended w U = sym (ended st v T f) ∙ ended st w U g in cc e
one_made [] st v w [] (t ∷ ts) T U h k f g = absurd k
one_made [] st v w (s ∷ ss) ts T U h k f g = absurd h
one_made (ws ∷ wss) st v w [] ts T U h k f g = absurd h
one_made (ws ∷ wss) st v w (s ∷ ss) [] T U h k f g = absurd k
one_made (ws ∷ wss) st v w (s ∷ ss) (t ∷ ts) T U h k f g =
    let same : s ≡ t = one_statement (version_at st) ws s t ((by_stage st v ws s ss T f).0 h.0) ((by_stage st w ws t ts U g).0 k.0) in
    elim (taken st s) as (λ o. taken st s ≡ o → T ≡ U) [
      | None ↦ λ e. absurd (stops st s e v ss T f)
      | Some next ↦ λ e. one_made wss next v w ss ts T U h.1 k.1 ((goes st s next e v ss T).0 f) ((goes st s next e w ts U).0 (subst (λ r. Finishes st w (r ∷ ts) U) (sym same) g))
    ] refl

one_tree : (st : Stage) (lines : List Line) (T U : Tree) → Leads st lines T → Leads st lines U → T ≡ U
one_tree st lines T U h k =
    one_made h.said st h.version k.version h.statements k.statements T U h.spelled (subst (λ ws. SpellsEach k.version ws k.statements) (one_text lines k.said h.said k.lines_say h.lines_say) k.spelled) h.finished k.finished

-- lines that spell a tree lead to it from the start
pub from_begun : (lines : List Line) (T : Tree) → SpellTree lines T ↔ Leads Begun lines T
from_begun lines T = (
  (λ h. record { said = h.said; lines_say = h.lines_say; version = h.version; statements = h.statements; spelled = h.spelled; finished = h.arranged }),
  (λ h. record { said = h.said; lines_say = h.lines_say; version = h.version; statements = h.statements; spelled = h.spelled; arranged = h.finished }),
)

pub one_spelled : (lines : List Line) (T U : Tree) → SpellTree lines T → SpellTree lines U → T ≡ U
one_spelled lines T U h k = one_tree Begun lines T U ((from_begun lines T).0 h) ((from_begun lines U).0 k)

-- ---- one line more

-- what a line that says nothing leaves to say, and what one with words does
behind_nothing : (l : Line) (lines : List Line) (said : List (List Word)) → Says l None → SayAll (l ∷ lines) said → SayAll lines said
behind_nothing l lines said none (inl k) = k.1
behind_nothing l lines said none (inr k) = absurd (cc (one_saying l None (Some k.0) none k.2))

behind_words : (l : Line) (lines : List Line) (said : List (List Word)) (ws : List Word) → Says l (Some ws) → SayAll (l ∷ lines) said → (others : List (List Word)) × (said ≡ ws ∷ others) × SayAll lines others
behind_words l lines said ws some (inl k) = absurd (cc (one_saying l None (Some ws) k.0 some))
behind_words l lines said ws some (inr k) = let e : k.0 ≡ ws = cc (one_saying l (Some k.0) (Some ws) k.2 some) in (k.1, k.3 ∙ ap (λ w. w ∷ k.1) e, k.4)

-- a line that says nothing
pub silent : (st : Stage) (l : Line) → Says l None → (lines : List Line) (T : Tree) → Leads st (l ∷ lines) T ↔ Leads st lines T
silent st l none lines T = (
  (λ h. record { said = h.said; lines_say = behind_nothing l lines h.said none h.lines_say; version = h.version; statements = h.statements; spelled = h.spelled; finished = h.finished }),
  (λ h. record { said = h.said; lines_say = inl (none, h.lines_say); version = h.version; statements = h.statements; spelled = h.spelled; finished = h.finished }),
)

-- the statements of a line that says something, and of those behind it
record Splits (st : Stage) (ws : List Word) (lines : List Line) (T : Tree) : Type 0 where
  said : List (List Word)
  lines_say : SayAll lines said
  version : versions.Version
  first : Statement
  others : List Statement
  says : SpellsStatement (version_at st) ws first
  rest : SpellsEach version said others
  finished : Finishes st version (first ∷ others) T

split : (st : Stage) (l : Line) (ws : List Word) → Says l (Some ws) → (lines : List Line) (T : Tree) → Leads st (l ∷ lines) T → Splits st ws lines T
split st l ws some lines T h =
    let k = behind_words l lines h.said ws some h.lines_say in
    at k.0 k.2 h.statements (subst (λ vs. SpellsEach h.version vs h.statements) k.1 h.spelled) h.finished
  where
    at : (said : List (List Word)) → SayAll lines said → (ss : List Statement) → SpellsEach h.version (ws ∷ said) ss → Finishes st h.version ss T → Splits st ws lines T
    at said all [] k f = absurd k
    at said all (s ∷ ss) k f = record { said = said; lines_say = all; version = h.version; first = s; others = ss; says = (by_stage st h.version ws s ss T f).0 k.0; rest = k.1; finished = f }

-- a line that can stand here
pub spoken : (st next : Stage) (l : Line) (ws : List Word) (s : Statement) → Says l (Some ws) → SpellsStatement (version_at st) ws s → taken st s ≡ Some next → (lines : List Line) (T : Tree) → Leads st (l ∷ lines) T ↔ Leads next lines T
spoken st next l ws s some says g lines T = (
  (λ h.
      let p = split st l ws some lines T h in
      let same = one_statement (version_at st) ws p.first s p.says says in
      record { said = p.said; lines_say = p.lines_say; version = p.version; statements = p.others; spelled = p.rest; finished = (goes st s next g p.version p.others T).0 (subst (λ t. Finishes st p.version (t ∷ p.others) T) same p.finished) }),
  (λ h.
      let back : Finishes st h.version (s ∷ h.statements) T = (goes st s next g h.version h.statements T).1 h.finished in
      record {
        said = ws ∷ h.said;
        lines_say = inr (ws, h.said, some, refl, h.lines_say);
        version = h.version;
        statements = s ∷ h.statements;
        spelled = ((by_stage st h.version ws s h.statements T back).1 says, h.spelled);
        finished = back;
      }),
)

-- a line that can't
pub misplaced : (st : Stage) (l : Line) (ws : List Word) (s : Statement) → Says l (Some ws) → SpellsStatement (version_at st) ws s → taken st s ≡ None → (lines : List Line) (T : Tree) → Leads st (l ∷ lines) T → ⊥
misplaced st l ws s some says g lines T h =
    let p = split st l ws some lines T h in
    stops st s g p.version p.others T (subst (λ t. Finishes st p.version (t ∷ p.others) T) (one_statement (version_at st) ws p.first s p.says says) p.finished)

-- a line that says nothing that it may
pub unspoken : (st : Stage) (l : Line) (ws : List Word) → Says l (Some ws) → ((s : Statement) → SpellsStatement (version_at st) ws s → ⊥) → (lines : List Line) (T : Tree) → Leads st (l ∷ lines) T → ⊥
unspoken st l ws some none lines T h = let p = split st l ws some lines T h in none p.first p.says

-- a line that isn't good
pub unsaid : (st : Stage) (l : Line) → ((said : Option (List Word)) → Says l said → ⊥) → (lines : List Line) (T : Tree) → Leads st (l ∷ lines) T → ⊥
unsaid st l none lines T h = at h.lines_say
  where
    at : SayAll (l ∷ lines) h.said → ⊥
    at (inl k) = none None k.0
    at (inr k) = none (Some k.0) k.2

-- where no line is left
pub at_end : (st : Stage) (T : Tree) → Leads st [] T → (v : versions.Version) × (st ≡ Ended v T)
at_end st T h = at h.statements (subst (λ ws. SpellsEach h.version ws h.statements) h.lines_say h.spelled) h.finished
  where
    at : (ss : List Statement) → SpellsEach h.version [] ss → Finishes st h.version ss T → (v : versions.Version) × (st ≡ Ended v T)
    at [] k f = (h.version, ended st h.version T f)
    at (s ∷ ss) k f = absurd k

pub leads_itself : (v : versions.Version) (T : Tree) → Leads (Ended v T) [] T
leads_itself v T = record { said = []; lines_say = refl; version = v; statements = []; spelled = tt; finished = (refl, refl, refl) }
