-- What is still to come of a text, as its lines are taken from the front.
use Rattle.std.proofs.Common.{◌≡◌, ℕ, ◌<◌, List, [], ◌∷◌, ◌++◌, length, codes, sym, ap, ◌∙◌, append_assoc, length-append, arith}
use Rattle.std.specs.List.{flat_map}
use Rattle.cg_maps.specs.FiniteMap.{entries}
use Rattle.cg_name.specs.Path.{Path}
use Rattle.cg_name.proofs.Growing.{Begins, begins_itself, begins_on}
use Rattle.cg_text.specs.declared.settings.Settings.{Settings}
use Rattle.cg_model.specs.Tree.{Tree}
use Rattle.cg_world_text.specs.declared.tree_writing.Coming.TheVariants.{Head}
use Rattle.cg_world_text.specs.declared.version.Version.{Version}
use Rattle.cg_world_text.specs.World.{group_line, newline, process_line, text_of_version, world_text, written_version}
use Rattle.cg_world_text.specs.Writing.{head_lines}
use Rattle.cg_world_text.specs.ToCome.{lines_to_come, listed_lines}

-- a line that has a byte leaves less
pub shorter : (b : ℕ) (bs rest all : List ℕ) → all ≡ (b ∷ bs) ++ rest → length rest < length all
shorter b bs rest all e = omega (arith, ap length e, length-append bs rest)

-- the line of the first group stands first,
pub group_first : (v : Version) (g : Path × Settings) (all groups : List (Path × Settings)) (processes : List (ℕ × Path)) → all ≡ g ∷ groups → listed_lines v all processes ≡ group_line v g ++ listed_lines v groups processes
group_first v g all groups processes e =
    ap (λ gs. listed_lines v gs processes) e
    ∙ append_assoc (group_line v g) (flat_map (group_line v) groups) (flat_map process_line processes ++ (codes "end" ++ newline))

-- and where no group is left, that of the first process
pub process_first : (v : Version) (p : ℕ × Path) (groups groups' : List (Path × Settings)) (all processes : List (ℕ × Path)) → groups ≡ [] → groups' ≡ [] → all ≡ p ∷ processes
    → listed_lines v groups all ≡ process_line p ++ listed_lines v groups' processes
process_first v p groups groups' all processes none none' e =
    (λ i. listed_lines v (none i) (e i))
    ∙ append_assoc (process_line p) (flat_map process_line processes) (codes "end" ++ newline)
    ∙ ap (λ gs. process_line p ++ listed_lines v gs processes) (sym none')

parts_of_five : (a b c d e : List ℕ) → (((a ++ b) ++ c) ++ d) ++ e ≡ a ++ (b ++ (c ++ (d ++ e)))
parts_of_five a b c d e = simp append_assoc

-- at first all of the text is still to come
pub all_to_come : (v : Version) (T : Tree) (groups : List (Path × Settings)) (processes : List (ℕ × Path)) → v ≡ written_version T → groups ≡ entries T.groups → processes ≡ entries T.places
    → lines_to_come Head v T groups processes ≡ world_text T
unfolding world_text text_of_version
all_to_come v T groups processes version listed placed =
    (λ i. lines_to_come Head (version i) T (listed i) (placed i))
    ∙ sym (parts_of_five (head_lines (written_version T) T.controllers T.online) (flat_map (group_line (written_version T)) (entries T.groups)) (flat_map process_line (entries T.places)) (codes "end") newline)

-- what was taken stands behind what stood there, and is with what is to come the whole
pub record IsTaken (start whole out coming : List ℕ) : Type 0 where
  pub text : out ++ coming ≡ start ++ whole
  pub kept : Begins start out

-- one line more is taken
pub one_more_taken : (start whole out coming out' coming' : List ℕ) → IsTaken start whole out coming → (line : List ℕ) × (out' ≡ out ++ line) × (coming ≡ line ++ coming') → IsTaken start whole out' coming'
one_more_taken start whole out coming out' coming' h more = record {
  text = ap (λ l. l ++ coming') more.1 ∙ append_assoc out more.0 coming' ∙ ap (λ l. out ++ l) (sym more.2) ∙ h.text;
  kept = begins_on start out out' h.kept (begins_itself out more.0 out' more.1);
}

nothing_taken : (out coming' line : List ℕ) → line ++ coming' ≡ [] → out ++ line ≡ out ++ (line ++ coming')
nothing_taken out coming' [] e = ap (λ l. out ++ l) (sym e)
nothing_taken out coming' (b ∷ bs) e = cc

-- where none is to come, all is taken
pub all_taken : (start whole out coming out' coming' : List ℕ) → IsTaken start whole out coming → (line : List ℕ) × (out' ≡ out ++ line) × (coming ≡ line ++ coming') → coming ≡ [] → out' ≡ start ++ whole
all_taken start whole out coming out' coming' h more none =
    more.1 ∙ nothing_taken out coming' more.0 (sym more.2 ∙ none) ∙ ap (λ l. out ++ l) (sym more.2) ∙ h.text
