-- Processes, put into a tree one by one.
use Rattle.std.proofs.Common.{◌≡◌, ◌⊎◌, ℕ, ◌+◌, ◌<◌, List, [], map, length, get_or, Some, is_some, refl, sym, ap, subst, ◌∙◌, inl, inr, arith, ◌≤◌, below_more}
use Rattle.std.proofs.lemmas.List.{get_or-map, length-map, get_or_default}
use Rattle.std.specs.Prelude.{IsSome}
use Rattle.std.specs.Cmp.{nat_cmp_total}
use Rattle.std.specs.FinMap.{nat_cmp-IsAntisymmetric}
use Rattle.cg_maps.specs.FiniteMap.{get, set_at}
use Rattle.cg_maps.proofs.Maps.{cases, get_here, get_apart}
use Rattle.cg_model.specs.Tree.{Tree, place_of}
use Rattle.cg_name.specs.Path.{Path}
use Rattle.cg_text.specs.Reading.{SpellsPid}
use Rattle.cg_import.specs.Taking.{PutsProcesses}
use Rattle.cg_import.specs.Values.{ListsPid, filled_lines}

module _ (T : Tree) (pid : ℕ) (q : Path) where
  abbrev placed : Tree
  placed = record T { places = set_at T.places pid (Some q) }

  there : place_of placed pid ≡ Some q
  there = get_here nat_cmp_total nat_cmp-IsAntisymmetric T.places pid (Some q)

  -- one process is put in
  pub process_put : (U : Tree) (p : Path) (Among : ℕ → Type 0) → q ≡ p → U ≡ placed → Among pid → PutsProcesses p Among T U
  process_put U p Among e is new = subst (PutsProcesses p Among T) (sym is) (record { controllers = refl; online = refl; groups = refl; among = among; kept = kept })
    where
      among : (k : ℕ) (r : Path) → place_of placed k ≡ Some r → (place_of T k ≡ Some r) ⊎ ((r ≡ p) × Among k)
      among k r at = elim (cases nat_cmp_total nat_cmp-IsAntisymmetric k pid) [
        | inl same ↦
            let here : Some q ≡ Some r = sym there ∙ ap (get placed.places) (sym same) ∙ at in
            let value : q ≡ r = cc here in
            inr (sym value ∙ e, subst Among (sym same) new)
        | inr ne ↦ inl (sym (get_apart nat_cmp_total nat_cmp-IsAntisymmetric T.places pid (Some q) k ne) ∙ at)
      ]

      kept : (k : ℕ) → IsSome (place_of T k) → IsSome (place_of placed k)
      kept k some = elim (cases nat_cmp_total nat_cmp-IsAntisymmetric k pid) [
        | inl same ↦ ap (λ n. is_some (get placed.places n)) same ∙ ap is_some there
        | inr ne ↦ ap is_some (get_apart nat_cmp_total nat_cmp-IsAntisymmetric T.places pid (Some q) k ne) ∙ some
      ]

  -- the process of a line is in
  pub line_is_in : (U : Tree) (line : List ℕ) → U ≡ placed → SpellsPid line pid → (k : ℕ) → SpellsPid line k → IsSome (place_of U k)
  line_is_in U line is spells k other =
      let same : pid ≡ k = sym spells.1 ∙ other.1 in
      ap (λ t. is_some (place_of t k)) is ∙ ap (λ n. is_some (get placed.places n)) (sym same) ∙ ap is_some there

-- the processes of one line more
pub line_put : (T U V : Tree) (p : Path) (text line : List ℕ) (n : ℕ) → PutsProcesses p (ListsPid text) T U → PutsProcesses p (SpellsPid line) U V → n < length (filled_lines text) → get_or (filled_lines text) n line ≡ line → PutsProcesses p (ListsPid text) T V
line_put T U V p text line n old new low at = record {
  controllers = new.controllers ∙ old.controllers;
  online = new.online ∙ old.online;
  groups = new.groups ∙ old.groups;
  among = λ k r is. either k r (new.among k r is);
  kept = λ k some. new.kept k (old.kept k some);
}
  where
    either : (k : ℕ) (r : Path) → (place_of U k ≡ Some r) ⊎ ((r ≡ p) × SpellsPid line k) → (place_of T k ≡ Some r) ⊎ ((r ≡ p) × ListsPid text k)
    either k r (inl is) = old.among k r is
    either k r (inr h) = inr (h.0, (n, line, low, at, h.1))

-- the items of a list are the lines of a text, as they are read
module _ {A : Type 0} (v : A → List ℕ) (items : List A) (text : List ℕ) (lines : map v items ≡ filled_lines text) (n : ℕ) (d : A) (low : n < length items) where
  at : (e : List ℕ) → get_or (filled_lines text) n e ≡ v (get_or items n d)
  at e = ap (λ ls. get_or ls n e) (sym lines) ∙ get_or-map v items n d e low

  inside : n < length (filled_lines text)
  inside = omega (arith, low, length-map items v, ap length lines)

  pub item_put : (T U V : Tree) (p : Path) → PutsProcesses p (ListsPid text) T U → PutsProcesses p (SpellsPid (v (get_or items n d))) U V → PutsProcesses p (ListsPid text) T V
  item_put T U V p old new = line_put T U V p text (v (get_or items n d)) n old new inside (at _)

  pub items_are_in : (U V : Tree) (p : Path) → ((j : ℕ) → j < n → (k : ℕ) → SpellsPid (get_or (filled_lines text) j []) k → IsSome (place_of U k)) → PutsProcesses p (SpellsPid (v (get_or items n d))) U V
      → ((k : ℕ) → SpellsPid (v (get_or items n d)) k → IsSome (place_of V k)) → (j : ℕ) → j < n + 1 → (k : ℕ) → SpellsPid (get_or (filled_lines text) j []) k → IsSome (place_of V k)
  items_are_in U V p old puts new =
      below_more _ _ (λ j l k spells. puts.kept k (old j l k spells)) (λ k spells. new k (subst (λ line. SpellsPid line k) (at []) spells))

-- all are in where each line's is
pub all_are_in : {A : Type 0} (v : A → List ℕ) (items : List A) (text : List ℕ) (n : ℕ) (T : Tree) → map v items ≡ filled_lines text → length items ≤ n
    → ((j : ℕ) → j < n → (k : ℕ) → SpellsPid (get_or (filled_lines text) j []) k → IsSome (place_of T k)) → (k : ℕ) → ListsPid text k → IsSome (place_of T k)
all_are_in v items text n T lines high all k lists =
    let line : get_or (filled_lines text) lists.0 [] ≡ lists.1 = get_or_default (filled_lines text) lists.0 [] lists.1 lists.2 ∙ lists.3 in
    all lists.0 (omega (arith, lists.2, high, length-map items v, ap length lines)) k (subst (λ l. SpellsPid l k) (sym line) lists.4)
