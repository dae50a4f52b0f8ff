-- Two worlds that words name, and what holds of them.
use Rattle.std.proofs.Common.{◌≡◌, ◌≢◌, ◌==◌, ℕ, true, false, List, [], ◌∷◌, length, inl, inr, refl, sym, ap, subst, ◌∙◌, true≢false, arith}
use Rattle.std.proofs.lemmas.Bool.{eqb-true}
use Rattle.std.specs.Prelude.{Option, IfSome}
use Rattle.std.proofs.lemmas.Option.{IfSome_then}
use Rattle.cg_lines.specs.Lines.{Reading}
use Rattle.cg_model.specs.Tree.{Tree}
use Rattle.cg_program.specs.Named.{named, schedule_named}
use Rattle.cg_program.specs.Program.{schedule_text, DoneOver}
use Rattle.cg_program.proofs.NamedLemmas.{IsScheduleNamed, done_named}
use Rattle.cg_program.proofs.ProgramLemmas.{done_over}
use Rattle.cg_script.specs.WorldPart.{HasNoWorld, ReadsWorld}
use Rattle.cg_diff.specs.DifferenceOf.{Differ, HasNone, HaveNoWorlds, HoldsOfNamed, HoldsWith, IsTold, NameNoWorlds}
use Rattle.cg_diff.proofs.Nothing.{nothing_where_same}

-- two readers give two worlds, one behind the other
pub both_read : (P : Tree → Tree → Type 0) (first left : Option (List ℕ)) (second : Option Reading) (A B : Tree)
    → IfSome first (λ text. ReadsWorld text A left)
    → IfSome (schedule_text second left) (λ text. (rest : Option (List ℕ)) × ReadsWorld text B rest)
    → P A B → DoneOver (HoldsWith P) first second
both_read P first left second A B reads then holds =
    done_over (HoldsWith P) first left second second A refl reads (IfSome_then (schedule_text second left) then (λ bytes q. (B, q.0, q.1, holds)))

-- the first gives one, and the second none
pub second_missing : (first left : Option (List ℕ)) (second : Option Reading) (A : Tree)
    → IfSome first (λ text. ReadsWorld text A left) → IfSome (schedule_text second left) HasNoWorld → HaveNoWorlds first second
second_missing first left second A reads none = inr (done_over HasNone first left second second A refl reads none)

module _ (standard : Option (List ℕ)) (file : List ℕ → Option (List ℕ)) (before after : List ℕ) where
  pub none_named : (left : Option (List ℕ)) (second : Option Reading) → left ≡ named standard file before → IsScheduleNamed standard file before after second
      → HaveNoWorlds left second → NameNoWorlds standard file before after
  none_named left second e h (inl none) = inl (subst (λ text. IfSome text HasNoWorld) e none)
  none_named left second e h (inr done) = inr (done_named HasNone standard file before after left second e h done)

  -- what follows of any two trees follows of these
  then_named : {P Q : Tree → Tree → Type 0} → ((A B : Tree) → P A B → Q A B) → HoldsOfNamed P standard file before after → HoldsOfNamed Q standard file before after
  then_named follows held =
      IfSome_then (named standard file before) held (λ text r. (
        r.0,
        r.1,
        r.2,
        IfSome_then (schedule_named standard file before after r.1) r.3 (λ bytes q. (q.0, q.1, q.2, follows r.0 q.0 q.3)),
      ))

  -- where nothing is told they are the same
  pub same_named : (text : List ℕ) → text ≡ [] → HoldsOfNamed (IsTold text) standard file before after → HoldsOfNamed (λ A B. A ≡ B) standard file before after
  same_named text none held = then_named (λ A B told. (nothing_where_same A B).0 (sym told ∙ none)) held

  -- and else they differ
  pub differ_named : (text : List ℕ) → text ≢ [] → HoldsOfNamed (IsTold text) standard file before after → HoldsOfNamed (Differ text) standard file before after
  differ_named text some held = then_named (λ A B told. (λ same. some (told ∙ (nothing_where_same A B).1 same), told)) held

-- a text has no bytes exactly where its length is 0
pub no_bytes : (text : List ℕ) → (length text == 0) ≡ true → text ≡ []
no_bytes [] e = refl
no_bytes (b ∷ bs) e = absurd (omega (arith, eqb-true (length (b ∷ bs)) 0 e))

pub some_bytes : (text : List ℕ) → (length text == 0) ≡ false → text ≢ []
some_bytes text e none = true≢false (sym (ap (λ bs. length bs == 0) none) ∙ e)
