-- The text of operations spells them.
use Rattle.std.proofs.Common.{◌≡◌, Bool, true, false, cond, not, ◌||◌, List, [], ◌∷◌, map, filter, get_or, refl, sym, ap, subst, ◌∙◌}
use Rattle.std.specs.List.{All, list_all, join_with_byte}
use Rattle.std.proofs.lemmas.List.Splits.{slice_split_none, slice_split_at}
use Rattle.std.proofs.lemmas.List.Sums.{AllPass-from_list_all}
use Rattle.cg_digits.specs.WhiteSpace.{is_white_space}
use Rattle.cg_name.specs.Controller.{controller_word}
use Rattle.cg_name.specs.declared.controller.Controller.{Controller}
use Rattle.cg_name.specs.declared.controller.Controller.TheVariants.{Cpuset, Cpu, Io, Memory, Hugetlb, Pids, Rdma, Misc}
use Rattle.cg_text.specs.Controllers.{has, all_controllers, no_controllers}
use Rattle.cg_text.specs.FileText.{op_words}
use Rattle.cg_text.specs.Laws.{OpsAreSpelled}
use Rattle.cg_text.specs.Reading.{white_space_words, no_ops, sign_byte, SpellsOpsAfter, with_op}
use Rattle.cg_text.specs.Words.{Word, is_filled}
use Rattle.cg_text.specs.declared.control_ops.ControlOps.{ControlOps}
use Rattle.cg_text.proofs.Operations.{same_ops}
use Rattle.cg_text.proofs.Sets.{has_none, has_with, has_without, is, same_set}

-- no byte of a name is a blank
name_without_white_space : (c : Controller) → list_all (λ b. not (is_white_space b)) (controller_word c) ≡ true
name_without_white_space Cpuset = refl
name_without_white_space Cpu = refl
name_without_white_space Io = refl
name_without_white_space Memory = refl
name_without_white_space Hugetlb = refl
name_without_white_space Pids = refl
name_without_white_space Rdma = refl
name_without_white_space Misc = refl

word_without_white_space : (enables : Bool) (c : Controller) → list_all (λ b. not (is_white_space b)) (cond enables 43 45 ∷ controller_word c) ≡ true
word_without_white_space true c = name_without_white_space c
word_without_white_space false c = name_without_white_space c

no_white_space : (enables : Bool) (c : Controller) → All (λ b. is_white_space b ≡ false) (cond enables 43 45 ∷ controller_word c)
no_white_space enables c = λ k d l. other (is_white_space (get_or (cond enables 43 45 ∷ controller_word c) k d)) (AllPass-from_list_all (λ b. not (is_white_space b)) (cond enables 43 45 ∷ controller_word c) (word_without_white_space enables c) k d l)
  where
    other : (b : Bool) → not b ≡ true → b ≡ false
    other true e = sym e
    other false e = refl

module _ (ops : ControlOps) where
  abbrev word : Controller → Word
  word c = cond (has ops.plus c) 43 45 ∷ controller_word c

  abbrev is_named : Controller → Bool
  is_named c = has ops.plus c || has ops.minus c

  -- the words are cut as they were joined
  cut : (cs : List Controller) → white_space_words (join_with_byte 32 (map word cs)) ≡ map word cs
  cut [] = refl
  cut (c ∷ []) = ap (filter is_filled) (slice_split_none is_white_space (word c) (no_white_space (has ops.plus c) c))
  cut (c ∷ d ∷ cs) =
      ap (filter is_filled) (slice_split_at is_white_space (word c) 32 (join_with_byte 32 (map word (d ∷ cs))) (no_white_space (has ops.plus c) c) refl)
      ∙ ap (λ ws. word c ∷ ws) (cut (d ∷ cs))

  -- ---- what the words spell

  after : ControlOps → List Controller → ControlOps
  after o [] = o
  after o (c ∷ cs) = after (with_op (has ops.plus c) c o) cs

  same_word : (enables : Bool) (c : Controller) → (cond enables 43 45 ∷ controller_word c) ≡ sign_byte enables ∷ controller_word c
  same_word true c = refl
  same_word false c = refl

  spelled : (cs : List Controller) (o : ControlOps) → SpellsOpsAfter o (map word cs) (after o cs)
  unfolding after
  spelled [] o = refl
  spelled (c ∷ cs) o = (has ops.plus c, c, same_word (has ops.plus c) c, spelled cs (with_op (has ops.plus c) c o))

  -- one controller is set as the operations have it, if they name it
  abbrev set : Controller → ControlOps → ControlOps
  set c o = cond (is_named c) (with_op (has ops.plus c) c o) o

  abbrev set_all : List Controller → ControlOps → ControlOps
  set_all [] o = o
  set_all (c ∷ cs) o = set_all cs (set c o)

  after_named : (cs : List Controller) (o : ControlOps) → after o (filter is_named cs) ≡ set_all cs o
  unfolding after
  after_named [] o = refl
  after_named (c ∷ cs) o = elim (is_named c) as (λ b. after o (cond b (c ∷ filter is_named cs) (filter is_named cs)) ≡ set_all cs (cond b (with_op (has ops.plus c) c o) o)) [
    | true ↦ after_named cs (with_op (has ops.plus c) c o)
    | false ↦ after_named cs o
  ]

  -- ---- the same for one controller, where w tells what it becomes if it is named

  abbrev become : (Controller → Bool) → Controller → List Controller → Bool → Bool
  become w d [] b = b
  become w d (c ∷ cs) b = become w d cs (cond (is c d) (cond (is_named c) (w c) b) b)

  one_set : (plus : Bool) (c d : Controller) (o : ControlOps) → has (with_op plus c o).plus d ≡ cond (is c d) plus (has o.plus d)
  one_set true c d o = has_with c d o.plus
  one_set false c d o = has_without c d o.plus

  other_set : (plus : Bool) (c d : Controller) (o : ControlOps) → has (with_op plus c o).minus d ≡ cond (is c d) (not plus) (has o.minus d)
  other_set true c d o = has_without c d o.minus
  other_set false c d o = has_with c d o.minus

  alike : (same b : Bool) → b ≡ cond same b b
  alike true b = refl
  alike false b = refl

  plus_set : (c d : Controller) (o : ControlOps) → has (set c o).plus d ≡ cond (is c d) (cond (is_named c) (has ops.plus c) (has o.plus d)) (has o.plus d)
  plus_set c d o = elim (is_named c) as (λ b. has (cond b (with_op (has ops.plus c) c o) o).plus d ≡ cond (is c d) (cond b (has ops.plus c) (has o.plus d)) (has o.plus d)) [
    | true ↦ one_set (has ops.plus c) c d o
    | false ↦ alike (is c d) (has o.plus d)
  ]

  minus_set : (c d : Controller) (o : ControlOps) → has (set c o).minus d ≡ cond (is c d) (cond (is_named c) (not (has ops.plus c)) (has o.minus d)) (has o.minus d)
  minus_set c d o = elim (is_named c) as (λ b. has (cond b (with_op (has ops.plus c) c o) o).minus d ≡ cond (is c d) (cond b (not (has ops.plus c)) (has o.minus d)) (has o.minus d)) [
    | true ↦ other_set (has ops.plus c) c d o
    | false ↦ alike (is c d) (has o.minus d)
  ]

  all_plus : (d : Controller) (cs : List Controller) (o : ControlOps) → has (set_all cs o).plus d ≡ become (has ops.plus) d cs (has o.plus d)
  all_plus d [] o = refl
  all_plus d (c ∷ cs) o = all_plus d cs (set c o) ∙ ap (become (has ops.plus) d cs) (plus_set c d o)

  all_minus : (d : Controller) (cs : List Controller) (o : ControlOps) → has (set_all cs o).minus d ≡ become (λ c. not (has ops.plus c)) d cs (has o.minus d)
  all_minus d [] o = refl
  all_minus d (c ∷ cs) o = all_minus d cs (set c o) ∙ ap (become (λ e. not (has ops.plus e)) d cs) (minus_set c d o)

  -- each controller has its turn once
  one_turn : (w : Controller → Bool) (d : Controller) (b : Bool) → become w d all_controllers b ≡ cond (is_named d) (w d) b
  one_turn w Cpuset b = refl
  one_turn w Cpu b = refl
  one_turn w Io b = refl
  one_turn w Memory b = refl
  one_turn w Hugetlb b = refl
  one_turn w Pids b = refl
  one_turn w Rdma b = refl
  one_turn w Misc b = refl

  plus_is : (d : Controller) → has (set_all all_controllers no_ops).plus d ≡ has ops.plus d
  plus_is d = all_plus d all_controllers no_ops ∙ one_turn (has ops.plus) d (has no_controllers d) ∙ ap (cond (is_named d) (has ops.plus d)) (has_none d) ∙ named_only (has ops.plus d) (has ops.minus d)
    where
      named_only : (p m : Bool) → cond (p || m) p false ≡ p
      named_only true m = refl
      named_only false true = refl
      named_only false false = refl

  minus_is : (d : Controller) → has (set_all all_controllers no_ops).minus d ≡ has ops.minus d
  minus_is d = all_minus d all_controllers no_ops ∙ one_turn (λ c. not (has ops.plus c)) d (has no_controllers d) ∙ ap (cond (is_named d) (not (has ops.plus d))) (has_none d) ∙ named_only (has ops.plus d) (has ops.minus d) (ops.apart d)
    where
      named_only : (p m : Bool) → (p ≡ true → m ≡ false) → cond (p || m) (not p) false ≡ m
      named_only true m k = sym (k refl)
      named_only false true k = refl
      named_only false false k = refl

  all_set : set_all all_controllers no_ops ≡ ops
  all_set =
      same_ops (set_all all_controllers no_ops) ops
      (same_set (set_all all_controllers no_ops).plus ops.plus plus_is)
      (same_set (set_all all_controllers no_ops).minus ops.minus minus_is)

  all_spelled : SpellsOpsAfter no_ops (map word (filter is_named all_controllers)) ops
  all_spelled =
      subst (SpellsOpsAfter no_ops (map word (filter is_named all_controllers))) (after_named all_controllers no_ops ∙ all_set) (spelled (filter is_named all_controllers) no_ops)

-- the words of operations spell them
pub words_spelled : (ops : ControlOps) → SpellsOpsAfter no_ops (op_words ops) ops
words_spelled ops = all_spelled ops

-- and so does their text
pub ops_are_spelled : OpsAreSpelled
ops_are_spelled ops =
    subst (λ ws. SpellsOpsAfter no_ops ws ops) (sym (cut ops (filter (is_named ops) all_controllers))) (words_spelled ops)
