use Rattle.std.proofs.Common.{◌≡◌, ◌<◌, ℕ, zero, suc, List, length, min, false, nat_eq, refl, subst, sym, arith, rules}
use Rattle.std.specs.Prelude.{Option, Some, None, IfSome}
use Rattle.std.proofs.lemmas.Bool.{eqb-true}
use Rattle.std.proofs.lemmas.Option.{IfSome_then}
use Rattle.cg_program.specs.Named.{named}
use Rattle.cg_check.specs.Right.{IsRight}
use Rattle.cg_check.specs.declared.fault.Faults.{Faults}
use Rattle.cg_check.specs.declared.kind.Kind.{Kind}
use Rattle.cg_checked_files.specs.Named.{IsRightAs, IsWrongAs}
use Rattle.cg_checked_files.specs.Told.{told_of, IsToldRight}
use Rattle.cg_checked_files.proofs.Telling.{on_any_err, one_written}
use Rattle.cg_checked_files.proofs.check_one.Goals as goal

-- the verdict of a kind is that of the kind that is asked for, or of some kind
right_as : (asked : Option Kind) (kind : Kind) (text : List ℕ) → IfSome asked (λ k. k ≡ kind) → IsRight kind text → IsRightAs asked text
right_as None kind text e right = (kind, right)
right_as (Some k) kind text e right = subst (λ q. IsRight q text) (sym e) right

wrong_as : (asked : Option Kind) (kind : Kind) (text : List ℕ) → IfSome asked (λ k. k ≡ kind) → (IsRight kind text → ⊥) → IsWrongAs asked text
wrong_as None kind text e wrong = (kind, wrong)
wrong_as (Some k) kind text e wrong = λ right. wrong (subst (λ q. IsRight q text) e right)

positive : (n : ℕ) → nat_eq n 0 ≡ false → 0 < n
positive zero e = absurd (cc e)
positive (suc n) e = omega arith

-- what holds of the text that was read holds of the one that is named
of_named : (P : List ℕ → Type 0) (found : Option (List ℕ)) (text read : List ℕ) → IfSome found (λ known. text ≡ known) → read ≡ text → P read → IfSome found P
of_named P found text read same is p = IfSome_then found same (λ known h. subst P h (subst P is p))

-- what is told of it is right
told_right : (standard : Option (List ℕ)) (file : List ℕ → Option (List ℕ)) (asked : Option Kind) (name : List ℕ) (kind : Kind) (faults : Faults) (text read : List ℕ) → IfSome (named standard file name) (λ known. text ≡ known) → read ≡ text → IfSome asked (λ k. k ≡ kind)
    → length faults.told.items ≡ min faults.count 20 → (faults.count ≡ 0 → IsRight kind read) → (0 < faults.count → IsRight kind read → ⊥) → IsToldRight standard file asked (told_of name kind faults)
told_right standard file asked name kind faults text read same is e first right wrong =
    let found = named standard file name in
    record {
      kind = e;
      told = first;
      right = of_named (λ t. faults.count ≡ 0 → IsRight kind t) found text read same is right;
      wrong = of_named (λ t. 0 < faults.count → IsRight kind t → ⊥) found text read same is wrong;
    }

pub returns-clause-json : goal.returns-clause-json
returns-clause-json g c = λ json. (
  told_of c.args.name.now c.in_ok-kind.kind c.in_ok-faults.faults,
  refl,
  told_right (g.P.Inputs.standard c.args.inputs.now) (g.P.Inputs.file c.args.inputs.now) c.args.kind c.args.name.now c.in_ok-kind.kind c.in_ok-faults.faults c.in_ok-text.text.items c.as_slice-2.result.now
      c.in_ok-text.ensures.text c.as_slice-2.ensures.value c.in_ok-kind.ensures (search rules) c.in_ok-faults.ensures.right c.in_ok-faults.ensures.wrong,
  refl,
  c.in_ok-tell.ensures.json json,
)

pub returns-in_err-tell-clause-front : goal.returns-in_err-tell-clause-front
returns-in_err-tell-clause-front g c = λ json.
    on_any_err c.from_residual-in_err-tell.result
    (one_written _ _ c.args.kind c.args.name.now (told_of c.args.name.now c.in_ok-kind.kind c.in_ok-faults.faults) _ _ refl
    (told_right (g.P.Inputs.standard c.args.inputs.now) (g.P.Inputs.file c.args.inputs.now) c.args.kind c.args.name.now c.in_ok-kind.kind c.in_ok-faults.faults c.in_ok-text.text.items c.as_slice-2.result.now
    c.in_ok-text.ensures.text c.as_slice-2.ensures.value c.in_ok-kind.ensures (search rules) c.in_ok-faults.ensures.right c.in_ok-faults.ensures.wrong)
    (c.in_err-tell.ensures.front json))

pub returns-clause-right : goal.returns-clause-right
returns-clause-right g c = λ none.
    of_named (IsRightAs c.args.kind) (named (g.P.Inputs.standard c.args.inputs.now) (g.P.Inputs.file c.args.inputs.now) c.args.name.now) c.in_ok-text.text.items c.as_slice-2.result.now
    c.in_ok-text.ensures.text c.as_slice-2.ensures.value (right_as c.args.kind c.in_ok-kind.kind c.as_slice-2.result.now c.in_ok-kind.ensures (c.in_ok-faults.ensures.right (eqb-true c.in_ok-faults.faults.count 0 none)))

pub returns-clause-wrong : goal.returns-clause-wrong
returns-clause-wrong g c = λ some.
    of_named (IsWrongAs c.args.kind) (named (g.P.Inputs.standard c.args.inputs.now) (g.P.Inputs.file c.args.inputs.now) c.args.name.now) c.in_ok-text.text.items c.as_slice-2.result.now
    c.in_ok-text.ensures.text c.as_slice-2.ensures.value (wrong_as c.args.kind c.in_ok-kind.kind c.as_slice-2.result.now c.in_ok-kind.ensures (c.in_ok-faults.ensures.wrong (positive c.in_ok-faults.faults.count some)))
