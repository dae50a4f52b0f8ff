use Rattle.std.proofs.Common.{◌≡◌, ℕ, Result, Ok, Err, arith, sym, ◌∙◌}
use Rattle.std.specs.Result.{OnErr}
use Rattle.std.proofs.lemmas.Str.Pattern.{split_parts}
use Rattle.cg_cpus.specs.CpuList.{SpellsRange}
use Rattle.cg_cpus.proofs.Ranges.{are_numbers, is_number}
use Rattle.cg_cpus.proofs.list.read_range.Goals as goal

at_err : {T E Q : Type 0} (r : Result T E) → Q → OnErr r Q
at_err (Ok x) q = tt
at_err (Err e) q = q

pub returns-in_err-number-clause-syntax : goal.returns-in_err-number-clause-syntax
returns-in_err-number-clause-syntax c =
    let parts = split_parts 45 c.args.element.now _ c.split_once.ensures.cases (omega arith) in
    let lacks = rw c.in_default.is at parts in
    let refused : (a b : ℕ) → SpellsRange c.args.element.now a b → ⊥ = λ a b h. c.in_err-number.ensures.syntax a (is_number _ a b lacks h).0 in
    at_err _ refused

pub returns-in_err-first-clause-syntax : goal.returns-in_err-first-clause-syntax
returns-in_err-first-clause-syntax c =
    let parts = split_parts 45 c.args.element.now _ c.split_once.ensures.cases (omega arith) in
    let cut = rw c.in-Some.is at parts in
    let refused : (a b : ℕ) → SpellsRange c.args.element.now a b → ⊥ = λ a b h. c.in_err-first.ensures.syntax a (are_numbers _ _ _ a b cut.0 cut.1 h).0 in
    at_err _ refused

pub returns-in_err-last-clause-syntax : goal.returns-in_err-last-clause-syntax
returns-in_err-last-clause-syntax c =
    let parts = split_parts 45 c.args.element.now _ c.split_once.ensures.cases (omega arith) in
    let cut = rw c.in-Some.is at parts in
    let refused : (a b : ℕ) → SpellsRange c.args.element.now a b → ⊥ = λ a b h. c.in_err-last.ensures.syntax b (are_numbers _ _ _ a b cut.0 cut.1 h).1 in
    at_err _ refused

pub returns-else-first-last-clause-syntax : goal.returns-else-first-last-clause-syntax
returns-else-first-last-clause-syntax c =
    let parts = split_parts 45 c.args.element.now _ c.split_once.ensures.cases (omega arith) in
    let cut = rw c.in-Some.is at parts in
    λ a b h.
    let n = are_numbers _ _ _ a b cut.0 cut.1 h in
    let low : a ≡ c.in_ok-first.first = sym n.0.1 ∙ c.in_ok-first.ensures.value.1 in
    let high : b ≡ c.in_ok-last.last = sym n.1.1 ∙ c.in_ok-last.ensures.value.1 in
    omega (arith, n.2)
