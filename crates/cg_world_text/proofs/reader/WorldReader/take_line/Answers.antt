-- A line of words says what the statement read says.
use Rattle.std.proofs.Common.{Some, None, map, ap, rules, subst, sym, ◌∙◌}
use Rattle.std.proofs.lemmas.Result.{err_from_is_err_and, on_ok_weaker}
use Rattle.cg_text.specs.Words.{Says}
use Rattle.cg_world_text.specs.Statement.{SpellsStatement}
use Rattle.cg_world_text.specs.Stage.{taken, version_at}
use Rattle.cg_world_text.proofs.Endings.{taken_begin}
use Rattle.cg_world_text.proofs.Lines.{misplaced, unspoken, unsaid}
use Rattle.cg_world_text.proofs.Taken.{taken_no_more, taken_silent, taken_spoken}
use Rattle.cg_world_text.proofs.reader.WorldReader.take_line.Goals as goal

pub returns-in_err-read_words-clause-syntax : goal.returns-in_err-read_words-clause-syntax
returns-in_err-read_words-clause-syntax c =
    let gone = err_from_is_err_and c.from_residual.result c.from_residual.ensures.1 in
    λ e. taken_no_more c.args.self.now c.args.line.now (unsaid c.args.self.now c.args.line.now (c.in_err-read_words.ensures.syntax (cc (gone.1, gone.2))))

pub returns-then-not-branch-clause-taken : goal.returns-then-not-branch-clause-taken
returns-then-not-branch-clause-taken c =
    let none : Says c.args.line.now None = search rules in
    taken_silent c.args.self.now c.args.line.now none

pub returns-then-not-branch-clause-begins : goal.returns-then-not-branch-clause-begins
returns-then-not-branch-clause-begins c = λ lines h. taken_begin c.args.self.now _ (returns-then-not-branch-clause-taken c lines h)

pub returns-in_err-statement-clause-syntax : goal.returns-in_err-statement-clause-syntax
returns-in_err-statement-clause-syntax c =
    let said : Says c.args.line.now (Some (map (λ w. w.now) c.as_slice.result.now)) = search rules in
    let version = c.version.ensures ∙ ap version_at c.self.view_is in
    let gone = err_from_is_err_and c.from_residual-in_err-statement.result c.from_residual-in_err-statement.ensures.1 in
    λ e. taken_no_more c.args.self.now c.args.line.now
    (unspoken c.args.self.now c.args.line.now _ said (λ s h. c.in_err-statement.ensures.syntax (cc (gone.1, gone.2)) s (subst (λ v. SpellsStatement v (map (λ w. w.now) c.as_slice.result.now) s) (sym version) h)))

pub returns-clause-syntax : goal.returns-clause-syntax
returns-clause-syntax c =
    let said : Says c.args.line.now (Some (map (λ w. w.now) c.as_slice.result.now)) = search rules in
    let version = c.version.ensures ∙ ap version_at c.self.view_is in
    let says = subst (λ v. SpellsStatement v (map (λ w. w.now) c.as_slice.result.now) c.in_ok-statement.statement) version c.in_ok-statement.ensures.value in
    λ e.
    let stuck = ap (λ st. taken st c.in_ok-statement.statement) (sym c.self.view_is) ∙ c.take.ensures.syntax e in
    taken_no_more c.args.self.now c.args.line.now (misplaced c.args.self.now c.args.line.now _ c.in_ok-statement.statement said says stuck)

pub returns-clause-taken : goal.returns-clause-taken
returns-clause-taken c =
    let said : Says c.args.line.now (Some (map (λ w. w.now) c.as_slice.result.now)) = search rules in
    let version = c.version.ensures ∙ ap version_at c.self.view_is in
    let says = subst (λ v. SpellsStatement v (map (λ w. w.now) c.as_slice.result.now) c.in_ok-statement.statement) version c.in_ok-statement.ensures.value in
    on_ok_weaker c.take.result
    (λ goes. taken_spoken c.args.self.now c.take.new.self c.args.line.now _ c.in_ok-statement.statement said says (ap (λ st. taken st c.in_ok-statement.statement) (sym c.self.view_is) ∙ goes))
    c.take.ensures.value

pub returns-clause-begins : goal.returns-clause-begins
returns-clause-begins c = on_ok_weaker c.take.result (λ takes lines h. taken_begin c.take.new.self _ (takes lines h)) (returns-clause-taken c)
