-- A schedule that is played gives what is told of it, and nothing else.
use Rattle.std.proofs.Common.{◌≡◌, ℕ, Bool, List, ◌++◌, Some, None, Option, IfSome, refl, sym, ap, subst, ◌∙◌}
use Rattle.std.specs.Io.KnownBytes.{Appends, Keeps}
use Rattle.std.specs.List.{flat_map}
use Rattle.cg_text.specs.Words.{lines_of}
use Rattle.cg_lines.specs.Device.{AppendsFront, AppendsTo}
use Rattle.cg_lines.proofs.DeviceLemmas.{Appends-append, AppendsFront-nil, AppendsFront-whole, AppendsTo-front, AppendsTo-whole}
use Rattle.cg_replay.specs.Answering.{EachAnswers, FrontAnswers}
use Rattle.cg_replay.specs.Replay.{Replay, ending_text, tree_now}
use Rattle.cg_replay.proofs.Answered.{each_one, front_of_all, AppendsFront-longer}
use Rattle.cg_json_program.specs.Output.{IsEnding, IsToldFrom, Tells}
use Rattle.cg_json_program.specs.Run.{PlaysToldFrom}
use Rattle.cg_json_program.specs.Steps.{Aborts}
use Rattle.cg_json_program.specs.Report.{plain_line, told_line}
use Rattle.cg_json_world.specs.WorldValue.{world_line}
use Rattle.cg_json_program.specs.declared.reporter.Reporter.{Reporter}
use Rattle.cg_json_program.proofs.Once.{aborts_one, tells_one}
use Rattle.cg_json_program.proofs.Plain.{are_plain, both_told}

-- what was written is the front of whatever is told of the text
abbrev pub FrontOf : Reporter → Option (List ℕ) → Option (List ℕ) → Option (List ℕ) → Type 0
FrontOf s text a b = IfSome text (λ x. (is_refused : Bool) (out : List ℕ) → IsToldFrom s x is_refused out → AppendsFront a b out)

-- what is told of the end
abbrev end_of : {s : Reporter} {x : List ℕ} {is_refused : Bool} {out : List ℕ} → IsToldFrom s x is_refused out → List ℕ
end_of o = flat_map told_line o.ends ++ world_line (tree_now o.last.core)

pub front_answers : (s : Reporter) (text a b : Option (List ℕ)) → IfSome text (λ x. FrontAnswers Tells s x a b) → FrontOf s text a b
front_answers s None a b h = tt
front_answers s (Some text) a b h = λ is_refused out o.
    subst (λ bytes. AppendsFront a b bytes) (sym o.whole) (front_of_all Tells tells_one s o.played text o.lines (end_of o) a b h o.answered)

-- all lines are told of, and that is written, but for what waits
abbrev pub AllTold : Reporter → Option (List ℕ) → Option (List ℕ) → Option (List ℕ) → List ℕ → Reporter → Type 0
AllTold s text a b waiting t = IfSome text (λ x. (told : List ℕ) × EachAnswers Tells s (lines_of x) told t × AppendsTo a b told waiting)

-- the front of what waits is written
pub front_waiting : (s t : Reporter) (text a b c : Option (List ℕ)) (waiting : List ℕ) → AllTold s text a b waiting t → AppendsFront b c waiting → FrontOf s text a c
front_waiting s t None a b c waiting p w = tt
front_waiting s t (Some text) a b c waiting p w = λ is_refused out o.
    let same = each_one Tells tells_one (lines_of text) s o.played t o.lines p.0 o.answered p.1 in
    subst (λ bytes. AppendsFront a c bytes) (sym (o.whole ∙ ap (λ l. l ++ end_of o) same.0)) (AppendsFront-longer a c p.0 (end_of o) (AppendsTo-front a b c p.0 waiting p.2 w))

-- all that waits is written, and the front of the end
pub front_end : (s t : Reporter) (text a b c d : Option (List ℕ)) (waiting ending plain : List ℕ) → AllTold s text a b waiting t → Appends b c waiting → IsEnding t.player ending plain → AppendsFront c d ending → FrontOf s text a d
front_end s t None a b c d waiting ending plain p w e f = tt
front_end s t (Some text) a b c d waiting ending plain p w e f = λ is_refused out o.
    let same = each_one Tells tells_one (lines_of text) s o.played t o.lines p.0 o.answered p.1 in
    let once = aborts_one o.ends e.ends t.player o.last e.last (subst (λ (x : Reporter). Aborts x.player o.ends o.last) same.1 o.aborted) o.closed e.aborted e.closed in
    let end : end_of o ≡ ending = (λ j. flat_map told_line (once.0 j) ++ world_line (tree_now (once.1 j).core)) ∙ sym e.told in
    subst (λ bytes. AppendsFront a d bytes) (sym (o.whole ∙ (λ j. same.0 j ++ end j))) (AppendsTo-front a c d (p.0 ++ ending) ending (p.0, refl, AppendsTo-whole a b c p.0 waiting p.2 w) f)

-- all is written
pub whole_end : (s t : Reporter) (text a b c d : Option (List ℕ)) (waiting ending : List ℕ) (is_refused : Bool) (last : Replay) → AllTold s text a b waiting t → Appends b c waiting
    → (e : IsEnding t.player ending (ending_text t.player.core)) × (last ≡ e.last) → Appends c d ending → is_refused ≡ t.is_refused
    → IfSome text (λ x. (out : List ℕ) × PlaysToldFrom s x is_refused out last.core.history × Appends a d out)
whole_end s t None a b c d waiting ending is_refused last p w e f refused = tt
whole_end s t (Some text) a b c d waiting ending is_refused last p w e f refused =
    let lines = are_plain (lines_of text) s t p.0 p.1 in
    let end : IsEnding t.player ending (ending_text t.player.core) = e.0 in
    let tree = tree_now end.last.core in (
      p.0 ++ ending,
      (
        record { lines = p.0; played = t; answered = p.1; ends = end.ends; last = end.last; aborted = end.aborted; closed = end.closed; whole = ap (λ l. p.0 ++ l) end.told; refused = refused },
        ap (λ (r : Replay). r.core.history) e.1,
        flat_map plain_line lines.told ++ ending_text t.player.core,
        record { answers = flat_map plain_line lines.told; last = t.player; answered = lines.answers; whole = refl },
        (
          lines.told ++ end.ends,
          tree,
          (λ j. lines.whole j ++ end.told j) ∙ both_told told_line lines.told end.ends (world_line tree),
          ap (λ l. flat_map plain_line lines.told ++ l) end.answered ∙ both_told plain_line lines.told end.ends _,
        ),
      ),
      Appends-append a c d p.0 ending (AppendsTo-whole a b c p.0 waiting p.2 w) f,
    )

pub front_nothing : (s : Reporter) (text a : Option (List ℕ)) → FrontOf s text a a
front_nothing s None a = tt
front_nothing s (Some text) a = λ is_refused out o. AppendsFront-nil a a out (kept a)
  where
    kept : (o : Option (List ℕ)) → Keeps o o
    kept None = tt
    kept (Some xs) = refl

-- what was written is a front of itself
pub whole_front : (b c : Option (List ℕ)) (waiting : List ℕ) → Appends b c waiting → AppendsFront b c waiting
whole_front b c waiting h = AppendsFront-whole b c waiting h
