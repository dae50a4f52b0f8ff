-- The output of a schedule is that of the machine of the definitions.
use Rattle.std.proofs.Common.{◌≡◌, ℕ, List, [], ◌∷◌, ◌++◌, map, reverse, refl, sym, ap, subst, ◌∙◌, inl, inr, append_assoc}
use Rattle.cg_name.specs.Refusal.{refusal_text}
use Rattle.cg_name.specs.declared.refusal.Refusal.TheVariants.{Syntax}
use Rattle.cg_text.specs.Words.{Word, lines_of}
use Rattle.cg_command_text.specs.CommandText.{SpellsCommand}
use Rattle.cg_model.specs.Cgroups.{cgroups}
use Rattle.cg_model.specs.Command.{Command, Create, Remove, Migrate, Subtree, Freeze, Cpus, Show, Online, MaxDescendants, MaxDepth, IsProper}
use Rattle.cg_model.specs.History.{Request, Begin, Do, Save, Back, Undo, Commit, Abort, Answer, IsProperRequest}
use Rattle.cg_model.specs.Machine.{Machine, step, opened as machine_opened}
use Rattle.cg_model.specs.Opens.{Opens, opens}
use Rattle.cg_model.specs.Output.{answers, aborts}
use Rattle.cg_core_laws.specs.MachineOf.{StepsOn}
use Rattle.cg_core_laws.specs.Serial.{AreProper}
use Rattle.cg_core_laws.proofs.ControlGroups.SteppingOn.{reached_at_first, steps_by_history}
use Rattle.cg_core.specs.State.{CoreState, machine, after}
use Rattle.cg_world_text.specs.World.{world_text}
use Rattle.cg_script.specs.Answer.{answer_text}
use Rattle.cg_script.specs.Turns.{Turn, Skip, Ask, Fail, AreTurns, asked}
use Rattle.cg_replay.specs.MachineOutput.{answer_lines, written, OutputsAreTheMachines}
use Rattle.cg_replay.proofs.Reached.{IsReached}
use Rattle.cg_replay.specs.Replay.{Replay, Skips, Asks, Fails, Answers, AnswersAll, answer_line, abort_lines, aborted_by, tree_now, ending_sessions, ending_text, opened}
use Rattle.cg_script.specs.Request.{newline, SpellsRequest}

-- ---- what can be asked for is proper

proper_command : (ws : List Word) (c : Command) → SpellsCommand ws c → IsProper c
proper_command ws (Create p) h = tt
proper_command ws (Remove p) h = tt
proper_command ws (Migrate k p) h = tt
proper_command ws (Subtree p ops) h = tt
proper_command ws (Freeze p v) h = tt
proper_command ws (Cpus p s) h = tt
proper_command ws (Show p f) h = tt
proper_command ws (Online s) h = h.3
proper_command ws (MaxDescendants p l) h = tt
proper_command ws (MaxDepth p l) h = tt

proper_request : (ws : List Word) (r : Request cgroups) → SpellsRequest ws r → IsProperRequest r
proper_request ws Begin h = tt
proper_request ws (Do c) h = proper_command ws c h
proper_request ws (Save n) h = tt
proper_request ws (Back n) h = tt
proper_request ws Undo h = tt
proper_request ws Commit h = tt
proper_request ws Abort h = tt

-- ---- a step of the core is one of the machine

module _ (c : CoreState) (is : IsReached c) (k : ℕ) (r : Request cgroups) (proper : IsProperRequest r) where
  on : StepsOn c.opening c.bound c.history k r
  on = steps_by_history c.opening c.bound c.history k r is.sound is.reached proper

  after_reached : IsReached (after c k r)
  after_reached = record { sound = is.sound; reached = on.reached }

  machine_after : (step cgroups (machine c) k r).0 ≡ machine (after c k r)
  machine_after = on.machine

  machine_line : answer_text (step cgroups (machine c) k r).1 ++ newline ≡ answer_line c k r
  machine_line = ap (λ a. answer_text a ++ newline) on.answer

-- ---- the lines

-- the lines lead from s to t, and so does the machine; what is written is what its answers say
record IsTold (s t : Replay) (lines : List (List ℕ)) (out : List ℕ) : Type 0 where
  turns : List Turn
  told : AreTurns s.names lines turns
  proper : AreProper (asked turns)
  reached : IsReached t.core
  last : (answers cgroups (machine s.core) (asked turns)).1 ≡ machine t.core
  lines_are : (more : List Answer) → written turns ((answers cgroups (machine s.core) (asked turns)).0 ++ more) ≡ out ++ answer_lines more

told_none : (s t : Replay) (out : List ℕ) → IsReached s.core → out ≡ [] → t ≡ s → IsTold s t [] out
told_none s t out is e same = record {
  turns = [];
  told = tt;
  proper = tt;
  reached = subst (λ (r : Replay). IsReached r.core) (sym same) is;
  last = ap (λ (r : Replay). machine r.core) (sym same);
  lines_are = λ more. ap (λ w. w ++ answer_lines more) (sym e);
}

module _ (s u t : Replay) (line : List ℕ) (lines : List (List ℕ)) (first others out : List ℕ) (q : IsTold u t lines others) (whole : out ≡ first ++ others) where
  told_skip : Skips s line first u → IsTold s t (line ∷ lines) out
  told_skip (spelled, none, same) = record {
    turns = Skip ∷ q.turns;
    told = (u.names, (spelled, ap (λ (r : Replay). r.names) same), q.told);
    proper = q.proper;
    reached = q.reached;
    last = ap (λ (r : Replay). (answers cgroups (machine r.core) (asked q.turns)).1) (sym same) ∙ q.last;
    lines_are = λ more.
        ap (λ (r : Replay). written q.turns ((answers cgroups (machine r.core) (asked q.turns)).0 ++ more)) (sym same)
        ∙ q.lines_are more
        ∙ ap (λ w. w ++ answer_lines more) (sym (whole ∙ ap (λ w. w ++ others) none));
  }

  told_fail : Fails s line first u → IsTold s t (line ∷ lines) out
  told_fail (outside, refused, same) =
      let bytes : List ℕ = refusal_text Syntax ++ newline in
      record {
        turns = Fail ∷ q.turns;
        told = (u.names, (outside, ap (λ (r : Replay). r.names) same), q.told);
        proper = q.proper;
        reached = q.reached;
        last = ap (λ (r : Replay). (answers cgroups (machine r.core) (asked q.turns)).1) (sym same) ∙ q.last;
        lines_are = λ more.
            ap (λ (r : Replay). bytes ++ written q.turns ((answers cgroups (machine r.core) (asked q.turns)).0 ++ more)) (sym same)
            ∙ ap (λ w. bytes ++ w) (q.lines_are more)
            ∙ sym (append_assoc bytes others (answer_lines more))
            ∙ ap (λ w. w ++ answer_lines more) (sym (whole ∙ ap (λ w. w ++ others) refused));
      }

  told_ask : IsReached s.core → Asks s line first u → IsTold s t (line ∷ lines) out
  told_ask is (n, r, k, spelled, does) =
      let proper : IsProperRequest r = proper_request spelled.2.others r spelled.2.request in
      let here : (step cgroups (machine s.core) k r).0 ≡ machine u.core = machine_after s.core is k r proper ∙ ap (λ (r : Replay). machine r.core) (sym does.2) in
      record {
        turns = Ask k r ∷ q.turns;
        told = (u.names, (n, spelled, does.0, ap (λ (r : Replay). r.names) does.2), q.told);
        proper = (proper, q.proper);
        reached = q.reached;
        last = ap (λ (m : Machine cgroups). (answers cgroups m (asked q.turns)).1) here ∙ q.last;
        lines_are = λ more.
            (λ i. machine_line s.core is k r proper i ++ written q.turns ((answers cgroups (here i) (asked q.turns)).0 ++ more))
            ∙ ap (λ w. answer_line s.core k r ++ w) (q.lines_are more)
            ∙ sym (append_assoc (answer_line s.core k r) others (answer_lines more))
            ∙ ap (λ w. w ++ answer_lines more) (sym (whole ∙ ap (λ w. w ++ others) does.1));
      }

-- what is left behind a line was reached
reached_behind : (s u : Replay) (line out : List ℕ) → IsReached s.core → Answers s line out u → IsReached u.core
reached_behind s u line out is (inl h) = subst (λ (r : Replay). IsReached r.core) (sym h.2) is
reached_behind s u line out is (inr (inl (n, r, k, spelled, does))) =
    subst (λ (r : Replay). IsReached r.core) (sym does.2) (after_reached s.core is k r (proper_request spelled.2.others r spelled.2.request))
reached_behind s u line out is (inr (inr h)) = subst (λ (r : Replay). IsReached r.core) (sym h.2) is

told_more : (s u t : Replay) (line : List ℕ) (lines : List (List ℕ)) (first others out : List ℕ) → IsReached s.core → IsTold u t lines others → out ≡ first ++ others → Answers s line first u → IsTold s t (line ∷ lines) out
told_more s u t line lines first others out is q whole (inl h) = told_skip s u t line lines first others out q whole h
told_more s u t line lines first others out is q whole (inr (inl h)) = told_ask s u t line lines first others out q whole is h
told_more s u t line lines first others out is q whole (inr (inr h)) = told_fail s u t line lines first others out q whole h

all_told : (lines : List (List ℕ)) (s t : Replay) (out : List ℕ) → IsReached s.core → AnswersAll s lines out t → IsTold s t lines out
all_told [] s t out is h = told_none s t out is h.0 h.1
all_told (line ∷ lines) s t out is (first, others, u, answered, rest, whole) =
    told_more s u t line lines first others out is (all_told lines u t others (reached_behind s u line first is answered) rest) whole answered

-- ---- the end

abbrev abort : ℕ × ℕ → ℕ × Request cgroups
abort p = (p.0, Abort)

-- the aborts of the machine are those of the core
record AreEnds (c : CoreState) (ps : Opens) : Type 0 where
  lines_are : answer_lines (answers cgroups (machine c) (map abort ps)).0 ≡ abort_lines c (map (λ p. p.0) ps)
  last : (answers cgroups (machine c) (map abort ps)).1 ≡ machine (aborted_by c (map (λ p. p.0) ps))

are_ends : (ps : Opens) (c : CoreState) → IsReached c → AreEnds c ps
are_ends [] c is = record { lines_are = refl; last = refl }
are_ends (p ∷ ps) c is =
    let rest = are_ends ps (after c p.0 Abort) (after_reached c is p.0 Abort tt) in
    let here : (step cgroups (machine c) p.0 Abort).0 ≡ machine (after c p.0 Abort) = machine_after c is p.0 Abort tt in
    record {
      lines_are =
          (λ i. machine_line c is p.0 Abort tt i ++ answer_lines (answers cgroups (here i) (map abort ps)).0)
          ∙ ap (λ w. answer_line c p.0 Abort ++ w) rest.lines_are;
      last = ap (λ (m : Machine cgroups). (answers cgroups m (map abort ps)).1) here ∙ rest.last;
    }

-- the answers to the aborts of all that is open, and then the tree
abbrev ending_of : Machine cgroups → List ℕ → List ℕ
ending_of m before = let ends = answers cgroups m (aborts m) in (before ++ answer_lines ends.0) ++ world_text ends.1.tree

ending_is : (c : CoreState) (before : List ℕ) → IsReached c → ending_of (machine c) before ≡ before ++ ending_text c
ending_is c before is =
    let ks : List ℕ = ending_sessions c.history in
    let ends = are_ends (reverse (opens c.history)) c is in
    (λ i. (before ++ ends.lines_are i) ++ world_text (ends.last i).tree) ∙ append_assoc before (abort_lines c ks) (world_text (tree_now (aborted_by c ks)))

pub outputs_are_the_machines : OutputsAreTheMachines
outputs_are_the_machines T limit text out sound o =
    let r = all_told (lines_of text) (opened T limit) o.last o.answers (record { sound = sound; reached = reached_at_first T limit }) o.answered in
    let asked_for = answers cgroups (machine_opened cgroups T limit) (asked r.turns) in
    let ends = answers cgroups asked_for.1 (aborts asked_for.1) in
    record {
      turns = r.turns;
      told = r.told;
      proper = r.proper;
      whole =
          o.whole
          ∙ sym (ending_is o.last.core o.answers r.reached)
          ∙ ap (λ (m : Machine cgroups). ending_of m o.answers) (sym r.last)
          ∙ ap (λ w. w ++ world_text ends.1.tree) (sym (r.lines_are ends.0));
    }
