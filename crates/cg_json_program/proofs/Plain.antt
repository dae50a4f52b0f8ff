-- What is told are the plain answers, in their order.
use Rattle.std.proofs.Common.{◌≡◌, ℕ, List, [], ◌∷◌, ◌++◌, Some, None, Option, refl, sym, ap, subst, ◌∙◌, inl, inr, append_assoc, append-nil}
use Rattle.std.proofs.lemmas.Grind.{flat_map-append}
use Rattle.std.specs.List.{flat_map}
use Rattle.cg_lines.specs.Device.{more}
use Rattle.cg_replay.specs.Answering.{EachAnswers}
use Rattle.cg_replay.specs.Replay.{Replay, Answers}
use Rattle.cg_json_program.specs.Output.{text_of, Tells}
use Rattle.cg_json_program.specs.Steps.{Steps}
use Rattle.cg_json_program.specs.Report.{Report, plain_line, told_line}
use Rattle.cg_json_program.specs.declared.reporter.Reporter.{Reporter}

-- the plain line of what is told, if anything is
abbrev plain_of : Option Report → List ℕ
plain_of None = []
plain_of (Some x) = plain_line x

-- before others
abbrev onto : Option Report → List Report → List Report
onto None xs = xs
onto (Some x) xs = x ∷ xs

onto_each : (f : Report → List ℕ) (all : Option Report → List ℕ) → all None ≡ [] → ((x : Report) → all (Some x) ≡ f x) → (o : Option Report) (xs : List Report) → flat_map f (onto o xs) ≡ all o ++ flat_map f xs
onto_each f all none some None xs = ap (λ l. l ++ flat_map f xs) (sym none)
onto_each f all none some (Some x) xs = ap (λ l. l ++ flat_map f xs) (sym (some x))

answered : (s t : Replay) (i : ℕ) (line : List ℕ) (told : Option Report) → Steps s i line told t → Answers s line (plain_of told) t
answered s t i line told (inl h) = inl (h.0, ap plain_of h.1, h.2)
answered s t i line told (inr (inl h)) = inr (inl (h.0, h.1, h.2, h.3, (h.4.0, ap plain_of h.4.1, h.4.2)))
answered s t i line told (inr (inr h)) = inr (inr (h.0, ap plain_of h.1, h.2))

-- the answers to some lines, of which these are told
pub record ArePlain (s t : Reporter) (lines : List (List ℕ)) (out : List ℕ) : Type 0 where
  pub told : List Report
  pub whole : out ≡ flat_map told_line told
  pub answers : EachAnswers Answers s.player lines (flat_map plain_line told) t.player

pub are_plain : (lines : List (List ℕ)) (s t : Reporter) (out : List ℕ) → EachAnswers Tells s lines out t → ArePlain s t lines out
are_plain [] s t out h = record { told = []; whole = h.0; answers = (refl, ap (λ (x : Reporter). x.player) h.1) }
are_plain (line ∷ lines) s t out h =
    let u : Reporter = h.2 in
    let o : Option Report = h.3.0 in
    let p : Replay = h.3.1 in
    let rest = are_plain lines u t h.1 h.4 in
    let here : p ≡ u.player = ap (λ (x : Reporter). x.player) (sym h.3.3) in
    record {
      told = onto o rest.told;
      whole =
          h.5
          ∙ ap (λ l. l ++ h.1) h.3.4
          ∙ ap (λ l. text_of o ++ l) rest.whole
          ∙ sym (onto_each told_line text_of refl (λ x. refl) o rest.told);
      answers = (
        plain_of o,
        flat_map plain_line rest.told,
        p,
        answered s.player p (more s.lines) line o h.3.2,
        subst (λ r. EachAnswers Answers r lines (flat_map plain_line rest.told) t.player) (sym here) rest.answers,
        onto_each plain_line plain_of refl (λ x. refl) o rest.told,
      );
    }

-- these and then those, and what comes behind them
pub both_told : (f : Report → List ℕ) (xs ys : List Report) (behind : List ℕ) → flat_map f xs ++ (flat_map f ys ++ behind) ≡ flat_map f (xs ++ ys) ++ behind
both_told f xs ys behind = sym (append_assoc (flat_map f xs) (flat_map f ys) behind) ∙ ap (λ l. l ++ behind) (sym (flat_map-append f xs ys))

-- one more behind these
pub one_more : (f : Report → List ℕ) (xs : List Report) (x : Report) → flat_map f xs ++ f x ≡ flat_map f (xs ++ x ∷ [])
one_more f xs x = ap (λ l. flat_map f xs ++ l) (sym (append-nil (f x))) ∙ sym (flat_map-append f xs (x ∷ []))
