use Rattle.std.proofs.Common.{◌≡◌, ℕ, ◌+◌, ◌<◌, ◌&&◌, List, [], ◌∷◌, ◌++◌, length, map, take, ap, subst, Bool, true, false, All, refl, sym, ◌∙◌, take_all, true≢false, arith, rules, slice_index_or, Bor}
use Rattle.std.proofs.lemmas.List.{get_or-map, get_or_default, length-map, map-append, take-map, take_more}
use Rattle.std.proofs.lemmas.List.Elements.{All-more}
use Rattle.std.specs.Prelude.{Option}
use Rattle.std.specs.List.{Any}
use Rattle.cg_check.specs.declared.kind.Kind.{Kind}
use Rattle.cg_checked_files.specs.Named.{IsRightNamed, IsWrongNamed}
use Rattle.cg_checked_files.specs.Told.{AppendsFrontOfOne, AppendsFrontTold, AppendsOne, AppendsTold}
use Rattle.cg_checked_files.proofs.Telling.{none_told, on_any_err, one_front, one_more}
use Rattle.cg_checked_files.proofs.check_all.Goals as goal
use Rattle.cg_checked_files.proofs.check_all.Goals.{then-not-branch, else-not-branch}

-- the verdict of one text more
all_right : {X : Type 0} (P : X → Type 0) (xs : List X) (i : ℕ) (d : X) → i < length xs → (old one new : Bool) → (old ≡ true → All P (take i xs)) → (one ≡ true → P (slice_index_or xs i d)) → (one ≡ false → new ≡ false) → (one ≡ true → new ≡ old) → new ≡ true → All P (take (i + 1) xs)
all_right P xs i d lt old true new before this gone stays e = All-more P xs i d lt (before (sym (stays refl) ∙ e)) (this refl)
all_right P xs i d lt old false new before this gone stays e = absurd (true≢false (sym e ∙ gone refl))

any_wrong : {X : Type 0} (Q : X → Type 0) (xs : List X) (i : ℕ) (d : X) → i < length xs → (old one new : Bool) → (old ≡ false → Any Q xs) → (one ≡ false → Q (slice_index_or xs i d)) → (one ≡ true → new ≡ old) → new ≡ false → Any Q xs
any_wrong Q xs i d lt old true new before this stays e = before (sym (stays refl) ∙ e)
any_wrong Q xs i d lt old false new before this stays e = (i, slice_index_or xs i d, lt, get_or_default _ _ _ _ lt, this refl)

-- the texts are right where those before are, and this one is
both_right : (old one new : Bool) → (one ≡ false → new ≡ false) → (one ≡ true → new ≡ old) → new ≡ (old && one)
both_right true true new gone stays = stays refl
both_right false true new gone stays = stays refl
both_right true false new gone stays = gone refl
both_right false false new gone stays = gone refl

-- what is told of them, with one more
told_more : (standard : Option (List ℕ)) (file : List ℕ → Option (List ℕ)) (asked : Option Kind) (ws : List (Bor (List ℕ))) (i : ℕ) (d : Bor (List ℕ)) (old one new : Bool) (a b c : Option (List ℕ)) → i < length ws → (one ≡ false → new ≡ false) → (one ≡ true → new ≡ old)
    → AppendsTold standard file asked (map (λ (w : Bor (List ℕ)). w.now) (take i ws)) old a b → AppendsOne standard file asked (slice_index_or ws i d).now one b c → AppendsTold standard file asked (map (λ (w : Bor (List ℕ)). w.now) (take (i + 1) ws)) new a c
told_more standard file asked ws i d old one new a b c within gone stays before this =
    let word : Bor (List ℕ) → List ℕ = λ w. w.now in
    let names : map word (take (i + 1) ws) ≡ map word (take i ws) ++ word (slice_index_or ws i d) ∷ [] = ap (map word) (take_more ws i d within) ∙ map-append word (take i ws) (slice_index_or ws i d ∷ []) in
    subst (λ n. AppendsTold standard file asked n new a c) (sym names)
    (subst (λ r. AppendsTold standard file asked (map word (take i ws) ++ word (slice_index_or ws i d) ∷ []) r a c) (sym (both_right old one new gone stays))
    (one_more standard file asked (map word (take i ws)) (word (slice_index_or ws i d)) old one a b c before this))

-- a front of it
front_told : (standard : Option (List ℕ)) (file : List ℕ → Option (List ℕ)) (asked : Option Kind) (ws : List (Bor (List ℕ))) (i : ℕ) (d : Bor (List ℕ)) (are_right : Bool) (a b c : Option (List ℕ)) → i < length ws
    → AppendsTold standard file asked (map (λ (w : Bor (List ℕ)). w.now) (take i ws)) are_right a b → AppendsFrontOfOne standard file asked (slice_index_or ws i d).now b c → AppendsFrontTold standard file asked (map (λ (w : Bor (List ℕ)). w.now) ws) a c
front_told standard file asked ws i d are_right a b c within before this =
    let word : Bor (List ℕ) → List ℕ = λ w. w.now in
    one_front standard file asked (map word ws) i (word d) are_right a b c (subst (λ n. i < n) (sym (length-map ws word)) within)
    (subst (λ ns. AppendsTold standard file asked ns are_right a b) (sym (take-map word i ws)) before)
    (subst (λ n. AppendsFrontOfOne standard file asked n b c) (sym (get_or-map word ws i d (word d) within)) this)

pub loop-name-init : goal.loop-name-init
loop-name-init g c = record { right = search rules; wrong = search rules; json = λ json. none_told _ _ c.args.kind _; failed = refl }

pub loop-name-preserved : goal.loop-name-preserved
loop-name-preserved g c =
    let standard = g.P.Inputs.standard c.args.inputs.now in
    let file = g.P.Inputs.file c.args.inputs.now in
    let P : Bor (List ℕ) → Type 0 = λ w. IsRightNamed standard file c.args.kind w.now in
    let Q : Bor (List ℕ) → Type 0 = λ w. IsWrongNamed standard file c.args.kind w.now in
    let gone : c.in_ok-check_one.field-0 ≡ false → c.if-not-branch.are_right ≡ false = search rules in
    let stays : c.in_ok-check_one.field-0 ≡ true → c.if-not-branch.are_right ≡ c.loop-name.are_right = search rules in
    record {
      right = all_right P c.args.names.now c.loop-name.name-index _ c.loop-name-test.true c.loop-name.are_right c.in_ok-check_one.field-0 c.if-not-branch.are_right c.loop-name.invariant.right c.in_ok-check_one.ensures.right gone stays;
      wrong = any_wrong Q c.args.names.now c.loop-name.name-index _ c.loop-name-test.true c.loop-name.are_right c.in_ok-check_one.field-0 c.if-not-branch.are_right c.loop-name.invariant.wrong c.in_ok-check_one.ensures.wrong stays;
      json = λ json.
          told_more standard file c.args.kind c.args.names.now c.loop-name.name-index _ c.loop-name.are_right c.in_ok-check_one.field-0 c.if-not-branch.are_right _ _ _ c.loop-name-test.true gone stays
          (c.loop-name.invariant.json json) (c.in_ok-check_one.ensures.json json);
      failed = c.in_ok-check_one.ensures.counted ∙ c.loop-name.invariant.failed;
    }

pub returns-in_err-check_one-clause-front : goal.returns-in_err-check_one-clause-front
returns-in_err-check_one-clause-front g c = λ json.
    on_any_err c.from_residual.result
    (front_told (g.P.Inputs.standard c.args.inputs.now) (g.P.Inputs.file c.args.inputs.now) c.args.kind c.args.names.now c.loop-name.name-index _ c.loop-name.are_right _ _ _ c.loop-name-test.true
    (c.loop-name.invariant.json json) (c.in_err-check_one.ensures.front json))

pub returns-clause-json : goal.returns-clause-json
returns-clause-json g c = λ json. rw (take_all c.loop-name.name-index c.args.names.now (omega arith)) at (c.loop-name.invariant.json json)

pub returns-clause-right : goal.returns-clause-right
returns-clause-right g c = λ h. rw (take_all c.loop-name.name-index c.args.names.now (omega arith)) at c.loop-name.invariant.right h
