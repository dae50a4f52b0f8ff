-- What was committed, script by script.
use Rattle.std.proofs.Common.{◌≡◌, ℕ, suc, ◌+◌, ◌-◌, ◌≤◌, Bool, true, false, cond, List, [], ◌∷◌, ◌++◌, length, drop, append_assoc, refl, sym, ap, ◌∙◌, arith}
use Rattle.std.specs.Prelude.{nat_le}
use Rattle.std.proofs.Math.Seq.{drop-nil}
use Rattle.std.proofs.lemmas.Bool.Decides.{nat_tests}
use Rattle.cg_model.specs.System.{System}
use Rattle.cg_model.specs.History.{Answer, Committed, History}
use Rattle.cg_model.specs.Opens.{commits, commits_after}
use Rattle.cg_model.specs.Live.{Items, live, committed_after, committed, scripts_after, scripts, one_by_one}
use Rattle.cg_model.specs.Run.{run_items, committed_through, commit_tree}
use Rattle.cg_core_laws.specs.Scripts.{AreScripts}

module _ (y : System) where
  -- what one more answer makes of each
  count_after : (a : Answer) (l : Items y) (ss : List (Items y)) (k : ℕ) → length ss ≡ k → length (scripts_after a l ss) ≡ commits_after a k
  count_after (Committed j) l ss k e = omega arith
  count_after _ l ss k e = e

  all_after : (a : Answer) (l : Items y) (ss : List (Items y)) (cs : Items y) → one_by_one ss ≡ cs → one_by_one (scripts_after a l ss) ≡ committed_after a l cs
  all_after (Committed j) l ss cs e = ap (λ r. l ++ r) e
  all_after _ l ss cs e = e

  -- with fewer than all commits
  first_after : (a : Answer) (l : Items y) (ss : List (Items y)) (k n : ℕ) → nat_le (commits_after a k) n ≡ false → one_by_one (drop (commits_after a k - n) (scripts_after a l ss)) ≡ one_by_one (drop (k - n) ss)
  first_after (Committed j) l ss k n e =
      let le : n ≤ k = grind (arith, nat_tests) in
      let next : (k + 1) - n ≡ suc (k - n) = omega arith in
      ap (λ j. one_by_one (drop j (l ∷ ss))) next
  first_after _ l ss k n e = refl

  first_step : (all part : Items y) (ss : List (Items y)) (k n : ℕ) (b : Bool) → nat_le k n ≡ b → one_by_one ss ≡ all → (b ≡ false → one_by_one (drop (k - n) ss) ≡ part) → one_by_one (drop (k - n) ss) ≡ cond b all part
  first_step all part ss k n true e whole fewer =
      let none : k - n ≡ 0 = grind (arith, nat_tests) in ap (λ j. one_by_one (drop j ss)) none ∙ whole
  first_step all part ss k n false e whole fewer = fewer refl

  counted : (h : History y) → length (scripts h) ≡ commits h
  counted [] = refl
  counted (r ∷ h) = count_after r.answer (live r.transaction h) (scripts h) (commits h) (counted h)

  all_of : (h : History y) → one_by_one (scripts h) ≡ committed h
  all_of [] = refl
  all_of (r ∷ h) = all_after r.answer (live r.transaction h) (scripts h) (committed h) (all_of h)

  first_of_all : (h : History y) (n : ℕ) → one_by_one (drop (commits h - n) (scripts h)) ≡ committed_through n h
  first_of_all [] n = ap one_by_one (drop-nil (0 - n))
  first_of_all (r ∷ h) n =
      first_step (committed (r ∷ h)) (committed_through n h) (scripts (r ∷ h)) (commits (r ∷ h)) n (nat_le (commits (r ∷ h)) n) refl (all_of (r ∷ h))
      (λ fewer. first_after r.answer (live r.transaction h) (scripts h) (commits h) n fewer ∙ first_of_all h n)

  -- ---- what was committed through an earlier commit earlier_begins what was through a later one

  abbrev Begins : Items y → Items y → Type 0
  Begins l k = (newer : Items y) × (k ≡ newer ++ l)

  begins_after : (a : Answer) (l cs before : Items y) → Begins before cs → Begins before (committed_after a l cs)
  begins_after (Committed j) l cs before (newer, e) = (l ++ newer, ap (λ r. l ++ r) e ∙ sym (append_assoc l newer before))
  begins_after _ l cs before i = i

  begins_cond : (all part : Items y) (b : Bool) → Begins part all → Begins (cond b all part) all
  begins_cond all part true i = ([], refl)
  begins_cond all part false i = i

  begins_all : (m : ℕ) (h : History y) → Begins (committed_through m h) (committed h)
  begins_all m [] = ([], refl)
  begins_all m (r ∷ h) = begins_cond (committed (r ∷ h)) (committed_through m h) (nat_le (commits (r ∷ h)) m) (begins_after r.answer (live r.transaction h) (committed h) (committed_through m h) (begins_all m h))

  begins_step : (all early late : Items y) (b c : Bool) → (b ≡ true → c ≡ true) → Begins (cond b all early) all → Begins early late → Begins (cond b all early) (cond c all late)
  begins_step all early late b true le i j = i
  begins_step all early late true false le i j = absurd (cc (le refl))
  begins_step all early late false false le i j = j

  earlier_begins : (m n : ℕ) → m ≤ n → (h : History y) → Begins (committed_through m h) (committed_through n h)
  earlier_begins m n le [] = ([], refl)
  earlier_begins m n le (r ∷ h) =
      let k : ℕ = commits (r ∷ h) in
      begins_step (committed (r ∷ h)) (committed_through m h) (committed_through n h) (nat_le k m) (nat_le k n) (λ e. grind (arith, nat_tests))
      (begins_all m (r ∷ h)) (earlier_begins m n le h)

  pub are_scripts : (h : History y) → AreScripts y h
  are_scripts h = record { count = counted h; all = all_of h; first = first_of_all h; begin = λ m n le. earlier_begins m n le h }

  -- ---- the tree of a commit

  committed_more : (a : Answer) (l cs now : Items y) (k n : ℕ) → n ≤ k → nat_le (commits_after a k) n ≡ true → (nat_le k n ≡ true → cs ≡ now) → committed_after a l cs ≡ now
  committed_more (Committed j) l cs now k n le e i = absurd (grind (arith, nat_tests))
  committed_more _ l cs now k n le e i = i e

  more_commits : (a : Answer) (k n : ℕ) → n ≤ k → n ≤ commits_after a k
  more_commits (Committed j) k n le = omega arith
  more_commits _ k n le = le

  later_commits : (newer h : History y) → commits h ≤ commits (newer ++ h)
  later_commits [] h = omega arith
  later_commits (r ∷ newer) h = more_commits r.answer (commits (newer ++ h)) (commits h) (later_commits newer h)

  no_more : (newer h : History y) → nat_le (commits (newer ++ h)) (commits h) ≡ true → committed (newer ++ h) ≡ committed h
  no_more [] h e = refl
  no_more (r ∷ newer) h e = committed_more r.answer (live r.transaction (newer ++ h)) (committed (newer ++ h)) (committed h) (commits (newer ++ h)) (commits h) (later_commits newer h) e (no_more newer h)

  through_step : (all part now : Items y) (b : Bool) → (b ≡ true → all ≡ now) → (b ≡ false → part ≡ now) → cond b all part ≡ now
  through_step all part now true i j = i refl
  through_step all part now false i j = j refl

  through_now : (h : History y) → committed_through (commits h) h ≡ committed h
  through_now [] = refl
  through_now (r ∷ h) = let all : nat_le (commits (r ∷ h)) (commits (r ∷ h)) ≡ true = grind (arith, nat_tests) in rw all

  through_later : (newer h : History y) → committed_through (commits h) (newer ++ h) ≡ committed h
  through_later [] h = through_now h
  through_later (r ∷ newer) h =
      through_step (committed (r ∷ (newer ++ h))) (committed_through (commits h) (newer ++ h)) (committed h) (nat_le (commits (r ∷ (newer ++ h))) (commits h)) (no_more (r ∷ newer) h) (λ e. through_later newer h)

  pub commit_trees : (o : y.State) (newer h : History y) → commit_tree y o (commits h) (newer ++ h) ≡ run_items y o (committed h)
  commit_trees o newer h = ap (run_items y o) (through_later newer h)

  pub trees_of_scripts : (o : y.State) (n : ℕ) (h : History y) → commit_tree y o n h ≡ run_items y o (one_by_one (drop (commits h - n) (scripts h)))
  trees_of_scripts o n h = ap (run_items y o) (sym (first_of_all h n))
