-- A transaction commits: its script is the newest.
use Rattle.std.proofs.Common.{◌≡◌, ℕ, suc, ◌+◌, ◌-◌, ◌<◌, ◌≤◌, true, cond, List, [], ◌∷◌, ◌++◌, length, take, drop, map, refl, sym, ap, ◌∙◌, arith, true≢false}
use Rattle.std.proofs.lemmas.List.{length-append, take_all}
use Rattle.std.proofs.Math.Seq.{drop-append_seam}
use Rattle.std.specs.List.{AllByRecursion}
use Rattle.cg_model.specs.Cgroups.{cgroups}
use Rattle.cg_model.specs.History.{Answer, Begun, Gave, Saved, WentBack, Committed, Aborted, Refused, Record, History}
use Rattle.cg_model.specs.Live.{Items, live, scripts_after, scripts}
use Rattle.cg_model.specs.Opens.{among, commits}
use Rattle.cg_core_laws.specs.CommittedCommands.{places, number_of, committed_places, commit_of}
use Rattle.cg_core_laws.proofs.Interleaving.CommittedPlaces.{are_places}
use Rattle.cg_txn.specs.Places.{places_on}
use Rattle.cg_txn.specs.Stack.{StackItem, Command, Savepoint}
use Rattle.cg_commits.specs.Answers.{is_commit}

-- what was written behind others
pub behind : (old script all : List ℕ) (start end : ℕ) → all ≡ old ++ script → start ≡ length old → end ≡ length all → take (end - start) (drop start all) ≡ script
behind old script all start end is from to =
    let more : length (old ++ script) ≡ length old + length script = length-append old script in
    let as_many : length all ≡ length (old ++ script) = ap length is in
    ap (λ xs. take (end - start) (drop start xs)) is
    ∙ ap (λ n. take (end - start) (drop n (old ++ script))) from
    ∙ ap (take (end - start)) (drop-append_seam old script)
    ∙ take_all (end - start) script (omega (arith, from, to, as_many, more))

pub fewer_places : (l : List StackItem) → length (places_on l) ≤ length l
fewer_places [] = omega arith
fewer_places (Command k d f ∷ l) =
    let rest = fewer_places l in let more : length (places_on l ++ k ∷ []) ≡ length (places_on l) + 1 = length-append (places_on l) (k ∷ []) in omega (arith, rest, more)
fewer_places (Savepoint n ∷ l) = let rest = fewer_places l in omega (arith, rest)

script_first : (a : Answer) (l : Items cgroups) (ss : List (Items cgroups)) → is_commit a ≡ true → scripts_after a l ss ≡ l ∷ ss
script_first (Committed k) l ss e = refl
script_first (Begun u) l ss e = absurd (true≢false (sym e))
script_first (Gave o) l ss e = absurd (true≢false (sym e))
script_first Saved l ss e = absurd (true≢false (sym e))
script_first (WentBack k) l ss e = absurd (true≢false (sym e))
script_first (Aborted u) l ss e = absurd (true≢false (sym e))
script_first (Refused r) l ss e = absurd (true≢false (sym e))

module _ (r : Record cgroups) (h : History cgroups) (is : is_commit r.answer ≡ true) where
  pub places_first : committed_places (r ∷ h) ≡ places (live r.transaction h) ∷ committed_places h
  places_first = ap (map places) (script_first r.answer (live r.transaction h) (scripts h) is)

  -- its places have the next number
  pub numbers_first : (n old now number : ℕ) (script : List ℕ) → script ≡ places (live r.transaction h) → number ≡ commits h + 1 → old ≡ commit_of n h → now ≡ cond (among n script) number old → now ≡ commit_of n (r ∷ h)
  numbers_first n old now number script same next was so =
      let count : length (committed_places h) ≡ commits h = (are_places cgroups h).count in
      let as_next : number ≡ suc (length (committed_places h)) = omega (arith, next, count) in
      so ∙ (λ i. cond (among n (same i)) (as_next i) (was i)) ∙ sym (ap (number_of n) places_first)

pub all_less : (m n : ℕ) (ns : List ℕ) → m ≤ n → AllByRecursion (λ k. k < m) ns → AllByRecursion (λ k. k < n) ns
all_less m n [] le a = tt
all_less m n (k ∷ ns) le a = let this = a.0 in (omega (arith, this, le), all_less m n ns le a.1)
