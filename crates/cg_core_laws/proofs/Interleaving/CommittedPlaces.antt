-- The places of the commands of committed scripts.
use Rattle.std.proofs.Common.{◌≡◌, ◌≢◌, ℕ, suc, ◌<◌, ◌≤◌, ◌==◌, Bool, true, false, cond, List, [], ◌∷◌, ◌++◌, length, map, drop, Option, Some, None, refl, sym, ap, ◌∙◌, subst, arith}
use Rattle.std.proofs.lemmas.Bool.{eqb-true, eq-eqb, false_from_ne_true}
use Rattle.std.proofs.lemmas.List.{map-append, length-map}
use Rattle.std.specs.List.{AllByRecursion}
use Rattle.cg_name.specs.Name.{Name, same_name}
use Rattle.cg_model.specs.System.{System}
use Rattle.cg_model.specs.History.{Request, Do, Save, Back, Undo, Abort, Answer, Gave, Saved, WentBack, Committed, Aborted, Record, History}
use Rattle.cg_model.specs.Opens.{among, commits}
use Rattle.cg_model.specs.Live.{Ran, AtSavepoint, Items, below, live_after, live, scripts_after, scripts}
use Rattle.cg_core_laws.specs.CommittedCommands.{places, commands_of, numbered, number_of, committed_places, script, script_places, accepted_command, command_at, GoUp, ArePlaces}
use Rattle.cg_core_laws.proofs.Interleaving.CommittedScripts.{are_scripts}
use Rattle.cg_core_laws.proofs.Interleaving.SelectedRecords.{Down, down_more, down_behind, down_live}

-- ---- lists by their number

pub numbered_map : {A B : Type 0} (f : List A → List B) → f [] ≡ [] → (k : ℕ) (ls : List (List A)) → numbered k (map f ls) ≡ f (numbered k ls)
numbered_map f e k [] = sym e
numbered_map f e k (l ∷ ls) =
    ap (λ n. cond (suc n == k) (f l) (numbered k (map f ls))) (length-map ls f) ∙ at (suc (length ls) == k) (numbered_map f e k ls)
  where
    at : (b : Bool) → numbered k (map f ls) ≡ f (numbered k ls) → cond b (f l) (numbered k (map f ls)) ≡ f (cond b l (numbered k ls))
    at true rest = refl
    at false rest = rest

-- what holds of each and of the empty one holds of the k-th
pub numbered_all : {A : Type 0} (P : List A → Type 0) → P [] → (k : ℕ) (ls : List (List A)) → AllByRecursion P ls → P (numbered k ls)
numbered_all P e k [] h = e
numbered_all P e k (l ∷ ls) h = at (suc (length ls) == k) (numbered_all P e k ls h.1)
  where
    at : (b : Bool) → P (numbered k ls) → P (cond b l (numbered k ls))
    at true rest = h.0
    at false rest = rest

pub numbered_past : {A : Type 0} (k : ℕ) (ls : List (List A)) → length ls < k → numbered k ls ≡ []
numbered_past k [] lt = refl
numbered_past k (l ∷ ls) lt =
    let other : (suc (length ls) == k) ≡ false = false_from_ne_true (suc (length ls) == k) (λ e. let is = eqb-true (suc (length ls)) k e in omega (arith, is, lt)) in
    rw other (numbered_past k ls (omega (arith, lt)))

-- further ones in front leave the earlier ones
pub numbered_more : {A : Type 0} (k : ℕ) (newer ls : List (List A)) → k ≤ length ls → numbered k (newer ++ ls) ≡ numbered k ls
numbered_more k [] ls le = refl
numbered_more {A} k (l ∷ newer) ls le =
    let other : (suc (length (newer ++ ls)) == k) ≡ false = false_from_ne_true (suc (length (newer ++ ls)) == k) (λ e. let is = eqb-true (suc (length (newer ++ ls))) k e in let more = longer newer in omega (arith, is, le, more)) in
    rw other (numbered_more k newer ls le)
  where
    longer : (newer : List (List A)) → length ls ≤ length (newer ++ ls)
    longer [] = omega arith
    longer (l ∷ newer) = let rest = longer newer in omega (arith, rest)

pub number_within : (n : ℕ) (ls : List (List ℕ)) → number_of n ls ≤ length ls
number_within n [] = omega arith
number_within n (l ∷ ls) = at (among n l) (number_within n ls)
  where
    at : (b : Bool) → number_of n ls ≤ length ls → cond b (suc (length ls)) (number_of n ls) ≤ suc (length ls)
    at true rest = omega arith
    at false rest = omega (arith, rest)

-- the one that is told has it
pub number_has : (n : ℕ) (ls : List (List ℕ)) → number_of n ls ≢ 0 → among n (numbered (number_of n ls) ls) ≡ true
number_has n [] h = absurd (h refl)
number_has n (l ∷ ls) h = at (among n l) refl h (number_has n ls)
  where
    at : (b : Bool) → among n l ≡ b → cond b (suc (length ls)) (number_of n ls) ≢ 0 → (number_of n ls ≢ 0 → among n (numbered (number_of n ls) ls) ≡ true)
        → among n (cond (suc (length ls) == cond b (suc (length ls)) (number_of n ls)) l (numbered (cond b (suc (length ls)) (number_of n ls)) ls)) ≡ true
    at true e h rest = let same : (suc (length ls) == suc (length ls)) ≡ true = eq-eqb (suc (length ls)) (suc (length ls)) refl in rw same e
    at false e h rest =
        let within = number_within n ls in
        let other : (suc (length ls) == number_of n ls) ≡ false = false_from_ne_true (suc (length ls) == number_of n ls) (λ e. let is = eqb-true (suc (length ls)) (number_of n ls) e in omega (arith, is, within)) in
        rw other (rest h)

-- ---- ascending places

all_last : (P : ℕ → Type 0) (ns : List ℕ) (n : ℕ) → AllByRecursion P ns → P n → AllByRecursion P (ns ++ n ∷ [])
all_last P [] n a p = (p, tt)
all_last P (m ∷ ns) n a p = (a.0, all_last P ns n a.1 p)

up_last : (ns : List ℕ) (n : ℕ) → GoUp ns → AllByRecursion (λ m. m < n) ns → GoUp (ns ++ n ∷ [])
up_last [] n up below = (tt, tt)
up_last (m ∷ ns) n up below = (all_last (λ i. m < i) ns n up.0 below.0, up_last ns n up.1 below.1)

module _ (y : System) where
  places_below : (n : ℕ) (l : Items y) → Down n l → AllByRecursion (λ m. m < n) (places l)
  places_below n [] d = tt
  places_below n (Ran t h c a ∷ l) d = all_last (λ m. m < n) (places l) (length h) (places_below n l (down_behind y n (Ran t h c a) l d)) d.0
  places_below n (AtSavepoint t h m ∷ l) d = places_below n l (down_behind y n (AtSavepoint t h m) l d)

  -- they are indices of records
  pub places_live : (t : ℕ) (h : History y) → AllByRecursion (λ m. m < length h) (places (live t h))
  places_live t h = places_below (length h) (live t h) (down_live y t h)

  places_up : (n : ℕ) (l : Items y) → Down n l → GoUp (places l)
  places_up n [] d = tt
  places_up n (Ran t h c a ∷ l) d = up_last (places l) (length h) (places_up (length h) l d.1) (places_below (length h) l d.1)
  places_up n (AtSavepoint t h m ∷ l) d = places_up (length h) l d.1

  -- ---- what their records asked for

  -- the transaction of the record at an index
  abbrev pub transaction_at : History y → ℕ → Option ℕ
  transaction_at [] n = None
  transaction_at (r ∷ h) n = cond (length h == n) (Some r.transaction) (transaction_at h n)

  -- each command of these items is that of the record at its place, which is one of the transaction t
  abbrev pub Told : ℕ → History y → Items y → Type 0
  Told t h [] = Unit {0}
  Told t h (Ran u g c a ∷ l) = (length g < length h) × (command_at h (length g) ≡ Some c) × (transaction_at h (length g) ≡ Some t) × Told t h l
  Told t h (AtSavepoint u g n ∷ l) = Told t h l

  pub told_more : (t : ℕ) (r : Record y) (h : History y) (l : Items y) → Told t h l → Told t (r ∷ h) l
  told_more t r h [] k = tt
  told_more t r h (Ran u g c a ∷ l) k =
      let lower = k.0 in
      let other : (length h == length g) ≡ false = false_from_ne_true (length h == length g) (λ e. let is = eqb-true (length h) (length g) e in omega (arith, is, lower)) in
      (omega (arith, lower), rw other k.1, rw other k.2, told_more t r h l k.3)
  told_more t r h (AtSavepoint u g n ∷ l) k = told_more t r h l k

  told_cond : (t : ℕ) (h : History y) (b : Bool) (l m : Items y) → (b ≡ true → Told t h l) → Told t h m → Told t h (cond b l m)
  told_cond t h true l m k j = k refl
  told_cond t h false l m k j = j

  told_below : (t : ℕ) (h : History y) (n : Name) (l : Items y) → Told t h l → Told t h (below n l)
  told_below t h n [] k = tt
  told_below t h n (Ran u g c a ∷ l) k = told_below t h n l k.3
  told_below t h n (AtSavepoint u g m ∷ l) k = told_cond t h (same_name m n) l (below n l) (λ _. k) (told_below t h n l k)

  told_tail : (t : ℕ) (h : History y) (l : Items y) → Told t h l → Told t h (drop 1 l)
  told_tail t h [] k = tt
  told_tail t h (Ran u g c a ∷ l) k = k.3
  told_tail t h (AtSavepoint u g n ∷ l) k = k

  told_after : (t : ℕ) (r : Record y) (h : History y) (q : Request y) (a : Answer) (l : Items y) → r.transaction ≡ t → r.request ≡ q → r.answer ≡ a → Told t h l → Told t (r ∷ h) (live_after q a r.transaction h l)
  told_after t r h (Do c) (Gave a) l own e i k =
      let same : (length h == length h) ≡ true = eq-eqb (length h) (length h) refl in
      (omega arith, rw same ((λ j. accepted_command (e j) (i j))), rw same (ap Some own), told_more t r h l k)
  told_after t r h (Save n) Saved l own e i k = told_more t r h l k
  told_after t r h Undo (Gave a) l own e i k = told_more t r h (drop 1 l) (told_tail t h l k)
  told_after t r h (Back n) (WentBack j) l own e i k = told_more t r h (below n l) (told_below t h n l k)
  told_after t r h Abort (Aborted u) l own e i k = tt
  told_after t r h _ _ l own e i k = told_more t r h l k

  pub told_live : (t : ℕ) (h : History y) → Told t h (live t h)
  told_live t [] = tt
  told_live t (r ∷ h) =
      told_cond t (r ∷ h) (r.transaction == t) _ _ (λ own. told_after t r h r.request r.answer (live t h) (eqb-true r.transaction t own) refl refl (told_live t h)) (told_more t r h (live t h) (told_live t h))

  -- so are those of some transaction
  abbrev ToldOfOne : History y → Items y → Type 0
  ToldOfOne h l = (t : ℕ) × Told t h l

  told_all_more : (r : Record y) (h : History y) (ls : List (Items y)) → AllByRecursion (ToldOfOne h) ls → AllByRecursion (ToldOfOne (r ∷ h)) ls
  told_all_more r h [] k = tt
  told_all_more r h (l ∷ ls) k = ((k.0.0, told_more k.0.0 r h l k.0.1), told_all_more r h ls k.1)

  told_scripts : (h : History y) → AllByRecursion (ToldOfOne h) (scripts h)
  told_scripts [] = tt
  told_scripts (r ∷ h) = at r.answer (told_all_more r h (scripts h) (told_scripts h))
    where
      at : (a : Answer) → AllByRecursion (ToldOfOne (r ∷ h)) (scripts h) → AllByRecursion (ToldOfOne (r ∷ h)) (scripts_after a (live r.transaction h) (scripts h))
      at (Committed k) rest = ((r.transaction, told_more r.transaction r h (live r.transaction h) (told_live r.transaction h)), rest)
      at _ rest = rest

  told_commands : (t : ℕ) (h : History y) (l : Items y) → Told t h l → map (command_at h) (places l) ≡ map Some (commands_of l)
  told_commands t h [] k = refl
  told_commands t h (Ran u g c a ∷ l) k =
      map-append (command_at h) (places l) (length g ∷ [])
      ∙ (λ i. told_commands t h l k.3 i ++ k.1 i ∷ [])
      ∙ sym (map-append Some (commands_of l) (c ∷ []))
  told_commands t h (AtSavepoint u g n ∷ l) k = told_commands t h l k

  pub told_transaction : (t : ℕ) (h : History y) (l : Items y) → Told t h l → AllByRecursion (λ n. transaction_at h n ≡ Some t) (places l)
  told_transaction t h [] k = tt
  told_transaction t h (Ran u g c a ∷ l) k = all_last (λ n. transaction_at h n ≡ Some t) (places l) (length g) (told_transaction t h l k.3) k.2
  told_transaction t h (AtSavepoint u g n ∷ l) k = told_transaction t h l k

  -- ---- of each script

  downs : (h : History y) → AllByRecursion (Down (length h)) (scripts h)
  downs [] = tt
  downs (r ∷ h) = at r.answer (more (scripts h) (downs h))
    where
      more : (ls : List (Items y)) → AllByRecursion (Down (length h)) ls → AllByRecursion (Down (suc (length h))) ls
      more [] d = tt
      more (l ∷ ls) d = (down_more y (length h) (suc (length h)) l (omega arith) d.0, more ls d.1)

      at : (a : Answer) → AllByRecursion (Down (suc (length h))) (scripts h) → AllByRecursion (Down (suc (length h))) (scripts_after a (live r.transaction h) (scripts h))
      at (Committed k) rest = (down_more y (length h) (suc (length h)) _ (omega arith) (down_live y r.transaction h), rest)
      at _ rest = rest

  pub places_of : (k : ℕ) (h : History y) → script_places k h ≡ places (script k h)
  places_of k h = numbered_map places refl k (scripts h)

  pub are_places : (h : History y) → ArePlaces y h
  are_places h = record {
    count = length-map (scripts h) places ∙ (are_scripts y h).count;
    commands = λ k.
        ap (map (command_at h)) (places_of k h)
        ∙ (let told = numbered_all (ToldOfOne h) (0, tt) k (scripts h) (told_scripts h) in told_commands told.0 h (script k h) told.1);
    ascending = λ k. subst GoUp (sym (places_of k h)) (places_up (length h) (script k h) (numbered_all (Down (length h)) tt k (scripts h) (downs h)));
    within = λ k. subst (AllByRecursion (λ n. n < length h)) (sym (places_of k h)) (places_below (length h) (script k h) (numbered_all (Down (length h)) tt k (scripts h) (downs h)));
    in_script = λ n. number_has n (committed_places h);
  }

  -- ---- scripts stay

  scripts_more : (newer h : History y) → (more : List (Items y)) × (scripts (newer ++ h) ≡ more ++ scripts h)
  scripts_more [] h = ([], refl)
  scripts_more (r ∷ newer) h = at r.answer (scripts_more newer h)
    where
      at : (a : Answer) → (more : List (Items y)) × (scripts (newer ++ h) ≡ more ++ scripts h)
          → (more : List (Items y)) × (scripts_after a (live r.transaction (newer ++ h)) (scripts (newer ++ h)) ≡ more ++ scripts h)
      at (Committed k) (more, e) = (live r.transaction (newer ++ h) ∷ more, ap (λ ls. live r.transaction (newer ++ h) ∷ ls) e)
      at _ rest = rest

  pub script_stays : (newer h : History y) (k : ℕ) → k ≤ commits h → script k (newer ++ h) ≡ script k h
  script_stays newer h k le =
      let more = scripts_more newer h in
      let count : length (scripts h) ≡ commits h = (are_scripts y h).count in
      ap (numbered k) more.1 ∙ numbered_more k more.0 (scripts h) (omega (arith, count, le))

  pub places_stay : (newer h : History y) (k : ℕ) → k ≤ commits h → script_places k (newer ++ h) ≡ script_places k h
  places_stay newer h k le = places_of k (newer ++ h) ∙ ap places (script_stays newer h k le) ∙ sym (places_of k h)
