-- How many items stand after one more call.
use Rattle.std.proofs.Common.{◌≡◌, ℕ, ◌+◌, ◌-◌, ◌≤◌, Bool, true, false, cond, List, [], ◌∷◌, ◌++◌, length, drop, length-drop, refl, sym, ap, ◌∙◌, subst, arith, map}
use Rattle.std.proofs.lemmas.Bool.{cond_both}
use Rattle.cg_name.specs.Name.{Name, same_name}
use Rattle.cg_model.specs.Cgroups.{cgroups}
use Rattle.cg_model.specs.History.{Request, Begin, Do, Save, Back, Undo, Commit, Abort, Answer, Begun, Gave, Saved, WentBack, Committed, Aborted, Refused, is_recorded}
use Rattle.std.proofs.lemmas.List.{map-append}
use Rattle.cg_history.specs.Meaning.{answer_of, request_of}
use Rattle.cg_log.specs.Call.{Call}
use Rattle.cg_log.specs.CallOf.{call_of}
use Rattle.cg_log.specs.declared.call.Call as rust
use Rattle.cg_log.specs.Standing.{Item, Command, Savepoint, before_savepoint, goes_back, is_refused, left_by, standing, standing_from, stands_after}

one_more_from : (items : List Item) (cs : List Call) (c : Call) → standing_from items (cs ++ c ∷ []) ≡ stands_after c (standing_from items cs)
one_more_from items [] c = refl
one_more_from items (d ∷ cs) c = one_more_from (stands_after d items) cs c

-- after one more call there stands what it leaves
pub standing-more : (cs : List Call) (c : Call) → standing (cs ++ c ∷ []) ≡ stands_after c (standing cs)
standing-more cs c = one_more_from [] cs c

-- going back to a savepoint takes one item off at least, or leaves none
fewer : (n : Name) (items : List Item) → length (before_savepoint n items) ≤ length items - 1
fewer n [] = omega arith
fewer n (Command ∷ items) = omega (arith, fewer n items)
fewer n (Savepoint m ∷ items) =
    let one : length (cond (same_name m n) items (before_savepoint n items)) ≤ length items =
    cond_both (same_name m n) items (before_savepoint n items) (λ l. length l ≤ length items) (λ _. omega arith) (λ _. omega (arith, fewer n items)) in
    omega (arith, one)

-- an accepted request leaves one item more at most
pub left_by-bound : (r : Request cgroups) (items : List Item) → length (left_by r items) ≤ 1 + length items
left_by-bound Begin items = omega arith
left_by-bound (Do c) items = omega arith
left_by-bound (Save n) items = omega arith
left_by-bound (Back n) items = omega (arith, fewer n items)
left_by-bound Undo items = omega (arith, length-drop 1 items)
left_by-bound Commit items = omega arith
left_by-bound Abort items = omega arith

-- and one that goes back one less, or none
pub left_by-back : (r : Request cgroups) (items : List Item) → goes_back r ≡ true → length (left_by r items) ≤ length items - 1
left_by-back Begin items back = cc
left_by-back (Do c) items back = cc
left_by-back (Save n) items back = cc
left_by-back (Back n) items back = fewer n items
left_by-back Undo items back = omega (arith, length-drop 1 items)
left_by-back Commit items back = cc
left_by-back Abort items back = cc

stands_same : (c : Call) (items : List Item) (b : Bool) → is_refused c.answer ≡ b → stands_after c items ≡ cond b items (left_by c.request items)
stands_same c items b e = ap (λ t. cond t items (left_by c.request items)) e

bound_by : (b : Bool) (r : Request cgroups) (items : List Item) → length (cond b items (left_by r items)) ≤ cond b 0 1 + length items
bound_by true r items = omega arith
bound_by false r items = omega (arith, left_by-bound r items)

-- what goes back and has a record wasn't refused
not_refused : (r : Request cgroups) (a : Answer) → goes_back r ≡ true → is_recorded r a ≡ true → is_refused a ≡ false
not_refused (Back n) (Refused e) back has = cc
not_refused Undo (Refused e) back has = cc
not_refused Begin (Refused e) back has = cc
not_refused (Do c) (Refused e) back has = cc
not_refused (Save n) (Refused e) back has = cc
not_refused Commit (Refused e) back has = cc
not_refused Abort (Refused e) back has = cc
not_refused r (Begun t) back has = refl
not_refused r (Gave o) back has = refl
not_refused r Saved back has = refl
not_refused r (WentBack k) back has = refl
not_refused r (Committed k) back has = refl
not_refused r (Aborted t) back has = refl

-- what stands in a log that one call was added to
pushed : (old new : List rust.Call) (x : rust.Call) → new ≡ old ++ x ∷ [] → standing (map call_of new) ≡ stands_after (call_of x) (standing (map call_of old))
pushed old new x e = ap (λ l. standing (map call_of l)) e ∙ ap standing (map-append call_of old (x ∷ [])) ∙ standing-more (map call_of old) (call_of x)

-- a log that has places for all that stands has them with one more call, and the places for that
pub room_kept : (old new : List rust.Call) (x : rust.Call) (n : ℕ) → new ≡ old ++ x ∷ [] → 1 + length (standing (map call_of old)) ≤ n
    → 1 + length (standing (map call_of new)) ≤ n + cond (is_refused (answer_of x.answer)) 0 1
room_kept old new x n e room =
    let items = standing (map call_of old) in
    let bound = bound_by (is_refused (answer_of x.answer)) (request_of x.request) items in
    omega (arith, ap length (pushed old new x e), bound, room)

-- and with one place less, where the call went back
pub room_left : (old new : List rust.Call) (x : rust.Call) (n : ℕ) → new ≡ old ++ x ∷ [] → goes_back (request_of x.request) ≡ true → is_recorded (request_of x.request) (answer_of x.answer) ≡ true
    → 2 ≤ n → 1 + length (standing (map call_of old)) ≤ n → 1 + length (standing (map call_of new)) ≤ n - 1
room_left old new x n e back has two room =
    let items = standing (map call_of old) in
    let same = stands_same (call_of x) items false (not_refused (request_of x.request) (answer_of x.answer) back has) in
    omega (arith, ap length (pushed old new x e), ap length same, left_by-back (request_of x.request) items back, two, room)

-- behind a Begin nothing stands
pub none_at_begin : (old new : List rust.Call) (x : rust.Call) → new ≡ old ++ x ∷ [] → request_of x.request ≡ Begin → is_refused (answer_of x.answer) ≡ false → standing (map call_of new) ≡ []
none_at_begin old new x e begin accepted =
    pushed old new x e ∙ stands_same (call_of x) (standing (map call_of old)) false accepted ∙ ap (λ r. left_by r (standing (map call_of old))) begin
