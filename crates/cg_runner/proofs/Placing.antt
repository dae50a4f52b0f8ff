-- Ends that are put at their places.
use Rattle.std.proofs.Common.{◌≡◌, ℕ, zero, suc, ◌+◌, ◌<◌, ◌≤◌, ◌==◌, nat_lt, Bool, true, false, cond, List, [], ◌∷◌, ◌++◌, length, map, replicate, take, get_or, Option, Some, None, refl, sym, ap, ◌∙◌, arith}
use Rattle.std.proofs.lemmas.Bool.{ltb-true, ltb-false}
use Rattle.std.proofs.lemmas.List.{flat_map_more, length-map, length-replicate}
use Rattle.std.proofs.lemmas.List.Elements.{All-replicate, recursion_from_All}
use Rattle.std.proofs.lemmas.List.Sums.{sum_by-append}
use Rattle.std.specs.List.{AllByRecursion, slice_get}
use Rattle.cg_runner.specs.Workers.{filled_by, times_told, told_by, AreEnds, ArePut}
use Rattle.cg_runner.specs.declared.end.ScriptEnd.{ScriptEnd}
use Rattle.cg_runner.specs.declared.worker.Finished.{Finished}
use Rattle.cg_runner.specs.declared.worker.Worker.{Worker}
use Rattle.cg_runner.proofs.Each.{each_append, each_weaker, take_item}

pub put_more : (fs gs : List Finished) (a b c : List (Option ScriptEnd)) → ArePut fs a b → ArePut gs b c → ArePut (fs ++ gs) a c
put_more fs gs a b c h k =
    record {
      length_is = k.length_is ∙ h.length_is;
      once = λ n. once n (h.once n) (k.once n) (sum_by-append (λ f. cond (f.place == n) 1 0) fs gs);
      stay = λ n end e. k.stay n end (h.stay n end e);
      there = each_append (λ f. slice_get c f.place ≡ Some (Some f.end)) fs gs
          (each_weaker (λ f. slice_get b f.place ≡ Some (Some f.end)) (λ f. slice_get c f.place ≡ Some (Some f.end)) fs (λ f e. k.stay f.place f.end e) h.there)
          k.there;
    }
  where
    once : (n : ℕ) → filled_by (slice_get b n) ≡ filled_by (slice_get a n) + times_told n fs → filled_by (slice_get c n) ≡ filled_by (slice_get b n) + times_told n gs
        → times_told n (fs ++ gs) ≡ times_told n fs + times_told n gs → filled_by (slice_get c n) ≡ filled_by (slice_get a n) + times_told n (fs ++ gs)
    once n x y z = omega (arith, x, y, z)

-- no end stands anywhere
none_filled : (places : List (Option ScriptEnd)) (n : ℕ) → AllByRecursion (λ o. o ≡ None) places → filled_by (slice_get places n) ≡ 0
none_filled [] n h = refl
none_filled (o ∷ places) zero h = ap (λ x. filled_by (Some x)) h.0
none_filled (o ∷ places) (suc n) h = none_filled places n h.1

-- an end stands at each place
filled_within : (ends : List ScriptEnd) (n : ℕ) → n < length ends → filled_by (slice_get (map Some ends) n) ≡ 1
filled_within [] n h = absurd (omega (arith, h))
filled_within (e ∷ ends) zero h = refl
filled_within (e ∷ ends) (suc n) h = filled_within ends n (omega (arith, h))

filled_past : (ends : List ScriptEnd) (n : ℕ) → length ends ≤ n → filled_by (slice_get (map Some ends) n) ≡ 0
filled_past [] n h = refl
filled_past (e ∷ ends) zero h = absurd (omega (arith, h))
filled_past (e ∷ ends) (suc n) h = filled_past ends n (omega (arith, h))

all_filled : (ends : List ScriptEnd) (n : ℕ) → filled_by (slice_get (map Some ends) n) ≡ cond (nat_lt n (length ends)) 1 0
all_filled ends n = at (nat_lt n (length ends)) refl
  where
    at : (b : Bool) → nat_lt n (length ends) ≡ b → filled_by (slice_get (map Some ends) n) ≡ cond b 1 0
    at true e = filled_within ends n (ltb-true n (length ends) e)
    at false e = filled_past ends n (ltb-false n (length ends) e)

got_there : (ends : List ScriptEnd) (n : ℕ) (end : ScriptEnd) → slice_get (map Some ends) n ≡ Some (Some end) → slice_get ends n ≡ Some end
got_there [] n end h = absurd (cc (h))
got_there (e ∷ ends) zero end h = cc (h)
got_there (e ∷ ends) (suc n) end h = got_there ends n end h

pub are_ends : (scripts : ℕ) (fs : List Finished) (places : List (Option ScriptEnd)) (ends : List ScriptEnd)
    → ArePut fs (replicate scripts None) places → map Some ends ≡ places → AreEnds scripts fs ends
are_ends scripts fs places ends put is =
    let as_many : length ends ≡ scripts = sym (length-map ends Some) ∙ ap length is ∙ put.length_is ∙ length-replicate scripts None in
    let none : AllByRecursion (λ (o : Option ScriptEnd). o ≡ None) (replicate scripts None) =
    recursion_from_All (λ (o : Option ScriptEnd). o ≡ None) (replicate scripts None) (All-replicate (λ (o : Option ScriptEnd). o ≡ None) scripts None refl) in
    record {
      as_many = as_many;
      once = λ n. once n as_many (none_filled (replicate scripts None) n none) (put.once n);
      there = each_weaker (λ f. slice_get places f.place ≡ Some (Some f.end)) (λ f. slice_get ends f.place ≡ Some f.end) fs
          (λ f e. got_there ends f.place f.end (ap (λ l. slice_get l f.place) is ∙ e)) put.there;
    }
  where
    once : (n : ℕ) → length ends ≡ scripts → filled_by (slice_get (replicate scripts None) n) ≡ 0
        → filled_by (slice_get places n) ≡ filled_by (slice_get (replicate scripts None) n) + times_told n fs
        → times_told n fs ≡ cond (nat_lt n scripts) 1 0
    once n as_many none put =
        let sum : times_told n fs ≡ filled_by (slice_get places n) = omega (arith, none, put) in
        sum ∙ ap (λ l. filled_by (slice_get l n)) (sym is) ∙ all_filled ends n ∙ ap (λ k. cond (nat_lt n k) 1 0) as_many

-- what one worker tells comes behind what those before it told
pub told_behind : (ws : List Worker) (i : ℕ) (w : Worker) → i < length ws → w ≡ get_or ws i w → told_by (take (i + 1) ws) ≡ told_by (take i ws) ++ w.finished.items
told_behind ws i w inside at =
    ap told_by (take_item ws i w inside at) ∙ sym (flat_map_more (λ (v : Worker). v.finished.items) [] (take i ws) w)
