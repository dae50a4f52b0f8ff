-- How scripts end.
use Rattle.std.specs.Prelude.{◌≡◌, ℕ, ◌+◌, ◌≤◌, Bool, true, false, List, ◌++◌, codes, vec_len, ⊤}
use Rattle.std.specs.Fmt.{decimal}
use Rattle.cg_name.specs.Refusal.{refusal_text}
use Rattle.std.specs.Coded.{Unit-prop}
use Rattle.std.proofs.Props.{props}
use Rattle.cg_script.specs.declared.script.Script.{Script}
use Rattle.cg_runner.specs.declared.end.ScriptEnd.{ScriptEnd}
use Rattle.cg_runner.specs.declared.end.ScriptEnd.TheVariants.{Committed, Aborted, Failed, GaveUp}

-- how often the script was begun
abbrev pub tries_of : ScriptEnd → ℕ
tries_of (Committed number tries) = tries
tries_of (Aborted tries) = tries
tries_of (Failed line refusal tries) = tries
tries_of (GaveUp line holder tries) = tries

-- what has so many requests, and aborts behind them or not, can end so: it ends as it says, or is refused at a line, of which
-- the first is its begin and the last its end; or all its tries were in vain, the last at one of its requests
abbrev pub Fits : ℕ → Bool → ScriptEnd → Type 0
Fits requests aborts (Committed number tries) = aborts ≡ false
Fits requests aborts (Aborted tries) = aborts ≡ true
Fits requests aborts (Failed line refusal tries) = line ≤ requests + 1
Fits requests aborts (GaveUp line holder tries) = (1 ≤ line) × (line ≤ requests)

-- of so many tries, one that gave up used all
abbrev pub UsesAll : ℕ → ScriptEnd → Type 0
UsesAll tries (GaveUp line holder used) = used ≡ tries
UsesAll tries _ = ⊤

-- how a script ended, as it is printed
abbrev pub end_words : ScriptEnd → List ℕ
end_words (Committed number tries) = codes "committed " ++ decimal number ++ codes " tries " ++ decimal tries
end_words (Aborted tries) = codes "aborted tries " ++ decimal tries
end_words (Failed line refusal tries) = codes "failed " ++ decimal line ++ codes " " ++ refusal_text refusal ++ codes " tries " ++ decimal tries
end_words (GaveUp line holder tries) = codes "gaveup tries " ++ decimal tries

-- a script that may be begun so often can end so
pub record CanEnd (tries : ℕ) (script : Script) (end : ScriptEnd) : Type 0 where
  pub begun : 1 ≤ tries_of end
  pub bounded : tries_of end ≤ tries
  pub used : UsesAll tries end
  pub fits : Fits (vec_len script.requests) script.aborts end

pub Fits-prop : (requests : ℕ) (aborts : Bool) (end : ScriptEnd) → IsProp (Fits requests aborts end)
Fits-prop requests aborts (Committed number tries) = hlevel props
Fits-prop requests aborts (Aborted tries) = hlevel props
Fits-prop requests aborts (Failed line refusal tries) = hlevel props
Fits-prop requests aborts (GaveUp line holder tries) = hlevel props

pub UsesAll-prop : (tries : ℕ) (end : ScriptEnd) → IsProp (UsesAll tries end)
UsesAll-prop tries (Committed number used) = Unit-prop
UsesAll-prop tries (Aborted used) = Unit-prop
UsesAll-prop tries (Failed line refusal used) = Unit-prop
UsesAll-prop tries (GaveUp line holder used) = hlevel props
