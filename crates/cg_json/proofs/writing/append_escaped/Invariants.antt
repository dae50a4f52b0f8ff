use Rattle.std.specs.Prelude.{◌≡◌, ◌++◌, take}
use Rattle.json.specs.Print.{escape}
use Rattle.cg_json.proofs.writing.append_escaped.Given as goal

-- the bytes that were passed
abbrev pub invariant-loop-byte : goal.invariant-loop-byte
invariant-loop-byte l = l.out.items ≡ l.fn.out.items ++ escape (take l.byte-index l.text)
