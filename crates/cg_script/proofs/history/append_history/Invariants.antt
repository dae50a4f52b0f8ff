use Rattle.std.proofs.Common.{◌≡◌, ◌++◌, map, reverse, take}
use Rattle.std.specs.List.{AllByRecursion, flat_map}
use Rattle.cg_history.specs.Meaning.{record_of}
use Rattle.cg_script.specs.HistoryText.{IsAsked, record_text}
use Rattle.cg_script.proofs.history.append_history.Given as goal

-- the lines of the records so far were appended, and each of these can ask so
abbrev pub invariant-loop-entry : goal.invariant-loop-entry
invariant-loop-entry l =
    (l.out.items ≡ l.fn.out.items ++ flat_map record_text (map record_of (take l.entry-index l.records)))
    × AllByRecursion IsAsked (reverse (map record_of (take l.entry-index l.records)))
