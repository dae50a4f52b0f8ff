use Rattle.cg_import.proofs.named.read_steadily.Goals as goal

-- what changed each time is told, so that nothing is said of its being whole
pub returns-clause-world : goal.returns-clause-world
returns-clause-world g c = let w = c.loop-try.invariant in (w.0, w.1, w.2, w.3, w.4, λ none. absurd (c.in_ok-add.ensures none))
