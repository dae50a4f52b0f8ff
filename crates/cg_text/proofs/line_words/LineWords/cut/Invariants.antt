use Rattle.std.proofs.Common.{◌≡◌, ◌<◌, map, take, length}
use Rattle.cg_text.proofs.PlainWords.{IsCutAt}
use Rattle.cg_text.proofs.line_words.LineWords.cut.Given as goal

abbrev pub invariant-loop-place : goal.invariant-loop-place
invariant-loop-place l = record {
  room : length l.self-inside.few ≡ 8;
  kept : 8 < l.self-inside.len → length l.self-inside.many.items ≡ l.self-inside.len;
  cut : IsCutAt l.line (map (λ w. w.now) (take l.place l.self-inside.few)) l.start l.ends;
}
