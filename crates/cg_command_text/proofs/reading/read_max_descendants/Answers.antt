use Rattle.std.proofs.Common.{◌∷◌, ap, rules}
use Rattle.std.specs.Prelude.{codes}
use Rattle.cg_command_text.proofs.WordsOfSlices.{two_words}
use Rattle.cg_command_text.proofs.reading.read_max_descendants.Goals as goal

pub returns-in_ok-read-in-len2 : goal.returns-in_ok-read-in-len2
returns-in_ok-read-in-len2 c =
    let words = ap (λ ws. codes "maxdescendants" ∷ ws) (two_words c.args.words.now c.in-len2.len_at_least c.in-len2.len_below) in
    record {
      value = (_, _, words, c.in_ok-read-in-len2.ensures.value, c.in_ok-read_limit-in-len2.ensures.value);
      syntax = search rules;
      refusals = tt;
    }
